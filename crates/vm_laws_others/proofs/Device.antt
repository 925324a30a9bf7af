-- What an act on a page's translation or device leaves of the page.
use Rattle.std.proofs.Common.{⊎_elim, ◌∙◌, ◌≡◌, ◌⊎◌, arith, Bool, false, inl, inr, List, None, Option, refl, Some, sym, true, true≢false, ℕ}
use Rattle.vm_event.specs.Prelude.{count_more, frame_of, History, LocksInv, MayCall, Page, raised, with_dirty, written}
use Rattle.vm_event.specs.{declared.event.Mapping.Mapping, DeviceActs.failed, FrameActs.cleaned}
use Rattle.vm_event.proofs.Locks.{locked-from_owner}
use Rattle.vm_laws_others.specs.Leaves.{CountsMove, stands_dirty}
use Rattle.vm_laws_others.proofs.{Alone.one-caller, Alone.unshared-beside, Page.counts-same, Page.PageLeaves}

-- an act of the one actor that may call the device: on the translation, the fault word, the block and its count. The frame changes only
-- under an exclusive lock
pub called-leaves : (actors a : ℕ) (r : Page) (h : History) (trans : Option Mapping) (fault count : ℕ)
    (block : List ℕ) → LocksInv actors r.state r.version r.seats → MayCall r a → ((r.seats a).exclusive ≡ true)
    ⊎ ((frame_of trans ≡ frame_of r.trans) × (stands_dirty trans ≡ true → stands_dirty r.trans ≡ true))
    → CountsMove r (record r {
      trans = trans;
      fault = fault;
      count = count;
      block = block;
    }) → PageLeaves actors a r (record r { trans = trans; fault = fault; count = count; block = block }) h h
called-leaves actors a r h trans fault count block i may frame counts =
    record {
      moves = record {
        version = omega arith;
        still = λ _ sl se. (sl, se, ⊎_elim (λ e. absurd (sl (locked-from_owner i a e))) (λ same. same.0) frame);
        cleaner = λ _ sl _. ⊎_elim (λ e. absurd (sl (locked-from_owner i a e))) (λ same. same.1) frame;
        gone = λ _ e. e;
      };
      counts = counts;
      seats = λ b ne. refl;
      untouched = λ b lt ne. record {
        calls = λ call. absurd (ne (one-caller r i a b may call));
        shares = λ has. ⊎_elim (λ e. absurd (unshared-beside i a b e lt has)) (λ same. same.0) frame;
      };
      owned = λ b ne e. refl;
      shared = λ b lt ne s. refl;
      last = λ e. refl;
    }

-- ---- translations

-- the exclusive holder changes the translation
pub mapped-leaves : (actors a : ℕ) (r : Page) (h : History) (trans : Option Mapping)
    → LocksInv actors r.state r.version r.seats → (r.seats a).exclusive ≡ true
    → PageLeaves actors a r (record r { trans = trans }) h h
mapped-leaves actors a r h trans i owns =
    called-leaves actors a r h trans r.fault r.count r.block i (inl owns) (inl owns) (counts-same r _ refl refl)

-- a translation that is made dirty or clean keeps its frame
pub frame-dirty : (dirty : Bool) (trans : Option Mapping) → frame_of (with_dirty dirty trans) ≡ frame_of trans
frame-dirty dirty None = refl
frame-dirty dirty (Some m) = refl

never-dirty : (trans : Option Mapping) → stands_dirty (with_dirty false trans) ≡ false
never-dirty None = refl
never-dirty (Some m) = refl

pub cleaned-leaves : (actors a : ℕ) (r : Page) (h : History) → LocksInv actors r.state r.version r.seats
    → (r.seats a).writing ≡ true → PageLeaves actors a r (cleaned r) h h
cleaned-leaves actors a r h i writes =
    called-leaves actors a r h _ r.fault r.count r.block i (inr writes)
    (inr (frame-dirty _ r.trans, λ d. absurd (true≢false (sym d ∙ never-dirty r.trans))))
    (counts-same r _ refl refl)

-- ---- the device

pub written-leaves : (words : ℕ → List ℕ) (actors a : ℕ) (r : Page) (h : History)
    → LocksInv actors r.state r.version r.seats → MayCall r a → PageLeaves actors a r (written words r) h h
written-leaves words actors a r h i may =
    called-leaves actors a r h r.trans r.fault r.count _ i may (inr (refl, λ d. d)) (counts-same r _ refl refl)

-- one fault more is counted
counts-failed : (r : Page) → CountsMove r (failed r)
unfolding count_more
counts-failed r =
    record { fault = λ le. omega arith; count = λ le. omega arith; within = λ le le'. omega arith; inside = λ le. omega arith }

pub failed-leaves : (actors a : ℕ) (r : Page) (h : History) → LocksInv actors r.state r.version r.seats → MayCall r a
    → PageLeaves actors a r (failed r) h h
failed-leaves actors a r h i may = called-leaves actors a r h r.trans r.fault _ r.block i may (inr (refl, λ d. d)) (counts-failed r)

counts-raised : (r : Page) → CountsMove r (raised r)
counts-raised r =
    record { fault = λ le. le; count = λ le. omega arith; within = λ le le'. omega arith; inside = λ le. le }

pub raised-leaves : (actors a : ℕ) (r : Page) (h : History) → LocksInv actors r.state r.version r.seats → MayCall r a
    → PageLeaves actors a r (raised r) h h
raised-leaves actors a r h i may = called-leaves actors a r h r.trans r.count r.count r.block i may (inr (refl, λ d. d)) (counts-raised r)
