-- A translation that is made dirty or clean keeps what holds of the page.
use Rattle.std.proofs.Common.{◌<◌, ◌∙◌, ◌≡◌, ◌≢◌, ◌≤◌, ap, arith, Bool, false, IsSome, List, None, Option, refl, Some, subst, sym, true, ℕ}
use Rattle.std.proofs.lemmas.Bool.{true≢false}
use Rattle.vm_event.specs.Prelude.{EVICTED, History, LoadsAre, LOCKED, LocksInv, MayClean, MayDirty, Page, PageInv}
use Rattle.vm_event.specs.Prelude.{ReadInv, ReadsPage, stands_in, sum_below, with_dirty}
use Rattle.vm_event.specs.{declared.event.Mapping.Mapping, declared.event.Open.Open, declared.event.Seat.Seat}
use Rattle.vm_event.specs.{FrameActs.cleaned, FrameActs.dirtied}
use Rattle.vm_event.proofs.Locks.{locked-from_owner, shared-state, sum_below-at}
use Rattle.vm_event.proofs.PageFacts.{none-some, some-is, some-same}

-- the frame of the translation stays
pub dirty-stands : (dirty : Bool) (trans : Option Mapping) (f : ℕ) → stands_in (with_dirty dirty trans) f ≡ stands_in trans f
dirty-stands dirty None f = refl
dirty-stands dirty (Some m) f = refl

-- a translation that was made dirty or clean came from one with its frame
from-dirty : (dirty : Bool) (trans : Option Mapping) (m : Mapping) → with_dirty dirty trans ≡ Some m
    → (m.dirty ≡ dirty) × ((n : Mapping) × (trans ≡ Some n) × (n.frame ≡ m.frame))
from-dirty dirty None m e = absurd (none-some m e)
from-dirty dirty (Some n) m e =
    let s : record n { dirty = dirty } ≡ m = some-same _ m e in
    (sym (ap (λ (y : Mapping). y.dirty) s), (n, refl, ap (λ (y : Mapping). y.frame) s))

some-dirty : (dirty : Bool) (trans : Option Mapping) → IsSome trans → IsSome (with_dirty dirty trans)
some-dirty dirty None e = e
some-dirty dirty (Some m) e = refl

pub dirtied-keeps : {actors : ℕ} → {size : ℕ} → {tells : Bool} → {words : ℕ → List ℕ} → {r : Page} → {h : History}
    → {l : ℕ → List (ℕ × ℕ)} → (a : ℕ) → PageInv actors size tells words r h l → MayDirty r a
    → PageInv actors size tells words (dirtied r) h l
dirtied-keeps {actors} {size} {tells} {words} {r} {h} {l} a i m =
    let locked : r.state ≡ LOCKED = locked-from_owner i.locks a m.owns in
    let some : (n : Mapping) × (r.trans ≡ Some n) = some-is r.trans m.resident in
    record {
      locks = i.locks;
      stands = record { last = i.stands.last; resident = λ ne. absurd (ne locked); evicted = λ q. absurd (omega arith) };
      sizes = i.sizes;
      contents = λ t. record {
        clean = λ m' e d. absurd (true≢false (sym (from-dirty true r.trans m' e).0 ∙ d));
        logical = λ ne. absurd (ne locked);
        draft = λ _ m' e. let n : (n : Mapping) × (r.trans ≡ Some n) × (n.frame ≡ m'.frame) = (from-dirty true r.trans m' e).1 in
            subst (λ f. words f ≡ h.draft) n.2 ((i.contents t).draft locked n.0 n.1);
        unwritten = λ _ clean. absurd (true≢false (clean (record some.0 { dirty = true }) (ap (with_dirty true) some.1)));
        device = λ q. absurd (omega arith);
        size = (i.contents t).size;
      };
      faults = i.faults;
      reads = λ b. record { old = (i.reads b).old; evicted = λ q. absurd (omega arith); current = λ ne. absurd (ne locked) };
    }

-- a page under write-back is shared
writer-shared : {actors state version : ℕ} → {seats : ℕ → Seat} → LocksInv actors state version seats → (a : ℕ)
    → (seats a).writing ≡ true → (1 ≤ state) × (state < LOCKED)
writer-shared {actors} {state} {version} {seats} i a w =
    let mine : (1 ≤ (seats a).shares) × (a < actors) = i.writer a w in
    let sum : (seats a).shares ≤ sum_below actors (λ b. (seats b).shares) = sum_below-at actors (λ b. (seats b).shares) a mine.1 in
    shared-state state (sum_below actors (λ b. (seats b).shares)) (omega (arith, mine.0)) i.shares

-- an open read of a page whose frame stays
reads-dirty : (words : ℕ → List ℕ) (state version : ℕ) (dirty : Bool) (trans : Option Mapping) (o : Option Open)
    (l : List (ℕ × ℕ)) → ReadInv words state version trans o l → ReadInv words state version (with_dirty dirty trans)
    o l
reads-dirty words state version dirty None o l i = i
reads-dirty words state version dirty (Some m) o l i =
    record {
      old = i.old;
      evicted = i.evicted;
      current = λ ne ne' o' e v. let rp : ReadsPage words (Some m) o' l = i.current ne ne' o' e v in
          record {
            at_frame = λ f e' m' q. rp.at_frame f e' m refl ∙ ap (λ (y : Mapping). y.frame) (some-same _ m' q);
            loaded = λ m' q. subst (λ (y : Mapping). LoadsAre (words y.frame) l) (some-same _ m' q) (rp.loaded m refl);
          };
    }

pub cleaned-keeps : {actors : ℕ} → {size : ℕ} → {tells : Bool} → {words : ℕ → List ℕ} → {r : Page} → {h : History}
    → {l : ℕ → List (ℕ × ℕ)} → (a : ℕ) → PageInv actors size tells words r h l → MayClean tells words r a
    → PageInv actors size tells words (cleaned r) h l
cleaned-keeps {actors} {size} {tells} {words} {r} {h} {l} a i m =
    let shared : (1 ≤ r.state) × (r.state < LOCKED) = writer-shared i.locks a m.writes in
    let sl : r.state ≢ LOCKED = omega arith in
    let se : r.state ≢ EVICTED = omega arith in
    record {
      locks = i.locks;
      stands = record { last = i.stands.last; resident = λ _ _. some-dirty false r.trans m.resident; evicted = λ q. absurd (se q) };
      sizes = i.sizes;
      contents = λ t. record {
        clean = λ m' e _. let n : (n : Mapping) × (r.trans ≡ Some n) × (n.frame ≡ m'.frame) = (from-dirty false r.trans m' e).1 in
            subst (λ f. words f ≡ r.block) n.2 (sym (m.stored t n.0 n.1));
        logical = λ _ m' e. let n : (n : Mapping) × (r.trans ≡ Some n) × (n.frame ≡ m'.frame) = (from-dirty false r.trans m' e).1 in
            subst (λ f. words f ≡ h.last.words) n.2 ((i.contents t).logical sl n.0 n.1);
        draft = λ q. absurd (sl q);
        unwritten = λ q. absurd (sl q);
        device = λ q. absurd (se q);
        size = (i.contents t).size;
      };
      faults = i.faults;
      reads = λ b. reads-dirty words r.state r.version false r.trans (r.seats b).reading (l b) (i.reads b);
    }
