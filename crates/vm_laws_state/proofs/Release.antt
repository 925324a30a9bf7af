-- A page given up by its exclusive holder, in its three forms, keeps what holds of it.
use Rattle.std.proofs.Common.{◌+◌, ◌<◌, ◌∙◌, ◌≡◌, ap, arith, Bool, List, refl, sym, ℕ}
use Rattle.vm_event.specs.Prelude.{appended, EVICTED, History, LOCKED, MayEmpty, MayReleaseLock, Page, PageInv, UNLOCKED, WordsInv}
use Rattle.vm_event.specs.StateActs.{downgraded, emptied, released}
use Rattle.vm_event.proofs.Locks.{locked-from_owner, locks-downgrade, locks-empty, locks-release}
use Rattle.vm_event.proofs.PageFacts.{none-some, reads-keep}
use Rattle.vm_event.proofs.PageMoves.{contents-release, read-release, sizes-release, stands-release}

pub released-keeps : {actors : ℕ} → {size : ℕ} → {tells : Bool} → {words : ℕ → List ℕ} → {r : Page} → {h : History}
    → {l : ℕ → List (ℕ × ℕ)} → (a : ℕ) → PageInv actors size tells words r h l → MayReleaseLock r a
    → PageInv actors size tells words (released r a) (appended h) l
released-keeps {actors} {size} {tells} {words} {r} {h} {l} a i m =
    let locked : r.state ≡ LOCKED = locked-from_owner i.locks a m.owns in
    record {
      locks = locks-release actors r.state r.version r.seats a m.owns i.locks;
      stands = stands-release m.resident (omega arith) i.stands;
      sizes = sizes-release locked (omega arith) i.sizes;
      contents = λ t. contents-release locked (omega arith) (omega arith) (i.contents t);
      faults = λ _ _. m.told;
      reads = reads-keep words UNLOCKED (r.version + 1) r.trans r.seats l a _ refl (λ b. read-release UNLOCKED (i.reads b));
    }

pub downgraded-keeps : {actors : ℕ} → {size : ℕ} → {tells : Bool} → {words : ℕ → List ℕ} → {r : Page} → {h : History}
    → {l : ℕ → List (ℕ × ℕ)} → (a : ℕ) → a < actors → PageInv actors size tells words r h l → MayReleaseLock r a
    → PageInv actors size tells words (downgraded r a) (appended h) l
downgraded-keeps {actors} {size} {tells} {words} {r} {h} {l} a lt i m =
    let locked : r.state ≡ LOCKED = locked-from_owner i.locks a m.owns in
    record {
      locks = locks-downgrade actors r.state r.version r.seats a lt m.owns i.locks;
      stands = stands-release m.resident (omega arith) i.stands;
      sizes = sizes-release locked (omega arith) i.sizes;
      contents = λ t. contents-release locked (omega arith) (omega arith) (i.contents t);
      faults = λ _ _. m.told;
      reads = reads-keep words 1 (r.version + 1) r.trans r.seats l a _ refl (λ b. read-release 1 (i.reads b));
    }

pub emptied-keeps : {actors : ℕ} → {size : ℕ} → {tells : Bool} → {words : ℕ → List ℕ} → {r : Page} → {h : History}
    → {l : ℕ → List (ℕ × ℕ)} → (a : ℕ) → PageInv actors size tells words r h l → MayEmpty r a
    → PageInv actors size tells words (emptied r a) (appended h) l
emptied-keeps {actors} {size} {tells} {words} {r} {h} {l} a i m =
    let locked : r.state ≡ LOCKED = locked-from_owner i.locks a m.owns in
    record {
      locks = locks-empty actors r.state r.version r.seats a m.owns i.locks;
      stands = record { last = ap (λ v. v + 1) i.stands.last; resident = λ _ ne. absurd (ne refl); evicted = λ _. m.empty };
      sizes = sizes-release locked (omega arith) i.sizes;
      contents = λ t. let c : WordsInv size words r.state r.trans r.block h = i.contents t in
          let same : (h.draft ≡ h.last.words) × (r.block ≡ h.last.words) =
          c.unwritten locked (λ m' e. absurd (none-some m' (sym m.empty ∙ e))) in
          record {
            clean = c.clean;
            logical = λ _. c.draft locked;
            draft = λ q. absurd (omega arith);
            unwritten = λ q. absurd (omega arith);
            device = λ _. same.1 ∙ sym same.0;
            size = c.size;
          };
      faults = λ _ _. m.told;
      reads = reads-keep words EVICTED (r.version + 1) r.trans r.seats l a _ refl (λ b. read-release EVICTED (i.reads b));
    }
