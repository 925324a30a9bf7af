-- An exclusive lock, new or from a write-back, keeps what holds of a page.
use Rattle.std.proofs.Common.{[], ◌<◌, ◌∙◌, ◌≡◌, ◌≢◌, arith, Bool, List, refl, true, ℕ}
use Rattle.vm_event.specs.Prelude.{drafted, finds, History, LOCKED, locked, MayLock, MayUpgrade, Page, PageInv}
use Rattle.vm_event.specs.Prelude.{state_of, upd, upgraded, version_of}
use Rattle.vm_event.proofs.Locks.{locks-lock, locks-upgrade}
use Rattle.vm_event.proofs.PageFacts.{found, no-read, reads-seat}
use Rattle.vm_event.proofs.PageMoves.{contents-lock, read-lock, sizes-lock, stands-lock}

pub locked-keeps : {actors : ℕ} → {size : ℕ} → {tells : Bool} → {words : ℕ → List ℕ} → {r : Page} → {h : History}
    → {l : ℕ → List (ℕ × ℕ)} → (a expects : ℕ) → a < actors → PageInv actors size tells words r h l → MayLock expects
    → finds r expects ≡ true → PageInv actors size tells words (locked r a) (drafted h) (upd l a [])
locked-keeps {actors} {size} {tells} {words} {r} {h} {l} a expects lt i m e =
    let f : (r.state ≡ state_of expects) × (r.version ≡ version_of expects) = found r expects e in
    let free : r.state ≢ LOCKED = grind (arith, m.state, f) in
    record {
      locks = locks-lock actors r.state r.version r.seats a lt (rw f.0 m.state) (rw f.1 m.version) i.locks;
      stands = stands-lock i.stands;
      sizes = sizes-lock i.sizes;
      contents = λ t. contents-lock free i.stands (i.contents t);
      faults = λ ne. absurd (ne refl);
      reads = reads-seat words LOCKED r.version r.trans r.seats l a _ [] (no-read words LOCKED r.version r.trans [])
          (λ b. read-lock (i.reads b));
    }

pub upgraded-keeps : {actors : ℕ} → {size : ℕ} → {tells : Bool} → {words : ℕ → List ℕ} → {r : Page} → {h : History}
    → {l : ℕ → List (ℕ × ℕ)} → (a expects : ℕ) → a < actors → PageInv actors size tells words r h l
    → MayUpgrade r a expects → finds r expects ≡ true → PageInv actors size tells words (upgraded r a) (drafted h)
    (upd l a [])
upgraded-keeps {actors} {size} {tells} {words} {r} {h} {l} a expects lt i m e =
    let f : (r.state ≡ state_of expects) × (r.version ≡ version_of expects) = found r expects e in
    let one : r.state ≡ 1 = f.0 ∙ m.state in
    let free : r.state ≢ LOCKED = omega arith in
    record {
      locks = locks-upgrade actors r.state r.version r.seats a lt one m.writes m.one (rw f.1 m.version) i.locks;
      stands = stands-lock i.stands;
      sizes = sizes-lock i.sizes;
      contents = λ t. contents-lock free i.stands (i.contents t);
      faults = λ ne. absurd (ne refl);
      reads = reads-seat words LOCKED r.version r.trans r.seats l a _ [] (no-read words LOCKED r.version r.trans [])
          (λ b. read-lock (i.reads b));
    }
