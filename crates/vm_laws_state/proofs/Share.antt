-- A shared lock, plain or for write-back, keeps what holds of a page.
use Rattle.std.proofs.Common.{[], ◌<◌, ◌∙◌, ◌≡◌, ◌≢◌, ap, arith, Bool, List, refl, sym, true, ℕ}
use Rattle.std.proofs.lemmas.Bool.{true≢false}
use Rattle.std.proofs.lemmas.Bool.Decides.{nat_tests}
use Rattle.vm_event.specs.Prelude.{EVICTED, finds, History, LOCKED, MARKED, MayShare, Page, PageInv, shared, state_of}
use Rattle.vm_event.specs.Prelude.{upd, version_of, write_locked}
use Rattle.vm_event.proofs.{Locks.locks-share, Locks.locks-write_lock, Upd.upd-same}
use Rattle.vm_event.proofs.PageFacts.{faults-seat, found, no-read, reads-seat}
use Rattle.vm_event.proofs.PageMoves.{contents-open, read-open, sizes-open, stands-open}

pub shared-keeps : {actors : ℕ} → {size : ℕ} → {tells : Bool} → {words : ℕ → List ℕ} → {r : Page} → {h : History}
    → {l : ℕ → List (ℕ × ℕ)} → (a expects : ℕ) → a < actors → PageInv actors size tells words r h l → MayShare expects
    → finds r expects ≡ true → PageInv actors size tells words (shared r a) h (upd l a [])
shared-keeps {actors} {size} {tells} {words} {r} {h} {l} a expects lt i m e =
    let f : (r.state ≡ state_of expects) × (r.version ≡ version_of expects) = found r expects e in
    let sl : r.state ≢ LOCKED = grind (arith, m, f) in
    let se : r.state ≢ EVICTED = grind (arith, m, f) in
    let after : (shared r a).state < LOCKED = grind (arith, m, f, nat_tests) in
    let tl : (shared r a).state ≢ LOCKED = omega arith in
    let te : (shared r a).state ≢ EVICTED = omega arith in
    record {
      locks = locks-share actors r.state r.version r.seats a lt (rw f.0 m) i.locks;
      stands = stands-open sl se te i.stands;
      sizes = sizes-open tl i.sizes;
      contents = λ t. contents-open sl tl te (i.contents t);
      faults = faults-seat (shared r a).state r.fault r.count r.seats a _ refl (λ _. i.faults sl);
      reads = reads-seat words (shared r a).state r.version r.trans r.seats l a _ [] (no-read words (shared r a).state r.version r.trans [])
          (λ b. read-open sl se te (i.reads b));
    }

pub write_locked-keeps : {actors : ℕ} → {size : ℕ} → {tells : Bool} → {words : ℕ → List ℕ} → {r : Page}
    → {h : History} → {l : ℕ → List (ℕ × ℕ)} → (a expects : ℕ) → a < actors → PageInv actors size tells words r h l
    → state_of expects ≡ MARKED → finds r expects ≡ true → PageInv actors size tells words (write_locked r a) h
    (upd l a [])
write_locked-keeps {actors} {size} {tells} {words} {r} {h} {l} a expects lt i m e =
    let u : r.state ≡ MARKED = (found r expects e).0 ∙ m in
    let sl : r.state ≢ LOCKED = omega arith in
    let se : r.state ≢ EVICTED = omega arith in
    record {
      locks = locks-write_lock actors r.state r.version r.seats a lt u i.locks;
      stands = stands-open sl se (omega arith) i.stands;
      sizes = sizes-open (omega arith) i.sizes;
      contents = λ t. contents-open sl (omega arith) (omega arith) (i.contents t);
      faults = λ _ q. absurd (true≢false (sym (ap (λ s. s.writing) (upd-same r.seats a _)) ∙ q a));
      reads = reads-seat words 1 r.version r.trans r.seats l a _ [] (no-read words 1 r.version r.trans [])
          (λ b. read-open sl se (omega arith) (i.reads b));
    }
