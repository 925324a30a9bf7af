-- A share given up, a mark set or taken away keep what holds of a page.
use Rattle.std.proofs.Common.{⊎_elim, ◌-◌, ◌<◌, ◌∙◌, ◌≡◌, ◌≢◌, ◌≤◌, ◌⊎◌, ap, arith, Bool, false, inl, inr, List, refl, sym, true, ℕ}
use Rattle.std.proofs.lemmas.Bool.{cases_Bool, cases_eq, cond-false, ne_eqb, true≢false}
use Rattle.vm_event.specs.Prelude.{EVICTED, finds, History, LOCKED, MARKED, marked, MayUnlock, Page, PageInv, state_of}
use Rattle.vm_event.specs.Prelude.{sum_below, UNLOCKED, unlocked, unmarked, unshared}
use Rattle.vm_event.specs.declared.event.Seat.{Seat}
use Rattle.vm_event.proofs.{PageFacts.found, PageFacts.reads-keep, Upd.upd-other, Upd.upd-same}
use Rattle.vm_event.proofs.Locks.{locks-mark, locks-unlock, shared-state, sum_below-at}
use Rattle.vm_event.proofs.PageMoves.{contents-open, read-open, sizes-open, stands-open}

-- a write-back that ended did so with the last share
last-share : (s : Seat) → s.writing ≡ true → (unshared s).writing ≡ false → s.shares ≡ 1
last-share s w e =
    ⊎_elim (λ q. q)
    (λ ne. absurd (true≢false (sym w ∙ sym (cond-false _ false s.writing (ne_eqb s.shares 1 ne)) ∙ e)))
    (cases_eq s.shares 1)

pub unlocked-keeps : {actors : ℕ} → {size : ℕ} → {tells : Bool} → {words : ℕ → List ℕ} → {r : Page} → {h : History}
    → {l : ℕ → List (ℕ × ℕ)} → (a : ℕ) → a < actors → PageInv actors size tells words r h l → MayUnlock r a
    → PageInv actors size tells words (unlocked r a) h l
unlocked-keeps {actors} {size} {tells} {words} {r} {h} {l} a lt i m =
    let sum : (r.seats a).shares ≤ sum_below actors (λ b. (r.seats b).shares) = sum_below-at actors (λ b. (r.seats b).shares) a lt in
    let s : (1 ≤ r.state) × (r.state < LOCKED) = shared-state r.state (sum_below actors (λ b. (r.seats b).shares))
    (omega (arith, m.has)) i.locks.shares in
    let sl : r.state ≢ LOCKED = omega arith in
    let se : r.state ≢ EVICTED = omega arith in
    let tl : r.state - 1 ≢ LOCKED = omega arith in
    let te : r.state - 1 ≢ EVICTED = omega arith in
    record {
      locks = locks-unlock actors r.state r.version r.seats a lt m.has i.locks;
      stands = stands-open sl se te i.stands;
      sizes = sizes-open tl i.sizes;
      contents = λ t. contents-open sl tl te (i.contents t);
      faults = λ _ q. ⊎_elim
          (λ w. m.told w (last-share (r.seats a) w (sym (ap (λ s. s.writing) (upd-same r.seats a (unshared (r.seats a)))) ∙ q a)))
          (λ f. i.faults sl (λ b. ⊎_elim (λ e. ap (λ c. (r.seats c).writing) e ∙ f)
          (λ ne. sym (ap (λ s. s.writing) (upd-other r.seats a (unshared (r.seats a)) b ne)) ∙ q b) (cases_eq b a)))
          (cases_Bool (r.seats a).writing);
      reads = reads-keep words (r.state - 1) r.version r.trans r.seats l a (unshared (r.seats a)) refl
          (λ b. read-open sl se te (i.reads b));
    }

-- a page without shares whose mark is set or taken away
remarked-keeps : {actors : ℕ} → {size : ℕ} → {tells : Bool} → {words : ℕ → List ℕ} → {r : Page} → {h : History}
    → {l : ℕ → List (ℕ × ℕ)} → (next : ℕ) → PageInv actors size tells words r h l → (r.state ≡ UNLOCKED)
    ⊎ (r.state ≡ MARKED) → (next ≡ UNLOCKED) ⊎ (next ≡ MARKED)
    → PageInv actors size tells words (record r { state = next }) h l
remarked-keeps {actors} {size} {tells} {words} {r} {h} {l} next i u n =
    let sl : r.state ≢ LOCKED = grind (arith, u) in
    let se : r.state ≢ EVICTED = grind (arith, u) in
    let tl : next ≢ LOCKED = grind (arith, n) in
    let te : next ≢ EVICTED = grind (arith, n) in
    record {
      locks = locks-mark actors r.state next r.version r.seats u n i.locks;
      stands = stands-open sl se te i.stands;
      sizes = sizes-open tl i.sizes;
      contents = λ t. contents-open sl tl te (i.contents t);
      faults = λ _. i.faults sl;
      reads = λ b. read-open sl se te (i.reads b);
    }

pub marked-keeps : {actors : ℕ} → {size : ℕ} → {tells : Bool} → {words : ℕ → List ℕ} → {r : Page} → {h : History}
    → {l : ℕ → List (ℕ × ℕ)} → (expects : ℕ) → PageInv actors size tells words r h l → state_of expects ≡ UNLOCKED
    → finds r expects ≡ true → PageInv actors size tells words (marked r) h l
marked-keeps {actors} {size} {tells} {words} {r} {h} {l} expects i m e =
    remarked-keeps MARKED i (inl ((found r expects e).0 ∙ m)) (inr refl)

pub unmarked-keeps : {actors : ℕ} → {size : ℕ} → {tells : Bool} → {words : ℕ → List ℕ} → {r : Page} → {h : History}
    → {l : ℕ → List (ℕ × ℕ)} → (expects : ℕ) → PageInv actors size tells words r h l → state_of expects ≡ MARKED
    → finds r expects ≡ true → PageInv actors size tells words (unmarked r) h l
unmarked-keeps {actors} {size} {tells} {words} {r} {h} {l} expects i m e =
    remarked-keeps UNLOCKED i (inr ((found r expects e).0 ∙ m)) (inl refl)
