-- Who may have a page locked beside whom: nobody beside its exclusive holder, and one actor alone may call its device.
use Rattle.std.proofs.Common.{⊎_elim, ◌<◌, ◌||◌, ◌∙◌, ◌≡◌, ◌≤◌, ◌⊎◌, arith, Bool, false, inl, inr, refl, sym, true, ℕ}
use Rattle.std.proofs.lemmas.Bool.Decides.{nat_tests}
use Rattle.vm_event.specs.Prelude.{LOCKED, LocksInv, MayCall, OneHolder, Page, share_count, sum_below}
use Rattle.vm_event.specs.declared.event.Seat.{Seat}
use Rattle.vm_event.proofs.Locks.{locked-from_owner, sum_below-at}

-- two exclusive holders are one
pub one-holder : {actors state version : ℕ} → {seats : ℕ → Seat} → LocksInv actors state version seats → (a b : ℕ)
    → (seats a).exclusive ≡ true → (seats b).exclusive ≡ true → b ≡ a
one-holder {actors} {state} {version} {seats} i a b ea eb =
    let one : OneHolder actors seats = i.held (locked-from_owner i a ea) in
    one.only b eb ∙ sym (one.only a ea)

no-shares : (state n : ℕ) → state ≡ LOCKED → n ≡ share_count state → n ≡ 0
no-shares state n e s = grind (arith, e, s, nat_tests)

-- no actor has a share beside an exclusive holder
pub unshared-beside : {actors state version : ℕ} → {seats : ℕ → Seat} → LocksInv actors state version seats
    → (a b : ℕ) → (seats a).exclusive ≡ true → b < actors → 1 ≤ (seats b).shares → ⊥
unshared-beside {actors} {state} {version} {seats} i a b ea lt has =
    let none : sum_below actors (λ c. (seats c).shares) ≡ 0 =
    no-shares state (sum_below actors (λ c. (seats c).shares)) (locked-from_owner i a ea) i.shares in
    let mine : (seats b).shares ≤ sum_below actors (λ c. (seats c).shares) = sum_below-at actors (λ c. (seats c).shares) b lt in
    omega arith

-- nobody writes the page back beside an exclusive holder
pub unwritten-beside : {actors state version : ℕ} → {seats : ℕ → Seat} → LocksInv actors state version seats
    → (a b : ℕ) → (seats a).exclusive ≡ true → (seats b).writing ≡ true → ⊥
unwritten-beside {actors} {state} {version} {seats} i a b ea wb =
    let share : (1 ≤ (seats b).shares) × (b < actors) = i.writer b wb in
    unshared-beside i a b ea share.1 share.0

either : (x y : Bool) → (x || y) ≡ true → (x ≡ true) ⊎ (y ≡ true)
either true y e = inl refl
either false y e = inr e

-- two actors that may call the page's device are one
pub one-caller : {actors : ℕ} → (r : Page) → LocksInv actors r.state r.version r.seats → (a b : ℕ) → MayCall r a
    → ((r.seats b).exclusive || (r.seats b).writing) ≡ true → b ≡ a
one-caller {actors} r i a b may call =
    ⊎_elim
    (λ ea. ⊎_elim (λ eb. one-holder i a b ea eb) (λ wb. absurd (unwritten-beside i a b ea wb)) (either _ _ call))
    (λ wa. ⊎_elim (λ eb. absurd (unwritten-beside i b a eb wa)) (λ wb. i.one_writer b a wb wa) (either _ _ call))
    may
