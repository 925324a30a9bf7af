-- What the rule says of who holds a page, of the blocks, and of the members still to be released.
use mathlib.Core.Option as maybe
use Rattle.vm_rule.proofs.{Found.seat-here, Parts.upd-is, Views.at-bound}
use Rattle.vm_rule.proofs.{Views.block-same, Views.out-same, Views.set-each}
use Rattle.vm_rule.proofs.Prelude.{[], any, ap, arith, at, BlocksFit, Bool, cases_Bool, cases_eq, core_shown, false}
use Rattle.vm_rule.proofs.Prelude.{false≢true, get_elem?, has, has-without_other, has-without_same, if◌then◌else◌}
use Rattle.vm_rule.proofs.Prelude.{is_pending, Kept, length, List, LOCKED, locked-from_owner, LocksInv, may_call}
use Rattle.vm_rule.proofs.Prelude.{OneHolder, Option, Origin, Out, owns, Page, refl, Ruled, Seat, seat_of}
use Rattle.vm_rule.proofs.Prelude.{shared-state, slice_set, slot_of, Some, some, Start, Stored, suc, sum_below}
use Rattle.vm_rule.proofs.Prelude.{sum_below-at, sym, Table, true, true≢false, upd, View, without, zero, ℕ, ⊎_elim}
use Rattle.vm_rule.proofs.Prelude.{◌<◌, ◌||◌, ◌∙◌, ◌∷◌, ◌≡◌, ◌≢◌, ◌≤◌}
pub use Rattle.vm_owner.proofs.NumberLemmas.{has-both}

-- ---- lists of numbers

-- the list without one number, as a function
pub has-left : (f n : ℕ) (l : List ℕ) → has n (without f l) ≡ upd (λ k. has k l) f false n
has-left f n l = ap (λ g. g n) (upd-is (λ k. has k l) (λ k. has k (without f l)) f false (has-without_same f l)
    (λ k ne. has-without_other f k l ne))

pub either-way : (a b : Bool) → (a || b) ≡ (if a then true else b)
either-way true b = refl
either-way false b = refl

-- ---- views

module _ {X : Type 0} where
  -- some view says so
  pub any-true : (f : View X → Bool) (views : List (View X)) → any f views ≡ true → (j : ℕ) × (u : View X)
      × (get_elem? views j ≡ some u) × (f u ≡ true)
  any-true f [] e = absurd (false≢true e)
  any-true f (x ∷ xs) e =
      ⊎_elim (λ t. (0, x, refl, t)) (λ n. let k = any-true f xs (ap (λ b. b || any f xs) (sym n) ∙ e) in
      (suc k.0, k.1, k.2, k.3)) (cases_Bool (f x))

  -- and where one does, any does
  pub any-here : (f : View X → Bool) (views : List (View X)) (j : ℕ) (u : View X) → get_elem? views j ≡ some u
      → f u ≡ true → any f views ≡ true
  any-here f [] j u e t = absurd (maybe.some-ne-none u (sym e))
  any-here f (x ∷ xs) zero u e t = rw (ap f (maybe.some-injective x u e) ∙ t) refl
  any-here f (x ∷ xs) (suc j) u e t = ⊎_elim (λ y. rw y refl) (λ n. rw n (any-here f xs j u e t)) (cases_Bool (f x))

-- ---- the seats of a page

-- where one actor holds a page exclusively, the others have nothing of it
pub alone : (actors state version : ℕ) (seats : ℕ → Seat) (a b : ℕ) → LocksInv actors state version seats
    → (seats a).exclusive ≡ true → b < actors → b ≢ a → (may_call (seats b) ≡ false) × ((seats b).shares ≡ 0)
alone actors state version seats a b i owns l ne =
    let locked : state ≡ LOCKED = locked-from_owner i a owns in
    let one : OneHolder actors seats = i.held locked in
    let none : sum_below actors (λ k. (seats k).shares) ≡ 0 = i.shares ∙ rw locked refl in
    let within : (seats b).shares ≤ sum_below actors (λ k. (seats k).shares) = sum_below-at actors (λ k. (seats k).shares) b l in
    let shares : (seats b).shares ≡ 0 = omega (arith, none, within) in
    let exclusive : (seats b).exclusive ≡ false = ⊎_elim (λ t. absurd (ne (one.only b t ∙ sym (one.only a owns))))
    (λ f. f) (cases_Bool (seats b).exclusive) in
    let writing : (seats b).writing ≡ false =
    ⊎_elim (λ t. absurd (let some' : 1 ≤ (seats b).shares = (i.writer b t).0 in omega arith)) (λ f. f)
    (cases_Bool (seats b).writing) in
    (rw (exclusive, writing) refl, shares)

-- one actor may call the device of a page
pub one-caller : (actors state version : ℕ) (seats : ℕ → Seat) (a b : ℕ) → LocksInv actors state version seats
    → a < actors → b < actors → may_call (seats a) ≡ true → may_call (seats b) ≡ true → b ≡ a
one-caller actors state version seats a b i la lb ma mb =
    ⊎_elim (λ e. e) (λ ne. absurd (⊎_elim
    (λ x. true≢false (sym mb ∙ (alone actors state version seats a b i x lb ne).0))
    (λ na. ⊎_elim
    (λ x. true≢false (sym ma ∙ (alone actors state version seats b a i x la (λ e. ne (sym e))).0))
    (λ nb. ne (i.one_writer b a (sym (ap (λ y. y || (seats b).writing) nb) ∙ mb) (sym (ap (λ y. y || (seats a).writing) na) ∙ ma)))
    (cases_Bool (seats b).exclusive))
    (cases_Bool (seats a).exclusive)))
    (cases_eq b a)

module _ {X B : Type 0} (stored : B → Stored) (start : Origin) where
  -- what the invariant says of the locks of page p
  abbrev pub LocksHere : Table (Option B) (View X) → ℕ → Type 0
  LocksHere s p = LocksInv (length s.views) ((core_shown stored start s).pages p).state
      ((core_shown stored start s).pages p).version ((core_shown stored start s).pages p).seats

  -- a page that a pass holds exclusively is locked
  pub locked-here : (s : Table (Option B) (View X)) (id p : ℕ) (v : View X) → LocksHere s p → p < start.pages
      → get_elem? s.views id ≡ some v → (seat_of v p).exclusive ≡ true
      → ((core_shown stored start s).pages p).state ≡ LOCKED
  locked-here s id p v i l there owns = locked-from_owner i id (ap (λ y. y.exclusive) (seat-here stored start s id p v l there) ∙ owns)

  -- a page of which a pass has a share has one, and is not locked
  pub shared-here : (s : Table (Option B) (View X)) (id p : ℕ) (v : View X) → LocksHere s p → p < start.pages
      → get_elem? s.views id ≡ some v → 1 ≤ (seat_of v p).shares
      → (1 ≤ ((core_shown stored start s).pages p).state) × (((core_shown stored start s).pages p).state < LOCKED)
  shared-here s id p v i l there some' =
      let c : Page = (core_shown stored start s).pages p in
      let same : (c.seats id).shares ≡ (seat_of v p).shares = ap (λ y. y.shares) (seat-here stored start s id p v l there) in
      let below : (c.seats id).shares ≤ sum_below (length s.views) (λ a. (c.seats a).shares) =
      sum_below-at (length s.views) (λ a. (c.seats a).shares) id (at-bound s.views id v there) in
      shared-state c.state (sum_below (length s.views) (λ a. (c.seats a).shares)) (omega (arith, some', same, below)) i.shares

  -- a view that may call the device is the one
  pub caller-here : (s : Table (Option B) (View X)) (id j p : ℕ) (v u : View X) → LocksHere s p → p < start.pages
      → get_elem? s.views id ≡ some v → may_call (seat_of v p) ≡ true → get_elem? s.views j ≡ some u
      → may_call (seat_of u p) ≡ true → j ≡ id
  caller-here s id j p v u i l there mine at theirs =
      one-caller (length s.views) _ _ ((core_shown stored start s).pages p).seats id j i (at-bound s.views id v there)
      (at-bound s.views j u at) (ap may_call (seat-here stored start s id p v l there) ∙ mine)
      (ap may_call (seat-here stored start s j p u l at) ∙ theirs)

  -- nobody holds a page that is not locked
  pub unheld : (s : Table (Option B) (View X)) (j p : ℕ) (u : View X) → LocksHere s p
      → ((core_shown stored start s).pages p).state ≢ LOCKED → p < start.pages → get_elem? s.views j ≡ some u
      → (seat_of u p).exclusive ≡ false
  unheld s j p u i free l there = sym (ap (λ y. y.exclusive) (seat-here stored start s j p u l there)) ∙ i.unheld free j

  -- the blocks, after a view that keeps what it has out, and may still call its device
  pub blocks-still : (homes : List (maybe.Option (Option B))) (views : List (View X)) (id : ℕ) (v w : View X)
      → get_elem? views id ≡ some v → w.out ≡ v.out
      → ((o : Out) → v.out ≡ Some o → may_call (seat_of w o.page) ≡ true) → BlocksFit stored start homes views
      → BlocksFit stored start homes (slice_set views id w)
  blocks-still homes views id v w there out calls b = record {
    away = λ j u o e. set-each (λ y. y.out ≡ Some o → (o.page < start.pages) × (may_call (seat_of y o.page) ≡ true)
        × (at maybe.none homes o.page ≡ slot_of o)) views id w
        (λ x. let k = b.away id v o there (sym out ∙ x) in (k.0, calls o (sym out ∙ x), k.2))
        (λ i y _ there'. b.away i y o there') j u e;
    home = λ p l e. b.home p l (sym (out-same views id v w p there out) ∙ e);
    bounds = λ p l. ap (λ f. (f p).bound) (block-same stored homes views id v w there out) ∙ b.bounds p l;
  }

  module _ (keeps : Start → Kept X → Type 0) (tied : Start → ℕ → List ℕ → ℕ → List ℕ → Type 0) where
    -- a member still to be released is held
    pub pending-held : (tells : Bool) (s : Table (Option B) (View X)) (r : Ruled stored keeps tied start tells s)
        (p : ℕ) → is_pending s.views p ≡ true → (j : ℕ) × (u : View X) × (get_elem? s.views j ≡ some u)
        × ((seat_of u p).exclusive ≡ true)
    pending-held tells s r p e =
        let k = any-true (λ v. has p v.pending) s.views e in (
          k.0,
          k.1,
          k.2,
          ⊎_elim
              (λ on. ((r.known k.0 k.1 k.2 on).pending p k.3).0)
              (λ off. absurd (false≢true (ap (λ (y : View X). has p y.pending) (sym (r.parts.spent k.0 k.1 k.2 off)) ∙ k.3)))
              (cases_Bool k.1.live),
        )
