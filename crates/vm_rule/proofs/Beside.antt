-- Beside a pass with all parts every other has none, so it holds nothing: a page that such a pass has not locked is
-- not locked.
use Rattle.atomic_table.proofs.Lists.{at_index}
use Rattle.vm_rule.proofs.{Entries.not-whole, Found.seat-here}
use Rattle.vm_rule.proofs.Prelude.{[], ap, arith, Bool, cases_Bool, cases_eq, cases_lt, core_shown, eq-eqb, EVICTED}
use Rattle.vm_rule.proofs.Prelude.{false, get_elem?, get_or, get_or_default, HoldsNothing, inl, inr, IsWhole, Kept}
use Rattle.vm_rule.proofs.Prelude.{length, List, LOCKED, lt-ltb, MARKED, Option, Origin, owns, Page, refl, Ruled}
use Rattle.vm_rule.proofs.Prelude.{Seat, seat_of, share_count, some, spent, Start, Stored, subst, suc, sum_below}
use Rattle.vm_rule.proofs.Prelude.{sum_below-past, sym, Table, times, true≢false, UNLOCKED, View, zero, ℕ, ⊎_elim}
use Rattle.vm_rule.proofs.Prelude.{◌+◌, ◌<◌, ◌∙◌, ◌∷◌, ◌≡◌, ◌≢◌, ◌≤◌, ◌⊎◌}

pub no-times : (l : List ℕ) → ((n : ℕ) → 1 ≤ times n l → ⊥) → l ≡ []
no-times [] none = refl
no-times (n ∷ ns) none = absurd (none n (rw (eq-eqb n n refl) (omega arith)))

pub more-left : (a b : ℕ) → 1 ≤ a → 1 ≤ a + b
more-left a b l = omega arith

pub more-right : (a b : ℕ) → 1 ≤ b → 1 ≤ a + b
more-right a b l = omega arith

no-sum : (n : ℕ) → sum_below n (λ k. 0) ≡ 0
unfolding sum_below
no-sum zero = refl
no-sum (suc n) = let rest : sum_below n (λ k. 0) ≡ 0 = no-sum n in omega arith

module _ {X B : Type 0} (stored : B → Stored) (keeps : Start → Kept X → Type 0)
    (tied : Start → ℕ → List ℕ → ℕ → List ℕ → Type 0) (start : Origin) (tells : Bool) (s : Table (Option B) (View X))
    (r : Ruled stored keeps tied start tells s) (id : ℕ) (v : View X) (there : get_elem? s.views id ≡ some v)
    (whole : IsWhole v) where
  pub others-hold-nothing : (j : ℕ) (u : View X) → j ≢ id → get_elem? s.views j ≡ some u → HoldsNothing u
  others-hold-nothing j u ne at =
      let none : (k : ℕ) → 1 ≤ owns k u → ⊥ = λ k l. not-whole s.views id j v u r.parts.parts (λ e. ne (sym e)) there at (k, l) whole in
      ⊎_elim
      (λ on. (r.heard j u at on).idle
      (no-times u.used (λ n l. none n (more-left (times n u.used) (times n u.fresh) l)))
      (no-times u.fresh (λ n l. none n (more-right (times n u.used) (times n u.fresh) l))))
      (λ off. subst HoldsNothing (sym (r.parts.spent j u at off)) (record {
        shares = λ p. refl;
        exclusive = λ p. refl;
        writing = λ p. refl;
        frames = refl;
        numbers = (refl, refl);
        out = refl;
      }))
      (cases_Bool u.live)

  module _ (p : ℕ) (l : p < start.pages) (alone : (seat_of v p).exclusive ≡ false) (none : (seat_of v p).shares ≡ 0) where
    -- what any pass has of the page
    seats-open : (a : ℕ) → a < length s.views → ((((core_shown stored start s).pages p).seats a).exclusive ≡ false)
        × ((((core_shown stored start s).pages p).seats a).shares ≡ 0)
    seats-open a la =
        let u : View X = get_or s.views a spent in
        let at : get_elem? s.views a ≡ some u = at_index s.views a u la (get_or_default s.views a spent u la) in
        let here : ((core_shown stored start s).pages p).seats a ≡ seat_of u p = seat-here stored start s a p u l at in
        ⊎_elim
        (λ e.
        let mine : ((core_shown stored start s).pages p).seats id ≡ seat_of v p = seat-here stored start s id p v l there in
        let same : ((core_shown stored start s).pages p).seats a ≡ seat_of v p = ap ((core_shown stored start s).pages p).seats e ∙ mine in
        (ap (λ (k : Seat). k.exclusive) same ∙ alone, ap (λ (k : Seat). k.shares) same ∙ none))
        (λ ne. let h = others-hold-nothing a u ne at in
        (ap (λ (k : Seat). k.exclusive) here ∙ h.exclusive p, ap (λ (k : Seat). k.shares) here ∙ h.shares p))
        (cases_eq a id)

    -- so it is unlocked, marked or evicted
    pub page-open : (((core_shown stored start s).pages p).state ≡ UNLOCKED)
        ⊎ ((((core_shown stored start s).pages p).state ≡ MARKED)
        ⊎ (((core_shown stored start s).pages p).state ≡ EVICTED))
    page-open =
        let y : Page = (core_shown stored start s).pages p in
        let locks = (r.inv.pages p).locks in
        let free : y.state ≢ LOCKED = (λ e. let h = locks.held e in true≢false (sym h.owns ∙ (seats-open h.holder h.named).0)) in
        let sum : sum_below (length s.views) (λ b. (y.seats b).shares) ≡ 0 =
        sum_below-past (length s.views) (λ b. (y.seats b).shares) (λ k. 0) (λ j lj. (seats-open j lj).1)
        ∙ no-sum (length s.views) in
        let known : y.state ≤ EVICTED = locks.known in
        ⊎_elim
        (λ below. let is : share_count y.state ≡ y.state = rw (lt-ltb y.state LOCKED below) refl in inl (sym is ∙ sym locks.shares ∙ sum))
        (λ ge. ⊎_elim (λ e. inr (inl e)) (λ ne. inr (inr (omega (arith, known, free, ge, ne)))) (cases_eq y.state MARKED))
        (cases_lt y.state LOCKED)
