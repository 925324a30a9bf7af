-- A pass that holds no page locks one, reads a word of it, sets one and releases it: it holds no page.
use Rattle.std.proofs.Common.{⊎_elim, ◌∙◌, ◌≡◌, ◌≢◌, ap, Bool, List, Option, ℕ}
use Rattle.std.proofs.lemmas.Bool.{cases_eq}
use Rattle.vm_rule.specs.Prelude.{HoldsNoPage, Seat, seat_of, Start}
use Rattle.vm_step.specs.Prelude.{Did, View}
use Rattle.vm_guard.specs.{Guards.IsLocked, Guards.IsReleased, Guards.IsSet, Quiet.IsQuiet}

module _ {X : Type 0} {tied : Start → ℕ → List ℕ → ℕ → List ℕ → Type 0} {p frame version s i x : ℕ} {dirty : Bool}
    {said : Option X} {done : List Did} {v a b c w : View X}
    (locked : IsLocked tied p frame version dirty v a) (reads : IsQuiet p done a b)
    (set : IsSet p frame dirty i x b c) (released : IsReleased p s said c w) (n : HoldsNoPage v) where
  pub still-nothing-held : HoldsNoPage w
  still-nothing-held = record {
    shares = λ q.
        ⊎_elim
        (λ (e : q ≡ p). ap (λ k. (seat_of w k).shares) e ∙ ap (λ (y : Seat). y.shares) released.seat
        ∙ set.holds.shares ∙ (reads.holds p).shares ∙ ap (λ (y : Seat). y.shares) locked.seat ∙ n.shares p)
        (λ (ne : q ≢ p). (released.elsewhere.holds q ne).shares ∙ (set.elsewhere.holds q ne).shares
        ∙ (reads.holds q).shares ∙ (locked.elsewhere.holds q ne).shares ∙ n.shares q)
        (cases_eq q p);
    exclusive = λ q.
        ⊎_elim
        (λ (e : q ≡ p). ap (λ k. (seat_of w k).exclusive) e ∙ ap (λ (y : Seat). y.exclusive) released.seat)
        (λ (ne : q ≢ p). (released.elsewhere.holds q ne).exclusive ∙ (set.elsewhere.holds q ne).exclusive
        ∙ (reads.holds q).exclusive ∙ (locked.elsewhere.holds q ne).exclusive ∙ n.exclusive q)
        (cases_eq q p);
    writing = λ q.
        ⊎_elim
        (λ (e : q ≡ p). ap (λ k. (seat_of w k).writing) e ∙ ap (λ (y : Seat). y.writing) released.seat
        ∙ set.holds.writing ∙ (reads.holds p).writing ∙ ap (λ (y : Seat). y.writing) locked.seat ∙ n.writing p)
        (λ (ne : q ≢ p). (released.elsewhere.holds q ne).writing ∙ (set.elsewhere.holds q ne).writing
        ∙ (reads.holds q).writing ∙ (locked.elsewhere.holds q ne).writing ∙ n.writing q)
        (cases_eq q p);
    out = released.elsewhere.steady.out ∙ set.elsewhere.steady.out ∙ reads.steady.out ∙ locked.elsewhere.steady.out ∙ n.out;
  }
