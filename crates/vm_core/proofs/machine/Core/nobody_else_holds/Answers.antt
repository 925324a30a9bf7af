use Rattle.std.proofs.Common.{◌<◌, ◌∙◌, ◌≡◌, arith, below_more, length, refl, sym, ℕ}
use Rattle.std.proofs.lemmas.Bool.{cases_lt, false≢true}
use Rattle.std.proofs.Common.{⊎_elim}
use Rattle.vm_event.specs.Prelude.{at, has_free_bit}
use Rattle.vm_core.specs.Prelude.{held_of}
use Rattle.vm_core.proofs.{CoreFrames.held-row, Numbers.held-past}
use Rattle.vm_core.proofs.machine.Core.nobody_else_holds.Goals.{else-b-a-via-then-b-a+else-has_any, else-b-a-via-else-b-a}
use Rattle.vm_core.proofs.machine.Core.nobody_else_holds.Goals as goal

pub returns-then-has_any : goal.returns-then-has_any
returns-then-has_any c =
    let la : c.loop-b.b < length c.self.inside.numbers.items = omega (arith, c.self.invariant.numbers, c.loop-b-test.true) in
    let row : (p : ℕ) → has_free_bit (at 0 c.index.result.now) p ≡ held_of c.self.inside.numbers.items c.loop-b.b p =
    λ p. held-row _ c.loop-b.b p c.index.result.now la c.index.ensures in
    rw (← c.self.view_is) (
      (λ t. absurd (false≢true t)),
      (λ h. sym (c.has_any.ensures.1 (λ p q. row p ∙ h c.loop-b.b p c.if-b-a.true q)) ∙ c.if-has_any.true),
    )

pub loop-b-preserved : goal.loop-b-preserved
loop-b-preserved c =
    let la : c.loop-b.b < length c.self.inside.numbers.items = omega (arith, c.self.invariant.numbers, c.loop-b-test.true) in
    below_more _ _ c.loop-b.invariant
    (rw (← c.self.view_is) (λ p ne q. elim c.else-b-a.branch [
      | else-b-a-via-then-b-a+else-has_any w ↦ sym (held-row _ c.loop-b.b p w.index.result.now la w.index.ensures)
          ∙ w.has_any.ensures.0 w.if-has_any.false p q
      | else-b-a-via-else-b-a w ↦ absurd (ne w.if-b-a.false)
    ]))

pub returns : goal.returns
returns c =
    rw (← c.self.view_is) (
      (λ _ b p ne q. ⊎_elim
          (λ lt. (rw (← c.self.view_is) at c.loop-b.invariant) b (omega (arith, lt, c.loop-b-test.false, c.self.invariant.numbers)) p ne q)
          (λ le. held-past _ b p le)
          (cases_lt b (length c.self.inside.numbers.items))),
      (λ _. refl),
    )
