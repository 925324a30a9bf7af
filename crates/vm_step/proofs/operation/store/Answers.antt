use Rattle.vm_step.proofs.Prelude.{ap, view_of, ◌∙◌}
use Rattle.vm_step.proofs.Seated.{seat-allows}
use Rattle.vm_step.proofs.operation.store.Goals as goal

-- the seat is the pass's own
pub store-requires : goal.store-requires
store-requires g c =
    let lift = c.lift-seat.ensures in (
      lift.0 ∙ c.requires.pass.0,
      c.requires.at,
      seat-allows _ _ _ _ _ _ _ (λ _. c.args.new)
          (λ _. g.M.StepTold.told c.args.new) lift.1 (ap view_of lift.2) lift.3 c.requires.allows,
    )
