use Rattle.vm_step.proofs.Prelude.{ap, either, view_of, ◌==◌, ◌∙◌}
use Rattle.vm_step.proofs.Seated.{seat-allows}
use Rattle.vm_step.proofs.operation.compare_exchange.Goals as goal

-- the seat is the pass's own
pub compare_exchange-found-requires : goal.compare_exchange-found-requires
compare_exchange-found-requires g c =
    let lift = c.lift-seat.ensures in (
      lift.0 ∙ c.requires.pass.0,
      c.requires.at,
      seat-allows _ _ _ _ _ _ _
          (λ n. either (n == c.args.expects) c.args.new n) g.M.StepTold.told lift.1 (ap view_of lift.2) lift.3
          c.requires.allows,
    )
