use Rattle.vm_step.proofs.Prelude.{ap, bit_or, view_of, ◌∙◌}
use Rattle.vm_step.proofs.Seated.{seat-allows}
use Rattle.vm_step.proofs.operation.fetch_or.Goals as goal

-- the seat is the pass's own
pub fetch_or-found-requires : goal.fetch_or-found-requires
fetch_or-found-requires g c =
    let lift = c.lift-seat.ensures in (
      lift.0 ∙ c.requires.pass.0,
      c.requires.at,
      seat-allows _ _ _ _ _ _ _ (λ n. bit_or n c.args.k) g.M.StepTold.told
          lift.1 (ap view_of lift.2) lift.3 c.requires.allows,
    )
