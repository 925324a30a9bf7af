use Rattle.vm_step.proofs.Prelude.{ap, view_of, ◌%◌, ◌+◌, ◌-◌, ◌^◌, ◌∙◌}
use Rattle.vm_step.proofs.Seated.{seat-allows}
use Rattle.vm_step.proofs.operation.fetch_sub.Goals as goal

-- the seat is the pass's own
pub fetch_sub-found-requires : goal.fetch_sub-found-requires
fetch_sub-found-requires g c =
    let lift = c.lift-seat.ensures in (
      lift.0 ∙ c.requires.pass.0,
      c.requires.at,
      seat-allows _ _ _ _ _ _ _ (λ n. (n + (2 ^ 64 - c.args.k)) % 2 ^ 64)
          g.M.StepTold.told lift.1 (ap view_of lift.2) lift.3 c.requires.allows,
    )
