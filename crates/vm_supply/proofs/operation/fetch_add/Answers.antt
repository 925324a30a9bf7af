use Rattle.vm_step.proofs.Prelude.{ap, view_of, ◌%◌, ◌+◌, ◌^◌, ◌∙◌}
use Rattle.vm_step.proofs.Seated.{seat-allows}
use Rattle.vm_supply.proofs.operation.fetch_add.Goals as goal

-- the seat is the pass's own
pub fetch_add-found-requires : goal.fetch_add-found-requires
fetch_add-found-requires g c =
    let lift = c.lift-seat.ensures in (
      lift.0 ∙ c.requires.pass.0,
      c.requires.at,
      seat-allows _ _ _ _ _ _ _ (λ n. (n + c.args.k) % 2 ^ 64)
          g.M.StepTold.told lift.1 (ap view_of lift.2) lift.3 c.requires.allows,
    )
