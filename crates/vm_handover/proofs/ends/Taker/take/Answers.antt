use Rattle.std.proofs.Common.{rules, ap, ◌∷◌, ◌∙◌, sym, Some}
use Rattle.atomic_table.specs.Table.{rest}
use Rattle.vm_handover.proofs.Steps.{lifts}
use Rattle.vm_handover.proofs.ends.Taker.take.Goals as goal

pub swap_new_seat-found-requires : goal.swap_new_seat-found-requires
swap_new_seat-found-requires g c = (search rules, lifts g.T.Handed.keeps _ _)

pub exchange-value-requires : goal.exchange-value-requires
exchange-value-requires g c = let had = c.swap_new_seat-found.ensures.1 (search rules) in
    (search rules, (Some had.0, had.1 ∙ ap (λ l. (0, Some had.0) ∷ rest l) (sym had.1)))
