use Rattle.std.proofs.Common.{◌∙◌, ap, length, List, subst, sym}
use Rattle.vm_event.specs.Prelude.{at, evicted_page, LocksInv, no_seat}
use Rattle.vm_event.specs.declared.event.Seat.{Seat}
use Rattle.vm_core.proofs.page.PageCell.new.Goals as goal
use Rattle.vm_core.proofs.Starting.{locks-start, no-seats}

pub invariant_of-result : goal.invariant_of-result
invariant_of-result c =
    subst (λ (xs : List Seat). LocksInv (length xs) 255 0 (at no_seat xs))
    (sym (c.in_ok-seats.ensures.items_if_clones_equal (λ y e. e))) (locks-start c.args.shape.actors)

pub returns-clause-page : goal.returns-clause-page
returns-clause-page c =
    ap (λ xs. record (evicted_page 0 c.core_block.result 0) { seats = at no_seat xs })
    (c.in_ok-seats.ensures.items_if_clones_equal (λ y e. e))
    ∙ ap (λ s. record (evicted_page 0 c.core_block.result 0) { seats = s }) (no-seats c.args.shape.actors)
    ∙ ap (λ b. evicted_page 0 b 0) c.core_block.ensures
