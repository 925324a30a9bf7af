use Rattle.std.specs.Prelude.{All}
use Rattle.std.proofs.Common.{◌∙◌, ap, length, rules, subst, sym}
use Rattle.vm_rule.specs.Prelude.{HoldsNoPage}
use Rattle.vm_step.specs.Prelude.{MayStep, view}
use Rattle.vm_step.proofs.Going.{goes-then}
use Rattle.vm_workers.proofs.Putting.{each-nothing, each-step, may-begin}
use Rattle.vm_workers.proofs.Staying.{came-back}
use Rattle.vm_test_guards.proofs.Rounds.{whole-begin}
use Rattle.vm_test_guards.proofs.numbers.rounds_and_join.Goals as goal

pub work_all-requires : goal.work_all-requires
work_all-requires g c =
    let split = c.in_ok-given.ensures in
    let may = may-begin c.args.pool.now.words.table.shared.key g.B.Block.tells
    c.args.pool.now.words.table.shared.table_id (view c.args.pass.now) (view c.split.new.pass) _
    c.in_ok-given.given.items c.as_mut_slice.ensures.value split.split split.each in
    let whole = whole-begin (view c.args.pass.now) (view c.split.new.pass) _ c.in_ok-given.given.items
    c.as_mut_slice.ensures.value split.split in
    search (rules, may, whole)

pub join_each-requires : goal.join_each-requires
join_each-requires g c =
    let value = c.as_mut_slice.ensures.value in
    let t = c.args.pool.now.words.table.shared.table_id in
    let back = came-back c.in_ok-given.given.len c.work_all.new.passes c.in_ok-given.given.items
    (sym c.as_mut_slice.ensures.len ∙ ap length value) (c.work_all.ensures.count ∙ ap length value) in
    let each = subst (λ xs. All (λ p. MayStep t p) xs) (sym back) (each-step _ _ _ _ _ c.work_all.ensures.count c.work_all.ensures.done) in
    let nothing = subst (λ xs. All (λ p. HoldsNoPage (view p)) xs) (sym back)
    (each-nothing _ _ _ _ _ c.work_all.ensures.count c.work_all.ensures.done) in
    (search rules, (c.in_ok-given.ensures.goes.ready, (each, nothing)))

pub returns : goal.returns
returns g c = record { goes = goes-then c.split.ensures.goes c.join_each.ensures.goes }
