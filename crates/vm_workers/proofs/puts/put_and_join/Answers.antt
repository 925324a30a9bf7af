use Rattle.std.specs.Prelude.{All}
use Rattle.std.proofs.Common.{◌∙◌, ap, length, map, rules, subst, sym}
use Rattle.vm_rule.specs.Prelude.{HoldsNoPage}
use Rattle.vm_step.specs.Prelude.{HasJoined, MayStep, view}
use Rattle.vm_step.proofs.Going.{goes-then}
use Rattle.vm_workers.proofs.puts.put_and_join.Goals as goal
use Rattle.vm_workers.proofs.Putting.{alone-again, each-nothing, each-step, may-begin, nothing-again}
use Rattle.vm_workers.proofs.Staying.{came-back}

pub put_all-requires : goal.put_all-requires
put_all-requires g c =
    let split = c.in_ok-given.ensures in
    let may = may-begin c.args.pool.now.words.table.shared.key g.B.Block.tells
    c.args.pool.now.words.table.shared.table_id (view c.args.pass.now) (view c.split.new.pass) _
    c.in_ok-given.given.items c.as_mut_slice.ensures.value split.split split.each in
    search (rules, may)

pub join_each-requires : goal.join_each-requires
join_each-requires g c =
    let value = c.as_mut_slice.ensures.value in
    let t = c.args.pool.now.words.table.shared.table_id in
    let back = came-back c.in_ok-given.given.len c.put_all.new.passes c.in_ok-given.given.items
    (sym c.as_mut_slice.ensures.len ∙ ap length value) (c.put_all.ensures.count ∙ ap length value) in
    let each = subst (λ xs. All (λ p. MayStep t p) xs) (sym back) (each-step _ _ _ _ _ c.put_all.ensures.count c.put_all.ensures.done) in
    let nothing = subst (λ xs. All (λ p. HoldsNoPage (view p)) xs) (sym back)
    (each-nothing _ _ _ _ _ c.put_all.ensures.count c.put_all.ensures.done) in
    (search rules, (c.in_ok-given.ensures.goes.ready, (each, nothing)))

pub returns-clause-goes : goal.returns-clause-goes
returns-clause-goes g c = goes-then c.split.ensures.goes c.join_each.ensures.goes

pub returns-clause-alone : goal.returns-clause-alone
returns-clause-alone g c =
    let value = c.as_mut_slice.ensures.value in
    let new = c.put_all.new.passes in
    let count = c.put_all.ensures.count in
    let joined =
    subst (λ xs. HasJoined (view c.split.new.pass) (map (λ p. view p) xs) (view c.join_each.new.pass))
    (came-back c.in_ok-given.given.len new c.in_ok-given.given.items
    (sym c.as_mut_slice.ensures.len ∙ ap length value) (count ∙ ap length value)) c.join_each.ensures.joined in
    alone-again _ _ _ _ _ count c.put_all.ensures.done (view c.args.pass.now) (view c.split.new.pass)
    (view c.join_each.new.pass) c.in_ok-given.given.items value c.in_ok-given.ensures.split joined
    c.requires.alone

pub returns-clause-holds : goal.returns-clause-holds
returns-clause-holds g c = nothing-again _ _ _ _ _ c.in_ok-given.ensures.split c.join_each.ensures.joined c.requires.holds
