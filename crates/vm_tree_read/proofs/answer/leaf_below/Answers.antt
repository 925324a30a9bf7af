use Rattle.std.proofs.Common.{refl}
use Rattle.vm_tree_rule.proofs.from_vm_step.Going.{goes-then}
use Rattle.vm_tree_rule.specs.from_vm_step.Prelude.{view}
use Rattle.vm_tree_rule.proofs.{Downward.awaits-later, Downward.node-later, Surely.known-same}
use Rattle.vm_tree_rule.proofs.OnWay.{leaf-later, way-later}
use Rattle.vm_tree_read.proofs.Answering.{between-leaf, none-between}
use Rattle.vm_tree_rule.proofs.Reaching.{above-beside, above-known}
use Rattle.vm_tree_rule.proofs.Readings.{loads-reads, opened-loads, reads-then}
use Rattle.vm_tree_rule.proofs.Seeking.{beside-loads}
use Rattle.vm_tree_read.proofs.answer.leaf_below.Goals as goal

pub returns-in-Err-clause-sure : goal.returns-in-Err-clause-sure
returns-in-Err-clause-sure g c tells k = c.in-Err.ensures.sure tells k

pub returns-then-is_leaf_in_place-clause-reads : goal.returns-then-is_leaf_in_place-clause-reads
returns-then-is_leaf_in_place-clause-reads g c =
    let loads = c.is_leaf_in_place.ensures.found.loads in
    (reads-then _ _ _ c.in-Ok.ensures.reads.0 (loads-reads _ _ _ _ _ _ loads), opened-loads _ _ _ _ _ _ _ c.in-Ok.ensures.reads.1 loads)

pub returns-then-is_leaf_in_place-clause-leaf : goal.returns-then-is_leaf_in_place-clause-leaf
returns-then-is_leaf_in_place-clause-leaf g c =
    let f = c.is_leaf_in_place.ensures.found in
    let r = c.in-Ok.ensures.leaf in (
      f.loaded,
      (_, f.loads.loads),
      λ page with. between-leaf g.K.Kind.layout page (g.K.Kind.rank c.args.key.now) _ _ r.from r.below
          ((f.tells page with).0 c.if-is_leaf_in_place.true),
    )

pub returns-then-is_leaf_in_place-clause-awaits : goal.returns-then-is_leaf_in_place-clause-awaits
returns-then-is_leaf_in_place-clause-awaits g c =
    awaits-later _ _ _ _ _ _ (loads-reads _ _ _ _ _ _ c.is_leaf_in_place.ensures.found.loads).0 c.in-Ok.ensures.awaits

pub returns-then-is_leaf_in_place-clause-above : goal.returns-then-is_leaf_in_place-clause-above
returns-then-is_leaf_in_place-clause-above g c =
    let loads = c.is_leaf_in_place.ensures.found.loads in
    let r = c.in-Ok.reached in
    above-beside g.K.Kind.layout (view c.args.pass.now) (g.K.Kind.rank c.args.key.now) r.above r.leaf.pid _ _
    (loads-reads _ _ _ _ _ _ loads) (λ q ne. beside-loads q _ _ _ _ _ _ ne loads) c.in-Ok.ensures.above

pub returns-then-is_leaf_in_place-clause-known : goal.returns-then-is_leaf_in_place-clause-known
returns-then-is_leaf_in_place-clause-known g c tells k =
    let loads = c.is_leaf_in_place.ensures.found.loads in
    let reads = (loads-reads _ _ _ _ _ _ loads).0 in
    let known = c.in-Ok.ensures.known tells k in
    (known-same _ _ _ _ reads loads.table known.0, above-known c.in-Ok.reached.above _ _ reads loads.table known.1)

pub returns-then-is_leaf_in_place-clause-reached : goal.returns-then-is_leaf_in_place-clause-reached
returns-then-is_leaf_in_place-clause-reached g c =
    let r = c.in-Ok.ensures.leaf in
    leaf-later _ _ _ _ _ _ (loads-reads _ _ _ _ _ _ c.is_leaf_in_place.ensures.found.loads)
    (record { low = _; high = _; awaits = r.awaits; from = r.from; below = r.below; way = r.way })

pub returns-clause-err : goal.returns-clause-err
returns-clause-err g c =
    let f = c.is_leaf_in_place.ensures.found in
    let r = c.in-Ok.ensures.leaf in
    let reads = loads-reads _ _ _ _ _ _ f.loads in
    c.no_leaf.ensures.turn _ (g.K.Kind.rank c.args.key.now) _ _ f.loaded
    (opened-loads _ _ _ _ _ _ _ c.in-Ok.ensures.reads.1 f.loads)
    (node-later _ _ _ _ _ _ _ reads.0 r.awaits) (way-later _ _ _ _ _ _ _ _ reads r.way)
    (_, f.loads.loads) (none-between g.K.Kind.layout f.loaded _ _ (λ page with. (f.tells page with).1 c.if-is_leaf_in_place.false))

pub returns-clause-sure : goal.returns-clause-sure
returns-clause-sure g c tells k =
    let f = c.is_leaf_in_place.ensures.found in
    let reads = (loads-reads _ _ _ _ _ _ f.loads).0 in
    absurd (c.no_leaf.ensures.sure (λ _. 0) _ _ f.loaded tells
    (known-same _ _ _ _ reads f.loads.table (c.in-Ok.ensures.known tells k).0)
    (node-later _ _ _ _ _ _ _ reads c.in-Ok.ensures.leaf.awaits)
    (_, f.loads.loads) (none-between g.K.Kind.layout f.loaded _ _ (λ page with. (f.tells page with).1 c.if-is_leaf_in_place.false)))

pub reach-requires-clause-ready : goal.reach-requires-clause-ready
reach-requires-clause-ready g c = c.requires.ready

pub reach-requires-clause-pages : goal.reach-requires-clause-pages
reach-requires-clause-pages g c = c.requires.pages

pub returns-in-Err-clause-goes : goal.returns-in-Err-clause-goes
returns-in-Err-clause-goes g c = c.reach.ensures.goes

pub returns-in-Err-clause-err : goal.returns-in-Err-clause-err
returns-in-Err-clause-err g c = c.in-Err.ensures.err

pub returns-in-Err-clause-reads : goal.returns-in-Err-clause-reads
returns-in-Err-clause-reads g c = tt

pub returns-in-Err-clause-leaf : goal.returns-in-Err-clause-leaf
returns-in-Err-clause-leaf g c = tt

pub returns-in-Err-clause-awaits : goal.returns-in-Err-clause-awaits
returns-in-Err-clause-awaits g c = tt

pub returns-in-Err-clause-reached : goal.returns-in-Err-clause-reached
returns-in-Err-clause-reached g c = tt

pub returns-in-Err-clause-above : goal.returns-in-Err-clause-above
returns-in-Err-clause-above g c = tt

pub returns-in-Err-clause-known : goal.returns-in-Err-clause-known
returns-in-Err-clause-known g c tells k = tt

pub is_leaf_in_place-requires-clause-ready : goal.is_leaf_in_place-requires-clause-ready
is_leaf_in_place-requires-clause-ready g c = c.reach.ensures.goes.ready

pub is_leaf_in_place-requires-clause-reading : goal.is_leaf_in_place-requires-clause-reading
is_leaf_in_place-requires-clause-reading g c = c.in-Ok.ensures.reads.1.reading

pub returns-then-is_leaf_in_place-clause-goes : goal.returns-then-is_leaf_in_place-clause-goes
returns-then-is_leaf_in_place-clause-goes g c = goes-then c.reach.ensures.goes c.is_leaf_in_place.ensures.goes

pub returns-then-is_leaf_in_place-clause-err : goal.returns-then-is_leaf_in_place-clause-err
returns-then-is_leaf_in_place-clause-err g c = tt

pub returns-then-is_leaf_in_place-clause-sure : goal.returns-then-is_leaf_in_place-clause-sure
returns-then-is_leaf_in_place-clause-sure g c tells k = refl

pub no_leaf-requires-clause-ready : goal.no_leaf-requires-clause-ready
no_leaf-requires-clause-ready g c = c.is_leaf_in_place.ensures.goes.ready

pub no_leaf-requires-clause-reading : goal.no_leaf-requires-clause-reading
no_leaf-requires-clause-reading g c = c.is_leaf_in_place.ensures.found.loads.reads

pub returns-clause-goes : goal.returns-clause-goes
returns-clause-goes g c = goes-then c.reach.ensures.goes (goes-then c.is_leaf_in_place.ensures.goes c.no_leaf.ensures.goes)

pub returns-clause-reads : goal.returns-clause-reads
returns-clause-reads g c = tt

pub returns-clause-leaf : goal.returns-clause-leaf
returns-clause-leaf g c = tt

pub returns-clause-awaits : goal.returns-clause-awaits
returns-clause-awaits g c = tt

pub returns-clause-reached : goal.returns-clause-reached
returns-clause-reached g c = tt

pub returns-clause-above : goal.returns-clause-above
returns-clause-above g c = tt

pub returns-clause-known : goal.returns-clause-known
returns-clause-known g c tells k = tt
