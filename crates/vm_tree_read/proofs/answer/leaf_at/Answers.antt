use Rattle.std.proofs.Common.{◌*◌, ◌+◌, arith, refl}
use Rattle.vm_tree_rule.proofs.from_vm_step.Going.{goes-then}
use Rattle.vm_tree_rule.specs.from_vm_step.Prelude.{view}
use Rattle.vm_tree_rule.proofs.{Downward.awaits-later, Downward.node-later, Surely.known-same}
use Rattle.vm_tree_rule.proofs.OnWay.{leaf-later, stands-leaf, way-later}
use Rattle.vm_tree_read.proofs.Answering.{between-leaf, none-between}
use Rattle.vm_tree_rule.proofs.Counting.{height-more, height-same, height-within, within-wider}
use Rattle.vm_tree_rule.proofs.Readings.{loads-reads, opened-loads, reads-then}
use Rattle.vm_tree_read.proofs.Reckoning.{place-few}
use Rattle.vm_tree_read.proofs.answer.leaf_at.Goals as goal

pub returns-in-Err-clause-sure_shared : goal.returns-in-Err-clause-sure_shared
returns-in-Err-clause-sure_shared g c shares tells k = c.in-Err.ensures.sure shares tells k

pub returns-in-Err-clause-sure : goal.returns-in-Err-clause-sure
returns-in-Err-clause-sure g c tells k = c.in-Err.ensures.sure _ tells k

pub returns-in-Err-clause-few : goal.returns-in-Err-clause-few
returns-in-Err-clause-few g c = within-wider _ _ _ _ (λ h. omega arith) c.in-Err.ensures.few

pub returns-then-is_leaf_in_place-clause-reads : goal.returns-then-is_leaf_in_place-clause-reads
returns-then-is_leaf_in_place-clause-reads g c =
    let loads = c.is_leaf_in_place.ensures.found.loads in
    (reads-then _ _ _ c.in-Ok.ensures.reads.0 (loads-reads _ _ _ _ _ _ loads), opened-loads _ _ _ _ _ _ _ c.in-Ok.ensures.reads.1 loads)

pub returns-then-is_leaf_in_place-clause-leaf : goal.returns-then-is_leaf_in_place-clause-leaf
returns-then-is_leaf_in_place-clause-leaf g c =
    let f = c.is_leaf_in_place.ensures.found in
    let s = c.in-Ok.ensures.stands in (
      f.loaded,
      (_, f.loads.loads),
      λ page with. between-leaf g.K.Kind.layout page (g.K.Kind.rank c.args.key.now) _ _ s.from s.below
          ((f.tells page with).0 c.if-is_leaf_in_place.true),
    )

pub returns-then-is_leaf_in_place-clause-awaits : goal.returns-then-is_leaf_in_place-clause-awaits
returns-then-is_leaf_in_place-clause-awaits g c =
    awaits-later _ _ _ _ _ _ (loads-reads _ _ _ _ _ _ c.is_leaf_in_place.ensures.found.loads).0 c.in-Ok.ensures.awaits

pub returns-then-is_leaf_in_place-clause-known_shared : goal.returns-then-is_leaf_in_place-clause-known_shared
returns-then-is_leaf_in_place-clause-known_shared g c shares tells k =
    let loads = c.is_leaf_in_place.ensures.found.loads in
    known-same _ _ _ _ (loads-reads _ _ _ _ _ _ loads).0 loads.table (c.in-Ok.ensures.known shares tells k)

pub returns-then-is_leaf_in_place-clause-known : goal.returns-then-is_leaf_in_place-clause-known
returns-then-is_leaf_in_place-clause-known g c tells k =
    let loads = c.is_leaf_in_place.ensures.found.loads in
    known-same _ _ _ _ (loads-reads _ _ _ _ _ _ loads).0 loads.table (c.in-Ok.ensures.known _ tells k)

pub returns-then-is_leaf_in_place-clause-height : goal.returns-then-is_leaf_in_place-clause-height
returns-then-is_leaf_in_place-clause-height g c =
    let h = c.in-Ok.ensures.height in (
      h.0,
      height-more (2 + g.K.Kind.bounds.child * h.0) (1 + g.K.Kind.bounds.fences)
          (2 + g.K.Kind.bounds.child * h.0 + (1 + g.K.Kind.bounds.fences)) h.0 _ _ _ h.1
          (place-few _ _ _ _ _ _ _ c.is_leaf_in_place.ensures.found) (omega arith),
    )

pub returns-then-is_leaf_in_place-clause-few : goal.returns-then-is_leaf_in_place-clause-few
returns-then-is_leaf_in_place-clause-few g c =
    let h = returns-then-is_leaf_in_place-clause-height g c in
    height-within (λ n. 2 + g.K.Kind.bounds.child * n + (1 + g.K.Kind.bounds.fences)) _ h.0 _ _ h.1 (omega arith)

pub returns-then-is_leaf_in_place-clause-reached : goal.returns-then-is_leaf_in_place-clause-reached
returns-then-is_leaf_in_place-clause-reached g c =
    let e = c.in-Ok.ensures in
    leaf-later _ _ _ _ _ _ (loads-reads _ _ _ _ _ _ c.is_leaf_in_place.ensures.found.loads)
    (stands-leaf g.K.Kind.layout g.K.Kind.rank (view c.args.pass.now) (g.K.Kind.rank c.args.key.now) c.in-Ok.leaf _ e.level e.stands e.way)

pub returns-clause-err : goal.returns-clause-err
returns-clause-err g c =
    let f = c.is_leaf_in_place.ensures.found in
    let e = c.in-Ok.ensures in
    let reads = loads-reads _ _ _ _ _ _ f.loads in
    let leaf = stands-leaf g.K.Kind.layout g.K.Kind.rank (view c.args.pass.now) (g.K.Kind.rank c.args.key.now) c.in-Ok.leaf _ e.level e.stands e.way in
    c.no_leaf.ensures.turn _ (g.K.Kind.rank c.args.key.now) _ _ f.loaded
    (opened-loads _ _ _ _ _ _ _ e.reads.1 f.loads)
    (node-later _ _ _ _ _ _ _ reads.0 leaf.awaits) (way-later _ _ _ _ _ _ _ _ reads leaf.way)
    (_, f.loads.loads) (none-between g.K.Kind.layout f.loaded _ _ (λ page with. (f.tells page with).1 c.if-is_leaf_in_place.false))

pub returns-clause-sure_shared : goal.returns-clause-sure_shared
returns-clause-sure_shared g c shares tells k =
    let f = c.is_leaf_in_place.ensures.found in
    let e = c.in-Ok.ensures in
    let reads = (loads-reads _ _ _ _ _ _ f.loads).0 in
    let leaf = stands-leaf g.K.Kind.layout g.K.Kind.rank (view c.args.pass.now) (g.K.Kind.rank c.args.key.now) c.in-Ok.leaf _ e.level e.stands e.way in
    absurd (c.no_leaf.ensures.sure shares _ _ f.loaded tells
    (known-same _ _ _ _ reads f.loads.table (e.known shares tells k)) (node-later _ _ _ _ _ _ _ reads leaf.awaits)
    (_, f.loads.loads) (none-between g.K.Kind.layout f.loaded _ _ (λ page with. (f.tells page with).1 c.if-is_leaf_in_place.false)))

pub returns-clause-sure : goal.returns-clause-sure
returns-clause-sure g c tells k = returns-clause-sure_shared g c (λ _. 0) tells k

pub returns-clause-few : goal.returns-clause-few
returns-clause-few g c =
    let h = c.in-Ok.ensures.height in
    height-within (λ n. 2 + g.K.Kind.bounds.child * n + (1 + g.K.Kind.bounds.fences)) _ h.0 _ _
    (height-same _ _ _ _ _ (height-more (2 + g.K.Kind.bounds.child * h.0) (1 + g.K.Kind.bounds.fences)
    (2 + g.K.Kind.bounds.child * h.0 + (1 + g.K.Kind.bounds.fences)) h.0 _ _ _ h.1
    (place-few _ _ _ _ _ _ _ c.is_leaf_in_place.ensures.found) (omega arith)) c.no_leaf.ensures.words)
    (omega arith)

pub descend-requires-clause-ready : goal.descend-requires-clause-ready
descend-requires-clause-ready g c = c.requires.ready

pub descend-requires-clause-pages : goal.descend-requires-clause-pages
descend-requires-clause-pages g c = c.requires.pages

pub returns-in-Err-clause-goes : goal.returns-in-Err-clause-goes
returns-in-Err-clause-goes g c = c.descend.ensures.goes

pub returns-in-Err-clause-err : goal.returns-in-Err-clause-err
returns-in-Err-clause-err g c = c.in-Err.ensures.err

pub returns-in-Err-clause-reads : goal.returns-in-Err-clause-reads
returns-in-Err-clause-reads g c = tt

pub returns-in-Err-clause-leaf : goal.returns-in-Err-clause-leaf
returns-in-Err-clause-leaf g c = tt

pub returns-in-Err-clause-awaits : goal.returns-in-Err-clause-awaits
returns-in-Err-clause-awaits g c = tt

pub returns-in-Err-clause-reached : goal.returns-in-Err-clause-reached
returns-in-Err-clause-reached g c = tt

pub returns-in-Err-clause-height : goal.returns-in-Err-clause-height
returns-in-Err-clause-height g c = tt

pub returns-in-Err-clause-known : goal.returns-in-Err-clause-known
returns-in-Err-clause-known g c tells k = tt

pub returns-in-Err-clause-known_shared : goal.returns-in-Err-clause-known_shared
returns-in-Err-clause-known_shared g c shares tells k = tt

pub is_leaf_in_place-requires-clause-ready : goal.is_leaf_in_place-requires-clause-ready
is_leaf_in_place-requires-clause-ready g c = c.descend.ensures.goes.ready

pub is_leaf_in_place-requires-clause-reading : goal.is_leaf_in_place-requires-clause-reading
is_leaf_in_place-requires-clause-reading g c = c.in-Ok.ensures.reads.1.reading

pub returns-then-is_leaf_in_place-clause-goes : goal.returns-then-is_leaf_in_place-clause-goes
returns-then-is_leaf_in_place-clause-goes g c = goes-then c.descend.ensures.goes c.is_leaf_in_place.ensures.goes

pub returns-then-is_leaf_in_place-clause-err : goal.returns-then-is_leaf_in_place-clause-err
returns-then-is_leaf_in_place-clause-err g c = tt

pub returns-then-is_leaf_in_place-clause-sure : goal.returns-then-is_leaf_in_place-clause-sure
returns-then-is_leaf_in_place-clause-sure g c tells k = refl

pub returns-then-is_leaf_in_place-clause-sure_shared : goal.returns-then-is_leaf_in_place-clause-sure_shared
returns-then-is_leaf_in_place-clause-sure_shared g c shares tells k = refl

pub no_leaf-requires-clause-ready : goal.no_leaf-requires-clause-ready
no_leaf-requires-clause-ready g c = c.is_leaf_in_place.ensures.goes.ready

pub no_leaf-requires-clause-reading : goal.no_leaf-requires-clause-reading
no_leaf-requires-clause-reading g c = c.is_leaf_in_place.ensures.found.loads.reads

pub returns-clause-goes : goal.returns-clause-goes
returns-clause-goes g c = goes-then c.descend.ensures.goes (goes-then c.is_leaf_in_place.ensures.goes c.no_leaf.ensures.goes)

pub returns-clause-reads : goal.returns-clause-reads
returns-clause-reads g c = tt

pub returns-clause-leaf : goal.returns-clause-leaf
returns-clause-leaf g c = tt

pub returns-clause-awaits : goal.returns-clause-awaits
returns-clause-awaits g c = tt

pub returns-clause-reached : goal.returns-clause-reached
returns-clause-reached g c = tt

pub returns-clause-height : goal.returns-clause-height
returns-clause-height g c = tt

pub returns-clause-known : goal.returns-clause-known
returns-clause-known g c tells k = tt

pub returns-clause-known_shared : goal.returns-clause-known_shared
returns-clause-known_shared g c shares tells k = tt
