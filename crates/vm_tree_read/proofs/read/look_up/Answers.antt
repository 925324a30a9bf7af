use Rattle.std.proofs.Common.{◌*◌, ◌+◌, ◌++◌, arith, subst, sym, true≢false, refl}
use Rattle.vm_tree_rule.proofs.from_vm_step.Going.{goes-then}
use Rattle.vm_tree_rule.proofs.{Counting.within-wider, Onward.loaded-more, Surely.known-same}
use Rattle.vm_tree_rule.proofs.Readings.{loads-reads, opened-loads, reads-then}
use Rattle.vm_tree_read.proofs.Answering.{answered-as, answered-later, reply-told, unproved}
use Rattle.vm_tree_read.proofs.Reckoning.{leaf-few, leaf-height, place-few}
use Rattle.vm_tree_read.specs.Reads.{TellReply}
use Rattle.vm_tree_read.proofs.read.look_up.Goals as goal

pub returns-in-Err-clause-known : goal.returns-in-Err-clause-known
returns-in-Err-clause-known g c tells k = absurd (true≢false (sym (c.in-Err.ensures.sure tells k)))

pub answer-requires-clause-reading : goal.answer-requires-clause-reading
answer-requires-clause-reading g c = c.find_in_place-value.ensures.found.loads.reads

pub answer-requires-clause-proves : goal.answer-requires-clause-proves
answer-requires-clause-proves g c =
    let leaf = c.in-Ok.ensures.leaf in
    let f = c.find_in_place-value.ensures.found in (
      leaf.0 ++ f.loaded,
      loaded-more _ _ _ leaf.0 f.loaded _ _ leaf.1 f.loads,
      subst (TellReply g.K.Kind.layout (leaf.0 ++ f.loaded)) (sym c.got-said.ensures)
          (reply-told g.K.Kind.layout leaf.0 f.loaded _ leaf.2
          (λ page with covers low high rises. (covers, f.tells page with low high rises))),
    )

pub returns-in-Err-clause-few : goal.returns-in-Err-clause-few
returns-in-Err-clause-few g c = within-wider _ _ _ _ (λ h. omega arith) c.in-Err.ensures.few

pub returns-in-Ok-answer-clause-few : goal.returns-in-Ok-answer-clause-few
returns-in-Ok-answer-clause-few g c = let k = c.in-Ok.ensures.height in
    leaf-few g.K.Kind.bounds.child (1 + g.K.Kind.bounds.fences)
    (λ h. 2 + g.K.Kind.bounds.child * h + (1 + g.K.Kind.bounds.fences + g.K.Kind.bounds.find)) g.K.Kind.bounds.find
    k.0 _ _ _ _ k.1 (place-few _ _ _ _ _ _ _ c.find_in_place-value.ensures.found) c.in-Ok-answer.ensures.words
    (omega arith)

pub returns-in-Ok-answer-clause-height : goal.returns-in-Ok-answer-clause-height
returns-in-Ok-answer-clause-height g c = let k = c.in-Ok.ensures.height in (
  k.0,
  leaf-height g.K.Kind.bounds.child (1 + g.K.Kind.bounds.fences)
      (2 + g.K.Kind.bounds.child * k.0 + (1 + g.K.Kind.bounds.fences + g.K.Kind.bounds.find)) g.K.Kind.bounds.find k.0 _
      _ _ _ k.1 (place-few _ _ _ _ _ _ _ c.find_in_place-value.ensures.found) c.in-Ok-answer.ensures.words
      (omega arith),
)

pub returns-clause-few : goal.returns-clause-few
returns-clause-few g c = let k = c.in-Ok.ensures.height in leaf-few g.K.Kind.bounds.child (1 + g.K.Kind.bounds.fences)
    (λ h. 2 + g.K.Kind.bounds.child * h + (1 + g.K.Kind.bounds.fences + g.K.Kind.bounds.find)) g.K.Kind.bounds.find
    k.0 _ _ _ _ k.1 (place-few _ _ _ _ _ _ _ c.find_in_place-value.ensures.found) c.in-Err-answer.ensures.words
    (omega arith)

pub returns-in-Ok-answer-clause-ok : goal.returns-in-Ok-answer-clause-ok
returns-in-Ok-answer-clause-ok g c = answered-as g.K.Kind.plain g.K.Kind.layout _ _ _ _ c.got-said.ensures
    (answered-later g.K.Kind.plain g.K.Kind.layout _ _ _ _
    (reads-then _ _ _ c.in-Ok.ensures.reads.0 (loads-reads _ _ _ _ _ _ c.find_in_place-value.ensures.found.loads))
    c.in-Ok-answer.ensures.ok)

pub returns-in-Ok-answer-clause-known : goal.returns-in-Ok-answer-clause-known
returns-in-Ok-answer-clause-known g c tells k =
    c.in-Ok-answer.ensures.known
    (known-same _ _ _ _ (loads-reads _ _ _ _ _ _ c.find_in_place-value.ensures.found.loads).0
    c.find_in_place-value.ensures.found.loads.table (c.in-Ok.ensures.known tells k))

pub returns-clause-err : goal.returns-clause-err
returns-clause-err g c = unproved g.K.Kind.layout _ _ _ (g.K.Kind.rank c.args.key.now) _ _ _ _
    (opened-loads _ _ _ _ _ _ _ c.in-Ok.ensures.reads.1 c.find_in_place-value.ensures.found.loads)
    c.in-Err-answer.ensures.err

pub returns-clause-sure : goal.returns-clause-sure
returns-clause-sure g c tells k =
    absurd (true≢false (sym
    (c.in-Err-answer.ensures.sure
    (known-same _ _ _ _ (loads-reads _ _ _ _ _ _ c.find_in_place-value.ensures.found.loads).0
    c.find_in_place-value.ensures.found.loads.table (c.in-Ok.ensures.known tells k)))))

pub returns-clause-known : goal.returns-clause-known
returns-clause-known g c tells k =
    absurd (true≢false (sym
    (c.in-Err-answer.ensures.sure
    (known-same _ _ _ _ (loads-reads _ _ _ _ _ _ c.find_in_place-value.ensures.found.loads).0
    c.find_in_place-value.ensures.found.loads.table (c.in-Ok.ensures.known tells k)))))

pub leaf_at-requires-clause-ready : goal.leaf_at-requires-clause-ready
leaf_at-requires-clause-ready g c = c.requires.ready

pub leaf_at-requires-clause-pages : goal.leaf_at-requires-clause-pages
leaf_at-requires-clause-pages g c = c.requires.pages

pub find_in_place-value-requires-clause-ready : goal.find_in_place-value-requires-clause-ready
find_in_place-value-requires-clause-ready g c = c.leaf_at.ensures.goes.ready

pub find_in_place-value-requires-clause-reading : goal.find_in_place-value-requires-clause-reading
find_in_place-value-requires-clause-reading g c = c.in-Ok.ensures.reads.1.reading

pub answer-requires-clause-ready : goal.answer-requires-clause-ready
answer-requires-clause-ready g c = c.find_in_place-value.ensures.goes.ready

pub returns-in-Err-clause-goes : goal.returns-in-Err-clause-goes
returns-in-Err-clause-goes g c = c.leaf_at.ensures.goes

pub returns-in-Err-clause-ok : goal.returns-in-Err-clause-ok
returns-in-Err-clause-ok g c = tt

pub returns-in-Err-clause-err : goal.returns-in-Err-clause-err
returns-in-Err-clause-err g c = c.in-Err.ensures.err

pub returns-in-Err-clause-sure : goal.returns-in-Err-clause-sure
returns-in-Err-clause-sure g c tells k = c.in-Err.ensures.sure tells k

pub returns-in-Err-clause-height : goal.returns-in-Err-clause-height
returns-in-Err-clause-height g c = tt

pub returns-in-Ok-answer-clause-goes : goal.returns-in-Ok-answer-clause-goes
returns-in-Ok-answer-clause-goes g c = goes-then c.leaf_at.ensures.goes (goes-then c.find_in_place-value.ensures.goes c.answer.ensures.goes)

pub returns-in-Ok-answer-clause-err : goal.returns-in-Ok-answer-clause-err
returns-in-Ok-answer-clause-err g c = tt

pub returns-in-Ok-answer-clause-sure : goal.returns-in-Ok-answer-clause-sure
returns-in-Ok-answer-clause-sure g c tells k = refl

pub returns-clause-goes : goal.returns-clause-goes
returns-clause-goes g c = goes-then c.leaf_at.ensures.goes (goes-then c.find_in_place-value.ensures.goes c.answer.ensures.goes)

pub returns-clause-ok : goal.returns-clause-ok
returns-clause-ok g c = tt

pub returns-clause-height : goal.returns-clause-height
returns-clause-height g c = tt
