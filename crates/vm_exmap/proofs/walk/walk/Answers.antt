-- Each visit is to the next bundle of the walk: it is passed by, or the walk ends there.
use Rattle.vm_exmap.proofs.Prelude.{arith, subst, sym, view, ◌+◌, ◌<◌, ◌∙◌, ◌≡◌}
use Rattle.vm_exmap.proofs.Walking.{bundle-count, comes-to, finds, IsUnderWay, pass-empty, pass-lost, walked-dry}
use Rattle.vm_supply.proofs.from_vm_step.Going.{goes-then}
use Rattle.vm_exmap.proofs.walk.walk.Goals as goal
use Rattle.vm_exmap.proofs.walk.walk.Goals.{in-Empty, in-Lost}

pub returns-in-Taken-clause-walk : goal.returns-in-Taken-clause-walk
returns-in-Taken-clause-walk g c =
    let n = bundle-count c.div_ceil-bundles.result c.args.words.now.frames _ _ c.div_ceil-bundles.ensures
    c.args.words.now.shape.1 c.requires.ready.table.is_shape.frames in
    let is = comes-to c.args.home c.loop-k.k c.from.result c.div_ceil-bundles.result _ c.from.ensures n in
    finds c.args.most c.args.home c.loop-k.k _ c.loop-k.lost _ _ _ c.loop-k.invariant.walked is c.in-Taken.mask
    c.frames_of.result (subst (λ m. c.loop-k.k < m) n c.loop-k-test.true) c.in-Taken.ensures.visited
    c.frames_of.ensures

pub loop-k-preserved : goal.loop-k-preserved
loop-k-preserved g c =
    let n = bundle-count c.div_ceil-bundles.result c.args.words.now.frames _ _ c.div_ceil-bundles.ensures
    c.args.words.now.shape.1 c.requires.ready.table.is_shape.frames in
    let is = comes-to c.args.home c.loop-k.k c.from.result c.div_ceil-bundles.result _ c.from.ensures n in
    record {
      goes = goes-then c.loop-k.invariant.goes c.visit.ensures.goes;
      walked = elim c.match-visit.branch [
        | in-Empty w ↦
            subst (λ last. IsUnderWay c.args.most c.args.home (c.loop-k.k + 1) last (view c.args.pass.now)
            (view c.visit.new.pass)) (sym w.lost-is)
            (pass-empty c.args.most c.args.home c.loop-k.k _ c.loop-k.lost _ _ _ c.loop-k.invariant.walked is w.in-Empty.ensures.visited)
        | in-Lost w ↦
            subst (λ last. IsUnderWay c.args.most c.args.home (c.loop-k.k + 1) last (view c.args.pass.now)
            (view c.visit.new.pass)) (sym w.lost-is)
            (pass-lost c.args.most c.args.home c.loop-k.k _ c.loop-k.lost _ _ _ c.loop-k.invariant.walked is
            w.in-Lost.saw w.in-Lost.ensures.visited)
      ];
    }

pub returns-in-None-clause-walk : goal.returns-in-None-clause-walk
returns-in-None-clause-walk g c =
    let stop = c.loop-k-test.false in
    let end = c.loop-k.auto.k-end in
    let all : c.loop-k.k ≡ c.div_ceil-bundles.result = omega (arith, stop, end) in
    let n = bundle-count c.div_ceil-bundles.result c.args.words.now.frames _ _ c.div_ceil-bundles.ensures
    c.args.words.now.shape.1 c.requires.ready.table.is_shape.frames in
    walked-dry c.args.most c.args.home c.loop-k.k _ _ (all ∙ n)
    (subst (λ last. IsUnderWay c.args.most c.args.home c.loop-k.k last (view c.args.pass.now)
    (view c.loop-k.pass)) c.in-None.is c.loop-k.invariant.walked)
