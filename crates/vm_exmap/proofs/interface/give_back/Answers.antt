-- The bits of each bundle are those of the frames that are left there.
use Rattle.vm_exmap.proofs.{interface.give_back.Goals.else-mask-ne0, interface.give_back.Goals.then-mask-ne0, Walking.bundle-count}
use Rattle.vm_exmap.proofs.Prelude.{arith, subst, view, ◌<◌, ◌∙◌, ◌≡◌}
use Rattle.vm_exmap.proofs.Returning.{all-given, given-more, given-none, may-give}
use Rattle.vm_supply.proofs.from_vm_step.Going.{goes-then}
use Rattle.vm_exmap.proofs.interface.give_back.Goals as goal

pub give-requires-clause-legal : goal.give-requires-clause-legal
give-requires-clause-legal g c =
    may-give c.args.frames.now c.loop-g.g c.mask_of-mask.result (view c.args.pass.now) (view c.loop-g.pass)
    c.loop-g.invariant.given c.mask_of-mask.ensures c.requires.frames c.if-mask-ne0.true

pub loop-g-preserved : goal.loop-g-preserved
loop-g-preserved g c =
    elim c.if-mask-ne0.branch [
      | then-mask-ne0 w ↦
          let given = given-more c.args.frames.now c.loop-g.g c.mask_of-mask.result (view c.args.pass.now)
          (view c.loop-g.pass) c.loop-g.invariant.given c.mask_of-mask.ensures w.give.result
          (view w.give.new.pass)
          (subst (λ n. c.loop-g.g < n)
          (bundle-count c.div_ceil-bundles.result c.args.words.now.frames _ _ c.div_ceil-bundles.ensures
          c.args.words.now.shape.1 c.requires.ready.table.is_shape.frames) c.loop-g-test.true)
          w.give.ensures.told in
          rw w.pass-is (record { goes = goes-then c.loop-g.invariant.goes w.give.ensures.goes; given = given })
      | else-mask-ne0 w ↦
          rw w.pass-is
          (record {
            goes = c.loop-g.invariant.goes;
            given = given-none c.args.frames.now c.loop-g.g c.mask_of-mask.result (view c.args.pass.now)
                (view c.loop-g.pass) c.loop-g.invariant.given c.mask_of-mask.ensures w.if-mask-ne0.false;
          })
    ]

pub returns-clause-given : goal.returns-clause-given
returns-clause-given g c =
    all-given c.args.frames.now c.loop-g.g (view c.args.pass.now) (view c.loop-g.pass)
    (let stop = c.loop-g-test.false in let end = c.loop-g.auto.g-end in
    (let same : c.loop-g.g ≡ c.div_ceil-bundles.result = omega (arith, stop, end) in same)
    ∙ bundle-count c.div_ceil-bundles.result c.args.words.now.frames _ _ c.div_ceil-bundles.ensures
    c.args.words.now.shape.1 c.requires.ready.table.is_shape.frames)
    c.requires.frames
    c.loop-g.invariant.given
