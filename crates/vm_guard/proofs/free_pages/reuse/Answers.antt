use Rattle.vm_guard.proofs.{Amid.amid-alone, FreeBits.mask-not-none, FreeSure.take-knows, FreeSure.take-sure}
use Rattle.vm_guard.proofs.{FreeSure.take-tried, Reusing.took-silent, Reusing.took-spends}
use Rattle.vm_guard.proofs.Prelude.{[], arith, held-on, inl, MayBeSeized, refl, view}
use Rattle.vm_guard.proofs.free_pages.reuse.Goals as goal

pub ptake-requires-clause-legal : goal.ptake-requires-clause-legal
ptake-requires-clause-legal g c =
    let low = c.lowest-mask.ensures in
    record { some = mask-not-none c.lowest-mask.result (omega (arith, low.count, c.requires.enough, c.requires.few)); among = low.among }

pub reuse_one-requires-clause-frames : goal.reuse_one-requires-clause-frames
reuse_one-requires-clause-frames g c =
    let f = took-spends c.in-Taken.ensures.told [] in (
      held-on c.args.frames.now (view c.args.pass.now) (view c.ptake.new.pass) c.requires.frames.0 f.amid.start
          f.keeps.frames,
      omega (arith, c.requires.frames.1, c.if-n-eq1.true),
    )

pub reuse_two-requires-clause-frames : goal.reuse_two-requires-clause-frames
reuse_two-requires-clause-frames g c =
    let f = took-spends c.in-Taken.ensures.told [] in (
      held-on c.args.frames.now (view c.args.pass.now) (view c.ptake.new.pass) c.requires.frames.0 f.amid.start
          f.keeps.frames,
      omega (arith, c.requires.frames.1, c.requires.few, c.if-n-eq1.false),
    )

pub returns-in-Lost-clause-answer : goal.returns-in-Lost-clause-answer
returns-in-Lost-clause-answer g c = (
  c.lowest-mask.result,
  c.lowest-mask.ensures,
  inl (
    _,
    refl,
    refl,
    record {
      at = refl;
      first = refl;
      other = c.in-Lost.ensures.lost c.in-Lost.seen refl;
      takes = c.in-Lost.ensures.told;
    },
  ),
)

pub returns-in-Lost-clause-sure : goal.returns-in-Lost-clause-sure
returns-in-Lost-clause-sure g c a known may =
    absurd (c.in-Lost.ensures.lost c.in-Lost.seen refl (take-sure _ _ _ _ _ _ c.in-Lost.ensures.told a known))

pub returns-in-Lost-clause-settled : goal.returns-in-Lost-clause-settled
returns-in-Lost-clause-settled g c a known none =
    absurd (c.in-Lost.ensures.lost c.in-Lost.seen refl (take-sure _ _ _ _ _ _ c.in-Lost.ensures.told a known))

pub returns-then-n-eq1-clause-sure : goal.returns-then-n-eq1-clause-sure
returns-then-n-eq1-clause-sure g c a known may =
    let t = c.in-Taken.ensures.told in
    c.reuse_one.ensures.sure (amid-alone (took-silent t []).0 a) (take-knows MayBeSeized _ _ _ _ _ t a (may _ c.lowest-mask.ensures))

pub returns-then-n-eq1-clause-settled : goal.returns-then-n-eq1-clause-settled
returns-then-n-eq1-clause-settled g c a known tried =
    let t = c.in-Taken.ensures.told in
    c.reuse_one.ensures.settled (amid-alone (took-silent t []).0 a) (take-tried _ _ _ _ _ t a (tried _ c.lowest-mask.ensures))

pub returns-else-n-eq1-clause-sure : goal.returns-else-n-eq1-clause-sure
returns-else-n-eq1-clause-sure g c a known may =
    let t = c.in-Taken.ensures.told in
    c.reuse_two.ensures.sure (amid-alone (took-silent t []).0 a) (take-knows MayBeSeized _ _ _ _ _ t a (may _ c.lowest-mask.ensures))

pub returns-else-n-eq1-clause-settled : goal.returns-else-n-eq1-clause-settled
returns-else-n-eq1-clause-settled g c a known tried =
    let t = c.in-Taken.ensures.told in
    c.reuse_two.ensures.settled (amid-alone (took-silent t []).0 a) (take-tried _ _ _ _ _ t a (tried _ c.lowest-mask.ensures))
