use Rattle.vm_step.proofs.Prelude.{arith, ◌*◌, ◌≡◌}
use Rattle.vm_step.proofs.layout.spare_place.Goals as goal

pub returns-clause-place : goal.returns-clause-place
returns-clause-place g c start has =
    let key = c.args.words.now.table.shared.key in
    let all : start.size * start.frames ≡ key.size * key.frames = λ i. has.size i * has.frames i in
    omega (arith, all, has.pages, has.frames, c.behind_frames.ensures.place, c.div_ceil.ensures, c.args.words.now.shape.1)

pub returns-clause-inside : goal.returns-clause-inside
returns-clause-inside g c =
    omega (
      arith,
      c.behind_frames.ensures.place,
      c.args.words.now.wide.0,
      c.div_ceil.ensures,
      c.args.words.now.shape.1,
      c.requires,
    )
