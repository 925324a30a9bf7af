use Rattle.vm_guard.proofs.Prelude.{arith, refl, view, ◌+◌, ◌<◌, ◌≡◌, ◌≤◌}
use Rattle.vm_guard.proofs.fresh_pages.next_room.Goals as goal

pub returns-then-pages-next-clause-full : goal.returns-then-pages-next-clause-full
returns-then-pages-next-clause-full g c =
    let told = c.nload-found.ensures.told in
    let v = view c.args.pass.now in
    let there : c.args.words.now.pages ≡ v.start.pages = omega (arith, c.args.words.now.shape.0, c.requires.ready.table.is_shape.pages) in
    let past : c.args.words.now.pages < c.nload-found.result + c.args.n = omega (arith, c.if-pages-next.true, told.inside, there) in
    record { asked = refl; there = there; full = past; loaded = told }

pub returns-clause-room : goal.returns-clause-room
returns-clause-room g c =
    let told = c.nload-found.ensures.told in
    let room : c.nload-found.result + c.args.n ≤ (view c.args.pass.now).start.pages =
    omega (
      arith,
      c.if-pages-next.false,
      told.inside,
      c.args.words.now.shape.0,
      c.requires.ready.table.is_shape.pages,
    ) in
    record { loaded = told; room = room }
