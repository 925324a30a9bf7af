use Rattle.std.proofs.Common.{◌++◌, ◌∙◌, arith, inl, inr, refl, sym}
use Rattle.vm_step.specs.Prelude.{view}
use Rattle.vm_tree_read.proofs.from_vm_exmap.Handing.{held-on}
use Rattle.vm_tree_read.specs.from_vm_guard.Groups.{guards_of}
use Rattle.vm_tree_read.proofs.from_vm_tree_rule.Whole.{tree-size}
use Rattle.vm_tree_read.proofs.Losing.{freed-loses, loses-same, loses-then}
use Rattle.vm_tree_split.proofs.{Ends.can-at, Ends.can-split-root, Ends.root-ended, Under.other-taken, Under.some-taken, Under.taken-two}
use Rattle.vm_tree_split.proofs.tries.split_root.Goals as goal

pub unreachable-requires : goal.unreachable-requires
unreachable-requires g c =
    let p = c.in-Ok.ensures.ok in
    some-taken p.taken.pids (guards_of c.in-Ok.all.pages) p.taken.fresh.guards 1 p.taken.fresh.count
    (c.take_last.ensures.none c.in_default.is).0

pub unreachable-requires-in_default-take_last : goal.unreachable-requires-in_default-take_last
unreachable-requires-in_default-take_last g c =
    let p = c.in-Ok.ensures.ok in
    other-taken p.taken.pids (guards_of c.in-Ok.all.pages) p.taken.fresh.guards (guards_of c.take_last.new.self)
    c.in-Some.top p.taken.fresh.count c.in-Some.ensures.some
    (c.take_last-2.ensures.none c.in_default-take_last.is).0

pub end-requires : goal.end-requires
end-requires g c =
    let p = c.in-Ok.ensures.ok in
    (taken-two p.taken.pids (guards_of c.in-Ok.all.pages) p.taken.fresh.guards (guards_of c.take_last.new.self)
    (guards_of c.take_last-2.new.self) c.in-Some-take_last.right c.in-Some.top p.taken.fresh.count
    c.in-Some.ensures.some c.in-Some-take_last.ensures.some).0

pub write_root-requires-clause-can : goal.write_root-requires-clause-can
write_root-requires-clause-can g c =
    let p = c.in-Ok.ensures.ok in
    let two = (taken-two p.taken.pids (guards_of c.in-Ok.all.pages) p.taken.fresh.guards
    (guards_of c.take_last.new.self) (guards_of c.take_last-2.new.self) c.in-Some-take_last.right c.in-Some.top
    p.taken.fresh.count c.in-Some.ensures.some c.in-Some-take_last.ensures.some).1 in
    let met = c.requires.met in
    let pages = c.requires.ready.table.is_shape.pages in
    let shape = c.args.words.now.shape in
    can-at g.K.Kind.layout g.K.Kind.spare c.in-Ok.all.up c.in-Ok.all.low c.in-Some-take_last.right c.in-Some.top
    c.args.height c.to_grow.result (g.K.Pages.words_of c.args.page.now) (view c.prepare.new.pass)
    (λ tells. let low = met.2.named.height (c.requires.ready.table.tells_is ∙ sym c.in-Ok.ensures.goes.ready.table.tells_is ∙ tells) in
    c.to_grow.ensures.same (omega (arith, low, pages, shape.0, shape.2)))
    (can-split-root g.K.Kind.plain g.K.Kind.layout g.K.Kind.is_layout g.K.Kind.spare c.args.meta c.args.root
    c.in-Ok.all.up c.in-Ok.all.low c.in-Some-take_last.right c.in-Some.top (guards_of c.in-Ok.all.pages)
    (view c.args.pass.now) (view c.prepare.new.pass) p two met.0 met.1 c.args.height
    (g.K.Pages.words_of c.args.page.now) met.2 c.requires.size
    (tree-size _ _ _ c.requires.ready.table.is_shape.size c.args.words.now.sized.0 c.args.words.now.size.takes) c.requires.home)

pub write_root-requires-clause-room : goal.write_root-requires-clause-room
write_root-requires-clause-room g c = c.to_grow.ensures.fits

pub free-requires-clause-frames : goal.free-requires-clause-frames
free-requires-clause-frames g c =
    let d = c.write_root.ensures.split.done in
    held-on _ (view c.prepare.new.pass) (view c.write_root.new.pass) c.in-Ok.ensures.held d.start d.frames

pub returns-clause-keeps : goal.returns-clause-keeps
returns-clause-keeps g c =
    let p = c.in-Ok.ensures.ok in
    let two = (taken-two p.taken.pids (guards_of c.in-Ok.all.pages) p.taken.fresh.guards
    (guards_of c.take_last.new.self) (guards_of c.take_last-2.new.self) c.in-Some-take_last.right c.in-Some.top
    p.taken.fresh.count c.in-Some.ensures.some c.in-Some-take_last.ensures.some).1 in
    let met = c.requires.met in
    let back = c.free.ensures.freed.back in
    (root-ended g.K.Kind.plain g.K.Kind.layout g.K.Kind.is_layout g.K.Kind.spare c.args.meta c.args.root
    c.in-Ok.all.up c.in-Ok.all.low c.in-Some-take_last.right c.in-Some.top (guards_of c.in-Ok.all.pages)
    (view c.args.pass.now) (view c.prepare.new.pass) p two met.0 met.1 c.args.height
    (g.K.Pages.words_of c.args.page.now) met.2 c.requires.size
    (tree-size _ _ _ c.requires.ready.table.is_shape.size c.args.words.now.sized.0 c.args.words.now.size.takes)
    c.requires.home back.done (view c.write_root.new.pass) (view c.free.new.pass) c.write_root.ensures.split
    back.moves).0

pub returns-clause-cause : goal.returns-clause-cause
returns-clause-cause g c =
    let p = c.in-Ok.ensures.ok in
    let two = (taken-two p.taken.pids (guards_of c.in-Ok.all.pages) p.taken.fresh.guards
    (guards_of c.take_last.new.self) (guards_of c.take_last-2.new.self) c.in-Some-take_last.right c.in-Some.top
    p.taken.fresh.count c.in-Some.ensures.some c.in-Some-take_last.ensures.some).1 in
    let met = c.requires.met in
    let back = c.free.ensures.freed.back in
    inl (
      refl,
      (root-ended g.K.Kind.plain g.K.Kind.layout g.K.Kind.is_layout g.K.Kind.spare c.args.meta c.args.root
          c.in-Ok.all.up c.in-Ok.all.low c.in-Some-take_last.right c.in-Some.top (guards_of c.in-Ok.all.pages)
          (view c.args.pass.now) (view c.prepare.new.pass) p two met.0 met.1 c.args.height
          (g.K.Pages.words_of c.args.page.now) met.2 c.requires.size
          (tree-size _ _ _ c.requires.ready.table.is_shape.size c.args.words.now.sized.0 c.args.words.now.size.takes)
          c.requires.home back.done (view c.write_root.new.pass) (view c.free.new.pass) c.write_root.ensures.split
          back.moves).1,
    )

pub returns-in-Err-clause-cause : goal.returns-in-Err-clause-cause
returns-in-Err-clause-cause g c = inr c.in-Err.ensures.err.2

pub returns-in-Err-clause-lost : goal.returns-in-Err-clause-lost
returns-in-Err-clause-lost g c = c.in-Err.ensures.lost_none

pub returns-clause-lost : goal.returns-clause-lost
returns-clause-lost g c =
    let all = c.prepare.new.iface.frames ++ c.in-Ok.all.frames in
    loses-then c.args.iface.now.frames all c.free.new.self.frames (view c.args.pass.now) (view c.prepare.new.pass)
    (view c.free.new.pass) c.in-Ok.ensures.lost
    (loses-then all all c.free.new.self.frames (view c.prepare.new.pass) (view c.write_root.new.pass) (view c.free.new.pass)
    (loses-same all all (view c.prepare.new.pass) (view c.write_root.new.pass) c.write_root.ensures.split.done.frames
    (λ n e. e)) (freed-loses _ _ _ _ _ _ c.free.ensures.freed))

pub returns-in-Err-clause-sure : goal.returns-in-Err-clause-sure
returns-in-Err-clause-sure g c k = c.in-Err.ensures.sure k
