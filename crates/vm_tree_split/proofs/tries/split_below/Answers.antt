use Rattle.std.proofs.Common.{◌++◌, inl, inr, refl}
use Rattle.vm_step.specs.Prelude.{view}
use Rattle.vm_tree_read.proofs.from_vm_exmap.Handing.{held-on}
use Rattle.vm_tree_read.specs.from_vm_guard.Groups.{guards_of}
use Rattle.vm_tree_read.proofs.from_vm_tree_rule.Whole.{tree-size}
use Rattle.vm_tree_read.proofs.Losing.{freed-loses, loses-same, loses-then}
use Rattle.vm_tree_split.proofs.{Ends.below-ended, Ends.can-split, Under.some-taken, Under.taken-one}
use Rattle.vm_tree_split.proofs.tries.split_below.Goals as goal

pub unreachable-requires : goal.unreachable-requires
unreachable-requires g c =
    let p = c.in-Ok.ensures.ok in
    some-taken p.taken.pids (guards_of c.in-Ok.all.pages) p.taken.fresh.guards 0 p.taken.fresh.count
    (c.take_last.ensures.none c.in_default.is).0

pub end-requires : goal.end-requires
end-requires g c =
    let p = c.in-Ok.ensures.ok in
    (taken-one p.taken.pids (guards_of c.in-Ok.all.pages) p.taken.fresh.guards (guards_of c.take_last.new.self)
    c.in-Some.right p.taken.fresh.count c.in-Some.ensures.some).0

pub write_split-requires-clause-can : goal.write_split-requires-clause-can
write_split-requires-clause-can g c =
    let p = c.in-Ok.ensures.ok in
    let one = (taken-one p.taken.pids (guards_of c.in-Ok.all.pages) p.taken.fresh.guards
    (guards_of c.take_last.new.self) c.in-Some.right p.taken.fresh.count c.in-Some.ensures.some).1 in
    let met = c.requires.met in
    can-split g.K.Kind.plain g.K.Kind.layout g.K.Kind.is_layout g.K.Kind.spare c.args.parent c.args.node
    c.in-Ok.all.up c.in-Ok.all.low c.in-Some.right (guards_of c.in-Ok.all.pages) (view c.args.pass.now)
    (view c.prepare.new.pass) p one met.0 met.1 (g.K.Pages.words_of c.args.over.now)
    (g.K.Pages.words_of c.args.page.now) met.2 c.requires.size
    (tree-size _ _ _ c.requires.ready.table.is_shape.size c.args.words.now.sized.0 c.args.words.now.size.takes) c.requires.home

pub free-requires-clause-frames : goal.free-requires-clause-frames
free-requires-clause-frames g c =
    let d = c.write_split.ensures.split.done in
    held-on _ (view c.prepare.new.pass) (view c.write_split.new.pass) c.in-Ok.ensures.held d.start d.frames

pub returns-clause-keeps : goal.returns-clause-keeps
returns-clause-keeps g c =
    let p = c.in-Ok.ensures.ok in
    let one = (taken-one p.taken.pids (guards_of c.in-Ok.all.pages) p.taken.fresh.guards
    (guards_of c.take_last.new.self) c.in-Some.right p.taken.fresh.count c.in-Some.ensures.some).1 in
    let met = c.requires.met in
    let back = c.free.ensures.freed.back in
    (below-ended g.K.Kind.plain g.K.Kind.layout g.K.Kind.is_layout g.K.Kind.spare c.args.parent c.args.node
    c.in-Ok.all.up c.in-Ok.all.low c.in-Some.right (guards_of c.in-Ok.all.pages) (view c.args.pass.now)
    (view c.prepare.new.pass) p one met.0 met.1 (g.K.Pages.words_of c.args.over.now)
    (g.K.Pages.words_of c.args.page.now) met.2 c.requires.size
    (tree-size _ _ _ c.requires.ready.table.is_shape.size c.args.words.now.sized.0 c.args.words.now.size.takes)
    c.requires.home back.done (view c.write_split.new.pass) (view c.free.new.pass) c.write_split.ensures.split
    back.moves).0

pub returns-clause-cause : goal.returns-clause-cause
returns-clause-cause g c =
    let p = c.in-Ok.ensures.ok in
    let one = (taken-one p.taken.pids (guards_of c.in-Ok.all.pages) p.taken.fresh.guards
    (guards_of c.take_last.new.self) c.in-Some.right p.taken.fresh.count c.in-Some.ensures.some).1 in
    let met = c.requires.met in
    let back = c.free.ensures.freed.back in
    inl (
      refl,
      (below-ended g.K.Kind.plain g.K.Kind.layout g.K.Kind.is_layout g.K.Kind.spare c.args.parent c.args.node
          c.in-Ok.all.up c.in-Ok.all.low c.in-Some.right (guards_of c.in-Ok.all.pages) (view c.args.pass.now)
          (view c.prepare.new.pass) p one met.0 met.1 (g.K.Pages.words_of c.args.over.now)
          (g.K.Pages.words_of c.args.page.now) met.2 c.requires.size
          (tree-size _ _ _ c.requires.ready.table.is_shape.size c.args.words.now.sized.0 c.args.words.now.size.takes)
          c.requires.home back.done (view c.write_split.new.pass) (view c.free.new.pass)
          c.write_split.ensures.split back.moves).1,
    )

pub returns-in-Err-clause-cause : goal.returns-in-Err-clause-cause
returns-in-Err-clause-cause g c = inr c.in-Err.ensures.err.2

pub returns-in-Err-clause-lost : goal.returns-in-Err-clause-lost
returns-in-Err-clause-lost g c = c.in-Err.ensures.lost_none

pub returns-clause-lost : goal.returns-clause-lost
returns-clause-lost g c =
    let all = c.prepare.new.iface.frames ++ c.in-Ok.all.frames in
    loses-then c.args.iface.now.frames all c.free.new.self.frames (view c.args.pass.now) (view c.prepare.new.pass)
    (view c.free.new.pass) c.in-Ok.ensures.lost
    (loses-then all all c.free.new.self.frames (view c.prepare.new.pass) (view c.write_split.new.pass) (view c.free.new.pass)
    (loses-same all all (view c.prepare.new.pass) (view c.write_split.new.pass)
    c.write_split.ensures.split.done.frames (λ n e. e)) (freed-loses _ _ _ _ _ _ c.free.ensures.freed))

pub returns-in-Err-clause-sure : goal.returns-in-Err-clause-sure
returns-in-Err-clause-sure g c k = c.in-Err.ensures.sure k
