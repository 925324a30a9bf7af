use Rattle.std.proofs.Common.{◌++◌, ◌+◌, ◌∙◌, ◌≡◌, ap, arith, length, List, refl, subst, sym, ℕ}
use Rattle.std.proofs.lemmas.List.{length-append}
use Rattle.vm_step.specs.Prelude.{AreHeld, view}
use Rattle.vm_tree_read.specs.from_vm_exmap.declared_interface_Alloc_TheVariants as allocs
use Rattle.vm_tree_read.specs.from_vm_exmap.Returns.{IsFreed}
use Rattle.vm_tree_read.specs.Waiting.{LosesNone}
use Rattle.vm_tree_read.proofs.Losing.{alloc-loses, freed-loses, loses-then}
use Rattle.vm_tree_draft.proofs.Framing.{alloc-beside, alloc-keeps, alloc-more, freed-keeps, keeps-then}
use Rattle.vm_tree_split.proofs.Losing.{refused-loses}
use Rattle.vm_tree_split.proofs.prepare.second_frame.Goals as goal

pub returns-in-Batch-clause-moves : goal.returns-in-Batch-clause-moves
returns-in-Batch-clause-moves g c =
    let m = alloc-more c.args.iface.now.home c.args.iface.now.cap 1 c.args.iface.now.frames c.alloc.new.self.frames
    c.in-Batch.more (view c.args.pass.now) (view c.alloc.new.pass) c.in-Batch.ensures.answer in
    (m.done, m.moves)

pub returns-in-Batch-clause-ok : goal.returns-in-Batch-clause-ok
returns-in-Batch-clause-ok g c =
    let is : c.append.new.self ≡ c.args.frames ++ c.in-Batch.more =
    c.append.ensures ∙ ap (λ (l : List ℕ). c.args.frames ++ l) c.as_slice.ensures.value in
    let some = c.in-Batch.ensures.some c.in-Batch.more refl in
    let long : length c.append.new.self ≡ length c.args.frames + length c.in-Batch.more =
    ap (λ (l : List ℕ). length l) is ∙ length-append c.args.frames c.in-Batch.more in
    let one = c.requires.one in (
      omega (arith, long, one, some.0, some.1),
      subst (λ (l : List ℕ). AreHeld (l ++ c.alloc.new.self.frames) (view c.alloc.new.pass)) (sym is)
          (alloc-beside c.args.iface.now.home c.args.iface.now.cap 1 c.args.frames c.args.iface.now.frames
          c.alloc.new.self.frames c.in-Batch.more (view c.args.pass.now) (view c.alloc.new.pass) c.requires.frames
          (c.in-Batch.ensures.batch c.in-Batch.more refl) c.in-Batch.ensures.answer),
    )

pub returns-in-Dry-clause-err : goal.returns-in-Dry-clause-err
returns-in-Dry-clause-err g c = (
  c.free.ensures.held,
  (
    allocs.Dry,
    record {
      home = c.args.iface.now.home;
      cap = c.args.iface.now.cap;
      old = c.args.iface.now.frames;
      empty = c.alloc.new.self.frames;
      new = c.free.new.self.frames;
      between = view c.alloc.new.pass;
      alloc = c.in-Dry.ensures.answer;
      freed = subst (λ (n : ℕ). IsFreed n c.alloc.new.self.frames c.args.frames c.free.new.self.frames
          (view c.alloc.new.pass) (view c.free.new.pass)) c.alloc.ensures.same.1 c.free.ensures.freed;
    },
    refl,
  ),
)

pub returns-in-Again-clause-err : goal.returns-in-Again-clause-err
returns-in-Again-clause-err g c = (
  c.free-in-Again.ensures.held,
  (
    allocs.Again c.in-Again.saw,
    record {
      home = c.args.iface.now.home;
      cap = c.args.iface.now.cap;
      old = c.args.iface.now.frames;
      empty = c.alloc.new.self.frames;
      new = c.free-in-Again.new.self.frames;
      between = view c.alloc.new.pass;
      alloc = c.in-Again.ensures.answer;
      freed = subst (λ (n : ℕ). IsFreed n c.alloc.new.self.frames c.args.frames c.free-in-Again.new.self.frames
          (view c.alloc.new.pass) (view c.free-in-Again.new.pass)) c.alloc.ensures.same.1
          c.free-in-Again.ensures.freed;
    },
    refl,
  ),
)

pub returns-in-Batch-clause-lost : goal.returns-in-Batch-clause-lost
returns-in-Batch-clause-lost g c =
    let is : c.append.new.self ≡ c.args.frames ++ c.in-Batch.more =
    c.append.ensures ∙ ap (λ (l : List ℕ). c.args.frames ++ l) c.as_slice.ensures.value in
    subst (λ (l : List ℕ). LosesNone (c.args.frames ++ c.args.iface.now.frames) (view c.args.pass.now)
    (l ++ c.alloc.new.self.frames) (view c.alloc.new.pass)) (sym is)
    (alloc-loses c.args.iface.now.home c.args.iface.now.cap 1 c.args.frames c.args.iface.now.frames
    c.alloc.new.self.frames c.in-Batch.more (view c.args.pass.now) (view c.alloc.new.pass)
    c.in-Batch.ensures.answer)

pub returns-in-Dry-clause-lost_none : goal.returns-in-Dry-clause-lost_none
returns-in-Dry-clause-lost_none g c =
    loses-then (c.args.frames ++ c.args.iface.now.frames) (c.alloc.new.self.frames ++ c.args.frames)
    c.free.new.self.frames (view c.args.pass.now) (view c.alloc.new.pass) (view c.free.new.pass)
    (refused-loses c.args.frames c.args.iface.now.frames c.alloc.new.self.frames _ (view c.args.pass.now)
    (view c.alloc.new.pass) c.in-Dry.ensures.answer.refused) (freed-loses _ _ _ _ _ _ c.free.ensures.freed)

pub returns-in-Again-clause-lost_none : goal.returns-in-Again-clause-lost_none
returns-in-Again-clause-lost_none g c =
    loses-then (c.args.frames ++ c.args.iface.now.frames) (c.alloc.new.self.frames ++ c.args.frames)
    c.free-in-Again.new.self.frames (view c.args.pass.now) (view c.alloc.new.pass) (view c.free-in-Again.new.pass)
    (refused-loses c.args.frames c.args.iface.now.frames c.alloc.new.self.frames _ (view c.args.pass.now)
    (view c.alloc.new.pass) c.in-Again.ensures.answer.refused)
    (freed-loses _ _ _ _ _ _ c.free-in-Again.ensures.freed)

pub returns-in-Again-clause-sure : goal.returns-in-Again-clause-sure
returns-in-Again-clause-sure g c alone = c.in-Again.ensures.sure alone

pub returns-in-Batch-clause-keeps : goal.returns-in-Batch-clause-keeps
returns-in-Batch-clause-keeps g c =
    alloc-keeps c.args.iface.now.home c.args.iface.now.cap 1 c.args.iface.now.frames c.alloc.new.self.frames
    (view c.args.pass.now) (view c.alloc.new.pass) (allocs.Batch c.in-Batch.more) c.in-Batch.ensures.answer

pub returns-in-Dry-clause-keeps : goal.returns-in-Dry-clause-keeps
returns-in-Dry-clause-keeps g c =
    keeps-then (view c.args.pass.now) (view c.alloc.new.pass) (view c.free.new.pass)
    (alloc-keeps c.args.iface.now.home c.args.iface.now.cap 1 c.args.iface.now.frames c.alloc.new.self.frames
    (view c.args.pass.now) (view c.alloc.new.pass) allocs.Dry c.in-Dry.ensures.answer)
    (freed-keeps _ _ _ _ _ _ c.free.ensures.freed)

pub returns-in-Again-clause-keeps : goal.returns-in-Again-clause-keeps
returns-in-Again-clause-keeps g c =
    keeps-then (view c.args.pass.now) (view c.alloc.new.pass) (view c.free-in-Again.new.pass)
    (alloc-keeps c.args.iface.now.home c.args.iface.now.cap 1 c.args.iface.now.frames c.alloc.new.self.frames
    (view c.args.pass.now) (view c.alloc.new.pass) (allocs.Again c.in-Again.saw) c.in-Again.ensures.answer)
    (freed-keeps _ _ _ _ _ _ c.free-in-Again.ensures.freed)
