use Rattle.std.proofs.Common.{[], ⊎_elim, ◌++◌, ◌∙◌, ◌≡◌, ◌≢◌, arith, length, List, refl, subst, ℕ}
use Rattle.std.proofs.lemmas.Result.{IfErr-weaker, IfOk-weaker}
use Rattle.vm_step.specs.Prelude.{AreHeld, Did, view}
use Rattle.vm_step.proofs.Alone.{still-alone}
use Rattle.vm_tree_read.specs.from_vm_exmap.{Frames.MovesFrames, Walks.IsAlloc}
use Rattle.vm_tree_read.specs.from_vm_exmap.declared_interface_Alloc_TheVariants as allocs
use Rattle.vm_tree_read.specs.Waiting.{LosesNone}
use Rattle.vm_tree_read.proofs.Losing.{alloc-loses, loses-then, refused-alone}
use Rattle.vm_tree_split.specs.{Prepares.IsShort.after_one, Prepares.IsShort.at_once, Prepares.LacksFrames, Prepares.LacksSecond}
use Rattle.vm_tree_draft.proofs.Framing.{alloc-keeps, alloc-more, keeps-then, more-then}
use Rattle.vm_tree_split.proofs.prepare.frames_for.Goals as goal

pub returns-in-Dry-clause-err : goal.returns-in-Dry-clause-err
returns-in-Dry-clause-err g c = (
  c.in-Dry.ensures.held,
  (
    allocs.Dry,
    at_once c.args.iface.now.home c.args.iface.now.cap c.args.iface.now.frames c.alloc.new.self.frames
        c.in-Dry.ensures.answer,
    refl,
  ),
)

pub returns-in-Again-clause-err : goal.returns-in-Again-clause-err
returns-in-Again-clause-err g c = (
  c.in-Again.ensures.held,
  (
    allocs.Again c.in-Again.saw,
    at_once c.args.iface.now.home c.args.iface.now.cap c.args.iface.now.frames
        c.alloc.new.self.frames c.in-Again.ensures.answer,
    refl,
  ),
)

pub returns-then-len-n-clause-keeps : goal.returns-then-len-n-clause-keeps
returns-then-len-n-clause-keeps g c = alloc-keeps c.args.iface.now.home c.args.iface.now.cap c.args.n
    c.args.iface.now.frames c.alloc.new.self.frames (view c.args.pass.now) (view c.alloc.new.pass)
    (allocs.Batch c.in-Batch.batch) c.in-Batch.ensures.answer

pub returns-then-len-n-clause-moves : goal.returns-then-len-n-clause-moves
returns-then-len-n-clause-moves g c =
    let m = alloc-more c.args.iface.now.home c.args.iface.now.cap c.args.n c.args.iface.now.frames
    c.alloc.new.self.frames c.in-Batch.batch (view c.args.pass.now) (view c.alloc.new.pass)
    c.in-Batch.ensures.answer in
    (m.done, m.moves)

pub returns-clause-keeps : goal.returns-clause-keeps
returns-clause-keeps g c =
    keeps-then (view c.args.pass.now) (view c.alloc.new.pass) (view c.second_frame.new.pass)
    (alloc-keeps c.args.iface.now.home c.args.iface.now.cap c.args.n c.args.iface.now.frames c.alloc.new.self.frames
    (view c.args.pass.now) (view c.alloc.new.pass) (allocs.Batch c.in-Batch.batch) c.in-Batch.ensures.answer)
    c.second_frame.ensures.keeps

pub returns-clause-moves : goal.returns-clause-moves
returns-clause-moves g c =
    let m = alloc-more c.args.iface.now.home c.args.iface.now.cap c.args.n c.args.iface.now.frames
    c.alloc.new.self.frames c.in-Batch.batch (view c.args.pass.now) (view c.alloc.new.pass)
    c.in-Batch.ensures.answer in
    IfOk-weaker c.second_frame.result
    (λ _. (done : List Did) × MovesFrames done (view c.alloc.new.pass) (view c.second_frame.new.pass))
    (λ _. (done : List Did) × MovesFrames done (view c.args.pass.now) (view c.second_frame.new.pass))
    (λ _ k. more-then (view c.args.pass.now) (view c.alloc.new.pass) (view c.second_frame.new.pass) m k) c.second_frame.ensures.moves

pub returns-clause-err : goal.returns-clause-err
returns-clause-err g c =
    let many = c.in-Batch.ensures.some c.in-Batch.batch refl in
    let not : length c.in-Batch.batch ≢ c.args.n = λ e. c.if-len-n.false (c.len.ensures.value ∙ e) in
    let two : c.args.n ≡ 2 = ⊎_elim (λ (a : c.args.n ≡ 1). absurd (not (omega (arith, a, many.0, many.1)))) (λ b. b) c.requires.count in
    let one : length c.in-Batch.batch ≡ 1 = omega (arith, two, many.0, many.1, not) in
    IfErr-weaker c.second_frame.result
    (λ answer. AreHeld c.second_frame.new.iface.frames (view c.second_frame.new.pass) × LacksSecond c.in-Batch.batch
    answer (view c.alloc.new.pass) (view c.second_frame.new.pass))
    (λ answer. AreHeld c.second_frame.new.iface.frames (view c.second_frame.new.pass) × LacksFrames c.args.n answer
    (view c.args.pass.now) (view c.second_frame.new.pass))
    (λ answer k. (
      k.0,
      (
        k.1.0,
        after_one c.args.iface.now.home c.args.iface.now.cap c.args.iface.now.frames c.alloc.new.self.frames
            c.in-Batch.batch (view c.alloc.new.pass) two one
            (subst (λ (m : ℕ). IsAlloc c.args.iface.now.home c.args.iface.now.cap m c.args.iface.now.frames
            c.alloc.new.self.frames (view c.args.pass.now) (view c.alloc.new.pass)
            (allocs.Batch c.in-Batch.batch)) two c.in-Batch.ensures.answer) k.1.1,
        k.1.2,
      ),
    )) c.second_frame.ensures.err

pub returns-in-Dry-clause-lost_none : goal.returns-in-Dry-clause-lost_none
returns-in-Dry-clause-lost_none g c = refused-alone c.args.iface.now.frames c.alloc.new.self.frames _
    (view c.args.pass.now) (view c.alloc.new.pass) c.in-Dry.ensures.answer.refused

pub returns-in-Again-clause-lost_none : goal.returns-in-Again-clause-lost_none
returns-in-Again-clause-lost_none g c = refused-alone c.args.iface.now.frames c.alloc.new.self.frames _
    (view c.args.pass.now) (view c.alloc.new.pass) c.in-Again.ensures.answer.refused

pub returns-then-len-n-clause-lost : goal.returns-then-len-n-clause-lost
returns-then-len-n-clause-lost g c = alloc-loses c.args.iface.now.home c.args.iface.now.cap c.args.n []
    c.args.iface.now.frames c.alloc.new.self.frames c.in-Batch.batch (view c.args.pass.now) (view c.alloc.new.pass)
    c.in-Batch.ensures.answer

pub returns-clause-lost : goal.returns-clause-lost
returns-clause-lost g c =
    let first = alloc-loses c.args.iface.now.home c.args.iface.now.cap c.args.n [] c.args.iface.now.frames
    c.alloc.new.self.frames c.in-Batch.batch (view c.args.pass.now) (view c.alloc.new.pass)
    c.in-Batch.ensures.answer in
    IfOk-weaker c.second_frame.result
    (λ both. LosesNone (c.in-Batch.batch ++ c.alloc.new.self.frames) (view c.alloc.new.pass)
    (both ++ c.second_frame.new.iface.frames) (view c.second_frame.new.pass))
    (λ both. LosesNone c.args.iface.now.frames (view c.args.pass.now) (both ++ c.second_frame.new.iface.frames)
    (view c.second_frame.new.pass))
    (λ both k. loses-then c.args.iface.now.frames (c.in-Batch.batch ++ c.alloc.new.self.frames)
    (both ++ c.second_frame.new.iface.frames) (view c.args.pass.now) (view c.alloc.new.pass)
    (view c.second_frame.new.pass) first k) c.second_frame.ensures.lost

pub returns-clause-lost_none : goal.returns-clause-lost_none
returns-clause-lost_none g c =
    let first = alloc-loses c.args.iface.now.home c.args.iface.now.cap c.args.n [] c.args.iface.now.frames
    c.alloc.new.self.frames c.in-Batch.batch (view c.args.pass.now) (view c.alloc.new.pass)
    c.in-Batch.ensures.answer in
    IfErr-weaker c.second_frame.result
    (λ answer. LosesNone (c.in-Batch.batch ++ c.alloc.new.self.frames) (view c.alloc.new.pass)
    c.second_frame.new.iface.frames (view c.second_frame.new.pass))
    (λ answer. LosesNone c.args.iface.now.frames (view c.args.pass.now) c.second_frame.new.iface.frames (view c.second_frame.new.pass))
    (λ answer k. loses-then c.args.iface.now.frames (c.in-Batch.batch ++ c.alloc.new.self.frames)
    c.second_frame.new.iface.frames (view c.args.pass.now) (view c.alloc.new.pass) (view c.second_frame.new.pass)
    first k) c.second_frame.ensures.lost_none

pub returns-in-Again-clause-sure : goal.returns-in-Again-clause-sure
returns-in-Again-clause-sure g c alone = c.in-Again.ensures.sure alone

pub returns-clause-sure : goal.returns-clause-sure
returns-clause-sure g c alone =
    let m = alloc-more c.args.iface.now.home c.args.iface.now.cap c.args.n c.args.iface.now.frames
    c.alloc.new.self.frames c.in-Batch.batch (view c.args.pass.now) (view c.alloc.new.pass)
    c.in-Batch.ensures.answer in
    c.second_frame.ensures.sure (still-alone (view c.args.pass.now) (view c.alloc.new.pass) m.moves.parts m.moves.alone.current alone)

pub returns-in-Dry-clause-keeps : goal.returns-in-Dry-clause-keeps
returns-in-Dry-clause-keeps g c =
    alloc-keeps c.args.iface.now.home c.args.iface.now.cap c.args.n c.args.iface.now.frames c.alloc.new.self.frames
    (view c.args.pass.now) (view c.alloc.new.pass) allocs.Dry c.in-Dry.ensures.answer

pub returns-in-Again-clause-keeps : goal.returns-in-Again-clause-keeps
returns-in-Again-clause-keeps g c =
    alloc-keeps c.args.iface.now.home c.args.iface.now.cap c.args.n c.args.iface.now.frames c.alloc.new.self.frames
    (view c.args.pass.now) (view c.alloc.new.pass) (allocs.Again c.in-Again.saw) c.in-Again.ensures.answer
