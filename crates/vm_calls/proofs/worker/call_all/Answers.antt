use Rattle.std.proofs.Common.{[], ◌++◌, ◌+◌, ◌<◌, ◌∙◌, ◌∷◌, ◌≡◌, drop, get_or, length, List, refl, subst}
use Rattle.std.proofs.lemmas.List.{drop_more, take_more}
use Rattle.vm_map.specs.{declared.call.Call.Call}
use Rattle.vm_map.specs.declared.call.Call.TheVariants.{Get}
use Rattle.vm_step.specs.Prelude.{view}
use Rattle.vm_tree_range.proofs.from_vm_tree_read.Losing.{loses-same, loses-then}
use Rattle.vm_calls.proofs.{Chain.calls-snoc}
use Rattle.vm_calls.specs.{Kept.IsRoomFor, Spans.HasSpans, TreeCalls.word_calls}
use Rattle.vm_calls.proofs.{Memory.spans-after, Shortening.room-after, Shortening.room-now}
use Rattle.vm_calls.proofs.worker.call_all.Goals as goal

pub calls-preserved : goal.calls-preserved
calls-preserved g c =
    let inv = c.calls.invariant in
    let calls = c.args.calls.now in
    let inside : c.calls.call-index < length calls = c.calls-test.true in
    let call = get_or calls c.calls.call-index (Get 0) in
    let rest = drop (c.calls.call-index + 1) calls in
    let first : drop c.calls.call-index calls ≡ call ∷ rest = drop_more calls c.calls.call-index (Get 0) inside in
    record {
      work = record {
        ready = c.answer-answer.ensures.ready;
        pages = inv.work.pages;
        home = c.answer-answer.ensures.keeps.out ∙ inv.work.home;
        frames = c.answer-answer.ensures.held;
      };
      done = record {
        told = inv.done.told ++ c.answer-answer.result ∷ [];
        stands = c.keep.ensures.told inv.done.told inv.done.stands;
        each = rw (take_more calls c.calls.call-index (Get 0) inside)
            (calls-snoc (word_calls g.row.N) _ _ _ _ _ _ _ inv.done.each c.answer-answer.ensures.call);
      };
      lost = loses-then c.args.worker.now.iface.frames c.calls.worker.iface.frames c.answer-answer.new.iface.frames
          (view c.args.worker.now.pass) (view c.calls.worker.pass) (view c.answer-answer.new.pass) inv.lost
          c.answer-answer.ensures.lost;
      room = room-after g.row.N call rest c.answer-answer.result _ _ _ _
          (subst (λ (l : List Call). IsRoomFor l (g.A.Answers.room c.calls.worker.answers)) first inv.room)
          c.answer-answer.ensures.call c.keep.ensures.answers c.keep.ensures.windows c.keep.ensures.spans;
      spans = spans-after g.row.N call rest c.calls.worker.memory.items c.answer-answer.new.spans.items
          (subst (λ (l : List Call). HasSpans g.row.N l c.calls.worker.memory.items) first inv.spans)
          c.answer-answer.ensures.spans c.answer-answer.ensures.empty;
    }

pub calls-init : goal.calls-init
calls-init g c = record {
  work = c.requires.work;
  done = record { told = []; stands = c.requires.fresh; each = refl };
  lost = loses-same c.args.worker.now.iface.frames c.args.worker.now.iface.frames (view c.args.worker.now.pass)
      (view c.args.worker.now.pass) refl (λ f e. e);
  room = c.requires.room;
  spans = c.requires.spans;
}

pub keep-requires-clause-answers : goal.keep-requires-clause-answers
keep-requires-clause-answers g c =
    (room-now g.row.N (get_or c.args.calls.now c.calls.call-index (Get 0))
    (drop (c.calls.call-index + 1) c.args.calls.now) c.answer-answer.result _ _ _
    (subst (λ (l : List Call). IsRoomFor l (g.A.Answers.room c.calls.worker.answers))
    (drop_more c.args.calls.now c.calls.call-index (Get 0) c.calls-test.true) c.calls.invariant.room)
    c.answer-answer.ensures.call).0

pub keep-requires-clause-windows : goal.keep-requires-clause-windows
keep-requires-clause-windows g c =
    (room-now g.row.N (get_or c.args.calls.now c.calls.call-index (Get 0))
    (drop (c.calls.call-index + 1) c.args.calls.now) c.answer-answer.result _ _ _
    (subst (λ (l : List Call). IsRoomFor l (g.A.Answers.room c.calls.worker.answers))
    (drop_more c.args.calls.now c.calls.call-index (Get 0) c.calls-test.true) c.calls.invariant.room)
    c.answer-answer.ensures.call).1

pub keep-requires-clause-spans : goal.keep-requires-clause-spans
keep-requires-clause-spans g c =
    (room-now g.row.N (get_or c.args.calls.now c.calls.call-index (Get 0))
    (drop (c.calls.call-index + 1) c.args.calls.now) c.answer-answer.result _ _ _
    (subst (λ (l : List Call). IsRoomFor l (g.A.Answers.room c.calls.worker.answers))
    (drop_more c.args.calls.now c.calls.call-index (Get 0) c.calls-test.true) c.calls.invariant.room)
    c.answer-answer.ensures.call).2
