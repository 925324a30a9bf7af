use Rattle.std.proofs.Common.{[], ◌++◌, ◌+◌, ◌<◌, ◌∙◌, ◌∷◌, ◌≡◌, ap, drop, length, List, refl, subst, sym}
use Rattle.std.proofs.lemmas.List.{drop_more, take_more}
use Rattle.vm_bytes_laws.specs.declared.call.KeyCall.{KeyCall}
use Rattle.vm_step.specs.Prelude.{view}
use Rattle.vm_calls.proofs.from_vm_tree_read.Losing.{loses-same, loses-then}
use Rattle.vm_calls.proofs.{Chain.calls-snoc, Lists.all-at}
use Rattle.vm_bytes_calls.specs.{KeyAnswers.HasKeyRoom, KeyCalls.IsKeyAskable, KeyCalls.key_calls}
use Rattle.vm_bytes_calls.proofs.{Answering.key-called, Shortening.room-after, Shortening.room-now}
use Rattle.vm_bytes_calls.proofs.worker.call_all.Goals as goal

pub calls-preserved : goal.calls-preserved
calls-preserved g c =
    let inv = c.calls.invariant in
    let calls = c.args.calls.now in
    let inside : c.calls.call-index < length calls = c.calls-test.true in
    let call = c.call-item.result in
    let rest = drop (c.calls.call-index + 1) calls in
    let first : drop c.calls.call-index calls ≡ call ∷ rest =
    drop_more calls c.calls.call-index call inside ∙ ap (λ x. x ∷ rest) (sym c.call-item.is) in
    let room = subst (λ (l : List KeyCall). HasKeyRoom c.calls.worker.answers l) first inv.room in
    record {
      work = record {
        ready = c.answer-answer.ensures.ready;
        pages = inv.work.pages;
        home = (key-called _ _ _ _ c.answer-answer.ensures.call).0.out ∙ inv.work.home;
        frames = c.answer-answer.ensures.held;
      };
      done = record {
        told = inv.done.told ++ c.answer-answer.result ∷ [];
        stands = c.keep.ensures.told inv.done.told inv.done.stands;
        each = rw (take_more calls c.calls.call-index call inside, sym c.call-item.is)
            (calls-snoc key_calls _ _ _ _ _ _ _ inv.done.each c.answer-answer.ensures.call);
      };
      lost = loses-then c.args.worker.now.iface.frames c.calls.worker.iface.frames c.answer-answer.new.iface.frames
          (view c.args.worker.now.pass) (view c.calls.worker.pass) (view c.answer-answer.new.pass) inv.lost
          c.answer-answer.ensures.lost;
      room = room-after call rest c.answer-answer.result _ _ _ _ room c.answer-answer.ensures.call c.keep.ensures.answers
          c.keep.ensures.windows;
    }

pub calls-init : goal.calls-init
calls-init g c = record {
  work = c.requires.work;
  done = record { told = []; stands = c.requires.fresh; each = refl };
  lost = loses-same c.args.worker.now.iface.frames c.args.worker.now.iface.frames (view c.args.worker.now.pass)
      (view c.args.worker.now.pass) refl (λ f e. e);
  room = c.requires.room;
}

pub keep-requires-clause-answers : goal.keep-requires-clause-answers
keep-requires-clause-answers g c =
    let calls = c.args.calls.now in
    let call = c.call-item.result in
    let rest = drop (c.calls.call-index + 1) calls in
    let first : drop c.calls.call-index calls ≡ call ∷ rest =
    drop_more calls c.calls.call-index call c.calls-test.true ∙ ap (λ x. x ∷ rest) (sym c.call-item.is) in
    (room-now call rest c.answer-answer.result _ _ _
    (subst (λ (l : List KeyCall). HasKeyRoom c.calls.worker.answers l) first c.calls.invariant.room)
    c.answer-answer.ensures.call).0

pub keep-requires-clause-windows : goal.keep-requires-clause-windows
keep-requires-clause-windows g c =
    let calls = c.args.calls.now in
    let call = c.call-item.result in
    let rest = drop (c.calls.call-index + 1) calls in
    let first : drop c.calls.call-index calls ≡ call ∷ rest =
    drop_more calls c.calls.call-index call c.calls-test.true ∙ ap (λ x. x ∷ rest) (sym c.call-item.is) in
    (room-now call rest c.answer-answer.result _ _ _
    (subst (λ (l : List KeyCall). HasKeyRoom c.calls.worker.answers l) first c.calls.invariant.room)
    c.answer-answer.ensures.call).1

pub answer-answer-requires-clause-askable : goal.answer-answer-requires-clause-askable
answer-answer-requires-clause-askable g c =
    subst (λ (call : KeyCall). IsKeyAskable call) (sym c.call-item.is)
    (all-at IsKeyAskable c.args.calls.now c.calls.call-index c.call-item.result c.requires.askable c.calls-test.true)
