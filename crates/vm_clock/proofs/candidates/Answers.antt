-- The walk so far gives each clause.
use Rattle.vm_clock.proofs.Prelude.{add_assoc, ap, arith, inl, inr, length, mod-add-mod, subst, suc, sym, view, ◌%◌}
use Rattle.vm_clock.proofs.Prelude.{◌*◌, ◌+◌, ◌<◌, ◌∙◌, ◌≡◌, ◌≤◌}
use Rattle.vm_clock.proofs.Walking.{IsWalking, walked-chosen, walked-list, walked-so, walking-on}
use Rattle.vm_supply.proofs.from_vm_step.Going.{goes-then}
use Rattle.vm_clock.proofs.candidates.Goals as goal

pub returns-then-len-want-clause-list : goal.returns-then-len-want-clause-list
returns-then-len-want-clause-list g c = walked-list _ _ _ _ _ _ _ c.loop-k.invariant.walking _ c.requires.ready.table.is_shape.pages

pub returns-then-len-want-clause-looks : goal.returns-then-len-want-clause-looks
returns-then-len-want-clause-looks g c =
    subst (λ n. n ≤ 2 * c.args.words.now.table.shared.key.frames)
    (sym (walked-so _ _ _ _ _ _ _ c.loop-k.invariant.walking).0)
    (subst (λ n. c.loop-k.k ≤ 2 * n) c.args.words.now.shape.1 c.loop-k.auto.k-end)

pub visit_frame-requires-clause-room : goal.visit_frame-requires-clause-room
visit_frame-requires-clause-room g c =
    let few : length c.loop-k.chosen.list.items ≤ c.args.want = (walked-so _ _ _ _ _ _ _ c.loop-k.invariant.walking).1 in
    omega (arith, few, c.if-len-want.false, c.len.ensures.value, c.requires.want.1)

pub visit_frame-requires-clause-counts : goal.visit_frame-requires-clause-counts
visit_frame-requires-clause-counts g c =
    subst (λ n. n < 4294967295) (sym (walked-so _ _ _ _ _ _ _ c.loop-k.invariant.walking).0)
    (omega (arith, c.loop-k-test.true, c.args.words.now.shape.3))

pub loop-k-preserved : goal.loop-k-preserved
loop-k-preserved g c =
    let few : length c.loop-k.chosen.list.items ≤ c.args.want = (walked-so _ _ _ _ _ _ _ c.loop-k.invariant.walking).1 in
    let room : length c.loop-k.chosen.list.items < c.args.want = omega (arith, few, c.if-len-want.false, c.len.ensures.value) in
    let frames : c.args.words.now.frames ≡ (view c.args.pass.now).start.frames = c.args.words.now.shape.1
    ∙ sym c.requires.ready.table.is_shape.frames in
    let some : 0 < c.args.words.now.frames = omega (arith, c.loop-k-test.true) in
    let place : c.loop-k.frame ≡ (c.hand-drawn.result % (view c.args.pass.now).start.frames + c.loop-k.k)
    % (view c.args.pass.now).start.frames =
    c.loop-k.invariant.place some ∙ ap (λ n. (c.hand-drawn.result % n + c.loop-k.k) % n) frames in
    let next : suc c.loop-k.k ≡ c.loop-k.k + 1 = omega arith in
    record {
      goes = goes-then c.loop-k.invariant.goes c.visit_frame.ensures.goes;
      covers = c.visit_frame.ensures.covers;
      place = λ _.
          c.frame_after-frame.ensures ∙ ap (λ n. (n + 1) % c.args.words.now.frames) (c.loop-k.invariant.place some)
          ∙ mod-add-mod (c.hand-drawn.result % c.args.words.now.frames + c.loop-k.k) c.args.words.now.frames 1
          ∙ ap (λ n. n % c.args.words.now.frames) (add_assoc (c.hand-drawn.result % c.args.words.now.frames) c.loop-k.k 1);
      walking = subst (λ n. IsWalking c.args.want c.hand-drawn.result n c.visit_frame.new.chosen.looks
          c.visit_frame.new.chosen.list.items (view c.args.pass.now) (view c.visit_frame.new.pass)) next
          (walking-on _ _ _ _ _ _ _ _ _ _ _ c.loop-k.invariant.walking room place c.visit_frame.ensures.visited);
    }

pub returns-clause-list : goal.returns-clause-list
returns-clause-list g c = walked-list _ _ _ _ _ _ _ c.loop-k.invariant.walking _ c.requires.ready.table.is_shape.pages

pub returns-clause-looks : goal.returns-clause-looks
returns-clause-looks g c =
    subst (λ n. n ≤ 2 * c.args.words.now.table.shared.key.frames)
    (sym (walked-so _ _ _ _ _ _ _ c.loop-k.invariant.walking).0)
    (subst (λ n. c.loop-k.k ≤ 2 * n) c.args.words.now.shape.1 c.loop-k.auto.k-end)

pub returns-clause-few : goal.returns-clause-few
returns-clause-few g c = (walked-so _ _ _ _ _ _ _ c.loop-k.invariant.walking).1

pub returns-then-len-want-clause-chosen : goal.returns-then-len-want-clause-chosen
returns-then-len-want-clause-chosen g c =
    let frames : c.args.words.now.frames ≡ (view c.args.pass.now).start.frames = c.args.words.now.shape.1
    ∙ sym c.requires.ready.table.is_shape.frames in
    let enough : length c.loop-k.chosen.list.items ≡ c.args.want = omega (arith, c.len.ensures.value, c.if-len-want.true) in
    walked-chosen _ _ _ _ _ _ _ c.loop-k.invariant.walking (subst (λ n. c.loop-k.k ≤ 2 * n) frames c.loop-k.auto.k-end) (inl enough)

pub returns-clause-chosen : goal.returns-clause-chosen
returns-clause-chosen g c =
    let frames : c.args.words.now.frames ≡ (view c.args.pass.now).start.frames = c.args.words.now.shape.1
    ∙ sym c.requires.ready.table.is_shape.frames in
    let all : c.loop-k.k ≡ 2 * c.args.words.now.frames = omega (arith, c.loop-k.auto.k-end, c.loop-k-test.false) in
    walked-chosen _ _ _ _ _ _ _ c.loop-k.invariant.walking
    (subst (λ n. c.loop-k.k ≤ 2 * n) frames c.loop-k.auto.k-end) (inr (all ∙ ap (λ n. 2 * n) frames))
