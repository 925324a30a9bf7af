-- The pair is written over, or put in its place, or there is no room for it.
use Rattle.std.proofs.Common.{◌≡◌, ℕ, ◌≤◌, sym, ◌∙◌, arith}
use Rattle.vm_bytes_form.specs.Cuts.{pair_size}
use Rattle.vm_bytes_form.specs.Strings.{rank}
use Rattle.vm_bytes_node.specs.Room.{spare_words}
use Rattle.vm_bytes_edit.proofs.PairEdits.{found_not_full, found_takes, found_was, lacks_full, put_adds, put_inner, put_leaf, put_new_form}
use Rattle.vm_bytes_edit.proofs.PairEdits.{put_there_form, room_not_full, absent}
use Rattle.vm_bytes_edit.proofs.edits.put_edit.Goals as goal

pub returns-in-Some-clause-was : goal.returns-in-Some-clause-was
returns-in-Some-clause-was c = λ low high rises. c.in-Some.is
    ∙ found_was c.args.page.now c.args.key.now c.key_place-at.ensures.string _ _ c.key_place-at.ensures.placed _ c.in-Some.is low high rises

pub returns-in-Some-clause-form : goal.returns-in-Some-clause-form
returns-in-Some-clause-form c = put_there_form c.args.page.now c.args.key.now c.key_place-at.ensures.string _ _
    c.key_place-at.ensures.placed _ c.in-Some.is
    c.args.value c.with_pair.result c.with_pair.ensures

pub returns-in-Some-clause-full : goal.returns-in-Some-clause-full
returns-in-Some-clause-full c = λ leaf. found_not_full c.args.page.now c.args.key.now c.key_place-at.ensures.string _ _
    c.key_place-at.ensures.placed _ c.in-Some.is

pub returns-in-Some-clause-room : goal.returns-in-Some-clause-room
returns-in-Some-clause-room c = found_takes c.args.page.now c.args.key.now c.key_place-at.ensures.string _ _ c.key_place-at.ensures.placed _
    c.in-Some.is

pub returns-in-Some-clause-node : goal.returns-in-Some-clause-node
returns-in-Some-clause-node c = put_adds c.args.page.now c.with_pair.result c.args.key.now c.args.value c.key_place-at.ensures.string
    (λ _. found_not_full c.args.page.now c.args.key.now c.key_place-at.ensures.string _ _ c.key_place-at.ensures.placed _ c.in-Some.is)
    (returns-in-Some-clause-form c)

pub returns-in-Some-clause-leaf : goal.returns-in-Some-clause-leaf
returns-in-Some-clause-leaf c = put_leaf c.args.page.now c.with_pair.result c.args.key.now c.args.value c.key_place-at.ensures.string
    (λ _. found_not_full c.args.page.now c.args.key.now c.key_place-at.ensures.string _ _ c.key_place-at.ensures.placed _ c.in-Some.is)
    (returns-in-Some-clause-form c)
    _ (returns-in-Some-clause-was c)

pub returns-in-Some-clause-inner : goal.returns-in-Some-clause-inner
returns-in-Some-clause-inner c = put_inner c.args.page.now c.with_pair.result c.args.key.now c.args.value c.key_place-at.ensures.string
    (λ _. found_not_full c.args.page.now c.args.key.now c.key_place-at.ensures.string _ _ c.key_place-at.ensures.placed _ c.in-Some.is)
    (returns-in-Some-clause-form c)

pub returns-in-None-clause-full : goal.returns-in-None-clause-full
returns-in-None-clause-full c =
    let less = c.if-spare_of-pair_size.true in
    lacks_full c.args.page.now c.args.key.now c.key_place-at.ensures.string _ _ c.key_place-at.ensures.placed c.in-None.is
    (omega (arith, less, c.spare_of.ensures, c.pair_size.ensures.rank))

roomy : (spare size left pair : ℕ) → size ≤ spare → spare ≡ left → size ≡ pair → pair ≤ left
roomy spare size left pair le a b = omega (arith, le, a, b)

pub returns-in-None-2-clause-form : goal.returns-in-None-2-clause-form
returns-in-None-2-clause-form c =
    let room : pair_size (rank c.args.key.now) ≤ spare_words c.args.page.now = roomy _ _ _ _ c.if-spare_of-pair_size.false
    c.spare_of.ensures
    c.pair_size.ensures.rank in
    put_new_form c.args.page.now c.args.key.now c.key_place-at.ensures.string _ _ c.key_place-at.ensures.placed c.in-None-2.is room
    c.args.value c.with_pair-in-None-2.result c.with_pair-in-None-2.ensures

pub returns-in-None-2-clause-full : goal.returns-in-None-2-clause-full
returns-in-None-2-clause-full c = λ leaf.
    let room : pair_size (rank c.args.key.now) ≤ spare_words c.args.page.now = roomy _ _ _ _ c.if-spare_of-pair_size.false
    c.spare_of.ensures
    c.pair_size.ensures.rank in
    room_not_full c.args.page.now c.args.key.now c.key_place-at.ensures.string _ _ c.key_place-at.ensures.placed c.in-None-2.is room
    leaf.clean

pub returns-in-None-2-clause-node : goal.returns-in-None-2-clause-node
returns-in-None-2-clause-node c =
    let room : pair_size (rank c.args.key.now) ≤ spare_words c.args.page.now = roomy _ _ _ _ c.if-spare_of-pair_size.false
    c.spare_of.ensures
    c.pair_size.ensures.rank in
    put_adds c.args.page.now c.with_pair-in-None-2.result c.args.key.now c.args.value c.key_place-at.ensures.string
    (room_not_full c.args.page.now c.args.key.now c.key_place-at.ensures.string _ _ c.key_place-at.ensures.placed c.in-None-2.is room)
    (returns-in-None-2-clause-form c)

pub returns-in-None-2-clause-leaf : goal.returns-in-None-2-clause-leaf
returns-in-None-2-clause-leaf c =
    let room : pair_size (rank c.args.key.now) ≤ spare_words c.args.page.now = roomy _ _ _ _ c.if-spare_of-pair_size.false
    c.spare_of.ensures
    c.pair_size.ensures.rank in
    put_leaf c.args.page.now c.with_pair-in-None-2.result c.args.key.now c.args.value c.key_place-at.ensures.string
    (room_not_full c.args.page.now c.args.key.now c.key_place-at.ensures.string _ _ c.key_place-at.ensures.placed c.in-None-2.is room)
    (returns-in-None-2-clause-form c)
    _ (λ low high rises. sym (absent c.args.page.now c.args.key.now c.key_place-at.ensures.string _ _ c.key_place-at.ensures.placed
    c.in-None-2.is low high rises))

pub returns-in-None-2-clause-inner : goal.returns-in-None-2-clause-inner
returns-in-None-2-clause-inner c =
    let room : pair_size (rank c.args.key.now) ≤ spare_words c.args.page.now = roomy _ _ _ _ c.if-spare_of-pair_size.false
    c.spare_of.ensures
    c.pair_size.ensures.rank in
    put_inner c.args.page.now c.with_pair-in-None-2.result c.args.key.now c.args.value c.key_place-at.ensures.string
    (room_not_full c.args.page.now c.args.key.now c.key_place-at.ensures.string _ _ c.key_place-at.ensures.placed c.in-None-2.is room)
    (returns-in-None-2-clause-form c)
