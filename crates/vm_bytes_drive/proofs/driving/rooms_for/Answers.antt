use Rattle.std.proofs.Common.{[], ◌++◌, ◌+◌, ◌<◌, ◌∙◌, ◌∷◌, ◌≡◌, ap, length, List, subst, sym, take}
use Rattle.std.proofs.lemmas.List.{map-append, take_more}
use Rattle.vm_bytes_laws.specs.declared.call.KeyCall.{KeyCall}
use Rattle.vm_bytes_calls.specs.KeyAnswers.{HasKeyRoom, KeepsKeyAnswers}
use Rattle.vm_drive.specs.Drives.{items_of}
use Rattle.vm_drive.proofs.Crews.{room-snoc}
use Rattle.vm_bytes_drive.proofs.driving.rooms_for.Goals as goal

pub lists-preserved : goal.lists-preserved
lists-preserved c =
    let xs = c.args.lists.now in
    let inside : c.lists.calls-index < length xs = c.lists-test.true in
    let one : take (c.lists.calls-index + 1) xs ≡ take c.lists.calls-index xs ++ c.calls-item.result ∷ [] =
    take_more xs c.lists.calls-index c.calls-item.result inside ∙ ap (λ l. take c.lists.calls-index xs ++ l ∷ [])
    (sym c.calls-item.is) in
    let more : items_of (take (c.lists.calls-index + 1) xs) ≡ items_of (take c.lists.calls-index xs)
    ++ c.calls-item.result.items ∷ [] = ap (λ l. items_of l) one ∙ map-append (λ v. v.items)
    (take c.lists.calls-index xs) (c.calls-item.result ∷ []) in
    rw (c.in_ok-push.ensures.items, more)
    (room-snoc KeepsKeyAnswers HasKeyRoom _ _ _ _ c.lists.invariant c.in_ok-room.ensures.keeps
    (subst (λ (l : List KeyCall). HasKeyRoom c.in_ok-room.room l) c.as_slice.ensures.value c.in_ok-room.ensures.room))
