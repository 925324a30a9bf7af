use Rattle.std.proofs.Common.{[], ◌++◌, ◌+◌, ◌<◌, ◌∙◌, ◌∷◌, ◌≡◌, ap, length, rules, sym, take}
use Rattle.std.proofs.lemmas.List.{map-append, take_more}
use Rattle.vm_calls.specs.Compact.{KeepsAnswers, room_in}
use Rattle.vm_drive.specs.{Drives.items_of, Rooms.RoomFor}
use Rattle.vm_calls.proofs.Shortening.{keeps-none}
use Rattle.vm_drive.proofs.Crews.{room-snoc}
use Rattle.vm_drive.proofs.memory.rooms_for.Goals as goal

pub lists-preserved : goal.lists-preserved
lists-preserved c =
    let xs = c.args.lists.now in
    let inside : c.lists.calls-index < length xs = c.lists-test.true in
    let one : take (c.lists.calls-index + 1) xs ≡ take c.lists.calls-index xs ++ c.calls-item.result ∷ [] =
    take_more xs c.lists.calls-index c.calls-item.result inside ∙ ap (λ l. take c.lists.calls-index xs ++ l ∷ [])
    (sym c.calls-item.is) in
    let more : items_of (take (c.lists.calls-index + 1) xs) ≡ items_of (take c.lists.calls-index xs)
    ++ c.calls-item.result.items ∷ [] = ap (λ l. items_of l) one ∙ map-append (λ v. v.items)
    (take c.lists.calls-index xs) (c.calls-item.result ∷ []) in
    rw (c.in_ok-push.ensures.items, more)
    (room-snoc KeepsAnswers (RoomFor room_in) _ _ _ _ c.lists.invariant
    (keeps-none _ c.in_ok-short.ensures.items c.in_ok-windows.ensures.items c.in_ok-spans.ensures.items) (record {
      answers = (let cap = c.in_ok-short.ensures.capacity in let len = c.in_ok-short.ensures.len in let long =
          c.len.ensures in search rules);
      windows = (let cap = c.in_ok-windows.ensures.capacity in let len = c.in_ok-windows.ensures.len in let asked =
          c.windows_in.ensures in let all = c.as_slice.ensures.value in search rules);
      spans = (let cap = c.in_ok-spans.ensures.capacity in let len = c.in_ok-spans.ensures.len in let asked =
          c.ranges_among.ensures in let all = c.as_slice-in-lists.ensures.value in search rules);
    }))
