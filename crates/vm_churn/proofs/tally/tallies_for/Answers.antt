use Rattle.std.proofs.Common.{[], ◌++◌, ◌+◌, ◌<◌, ◌∙◌, ◌∷◌, ◌≡◌, ap, length, refl, sym, take}
use Rattle.std.proofs.lemmas.List.{map-append, take_more}
use Rattle.vm_drive.specs.{Drives.items_of, Rooms.RoomFor}
use Rattle.vm_drive.proofs.Crews.{room-snoc}
use Rattle.vm_churn.specs.{declared.tally.Tally.Tally, Tallies.StandsFor, Tallies.tally_room}
use Rattle.vm_churn.proofs.Counting.{few_at, few_room}
use Rattle.vm_churn.proofs.tally.tallies_for.Goals as goal

abbrev none : Tally
none = record { some = 0; new = 0; gone = 0 }

pub lists-preserved : goal.lists-preserved
lists-preserved c =
    let xs = c.args.lists.now in
    let inside : c.lists._calls-index < length xs = c.lists-test.true in
    let one : take (c.lists._calls-index + 1) xs ≡ take c.lists._calls-index xs ++ c._calls-item.result ∷ [] =
    take_more xs c.lists._calls-index c._calls-item.result inside
    ∙ ap (λ l. take c.lists._calls-index xs ++ l ∷ []) (sym c._calls-item.is) in
    let more : items_of (take (c.lists._calls-index + 1) xs) ≡ items_of (take c.lists._calls-index xs)
    ++ c._calls-item.result.items ∷ [] = ap (λ l. items_of l) one ∙ map-append (λ v. v.items)
    (take c.lists._calls-index xs) (c._calls-item.result ∷ []) in
    rw (c.in_ok-push.ensures.items, more)
    (room-snoc StandsFor (RoomFor tally_room) _ _ _ _ c.lists.invariant (λ few. refl)
    (few_room _ none (few_at xs c.lists._calls-index c._calls-item.result c.requires inside c._calls-item.is)))
