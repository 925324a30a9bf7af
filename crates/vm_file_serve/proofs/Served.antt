-- What a serve gives whose calls were made, from what making them did.
use Rattle.std.proofs.Common.{◌≡◌, All, arith, List, Ok, subst, sym, true, ℕ}
use Rattle.vm_block.specs.declared.stored.Stored.{Stored}
use Rattle.vm_device.specs.Devices.{DeviceState, StoredFile}
use Rattle.vm_reading.specs.from_vm_drive.Drives.{items_of}
use Rattle.vm_words.specs.declared.Command.TheVariants as commands
use Rattle.vm_words.specs.declared.Serve.{Serve}
use Rattle.vm_reading.specs.from_vm_endings.declared_delivery_Delivery.{Delivery}
use Rattle.vm_reading.specs.from_vm_endings.declared_ends_Ends.{Ends}
use Rattle.vm_reading.specs.from_vm_endings.{Commands.order_of, Deliveries.content_of, Endings.Performs, Tests.AllPass}
use Rattle.vm_reading.specs.from_vm_endings.Outside.{ChangesJust, Outside, Remains}
use Rattle.vm_file_serve.specs.declared.serve.Ready.{Ready}
use Rattle.vm_file_serve.specs.Serving.{IsDoneServe, IsToServe, Serves, TakesPages, TellsServeLimits}
use Rattle.vm_file_serve.proofs.Answering.{serve-does}
use Rattle.vm_file_serve.proofs.Homes.{just_changes}
use Rattle.vm_file_serve.proofs.Saved.{outcome}
use Rattle.vm_file_serve.proofs.Words.{IsWhole}

module _ (serve : Serve) (workers : ℕ) (outside : Outside) (left : Remains) (t : TellsServeLimits serve (Ok workers)) (out : DeviceState)
    (first blocks : List Stored) (taken : TakesPages outside.tells outside.devices out serve.file.now first) (ready : Ready)
    (is : IsToServe outside.tells serve workers outside left first blocks (Ok ready)) (before after : Ends) where
  module _ (E : Type 0) (delivery : Delivery)
      (serves : Serves {E = E} outside.tells serve ready blocks out left.devices before after (Ok delivery)) where
    did : IsDoneServe outside.tells serve ready blocks outside.devices.outs first out left.devices after delivery
    did = serves outside.devices.outs first taken.outs (sym is.0.count) (λ p low. taken.home p (omega (arith, low, is.0.count)))

    pub serve-gives : (outside.tells ≡ true → All IsWhole left.devices.files)
        → AllPass outside (order_of (commands.Serve serve)) × Performs (commands.Serve serve) outside left (content_of delivery) before after
    serve-gives whole =
        subst (λ (e : Ends). AllPass outside (order_of (commands.Serve serve))
        × Performs (commands.Serve serve) outside left (content_of delivery) before e) (sym did.kept)
        (serve-does serve workers outside left t out first taken ready.image (items_of ready.lists.items) (content_of delivery) did.end
        is.1 is.2 is.3 (outcome serve outside left out ready blocks first taken is.0 is.1.pages_of.count after delivery did whole) before)

    pub serve-home : left.devices.outs ≡ outside.devices.outs
    serve-home = did.home.outs

    pub serve-devices : outside.tells ≡ true → ChangesJust outside.devices.files left.devices.files serve.file.now
    serve-devices told =
        subst (λ (fs : List StoredFile). ChangesJust fs left.devices.files serve.file.now) (taken.files told)
        (just_changes _ _ _ _ (did.home.files told))
