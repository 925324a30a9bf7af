-- Definitions of vm_endings that the crates above name through this one.
pub use Rattle.vm_endings.specs.AnyFiles
pub use Rattle.vm_endings.specs.AnyRuns
pub use Rattle.vm_endings.specs.MakesBytes
pub use Rattle.vm_endings.specs.Checks
pub use Rattle.vm_endings.specs.Churns
pub use Rattle.vm_endings.specs.Commands
pub use Rattle.vm_endings.specs.Deliveries
pub use Rattle.vm_endings.specs.Endings
pub use Rattle.vm_endings.specs.Ends
pub use Rattle.vm_endings.specs.Files
pub use Rattle.vm_endings.specs.Held
pub use Rattle.vm_endings.specs.Images
pub use Rattle.vm_endings.specs.KeyRuns
pub use Rattle.vm_endings.specs.Limits
pub use Rattle.vm_endings.specs.Made
pub use Rattle.vm_endings.specs.Makes
pub use Rattle.vm_endings.specs.Migrates
pub use Rattle.vm_endings.specs.Outside
pub use Rattle.vm_endings.specs.Replies
pub use Rattle.vm_endings.specs.Runs
pub use Rattle.vm_endings.specs.Scripts
pub use Rattle.vm_endings.specs.Serves
pub use Rattle.vm_endings.specs.Stops
pub use Rattle.vm_endings.specs.Tests
pub use Rattle.vm_endings.specs.declared.delivery.Delivery as declared_delivery_Delivery
pub use Rattle.vm_endings.specs.declared.delivery.File as declared_delivery_File
pub use Rattle.vm_endings.specs.declared.ends.Ends as declared_ends_Ends
pub use Rattle.vm_endings.specs.declared.ends.Ends.TheVariants as declared_ends_Ends_TheVariants
pub use Rattle.vm_endings.specs.declared.stop.Quantity as declared_stop_Quantity
pub use Rattle.vm_endings.specs.declared.stop.Quantity.TheVariants as declared_stop_Quantity_TheVariants
pub use Rattle.vm_endings.specs.declared.stop.Stop as declared_stop_Stop
pub use Rattle.vm_endings.specs.declared.stop.Stop.TheVariants as declared_stop_Stop_TheVariants
pub use Rattle.vm_endings.specs.declared.undone.Undone as declared_undone_Undone
pub use Rattle.vm_endings.specs.declared.undone.Undone.TheVariants as declared_undone_Undone_TheVariants
