-- Definitions of vm_step that the crates above name through this one.
pub use Rattle.vm_supply.specs.from_vm_step.Prelude
pub use Rattle.vm_supply.specs.from_vm_step.Together
pub use Rattle.vm_supply.specs.from_vm_step.declared_choice_Looks
pub use Rattle.vm_supply.specs.from_vm_step.declared_saw_Saw
