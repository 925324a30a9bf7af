-- Definitions of vm_step that the crates above name through this one.
pub use Rattle.vm_step.specs.Evidence
pub use Rattle.vm_step.specs.Prelude
pub use Rattle.vm_step.specs.Together
pub use Rattle.vm_step.specs.declared.choice.Looks as declared_choice_Looks
pub use Rattle.vm_step.specs.declared.saw.At as declared_saw_At
pub use Rattle.vm_step.specs.declared.saw.Saw as declared_saw_Saw
pub use Rattle.vm_step.specs.declared.took.Took as declared_took_Took
pub use Rattle.vm_step.specs.declared.took.Took.TheVariants as declared_took_Took_TheVariants
pub use Rattle.vm_step.specs.steps.Owner as steps_Owner
