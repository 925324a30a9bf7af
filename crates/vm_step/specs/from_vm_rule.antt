-- Definitions of vm_rule that the crates above name through this one.
pub use Rattle.vm_rule.specs.Begun
pub use Rattle.vm_rule.specs.Bundles
pub use Rattle.vm_rule.specs.Prelude
pub use Rattle.vm_rule.specs.Slots
pub use Rattle.vm_rule.specs.declared.view.Held as declared_view_Held
pub use Rattle.vm_rule.specs.declared.view.WordPlace as declared_view_WordPlace
pub use Rattle.vm_rule.specs.declared.view.WordPlace.TheVariants as declared_view_WordPlace_TheVariants
