-- Definitions of vm_rule that the crates above name through this one.
pub use Rattle.vm_rule.specs.Prelude
