-- Definitions of vm_rule_laws that the crates above name through this one.
pub use Rattle.vm_rule_laws.specs.Known
