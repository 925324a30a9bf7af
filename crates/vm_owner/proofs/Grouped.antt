-- What instances of the interface in other crates cite of groups.
pub use Rattle.vm_owner.specs.Grouped.{takes-none}
