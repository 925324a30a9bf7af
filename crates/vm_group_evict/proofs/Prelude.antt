-- What the proofs of this crate cite from the crates below and from its own specs, passed on from one place. Declares
-- nothing.
pub use Rattle.std.specs.Prelude.{map, slice_index}
pub use Rattle.std.proofs.Common.{[], ap, append_assoc, arith, Bool, false, inl, inr, length, List, None, Option}
pub use Rattle.std.proofs.Common.{refl, rules, Some, subst, suc, sym, true, zero, ℕ, ⊎_elim, ◌++◌, ◌+◌, ◌-◌, ◌<◌, ◌∙◌}
pub use Rattle.std.proofs.Common.{◌∷◌}
pub use Rattle.std.proofs.Common.{◌≡◌, ◌≢◌, ◌≤◌, ◌⊎◌}
pub use Rattle.std.proofs.lemmas.Bool.{cases_Bool, cases_eq, cases_lt, false≢true}
pub use Rattle.vm_rule.proofs.{Entries.append-none, Heard.each-both}
pub use Rattle.vm_rule.specs.Prelude.{draft_of, Each, has, held_at, IsLocking, last_of, loads_at, seat_of, StartsWith}
pub use Rattle.vm_step.specs.Prelude.{Did, KeepsNumbers, LeavesRest, Origin, Release, Tie, View, view, Works}
pub use Rattle.vm_step.proofs.Asides.{numbers-self, numbers-then, starts-then}
pub use Rattle.vm_step.proofs.steps.Leaving.{LeavesOthers, LeavesOwn}
pub use Rattle.vm_group_guard.specs.Group.{IsUnder}
pub use Rattle.vm_group_evict.specs.Leaving.{PageStays, LeavesGroup}
