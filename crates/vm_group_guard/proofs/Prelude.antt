-- What the proofs of this crate cite from the crates below and from its own specs, passed on from one place. Declares
-- nothing.
pub use Rattle.std.specs.Prelude.{map, option_map, slice_index}
pub use Rattle.std.proofs.Common.{[], ap, append_assoc, arith, Bool, false, inl, inr, length, List, None, Option, refl}
pub use Rattle.std.proofs.Common.{rules}
pub use Rattle.std.proofs.Common.{Some, subst, suc, sym, true, zero, ℕ, ⊎_elim, ◌++◌, ◌+◌, ◌-◌, ◌<◌, ◌==◌, ◌∙◌, ◌∷◌}
pub use Rattle.std.proofs.Common.{◌≡◌, ◌≢◌, ◌≤◌, ◌⊎◌}
pub use Rattle.std.proofs.lemmas.Bool.{cases_Bool, cases_eq, cases_lt, eq-eqb, false≢true, ne_eqb}
pub use Rattle.vm_event.proofs.PageFacts.{none-some, some-same}
pub use Rattle.vm_event.specs.Prelude.{EVICTED, frame_of, is_readable, kept_loads, LoadsAre, LOCKED, mapping_of, MARKED}
pub use Rattle.vm_event.specs.Prelude.{open_frame, state_of, UNLOCKED, version_of, word_of}
pub use Rattle.vm_owner.specs.Numbers.{AreApart}
pub use Rattle.vm_rule.specs.{declared.view.Held.Held, declared.view.WordPlace.WordPlace, Looks.NamesFrame}
pub use Rattle.vm_rule.specs.Prelude.{at_state, Brings, did_exchange, did_load, Each, entries_of, Entry, frame_read_by}
pub use Rattle.vm_rule.specs.Prelude.{has}
pub use Rattle.vm_rule.specs.Prelude.{held_at, IsLocking, IsOlder, IsSince, IsSinceAll, Kept, last_of, left_at}
pub use Rattle.vm_rule.specs.Prelude.{loads_at}
pub use Rattle.vm_rule.specs.Prelude.{LoadTold, LookTold, Mapping, MarkTold, Open, ReadIs, Seat, seat_of, Start}
pub use Rattle.vm_rule.specs.Prelude.{translation_of}
pub use Rattle.vm_rule.specs.Prelude.{TranslationTold, where_same}
pub use Rattle.vm_rule.proofs.{Entries.each-map, Heard.each-both}
pub use Rattle.vm_step.specs.{declared.saw.At.At, declared.saw.Saw.Saw, Over.InTurn, steps.Look.LookTells}
pub use Rattle.vm_step.specs.{steps.Look.said_at}
pub use Rattle.vm_step.specs.Evidence.{guarded, read, same}
pub use Rattle.vm_step.specs.Prelude.{AreQuiet, Did, HoldsPage, IsKeptNow, IsSaw, KnowsAsBefore, NoneExpected, NoWord}
pub use Rattle.vm_step.specs.Prelude.{Origin, ReadsAsBefore, Translation, View, view}
pub use Rattle.vm_step.proofs.Asides.{holds-then, knows-then, reads-then, still-locking}
pub use Rattle.vm_step.proofs.Numbers.{has-numbers, numbers-has}
pub use Rattle.vm_step.proofs.Over.{has-head, has-tail}
pub use Rattle.vm_step.proofs.steps.Leaving.{holds-still, LeavesOthers, LeavesOwn, only-of, others-none, others-still}
pub use Rattle.vm_step.proofs.steps.Leaving.{others-then, own-self, own-then}
pub use Rattle.vm_step.proofs.steps.Look.{look-holds, look-loads, look-others, look-own, looked-knows}
pub use Rattle.vm_step.proofs.steps.Translate.{tload-holds, tload-knows, tload-loads, tload-others, tload-own}
pub use Rattle.vm_step.proofs.steps.Translate.{tload-seat}
pub use Rattle.vm_step.proofs.steps.Unchanged.{still-holds, still-knows, still-loads, still-own, still-seat}
pub use Rattle.vm_group_step.proofs.Each.{each-made}
pub use Rattle.vm_guard.specs.{declared.deny.Deny.Deny, Denied.AgainOrNeed, Denied.IsEvidence, Denied.KeptWord}
pub use Rattle.vm_guard.specs.{Guards.IsReading}
pub use Rattle.vm_guard.proofs.QuietSteps.{alone-of}
pub use Rattle.vm_group_guard.specs.{Denied.IsGroupDenied, Group.IsGroupAt, Group.IsUnder, Translations.AreTranslated}
pub use Rattle.vm_group_guard.specs.Reading.{AreReading, AreValid, BeginsGroup, IsGroupQuiet, IsGroupUnmarked}
pub use Rattle.vm_group_guard.specs.Steps.{AreUnmarkingAll, exchanges, looks, OnlyUnmarkAll, translation_loads}
unfoldable pub use Rattle.vm_rule.specs.Prelude.{numbers}
