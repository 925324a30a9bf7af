-- What the proofs of this crate cite from the crates below and from its own specs, passed on from one place. Declares nothing.
pub use Rattle.std.proofs.Common.{[], ap, append_assoc, arith, Bool, eqb, Err, false, if◌then◌else◌, inl, inr, is_ok}
pub use Rattle.std.proofs.Common.{IsSome, length, List, None, Ok, OnOk, refl, Result, rules, slice_index, Some, subst}
pub use Rattle.std.proofs.Common.{sym, true, ℕ, ⊎_elim, ◌++◌, ◌+◌, ◌<◌, ◌∙◌, ◌∷◌, ◌≡◌, ◌≢◌, ◌≤◌, ◌⊎◌}
pub use Rattle.std.proofs.lemmas.Bool.{cases_eq, cond-false, false≢true, ne_eqb, or_left}
pub use Rattle.std.proofs.lemmas.Option.{none-some}
pub use Rattle.vm_block.specs.Blocks.{Reads}
pub use Rattle.vm_event.specs.Prelude.{EVICTED, LOCKED, MAX_VERSION, trans_word, UNLOCKED, Version}
pub use Rattle.vm_supply.specs.from_vm_rule.{declared_view_Held.Held, declared_view_WordPlace.WordPlace}
pub use Rattle.vm_supply.specs.from_vm_rule.Prelude.{Brings, Change, clean_in, did_exchange, did_load, did_store, draft_of, Each}
pub use Rattle.vm_supply.specs.from_vm_rule.Prelude.{Entry, EvictTold, has, held_at, HomeTold, InstallTold, IsHeldAt, IsLocking}
pub use Rattle.vm_supply.specs.from_vm_rule.Prelude.{IsUnheld, last_in, last_of, locked_view, LockTold, LookTold, Mapping, MayBring}
pub use Rattle.vm_supply.specs.from_vm_rule.Prelude.{MayPutInto, no_held, notes_of, out_at, OutTold, put_at, RaiseTold, ReleaseTold}
pub use Rattle.vm_supply.specs.from_vm_rule.Prelude.{Seat, seat_of, Start, Stored, Within, without}
pub use Rattle.vm_supply.proofs.from_vm_rule.{Entries.each-map, Heard.each-both}
pub use Rattle.vm_supply.proofs.from_vm_rule.WordFacts.{version-within, word-made, word-state, word-version}
pub use Rattle.vm_supply.specs.from_vm_step.{declared_saw_At.At, Evidence.EvictedExpected}
pub use Rattle.vm_supply.specs.from_vm_step.Prelude.{Did, HasGiven, HasWritten, IsAlone, IsAside, IsFirst, IsMember, IsNotOut}
pub use Rattle.vm_supply.specs.from_vm_step.Prelude.{IsOfPage, KeepsFrames, known_word_at, KnowsElse, LeavesRest, MayEvict}
pub use Rattle.vm_supply.specs.from_vm_step.Prelude.{MayGiveUp, MayRaise, MayTakeOut, Origin, Release, RunsAlone, StaysAlone}
pub use Rattle.vm_supply.specs.from_vm_step.Prelude.{StaysHome, Stores, view, LeavesOnly, View, Works, WritesNone}
pub use Rattle.vm_supply.proofs.from_vm_step.{DeviceCalls.home-both, DeviceCalls.home-else, Saws.lost-saw}
pub use Rattle.vm_supply.proofs.from_vm_step.steps_Look.{look-leaves, look-only}
pub use Rattle.vm_supply.proofs.steps.Raise.{raise-held, raise-works}
pub use Rattle.vm_supply.proofs.from_vm_step.steps_Unchanged.{lost-only}
pub use Rattle.vm_supply.proofs.from_vm_step.Alone.{found-known, runs-one, runs-then, same-word, stays-alone, still-alone, words-known}
pub use Rattle.vm_supply.proofs.from_vm_step.Asides.{alone-then, only-then, OnlyReads}
pub use Rattle.vm_supply.proofs.from_vm_step.Device.{call-did, called, counts-one, goes-out, may-bring, Moves, noted-more, two-loads}
pub use Rattle.vm_supply.proofs.from_vm_step.Evidenced.{given-front, leaves-both, leaves-front, written-behind, written-front}
pub use Rattle.vm_supply.proofs.from_vm_step.Filling.{all-stored, filled, fills, Fills, stores-did}
pub use Rattle.vm_supply.proofs.from_vm_step.Leaves.{aside-of, leaves-then, works-then}
pub use Rattle.vm_supply.proofs.from_vm_step.Tables.{else-knows, follows-inside, last-known}
pub use Rattle.vm_supply.proofs.from_vm_step.steps_Leaving.{LeavesOthers, LeavesOwn, rest-of}
pub use Rattle.vm_supply.proofs.from_vm_step.steps_Lock.{lock-brings, lock-draft, lock-held, lock-leaves, lock-others, lock-seat}
pub use Rattle.vm_supply.proofs.from_vm_step.steps_Release.{evict-alone, evict-last, evict-others, evict-seat, evict-silent}
pub use Rattle.vm_supply.proofs.from_vm_step.steps_Release.{release-alone, release-last, release-others, release-seat}
pub use Rattle.vm_supply.proofs.from_vm_step.steps_Release.{release-silent}
pub use Rattle.vm_fault.specs.Fetches.{IsBrought, IsFailed, IsFetched, IsFetchToTry, IsFetchWorn, IsFoundEvicted}
pub use Rattle.vm_fault.specs.Fetches.{IsLostTo, IsOfBoth, IsReleasedAs, IsWornIn, KnowsReleased, locks_out}
pub use Rattle.vm_fault.specs.Fetches.{ReadsOnce, releases_as}
unfoldable pub use Rattle.vm_event.specs.Prelude.{count_more, state_of, version_of, word_of}
