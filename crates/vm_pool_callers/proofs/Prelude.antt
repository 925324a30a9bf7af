-- What the proofs of this crate cite from the crates below and from its own specs, passed on from one place. Declares nothing.
pub use Rattle.std.proofs.Common.{[], ap, arith, bit_xor, Bool, false, IfSome, if◌then◌else◌, inl, inr, IsOk, IsSome}
pub use Rattle.std.proofs.Common.{length, length-append, List, map, min, nat_lt, None, Option, refl, rules}
pub use Rattle.std.proofs.Common.{slice_index, slice_set, Some, subst, suc, sym, true, zero, ℕ, ⊎_elim, ◌%◌, ◌&&◌}
pub use Rattle.std.proofs.Common.{◌*◌, ◌++◌, ◌+◌, ◌-◌, ◌<◌, ◌==◌, ◌^◌, ◌∙◌, ◌∷◌, ◌≡◌, ◌≢◌, ◌≤◌, ◌⊎◌}
pub use Rattle.std.proofs.lemmas.Bool.{cases_Bool, cases_eq, cases_lt, false≢true}
pub use Rattle.std.proofs.lemmas.List.{get_or-set_same}
pub use Rattle.std.proofs.lemmas.Nat.Bits.{bit_at-lt, bit_at-zero, bit_at_ones, bit_at_xor}
pub use Rattle.std.proofs.lemmas.Option.{IfSome_then}
pub use Rattle.std.specs.Int.{bit_at}
pub use Rattle.vm_pool.specs.from_vm_clock.Clock.{IsPassed, IsWalked, KnowsWalked, passed_word}
pub use Rattle.vm_event.proofs.Upd.{sum_below-past}
pub use Rattle.vm_event.specs.Prelude.{AreLowest, EVICTED, is_readable, MARKED, MAX_VERSION, MayShare, UNLOCKED, Version}
pub use Rattle.vm_event.specs.Words.{bit_count}
pub use Rattle.vm_pool.proofs.from_vm_evict.Gathering.{page-at}
pub use Rattle.vm_pool.specs.from_vm_evict.Evictions.{candidate_at, frame_at, gathered, IsEnd, stage_at}
pub use Rattle.vm_pool.specs.from_vm_evict.Tables.{KnowsStage}
pub use Rattle.vm_pool.specs.from_vm_evict.declared_candidate_Stage.{Stage}
pub use Rattle.vm_pool.specs.from_vm_evict.declared_report_Report.{Report}
pub use Rattle.vm_exmap.specs.Frames.{HasFree, IsBundleOf}
pub use Rattle.vm_pool.specs.from_vm_fault.Fetches.{IsKnownOut, IsOfBoth}
pub use Rattle.vm_pool.specs.from_vm_guard.Guards.{IsReleased, IsSet, IsShared, IsSharing}
pub use Rattle.vm_pool.specs.from_vm_guard.Quiet.{IsQuiet, IsSteady}
pub use Rattle.vm_pool.specs.from_vm_guard.Sure.{IsKnownFree, IsUnlockedWord, known_word}
pub use Rattle.vm_pool.specs.Brings.{IsBroughtOrFailed, IsSure, KeepsLocks}
pub use Rattle.vm_pool.specs.Known.{IsStill, known_version, KnowsAsked, KnowsBring, KnowsBrought}
pub use Rattle.vm_pool.specs.Sweeps.{IsSwept}
pub use Rattle.vm_pool.specs.declared.bring.Bring.{Bring}
pub use Rattle.vm_pool_callers.specs.Known.{HasAskedFirst}
pub use Rattle.vm_rule.proofs.Entries.{append-none}
pub use Rattle.vm_rule.proofs.ListFacts.{length-mapped}
pub use Rattle.vm_rule.proofs.WordFacts.{version-within, word-state, word-version}
pub use Rattle.vm_rule.specs.Begun.{begun}
pub use Rattle.vm_rule.specs.Prelude.{bounds_of, bundles_of, draft_of, has, held_at, HoldsNoPage, index_of, IsStarted}
pub use Rattle.vm_rule.specs.Prelude.{last_in, last_of, Seat, seat_of, Start, started_shape, Stored, unborn, width}
pub use Rattle.vm_rule.specs.declared.view.Held.{Held}
pub use Rattle.vm_step.proofs.MetPasses.{met-still}
pub use Rattle.vm_step.proofs.After.{wide-after}
pub use Rattle.vm_step.proofs.Alone.{same-word, still-alone}
pub use Rattle.vm_step.proofs.Asides.{alone-then}
pub use Rattle.vm_step.proofs.Still.{still-nothing}
pub use Rattle.vm_step.proofs.Together.{holds-none, joined-one, new-nothing, numbers-length, split-current, split-still, whole-again}
pub use Rattle.vm_step.proofs.Written.{index-below}
pub use Rattle.vm_step.specs.Prelude.{AreHeld, candidate_pages, Did, HasJoined, IsAlone, IsOfPage, known_word_at}
pub use Rattle.vm_step.specs.Prelude.{MayUnshare, Origin, Release, StaysAlone, TableShape, view, View}
pub use mathlib.Core.List.{map-append}
unfoldable pub use Rattle.vm_event.specs.Prelude.{at, full_bundle, state_of, sum_below, version_of, word_of}
