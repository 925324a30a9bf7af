-- What the proofs of this crate cite from the crates below and from its own specs, passed on from one place. Declares nothing.
pub use Rattle.std.specs.{List.sum_by, Mem.Slots.Ownership.Filled, Prelude.All, Vec.vec_capacity, Vec.vec_len}
pub use Rattle.std.specs.Mem.Slots.{slots_filled, slots_items, slots_len}
pub use Rattle.std.proofs.{lemmas.Grind.common_steps, Math.Nat.mod-lt, Math.Nat.pow-le-pow_right, Math.Seq.take-suc}
pub use Rattle.std.proofs.lemmas.List.Sums.{sum_by-cons, sum_by-le-sum_by}
pub use Rattle.std.proofs.Common.{[], ap, append_assoc, arith, bit_or, Bool, Err, false, get_or, if◌then◌else◌, inl}
pub use Rattle.std.proofs.Common.{inr, is_ok, IsSome, length, length-append, List, map, max, min, None, Ok, Option}
pub use Rattle.std.proofs.Common.{refl, Result, rules, slice_index, slice_set, Some, subst, suc, sym, take, true}
pub use Rattle.std.proofs.Common.{zero, ℕ, ⊎_elim, ◌*◌, ◌++◌, ◌+◌, ◌-◌, ◌<◌, ◌^◌, ◌∙◌, ◌∷◌, ◌≡◌, ◌≢◌, ◌≤◌, ◌⊎◌}
pub use Rattle.std.proofs.lemmas.Bool.{cases_Bool, cases_eq, eq-eqb, lt-ltb, or_left, or_right, true≢false}
pub use Rattle.std.proofs.lemmas.List.{get_or-set_other, nil_from_length, take_all}
pub use mathlib.Core.List.{map-append}
pub use Rattle.atomic_table.proofs.Lists.{at_index}
pub use Rattle.atomic_table.specs.Table.{Final, Seen}
pub use Rattle.vm_event.specs.{Prelude.Version}
pub use Rattle.vm_event.specs.Prelude.{EVICTED, get_elem?, is_readable, LOCKED, MAX_VERSION, some, some-injective, UNLOCKED}
pub use Rattle.vm_owner.proofs.NumberLemmas.{has-without_other}
pub use Rattle.vm_rule.specs.{Begun.begun, declared.view.WordPlace.WordPlace, Prelude.world_of, Reading.at_home}
pub use Rattle.vm_rule.specs.Prelude.{AreApart, began_of, bounds_of, bundles_of, CaughtUp, core_shown, counts_of}
pub use Rattle.vm_rule.specs.Prelude.{did_load, Each, entries_by, Entry, first_part, giver, has, HasShape}
pub use Rattle.vm_rule.specs.Prelude.{HoldsNoPage, index_of, IsLocking, IsStarted, IsWhole, Kept, known, last_of}
pub use Rattle.vm_rule.specs.Prelude.{newcomer, no_block, other_parts, out_of, out_or, owns, Ruled, seat_of}
pub use Rattle.vm_rule.specs.Prelude.{snapshot_of, Sound, Stands, Start, started_origin, started_shape, started_words}
pub use Rattle.vm_rule.specs.Prelude.{StartsWith, Stored, Table, table_words, times, unborn, view_from, view_of}
pub use Rattle.vm_rule.specs.Prelude.{without}
pub use Rattle.vm_rule.proofs.{Entries.append-none, Found.part-found, Joining.times-joined, Parted.first-whole}
pub use Rattle.vm_rule.proofs.{Parts.listed-same, StartedWords.started-bundle, StartedWords.started-state}
pub use Rattle.vm_rule.proofs.{Views.at-bound, Views.at-there}
pub use Rattle.vm_rule.proofs.ListFacts.{at-any, at-listed, at-map, length-listed, length-mapped, listed-long}
pub use Rattle.vm_rule.proofs.WordFacts.{word-state, word-version}
pub use Rattle.vm_clock.specs.from_vm_rule_laws.{Known.HasStepped, Known.kept_by, Noted.NotesStand}
pub use Rattle.vm_clock.specs.from_vm_rule_laws.Standing.{block_in, mapping_in, PageStands, state_in, version_in}
pub use Rattle.vm_clock.proofs.from_vm_rule_laws.{Begun.begun-ruled, Histories.all-seen, Knowing.table-known, Knowing.what-is-kept}
pub use Rattle.vm_clock.proofs.from_vm_rule_laws.{Noted.notes-stand, Standing.stands-known}
pub use Rattle.vm_clock.proofs.from_vm_rule_laws.Alone.{others-have-nothing, without-locks}
pub use Rattle.vm_clock.specs.from_vm_step.{declared_choice_Looks.Looks, declared_saw_Saw.Saw, Together.TakesIn}
pub use Rattle.vm_clock.specs.from_vm_step.Prelude.{AreCandidates, AreHeld, candidate_pages, Did, IsAlone, IsAside, IsAsideOf}
pub use Rattle.vm_clock.specs.from_vm_step.Prelude.{IsCandidate, IsOf, IsOfPage, IsReady, IsSamePass, known_word_at, KnowsAll}
pub use Rattle.vm_clock.specs.from_vm_step.Prelude.{KnowsAt, KnowsElse, KnowsSame, Meets, Note, Origin, Out, PassesSplit, Snapshot}
pub use Rattle.vm_clock.specs.from_vm_step.Prelude.{TableShape, View, view}
pub use Rattle.vm_clock.proofs.from_vm_step.{Alone.still-alone, MetPasses.meets-then, MetPasses.met-known, MetPasses.met-still}
pub use Rattle.vm_clock.proofs.from_vm_step.{steps_CatchUp.found-below, steps_CatchUp.version-below, steps_Leaving.aside-self}
pub use Rattle.vm_clock.proofs.from_vm_step.Tables.{else-same, else-self, else-then, else-within}
pub use Rattle.vm_clock.proofs.from_vm_step.Together.{all-snoc, caught-heard, caught-mine, cut-length, entries-heard, hears-on}
pub use Rattle.vm_clock.proofs.from_vm_step.Together.{new-number, ready-as, split-none, split-step, starts-on}
pub use Rattle.vm_clock.proofs.from_vm_step.Asides.{alone-then, holds-then, knows-then, starts-then, still-locking, whole-then}
pub use Rattle.vm_exmap.specs.{declared.interface.Alloc.Alloc, Returns.IsFreed, Returns.KnowsGiven, Walks.IsAlloc}
pub use Rattle.vm_exmap.specs.{Walks.IsDry, Walks.TakesBits}
pub use Rattle.vm_exmap.specs.Frames.{HasFree, IsBundleOf, MovesFrames}
pub use Rattle.vm_exmap.proofs.FrameMoves.{moved-aside}
pub use Rattle.vm_exmap.proofs.Handing.{apart-join, apart-not, apart-right, each-has, each-join, each-of, held-on, held-swap}
pub use Rattle.vm_clock.specs.Clock.{IsChosen, IsWalked, KnowsWalked}
pub use Rattle.vm_fault.specs.Fetches.{IsBrought, IsFailed, IsKnownOut, IsOfBoth, KnowsReleased}
pub use Rattle.vm_evict.specs.{declared.report.Report.Report, Tables.IsOfAny}
pub use Rattle.vm_evict.specs.Evictions.{candidate_at, FramesCome, IsBatch, stage_at}
pub use Rattle.vm_evict.proofs.{Gathering.each-at, Locking.clean-of, Tables.stays-known}
pub use Rattle.vm_pool.specs.{Closing.IsClosed, Closing.IsStored, Closing.sum_to_max, declared.bring.Bring.Bring}
pub use Rattle.vm_pool.specs.{Sweeps.IsSwept, Sweeps.KnowsSwept}
pub use Rattle.vm_pool.specs.Brings.{counted, Fetches, Gets, GetsNone, IsBring, IsFramed, IsSure, KeepsLocks, SaysDry}
pub use Rattle.vm_pool.specs.Known.{IsStill, known_version, KnowsAsked, KnowsBring, KnowsBrought, KnowsFailed}
pub use Rattle.vm_pool.specs.Parting.{HaveMet, Joins, KeepsAll, Splits}
unfoldable pub use Rattle.vm_event.specs.Prelude.{at, full_bundle, state_of, version_of, word_of}
unfoldable pub use Rattle.vm_rule.specs.Prelude.{block_of, frames_in, listed, pages_from}
