-- What the proofs of this crate cite from the crates below and from its own specs, passed on from one place. Declares nothing.
pub use Rattle.std.proofs.{lemmas.Bool.Decides.nat_tests, lemmas.Option.none-some, lemmas.Option.same_Some}
pub use Rattle.std.proofs.Common.{[], ap, append_assoc, arith, Bool, eqb, Err, false, if◌then◌else◌, inl, inr, is_ok}
pub use Rattle.std.proofs.Common.{is_some, IsSome, length, List, nat_lt, None, Ok, Option, refl, Result, rules}
pub use Rattle.std.proofs.Common.{slice_index, slice_set, Some, subst, suc, sym, true, true≢false, zero, ℕ, ⊎_elim}
pub use Rattle.std.proofs.Common.{◌&&◌, ◌++◌, ◌+◌, ◌-◌, ◌<◌, ◌==◌, ◌^◌, ◌||◌, ◌∙◌, ◌∷◌, ◌≡◌, ◌≢◌, ◌≤◌, ◌⊎◌}
pub use Rattle.std.proofs.lemmas.Bool.{cases_Bool, cases_eq, cases_lt, cond-false, cond-true, eq-eqb, false≢true, ne_eqb, or_left, or_right}
pub use Rattle.std.proofs.lemmas.List.{ext_get_or, get_or-set_other, get_or-set_same, length-append, length-set}
pub use Rattle.vm_block.specs.Blocks.{Writes}
pub use Rattle.vm_event.specs.Prelude.{EVICTED, frame_of, is_readable, left_open, LOCKED, mapping_at, mapping_of}
pub use Rattle.vm_event.specs.Prelude.{MARKED, MAX_VERSION, no_seat, open_after, open_frame, trans_word, UNLOCKED}
pub use Rattle.vm_event.specs.Prelude.{unshared, Version}
pub use Rattle.vm_event.specs.declared.event.ReadIs.TheVariants.{Closed, Moved, Opened, Same}
pub use Rattle.vm_event.proofs.{Upd.upd-other, Upd.upd-same}
pub use Rattle.vm_owner.proofs.NumberLemmas.{has-last}
pub use Rattle.vm_rule.specs.{declared.view.Held.Held, declared.view.WordPlace.WordPlace, Releases.evicted_view}
pub use Rattle.vm_rule.specs.Prelude.{AreApart, Brings, clean_in, CleanTold, ClearTold, contents_at, did_exchange}
pub use Rattle.vm_rule.specs.Prelude.{did_load, did_store, dirty_in, draft_of, Each, EvictTold, frame_read_by, has}
pub use Rattle.vm_rule.specs.Prelude.{held_at, HomeTold, index_of, IsFoundAt, IsLocking, IsUnheld, IsWhole, IsWritten}
pub use Rattle.vm_rule.specs.Prelude.{last_in, last_of, left_at, LoadTold, LockTold, LookTold, Mapping, may_call}
pub use Rattle.vm_rule.specs.Prelude.{MayBring, MayRaiseLock, notes_of, Open, out_at, OutTold, put_at, RaiseTold}
pub use Rattle.vm_rule.specs.Prelude.{ReadIs, Seat, seat_of, stands_dirty, StandsClean, StandsIn, Start, Stored}
pub use Rattle.vm_rule.specs.Prelude.{translation_of, TranslationTold, UnshareTold, upgraded_view, UpgradeTold}
pub use Rattle.vm_rule.specs.Prelude.{Within, words_held, WriteLockTold}
pub use Rattle.vm_rule.proofs.{Entries.append-none, Entries.each-map, Facts.has-both, Found.part-found, Heard.each-both, Joining.has-left}
pub use Rattle.vm_rule.proofs.WordFacts.{mapping-clean, version-within, word-made, word-state, word-version}
pub use Rattle.vm_supply.specs.from_vm_rule_laws.Standing.{mapping_in, state_in}
pub use Rattle.vm_supply.specs.from_vm_step.{declared_choice_Looks.Looks, declared_took_Took_TheVariants.Lost}
pub use Rattle.vm_supply.specs.from_vm_step.{declared_took_Took_TheVariants.Taken, steps_Owner.OwnerTold}
pub use Rattle.vm_supply.specs.from_vm_step.Prelude.{candidate_pages, Did, first_or, GoesOnce, HasGiven, HasWritten, HoldsPage}
pub use Rattle.vm_supply.specs.from_vm_step.Prelude.{IsAlone, IsAsideOf, IsCalledOnce, IsCandidate, IsHeld, IsLost, IsOfPage}
pub use Rattle.vm_supply.specs.from_vm_step.Prelude.{IsSamePass, IsToldOf, KeepsFrames, known_word_at, KnowsAsBefore, LeavesLast}
pub use Rattle.vm_supply.specs.from_vm_step.Prelude.{LeavesRest, MayRaise, MayTakeOut, MayUnshare, Note, Origin, ReadsAsBefore}
pub use Rattle.vm_supply.specs.from_vm_step.Prelude.{Release, RunsAlone, StaysHome, Tie, LeavesOnly, Translation, Unstored, View}
pub use Rattle.vm_supply.specs.from_vm_step.Prelude.{view, Works, WritesNone}
pub use Rattle.vm_supply.proofs.from_vm_step.{After.knows-after, Alone.runs-one, Alone.runs-self, Alone.runs-then, Alone.stays-alone}
pub use Rattle.vm_supply.proofs.from_vm_step.{Alone.still-alone, Asides.reads-then, Asides.starts-then, Asides.still-locking}
pub use Rattle.vm_supply.proofs.from_vm_step.{Asides.whole-then, Leaves.aside-of, Leaves.leaves-then, Leaves.works-none}
pub use Rattle.vm_supply.proofs.from_vm_step.{Leaves.works-then, Releasing.each-has, steps_Content.load-works, steps_Look.look-only}
pub use Rattle.vm_supply.proofs.from_vm_step.{steps_Look.look-others, steps_Look.look-own, steps_Mapping.clean-held}
pub use Rattle.vm_supply.proofs.from_vm_step.steps_Mapping.{clean-works, clear-held, clear-works}
pub use Rattle.vm_supply.proofs.from_vm_step.steps_Owner.{owner-held, owner-works}
pub use Rattle.vm_supply.proofs.steps.Raise.{raise-held}
pub use Rattle.vm_supply.proofs.steps.Raise.{raise-works}
pub use Rattle.vm_supply.proofs.from_vm_step.steps_Release.{evict-alone, evict-leaves}
pub use Rattle.vm_supply.proofs.from_vm_step.{steps_Release.evict-seat, steps_Unchanged.lost-only, steps_Unchanged.still-own}
pub use Rattle.vm_supply.proofs.from_vm_step.{steps_Unchanged.still-works, steps_WriteBack.write_lock-own}
pub use Rattle.vm_supply.proofs.from_vm_step.{steps_WriteBack.write_lock-seat, Tables.else-knows}
pub use Rattle.vm_supply.proofs.from_vm_step.Asides.{alone-self, alone-then, aside-then, aside-within, holds-then, keeps-self}
pub use Rattle.vm_supply.proofs.from_vm_step.Asides.{keeps-then, knows-then, numbers-self, numbers-then, only-then, OnlyReads}
pub use Rattle.vm_supply.proofs.from_vm_step.steps_WriteBack.{upgrade-brings, upgrade-did, upgrade-draft, upgrade-held, upgrade-last}
pub use Rattle.vm_supply.proofs.from_vm_step.steps_WriteBack.{upgrade-others, upgrade-own, upgrade-seat, write_lock-brings}
pub use Rattle.vm_supply.proofs.from_vm_step.steps_WriteBack.{write_lock-did, write_lock-held, write_lock-leaves, write_lock-others}
pub use Rattle.vm_supply.proofs.from_vm_step.Device.{comes-home, counts-one, goes-out, may-bring-written, noted-more, two-loads}
pub use Rattle.vm_supply.proofs.from_vm_step.DeviceCalls.{called-behind, called-front, goes-once, home-both, home-else, is-fault}
pub use Rattle.vm_supply.proofs.from_vm_step.DeviceCalls.{no-fault, once-behind, once-front}
pub use Rattle.vm_supply.proofs.from_vm_step.Evidenced.{given-behind, given-front, held-state, leaves-both, leaves-front, lost-view}
pub use Rattle.vm_supply.proofs.from_vm_step.Evidenced.{written-behind, written-front}
pub use Rattle.vm_supply.proofs.from_vm_step.steps_Leaving.{aside-self, LeavesOthers, LeavesOwn, others-still, rest-of}
pub use Rattle.vm_supply.proofs.from_vm_step.steps_Lock.{lock-brings, lock-did, lock-draft, lock-held, lock-others, lock-own, lock-seat}
pub use Rattle.vm_supply.proofs.from_vm_step.steps_Share.{unshare-did, unshare-leaves, unshare-others, unshare-own, unshare-seat}
pub use Rattle.vm_supply.proofs.from_vm_step.steps_Translate.{tload-others, tload-own, tload-works, translation-only}
pub use Rattle.vm_evict.specs.{declared.candidate.Phase.Phase, declared.candidate.Stage.Stage}
pub use Rattle.vm_evict.specs.{declared.flushing.Flushed.Flushed, declared.report.Evicted.Evicted, Flushes.SharesSeen}
pub use Rattle.vm_evict.specs.{Flushes.written, Tables.IsOfAny, Tables.KnowsKept, Tables.KnowsLocked, Tables.KnowsOn}
pub use Rattle.vm_evict.specs.{Tables.KnowsStage, Writes.reads, Writes.StaysOn, Writes.WritesPage}
pub use Rattle.vm_evict.specs.{Writes.writing_seat}
pub use Rattle.vm_evict.specs.Flushes.{clean, done_of, failed, first_noted, FlushVisits, gone, HasNoLock, held}
pub use Rattle.vm_evict.specs.Flushes.{IsCounted, IsFlushedAlone, IsFlushedTo, IsLeft, mark_steps, share_steps}
pub use Rattle.vm_evict.specs.Flushes.{IsNoted, IsSaved, IsSettled, IsUnwritten, IsVisit, KeepsPage, lost, Marks}
pub use Rattle.vm_evict.specs.Flushes.{noted_pages, nothing_flushed, RisesFrom}
pub use Rattle.vm_evict.specs.Writes.{cleans, CopiesWords, EndsWrite, HasNotSaved, HasSaved, IsAllowed, IsCopied}
pub use Rattle.vm_evict.specs.Writes.{IsDirtyFrame, IsFoundClean, IsFoundDirty, IsFoundToWrite, IsFrameLoad}
pub use Rattle.vm_evict.specs.Writes.{IsLeftDirty, IsOwnPlace, IsSavedNow, IsStillLocked, IsUnderWriteBack}
pub use Rattle.vm_evict.specs.Writes.{KnowsClean, raises}
pub use Rattle.vm_evict.specs.Evictions.{by_share, candidate_at, Counts, first_of, first_pair, frame_at, FramesCome}
pub use Rattle.vm_evict.specs.Evictions.{gathered, HasLost, HasReleased, HasStep, HasTaken, IsBatch, IsEnd, IsMissed}
pub use Rattle.vm_evict.specs.Evictions.{IsPageFreed, IsSavedFrom, IsSharedToSave, IsTakenOut, IsToShare}
pub use Rattle.vm_evict.specs.Evictions.{IsWriteFailed, KnowsEvicted, LocksFrom, lost_at, note_at, once, one_if}
pub use Rattle.vm_evict.specs.Evictions.{release_at, stage_at, Tallies, written_at}
pub use Rattle.vm_evict.specs.Phases.{clears, disowns, Does, DoesOne, Empties, gives_up, InPhases, loads, Raises, Saves, shares, writes}
pub use Rattle.vm_evict.specs.Stages.{Adds, Advances, HasLockTaken, HasNoLockOf, IsAdded, IsAt, IsCleanAt, IsEmptied}
pub use Rattle.vm_evict.specs.Stages.{IsOver, IsOwning, IsPhaseMade, IsSeenClean, IsUnderWay, IsWaiting, IsWriting}
pub use Rattle.vm_evict.specs.Stages.{LeavesAll, MayBeginPhase, MayEnd, Moves, none_of, owning_seat, Rests}
unfoldable pub use Rattle.vm_event.specs.Prelude.{at, count_more, frame_in, is_dirty, state_of, version_of, word_of}
