-- What the proofs of this crate and of vm_supply cite from the crates below and from this crate's specs, passed on from
-- one place. Declares nothing.
pub use Rattle.std.specs.{Option.option_or, Prelude.All, Prelude.bit_and, Prelude.bit_xor, Prelude.option_map}
pub use Rattle.std.proofs.{lemmas.Bool.Decides.nat_tests, lemmas.Option.none-some, Math.Bool.or-false}
pub use Rattle.std.proofs.{Math.Bool.or_assoc, Math.ListN.get_or-eq_default}
pub use Rattle.std.proofs.Common.{[], ap, append_assoc, arith, bit_or, Bool, eqb, eqb-true, Err, false, if◌then◌else◌}
pub use Rattle.std.proofs.Common.{inl, inr, is_some, IsSome, length, length-append, length-set, List, map, nat_lt}
pub use Rattle.std.proofs.Common.{None, Ok, Option, refl, replicate, Result, rules, slice_index, slice_set, Some}
pub use Rattle.std.proofs.Common.{subst, suc, sym, take, true, true≢false, zero, ℕ, ⊎_elim, ◌%◌, ◌&&◌, ◌*◌, ◌++◌, ◌+◌}
pub use Rattle.std.proofs.Common.{◌-◌, ◌<◌, ◌==◌, ◌^◌, ◌||◌, ◌∙◌, ◌∷◌, ◌≡◌, ◌≢◌, ◌≤◌, ◌⊎◌}
pub use Rattle.std.proofs.lemmas.Bool.{cases_Bool, cases_eq, cases_lt, cond-false, cond-true, eq-eqb}
pub use Rattle.std.proofs.lemmas.Bool.{false_from_ne_true, false≢true, le-ltb, lt-ltb, ltb-true, ne_eqb, or_cases}
pub use Rattle.std.proofs.lemmas.Bool.{or_left, or_parts, or_right}
pub use Rattle.std.proofs.lemmas.List.{get_or-replicate, get_or-set_other, get_or-set_same, get_or_past}
pub use Rattle.std.proofs.lemmas.List.{length-replicate, length-take-le, take_more}
pub use mathlib.Core.Path.{fun_ext}
pub use prog.Atomic.{either}
pub use Rattle.atomic_table.proofs.Lists.{at_set, set_else, set_here}
pub use Rattle.atomic_table.specs.Table.{gives, Joins, put_back, Splits, Step, step}
pub use Rattle.vm_block.specs.Blocks.{Reads, Writes}
pub use Rattle.vm_event.specs.{declared.event.Seen.Seen, PageStep.exchange_seen, Step.MayOwn, Step.owned}
pub use Rattle.vm_event.specs.Prelude.{after_event, at_page, block_after, EVICTED, finds, frame_of, frame_read, framed}
pub use Rattle.vm_event.specs.Prelude.{gains, get_elem?, History, Inv, is_readable, IsOwned, kept_loads, left_of}
pub use Rattle.vm_event.specs.Prelude.{left_open, Legal, load_frame, loads_more, LoadsAre, LOCKED, locked, looked}
pub use Rattle.vm_event.specs.Prelude.{mapping_at, mapping_of, MARKED, marked, MAX_COUNT, MAX_VERSION, MayCall}
pub use Rattle.vm_event.specs.Prelude.{MayLock, MayShare, MayUnlock, NamesActorAndPage, NamesBundle, no_seat, on_page}
pub use Rattle.vm_event.specs.Prelude.{one_share_more, open_after, open_frame, outside_page, Page, page_at, page_word}
pub use Rattle.vm_event.specs.Prelude.{raised, ReadInv, seen, share_count, shared, some, some-injective, stands_in}
pub use Rattle.vm_event.specs.Prelude.{State, taken, trans_word, UNLOCKED, unmarked, unshared, upgraded, Version}
pub use Rattle.vm_event.specs.Prelude.{with_dirty, word_at, World, world_after, write_locked, written}
pub use Rattle.vm_event.specs.declared.event.Event.TheVariants.{BLoad, Claim, Clean, Clear, Dirty, Disown, Downgrade}
pub use Rattle.vm_event.specs.declared.event.Event.TheVariants.{Give, Hand, Install, Load, LockS, LockW, LockX, Look}
pub use Rattle.vm_event.specs.declared.event.Event.TheVariants.{Mark, NLoad, OLoad, Own, Raise, Read, ReleaseE, RFail}
pub use Rattle.vm_event.specs.declared.event.Event.TheVariants.{Store, Take, TLoad, UnlockS, Unmark, Upgrade, WFail}
pub use Rattle.vm_event.specs.declared.event.Event.TheVariants.{Write}
pub use Rattle.vm_event.specs.declared.event.ReadIs.TheVariants.{Closed, Moved, Same}
pub use Rattle.vm_event.proofs.{Locks.sum_below-at, PageFacts.block-is_last, PageFacts.some-is, PageFacts.some-same}
pub use Rattle.vm_event.proofs.{Upd.each-upd, Upd.each-upd2, Upd.upd-keeps, Upd.upd-other, Upd.upd-same, Upd.upd-self}
pub use Rattle.vm_rule.proofs.from_vm_laws_others.Laws.{leave_others}
pub use Rattle.vm_owner.specs.Kept.{after_release, Agrees, AreSized, AreZero, changed, Fits, IsTurn, owed_after, told}
pub use Rattle.vm_owner.proofs.NumberLemmas.{has-without, has-without_other, has-without_same}
pub use Rattle.vm_owner.proofs.NumberLemmas.{without-both, without-none}
pub use Rattle.vm_owner.proofs.Unchanged.{released_same}
pub use Rattle.vm_rule.specs.{Bundles.given_view, Bundles.taken_view, declared.view.Held.Held}
pub use Rattle.vm_rule.specs.{declared.view.WordPlace.WordPlace, Faults.raised_view, Hearing.follower}
pub use Rattle.vm_rule.specs.{Joins.knows_more, Loads.loaded_view, Loads.tloaded_view, Locks.unshared_view}
pub use Rattle.vm_rule.specs.{Locks.write_locked_view, Looks.looked_view, Looks.NamesFrame, Looks.tie_of}
pub use Rattle.vm_rule.specs.{Mappings.clean_view, Mappings.cleared_view, Mappings.dirty_view}
pub use Rattle.vm_rule.specs.{Mappings.installed_view, Nexts.NextStepTold, Reading.at_home, Releases.downgraded_view}
pub use Rattle.vm_rule.specs.{Releases.evicted_view, Releases.released_view, Slots.DeviceDid.idle, Slots.failed}
pub use Rattle.vm_rule.specs.{Slots.home_view, Slots.IsBlockOf, Slots.out_view, Slots.read, Stores.drafted_view}
pub use Rattle.vm_rule.specs.{Stores.filled_view, Stores.PassMayStore}
pub use Rattle.vm_rule.specs.Prelude.{actor_of, after_releases, Allows, any, AreApart, ArePlain, AreUnchanged}
pub use Rattle.vm_rule.specs.Prelude.{at_next, at_state, began_of, BlocksFit, Brings, BringsWith, BundleTold}
pub use Rattle.vm_rule.specs.Prelude.{CaughtUp, Change, change_of, changed_pages, changes_of, claimed, claimed_view}
pub use Rattle.vm_rule.specs.Prelude.{ClaimTold, clean_in, CleanTold, ClearTold, contents_at, core_from, core_shown}
pub use Rattle.vm_rule.specs.Prelude.{DeviceDid, did_change, did_exchange, did_load, did_store, dirty_in, DirtyTold}
pub use Rattle.vm_rule.specs.Prelude.{DowngradeTold, draft_of, Drafts, Each, entries_by, entries_of, entries_under}
pub use Rattle.vm_rule.specs.Prelude.{Entry, entry_of, Event, EvictTold, FaultsFit, FillTold, first_history}
pub use Rattle.vm_rule.specs.Prelude.{first_part, frame_read_by, frames_held, giver, holdings, numbers_held}
pub use Rattle.vm_rule.proofs.Cores.{numbers-still}
pub use Rattle.vm_rule.specs.Prelude.{GiveTold, HandTold, has, has_lock, HasShape, hearer, Hears, held_at}
pub use Rattle.vm_rule.specs.Prelude.{HoldsNoPage, HoldsNothing, home, HomeTold, index_of, InstallTold, is_owed}
pub use Rattle.vm_rule.specs.Prelude.{is_pending, IsFoundAt, IsHeldAt, IsLocking, IsOlder, IsSince, IsSinceAll}
pub use Rattle.vm_rule.specs.Prelude.{IsUnheld, IsWhole, IsWritten, joined, JoinTold, Kept, kept_of, known}
pub use Rattle.vm_rule.specs.Prelude.{KnowsLists, KnowsOwner, KnowsOwners, KnowsPage, KnowsPages, last_in, last_of}
pub use Rattle.vm_rule.specs.Prelude.{Leaves, left_at, loads_at, loads_of, LoadTold, locked_view, LockTold}
pub use Rattle.vm_rule.specs.Prelude.{LockValidates, LookTold, Mapping, MarkTold, may_call, MayBring, MayPutInto}
pub use Rattle.vm_rule.specs.Prelude.{MayRaiseLock, Me, newcomer, next_after, next_view, NextTold, no_held, notes_of}
pub use Rattle.vm_rule.specs.Prelude.{OnlyKnows, Open, other_parts, out_at, out_of, out_or, OutTold, owns, page_from}
pub use Rattle.vm_rule.specs.Prelude.{pushed, put, put_at, RaiseTold, ReadIs, ReleaseTold, rest, ReturnTold, Ruled}
pub use Rattle.vm_rule.specs.Prelude.{Seat, seat_of, seats_of, set_if, shared_view, ShareTold, ShiftTold, slot_of}
pub use Rattle.vm_rule.specs.Prelude.{SlotTold, Sound, spent, Stands, stands_dirty, StandsClean, StandsIn, Start}
pub use Rattle.vm_rule.specs.Prelude.{StartsWith, Stored, StoresTold, StoreTold, Table, table_words, TableId}
pub use Rattle.vm_rule.specs.Prelude.{TakesOver, TakeTold, TieHolds, ties_below, times, times_noted, total}
pub use Rattle.vm_rule.specs.Prelude.{translation_of, TranslationHolds, TranslationTold, unborn, UnshareTold}
pub use Rattle.vm_rule.specs.Prelude.{upgraded_view, UpgradeTold, view_from, view_of, WasNext, WasWord, WereWords}
pub use Rattle.vm_rule.specs.Prelude.{where_same, width, with_word, Within, without, without_all, Words, words_held}
pub use Rattle.vm_rule.specs.Prelude.{world_of, WriteLockTold}
pub use Rattle.vm_rule.proofs.{Beside.page-open, Bringing.rested, Bringing.steps, Bringing.steps_more, Calls.called}
pub use Rattle.vm_rule.proofs.{Calls.called-inv, Calls.called-left, Calls.IsCalled, Cores.core-block}
pub use Rattle.vm_rule.proofs.{Cores.held-still, Cores.loads-still, Cores.seats-still, Heard.calls-by}
pub use Rattle.vm_rule.proofs.{Heard.each-both, Heard.has-first, ListFacts.at-listed, ListFacts.length-listed}
pub use Rattle.vm_rule.proofs.{Meeting.follows-ruled, Meeting.hears-past, Meeting.hears-ruled, Pages.page-in}
pub use Rattle.vm_rule.proofs.{Pages.page-out, Parts.listed-same, Parts.listed-upd, Parts.upd-is, Parts.words-written}
pub use Rattle.vm_rule.proofs.{Resettling.at-past, Resettling.settled-blocks, Runs.event_law, SplitSound.giver-sound}
pub use Rattle.vm_rule.proofs.{SplitSound.newcomer-sound, Views.any-same, Views.at-bound, Views.at-there}
pub use Rattle.vm_rule.proofs.{Views.block-same, Views.total-set}
pub use Rattle.vm_rule.proofs.Adding.{after_more, after_step, became, became_more, faults-still, Shows, ShowsMore}
pub use Rattle.vm_rule.proofs.Bundled.{given-bits, has-frames_in, has-without_all, taken-frames, with_contents-at}
pub use Rattle.vm_rule.proofs.Entries.{append-none, each-map, entries-both, entries-within, has-joined, mine-in}
pub use Rattle.vm_rule.proofs.Facts.{any-here, any-true, blocks-still, caller-here, either-way, has-both, locked-here}
pub use Rattle.vm_rule.proofs.Facts.{pending-held, shared-here, unheld}
pub use Rattle.vm_rule.proofs.Found.{block-here, bundle-here, content-here, hand-here, held-here, loads-here}
pub use Rattle.vm_rule.proofs.Found.{next-here, owner-here, part-found, same-word, seat-here, state-here}
pub use Rattle.vm_rule.proofs.Found.{translation-here, version-here, word-here}
pub use Rattle.vm_rule.proofs.FrameWorlds.{claim-step, clean-step, clear-step, dirty-step, fill-step, give-step}
pub use Rattle.vm_rule.proofs.FrameWorlds.{hand-step, install-step, lost-claim, lost-take, owner-step, raise-step}
pub use Rattle.vm_rule.proofs.FrameWorlds.{stands-nowhere, take-step}
pub use Rattle.vm_rule.proofs.Joining.{at-first, at-neither, at-second, has-left, has-right, joins-past, joins-ruled}
pub use Rattle.vm_rule.proofs.Joining.{once-second, times-joined, twice}
pub use Rattle.vm_rule.proofs.Splitting.{parts-cut, same-field, split-resettles, split-views, splits-past, splits-ruled}
pub use Rattle.vm_rule.proofs.WordFacts.{bare-state, bare-version, finds-hit, finds-miss, less-state, less-version}
pub use Rattle.vm_rule.proofs.WordFacts.{mapping-clean, mapping-dirty, mapping-none, version-within, word-state}
pub use Rattle.vm_rule.proofs.WordFacts.{word-version}
pub use Rattle.vm_rule.proofs.Alone.{lost-locks, lost-lockw, lost-lockx, lost-mark, lost-unmark, lost-upgrade}
pub use Rattle.vm_rule.proofs.Worlds.{core-still, downgrade-step, draft-is, last-is, last-same, load-step, locks-step}
pub use Rattle.vm_rule.proofs.Worlds.{lockw-step, lockx-step, look-step, mark-step, release-else, release-here}
pub use Rattle.vm_rule.proofs.Worlds.{release-step, release_of, releasee-step, stands-one, store-core, store-step}
pub use Rattle.vm_rule.proofs.Worlds.{tload-step, unlocks-step, unmark-step, upgrade-step, world-still, wrote}
pub use Rattle.vm_rule_laws.specs.Known.{HasStepped, kept_by, KnowsTable}
pub use Rattle.vm_rule_laws.proofs.{Alone.without-locks, Histories.all-seen, Knowing.table-known, Knowing.what-is-kept}
pub use Rattle.vm_step.specs.{Alone.KnowsAfter, Events.FindsAt, Evidence.expected, steps.Block.empty_play}
pub use Rattle.vm_step.specs.{steps.Block.lift_play, steps.Block.return_play, steps.Block.slot_play}
pub use Rattle.vm_step.specs.{steps.CatchUp.CatchUpIsItsEvent, steps.Content.FillIsItsEvent}
pub use Rattle.vm_step.specs.{steps.Content.LoadIsItsEvent, steps.Content.StoreIsItsEvent, steps.Hand.HandIsItsEvent}
pub use Rattle.vm_step.specs.{steps.Lock.LockExclusiveIsItsEvent, steps.Look.LookIsItsEvent}
pub use Rattle.vm_step.specs.{steps.Mark.MarkIsItsEvent, steps.Mark.UnmarkIsItsEvent, steps.Next.ClaimIsItsEvent}
pub use Rattle.vm_step.specs.{steps.Next.NloadIsItsEvent, steps.Pass.FollowIsItsEvent}
pub use Rattle.vm_step.specs.{steps.Share.LockSharedIsItsEvent, steps.Share.UnlockSharedIsItsEvent}
pub use Rattle.vm_step.specs.{steps.Translate.TloadIsItsEvent, steps.WriteBack.LockWriteBackIsItsEvent}
pub use Rattle.vm_step.specs.{steps.WriteBack.UpgradeIsItsEvent, Together.all_freed, Together.all_notes}
pub use Rattle.vm_step.specs.{Together.all_numbers, Together.all_used, Together.HasPiece}
pub use Rattle.vm_step.specs.BlockMoves.{brought_to, IsCall, IsHome, ShowsBut, ShowsSame, taken_from, with_block}
pub use Rattle.vm_step.specs.NoEvents.{HasNone, IsSplitOff, IsTakenIn, table_heard}
pub use Rattle.vm_step.specs.NoEvents.{table_joined, table_split, taken_in, with_actor}
pub use Rattle.vm_step.specs.Prelude.{AllowsStep, AreHeld, CatchTold, Did, exchange_sees, exchanged, first_or}
pub use Rattle.vm_step.specs.Prelude.{Follows, GoesOnce, HasGiven, HasJoined, HasStill, HasWritten, HoldsPage}
pub use Rattle.vm_step.specs.Prelude.{IsAlone, IsAside, KeepsNumbers, IsAsideOf, IsCalledOnce, IsClaimed, IsEvent}
pub use Rattle.vm_step.specs.Prelude.{IsFirst, IsFit, IsHeld, IsKeptNow, IsMember, IsNotOut, IsOf, IsPassOf}
pub use Rattle.vm_step.specs.Prelude.{IsPlacedAt, IsReady, IsSaw, IsToldOf, KeepsFrames, known_word_at, KnowsAll}
pub use Rattle.vm_step.specs.Prelude.{KnowsAsBefore, KnowsAt, KnowsElse, KnowsUnheld, LeavesLast, LeavesOnly}
pub use Rattle.vm_step.specs.Prelude.{LeavesRest, LocksNone, LookTells, MayDowngrade, MayEvict, MayGiveUp, MayGoOn}
pub use Rattle.vm_step.specs.Prelude.{MayRaise, MayTakeOut, MayTell, MayUnshare, Meets, Note, Origin, Out, Pass}
pub use Rattle.vm_step.specs.Prelude.{PassesSplit, PassMayClaim, PassMayGive, Put, ReadsAsBefore, Release}
pub use Rattle.vm_step.specs.Prelude.{ReleaseTells, RunsAlone, Snapshot, StaysAlone, StaysHome, TableShape, Stores}
pub use Rattle.vm_step.specs.Prelude.{table_after, Tie, told_of, Translation, View, view, Works, WritesNone}
pub use Rattle.vm_step.specs.steps.Bundle.{BloadIsItsEvent, GiveIsItsEvent, IsMaskOf, TakeIsItsEvent}
pub use Rattle.vm_step.specs.steps.Owner.{DisownIsItsEvent, IsOwnerEvent, OloadIsItsEvent, owned_view, OwnerLoadTold}
pub use Rattle.vm_step.specs.steps.Owner.{OwnerTold, OwnIsItsEvent}
pub use Rattle.vm_step.specs.steps.Release.{DowngradeIsItsEvent, IsLater, ReleaseEvictedIsItsEvent, ReleaseIsItsEvent}
unfoldable pub use Rattle.vm_event.specs.Prelude.{at, count_more, frame_in, hand_more, in_mask, is_dirty, state_of, sum_below, upd, version_of, word_of}
unfoldable pub use Rattle.vm_rule.specs.Prelude.{block_of, chosen, frames_in, histories_of, listed, logical, numbers, pages_from}
