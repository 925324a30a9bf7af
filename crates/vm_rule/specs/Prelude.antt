-- The names of the rule of the shared table that the specifications and proofs above cite most, passed on from one
-- place: views, places, readings, what a step tells, and what the table and the owner are. Types that the machine
-- declares stand here too, since the machine's own specs cannot pass them on to other crates.
pub use Rattle.atomic_table.specs.{Seated.TableId, Table.Allows, Table.Me, Table.opening}
pub use Rattle.atomic_table.specs.{Table.rest, Table.State as Table, Table.Step}
pub use Rattle.vm_block.specs.{declared.memory.MemBlock.MemBlock, declared.stored.Stored.Stored, Memory.stored_of}
pub use Rattle.vm_block.specs.{Memory.words_of, Plans.most_faults}
pub use Rattle.vm_event.specs.{declared.event.CoreShape.CoreShape, declared.event.Event.Event}
pub use Rattle.vm_event.specs.{declared.event.Mapping.Mapping, declared.event.Open.Open, declared.event.ReadIs.ReadIs}
pub use Rattle.vm_event.specs.{declared.event.Seat.Seat, declared.words.TheConstants.FRAMES}
pub use Rattle.vm_laws_others.specs.Leaves.{actor_of, Leaves, stands_dirty}
pub use Rattle.vm_owner.specs.{declared.Entry.Entry, Numbers.AreApart, Numbers.has, Numbers.without}
pub use Rattle.vm_owner.specs.Kept.{AreUnchanged, Change, changed_pages, claimed, entries_under, Kept, Start}
pub use Rattle.vm_rule.specs.{Begun.HasShape, Begun.Stands, Begun.unborn, Faults.notes_of, Faults.RaiseTold}
pub use Rattle.vm_rule.specs.{Hearing.hearer, Hearing.OnlyKnows, Hearing.TakesOver, Loads.frame_read_by}
pub use Rattle.vm_rule.specs.{Loads.LoadTold, Loads.translation_of, Loads.TranslationTold, Log.did_change}
pub use Rattle.vm_rule.specs.{Log.did_exchange, Log.did_load, Log.did_store, Nexts.claimed_view, Nexts.ClaimTold}
pub use Rattle.vm_rule.specs.{Nexts.next_view, Nexts.NextTold, Puts.put, Puts.put_at, Sound.Sound, Stores.Drafts}
pub use Rattle.vm_rule.specs.{Spread.spread, Spread.spread_table, Stores.FillTold, Stores.StoresTold, Stores.StoreTold}
pub use Rattle.vm_rule.specs.Brought.{Brings, BringsWith, brought, entries_of, entry_of, IsFoundAt, set_if}
pub use Rattle.vm_rule.specs.Bundles.{BundleTold, frames_below, GiveTold, HandTold, TakeTold, with_contents}
pub use Rattle.vm_rule.specs.Joins.{CaughtUp, first_part, giver, HoldsNoPage, joined, JoinTold, newcomer, other_parts}
pub use Rattle.vm_rule.specs.Layout.{at_next, at_state, bundle_count, bundles_of, index_of, table_words, width}
pub use Rattle.vm_rule.specs.Layout.{width_of, with_word, Within, Words}
pub use Rattle.vm_rule.specs.Locks.{entries_where, has_lock, IsHeldAt, IsUnheld, locked_view, LockTold, LockValidates}
pub use Rattle.vm_rule.specs.Locks.{MarkTold, MayRaiseLock, mine_with, shared_view, ShareTold, UnshareTold}
pub use Rattle.vm_rule.specs.Locks.{upgraded_view, UpgradeTold, WriteLockTold}
pub use Rattle.vm_rule.specs.Looks.{IsOlder, IsSince, IsSinceAll, left_at, LookTold, ties_below, where_same}
pub use Rattle.vm_rule.specs.Mappings.{clean_in, CleanTold, ClearTold, contents_at, dirty_in, DirtyTold, held_at}
pub use Rattle.vm_rule.specs.Mappings.{InstallTold, IsWritten, MayPutInto, StandsClean, StandsIn}
pub use Rattle.vm_rule.specs.Reading.{after_releases, core_from, core_shown, first_history, frames_held, holdings}
pub use Rattle.vm_rule.specs.Reading.{numbers_held, home, known, last_in, last_of, loads_of, no_block, out_of, out_or}
pub use Rattle.vm_rule.specs.Reading.{page_from, pushed, seats_of, world_of}
pub use Rattle.vm_rule.specs.Releases.{change_of, changes_of, DowngradeTold, EvictTold}
pub use Rattle.vm_rule.specs.Releases.{next_after, ReleaseTold, without_all}
pub use Rattle.vm_rule.specs.Rule.{AreNext, ArePlain, began_of, BlocksFit, FaultsFit, HoldsNothing, is_owed}
pub use Rattle.vm_rule.specs.Rule.{is_pending, kept_of, KnowsLists, KnowsOwner, KnowsOwners, KnowsPage, KnowsPages}
pub use Rattle.vm_rule.specs.Rule.{no_held, PartsFit, Ruled, slot_of, snapshot_of, TieHolds, TranslationHolds}
pub use Rattle.vm_rule.specs.Rule.{WasNext, WasWord, WereWords}
pub use Rattle.vm_rule.specs.Slots.{DeviceDid, HomeTold, MayBring, out_at, OutTold}
pub use Rattle.vm_rule.specs.Slots.{ReturnTold, ShiftTold, SlotTold, words_held}
pub use Rattle.vm_rule.specs.Started.{AreClaimed, AreWhole, block_words, bounds_of, counts_of, free_words, IsStarted}
pub use Rattle.vm_rule.specs.Started.{MayBegin, started_origin, started_shape, started_words}
pub use Rattle.vm_rule.specs.Views.{any, draft_of, Each, entries_by, first_view, Hears, IsLocking, IsWhole, loads_at}
pub use Rattle.vm_rule.specs.Views.{may_call, one_part, owns, PARTS, seat_of, spent, StartsWith, times, times_noted}
pub use Rattle.vm_rule.specs.Views.{total, view_from, view_of}
unfoldable pub use Rattle.vm_rule.specs.{
  Bundles.frames_in,
  Layout.part,
  Puts.chosen,
  Puts.listed,
  Rule.logical,
  Started.with_free,
  Views.numbers,
}
unfoldable pub use Rattle.vm_rule.specs.Reading.{block_of, frame_words, histories_of, pages_from}
