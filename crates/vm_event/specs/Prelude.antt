-- The names of the machine that the specifications and proofs above cite most, passed on from one place: its state,
-- its acts and its history.
pub use lib.ListN.{get_elem?}
pub use mathlib.Core.Option.{some, some-injective}
pub use Rattle.vm_page.specs.Counts.{MAX_COUNT}
unfoldable pub use Rattle.vm_page.specs.Counts.{count_more}
pub use Rattle.vm_page.specs.declared.buf.TheConstants.{WORDS}
pub use Rattle.vm_page.specs.Pages.{page_at}
pub use Rattle.vm_event.specs.DeviceActs.{block_after, MayCall, raised, written}
unfoldable pub use Rattle.vm_event.specs.Fn.{at, sum_below, upd, upd_over}
pub use Rattle.vm_event.specs.Groups.{GroupsFit, head_in, IsGroup, IsUngrouped}
pub use Rattle.vm_event.specs.FrameActs.{cleared, frame_of, frame_read, framed, gains, HoldsAt, installed, load_frame}
pub use Rattle.vm_event.specs.FrameActs.{mapping_at, mapping_of, MayClean, MayDirty, MayInstall, open_frame, stands_in}
pub use Rattle.vm_event.specs.FrameActs.{trans_word, with_dirty}
pub use Rattle.vm_event.specs.History.{appended, drafted, History, kept_loads, loads_more, Version, World, world_after, world_run}
pub use Rattle.vm_event.specs.Inv.{at_actor, at_free, at_page, FrameInv, FrameIsAt, Inv, Keeps, LoadsAre, LocksInv}
pub use Rattle.vm_event.specs.Inv.{HeadsInv, IsMirror, IsSameSeat, OneHolder, OwnersInv, PageInv, read_version, ReadInv, ReadsPage, share_count, StandsInv, StandsUnder, WordsInv}
pub use Rattle.vm_event.specs.Inv.FramePlace.{Free, Mapped, Nowhere}
pub use Rattle.vm_event.specs.OneVersion.{Validates}
pub use Rattle.vm_event.specs.PageStep.{page_after}
pub use Rattle.vm_event.specs.Start.{begin, core_start, CoreStart, evicted_page, IsStart, no_seat, outside_page, start}
unfoldable pub use Rattle.vm_event.specs.Start.{core_block, full_bundle}
pub use Rattle.vm_event.specs.State.{Page, State}
pub use Rattle.vm_event.specs.StateActs.{finds, is_readable, left_of, left_open, locked, looked, marked, MayEmpty}
pub use Rattle.vm_event.specs.StateActs.{MayLock, MayReleaseLock, MayShare, MayUnlock, MayUpgrade, one_share_more}
pub use Rattle.vm_event.specs.StateActs.{open_after, page_word, shared, unlocked, unmarked, unshared, upgraded}
pub use Rattle.vm_event.specs.StateActs.{write_locked}
pub use Rattle.vm_event.specs.Step.{acted_over, after_event, AllLegal, Legal, MayActOver, MayLeave, NamesActorAndPage, NamesBundle, on_page, run, RunsTo}
pub use Rattle.vm_event.specs.Step.{seen, sees, stored_at, taken, IsOwned, word_at}
pub use Rattle.vm_event.specs.Told.{FrameOnce, Told}
pub use Rattle.vm_event.specs.Words.{AreLowest, EVICTED, LOCKED, MARKED, MAX_VERSION, UNLOCKED}
unfoldable pub use Rattle.vm_event.specs.Words.{frame_in, hand_more, has_free_bit, in_mask, is_dirty, state_of, version_of, word_of}
