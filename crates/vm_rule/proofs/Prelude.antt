-- What the proofs of this crate cite from the crates below and from its own specs, passed on from one place. Declares
-- nothing.
pub use Rattle.std.specs.{Int.bit_at, Prelude.bit_or, Prelude.bit_xor}
pub use Rattle.std.proofs.{lemmas.Bool.Decides.nat_tests, lemmas.List.FromFn.length-map-range_with_len}
pub use Rattle.std.proofs.{Math.Bool.or-true}
pub use Rattle.std.proofs.Common.{[], ap, append_assoc, arith, bit_and, Bool, cond, div-add-mod', eqb, Err, false}
pub use Rattle.std.proofs.Common.{get_or, if◌then◌else◌, inl, inr, IsSome, length, length-append, length-set, List}
pub use Rattle.std.proofs.Common.{ltb, map, min, None, Ok, Option, refl, replicate, rules, slice_index, slice_set}
pub use Rattle.std.proofs.Common.{Some, subst, suc, sym, take, true, true≢false, zero, ℕ, ⊎_elim, ◌%◌, ◌&&◌, ◌*◌}
pub use Rattle.std.proofs.Common.{◌++◌, ◌+◌, ◌-◌, ◌/◌, ◌<◌, ◌==◌, ◌^◌, ◌||◌, ◌∙◌, ◌∷◌, ◌≡◌, ◌≢◌, ◌≤◌, ◌⊎◌}
pub use Rattle.std.proofs.lemmas.Bool.{and_from, cases_Bool, cases_eq, cases_lt, eq-eqb, false_from_ne_true}
pub use Rattle.std.proofs.lemmas.Bool.{false≢true, le-ltb, lt-ltb, ltb-true, ne_eqb}
pub use Rattle.std.proofs.lemmas.List.{append-nil, append_cancel_left, get_or-append_right, get_or-map}
pub use Rattle.std.proofs.lemmas.List.{get_or_append_left, get_or_default, get_or_past, length-map, length-replicate}
pub use Rattle.std.proofs.lemmas.List.{nil_from_length, set-get_or}
pub use Rattle.std.proofs.lemmas.Nat.Bits.{bit_at-lt, bit_at-zero, bit_at_above, bit_at_and}
pub use Rattle.std.proofs.lemmas.Nat.Bits.{bit_at_ones, bit_at_ones_above, same_from_bits}
pub use mathlib.Core.Path.{fun_ext, subst₃}
pub use Rattle.atomic_table.proofs.Lists.{at_longer, at_set, at_snoc, set_else, set_here}
pub use Rattle.atomic_table.specs.Table.{step}
pub use Rattle.vm_event.specs.{History.histories_after, Inv.FramePlace.Held}
pub use Rattle.vm_core.specs.{declared.playing.ReplayFault.ReplayFault}
pub use Rattle.vm_event.specs.{Inv.IsFramePlace, OneVersion.AllReadOne, StateActs.seated, Step.changed_at}
pub use Rattle.vm_event.specs.{Step.given_by, Step.owned, Step.taken_by, Told.FaultsTold, Told.StandsAt}
pub use Rattle.vm_event.specs.declared.event.Event.TheVariants.{BLoad, Claim, Clean, Clear, Dirty, Disown, Downgrade}
pub use Rattle.vm_event.specs.declared.event.Event.TheVariants.{Give, Hand, Install, Load, LockS, LockW, LockX, Look}
pub use Rattle.vm_event.specs.declared.event.Event.TheVariants.{Mark, NLoad, OLoad, Own, Raise, Read, ReleaseE, RFail}
pub use Rattle.vm_event.specs.declared.event.Event.TheVariants.{Store, Take, TLoad, UnlockS, Unmark, Upgrade, WFail}
pub use Rattle.vm_event.specs.declared.event.Event.TheVariants.{Write}
pub use Rattle.vm_event.specs.FrameActs.{frame_of}
pub use Rattle.vm_event.specs.Prelude.{after_event, AllLegal, appended, at_actor, at_free, at_page, begin, block_after}
pub use Rattle.vm_event.specs.Prelude.{core_start, CoreStart, drafted, EVICTED, evicted_page, finds, framed}
pub use Rattle.vm_core.specs.Prelude.{core_of}
pub use Rattle.vm_event.specs.Prelude.{FrameIsAt, FrameOnce, Free, gains, get_elem?, History, Inv, is_readable}
pub use Rattle.vm_event.specs.Prelude.{IsStart, Keeps, kept_loads, left_of, Legal, load_frame, loads_more, LOCKED}
pub use Rattle.vm_event.specs.Prelude.{LocksInv, Mapped, mapping_of, MARKED, MAX_COUNT, MAX_VERSION, MayCall, no_seat}
pub use Rattle.vm_event.specs.Prelude.{Nowhere, on_page, one_share_more, OneHolder, open_after, open_frame}
pub use Rattle.vm_event.specs.Prelude.{outside_page, Page, page_word, PageInv, ReadInv, run, RunsTo}
pub use Rattle.vm_core.specs.Prelude.{Replayed}
pub use Rattle.vm_event.specs.Prelude.{share_count, some, some-injective, stands_in, start, State, stored_at, Told}
pub use Rattle.vm_event.specs.Prelude.{trans_word, UNLOCKED, unshared, Validates, Version, with_dirty, word_at}
pub use Rattle.vm_event.specs.Prelude.{WordsInv, World, world_after, world_run}
pub use Rattle.vm_event.proofs.{At.at-get, Locks.locked-from_owner, Locks.shared-state, Locks.sum_below-at}
pub use Rattle.vm_event.proofs.{PageFacts.found, PageFacts.none-some, Whole.page-alone}
pub use Rattle.vm_core.proofs.{Starting.locks-none}
pub use Rattle.vm_event.proofs.{WordBits.frame-of, WordBits.top-clear, WordBits.top-set}
pub use Rattle.vm_event.proofs.Upd.{each-upd, sum_below-past, upd-keeps, upd-map, upd-other, upd-same, upd-self}
pub use Rattle.vm_laws_state.proofs.Laws.{downgrade_law, lock_exclusive_law, lock_shared_law, lock_write_back_law}
pub use Rattle.vm_laws_state.proofs.Laws.{look_law, mark_law, release_evicted_law, release_law, unlock_shared_law}
pub use Rattle.vm_laws_state.proofs.Laws.{unmark_law, upgrade_law}
pub use Rattle.vm_laws_state.proofs.Validate.{lock_exclusive_validates, lock_shared_validates}
pub use Rattle.vm_laws_state.proofs.Validate.{lock_write_back_validates, look_validates, upgrade_validates}
pub use Rattle.vm_laws_frame.proofs.{Bits.taken-free, Places.free-place, Places.held-place, Places.mapped-place}
pub use Rattle.vm_laws_frame.proofs.Laws.{bundle_load_law, clean_law, clear_law, dirty_law, disown_law, give_law}
pub use Rattle.vm_laws_frame.proofs.Laws.{install_law, load_law, own_law, owner_load_law, store_law, take_law}
pub use Rattle.vm_laws_frame.proofs.Laws.{translation_load_law}
pub use Rattle.vm_laws_device.proofs.Device.{written-keeps}
pub use Rattle.vm_laws_device.proofs.Laws.{claim_law, hand_law, next_load_law, raise_law, read_fault_law, read_law}
pub use Rattle.vm_laws_device.proofs.Laws.{write_fault_law, write_law}
pub use Rattle.vm_laws_others.specs.Leaves.{CountsMove, LeavesActor, PageMoves}
pub use Rattle.vm_laws_others.proofs.{Device.called-leaves, Laws.leave_others, Page.counts-same, Page.page-leaves}
pub use Rattle.vm_owner.specs.Kept.{AreCounted}
pub use Rattle.vm_owner.proofs.{Counts.counted-more, NumberLemmas.apart-end}
pub use Rattle.vm_owner.proofs.{NumberLemmas.has-without_other, NumberLemmas.has-without_same}
pub use Rattle.vm_rule.specs.{Begun.begin_play, Begun.begun, Brought.IsStepOf, Brought.set_block}
pub use Rattle.vm_rule.specs.{declared.view.Did.Did, declared.view.Note.Note, declared.view.Origin.Origin}
pub use Rattle.vm_rule.specs.{declared.view.Out.Out, declared.view.WordPlace.TheVariants.Next}
pub use Rattle.vm_rule.specs.{declared.view.WordPlace.WordPlace, declared.view.Put.Put, declared.view.Release.Release}
pub use Rattle.vm_rule.specs.{declared.view.Snapshot.Snapshot, declared.view.TableShape.TableShape}
pub use Rattle.vm_rule.specs.{declared.view.Tie.Tie, declared.view.Translation.Translation, declared.view.View.View}
pub use Rattle.vm_rule.specs.{Hearing.follower, Joins.given_part, Joins.knows_more, Kept.IsRunKept, Kept.KeptFault}
pub use Rattle.vm_rule.specs.{Kept.KeptFrom, Started.contents_of}
pub use Rattle.vm_rule.specs.Prelude.{AreClaimed, AreWhole, free_words, actor_of, after_releases, Allows, any}
pub use Rattle.vm_rule.specs.Prelude.{AreApart, AreNext, ArePlain, at_next, at_state, began_of, block_words}
pub use Rattle.vm_rule.specs.Prelude.{BlocksFit, Brings, BringsWith, brought, bundle_count, bundles_of, core_from}
pub use Rattle.vm_rule.specs.Prelude.{core_shown, CoreShape, counts_of, did_load, draft_of, Each, entries_by}
pub use Rattle.vm_rule.specs.Prelude.{entries_under, Entry, entry_of, Event, FaultsFit, first_history, first_part}
pub use Rattle.vm_rule.specs.Prelude.{first_view, frames_below, frames_held, giver, has, HasShape, hearer, Hears}
pub use Rattle.vm_rule.specs.Prelude.{HoldsNoPage, HoldsNothing, home, index_of, is_owed, is_pending, IsFoundAt}
pub use Rattle.vm_rule.specs.Prelude.{IsLocking, IsStarted, IsWhole, joined, Kept, kept_of, known, KnowsLists}
pub use Rattle.vm_rule.specs.Prelude.{KnowsOwners, KnowsPage, KnowsPages, last_in, Leaves, loads_at, loads_of}
pub use Rattle.vm_rule.specs.Prelude.{Mapping, may_call, MayBegin, Me, newcomer, no_block, no_held, one_part}
pub use Rattle.vm_rule.specs.Prelude.{OnlyKnows, Open, opening, other_parts, out_of, out_or, owns, page_from, PARTS}
pub use Rattle.vm_rule.specs.Prelude.{PartsFit, pushed, put, put_at, Ruled, Seat, seat_of, seats_of, set_if, slot_of}
pub use Rattle.vm_rule.specs.Prelude.{snapshot_of, Sound, spent, Stands, Start, started_origin, started_shape}
pub use Rattle.vm_rule.specs.Prelude.{started_words, StartsWith, Stored, Table, table_words, TakesOver, TieHolds}
pub use Rattle.vm_rule.specs.Prelude.{times, times_noted, total, TranslationHolds, unborn, view_from, WasNext}
pub use Rattle.vm_rule.specs.Prelude.{WasWord, WereWords, width, width_of, with_contents, with_word, Within, without}
pub use Rattle.vm_rule.specs.Prelude.{without_all, Words, world_of}
unfoldable pub use Rattle.vm_event.specs.Prelude.{at, core_block, count_more, frame_in, full_bundle, hand_more, has_free_bit, in_mask, state_of, sum_below, upd}
unfoldable pub use Rattle.vm_event.specs.Prelude.{version_of, word_of}
unfoldable pub use Rattle.vm_rule.specs.Prelude.{
  block_of,
  chosen,
  frame_words,
  frames_in,
  histories_of,
  listed,
  logical,
  numbers,
  pages_from,
  part,
  with_free,
}
