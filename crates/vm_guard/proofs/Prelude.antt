-- What the proofs of this crate cite from the crates below and from its own specs, passed on from one place. Declares nothing.
pub use Rattle.std.specs.Option.{option_to_list}
pub use Rattle.std.specs.Prelude.{Err, IfErr, IsOk, Ok, option_map, Result}
pub use Rattle.std.proofs.{lemmas.Bool.Decides.nat_tests, lemmas.Option.none-some, lemmas.Option.same_Some}
pub use Rattle.std.proofs.Common.{[], ap, append_assoc, arith, Bool, eqb, false, if◌then◌else◌, inl, inr, is_some}
pub use Rattle.std.proofs.Common.{IsSome, length, List, nat_lt, None, Option, refl, replicate, reverse, rules}
pub use Rattle.std.proofs.Common.{slice_index, slice_set, Some, subst, suc, sym, take, true, true≢false, ℕ, ⊎_elim}
pub use Rattle.std.proofs.Common.{◌&&◌, ◌*◌, ◌++◌, ◌+◌, ◌-◌, ◌<◌, ◌==◌, ◌^◌, ◌||◌, ◌∙◌, ◌∷◌, ◌≡◌, ◌≢◌, ◌≤◌, ◌⊎◌}
pub use Rattle.std.proofs.lemmas.Bool.{and_from, cases_Bool, cases_eq, cases_lt, cond-false, cond-true, eq-eqb}
pub use Rattle.std.proofs.lemmas.Bool.{false≢true, ne_eqb, or_left, or_parts, or_right}
pub use Rattle.std.proofs.lemmas.List.{get_or-set_other, get_or-set_same, get_or_past, length-append}
pub use Rattle.std.proofs.lemmas.List.{length-replicate, length-set, length-take-le, reverse-append, set-get_or}
pub use Rattle.std.proofs.lemmas.List.{take_more_set}
pub use Rattle.std.proofs.lemmas.Result.{err_from_is_err_and, IfErr-weaker, IfOk-weaker}
pub use Rattle.vm_event.specs.{declared.event.ReadIs.TheVariants.Same, FrameActs.frame_or}
pub use Rattle.vm_event.specs.Prelude.{EVICTED, frame_of, framed, History, is_readable, kept_loads, left_open}
pub use Rattle.vm_event.specs.Prelude.{loads_more, LoadsAre, LOCKED, mapping_at, mapping_of, MARKED, MAX_VERSION}
pub use Rattle.vm_event.specs.Prelude.{MayLock, MayShare, one_share_more, open_after, open_frame, trans_word, UNLOCKED}
pub use Rattle.vm_event.specs.Prelude.{Version}
pub use Rattle.vm_event.proofs.{PageFacts.some-same, Upd.upd-other}
pub use Rattle.vm_owner.proofs.NumberLemmas.{has-without_other, without-none}
pub use Rattle.vm_rule.specs.{declared.view.Held.Held, declared.view.WordPlace.WordPlace, Looks.NamesFrame}
pub use Rattle.vm_rule.specs.Prelude.{AreApart, at_state, began_of, Brings, Change, changes_of, ClaimTold, clean_in}
pub use Rattle.vm_rule.specs.Prelude.{contents_at, did_change, did_exchange, did_load, did_store, dirty_in, DirtyTold}
pub use Rattle.vm_rule.specs.Prelude.{DowngradeTold, draft_of, Drafts, Each, entries_of, Entry, EvictTold, FillTold}
pub use Rattle.vm_rule.specs.Prelude.{frame_read_by, has, has_lock, held_at, index_of, InstallTold, IsLocking}
pub use Rattle.vm_rule.specs.Prelude.{IsOlder, IsSince, IsSinceAll, IsUnheld, IsWhole, Kept, last_in, last_of}
pub use Rattle.vm_rule.specs.Prelude.{left_at, loads_at, LoadTold, locked_view, LockTold, LockValidates, LookTold}
pub use Rattle.vm_rule.specs.Prelude.{Mapping, MarkTold, MayPutInto, next_after, next_view, NextTold, no_held, Open}
pub use Rattle.vm_rule.specs.Prelude.{put, put_at, ReadIs, ReleaseTold, Seat, seat_of, set_if, shared_view, ShareTold}
pub use Rattle.vm_rule.specs.Prelude.{Start, StoresTold, StoreTold, ties_below, translation_of, TranslationTold}
pub use Rattle.vm_rule.specs.Prelude.{UnshareTold, where_same, Within, without, without_all}
pub use Rattle.vm_rule.proofs.{Entries.append-none, Entries.each-map, Facts.has-both, Heard.each-both, Worlds.last-is, Worlds.release-here}
pub use Rattle.vm_rule.proofs.WordFacts.{bare-state, bare-version, version-within, word-state, word-version}
pub use Rattle.vm_step.specs.{declared.saw.At.At, declared.saw.Saw.Saw, Evidence.Begins.guarded}
pub use Rattle.vm_step.specs.Evidence.{asked, expected, Gives, read, same, WhyAgain}
pub use Rattle.vm_step.specs.Prelude.{AreHeld, AreQuiet, Begins, Did, Follows, found_by, HasGiven, HasWritten}
pub use Rattle.vm_step.specs.Prelude.{HoldsPage, IsAlone, IsClaimed, IsFirst, IsKeptNow, IsMember, IsNotOut, IsSaw}
pub use Rattle.vm_step.specs.Prelude.{IsToldOf, IsWorn, KeepsFrames, known_word_at, KnowsAsBefore, KnowsAt, KnowsSame}
pub use Rattle.vm_step.specs.Prelude.{LeavesOnly, LeavesRest, LocksNone, MayDowngrade, MayGiveUp, NoneExpected}
pub use Rattle.vm_step.specs.Prelude.{NoWord, Origin, PassMayClaim, place_at, ReadsAsBefore, Release, RunsAlone}
pub use Rattle.vm_step.specs.Prelude.{StaysAlone, Stores, Tie, Translation, UnlockedExpected, View, view, Works}
pub use Rattle.vm_step.specs.Prelude.{WritesNone}
pub use Rattle.vm_step.proofs.{After.knows-after, After.wide-after, Evidenced.leaves-both, Evidenced.leaves-front}
pub use Rattle.vm_step.proofs.{Evidenced.written-behind, Groups.has-left_of, Groups.has-without_all_same}
pub use Rattle.vm_step.proofs.{HeldFrames.held-on, Leaves.works-then, Numbers.numbers-has, Saws.lost-saw}
pub use Rattle.vm_step.proofs.{Saws.one-given, Written.index-below}
pub use Rattle.vm_step.proofs.Alone.{found-known, runs-then, same-word, stays-alone, still-alone, words-known}
pub use Rattle.vm_step.proofs.Asides.{alone-self, alone-then, holds-then, keeps-then, knows-then, reads-then, starts-then, still-locking}
pub use Rattle.vm_step.proofs.Filling.{filled, fills, Fills, stores-did}
pub use Rattle.vm_step.proofs.Tables.{at-then, else-knows, follows-length, last-known}
pub use Rattle.vm_step.proofs.steps.Content.{load-holds, load-knows, load-loads, load-others, load-own, load-seat}
pub use Rattle.vm_step.proofs.steps.Content.{store-draft, store-held, store-last, store-loads, store-others}
pub use Rattle.vm_step.proofs.steps.Content.{store-own, store-seat}
pub use Rattle.vm_step.proofs.steps.Leaving.{holds-still, LeavesOthers, LeavesOwn, others-none, others-still}
pub use Rattle.vm_step.proofs.steps.Leaving.{others-then, others-within, own-then, releases-else}
pub use Rattle.vm_step.proofs.steps.Lock.{lock-draft, lock-held, lock-others, lock-own, lock-seat}
pub use Rattle.vm_step.proofs.steps.Look.{look-holds, look-loads, look-others, look-own, look-says, look-seat, looked-knows, same-both}
pub use Rattle.vm_step.proofs.steps.Mapping.{dirty-held, dirty-others, dirty-works}
pub use Rattle.vm_step.proofs.steps.Next.{claim-brings, claim-others, nload-others}
pub use Rattle.vm_step.proofs.steps.Release.{downgrade-last, downgrade-others, downgrade-seat, evict-alone}
pub use Rattle.vm_step.proofs.steps.Release.{evict-others, evict-seat, release-alone, release-last, release-loads}
pub use Rattle.vm_step.proofs.steps.Release.{release-others, release-own, release-seat}
pub use Rattle.vm_step.proofs.steps.Share.{share-brings, share-last, share-others, share-own, share-seat}
pub use Rattle.vm_step.proofs.steps.Share.{unshare-knows, unshare-loads, unshare-others, unshare-own, unshare-seat}
pub use Rattle.vm_step.proofs.steps.Translate.{tload-holds, tload-knows, tload-loads, tload-others, tload-own, tload-seat}
pub use Rattle.vm_step.proofs.steps.Unchanged.{lost-brings, still-holds, still-knows, still-loads, still-own, still-seat}
pub use Rattle.vm_guard.specs.{declared.deny.Deny.Deny, declared.exclusive.ExclusiveGuard.ExclusiveGuard}
pub use Rattle.vm_guard.specs.{declared.given.Fresh.Fresh, Downgrades.IsDowngraded, FreshPlaces.IsPlaceOf}
pub use Rattle.vm_guard.specs.{FreshPlaces.KnowsOthers, Pairs.HasFirst}
pub use Rattle.vm_guard.specs.FreshWords.{GivesUpOnce, IsNextWord, put_did, PutsOnce, TakesOnce}
pub use Rattle.vm_guard.specs.Denied.{AgainOrNeed, AgainOrWorn, IsDenied, IsEvidence, KeptWord, NotCrowded, NotWorn}
pub use Rattle.vm_guard.specs.Denied.{OnlyWorn, SameOrUnlocked}
pub use Rattle.vm_guard.specs.Fresh.{AreFresh, Furnishes, GivesBack, HasPagesFor, IsAmid, IsBegun, IsNextAnswer}
pub use Rattle.vm_guard.specs.Fresh.{IsFull, IsNil, IsNotSeized, IsPages, IsPagesOrWorn, IsSeized, IsSpared}
pub use Rattle.vm_guard.specs.Fresh.{IsToSeize, IsToTry, IsWornOut, Seizes}
pub use Rattle.vm_guard.specs.Groups.{AreGivenUp, AreReleased, guards_of, GuardsHeld, IsBeside, IsDue}
pub use Rattle.vm_guard.specs.Groups.{IsGroupReleased, last_pid, MayReleaseAll, next_after_all, pids_of}
pub use Rattle.vm_guard.specs.Groups.{release_steps, released_words, releases_of}
pub use Rattle.vm_guard.specs.Guards.{AreUnmarking, BeginsReading, dirty_steps, HasLeft, IsDirtied, IsElsewhere}
pub use Rattle.vm_guard.specs.Guards.{IsHolding, IsLocked, IsReading, IsReleased, IsSet, IsShared, IsSharing}
pub use Rattle.vm_guard.specs.Guards.{IsUnmarked, IsUnshared, IsValid, Loads, placed}
pub use Rattle.vm_guard.specs.LockSteps.{lock_did, LocksBy, share_did, SharesBy, TakesBy}
pub use Rattle.vm_guard.specs.Quiet.{IsQuiet, IsSteady, LeavesNone, LeavesTable, OnlyUnmarks}
pub use Rattle.vm_guard.specs.Sure.{IsKnownAt, IsKnownFree, IsUnlockedWord, known_next, known_word, KnowsStates}
pub use Rattle.vm_guard.specs.Sure.{MayBeSeized, unmarked_word, words_with}
pub use Rattle.vm_guard.specs.Takes.{HasRoom, IsToExpect, PassMayRelease, SaysWhy}
unfoldable pub use Rattle.vm_event.specs.Prelude.{frame_in, is_dirty, state_of, version_of, word_of}
unfoldable pub use Rattle.vm_rule.specs.Prelude.{numbers}
