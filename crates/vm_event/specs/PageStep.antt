-- The acts: the events on one page alone.
use Rattle.std.specs.Prelude.{◌≡◌, Bool, if◌then◌else◌, List, true, ℕ}
use Rattle.vm_event.specs.{declared.event.PageAct.PageAct, declared.event.Seen.Seen, State.Page}
use Rattle.vm_event.specs.declared.event.PageAct.TheVariants as acts
use Rattle.vm_event.specs.declared.event.Seen.TheVariants as sights
use Rattle.vm_event.specs.DeviceActs.{failed, MayCall, MayWrite, raised, written}
use Rattle.vm_event.specs.FrameActs.{cleaned, dirtied, frame_read, MayClean, MayDirty, trans_word}
use Rattle.vm_event.specs.StateActs.{downgraded, emptied, finds, left_of, locked, looked, marked, MayEmpty, MayLock}
use Rattle.vm_event.specs.StateActs.{MayReleaseLock, MayShare, MayUnlock, MayUpgrade, page_word, released, shared}
use Rattle.vm_event.specs.StateActs.{unlocked, unmarked, upgraded, write_locked}
use Rattle.vm_event.specs.Words.{count_more, MARKED, state_of, UNLOCKED}

-- the act of the actor is legal at the page
abbrev pub PageLegal : Bool → (ℕ → List ℕ) → Page → ℕ → PageAct → Type 0
PageLegal tells words r a acts.Look = Unit {0}
PageLegal tells words r a (acts.LockX expects) = MayLock expects
PageLegal tells words r a (acts.LockS expects) = MayShare expects
PageLegal tells words r a acts.UnlockS = MayUnlock r a
PageLegal tells words r a (acts.Mark expects) = state_of expects ≡ UNLOCKED
PageLegal tells words r a (acts.Unmark expects) = state_of expects ≡ MARKED
PageLegal tells words r a (acts.LockW expects) = state_of expects ≡ MARKED
PageLegal tells words r a (acts.Upgrade expects) = MayUpgrade r a expects
PageLegal tells words r a acts.Release = MayReleaseLock r a
PageLegal tells words r a acts.ReleaseE = MayEmpty r a
PageLegal tells words r a acts.Downgrade = MayReleaseLock r a
PageLegal tells words r a acts.TLoad = Unit {0}
PageLegal tells words r a acts.Dirty = MayDirty r a
PageLegal tells words r a acts.Clean = MayClean tells words r a
PageLegal tells words r a acts.Read = (r.seats a).exclusive ≡ true
PageLegal tells words r a acts.RFail = (r.seats a).exclusive ≡ true
PageLegal tells words r a acts.Write = MayWrite r a
PageLegal tells words r a acts.WFail = MayWrite r a
PageLegal tells words r a acts.Raise = MayCall r a

-- the page after it
abbrev pub page_after : (ℕ → List ℕ) → Page → ℕ → PageAct → Page
page_after words r a acts.Look = looked r a
page_after words r a (acts.LockX expects) = if finds r expects then locked r a else r
page_after words r a (acts.LockS expects) = if finds r expects then shared r a else r
page_after words r a acts.UnlockS = unlocked r a
page_after words r a (acts.Mark expects) = if finds r expects then marked r else r
page_after words r a (acts.Unmark expects) = if finds r expects then unmarked r else r
page_after words r a (acts.LockW expects) = if finds r expects then write_locked r a else r
page_after words r a (acts.Upgrade expects) = if finds r expects then upgraded r a else r
page_after words r a acts.Release = released r a
page_after words r a acts.ReleaseE = emptied r a
page_after words r a acts.Downgrade = downgraded r a
page_after words r a acts.TLoad = frame_read r a
page_after words r a acts.Dirty = dirtied r
page_after words r a acts.Clean = cleaned r
page_after words r a acts.Read = r
page_after words r a acts.RFail = failed r
page_after words r a acts.Write = written words r
page_after words r a acts.WFail = failed r
page_after words r a acts.Raise = raised r

-- an event that expects a word sees whether it was found
abbrev pub exchange_seen : Page → ℕ → Seen
exchange_seen r expects = if finds r expects then sights.Taken else sights.Lost (page_word r)

-- what it sees
abbrev pub page_seen : Page → ℕ → PageAct → Seen
page_seen r a acts.Look = sights.Look (page_word r) (left_of r (r.seats a).reading)
page_seen r a (acts.LockX expects) = exchange_seen r expects
page_seen r a (acts.LockS expects) = exchange_seen r expects
page_seen r a acts.UnlockS = sights.Word (page_word r)
page_seen r a (acts.Mark expects) = exchange_seen r expects
page_seen r a (acts.Unmark expects) = exchange_seen r expects
page_seen r a (acts.LockW expects) = exchange_seen r expects
page_seen r a (acts.Upgrade expects) = exchange_seen r expects
page_seen r a acts.Release = sights.Done
page_seen r a acts.ReleaseE = sights.Done
page_seen r a acts.Downgrade = sights.Done
page_seen r a acts.TLoad = sights.Word (trans_word r.trans)
page_seen r a acts.Dirty = sights.Done
page_seen r a acts.Clean = sights.Done
page_seen r a acts.Read = sights.Done
page_seen r a acts.RFail = sights.Word (count_more r.count)
page_seen r a acts.Write = sights.Done
page_seen r a acts.WFail = sights.Word (count_more r.count)
page_seen r a acts.Raise = sights.Done
