-- One step of the core, and a list of them.
use Rattle.std.specs.Prelude.{[], ◌&&◌, ◌*◌, ◌+◌, ◌<◌, ◌==◌, ◌∷◌, ◌≡◌, ◌≢◌, ◌≤◌, ◌⊎◌, bit_and, bit_or, bit_xor, Bool}
use Rattle.std.specs.Prelude.{false, if◌then◌else◌, IsSome, List, None, Option, slice_index, slice_set, Some, true, ℕ}
use Rattle.vm_page.specs.Pages.{all_zero}
use Rattle.vm_event.specs.{declared.event.Event.Event, declared.event.Mapping.Mapping, declared.event.PageAct.PageAct}
use Rattle.vm_event.specs.{declared.event.Seen.Seen, declared.words.TheConstants.FRAMES, Fn.upd, Fn.upd_over, State.Page}
use Rattle.vm_event.specs.{State.State, Words.hand_more, Words.has_free_bit, Words.in_mask}
use Rattle.vm_event.specs.declared.event.Event.TheVariants.{BLoad, Claim, Clean, Clear, Dirty, Disown, Downgrade, Give}
use Rattle.vm_event.specs.declared.event.Event.TheVariants.{Hand, Install, Load, LockS, LockW, LockX, Look, Mark}
use Rattle.vm_event.specs.declared.event.Event.TheVariants.{NLoad, OLoad, Own, Raise, Read, Release, ReleaseE, RFail}
use Rattle.vm_event.specs.declared.event.Event.TheVariants.{Store, PBLoad, PGive, PTake, Take, TLoad, UnlockS, Unmark}
use Rattle.vm_event.specs.declared.event.Event.TheVariants.{Upgrade, WFail, Write}
use Rattle.vm_event.specs.declared.event.PageAct.TheVariants as acts
use Rattle.vm_event.specs.declared.event.Seen.TheVariants as sights
use Rattle.vm_event.specs.FrameActs.{cleared, frame_of, gains, HoldsAt, installed, load_frame, MayClear, MayDirty, MayInstall}
use Rattle.vm_event.specs.PageStep.{page_after, page_seen, PageLegal}

-- the core with this page at p
abbrev pub on_page : State → ℕ → Page → State
on_page c p r = record c { pages = upd c.pages p r }

-- the numbers name an actor and a page
pub record NamesActorAndPage (c : State) (a p : ℕ) : Type 0 where
  pub actor : a < c.shape.actors
  pub page : p < c.shape.pages

-- the numbers name an actor and a frame
pub record NamesActorAndFrame (c : State) (a f : ℕ) : Type 0 where
  pub actor : a < c.shape.actors
  pub frame : f < c.shape.frames

-- the numbers name an actor and a bundle
pub record NamesBundle (c : State) (a g : ℕ) : Type 0 where
  pub actor : a < c.shape.actors
  pub bundle : g * FRAMES < c.shape.frames

-- ---- an act on one page

abbrev pub MayAct : State → ℕ → ℕ → PageAct → Type 0
MayAct c a p act = NamesActorAndPage c a p × PageLegal c.tells c.words (c.pages p) a act

abbrev pub acted : State → ℕ → ℕ → PageAct → State
acted c a p act = on_page c p (page_after c.words (c.pages p) a act)

-- ---- an act on a state word: on each page that stands under it

-- the page is the head of a group, or in none, and the act is legal at each page of which it is the head
pub record MayActOver (c : State) (a h : ℕ) (act : PageAct) : Type 0 where
  pub names : NamesActorAndPage c a h
  pub head : c.head h ≡ h
  pub pages : (q : ℕ) → c.head q ≡ h → PageLegal c.tells c.words (c.pages q) a act

abbrev pub acted_over : State → ℕ → ℕ → PageAct → State
acted_over c a h act = record c { pages = upd_over c.head h c.pages (λ q. page_after c.words (c.pages q) a act) }

-- ---- install, clear

pub record MayPut (c : State) (a p f : ℕ) : Type 0 where
  pub names : NamesActorAndPage c a p
  pub frame : f < c.shape.frames
  pub holds : c.held a f ≡ true
  pub page : MayInstall c.tells (c.pages p) a (c.words f)

abbrev pub put_under : State → ℕ → ℕ → ℕ → State
put_under c a p f = record c { pages = upd c.pages p (installed (c.pages p) f); held = upd c.held a (upd (c.held a) f false) }

abbrev pub taken_out : State → ℕ → ℕ → State
taken_out c a p =
    record c { pages = upd c.pages p (cleared (c.pages p)); held = upd c.held a (gains (c.held a) (c.pages p).trans) }

-- ---- load, store

-- the frame that the load reads is known
pub record MayLoad (c : State) (a p i : ℕ) : Type 0 where
  pub names : NamesActorAndPage c a p
  pub place : i < c.size
  pub frame : IsSome (load_frame (c.pages p) a)

abbrev pub word_at : (ℕ → List ℕ) → Option ℕ → ℕ → ℕ
word_at words None i = 0
word_at words (Some f) i = slice_index (words f) i

pub record MayStore (c : State) (a f i : ℕ) : Type 0 where
  pub actor : a < c.shape.actors
  pub frame : f < c.shape.frames
  pub place : i < c.size
  pub owns : (c.held a f ≡ true) ⊎ ((p : ℕ) × (p < c.shape.pages) × HoldsAt (c.pages p) a f true)

abbrev pub stored_at : State → ℕ → ℕ → ℕ → State
stored_at c f i w = record c { words = upd c.words f (slice_set (c.words f) i w) }

-- ---- take, give

pub record MayTake (c : State) (a g expects mask : ℕ) : Type 0 where
  pub names : NamesBundle c a g
  pub some : mask ≢ 0
  pub among : bit_and mask expects ≡ mask

-- the frames of the mask go to the actor
abbrev pub taken_by : (ℕ → ℕ → Bool) → ℕ → ℕ → ℕ → ℕ → ℕ → Bool
taken_by held a g mask b f = if (b == a) && in_mask g mask f then true else held b f

-- the bits of the mask leave the bundle's word, and their frames are the actor's
abbrev pub taken : State → ℕ → ℕ → ℕ → ℕ → State
taken c a g expects mask = record c { bundles = upd c.bundles g (bit_xor expects mask); held = taken_by c.held a g mask }

pub record MayGive (c : State) (a g mask : ℕ) : Type 0 where
  pub names : NamesBundle c a g
  pub some : mask ≢ 0
  pub holds : (f : ℕ) → in_mask g mask f ≡ true → c.held a f ≡ true

-- the frames of the mask leave the actor
abbrev pub given_by : (ℕ → ℕ → Bool) → ℕ → ℕ → ℕ → ℕ → ℕ → Bool
given_by held a g mask b f = if (b == a) && in_mask g mask f then false else held b f

abbrev pub given : State → ℕ → ℕ → ℕ → State
given c a g mask = record c { bundles = upd c.bundles g (bit_or (c.bundles g) mask); held = given_by c.held a g mask }

-- ---- claim

pub record MayClaim (c : State) (a x n : ℕ) : Type 0 where
  pub actor : a < c.shape.actors
  pub few : (n ≡ 1) ⊎ (n ≡ 2)
  pub inside : x + n ≤ c.shape.pages
  pub holds : (p : ℕ) → x ≤ p → p < x + n → MayDirty (c.pages p) a

-- ---- owner words

-- the actor holds the page exclusively, and it is resident: so it may write the owner word of the page's frame, which names the page's head
pub record MayOwn (c : State) (a p : ℕ) : Type 0 where
  pub names : NamesActorAndPage c a p
  pub page : MayDirty (c.pages p) a

-- the words of a class, by number, with this one at the place, where there is one
abbrev pub changed_at : (ℕ → ℕ) → Option ℕ → ℕ → ℕ → ℕ
changed_at words None w = words
changed_at words (Some f) w = upd words f w

-- the owner word of the page's frame becomes this one
abbrev pub owned : State → ℕ → ℕ → State
owned c p w = record c { owners = changed_at c.owners (frame_of (c.pages p).trans) w }

-- where the page stands in a frame, the frame's owner word is this one
abbrev pub IsOwned : State → ℕ → ℕ → Type 0
IsOwned c p word = (m : Mapping) → (c.pages p).trans ≡ Some m → c.owners m.frame ≡ word

-- an act that gives a page up with its group, and leaves each in its frame: the owner word of each frame names the head
pub record MayLeave (c : State) (a h : ℕ) (act : PageAct) : Type 0 where
  pub may : MayActOver c a h act
  pub owned : (q : ℕ) → c.head q ≡ h → IsOwned c q (h + 1)

-- ---- free-number words

-- the numbers name an actor and a free-number word
pub record NamesSpares (c : State) (a g : ℕ) : Type 0 where
  pub actor : a < c.shape.actors
  pub word : g * FRAMES < c.shape.pages

pub record MayTakeNumbers (c : State) (a g expects mask : ℕ) : Type 0 where
  pub names : NamesSpares c a g
  pub some : mask ≢ 0
  pub among : bit_and mask expects ≡ mask

-- the bits of the mask leave the word, and their numbers are the actor's
abbrev pub numbers_taken : State → ℕ → ℕ → ℕ → ℕ → State
numbers_taken c a g expects mask = record c { spares = upd c.spares g (bit_xor expects mask); numbers = taken_by c.numbers a g mask }

-- the mask is of pages; where the blocks tell their words, none of its bits is set, and no other actor holds a number of it
pub record MayGiveNumbers (c : State) (a g mask : ℕ) : Type 0 where
  pub names : NamesSpares c a g
  pub some : mask ≢ 0
  pub inside : (p : ℕ) → in_mask g mask p ≡ true → p < c.shape.pages
  pub unset : c.tells ≡ true → (p : ℕ) → in_mask g mask p ≡ true → has_free_bit c.spares p ≡ false
  pub unheld : c.tells ≡ true → (b p : ℕ) → b ≢ a → in_mask g mask p ≡ true → c.numbers b p ≡ false

-- the numbers of the mask leave the actor, if it held them
abbrev pub numbers_given : State → ℕ → ℕ → ℕ → State
numbers_given c a g mask = record c { spares = upd c.spares g (bit_or (c.spares g) mask); numbers = given_by c.numbers a g mask }

-- the words of the frame that the page stands in, and none where it stands in none
abbrev pub standing_words : (ℕ → List ℕ) → Option Mapping → List ℕ
standing_words words None = []
standing_words words (Some m) = words m.frame

-- who leaves a page whose words are not all 0 holds its number no more, and so for each page of a group; where the blocks do not tell their
-- words, a page counts as such
abbrev pub keeps_number : State → ℕ → Bool
keeps_number c p = c.tells && all_zero (standing_words c.words (c.pages p).trans)

abbrev pub number_left : State → ℕ → ℕ → ℕ → ℕ → Bool
number_left c a h = upd c.numbers a (upd_over c.head h (c.numbers a) (λ q. keeps_number c q && c.numbers a q))

-- the page is left by the act with its group, each in its frame
abbrev pub left : State → ℕ → ℕ → PageAct → State
left c a h act = record (acted_over c a h act) { numbers = number_left c a h }

-- ---- the rows

-- the row of the event is met
abbrev pub Legal : State → Event → Type 0
Legal c (Look a p) = MayActOver c a p acts.Look
Legal c (LockX a p expects) = MayActOver c a p (acts.LockX expects)
Legal c (LockS a p expects) = MayActOver c a p (acts.LockS expects)
Legal c (UnlockS a p) = MayActOver c a p acts.UnlockS
Legal c (Mark a p expects) = MayActOver c a p (acts.Mark expects)
Legal c (Unmark a p expects) = MayActOver c a p (acts.Unmark expects)
Legal c (LockW a p expects) = MayActOver c a p (acts.LockW expects)
Legal c (Upgrade a p expects) = MayActOver c a p (acts.Upgrade expects)
Legal c (Release a p) = MayLeave c a p acts.Release
Legal c (ReleaseE a p) = MayActOver c a p acts.ReleaseE
Legal c (Downgrade a p) = MayLeave c a p acts.Downgrade
Legal c (TLoad a p) = MayAct c a p acts.TLoad
Legal c (Install a p f) = MayPut c a p f
Legal c (Clear a p) = NamesActorAndPage c a p × MayClear (c.pages p) a × IsOwned c p 0
Legal c (Dirty a p) = MayAct c a p acts.Dirty
Legal c (Clean a p) = MayAct c a p acts.Clean
Legal c (Load a p i) = MayLoad c a p i
Legal c (Store a f i w) = MayStore c a f i
Legal c (BLoad a g) = NamesBundle c a g
Legal c (Take a g expects mask) = MayTake c a g expects mask
Legal c (Give a g mask) = MayGive c a g mask
Legal c (Read a p) = MayAct c a p acts.Read
Legal c (RFail a p) = MayAct c a p acts.RFail
Legal c (Write a p) = MayAct c a p acts.Write
Legal c (WFail a p) = MayAct c a p acts.WFail
Legal c (Raise a p) = MayAct c a p acts.Raise
Legal c (NLoad a) = a < c.shape.actors
Legal c (Claim a x n) = MayClaim c a x n
Legal c (Hand a) = a < c.shape.actors
Legal c (Own a p) = MayOwn c a p
Legal c (Disown a p) = MayOwn c a p
Legal c (OLoad a f) = NamesActorAndFrame c a f
Legal c (PBLoad a g) = NamesSpares c a g
Legal c (PTake a g expects mask) = MayTakeNumbers c a g expects mask
Legal c (PGive a g mask) = MayGiveNumbers c a g mask

-- the state after the event
abbrev pub after_event : State → Event → State
after_event c (Look a p) = acted_over c a p acts.Look
after_event c (LockX a p expects) = acted_over c a p (acts.LockX expects)
after_event c (LockS a p expects) = acted_over c a p (acts.LockS expects)
after_event c (UnlockS a p) = acted_over c a p acts.UnlockS
after_event c (Mark a p expects) = acted_over c a p (acts.Mark expects)
after_event c (Unmark a p expects) = acted_over c a p (acts.Unmark expects)
after_event c (LockW a p expects) = acted_over c a p (acts.LockW expects)
after_event c (Upgrade a p expects) = acted_over c a p (acts.Upgrade expects)
after_event c (Release a p) = left c a p acts.Release
after_event c (ReleaseE a p) = acted_over c a p acts.ReleaseE
after_event c (Downgrade a p) = left c a p acts.Downgrade
after_event c (TLoad a p) = acted c a p acts.TLoad
after_event c (Install a p f) = put_under c a p f
after_event c (Clear a p) = taken_out c a p
after_event c (Dirty a p) = acted c a p acts.Dirty
after_event c (Clean a p) = acted c a p acts.Clean
after_event c (Load a p i) = c
after_event c (Store a f i w) = stored_at c f i w
after_event c (BLoad a g) = c
after_event c (Take a g expects mask) = if c.bundles g == expects then taken c a g expects mask else c
after_event c (Give a g mask) = given c a g mask
after_event c (Read a p) = acted c a p acts.Read
after_event c (RFail a p) = acted c a p acts.RFail
after_event c (Write a p) = acted c a p acts.Write
after_event c (WFail a p) = acted c a p acts.WFail
after_event c (Raise a p) = acted c a p acts.Raise
after_event c (NLoad a) = c
after_event c (Claim a x n) = record c { next = if c.next == x then x + n else c.next }
after_event c (Hand a) = record c { hand = hand_more c.hand }
after_event c (Own a p) = owned c p (c.head p + 1)
after_event c (Disown a p) = owned c p 0
after_event c (OLoad a f) = c
after_event c (PBLoad a g) = c
after_event c (PTake a g expects mask) = if c.spares g == expects then numbers_taken c a g expects mask else c
after_event c (PGive a g mask) = numbers_given c a g mask

-- what the event sees
abbrev pub seen : State → Event → Seen
seen c (Look a p) = page_seen (c.pages p) a acts.Look
seen c (LockX a p expects) = page_seen (c.pages p) a (acts.LockX expects)
seen c (LockS a p expects) = page_seen (c.pages p) a (acts.LockS expects)
seen c (UnlockS a p) = page_seen (c.pages p) a acts.UnlockS
seen c (Mark a p expects) = page_seen (c.pages p) a (acts.Mark expects)
seen c (Unmark a p expects) = page_seen (c.pages p) a (acts.Unmark expects)
seen c (LockW a p expects) = page_seen (c.pages p) a (acts.LockW expects)
seen c (Upgrade a p expects) = page_seen (c.pages p) a (acts.Upgrade expects)
seen c (Release a p) = page_seen (c.pages p) a acts.Release
seen c (ReleaseE a p) = page_seen (c.pages p) a acts.ReleaseE
seen c (Downgrade a p) = page_seen (c.pages p) a acts.Downgrade
seen c (TLoad a p) = page_seen (c.pages p) a acts.TLoad
seen c (Install a p f) = sights.Done
seen c (Clear a p) = sights.Done
seen c (Dirty a p) = page_seen (c.pages p) a acts.Dirty
seen c (Clean a p) = page_seen (c.pages p) a acts.Clean
seen c (Load a p i) = sights.Word (word_at c.words (load_frame (c.pages p) a) i)
seen c (Store a f i w) = sights.Done
seen c (BLoad a g) = sights.Word (c.bundles g)
seen c (Take a g expects mask) = if c.bundles g == expects then sights.Taken else sights.Lost (c.bundles g)
seen c (Give a g mask) = sights.Word (c.bundles g)
seen c (Read a p) = page_seen (c.pages p) a acts.Read
seen c (RFail a p) = page_seen (c.pages p) a acts.RFail
seen c (Write a p) = page_seen (c.pages p) a acts.Write
seen c (WFail a p) = page_seen (c.pages p) a acts.WFail
seen c (Raise a p) = page_seen (c.pages p) a acts.Raise
seen c (NLoad a) = sights.Word c.next
seen c (Claim a x n) = if c.next == x then sights.Taken else sights.Lost c.next
seen c (Hand a) = sights.Word c.hand
seen c (Own a p) = sights.Done
seen c (Disown a p) = sights.Done
seen c (OLoad a f) = sights.Word (c.owners f)
seen c (PBLoad a g) = sights.Word (c.spares g)
seen c (PTake a g expects mask) = if c.spares g == expects then sights.Taken else sights.Lost (c.spares g)
seen c (PGive a g mask) = sights.Word (c.spares g)

-- each event is legal where the ones before it lead
abbrev pub AllLegal : State → List Event → Type 0
AllLegal c [] = Unit {0}
AllLegal c (e ∷ es) = Legal c e × AllLegal (after_event c e) es

-- the state after the events
abbrev pub run : State → List Event → State
run c [] = c
run c (e ∷ es) = run (after_event c e) es

-- what the events see, one after another
abbrev pub sees : State → List Event → List Seen
sees c [] = []
sees c (e ∷ es) = seen c e ∷ sees (after_event c e) es

-- the events are legal one after another, and lead from old to new
pub record RunsTo (old : State) (events : List Event) (new : State) : Type 0 where
  pub legal : AllLegal old events
  pub state : new ≡ run old events
