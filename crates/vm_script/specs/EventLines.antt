-- Event lines: a verb and its numbers, with single spaces between them.
use Rattle.std.specs.Fmt.{decimal}
use Rattle.std.specs.Prelude.{[], ◌*◌, ◌++◌, ◌<◌, ◌==◌, ◌^◌, ◌∷◌, ◌≤◌, codes, if◌then◌else◌, List, ℕ}
use Rattle.vm_event.specs.Prelude.{EVICTED, LOCKED, MARKED, state_of, UNLOCKED, version_of, WORDS}
use Rattle.vm_event.specs.{declared.event.CoreShape.CoreShape, declared.words.TheConstants.FRAMES}
use Rattle.vm_event.specs.declared.event.Event.TheVariants.{BLoad, Claim, Clean, Clear, Dirty, Disown, Downgrade, Give}
use Rattle.vm_event.specs.declared.event.Event.TheVariants.{Hand, Install, Load, LockS, LockW, LockX, Look, Mark}
use Rattle.vm_event.specs.declared.event.Event.TheVariants.{NLoad, OLoad, Own, Raise, Read, Release, ReleaseE, RFail}
use Rattle.vm_event.specs.declared.event.Event.TheVariants.{PBLoad, PGive, PTake, Store, Take, TLoad, UnlockS, Unmark}
use Rattle.vm_event.specs.declared.event.Event.TheVariants.{Upgrade, WFail, Write}
use Rattle.vm_script.specs.{declared.event_line.EventLine.EventLine, declared.event_line.FieldKind.FieldKind}
use Rattle.vm_script.specs.{declared.event_line.Verb.Verb, Verbs.kinds_of, Verbs.verb_name}
use Rattle.vm_script.specs.declared.event_line.EventLine.TheVariants.{Fill, Loads, One}
use Rattle.vm_script.specs.declared.event_line.FieldKind.TheVariants.{Actor, Bundle, Count, Frame, Page, Place, Spare, State, Word}
use Rattle.vm_script.specs.declared.event_line.Verb.TheVariants as verbs

-- the limits of a shape
pub record IsShape (shape : CoreShape) : Type 0 where
  pub pages : (1 ≤ shape.pages) × (shape.pages ≤ 64)
  pub frames : (1 ≤ shape.frames) × (shape.frames ≤ 256)
  pub actors : (1 ≤ shape.actors) × (shape.actors ≤ 64)
  pub next : (1 ≤ shape.next) × (shape.next ≤ shape.pages)

-- `u`, `x`, `m`, `e`, or the number of shares
abbrev pub state_name : ℕ → List ℕ
state_name state =
    if state == UNLOCKED then codes "u" else if state == LOCKED then codes "x" else if state == MARKED then codes "m"
    else if state == EVICTED then codes "e" else decimal state

-- `S:V`
abbrev pub state_text : ℕ → List ℕ
state_text word = state_name (state_of word) ++ 58 ∷ decimal (version_of word)

-- what a number of this kind may be
abbrev pub IsField : CoreShape → FieldKind → ℕ → Type 0
IsField shape Actor a = a < shape.actors
IsField shape Page p = p < shape.pages
IsField shape Frame f = f < shape.frames
IsField shape Place i = i < WORDS
IsField shape Bundle g = g * FRAMES < shape.frames
IsField shape Spare g = g * FRAMES < shape.pages
IsField shape Word w = w < 2 ^ 64
IsField shape State w = w < 2 ^ 64
IsField shape Count n = n < 2 ^ 32

-- a state word as `S:V`, all else in decimal
abbrev pub field_text : FieldKind → ℕ → List ℕ
field_text State w = state_text w
field_text Actor a = decimal a
field_text Page p = decimal p
field_text Frame f = decimal f
field_text Place i = decimal i
field_text Bundle g = decimal g
field_text Spare g = decimal g
field_text Word w = decimal w
field_text Count n = decimal n

-- as many numbers as kinds, each what its kind may be
abbrev pub AreFields : CoreShape → List FieldKind → List ℕ → Type 0
AreFields shape [] [] = Unit {0}
AreFields shape [] (value ∷ values) = ⊥
AreFields shape (kind ∷ kinds) [] = ⊥
AreFields shape (kind ∷ kinds) (value ∷ values) = IsField shape kind value × AreFields shape kinds values

-- the numbers, with single spaces between them
abbrev pub fields_text : List FieldKind → List ℕ → List ℕ
fields_text (kind ∷ []) (value ∷ []) = field_text kind value
fields_text (kind ∷ more ∷ kinds) (value ∷ values) = field_text kind value ++ 32 ∷ fields_text (more ∷ kinds) values
fields_text _ _ = []

-- the verb of a line, and its numbers in order
abbrev pub form : EventLine → Verb × List ℕ
form (One (Look a p)) = (verbs.Look, a ∷ p ∷ [])
form (One (LockX a p expects)) = (verbs.LockX, a ∷ p ∷ expects ∷ [])
form (One (LockS a p expects)) = (verbs.LockS, a ∷ p ∷ expects ∷ [])
form (One (UnlockS a p)) = (verbs.UnlockS, a ∷ p ∷ [])
form (One (Mark a p expects)) = (verbs.Mark, a ∷ p ∷ expects ∷ [])
form (One (Unmark a p expects)) = (verbs.Unmark, a ∷ p ∷ expects ∷ [])
form (One (LockW a p expects)) = (verbs.LockW, a ∷ p ∷ expects ∷ [])
form (One (Upgrade a p expects)) = (verbs.Upgrade, a ∷ p ∷ expects ∷ [])
form (One (Release a p)) = (verbs.Release, a ∷ p ∷ [])
form (One (ReleaseE a p)) = (verbs.ReleaseE, a ∷ p ∷ [])
form (One (Downgrade a p)) = (verbs.Downgrade, a ∷ p ∷ [])
form (One (TLoad a p)) = (verbs.TLoad, a ∷ p ∷ [])
form (One (Install a p f)) = (verbs.Install, a ∷ p ∷ f ∷ [])
form (One (Clear a p)) = (verbs.Clear, a ∷ p ∷ [])
form (One (Dirty a p)) = (verbs.Dirty, a ∷ p ∷ [])
form (One (Clean a p)) = (verbs.Clean, a ∷ p ∷ [])
form (One (Load a p i)) = (verbs.Load, a ∷ p ∷ i ∷ [])
form (One (Store a f i w)) = (verbs.Store, a ∷ f ∷ i ∷ w ∷ [])
form (One (BLoad a g)) = (verbs.BLoad, a ∷ g ∷ [])
form (One (Take a g expects mask)) = (verbs.Take, a ∷ g ∷ expects ∷ mask ∷ [])
form (One (Give a g mask)) = (verbs.Give, a ∷ g ∷ mask ∷ [])
form (One (Read a p)) = (verbs.Read, a ∷ p ∷ [])
form (One (RFail a p)) = (verbs.RFail, a ∷ p ∷ [])
form (One (Write a p)) = (verbs.Write, a ∷ p ∷ [])
form (One (WFail a p)) = (verbs.WFail, a ∷ p ∷ [])
form (One (Raise a p)) = (verbs.Raise, a ∷ p ∷ [])
form (One (NLoad a)) = (verbs.NLoad, a ∷ [])
form (One (Claim a x n)) = (verbs.Claim, a ∷ x ∷ n ∷ [])
form (One (Hand a)) = (verbs.Hand, a ∷ [])
form (One (Own a p)) = (verbs.Own, a ∷ p ∷ [])
form (One (Disown a p)) = (verbs.Disown, a ∷ p ∷ [])
form (One (OLoad a f)) = (verbs.OLoad, a ∷ f ∷ [])
form (One (PBLoad a g)) = (verbs.PBLoad, a ∷ g ∷ [])
form (One (PTake a g expects mask)) = (verbs.PTake, a ∷ g ∷ expects ∷ mask ∷ [])
form (One (PGive a g mask)) = (verbs.PGive, a ∷ g ∷ mask ∷ [])
form (Fill a p f) = (verbs.Fill, a ∷ p ∷ f ∷ [])
form (Loads a p) = (verbs.Loads, a ∷ p ∷ [])

abbrev pub form_text : Verb × List ℕ → List ℕ
form_text form = verb_name form.0 ++ 32 ∷ fields_text (kinds_of form.0) form.1

-- `VERB NUMBER ..`
abbrev pub event_line_text : EventLine → List ℕ
event_line_text line = form_text (form line)

-- the numbers of the line name actors, pages, frames, bundles and words of the shape
abbrev pub IsEventLine : CoreShape → EventLine → Type 0
IsEventLine shape line = AreFields shape (kinds_of (form line).0) (form line).1

-- `shape P F A X`
abbrev pub shape_text : CoreShape → List ℕ
shape_text shape = codes
    "shape" ++ 32 ∷ (decimal
    shape.pages ++ 32 ∷ (decimal shape.frames ++ 32 ∷ (decimal shape.actors ++ 32 ∷ decimal shape.next)))

-- `group H G`
abbrev pub group_text : ℕ × ℕ → List ℕ
group_text group = codes "group" ++ 32 ∷ (decimal group.0 ++ 32 ∷ decimal group.1)
