-- The verbs of event lines, and the kinds of the numbers behind each.
use Rattle.std.specs.Prelude.{[], ◌∷◌, codes, List, ℕ}
use Rattle.vm_script.specs.{declared.event_line.FieldKind.FieldKind, declared.event_line.Verb.Verb}
use Rattle.vm_script.specs.declared.event_line.FieldKind.TheVariants.{Actor, Bundle, Count, Frame, Page, Place, Spare, State, Word}
use Rattle.vm_script.specs.declared.event_line.Verb.TheVariants.{BLoad, Claim, Clean, Clear, Dirty, Disown, Downgrade}
use Rattle.vm_script.specs.declared.event_line.Verb.TheVariants.{Fill, Give, Hand, Install, Load, Loads, LockS, LockW}
use Rattle.vm_script.specs.declared.event_line.Verb.TheVariants.{LockX, Look, Mark, NLoad, OLoad, Own, Raise, Read}
use Rattle.vm_script.specs.declared.event_line.Verb.TheVariants.{Release, PBLoad, PGive, PTake, ReleaseE, RFail}
use Rattle.vm_script.specs.declared.event_line.Verb.TheVariants.{Store, Take, TLoad, UnlockS, Unmark, Upgrade, WFail}
use Rattle.vm_script.specs.declared.event_line.Verb.TheVariants.{Write}

-- the word of a verb
abbrev pub verb_name : Verb → List ℕ
verb_name Look = codes "look"
verb_name LockX = codes "lockx"
verb_name LockS = codes "locks"
verb_name UnlockS = codes "unlocks"
verb_name Mark = codes "mark"
verb_name Unmark = codes "unmark"
verb_name LockW = codes "lockw"
verb_name Upgrade = codes "upgrade"
verb_name Release = codes "release"
verb_name ReleaseE = codes "releasee"
verb_name Downgrade = codes "downgrade"
verb_name TLoad = codes "tload"
verb_name Install = codes "install"
verb_name Clear = codes "clear"
verb_name Dirty = codes "dirty"
verb_name Clean = codes "clean"
verb_name Load = codes "load"
verb_name Store = codes "store"
verb_name BLoad = codes "bload"
verb_name Take = codes "take"
verb_name Give = codes "give"
verb_name Read = codes "read"
verb_name RFail = codes "rfail"
verb_name Write = codes "write"
verb_name WFail = codes "wfail"
verb_name Raise = codes "raise"
verb_name NLoad = codes "nload"
verb_name Claim = codes "claim"
verb_name Hand = codes "hand"
verb_name Own = codes "own"
verb_name Disown = codes "disown"
verb_name OLoad = codes "oload"
verb_name PBLoad = codes "pbload"
verb_name PTake = codes "ptake"
verb_name PGive = codes "pgive"
verb_name Fill = codes "fill"
verb_name Loads = codes "loads"

-- what the numbers of a line with this verb are, in order
abbrev pub kinds_of : Verb → List FieldKind
kinds_of Look = Actor ∷ Page ∷ []
kinds_of LockX = Actor ∷ Page ∷ State ∷ []
kinds_of LockS = Actor ∷ Page ∷ State ∷ []
kinds_of UnlockS = Actor ∷ Page ∷ []
kinds_of Mark = Actor ∷ Page ∷ State ∷ []
kinds_of Unmark = Actor ∷ Page ∷ State ∷ []
kinds_of LockW = Actor ∷ Page ∷ State ∷ []
kinds_of Upgrade = Actor ∷ Page ∷ State ∷ []
kinds_of Release = Actor ∷ Page ∷ []
kinds_of ReleaseE = Actor ∷ Page ∷ []
kinds_of Downgrade = Actor ∷ Page ∷ []
kinds_of TLoad = Actor ∷ Page ∷ []
kinds_of Install = Actor ∷ Page ∷ Frame ∷ []
kinds_of Clear = Actor ∷ Page ∷ []
kinds_of Dirty = Actor ∷ Page ∷ []
kinds_of Clean = Actor ∷ Page ∷ []
kinds_of Load = Actor ∷ Page ∷ Place ∷ []
kinds_of Store = Actor ∷ Frame ∷ Place ∷ Word ∷ []
kinds_of BLoad = Actor ∷ Bundle ∷ []
kinds_of Take = Actor ∷ Bundle ∷ Word ∷ Word ∷ []
kinds_of Give = Actor ∷ Bundle ∷ Word ∷ []
kinds_of Read = Actor ∷ Page ∷ []
kinds_of RFail = Actor ∷ Page ∷ []
kinds_of Write = Actor ∷ Page ∷ []
kinds_of WFail = Actor ∷ Page ∷ []
kinds_of Raise = Actor ∷ Page ∷ []
kinds_of NLoad = Actor ∷ []
kinds_of Claim = Actor ∷ Word ∷ Count ∷ []
kinds_of Hand = Actor ∷ []
kinds_of Own = Actor ∷ Page ∷ []
kinds_of Disown = Actor ∷ Page ∷ []
kinds_of OLoad = Actor ∷ Frame ∷ []
kinds_of PBLoad = Actor ∷ Spare ∷ []
kinds_of PTake = Actor ∷ Spare ∷ Word ∷ Word ∷ []
kinds_of PGive = Actor ∷ Spare ∷ Word ∷ []
kinds_of Fill = Actor ∷ Page ∷ Frame ∷ []
kinds_of Loads = Actor ∷ Page ∷ []
