-- The commands as a table of forms: the name of each, the slots of the words behind it, and of each slot its name, its place and its kind.
use Rattle.std.specs.Prelude.{Bool, true, false, List, [], ◌∷◌, Option, codes, find}
use Rattle.std.specs.Str.{bytes_eq}
use Rattle.clap.specs.Words.{Text}
use Rattle.vm_words.specs.declared.form.FormVerb.{FormVerb}
use Rattle.vm_words.specs.declared.form.FormVerb.TheVariants.{Run, Make, Check, Churn, Replay, Migrate, Serve, MakeBytes}
use Rattle.vm_words.specs.declared.form.FormSlot.{FormSlot}
use Rattle.vm_words.specs.declared.form.FormSlot.TheVariants.{Image, Script, Workers, Frames, Keep, Fail}
use Rattle.vm_words.specs.declared.form.FormSlot.TheVariants.{FirstVersion, File, Pages, Pairs, Seed, Words, Input}
use Rattle.vm_words.specs.declared.form.FormSlot.TheVariants.{Output}
use Rattle.vm_words.specs.declared.form.FormPlace.{FormPlace}
use Rattle.vm_words.specs.declared.form.FormPlace.TheVariants.{Placed, Asked, Optional}
use Rattle.vm_words.specs.declared.form.FormKind.{FormKind}
use Rattle.vm_words.specs.declared.form.FormKind.TheVariants.{Name, Number, Faults}

-- every command
abbrev pub verbs : List FormVerb
verbs = Run ∷ Make ∷ Check ∷ Churn ∷ Replay ∷ Migrate ∷ Serve ∷ MakeBytes ∷ []

abbrev pub title : FormVerb → Text
title Run = codes "run"
title Make = codes "make"
title Check = codes "check"
title Churn = codes "churn"
title Replay = codes "replay"
title Migrate = codes "migrate"
title Serve = codes "serve"
title MakeBytes = codes "make-bytes"

-- the command with this name
abbrev pub verb_at : Text → Option FormVerb
verb_at word = find (λ verb. bytes_eq (title verb) word) verbs

-- the slots of a command, in order
abbrev pub slots_in : FormVerb → List FormSlot
slots_in Run = Image ∷ Script ∷ Workers ∷ Frames ∷ Keep ∷ Fail ∷ FirstVersion ∷ []
slots_in Make = File ∷ Pages ∷ Pairs ∷ Seed ∷ Words ∷ []
slots_in Check = File ∷ []
slots_in Churn = Pairs ∷ Seed ∷ Workers ∷ Frames ∷ Words ∷ []
slots_in Replay = File ∷ []
slots_in Migrate = Input ∷ Output ∷ Pages ∷ []
slots_in Serve = File ∷ Script ∷ Workers ∷ Frames ∷ []
slots_in MakeBytes = File ∷ Pages ∷ []

abbrev pub slot_text : FormSlot → Text
slot_text Image = codes "image"
slot_text Script = codes "script"
slot_text Workers = codes "workers"
slot_text Frames = codes "frames"
slot_text Keep = codes "keep"
slot_text Fail = codes "fail"
slot_text FirstVersion = codes "first-version"
slot_text File = codes "file"
slot_text Pages = codes "pages"
slot_text Pairs = codes "pairs"
slot_text Seed = codes "seed"
slot_text Words = codes "words"
slot_text Input = codes "input"
slot_text Output = codes "output"

abbrev pub place_in : FormSlot → FormPlace
place_in Image = Placed
place_in Script = Placed
place_in Workers = Asked
place_in Frames = Asked
place_in Keep = Optional
place_in Fail = Optional
place_in FirstVersion = Optional
place_in File = Placed
place_in Pages = Placed
place_in Pairs = Placed
place_in Seed = Placed
place_in Words = Optional
place_in Input = Placed
place_in Output = Placed

abbrev pub kind_in : FormSlot → FormKind
kind_in Image = Name
kind_in Script = Name
kind_in Workers = Number
kind_in Frames = Number
kind_in Keep = Name
kind_in Fail = Faults
kind_in FirstVersion = Number
kind_in File = Name
kind_in Pages = Number
kind_in Pairs = Number
kind_in Seed = Number
kind_in Words = Number
kind_in Input = Name
kind_in Output = Name

-- the word has to be there
abbrev pub is_needed : FormPlace → Bool
is_needed Placed = true
is_needed Asked = true
is_needed Optional = false
