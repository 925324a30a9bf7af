-- Which words are which command, by clap's own definitions and the table of forms.
use Rattle.std.specs.Prelude.{◌≡◌, ℕ, true, false, List, [], ◌∷◌, Option, Some, None}
use Rattle.std.specs.List.{AllByRecursion, Contains}
use Rattle.std.specs.Borrow.{Bor}
use Rattle.clap.specs.Words.{Row, Text, first_of, subcommand_of, takes}
use Rattle.vm_image.specs.declared.blocks.PlannedFault.{PlannedFault}
use Rattle.vm_words.specs.Apps.{vmcache_app}
use Rattle.vm_words.specs.Forms.{is_needed, kind_in, place_in, slot_text, slots_in, title}
use Rattle.vm_words.specs.Values.{AreFilled, HasUnfilled, IsOdd, Meaning, named, counted, planned, absent}
use Rattle.vm_words.specs.declared.form.FormSlot.{FormSlot}
use Rattle.vm_words.specs.declared.form.FormVerb.{FormVerb}
use Rattle.vm_words.specs.declared.form.FormVerb.TheVariants as verbs
use Rattle.vm_words.specs.declared.Command.{Command}
use Rattle.vm_words.specs.declared.Command.TheVariants.{Run, Make, Check, Churn, Replay, Migrate, Serve, MakeBytes}

-- the command that was entered, with what clap found for it
abbrev pub Entered : Type 0
Entered = Option (Text × List Row)

-- the command that was entered is this one, and its words say this
pub record Enters (entered : Entered) (verb : FormVerb) (meanings : List Meaning) : Type 0 where
  pub rows : List Row
  pub named_so : entered ≡ Some (title verb, rows)
  pub filled : AreFilled (slots_in verb) rows meanings

-- clap takes the words, and reads them as a line of this command that says this
pub record IsCommandLine (words : List Text) (verb : FormVerb) (meanings : List Meaning) : Type 0 where
  pub taken : takes vmcache_app words ≡ true
  pub line : Enters (subcommand_of vmcache_app words) verb meanings

-- of words that may be left out: what they say
abbrev pub name_or : Option (Bor Text) → Meaning
name_or None = absent
name_or (Some name) = named name.now

abbrev pub number_or : Option ℕ → Meaning
number_or None = absent
number_or (Some n) = counted n

-- a plan that a word spells has an entry
abbrev pub plan_or : List PlannedFault → Meaning
plan_or [] = absent
plan_or (fault ∷ plan) = planned (fault ∷ plan)

-- the line of a command: what its slots say, in order
abbrev pub line_of : Command → FormVerb × List Meaning
line_of (Run run) = (
  verbs.Run,
  named run.image.now ∷ named run.script.now ∷ counted run.workers ∷ counted
      run.frames ∷ name_or run.options.keep ∷ plan_or run.options.fail.items ∷ number_or run.options.first_version ∷ [],
)
line_of (Make make) = (
  verbs.Make,
  named make.file.now ∷ counted make.pages ∷ counted make.pairs ∷ counted
      make.seed ∷ number_or make.words ∷ [],
)
line_of (Check check) = (verbs.Check, named check.file.now ∷ [])
line_of (Churn churn) = (
  verbs.Churn,
  counted churn.pairs ∷ counted churn.seed ∷ counted churn.workers ∷ counted churn.frames ∷ number_or
      churn.words ∷ [],
)
line_of (Replay replay) = (verbs.Replay, named replay.file.now ∷ [])
line_of (Migrate migrate) = (verbs.Migrate, named migrate.input.now ∷ named migrate.output.now ∷ counted migrate.pages ∷ [])
line_of (Serve serve) = (
  verbs.Serve,
  named serve.file.now ∷ named serve.script.now ∷ counted serve.workers ∷ counted serve.frames ∷ [],
)
line_of (MakeBytes make) = (verbs.MakeBytes, named make.file.now ∷ counted make.pages ∷ [])

abbrev pub IsCommand : List Text → Command → Type 0
IsCommand words command = IsCommandLine words (line_of command).0 (line_of command).1

-- the words are no command
abbrev pub IsNoCommand : List Text → Type 0
IsNoCommand words = (command : Command) → IsCommand words command → ⊥

-- clap found a word for each slot that has to have one
abbrev pub HasWords : List FormSlot → List Row → Type 0
HasWords slots rows = AllByRecursion (λ (slot : FormSlot). is_needed (place_in slot) ≡ true
    → (text : Text) × (first_of (slot_text slot) rows ≡ Some text)) slots

-- the words are a line of some command, with a word for each slot that has to have one
pub record HasLine (words : List Text) : Type 0 where
  pub verb : FormVerb
  pub rows : List Row
  pub named_so : subcommand_of vmcache_app words ≡ Some (title verb, rows)
  pub whole_so : HasWords (slots_in verb) rows

-- clap takes the words, and reads them as a line of this command, of which a word is none of its slot's kind
pub record HasOddWord (words : List Text) (verb : FormVerb) : Type 0 where
  pub taken : takes vmcache_app words ≡ true
  pub rows : List Row
  pub named_so : subcommand_of vmcache_app words ≡ Some (title verb, rows)
  pub slot : FormSlot
  pub among : Contains (slots_in verb) slot
  pub text : Text
  pub found : first_of (slot_text slot) rows ≡ Some text
  pub odd : IsOdd (kind_in slot) text

-- why words are no command: clap does not take them, or one of them is none of its slot's kind
pub data WhyRefused (words : List Text) : Type 0 where
  untaken : takes vmcache_app words ≡ false → WhyRefused words
  odd_word : (verb : FormVerb) → HasOddWord words verb → WhyRefused words

-- what the reader of what was entered answers
abbrev pub ReadsEntered : Entered → Option Command → Type 0
ReadsEntered entered (Some command) = Enters entered (line_of command).0 (line_of command).1
ReadsEntered entered None = (verb : FormVerb) (rows : List Row) → entered ≡ Some (title verb, rows) → HasUnfilled (slots_in verb) rows
