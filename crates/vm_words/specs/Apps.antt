-- What clap is told of the command line, in clap's own terms, made from the table of forms.
use Rattle.std.specs.Prelude.{◌≡◌, true, false, List, [], ◌∷◌, Some, codes}
use Rattle.clap.specs.Words.{App, Rule, Text, app_of, new_app, new_rule, with_rule, with_subcommand}
use Rattle.clap.specs.declared.builder.command.Command.{Command}
use Rattle.clap.specs.declared.builder.command.Command.TheViews.{out-Command}
use Rattle.vm_words.specs.declared.form.FormVerb.{FormVerb}
use Rattle.vm_words.specs.declared.form.FormSlot.{FormSlot}
use Rattle.vm_words.specs.declared.form.FormPlace.{FormPlace}
use Rattle.vm_words.specs.declared.form.FormPlace.TheVariants.{Placed, Asked, Optional}
use Rattle.vm_words.specs.Forms.{place_in, slot_text, slots_in, title, verbs}

-- the argument of a slot that stands there
abbrev pub rule_at : FormPlace → Text → Rule
rule_at Placed id = record (new_rule id) { required = true }
rule_at Asked id = record (new_rule id) { required = true; long = Some id }
rule_at Optional id = record (new_rule id) { long = Some id }

abbrev pub rule_in : FormSlot → Rule
rule_in slot = rule_at (place_in slot) (slot_text slot)

-- with an argument for each of the slots
abbrev pub with_slots : App → List FormSlot → App
with_slots app [] = app
with_slots app (slot ∷ slots) = with_slots (with_rule app (rule_in slot)) slots

abbrev pub app_in : FormVerb → App
app_in verb = with_slots (new_app (title verb)) (slots_in verb)

-- with each of the commands
abbrev pub with_verbs : App → List FormVerb → App
with_verbs app [] = app
with_verbs app (verb ∷ verbs) = with_verbs (with_subcommand app (app_in verb).top) verbs

-- a command has to be named by the first word, and clap adds no command `help` of its own
abbrev pub bare_app : App
bare_app = let a = new_app (codes "vmcache") in record a {
  top = record a.top { no_binary_name = true; subcommand_required = true; disable_help_subcommand = true };
}

-- the whole command line: one of the commands, with its words
abbrev pub vmcache_app : App
vmcache_app = with_verbs bare_app verbs

abbrev pub IsApp : App → Command → Type 0
IsApp app command = app_of command ≡ app

-- no argument of the command belongs to its subcommands too
abbrev pub IsLocal : Command → Type 0
IsLocal command = (out-Command command).has_globals ≡ false
