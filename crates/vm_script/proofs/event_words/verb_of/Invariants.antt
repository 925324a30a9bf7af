use Rattle.std.specs.List.{AllByRecursion}
use Rattle.std.proofs.Common.{◌≢◌, take}
use Rattle.vm_script.specs.Verbs.{verb_name}
use Rattle.vm_script.proofs.event_words.verb_of.Given as goal

abbrev pub invariant-verbs : goal.invariant-verbs
invariant-verbs l = AllByRecursion (λ verb. l.word ≢ verb_name verb) (take l.verb-index l.verb-items)
