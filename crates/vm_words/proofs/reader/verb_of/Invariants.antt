use Rattle.std.proofs.Common.{◌≡◌, drop, find}
use Rattle.std.specs.Str.{bytes_eq}
use Rattle.vm_words.specs.Forms.{title, verb_at, verbs}
use Rattle.vm_words.proofs.reader.verb_of.Given as goal

abbrev pub invariant-verbs : goal.invariant-verbs
invariant-verbs l = find (λ verb. bytes_eq (title verb) l.word) (drop l.verb-index verbs) ≡ verb_at l.word
