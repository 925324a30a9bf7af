-- The high fence is a word of its own where it is there.
use Rattle.std.proofs.Common.{◌≡◌, ℕ, List, get_or, arith}
use Rattle.std.proofs.lemmas.Bool.Decides.{nat_tests}
use Rattle.vm_tree_model.specs.Fixed.{high_of}
use Rattle.vm_node.proofs.Telling.{told_word, told_then, told_so}
use Rattle.vm_node.proofs.shown.high_bound_at.Goals as goal

fenced : (words : List ℕ) (flag high : ℕ) → get_or words 4 0 ≡ flag → get_or words 3 0 ≡ high → flag ≡ 0 → high ≡ high_of words
fenced words flag high is_flag is_high zero = grind (arith, nat_tests)

pub returns-then-word-eq0-clause-told : goal.returns-then-word-eq0-clause-told
returns-then-word-eq0-clause-told g c =
    told_so (omega arith) (told_then g.met.P.Place.join (told_word c.word.ensures.loads) (told_word c.word-then-word-eq0.ensures.loads))
    (λ words size read. fenced words _ _ read.0 read.1 c.if-word-eq0.true)
