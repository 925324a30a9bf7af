-- A key from the low fence on is covered where there is no high fence, and else below that.
use Rattle.std.proofs.Common.{◌≡◌, ◌≢◌, ℕ, ◌^◌, ◌<◌, ◌≤◌, List, get_or, nat_eq, nat_lt, not, true, false, arith}
use Rattle.std.proofs.lemmas.Bool.Decides.{nat_tests}
use Rattle.vm_tree_model.specs.Node.{Covers}
use Rattle.vm_tree_model.specs.Fixed.{fixed_node}
use Rattle.vm_node.proofs.Telling.{told_word, told_then, told_so}
use Rattle.vm_node.proofs.leaf.covers_at.Goals as goal

endless : (n : ℕ) (words : List ℕ) (key low flag : ℕ) → get_or words 2 0 ≡ low → get_or words 4 0 ≡ flag → low ≤ key
    → key < 2 ^ 64 → flag ≢ 0
    → (not (nat_eq flag 0) ≡ true → Covers (fixed_node n words) key) × (not (nat_eq flag 0) ≡ false → ¬ (Covers (fixed_node n words) key))
endless n words key low flag is_low is_flag from fits some =
    let none : nat_eq (get_or words 4 0) 0 ≡ false = grind (arith, nat_tests) in
    (λ yes. (omega arith, rw none fits), λ no. grind (arith, nat_tests))

fenced : (n : ℕ) (words : List ℕ) (key low flag high : ℕ) → get_or words 2 0 ≡ low → get_or words 4 0 ≡ flag
    → get_or words 3 0 ≡ high → low ≤ key → flag ≡ 0
    → (nat_lt key high ≡ true → Covers (fixed_node n words) key) × (nat_lt key high ≡ false → ¬ (Covers (fixed_node n words) key))
fenced n words key low flag high is_low is_flag is_high from zero =
    let fence : nat_eq (get_or words 4 0) 0 ≡ true = grind (arith, nat_tests) in (
      λ yes. (omega arith, rw (fence, is_high) (grind (arith, nat_tests))),
      λ no covers. let below : key < high =
          (rw (fence, is_high) at covers.1) in grind (arith, nat_tests),
    )

pub returns-then-word-ne0-clause-told : goal.returns-then-word-ne0-clause-told
returns-then-word-ne0-clause-told g c =
    told_so (omega arith) (told_then g.met.P.Place.join (told_word c.word.ensures.loads) (told_word c.word-then-word-key.ensures.loads))
    (λ words size read. endless c.args.words words c.args.key _ _ read.0 read.1 c.if-word-key.true c.ranges.key.fits c.if-word-ne0.true)

pub returns-else-word-ne0-clause-told : goal.returns-else-word-ne0-clause-told
returns-else-word-ne0-clause-told g c =
    told_so (omega arith) (told_then g.met.P.Place.join
    (told_then g.met.P.Place.join (told_word c.word.ensures.loads) (told_word c.word-then-word-key.ensures.loads))
    (told_word c.word-else-word-ne0.ensures.loads))
    (λ words size read. fenced c.args.words words c.args.key _ _ _ read.0.0 read.0.1 read.1 c.if-word-key.true c.if-word-ne0.false)
