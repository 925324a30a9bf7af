-- The low fence is word 2; the high one is word 3 where word 4 is 0.
use Rattle.std.proofs.Common.{◌≡◌, ◌==◌, ◌∙◌, arith, Bool, get_or, if◌then◌else◌, List, Option, refl, sym, unwrap_or, ℕ}
use Rattle.std.proofs.lemmas.Bool.Decides.{nat_tests}
use Rattle.vm_map.specs.Keys.{KEY_END}
use Rattle.vm_tree_model.specs.Fixed.{high_of}
use Rattle.vm_node.specs.Loads.{IsAnswer}
use Rattle.vm_node.proofs.Telling.{told_so, told_then, told_word}
use Rattle.vm_node.proofs.leaf.has_fences_at.Goals as goal

fence_read : (page : List ℕ) (fence flag : ℕ) → get_or page 3 0 ≡ fence → get_or page 4 0 ≡ flag
    → high_of page ≡ (if flag == 0 then fence else KEY_END)
fence_read page fence flag is_fence is_flag = rw (is_flag, is_fence) refl

same_low : (page : List ℕ) (low from fence flag : ℕ) (high : Option ℕ) (answer : Bool) → get_or page 2 0 ≡ from
    → get_or page 3 0 ≡ fence → get_or page 4 0 ≡ flag → from ≡ low
    → IsAnswer answer ((if flag == 0 then fence else KEY_END) ≡ unwrap_or high KEY_END)
    → IsAnswer answer ((get_or page 2 0 ≡ low) × (high_of page ≡ unwrap_or high KEY_END))
same_low page low from fence flag high answer is_from is_fence is_flag same told =
    let read = fence_read page fence flag is_fence is_flag in
    (λ yes. (is_from ∙ same, read ∙ told.0 yes), λ no both. told.1 no (sym read ∙ both.1))

pub returns-then-from-low-clause-told : goal.returns-then-from-low-clause-told
returns-then-from-low-clause-told g c =
    told_so (omega arith)
    (told_then g.met.P.Place.join (told_then g.met.P.Place.join (told_word c.word-from.ensures.loads) (told_word c.word-fence.ensures.loads))
    (told_word c.word-flag.ensures.loads))
    (λ words size read.
    same_low words c.args.low _ _ _ c.args.high c.is_fence.result read.0.0 read.0.1 read.1 (grind (arith, nat_tests, c.if-from-low.true))
    c.is_fence.ensures)

pub returns-else-from-low-clause-told : goal.returns-else-from-low-clause-told
returns-else-from-low-clause-told g c =
    told_so (omega arith)
    (told_then g.met.P.Place.join (told_then g.met.P.Place.join (told_word c.word-from.ensures.loads) (told_word c.word-fence.ensures.loads))
    (told_word c.word-flag.ensures.loads))
    (λ words size read. (
      λ yes. grind (arith, nat_tests, yes, c.if-from-low.false),
      λ no both. grind (arith, nat_tests, both.0, read.0.0, c.if-from-low.false),
    ))
