use Rattle.std.proofs.Common.{◌≡◌, ◌≤◌, ℕ, List, get_or, sym, ◌∙◌, arith}
use Rattle.std.proofs.lemmas.Bool.{eq-eqb}
use Rattle.vm_node.proofs.Telling.{told_word, told_then, told_so}
use Rattle.vm_bytes_node.specs.Room.{count_shown, lowest_slot}
use Rattle.vm_bytes_node.proofs.fences.lowest_slot_at.Goals as goal

low_slot : (words : List ℕ) (count slot : ℕ) → count ≤ 0 → count ≡ count_shown words → get_or words 4 0 ≡ 0 → get_or words 3 0 ≡ slot
    → slot ≡ lowest_slot words
low_slot words count slot few is no_high found =
    let none : count_shown words ≡ 0 = omega (arith, few, is) in rw (eq-eqb (count_shown words) 0 none, no_high) (sym found)

pub returns-then-high-eq0-clause-told : goal.returns-then-high-eq0-clause-told
returns-then-high-eq0-clause-told g c =
    told_so (omega arith) (told_then g.met.P.Place.join (told_word c.word-high.ensures.loads)
    (told_word c.word-then-high-eq0.ensures.loads))
    (λ words size read is. low_slot words c.args.count _ c.if-count-gt0.false is (read.0 ∙ c.if-high-eq0.true) read.1)
