use Rattle.std.proofs.Common.{◌≡◌, ◌≢◌, ℕ, ◌+◌, ◌-◌, ◌/◌, min, List, ap, ◌∙◌, arith, refl}
use Rattle.std.proofs.lemmas.Bool.{eq-eqb, ne_eqb}
use Rattle.vm_node.proofs.Telling.{told_then, told_so}
use Rattle.vm_bytes_node.specs.Room.{count_shown, lowest_slot, place_of_slot, spare_words}
use Rattle.vm_bytes_node.proofs.SlotLemmas.{count_is}
use Rattle.vm_bytes_node.proofs.fences.spare_at.Goals.{then-slot-eq0, else-slot-eq0}
use Rattle.vm_bytes_node.proofs.fences.spare_at.Goals as goal

place_none : (slot : ℕ) → slot ≡ 0 → 512 ≡ place_of_slot slot
place_none slot none = rw (eq-eqb slot 0 none) refl

place_some : (slot place : ℕ) → slot ≢ 0 → place ≡ min (slot / 256) 512 → place ≡ place_of_slot slot
place_some slot place some is = rw (ne_eqb slot 0 some) (omega (arith, is))

spare_is : (words : List ℕ) (slot count end : ℕ) → count ≡ count_shown words → slot ≡ lowest_slot words → end ≡ place_of_slot slot
    → end - (8 + count) ≡ spare_words words
spare_is words slot count end counted found placed =
    ap (λ (e : ℕ). e - (8 + count)) (placed ∙ ap place_of_slot found) ∙ ap (λ (n : ℕ). place_of_slot (lowest_slot words) - (8 + n)) counted

pub returns-clause-told : goal.returns-clause-told
returns-clause-told g c =
    let end : c.if-slot-eq0.end ≡ place_of_slot c.lowest_slot_at-slot.result = elim c.if-slot-eq0.branch [
      | then-slot-eq0 w ↦ w.end-is ∙ place_none _ w.if-slot-eq0.true
      | else-slot-eq0 w ↦ w.end-is ∙ place_some _ _ w.if-slot-eq0.false w.min-end.ensures
    ] in
    told_so (omega arith) (told_then g.met.P.Place.join c.count_at-count.ensures.told c.lowest_slot_at-slot.ensures.told)
    (λ words size read.
    let count = read.0 ∙ count_is words size in
    c.saturating_sub.ensures ∙ spare_is words c.lowest_slot_at-slot.result c.count_at-count.result c.if-slot-eq0.end count
    (read.1 count) end)
