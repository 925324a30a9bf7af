-- The value found is that of the pair with the key, which stands at the bound if anywhere.
use Rattle.std.proofs.Common.{◌≡◌, ◌≢◌, ℕ, ◌+◌, ◌*◌, ◌<◌, List, length, get_or, Some, None, sym, ap, ◌∙◌, arith}
use Rattle.vm_map.specs.Map.{Rises, lookup_at}
use Rattle.vm_tree_model.specs.Fixed.{fixed_pairs}
use Rattle.vm_page.specs.Sizes.{IsSize}
use Rattle.vm_node.specs.Places.{IsBound}
use Rattle.vm_node.proofs.Bounds.{bound_place, index_is, no_index}
use Rattle.vm_node.proofs.Indexes.{found_at}
use Rattle.vm_node.proofs.ReadPairs.{key_is, value_is}
use Rattle.vm_node.proofs.Telling.{told_word, told_then, told_so}
use Rattle.vm_node.proofs.leaf.find_at.Goals.{else-at-count-via-then-at-count+else-word-key, else-at-count-via-else-at-count}
use Rattle.vm_node.proofs.leaf.find_at.Goals as goal

module _ (n : ℕ) (size_of : IsSize n) (words : List ℕ) (size : length words ≡ n) (key count at : ℕ)
    (all : count ≡ length (fixed_pairs n words)) (bound : IsBound (fixed_pairs n words) key at) where
  found : (first value : ℕ) → at < count → get_or words (8 + 2 * at) 0 ≡ first → get_or words (9 + 2 * at) 0 ≡ value
      → first ≡ key → (low high : ℕ) → Rises low high (fixed_pairs n words)
      → Some value ≡ lookup_at (fixed_pairs n words) key
  found first value lt read_first read_value same low high rises =
      let inside : at < length (fixed_pairs n words) = omega (arith, lt, all) in
      let place = bound_place (fixed_pairs n words) low high key at rises bound in
      let is = index_is (fixed_pairs n words) low high key at rises place (record {
        there = inside;
        has = key_is n size_of words size at inside ∙ read_first ∙ same;
      }) in
      ap Some (sym (value_is n size_of words size at inside ∙ read_value)) ∙ sym (found_at (fixed_pairs n words) key at is)

  none_found : (at < length (fixed_pairs n words) → (get_or (fixed_pairs n words) at (0, 0)).0 ≢ key) → (low high : ℕ)
      → Rises low high (fixed_pairs n words) → None ≡ lookup_at (fixed_pairs n words) key
  none_found other low high rises =
      sym (no_index (fixed_pairs n words) low high key at rises
      (bound_place (fixed_pairs n words) low high key at rises bound) other)

pub returns-then-word-key-clause-told : goal.returns-then-word-key-clause-told
returns-then-word-key-clause-told g c =
    let join = g.met.P.Place.join in
    told_so (omega arith) (told_then join
    (told_then join c.count_at-count.ensures.told c.lower_bound_at-at.ensures.told)
    (told_then join (told_word c.word.ensures.loads) (told_word c.word-then-word-key.ensures.loads)))
    (λ words size read. found c.args.words c.requires.sized words size c.args.key _ _ read.0.0 (read.0.1 read.0.0) _ _
    c.if-at-count.true read.1.0 read.1.1 c.if-word-key.true)

pub returns-clause-told : goal.returns-clause-told
returns-clause-told g c =
    let join = g.met.P.Place.join in
    let begun = told_then join c.count_at-count.ensures.told c.lower_bound_at-at.ensures.told in
    elim c.else-at-count.branch [
      | else-at-count-via-then-at-count+else-word-key w ↦
          rw w.place-is (told_so (omega arith) (told_then join begun (told_word w.word.ensures.loads))
          (λ words size read. none_found c.args.words c.requires.sized words size c.args.key _ _ read.0.0
          (read.0.1 read.0.0) (λ inside same.
          w.if-word-key.false (sym (key_is c.args.words c.requires.sized words size _ inside ∙ read.1) ∙ same))))
      | else-at-count-via-else-at-count w ↦ rw w.place-is (told_so (omega arith) begun
          (λ words size read. none_found c.args.words c.requires.sized words size c.args.key _ _ read.0
          (read.1 read.0) (λ inside same. let past = w.if-at-count.false in omega (arith, inside, read.0, past))))
    ]
