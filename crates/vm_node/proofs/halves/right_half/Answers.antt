-- The halves are what the left words, the header on the right and the copied words say.
use Rattle.std.proofs.Common.{◌≡◌, ℕ, ◌+◌, ◌*◌, ◌/◌, slice_index, ap, ◌∙◌, arith}
use Rattle.vm_tree_model.specs.Fixed.{fixed}
use Rattle.vm_node.specs.Halves.{half_of, left_half}
use Rattle.vm_node.proofs.Sizes.{whole, halves}
use Rattle.vm_node.proofs.SplitWords.{IsHalved, split_is, cut_inside, zeros}
use Rattle.vm_node.proofs.Halving.{left_half-at, left-head, left-kept, left-zero, length-left_half}
use Rattle.vm_node.proofs.Leaves.{left_leaf, right_leaf}
use Rattle.vm_node.proofs.halves.right_half.Goals as goal

pub returns-clause-halves : goal.returns-clause-halves
returns-clause-halves g c =
    let old = c.args.page.now in
    let z = g.row.N in
    let half : ℕ = half_of z in
    let long = whole z c.requires.sized in
    let twice = halves z c.requires.sized in
    let separator : ℕ = slice_index old (8 + 2 * half) in
    let at : c.most_pairs-half.result / 2 ≡ half = ap (λ (n : ℕ). n / 2) c.most_pairs-half.ensures in
    let first : c.get-separator.result ≡ separator = c.get-separator.ensures.word ∙ ap (λ (h : ℕ). slice_index old (8 + 2 * h)) at in
    let copied = c.copy_pairs.ensures in
    let r = c.write_header.ensures in
    let zero_at : (k : ℕ) → slice_index c.zero.result k ≡ 0 = λ k. ap (λ w. slice_index w k) c.zero.ensures ∙ zeros z k in
    let halved : IsHalved z half old (left_half z old separator) c.write_header.new.page = record {
      old_length = c.get-separator.ensures.length;
      new_length = length-left_half z old separator;
      right_length = r.words;
      tag = left-head z old separator c.requires.sized 0 (omega arith) (λ e. omega (arith, e)) (λ e. omega (arith, e))
          (λ e. omega (arith, e));
      count = left_half-at z old separator 1 (omega (arith, long));
      low = left-head z old separator c.requires.sized 2 (omega arith) (λ e. omega (arith, e)) (λ e. omega (arith, e))
          (λ e. omega (arith, e));
      high = left_half-at z old separator 3 (omega (arith, long));
      endless = left_half-at z old separator 4 (omega (arith, long));
      level = left-head z old separator c.requires.sized 5 (omega arith) (λ e. omega (arith, e))
          (λ e. omega (arith, e)) (λ e. omega (arith, e));
      kept = left-kept z old separator c.requires.sized;
      zero_above = left-zero z old separator;
      right_tag = r.tag ∙ c.get.ensures.word;
      right_count = r.count ∙ at;
      right_low = r.low ∙ first;
      right_high = r.high ∙ c.get-2.ensures.word;
      right_endless = r.endless ∙ c.get-3.ensures.word;
      right_level = r.level ∙ c.get-4.ensures.word;
      right_header = λ k ge lt. r.rest k ge ∙ copied.right_low k lt ∙ zero_at k;
      moved = λ k lt. r.rest (8 + k) (omega arith) ∙ copied.moved k lt;
      right_above = λ k ge. r.rest k (omega arith) ∙ copied.right_high k ge ∙ zero_at k;
    } in
    rw first (split_is z half c.requires.sized twice old (left_half z old separator) c.write_header.new.page halved
    c.requires.full (c.get-separator.ensures.below (8 + 2 * half)))

pub returns-clause-left_leaf : goal.returns-clause-left_leaf
returns-clause-left_leaf g c leaf = left_leaf (fixed g.row.N) _ _ _ _ (returns-clause-halves g c)
    (cut_inside g.row.N c.requires.sized _ c.requires.full) leaf

pub returns-clause-right_leaf : goal.returns-clause-right_leaf
returns-clause-right_leaf g c leaf = right_leaf (fixed g.row.N) _ _ _ _ (returns-clause-halves g c)
    (cut_inside g.row.N c.requires.sized _ c.requires.full) leaf
