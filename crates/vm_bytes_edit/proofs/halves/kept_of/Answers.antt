-- The cut comes where the first pairs have at least half.
use Rattle.std.proofs.Common.{◌≡◌, ℕ, length, drop, take, sym, ap, ◌∙◌, arith}
use Rattle.std.proofs.lemmas.List.{drop_all, take_all}
use Rattle.vm_map.specs.Map.{Pairs}
use Rattle.vm_tree_model.specs.Layout.{cut_from, pairs_size}
use Rattle.vm_tree_model.specs.Page.{pairs_of}
use Rattle.vm_bytes_form.specs.Bytes.{bytes}
use Rattle.vm_bytes_form.specs.Cuts.{pair_size}
use Rattle.vm_bytes_edit.proofs.Cutting.{cut_here, cut_more}
use Rattle.vm_bytes_node.proofs.KeySearch.{length-pairs, pair_key}
use Rattle.vm_bytes_edit.proofs.halves.kept_of.Goals as goal

-- the sizes of all pairs
whole_is : (m : Pairs) (count whole : ℕ) → count ≡ length m → whole ≡ pairs_size pair_size (take count m) → whole ≡ pairs_size pair_size m
whole_is m count whole all is = is ∙ ap (pairs_size pair_size) (take_all count m (omega (arith, all)))

pub returns-then-whole-got-clause-kept : goal.returns-then-whole-got-clause-kept
returns-then-whole-got-clause-kept c = λ all.
    let m = pairs_of bytes c.args.page.now in
    let whole = whole_is m c.args.count _ (all ∙ sym (length-pairs c.args.page.now))
    (c.sizes_of-whole.ensures.sizes (omega (arith, all))) in
    let here = cut_here pair_size c.loop-i.got c.sizes_of-whole.result (drop c.loop-i.i m) c.if-whole-got.true in
    let cut = c.loop-i.invariant.cut all in
    sym (ap (λ (w : ℕ). cut_from pair_size 0 w m) (sym whole) ∙ cut ∙ omega (arith, here))

pub loop-i-preserved : goal.loop-i-preserved
loop-i-preserved c =
    let inside = c.loop-i-test.true in
    let few = c.loop-i.invariant.few in
    let less = c.if-whole-got.false in
    record {
      few = omega (arith, few, c.pair_size-got.ensures.few);
      cut = λ all. cut_more pair_size c.loop-i.got c.sizes_of-whole.result _ c.loop-i.i _ c.pair_size-got.result
          (pairs_of bytes c.args.page.now)
          (omega (arith, inside, all, length-pairs c.args.page.now)) (omega (arith, less))
          (pair_key c.args.page.now _ c.loop-i.i (omega (arith, inside, all)) (c.pair_of.ensures (omega (arith, inside, all))).0)
          c.pair_size-got.ensures.rank
          (c.loop-i.invariant.cut all);
    }

pub returns-clause-kept : goal.returns-clause-kept
returns-clause-kept c = λ all.
    let m = pairs_of bytes c.args.page.now in
    let whole = whole_is m c.args.count _ (all ∙ sym (length-pairs c.args.page.now))
    (c.sizes_of-whole.ensures.sizes (omega (arith, all))) in
    let past = c.loop-i-test.false in
    let ended = c.loop-i.auto.i-end in
    let nothing : cut_from pair_size c.loop-i.got c.sizes_of-whole.result (drop c.loop-i.i m) ≡ 0 =
    ap (cut_from pair_size c.loop-i.got c.sizes_of-whole.result)
    (drop_all c.loop-i.i m (omega (arith, past, all, length-pairs c.args.page.now))) in
    let cut = c.loop-i.invariant.cut all in
    sym (ap (λ (w : ℕ). cut_from pair_size 0 w m) (sym whole) ∙ cut ∙ omega (arith, nothing, past, ended))
