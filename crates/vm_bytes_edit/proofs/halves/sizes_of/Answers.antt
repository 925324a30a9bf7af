-- Each turn a pair's size comes.
use Rattle.std.proofs.Common.{ℕ, ◌+◌, ap, ◌∙◌, arith}
use Rattle.vm_tree_model.specs.Page.{pairs_of}
use Rattle.vm_bytes_form.specs.Bytes.{bytes}
use Rattle.vm_bytes_form.specs.Cuts.{pair_size}
use Rattle.vm_bytes_edit.proofs.Cutting.{sizes_more}
use Rattle.vm_bytes_node.proofs.KeySearch.{length-pairs, pair_key}
use Rattle.vm_bytes_edit.proofs.halves.sizes_of.Goals as goal

pub loop-i-preserved : goal.loop-i-preserved
loop-i-preserved c =
    let inside = c.loop-i-test.true in
    let few = c.loop-i.invariant.few in
    record {
      few = omega (arith, few, c.pair_size-whole.ensures.few);
      sizes = λ all. ap (λ (s : ℕ). s + c.pair_size-whole.result) (c.loop-i.invariant.sizes all)
          ∙ sizes_more pair_size (pairs_of bytes c.args.page.now) c.loop-i.i _ c.pair_size-whole.result
          (omega (arith, inside, all, length-pairs c.args.page.now))
          (pair_key c.args.page.now _ c.loop-i.i (omega (arith, inside, all)) (c.pair_of.ensures (omega (arith, inside, all))).0)
          c.pair_size-whole.ensures.rank;
    }
