use Rattle.std.specs.List.{range_with_len}
use Rattle.std.proofs.Common.{[], ◌*◌, ◌++◌, ◌+◌, ◌<◌, ◌∙◌, ◌∷◌, ◌≡◌, ap, arith, length, ltb, map, replicate, sym, take}
use Rattle.std.proofs.lemmas.Bool.{cond-true, lt-ltb}
use Rattle.std.proofs.lemmas.List.{take_more_set}
use Rattle.std.proofs.lemmas.List.FromFn.{map-range_with_len_more}
use Rattle.std.proofs.Math.ListN.{length-set}
use Rattle.std.proofs.Math.Seq.{take-length}
use Rattle.vm_event.specs.Prelude.{core_block}
use Rattle.vm_core.proofs.initial.core_block.Goals as goal
use Rattle.vm_core.proofs.Starting.{block-past}

pub loop-i-preserved : goal.loop-i-preserved
loop-i-preserved c =
    let ls : c.loop-i.i < length c.loop-i.words = omega (arith, c.loop-i.invariant.len, c.loop-i-test.true) in
    record {
      counted = take_more_set c.loop-i.words c.loop-i.i _ ls ∙ ap (λ y. y ++ (64 * c.from.result + c.loop-i.i) ∷ [])
          c.loop-i.invariant.counted
          ∙ ap (λ b. map (λ k. 64 * c.args.p + k) (range_with_len 0 c.loop-i.i) ++ (64 * b + c.loop-i.i) ∷ []) c.from.ensures
          ∙ sym (map-range_with_len_more (λ k. 64 * c.args.p + k) 0 c.loop-i.i c.loop-i.i (omega arith));
      len = length-set c.loop-i.words c.loop-i.i _ ∙ c.loop-i.invariant.len;
    }

pub returns-after-loop-i : goal.returns-after-loop-i
unfolding core_block
returns-after-loop-i c =
    let all : c.loop-i.i ≡ 64 = omega (arith, c.loop-i-test.false, c.loop-i.auto.i-end) in
    let long : c.loop-i.i ≡ length c.loop-i.words = all ∙ sym c.loop-i.invariant.len in
    sym (ap (λ n. take n c.loop-i.words) long ∙ take-length c.loop-i.words) ∙ c.loop-i.invariant.counted
    ∙ ap (λ n. map (λ k. 64 * c.args.p + k) (range_with_len 0 n)) all
    ∙ sym (cond-true (ltb c.args.p c.args.next) _ (replicate 64 0) (lt-ltb c.args.p c.args.next c.if-p-next.true))

pub returns-else-p-next : goal.returns-else-p-next
returns-else-p-next c = sym (block-past c.args.next c.args.p (omega (arith, c.if-p-next.false)))
