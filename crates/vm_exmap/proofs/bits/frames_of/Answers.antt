use Rattle.vm_supply.proofs.from_vm_step.Masks.{all-below, below-clear, below-set}
use Rattle.vm_exmap.proofs.Prelude.{[], ap, arith, bit_and, bit_at, frames_below, length, length-append, List}
use Rattle.vm_exmap.proofs.Prelude.{shr_and_one, sym, ℕ, ◌*◌, ◌++◌, ◌+◌, ◌∙◌, ◌∷◌, ◌≡◌}
use Rattle.vm_exmap.proofs.bits.frames_of.Goals as goal
use Rattle.vm_exmap.proofs.bits.frames_of.Goals.{else-mask-i-eq1, then-mask-i-eq1}

pub loop-i-preserved : goal.loop-i-preserved
loop-i-preserved c =
    let bit : bit_and _ 1 ≡ bit_at c.args.mask c.loop-i.i = shr_and_one c.args.mask c.loop-i.i in
    elim c.if-mask-i-eq1.branch [
      | then-mask-i-eq1 w ↦
          let pushed : c.if-mask-i-eq1.frames ≡ c.loop-i.frames ++ (64 * c.args.g + c.loop-i.i) ∷ [] = w.frames-is ∙ w.push.ensures in
          let longer : length (c.loop-i.frames ++ (64 * c.args.g + c.loop-i.i) ∷ []) ≡ length c.loop-i.frames + 1 =
          length-append c.loop-i.frames ((64 * c.args.g + c.loop-i.i) ∷ []) in
          record {
            are = pushed ∙ ap (λ (l : List ℕ). l ++ (64 * c.args.g + c.loop-i.i) ∷ []) c.loop-i.invariant.are
                ∙ sym (below-set c.loop-i.i c.args.g c.args.mask (sym bit ∙ w.if-mask-i-eq1.true));
            few = let new : length c.if-mask-i-eq1.frames ≡ length c.loop-i.frames + 1 = ap length pushed ∙ longer in
                omega (arith, new, c.loop-i.invariant.few);
          }
      | else-mask-i-eq1 w ↦ record {
        are = w.frames-is ∙ c.loop-i.invariant.are
            ∙ sym (below-clear c.loop-i.i c.args.g c.args.mask (λ e. w.if-mask-i-eq1.false (bit ∙ e)));
        few = let same : length c.if-mask-i-eq1.frames ≡ length c.loop-i.frames = ap length w.frames-is in
            omega (arith, same, c.loop-i.invariant.few);
      }
    ]

pub returns : goal.returns
returns c =
    let all : c.loop-i.i ≡ 64 = omega (arith, c.loop-i.auto.i-end, c.loop-i-test.false) in
    c.loop-i.invariant.are ∙ ap (λ n. frames_below n c.args.g c.args.mask) all ∙ all-below c.args.g c.args.mask
