use Rattle.vm_exmap.proofs.BundleBits.{mask-more, mask-none, mask-same}
use Rattle.vm_exmap.proofs.Prelude.{[], ap, arith, bit_or, get_or, in_mask, is_of, one_shl, suc, sym, take, take-suc}
use Rattle.vm_exmap.proofs.Prelude.{ℕ, ◌%◌, ◌++◌, ◌+◌, ◌^◌, ◌∙◌, ◌∷◌, ◌≡◌}
use Rattle.vm_exmap.proofs.bits.mask_of.Goals as goal
use Rattle.vm_exmap.proofs.bits.mask_of.Goals.{else-frame-g, then-frame-g}

pub loop-frame-init : goal.loop-frame-init
loop-frame-init c f = mask-none c.args.g f

pub loop-frame-preserved : goal.loop-frame-preserved
loop-frame-preserved c f =
    let n : ℕ = c.loop-frame.frame-index in
    let x : ℕ = get_or c.args.frames.now n 0 in
    let next : take (n + 1) c.args.frames.now ≡ take n c.args.frames.now ++ x ∷ [] =
    (let e : n + 1 ≡ suc n = omega arith in ap (λ k. take k c.args.frames.now) e) ∙ take-suc c.args.frames.now n 0
    c.loop-frame-test.true in
    elim c.if-frame-g.branch [
      | then-frame-g w ↦
          let bit : 2 ^ (x % 64) ≡ _ = sym (one_shl (x % 64) 64 (omega arith)) in
          ap (λ m. in_mask c.args.g m f) (w.mask-is ∙ ap (bit_or c.loop-frame.mask) (sym bit))
          ∙ mask-more c.args.g c.loop-frame.mask x (take n c.args.frames.now) w.if-frame-g.true c.loop-frame.invariant f
          ∙ ap (λ l. is_of c.args.g l f) (sym next)
      | else-frame-g w ↦
          ap (λ m. in_mask c.args.g m f) w.mask-is ∙ mask-same c.args.g c.loop-frame.mask x (take n c.args.frames.now)
          w.if-frame-g.false c.loop-frame.invariant f ∙ ap (λ l. is_of c.args.g l f) (sym next)
    ]
