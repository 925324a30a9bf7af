use Rattle.std.proofs.lemmas.List.{replicate_more}
use Rattle.vm_step.proofs.{Filling.fills, Filling.stores-more}
use Rattle.vm_step.proofs.Prelude.{ap, arith, FillTold, has, inl, length, length-replicate, List, refl, replicate}
use Rattle.vm_step.proofs.Prelude.{Stores, subst, sym, view, ℕ, ◌+◌, ◌<◌, ◌∙◌, ◌≡◌}
use Rattle.vm_step.proofs.Going.{goes-then}
use Rattle.vm_step.proofs.kinds.content.blank.Goals as goal

pub store_at-requires-clause-pass : goal.store_at-requires-clause-pass
store_at-requires-clause-pass g c = c.loop-i.invariant.goes.ready.may

pub store_at-requires-clause-legal : goal.store_at-requires-clause-legal
store_at-requires-clause-legal g c =
    inl (ap (has c.args.frame) (fills _ 0 0 _ _ _ c.loop-i.invariant.stores).frames ∙ c.requires.frame.1)

pub loop-i-preserved : goal.loop-i-preserved
loop-i-preserved g c =
    let i : ℕ = c.loop-i.i in
    let holds = ap (has c.args.frame) (fills _ 0 0 _ _ _ c.loop-i.invariant.stores).frames ∙ c.requires.frame.1 in
    let long : length (replicate {A = ℕ} i 0) ≡ i = length-replicate {A = ℕ} i 0 in
    let front : 0 + length (replicate {A = ℕ} i 0) ≡ i = omega (arith, long) in
    let there : FillTold c.args.frame (0 + length (replicate {A = ℕ} i 0)) 0 (view c.loop-i.pass) (view c.store_at.new.pass)
    = subst (λ (n : ℕ). FillTold c.args.frame n 0 (view c.loop-i.pass) (view c.store_at.new.pass)) (sym front)
    (c.store_at.ensures.told.own holds) in
    record {
      goes = goes-then c.loop-i.invariant.goes c.store_at.ensures.goes;
      stores = subst (λ (l : List ℕ). Stores c.args.frame 0 l (view c.args.pass.now) (view c.store_at.new.pass)) (replicate_more i 0)
          (stores-more c.args.frame 0 (replicate i 0) 0 _ _ _ c.loop-i.invariant.stores there);
    }

pub loop-i-init : goal.loop-i-init
loop-i-init g c = record { goes = record { same = (refl, refl); ready = c.requires.ready }; stores = refl }

pub store_at-requires-clause-frame : goal.store_at-requires-clause-frame
store_at-requires-clause-frame g c = (c.requires.frame.0, subst (λ (n : ℕ). c.loop-i.i < n) c.args.words.now.sized.0 c.loop-i-test.true)

pub loop-i-smaller : goal.loop-i-smaller
loop-i-smaller g c = omega (arith, c.loop-i-test.true)

pub returns-clause-goes : goal.returns-clause-goes
returns-clause-goes g c = c.loop-i.invariant.goes

pub returns-clause-stores : goal.returns-clause-stores
returns-clause-stores g c =
    let all : c.loop-i.i ≡ c.args.words.now.size.words = omega (arith, c.loop-i-test.false, c.loop-i.auto.i-end) in
    subst (λ (n : ℕ). Stores c.args.frame 0 (replicate n 0) (view c.args.pass.now) (view c.loop-i.pass))
    (all ∙ c.args.words.now.sized.0) c.loop-i.invariant.stores
