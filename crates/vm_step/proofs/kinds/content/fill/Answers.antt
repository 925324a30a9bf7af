use Rattle.vm_step.proofs.{Filling.fills, Filling.stored-whole, Filling.stores-more}
use Rattle.vm_step.proofs.Prelude.{[], ap, arith, FillTold, has, inl, length, length-take-le, List, refl, subst, sym}
use Rattle.vm_step.proofs.Prelude.{take, take_more, view, ℕ, ◌++◌, ◌+◌, ◌<◌, ◌∙◌, ◌∷◌, ◌≡◌}
use Rattle.vm_step.proofs.Going.{goes-then}
use Rattle.vm_step.proofs.kinds.content.fill.Goals as goal

pub store_at-requires-clause-pass : goal.store_at-requires-clause-pass
store_at-requires-clause-pass g c = c.loop-i.invariant.goes.ready.may

pub store_at-requires-clause-legal : goal.store_at-requires-clause-legal
store_at-requires-clause-legal g c =
    inl (ap (has c.args.frame) (fills _ 0 0 _ _ _ c.loop-i.invariant.stores).frames ∙ c.requires.frame.1)

pub loop-i-preserved : goal.loop-i-preserved
loop-i-preserved g c =
    let i : ℕ = c.loop-i.i in
    let page : List ℕ = c.args.page.now in
    let below : i < g.row.N = c.loop-i-test.true in
    let long : length page ≡ g.row.N = c.requires.size.1 in
    let front : 0 + length (take i page) ≡ i = let h : length (take i page) ≡ i =
    length-take-le i page (omega (arith, below, long)) in omega (arith, h) in
    let more : take (i + 1) page ≡ take i page ++ c.get.result ∷ [] = take_more page i 0 (omega (arith, below, long))
    ∙ ap (λ (x : ℕ). take i page ++ x ∷ []) (sym c.get.ensures.word) in
    let holds = ap (has c.args.frame) (fills _ 0 0 _ _ _ c.loop-i.invariant.stores).frames ∙ c.requires.frame.1 in
    let there : FillTold c.args.frame (0 + length (take i page)) c.get.result (view c.loop-i.pass) (view c.store_at.new.pass)
    = subst (λ (n : ℕ). FillTold c.args.frame n c.get.result (view c.loop-i.pass) (view c.store_at.new.pass))
    (sym front) (c.store_at.ensures.told.own holds) in
    record {
      goes = goes-then c.loop-i.invariant.goes c.store_at.ensures.goes;
      stores = rw more (stores-more c.args.frame 0 (take i page) c.get.result _ _ _ c.loop-i.invariant.stores there);
    }

pub loop-i-init : goal.loop-i-init
loop-i-init g c = record { goes = record { same = (refl, refl); ready = c.requires.ready }; stores = refl }

pub store_at-requires-clause-frame : goal.store_at-requires-clause-frame
store_at-requires-clause-frame g c = (c.requires.frame.0, subst (λ (n : ℕ). c.loop-i.i < n) c.requires.size.0 c.loop-i-test.true)

pub loop-i-smaller : goal.loop-i-smaller
loop-i-smaller g c = omega (arith, c.loop-i-test.true)

pub returns-clause-goes : goal.returns-clause-goes
returns-clause-goes g c = c.loop-i.invariant.goes

pub returns-clause-stores : goal.returns-clause-stores
returns-clause-stores g c = stored-whole _ _ _ _ _ (omega (arith, c.requires.size.1, c.loop-i-test.false)) c.loop-i.invariant.stores
