use Rattle.std.proofs.Common.{⊎_elim, ◌∙◌, ◌≡◌, ◌≢◌, ◌⊎◌, inl, inr, sym, ℕ}
use Rattle.vm_tree_join.proofs.from_vm_tree_rule.Reaching.{parent-beside}
use Rattle.vm_tree_join.proofs.from_vm_tree_rule.Readings.{err-then, ok-both, ok-then}
use Rattle.vm_tree_merge.specs.Beside.IsUnmerged.{full, single, worn_parent}
use Rattle.vm_tree_merge.proofs.Choosing.{leaves-both, leaves-nothing, match-both, match-same, of-none, of-some, some-of}
use Rattle.vm_tree_merge.proofs.beside.neighbour_to_join.Goals as goal

-- the leaf and page 0 are another page than this one
apart-from : (leaf p q : ℕ) → p ≢ leaf → p ≢ 0 → (q ≡ leaf) ⊎ (q ≡ 0) → q ≢ p
apart-from leaf p q a b here e = ⊎_elim (λ (l : q ≡ leaf). a (sym e ∙ l)) (λ (z : q ≡ 0). b (sym e ∙ z)) here

pub returns-then-not-is_sparse-clause-beside : goal.returns-then-not-is_sparse-clause-beside
returns-then-not-is_sparse-clause-beside g c q here = leaves-nothing q _

pub returns-then-not-is_sparse-clause-none : goal.returns-then-not-is_sparse-clause-none
returns-then-not-is_sparse-clause-none g c v parent none = inl (full (c.is_sparse.ensures.1 c.if-not-is_sparse.true))

pub returns-then-is_last-clause-beside : goal.returns-then-is_last-clause-beside
returns-then-is_last-clause-beside g c q here = leaves-nothing q _

pub returns-then-is_last-clause-none : goal.returns-then-is_last-clause-none
returns-then-is_last-clause-none g c v parent none = inr (c.is_last.ensures.0 c.if-is_last.true)

pub returns-then-is_last-2-clause-beside : goal.returns-then-is_last-2-clause-beside
returns-then-is_last-2-clause-beside g c q here = leaves-nothing q _

pub returns-then-is_last-2-clause-none : goal.returns-then-is_last-2-clause-none
returns-then-is_last-2-clause-none g c v parent none = inl (worn_parent _ parent (c.is_last-2.ensures.0 c.if-is_last-2.true))

-- ---- there is a neighbour

pub judge-requires-clause-sparse : goal.judge-requires-clause-sparse
judge-requires-clause-sparse g c = c.is_sparse.ensures.0 c.if-not-is_sparse.false

pub judge-requires-clause-below : goal.judge-requires-clause-below
judge-requires-clause-below g c = c.is_last-2.ensures.1 c.if-is_last-2.false

pub judge-requires-clause-beside : goal.judge-requires-clause-beside
judge-requires-clause-beside g c = let p = c.requires.parent in
    (p.0, some-of _ c.in-Ok.found c.in-Some.beside c.in-Some.is (c.in-Ok.ensures.beside p.0 p.1))

pub returns-in-Some-clause-beside : goal.returns-in-Some-clause-beside
returns-in-Some-clause-beside g c =
    let e = c.in-Ok.ensures in
    let p = c.requires.parent in
    let n = some-of _ c.in-Ok.found c.in-Some.beside c.in-Some.is (e.beside p.0 p.1) in
    ok-then c.judge.result c.judge.ensures.others
    (λ r k q here.
    let ne = apart-from c.args.leaf.now.pid c.in-Some.beside.guard.pid q n.choice.apart n.apart.1 here in
    let o = e.others q (apart-from c.args.leaf.now.pid c.args.up.now.pid q (λ s. p.1.apart (sym s)) p.1.not_zero.1
    here) (of-some _ c.in-Ok.found c.in-Some.beside c.in-Some.is ne) in
    leaves-both q _ _ _ (e.reads, o.0, o.1) (k q ne))

pub returns-in-Some-clause-stays : goal.returns-in-Some-clause-stays
returns-in-Some-clause-stays g c =
    ok-then c.judge.result c.judge.ensures.others
    (λ r k v p.
    let n = some-of _ c.in-Ok.found c.in-Some.beside c.in-Some.is (c.in-Ok.ensures.beside v p) in
    let o = k c.args.up.now.pid (λ s. n.apart.0 (sym s)) in
    parent-beside v _ c.args.up.now c.args.leaf.now.pid _ _ (record { reads = o.0; same = o.1; leaves = o.2 }) n.stands)

pub returns-in-Some-clause-none : goal.returns-in-Some-clause-none
returns-in-Some-clause-none g c =
    ok-then c.judge.result c.judge.ensures.none
    (λ r k v p n. inl (k v (some-of _ c.in-Ok.found c.in-Some.beside c.in-Some.is (c.in-Ok.ensures.beside v p))
    n))

pub returns-in-Some-clause-some : goal.returns-in-Some-clause-some
returns-in-Some-clause-some g c =
    ok-then c.judge.result c.judge.ensures.some
    (λ r k v p. match-both _ _ r
    (k v (some-of _ c.in-Ok.found c.in-Some.beside c.in-Some.is (c.in-Ok.ensures.beside v p)))
    (c.is_last.ensures.1 c.if-is_last.false))

pub returns-in-Some-clause-edit : goal.returns-in-Some-clause-edit
returns-in-Some-clause-edit g c = ok-then c.judge.result c.judge.ensures.same
    (λ r k. match-same _ c.in-Some.beside r k
    (some-of _ c.in-Ok.found c.in-Some.beside c.in-Some.is c.in-Ok.ensures.edit))

pub returns-in-Some-clause-err : goal.returns-in-Some-clause-err
returns-in-Some-clause-err g c =
    err-then c.judge.result c.judge.ensures.err
    (λ t k v p. k v (some-of _ c.in-Ok.found c.in-Some.beside c.in-Some.is (c.in-Ok.ensures.beside v p)))

pub returns-in-Some-clause-sure : goal.returns-in-Some-clause-sure
returns-in-Some-clause-sure g c tells k =
    c.judge.ensures.sure (some-of _ c.in-Ok.found c.in-Some.beside c.in-Some.is (c.in-Ok.ensures.known tells k).0)

pub returns-in-Some-clause-known : goal.returns-in-Some-clause-known
returns-in-Some-clause-known g c tells k =
    let p = c.requires.parent in
    let b = c.in-Some.beside in
    let n = some-of _ c.in-Ok.found b c.in-Some.is (c.in-Ok.ensures.beside p.0 p.1) in
    let known = c.in-Ok.ensures.known tells k in
    ok-both c.judge.result c.judge.ensures.same c.judge.ensures.known
    (λ r s on. (
      match-same _ b r s (on b.guard.pid b.guard.word (some-of _ c.in-Ok.found b c.in-Some.is known.0)),
      λ q x here kn.
          on q x
          (known.1 q x
          (of-some _ c.in-Ok.found b c.in-Some.is
          (λ t.
          ⊎_elim (λ (u : q ≡ c.args.up.now.pid). n.apart.0 (sym t ∙ u))
          (λ rest. apart-from c.args.leaf.now.pid b.guard.pid q n.choice.apart n.apart.1 rest t) here))
          kn),
    ))

-- ---- there is none

pub returns-in-None-clause-beside : goal.returns-in-None-clause-beside
returns-in-None-clause-beside g c q here =
    let e = c.in-Ok.ensures in
    let p = c.requires.parent in
    let o = e.others q (apart-from c.args.leaf.now.pid c.args.up.now.pid q (λ s. p.1.apart (sym s)) p.1.not_zero.1
    here) (of-none _ c.in-Ok.found c.in-None.is) in
    (e.reads, o.0, o.1)

pub returns-in-None-clause-stays : goal.returns-in-None-clause-stays
returns-in-None-clause-stays g c v p = (c.in-Ok.ensures.single v p c.in-None.is).0

pub returns-in-None-clause-none : goal.returns-in-None-clause-none
returns-in-None-clause-none g c v p none = let s = c.in-Ok.ensures.single v p c.in-None.is in inl (single _ _ s.0 s.1 s.2)

pub returns-in-None-clause-known : goal.returns-in-None-clause-known
returns-in-None-clause-known g c tells k = let known = c.in-Ok.ensures.known tells k in
    (tt, λ q x here kn. known.1 q x (of-none _ c.in-Ok.found c.in-None.is) kn)
