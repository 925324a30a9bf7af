use Rattle.std.proofs.Common.{◌≢◌, ◌≤◌, arith, subst, ℕ}
use Rattle.vm_step.specs.Prelude.{view}
use Rattle.vm_tree_rule.specs.Standing.{Awaits}
use Rattle.vm_tree_rule.proofs.Downward.{stand-awaits}
use Rattle.vm_tree_rule.proofs.Reaching.{leaf-reached}
use Rattle.vm_tree_rule.proofs.Readings.{err-then, ok-then, opened-earlier, reads-then}
use Rattle.vm_tree_rule.proofs.above.reach.Goals as goal

some-level : (n : ℕ) → n ≢ 0 → 1 ≤ n
some-level n ne = omega (arith, ne)

pub returns-in-Err-clause-sure : goal.returns-in-Err-clause-sure
returns-in-Err-clause-sure g c tells k = c.in-Err.ensures.sure (λ _. 0) tells k

-- ---- the leaf is the root

pub returns-then-height-eq0-clause-reads : goal.returns-then-height-eq0-clause-reads
returns-then-height-eq0-clause-reads g c = (c.in-Ok.ensures.reads, c.in-Ok.ensures.ok.0)

pub returns-then-height-eq0-clause-awaits : goal.returns-then-height-eq0-clause-awaits
returns-then-height-eq0-clause-awaits g c =
    let s = c.in-Ok.top.stand in
    subst (λ n. Awaits g.K.Kind.layout (view c.enter_root.new.pass) s.guard.pid s.guard.word n
    (g.K.Kind.rank c.args.key.now)) c.if-height-eq0.true
    (stand-awaits g.K.Kind.rank (g.K.Kind.rank c.args.key.now) s _ c.in-Ok.ensures.ok.1)

pub returns-then-height-eq0-clause-above : goal.returns-then-height-eq0-clause-above
returns-then-height-eq0-clause-above g c = c.in-Ok.ensures.named

pub returns-then-height-eq0-clause-known : goal.returns-then-height-eq0-clause-known
returns-then-height-eq0-clause-known g c tells k = ((c.in-Ok.ensures.known (λ _. 0) tells k).0, tt)

-- ---- its parent is the root

pub under_root-requires-clause-reading : goal.under_root-requires-clause-reading
under_root-requires-clause-reading g c = c.in-Ok.ensures.ok.0.reading

pub under_root-requires-clause-stands : goal.under_root-requires-clause-stands
under_root-requires-clause-stands g c = c.in-Ok.ensures.ok.1

pub under_root-requires-clause-level : goal.under_root-requires-clause-level
under_root-requires-clause-level g c = c.if-height-eq1.true

pub returns-then-height-eq1-clause-reads : goal.returns-then-height-eq1-clause-reads
returns-then-height-eq1-clause-reads g c =
    let e = c.in-Ok.ensures in ok-then c.under_root.result c.under_root.ensures.reads
    (λ r k. (reads-then _ _ _ e.reads k.0, opened-earlier _ _ _ _ _ _ e.reads k.1))

pub returns-then-height-eq1-clause-awaits : goal.returns-then-height-eq1-clause-awaits
returns-then-height-eq1-clause-awaits g c = c.under_root.ensures.awaits

pub returns-then-height-eq1-clause-above : goal.returns-then-height-eq1-clause-above
returns-then-height-eq1-clause-above g c = let e = c.in-Ok.ensures in
    ok-then c.under_root.result c.under_root.ensures.above (λ r k. k (view c.args.pass.now) e.ok.0 e.meta)

pub returns-then-height-eq1-clause-err : goal.returns-then-height-eq1-clause-err
returns-then-height-eq1-clause-err g c =
    err-then c.under_root.result c.under_root.ensures.err (λ t k. k (view c.args.pass.now) c.in-Ok.ensures.ok.0 c.in-Ok.ensures.way)

pub returns-then-height-eq1-clause-sure : goal.returns-then-height-eq1-clause-sure
returns-then-height-eq1-clause-sure g c tells k = c.under_root.ensures.sure tells (c.in-Ok.ensures.known (λ _. 0) tells k).0

pub returns-then-height-eq1-clause-known : goal.returns-then-height-eq1-clause-known
returns-then-height-eq1-clause-known g c tells k = let e = c.in-Ok.ensures.known (λ _. 0) tells k in
    c.under_root.ensures.known tells e.0 e.1 c.in-Ok.ensures.meta.zero

-- ---- its parent is another node

pub under_node-requires-clause-opened : goal.under_node-requires-clause-opened
under_node-requires-clause-opened g c = (view c.args.pass.now, c.in-Ok.ensures.ok.0)

pub under_node-requires-clause-stands : goal.under_node-requires-clause-stands
under_node-requires-clause-stands g c = c.in-Ok.ensures.ok.1

pub under_node-requires-clause-inner : goal.under_node-requires-clause-inner
under_node-requires-clause-inner g c = some-level c.in-Ok.top.stand.level c.if-height-eq0.false

pub under_node-requires-clause-not_zero : goal.under_node-requires-clause-not_zero
under_node-requires-clause-not_zero g c = c.in-Ok.ensures.meta.apart

pub returns-clause-reads : goal.returns-clause-reads
returns-clause-reads g c =
    let e = c.in-Ok.ensures in ok-then c.under_node.result c.under_node.ensures.reads
    (λ r k. (reads-then _ _ _ e.reads k.0, opened-earlier _ _ _ _ _ _ e.reads k.1))

pub returns-clause-awaits : goal.returns-clause-awaits
returns-clause-awaits g c = c.under_node.ensures.awaits

pub returns-clause-above : goal.returns-clause-above
returns-clause-above g c = ok-then c.under_node.result c.under_node.ensures.above (λ r k. k (view c.args.pass.now) c.in-Ok.ensures.ok.0)

pub returns-clause-err : goal.returns-clause-err
returns-clause-err g c = err-then c.under_node.result c.under_node.ensures.err
    (λ t k. k (view c.args.pass.now) c.in-Ok.ensures.ok.0 c.in-Ok.ensures.way)

pub returns-clause-sure : goal.returns-clause-sure
returns-clause-sure g c tells k = c.under_node.ensures.sure tells (c.in-Ok.ensures.known (λ _. 0) tells k).0

pub returns-clause-known : goal.returns-clause-known
returns-clause-known g c tells k = c.under_node.ensures.known tells (c.in-Ok.ensures.known (λ _. 0) tells k).0

pub returns-then-height-eq0-clause-leaf : goal.returns-then-height-eq0-clause-leaf
returns-then-height-eq0-clause-leaf g c =
    leaf-reached g.K.Kind.layout g.K.Kind.rank (view c.args.pass.now) (g.K.Kind.rank c.args.key.now) c.in-Ok.top.stand _ _
    c.if-height-eq0.true c.in-Ok.ensures.ok.1 c.in-Ok.ensures.way

pub returns-then-height-eq1-clause-leaf : goal.returns-then-height-eq1-clause-leaf
returns-then-height-eq1-clause-leaf g c = let e = c.in-Ok.ensures in
    ok-then c.under_root.result c.under_root.ensures.leaf (λ r k. k (view c.args.pass.now) e.ok.0 e.way)

pub returns-clause-leaf : goal.returns-clause-leaf
returns-clause-leaf g c = let e = c.in-Ok.ensures in
    ok-then c.under_node.result c.under_node.ensures.leaf (λ r k. k (view c.args.pass.now) e.ok.0 e.way)
