use Rattle.std.proofs.Common.{◌+◌, ◌≡◌, ◌≤◌, arith, refl, subst, ℕ}
use Rattle.vm_step.specs.Prelude.{view}
use Rattle.vm_tree_rule.specs.Standing.{Awaits}
use Rattle.vm_tree_rule.proofs.{Downward.stand-awaits, Reaching.leaf-reached, Reaching.parent-stepped}
use Rattle.vm_tree_rule.proofs.Entering.{opened-reads}
use Rattle.vm_tree_rule.proofs.Readings.{opened-earlier, reads-self, reads-then}
use Rattle.vm_step.proofs.Going.{goes-then}
use Rattle.vm_tree_rule.proofs.above.under_node.Goals as goal

pub loop-init : goal.loop-init
loop-init g c = record {
  goes = record { same = (refl, refl); ready = c.requires.ready };
  reads = reads-self _;
  opened = λ v o. o;
  reading = c.requires.opened.1.reading;
  left = c.requires.inner;
  known = λ tells k. k;
  level = refl;
  stands = c.requires.stands;
  not_zero = c.requires.not_zero;
  way = λ v o reached. reached;
}

level-left : (n i level : ℕ) → level + i ≡ n + 1 → i ≤ n → 1 ≤ level
level-left n i level is l = omega (arith, is, l)

level-on : (n i level below : ℕ) → level + i ≡ n + 1 → below + 1 ≡ level → below + (i + 1) ≡ n + 1
level-on n i level below is up = omega (arith, is, up)

last-level : (n i level : ℕ) → level + i ≡ n + 1 → i ≤ n → n ≤ i → level ≡ 1
last-level n i level is l m = omega (arith, is, l, m)

under-last : (level below : ℕ) → level ≡ 1 → below + 1 ≡ level → below ≡ 0
under-last level below one up = omega (arith, one, up)

pub step-requires-clause-reading : goal.step-requires-clause-reading
step-requires-clause-reading g c = c.loop.invariant.reading

pub step-requires-clause-stands : goal.step-requires-clause-stands
step-requires-clause-stands g c = c.loop.invariant.stands

pub step-requires-clause-inner : goal.step-requires-clause-inner
step-requires-clause-inner g c = level-left c.args.stand.level c.loop.counter c.loop.node.level c.loop.invariant.level c.loop.invariant.left

pub loop-preserved : goal.loop-preserved
loop-preserved g c =
    let k = c.in-Ok.ensures in
    let i = c.loop.invariant in
    let less = c.loop-test.true in
    record {
      goes = goes-then i.goes k.goes;
      reads = reads-then _ _ _ i.reads k.reads.0;
      opened = λ v o. opened-earlier _ _ _ _ _ _ (opened-reads _ _ _ _ _ (i.opened v o)) k.reads.1;
      reading = k.reads.1.reading;
      left = omega (arith, less);
      known = λ tells r. (k.known (λ _. 0) tells (i.known tells r)).0;
      level = level-on c.args.stand.level c.loop.counter c.loop.node.level _ i.level k.level;
      stands = k.stands;
      not_zero = k.not_zero;
      way = λ v o reached. k.way v (i.opened v o) (i.way v o reached);
    }

pub returns-in-Err-clause-err : goal.returns-in-Err-clause-err
returns-in-Err-clause-err g c v o way = let i = c.loop.invariant in c.in-Err.ensures.err v (i.opened v o) (i.way v o way)

pub returns-in-Err-clause-sure : goal.returns-in-Err-clause-sure
returns-in-Err-clause-sure g c tells k = c.in-Err.ensures.sure (λ _. 0) tells (c.loop.invariant.known tells k)

-- ---- the last step

pub step-requires-2-clause-reading : goal.step-requires-2-clause-reading
step-requires-2-clause-reading g c = c.loop.invariant.reading

pub step-requires-2-clause-stands : goal.step-requires-2-clause-stands
step-requires-2-clause-stands g c = c.loop.invariant.stands

pub step-requires-2-clause-inner : goal.step-requires-2-clause-inner
step-requires-2-clause-inner g c =
    level-left c.args.stand.level c.loop.counter c.loop.node.level c.loop.invariant.level c.loop.invariant.left

pub returns-in-Ok-step-clause-reads : goal.returns-in-Ok-step-clause-reads
returns-in-Ok-step-clause-reads g c = let k = c.in-Ok-step.ensures.reads in let i = c.loop.invariant in
    (reads-then _ _ _ i.reads k.0, opened-earlier _ _ _ _ _ _ i.reads k.1)

pub returns-in-Ok-step-clause-awaits : goal.returns-in-Ok-step-clause-awaits
returns-in-Ok-step-clause-awaits g c =
    let k = c.in-Ok-step.ensures in
    let b = c.in-Ok-step.below in
    let i = c.loop.invariant in
    let one = last-level c.args.stand.level c.loop.counter c.loop.node.level i.level i.left c.loop-test.false in
    subst (λ n. Awaits g.K.Kind.layout (view c.step-2.new.pass) b.guard.pid b.guard.word n
    (g.K.Kind.rank c.args.key.now)) (under-last c.loop.node.level b.level one k.level)
    (stand-awaits g.K.Kind.rank (g.K.Kind.rank c.args.key.now) b _ k.stands)

pub returns-in-Ok-step-clause-above : goal.returns-in-Ok-step-clause-above
returns-in-Ok-step-clause-above g c v o =
    let k = c.in-Ok-step.ensures in
    let b = c.in-Ok-step.below in
    let i = c.loop.invariant in
    let s = c.loop.node in
    let x = view c.loop.pass in
    let key = g.K.Kind.rank c.args.key.now in
    let one = last-level c.args.stand.level c.loop.counter s.level i.level i.left c.loop-test.false in
    parent-stepped v x (view c.step-2.new.pass) key s.guard b.guard.pid k.named.0 (k.parent.1 v (i.opened v o))
    k.parent.0 k.not_zero i.not_zero
    (subst (λ n. Awaits g.K.Kind.layout x s.guard.pid s.guard.word n key) one
    (stand-awaits g.K.Kind.rank key s x i.stands)) k.reads.0 k.named.1 k.named.2

pub returns-in-Ok-step-clause-known : goal.returns-in-Ok-step-clause-known
returns-in-Ok-step-clause-known g c tells k = c.in-Ok-step.ensures.known (λ _. 0) tells (c.loop.invariant.known tells k)

pub returns-clause-err : goal.returns-clause-err
returns-clause-err g c v o way = let i = c.loop.invariant in c.in-Err-step.ensures.err v (i.opened v o) (i.way v o way)

pub returns-clause-sure : goal.returns-clause-sure
returns-clause-sure g c tells k = c.in-Err-step.ensures.sure (λ _. 0) tells (c.loop.invariant.known tells k)

pub returns-in-Ok-step-clause-leaf : goal.returns-in-Ok-step-clause-leaf
returns-in-Ok-step-clause-leaf g c v o way =
    let k = c.in-Ok-step.ensures in
    let b = c.in-Ok-step.below in
    let i = c.loop.invariant in
    let one = last-level c.args.stand.level c.loop.counter c.loop.node.level i.level i.left c.loop-test.false in
    leaf-reached g.K.Kind.layout g.K.Kind.rank v (g.K.Kind.rank c.args.key.now) b _ _ (under-last c.loop.node.level b.level one k.level)
    k.stands (k.way v (i.opened v o) (i.way v o way))
