use Rattle.std.proofs.Math.Nat.{mul-add, mul-le-mul_left}
use Rattle.std.proofs.Common.{[], ◌*◌, ◌+◌, ◌-◌, ◌<◌, ◌∙◌, ◌∷◌, ◌≡◌, ◌≤◌, arith, refl, subst, ℕ}
use Rattle.vm_step.specs.Prelude.{view}
use Rattle.vm_tree_rule.specs.Standing.{Awaits}
use Rattle.vm_tree_rule.proofs.Counting.{height-more, height-wider, height-within, within-wider}
use Rattle.vm_tree_rule.proofs.Downward.{stand-awaits}
use Rattle.vm_step.proofs.Going.{goes-then}
use Rattle.vm_tree_rule.proofs.descent.descend.Goals as goal
use Rattle.vm_tree_rule.proofs.Readings.{opened-earlier, reads-then}

whole : (n : ℕ) → n ≡ n - 0
whole n = omega arith

none-left : (n i : ℕ) → n ≤ i → n - i ≡ 0
none-left n i l = omega (arith, l)

pub loop-init : goal.loop-init
loop-init g c = record {
  goes = c.in-Ok.ensures.goes;
  reads = c.in-Ok.ensures.reads;
  opened = c.in-Ok.ensures.ok.0;
  left = omega arith;
  words = record {
    loaded = c.in-Ok.top.stand.guard.pid ∷ c.in-Ok.top.stand.level ∷ [];
    words = c.in-Ok.ensures.words;
    two = omega arith;
    is = refl;
    few = omega arith;
    tells = c.in-Ok.ensures.height;
  };
  known = λ shares tells k. (c.in-Ok.ensures.known shares tells k).0;
  level = whole c.in-Ok.top.stand.level;
  stands = c.in-Ok.ensures.ok.1;
  way = c.in-Ok.ensures.way;
}

level-left : (n i level : ℕ) → level ≡ n - i → i < n → 1 ≤ level
level-left n i level is l = omega (arith, is, l)

level-on : (n i level below : ℕ) → level ≡ n - i → below + 1 ≡ level → i < n → below ≡ n - (i + 1)
level-on n i level below is up l = omega (arith, is, up, l)

pub step-requires-clause-inner : goal.step-requires-clause-inner
step-requires-clause-inner g c =
    level-left c.in-Ok.top.stand.level c.loop.counter c.loop.stand.level c.loop.invariant.level c.loop-test.true

one-more : (m i : ℕ) → 2 + m * i + m ≤ 2 + m * (i + 1)
one-more m i = let e : m * (i + 1) ≡ m * i + m * 1 = mul-add m i 1 in omega (arith, e)

pub loop-preserved : goal.loop-preserved
loop-preserved g c =
    let k = c.in-Ok-step.ensures in
    let i = c.loop.invariant in
    let less = c.loop-test.true in
    record {
      goes = goes-then i.goes k.goes;
      reads = reads-then _ _ _ i.reads k.reads.0;
      opened = opened-earlier _ _ _ _ _ _ i.reads k.reads.1;
      left = omega (arith, less);
      words = height-more (2 + g.K.Kind.bounds.child * c.loop.counter) g.K.Kind.bounds.child
          (2 + g.K.Kind.bounds.child * (c.loop.counter + 1)) _ _ _ _ i.words k.few
          (one-more g.K.Kind.bounds.child c.loop.counter);
      known = λ shares tells r. (k.known shares tells (i.known shares tells r)).0;
      level = level-on c.in-Ok.top.stand.level c.loop.counter c.loop.stand.level _ i.level k.level less;
      stands = k.stands;
      way = k.way _ i.opened i.way;
    }

pub returns-clause-reads : goal.returns-clause-reads
returns-clause-reads g c = (c.loop.invariant.reads, c.loop.invariant.opened)

pub returns-clause-level : goal.returns-clause-level
returns-clause-level g c = c.loop.invariant.level ∙ none-left c.in-Ok.top.stand.level c.loop.counter c.loop-test.false

pub returns-clause-stands : goal.returns-clause-stands
returns-clause-stands g c = c.loop.invariant.stands

pub returns-clause-way : goal.returns-clause-way
returns-clause-way g c = c.loop.invariant.way

pub returns-clause-awaits : goal.returns-clause-awaits
returns-clause-awaits g c =
    let i = c.loop.invariant in
    subst (λ n. Awaits g.K.Kind.layout (view c.loop.pass) c.loop.stand.guard.pid c.loop.stand.guard.word n
    (g.K.Kind.rank c.args.key.now)) (i.level ∙ none-left c.in-Ok.top.stand.level c.loop.counter c.loop-test.false)
    (stand-awaits g.K.Kind.rank (g.K.Kind.rank c.args.key.now) c.loop.stand _ i.stands)

pub returns-clause-known : goal.returns-clause-known
returns-clause-known g c shares tells k = c.loop.invariant.known shares tells k

left-over : (m i n : ℕ) → i ≤ n → 2 + m * i ≤ 2 + m * n
left-over m i n l = let e : m * i ≤ m * n = mul-le-mul_left m l in omega (arith, e)

pub returns-clause-height : goal.returns-clause-height
returns-clause-height g c = (
  c.in-Ok.top.stand.level,
  height-wider _ _ _ _ _ c.loop.invariant.words
      (left-over g.K.Kind.bounds.child c.loop.counter c.in-Ok.top.stand.level c.loop.invariant.left),
)

pub returns-clause-few : goal.returns-clause-few
returns-clause-few g c = height-within (λ h. 2 + g.K.Kind.bounds.child * h) _ c.in-Ok.top.stand.level _ _
    c.loop.invariant.words (left-over g.K.Kind.bounds.child c.loop.counter c.in-Ok.top.stand.level
    c.loop.invariant.left)

pub returns-in-Err-clause-few : goal.returns-in-Err-clause-few
returns-in-Err-clause-few g c = within-wider _ _ _ _ (λ h. omega arith) c.in-Err.ensures.few

pub returns-in-Err-clause-sure : goal.returns-in-Err-clause-sure
returns-in-Err-clause-sure g c shares tells k = c.in-Err.ensures.sure shares tells k

pub returns-in-Err-step-clause-err : goal.returns-in-Err-step-clause-err
returns-in-Err-step-clause-err g c = c.in-Err-step.ensures.err _ c.loop.invariant.opened c.loop.invariant.way

pub returns-in-Err-step-clause-sure : goal.returns-in-Err-step-clause-sure
returns-in-Err-step-clause-sure g c shares tells k = c.in-Err-step.ensures.sure shares tells (c.loop.invariant.known shares tells k)

failed-last : (m i n : ℕ) → i < n → 2 + m * i + m ≤ 2 + m * n
failed-last m i n l = let e : m * (i + 1) ≡ m * i + m * 1 = mul-add m i 1 in let h : m * (i + 1) ≤ m * n =
    mul-le-mul_left m (omega (arith, l)) in omega (arith, e, h)

pub returns-in-Err-step-clause-few : goal.returns-in-Err-step-clause-few
returns-in-Err-step-clause-few g c =
    height-within (λ h. 2 + g.K.Kind.bounds.child * h)
    (2 + g.K.Kind.bounds.child * c.loop.counter + g.K.Kind.bounds.child) c.in-Ok.top.stand.level _ _
    (height-more _ g.K.Kind.bounds.child _ _ _ _ _ c.loop.invariant.words c.in-Err-step.ensures.few (omega arith))
    (failed-last g.K.Kind.bounds.child c.loop.counter c.in-Ok.top.stand.level c.loop-test.true)
