use Rattle.std.proofs.Math.Nat.{mul-add, mul-le-mul_left}
use Rattle.std.proofs.Common.{[], ◌*◌, ◌++◌, ◌+◌, ◌-◌, ◌<◌, ◌∙◌, ◌∷◌, ◌≡◌, ◌≤◌, arith, length, List, refl, subst, suc, sym, ℕ}
use Rattle.vm_step.specs.Prelude.{View, view}
use Rattle.vm_kind.specs.from_vm_guard.PageWords.{LoadsWords}
use Rattle.vm_kind.proofs.from_vm_guard.PageLoads.{none-words}
use Rattle.vm_tree_rule.specs.{Few.HasHeight, Few.LoadsAtMost, Few.LoadsHeight, Standing.Awaits}
use Rattle.vm_tree_rule.proofs.Counting.{height-more, height-wider, height-within, place-within, within-wider}
use Rattle.vm_tree_rule.proofs.Downward.{awaits-later, stand-awaits, stand-later}
use Rattle.vm_tree_rule.proofs.Onward.{passed-later}
use Rattle.vm_tree_rule.proofs.OnWay.{way-later}
use Rattle.vm_tree_rule.proofs.Readings.{loads-reads, opened-earlier, opened-loads, reads-then}
use Rattle.vm_tree_rule.proofs.Seeking.{beside-loads, spare-more, spare-room, full-below, full-root, opened-beside}
use Rattle.vm_tree_rule.proofs.Seeking.{reread-beside, reread-known, reread-locks, reread-reads}
use Rattle.vm_tree_rule.proofs.Surely.{known-same, locks-same}
use Rattle.vm_step.proofs.Going.{goes-then}
use Rattle.vm_tree_rule.proofs.seek.seek_full.Goals as goal
use Rattle.vm_tree_rule.proofs.Whole.{tree-size}

whole : (n : ℕ) → n ≡ n - 0
whole n = omega arith

one-less : (n i : ℕ) → i < n → n - i ≡ suc (n - (i + 1))
one-less n i l = omega (arith, l)

none-left : (n i : ℕ) → n ≤ i → n - i ≡ 0
none-left n i l = omega (arith, l)

level-left : (n i level : ℕ) → level ≡ n - i → i < n → 1 ≤ level
level-left n i level is l = omega (arith, is, l)

level-on : (n i level below : ℕ) → level ≡ n - i → below + 1 ≡ level → i < n → below ≡ n - (i + 1)
level-on n i level below is up l = omega (arith, is, up, l)

all-of : {X : Type 0} (n : ℕ) (page : List ℕ) (v w : View X) → length page ≡ n → LoadsWords page v w → LoadsAtMost n v w
all-of n page v w long words = record { loaded = page; words = words; few = omega (arith, long) }

-- of each node so many words tell its child, and so many its room; and of the pages that are read whole n words each
module _ (child spare : ℕ) where
  abbrev so-far : ℕ → ℕ
  so-far i = 2 + spare + (child + spare) * i

  -- those of one node more
  one-node : (i : ℕ) → (child + spare) * (i + 1) ≡ (child + spare) * i + (child + spare)
  one-node i = let e : (child + spare) * (i + 1) ≡ (child + spare) * i + (child + spare) * 1 =
      mul-add (child + spare) i 1 in omega (arith, e)

  -- no more of fewer nodes
  fewer-nodes : (i h : ℕ) → i ≤ h → (child + spare) * i ≤ (child + spare) * h
  fewer-nodes i h l = mul-le-mul_left (child + spare) l

  counted-height : {X : Type 0} (root h : ℕ) (u v w : View X) → LoadsWords (root ∷ h ∷ []) u v → HasHeight h u v
      → LoadsAtMost spare v w → LoadsHeight (so-far 0) h u w
  counted-height root h u v w words tells one =
      height-more 2 spare (so-far 0) h u v w (record {
        loaded = root ∷ h ∷ [];
        words = words;
        two = omega arith;
        is = refl;
        few = omega arith;
        tells = tells;
      }) one (omega arith)

  counted-next : {X : Type 0} (i h : ℕ) (u v x w : View X) → LoadsHeight (so-far i) h u v → LoadsAtMost child v x
      → LoadsAtMost spare x w → LoadsHeight (so-far i + child + spare) h u w
  counted-next i h u v x w k step one = height-more (so-far i + child) spare (so-far i + child + spare) h u x w
      (height-more (so-far i) child (so-far i + child) h u v x k step (omega arith)) one (omega arith)

  one-on : (i : ℕ) → so-far i + child + spare ≤ so-far (i + 1)
  one-on i = let e = one-node i in omega (arith, e)

  roomy-most : (i h : ℕ) → i ≤ h → so-far i ≤ 2 + (child + spare) * (h + 1)
  roomy-most i h l = let e = one-node i in let k = fewer-nodes (i + 1) (h + 1) (omega (arith, l)) in omega (arith, e, k)

  steps-all : (i h : ℕ) → i < h → so-far i + child + spare ≤ 2 + (child + spare) * (h + 1)
  steps-all i h l = let on = one-on i in let most = roomy-most (i + 1) h (omega (arith, l)) in omega (arith, on, most)

  module _ (n : ℕ) where
    root-most : (h : ℕ) → so-far 0 + n ≤ 2 + (child + spare) * (h + 1) + n
    root-most h = let most = roomy-most 0 h (omega arith) in omega (arith, most)

    within-all : (h : ℕ) → 2 ≤ 2 + (child + spare) * (h + 1) + 2 * n
    within-all h = omega arith

    root-below : (h : ℕ) → 2 + (child + spare) * (h + 1) + n ≤ 2 + (child + spare) * (h + 1) + 2 * n
    root-below h = omega arith

    steps-most : (i h : ℕ) → i < h → so-far i + child ≤ 2 + (child + spare) * (h + 1) + 2 * n
    steps-most i h l = let all = steps-all i h l in omega (arith, all)

    next-most : (i h : ℕ) → i < h → so-far i + child + spare + n ≤ 2 + (child + spare) * (h + 1) + n
    next-most i h l = let all = steps-all i h l in omega (arith, all)

    below-most : (h : ℕ) → 2 + (child + spare) * (h + 1) + n + n ≤ 2 + (child + spare) * (h + 1) + 2 * n
    below-most h = omega arith

    roomy-all : (h : ℕ) → 2 + (child + spare) * (h + 1) ≤ 2 + (child + spare) * (h + 1) + 2 * n
    roomy-all h = omega arith

-- what is not below is as much at least
at-least : (left growth most : ℕ) → growth ≡ most → growth ≤ left → most ≤ left
at-least left growth most is le = omega (arith, is, le)

pub loop-init : goal.loop-init
loop-init g c =
    let k = c.in-Ok.ensures in
    let n = c.spare_in_place-left.ensures in
    let f = n.found in
    let reads = loads-reads _ _ _ _ _ _ f.loads in
    record {
      goes = goes-then k.goes n.goes;
      size = c.requires.size;
      reads = reads-then _ _ _ k.reads reads;
      opened = opened-loads _ _ _ _ _ _ _ k.ok.0 f.loads;
      counted = (f.loaded, (_, f.loads.loads), f.tells);
      room = at-least _ _ _ c.growth-growth.ensures c.if-left-growth.false;
      left = omega arith;
      words = counted-height g.K.Kind.bounds.child g.K.Kind.bounds.spare c.in-Ok.top.stand.guard.pid
          c.in-Ok.top.stand.level _ _ _ k.words k.height (place-within _ _ _ _ _ _ _ _ f (none-words _));
      known = λ tells r. known-same _ _ _ _ reads.0 f.loads.table (k.known _ tells r).0;
      locks = locks-same _ _ reads.0 f.loads.table k.locks;
      way = (
        [],
        passed-later g.K.Kind.layout g.K.Kind.spare (view c.args.pass.now) (g.K.Kind.rank c.args.key.now) []
            c.in-Ok.top.stand.guard.pid (view c.enter_root.new.pass) (view c.spare_in_place-left.new.pass) reads
            k.named,
      );
      level = whole c.in-Ok.top.stand.level;
      stands = stand-later g.K.Kind.rank (g.K.Kind.rank c.args.key.now) c.in-Ok.top.stand _ _ reads.0 k.ok.1;
      reached = way-later _ _ _ _ _ _ _ _ reads k.way;
    }

pub step-requires-clause-inner : goal.step-requires-clause-inner
step-requires-clause-inner g c =
    level-left c.in-Ok.top.stand.level c.loop.counter c.loop.stand.level c.loop.invariant.level c.loop-test.true

pub loop-preserved : goal.loop-preserved
loop-preserved g c =
    let k = c.in-Ok-step.ensures in
    let i = c.loop.invariant in
    let less = c.loop-test.true in
    let n = c.spare_in_place-next.ensures in
    let f = n.found in
    let reads = loads-reads _ _ _ _ _ _ f.loads in
    let passed = k.passed.1 _ i.counted.0 i.opened i.counted.1
    (spare-room g.K.Kind.layout g.K.Kind.spare i.counted.0 c.loop.left i.counted.2 i.room) in
    record {
      goes = goes-then i.goes (goes-then k.goes n.goes);
      size = i.size;
      reads = reads-then _ _ _ i.reads (reads-then _ _ _ k.reads.0 reads);
      opened = opened-loads _ _ _ _ _ _ _ (opened-earlier _ _ _ _ _ _ i.reads k.reads.1) f.loads;
      counted = (f.loaded, (_, f.loads.loads), f.tells);
      room = at-least _ _ _ c.growth-growth.ensures c.if-next-growth.false;
      left = omega (arith, less);
      words =
          height-more (so-far g.K.Kind.bounds.child g.K.Kind.bounds.spare c.loop.counter + g.K.Kind.bounds.child)
          g.K.Kind.bounds.spare (so-far g.K.Kind.bounds.child g.K.Kind.bounds.spare (c.loop.counter + 1)) _ _ _ _
          (height-more (so-far g.K.Kind.bounds.child g.K.Kind.bounds.spare c.loop.counter) g.K.Kind.bounds.child
          (so-far g.K.Kind.bounds.child g.K.Kind.bounds.spare c.loop.counter + g.K.Kind.bounds.child) _ _ _ _
          i.words k.few (omega arith))
          (place-within _ _ _ _ _ _ _ _ f (none-words _)) (one-on g.K.Kind.bounds.child g.K.Kind.bounds.spare c.loop.counter);
      known = λ tells r. known-same _ _ _ _ reads.0 f.loads.table (k.known _ tells (i.known tells r)).0;
      locks = locks-same _ _ reads.0 f.loads.table k.locks;
      way = (
        (c.loop.stand.guard.pid, i.counted.0 ++ k.passed.0) ∷ i.way.0,
        passed-later g.K.Kind.layout g.K.Kind.spare (view c.args.pass.now) (g.K.Kind.rank c.args.key.now)
            ((c.loop.stand.guard.pid, i.counted.0 ++ k.passed.0) ∷ i.way.0) c.in-Ok-step.below.guard.pid
            (view c.step.new.pass) (view c.spare_in_place-next.new.pass) reads (
              passed.1,
              passed-later g.K.Kind.layout g.K.Kind.spare (view c.args.pass.now)
                  (g.K.Kind.rank c.args.key.now) i.way.0 c.loop.stand.guard.pid (view c.loop.pass)
                  (view c.step.new.pass) k.reads.0 i.way.1,
            ),
      );
      level = level-on c.in-Ok.top.stand.level c.loop.counter c.loop.stand.level _ i.level k.level less;
      stands = stand-later g.K.Kind.rank (g.K.Kind.rank c.args.key.now) c.in-Ok-step.below _ _ reads.0 k.stands;
      reached = way-later _ _ _ _ _ _ _ _ reads (k.way _ i.opened i.reached);
    }

-- ---- ends without a page

full-is : (left n growth most : ℕ) → left ≡ n → growth ≡ most → left < growth → n < most
full-is left n growth most same is low = omega (arith, same, is, low)

room-is : (left n most : ℕ) → left ≡ n → most ≤ left → most ≤ n
room-is left n most same some = omega (arith, same, some)

pub returns-in-Err-clause-err : goal.returns-in-Err-clause-err
returns-in-Err-clause-err g c = c.in-Err.ensures.err

pub returns-in-Err-clause-sure : goal.returns-in-Err-clause-sure
returns-in-Err-clause-sure g c tells r = c.in-Err.ensures.sure _ tells r

pub returns-in-Err-clause-few : goal.returns-in-Err-clause-few
returns-in-Err-clause-few g c =
    within-wider _ _ _ _ (within-all g.K.Kind.bounds.child g.K.Kind.bounds.spare g.K.Kind.layout.words)
    c.in-Err.ensures.few

pub returns-in-Err-reread-clause-err : goal.returns-in-Err-reread-clause-err
returns-in-Err-reread-clause-err g c = c.in-Err-reread.ensures.err _ (g.K.Kind.rank c.args.key.now) _ _ _
    (opened-loads _ _ _ _ _ _ _ c.in-Ok.ensures.ok.0 c.spare_in_place-left.ensures.found.loads)
    (way-later _ _ _ _ _ _ _ _ (loads-reads _ _ _ _ _ _ c.spare_in_place-left.ensures.found.loads) c.in-Ok.ensures.way)

pub returns-in-Err-reread-clause-sure : goal.returns-in-Err-reread-clause-sure
returns-in-Err-reread-clause-sure g c tells r =
    let f = c.spare_in_place-left.ensures.found in
    c.in-Err-reread.ensures.sure tells
    (known-same _ _ _ _ (loads-reads _ _ _ _ _ _ f.loads).0 f.loads.table (c.in-Ok.ensures.known _ tells r).0)

pub returns-in-Err-reread-clause-few : goal.returns-in-Err-reread-clause-few
returns-in-Err-reread-clause-few g c =
    let k = c.in-Ok.ensures in
    let first = counted-height g.K.Kind.bounds.child g.K.Kind.bounds.spare c.in-Ok.top.stand.guard.pid
    c.in-Ok.top.stand.level _ _ _ k.words k.height
    (place-within _ _ _ _ _ _ _ _ c.spare_in_place-left.ensures.found (none-words _)) in
    height-within (λ h. 2 + (g.K.Kind.bounds.child + g.K.Kind.bounds.spare) * (h + 1) + 2 * g.K.Kind.layout.words)
    (2 + (g.K.Kind.bounds.child + g.K.Kind.bounds.spare) * (c.in-Ok.top.stand.level + 1) + g.K.Kind.layout.words)
    c.in-Ok.top.stand.level _ _
    (height-more (so-far g.K.Kind.bounds.child g.K.Kind.bounds.spare 0) g.K.Kind.layout.words
    (2 + (g.K.Kind.bounds.child + g.K.Kind.bounds.spare) * (c.in-Ok.top.stand.level + 1) + g.K.Kind.layout.words)
    _ _ _ _ first (all-of g.K.Kind.layout.words (g.K.Pages.words_of c.reread.new.into) _ _
    c.in-Err-reread.ensures.size c.in-Err-reread.ensures.words)
    (root-most g.K.Kind.bounds.child g.K.Kind.bounds.spare g.K.Kind.layout.words c.in-Ok.top.stand.level))
    (root-below g.K.Kind.bounds.child g.K.Kind.bounds.spare g.K.Kind.layout.words c.in-Ok.top.stand.level)

pub returns-in-Err-step-clause-err : goal.returns-in-Err-step-clause-err
returns-in-Err-step-clause-err g c = c.in-Err-step.ensures.err _ c.loop.invariant.opened c.loop.invariant.reached

pub returns-in-Err-step-clause-sure : goal.returns-in-Err-step-clause-sure
returns-in-Err-step-clause-sure g c tells r = c.in-Err-step.ensures.sure _ tells (c.loop.invariant.known tells r)

pub returns-in-Err-step-clause-few : goal.returns-in-Err-step-clause-few
returns-in-Err-step-clause-few g c =
    height-within (λ h. 2 + (g.K.Kind.bounds.child + g.K.Kind.bounds.spare) * (h + 1) + 2 * g.K.Kind.layout.words)
    (so-far g.K.Kind.bounds.child g.K.Kind.bounds.spare c.loop.counter + g.K.Kind.bounds.child)
    c.in-Ok.top.stand.level _ _
    (height-more _ g.K.Kind.bounds.child _ _ _ _ _ c.loop.invariant.words c.in-Err-step.ensures.few (omega arith))
    (steps-most g.K.Kind.bounds.child g.K.Kind.bounds.spare g.K.Kind.layout.words c.loop.counter c.in-Ok.top.stand.level c.loop-test.true)

-- ---- the root is full

pub returns-then-left-growth-clause-reads : goal.returns-then-left-growth-clause-reads
returns-then-left-growth-clause-reads g c =
    reads-then _ _ _ c.in-Ok.ensures.reads
    (reads-then _ _ _ (loads-reads _ _ _ _ _ _ c.spare_in_place-left.ensures.found.loads)
    (reread-reads _ _ _ _ _ _ c.in_default.ensures.ok))

pub returns-then-left-growth-clause-met : goal.returns-then-left-growth-clause-met
returns-then-left-growth-clause-met g c =
    let k = c.in-Ok.ensures in
    let f = c.spare_in_place-left.ensures.found in
    full-root g.K.Kind.spare (g.K.Kind.rank c.args.key.now) c.in-Ok.top.meta c.in-Ok.top.stand.guard
    c.in-Ok.top.stand.level (g.K.Pages.words_of c.reread.new.into) f.loaded (view c.args.pass.now)
    (view c.enter_root.new.pass) (view c.spare_in_place-left.new.pass) (view c.reread.new.pass) k.meta k.ok.0
    (stand-awaits g.K.Kind.rank (g.K.Kind.rank c.args.key.now) c.in-Ok.top.stand _ k.ok.1) f.loads
    c.in_default.ensures.ok
    (full-is _ _ _ _ c.in_default.ensures.left c.growth-growth.ensures c.if-left-growth.true)

pub returns-then-left-growth-clause-known : goal.returns-then-left-growth-clause-known
returns-then-left-growth-clause-known g c tells r =
    let k = c.in-Ok.ensures.known _ tells r in
    let f = c.spare_in_place-left.ensures.found in
    let reads = (loads-reads _ _ _ _ _ _ f.loads).0 in (
      reread-known _ _ _ _ _ _ c.in_default.ensures.ok _ _ (known-same _ _ _ _ reads f.loads.table k.1),
      reread-known _ _ _ _ _ _ c.in_default.ensures.ok _ _ (known-same _ _ _ _ reads f.loads.table k.0),
    )

pub returns-then-left-growth-clause-locks : goal.returns-then-left-growth-clause-locks
returns-then-left-growth-clause-locks g c =
    let f = c.spare_in_place-left.ensures.found in
    reread-locks _ _ _ _ _ _ c.in_default.ensures.ok
    (locks-same _ _ (loads-reads _ _ _ _ _ _ f.loads).0 f.loads.table c.in-Ok.ensures.locks)

pub returns-then-left-growth-clause-height : goal.returns-then-left-growth-clause-height
returns-then-left-growth-clause-height g c =
    let k = c.in-Ok.ensures in
    let first = counted-height g.K.Kind.bounds.child g.K.Kind.bounds.spare c.in-Ok.top.stand.guard.pid
    c.in-Ok.top.stand.level _ _ _ k.words k.height
    (place-within _ _ _ _ _ _ _ _ c.spare_in_place-left.ensures.found (none-words _)) in (
      c.in-Ok.top.stand.level,
      height-more (so-far g.K.Kind.bounds.child g.K.Kind.bounds.spare 0) g.K.Kind.layout.words
          (2 + (g.K.Kind.bounds.child + g.K.Kind.bounds.spare) * (c.in-Ok.top.stand.level + 1)
          + g.K.Kind.layout.words) _ _ _ _ first
          (all-of g.K.Kind.layout.words (g.K.Pages.words_of c.reread.new.into) _ _ c.in_default.ensures.size
          c.in_default.ensures.words)
          (root-most g.K.Kind.bounds.child g.K.Kind.bounds.spare g.K.Kind.layout.words c.in-Ok.top.stand.level),
    )

pub returns-then-left-growth-clause-few : goal.returns-then-left-growth-clause-few
returns-then-left-growth-clause-few g c =
    let h = returns-then-left-growth-clause-height g c in
    height-within (λ h. 2 + (g.K.Kind.bounds.child + g.K.Kind.bounds.spare) * (h + 1) + 2 * g.K.Kind.layout.words)
    (2 + (g.K.Kind.bounds.child + g.K.Kind.bounds.spare) * (h.0 + 1) + g.K.Kind.layout.words) h.0 _ _ h.1
    (root-below g.K.Kind.bounds.child g.K.Kind.bounds.spare g.K.Kind.layout.words h.0)

-- ---- a node is full

pub reread-requires-then-next-growth-clause-reading : goal.reread-requires-then-next-growth-clause-reading
reread-requires-then-next-growth-clause-reading g c =
    let k = c.in-Ok-step.ensures in
    (opened-beside _ _ _ _ _ _
    (beside-loads c.loop.stand.guard.pid _ _ _ _ _ _ (λ e. k.parent.0 (sym e))
    c.spare_in_place-next.ensures.found.loads) (k.parent.1 _ c.loop.invariant.opened)).reading

pub reread-requires-then-next-growth-clause-counted : goal.reread-requires-then-next-growth-clause-counted
reread-requires-then-next-growth-clause-counted g c =
    let k = c.in-Ok-step.ensures in
    let i = c.loop.invariant in
    let has = (k.passed.1 _ i.counted.0 i.opened i.counted.1
    (spare-room g.K.Kind.layout g.K.Kind.spare i.counted.0 c.loop.left i.counted.2 i.room)).0 in
    let beside = beside-loads c.loop.stand.guard.pid _ _ _ _ (view c.step.new.pass)
    (view c.spare_in_place-next.new.pass) (λ e. k.parent.0 (sym e)) c.spare_in_place-next.ensures.found.loads in (
      i.counted.0 ++ k.passed.0,
      (has.0, beside.same.loads ∙ has.1),
      spare-more g.K.Kind.layout g.K.Kind.spare
          i.counted.0 k.passed.0 c.loop.left i.counted.2,
    )

pub reread-requires-then-next-growth-2-clause-reading : goal.reread-requires-then-next-growth-2-clause-reading
reread-requires-then-next-growth-2-clause-reading g c =
    let k = c.in-Ok-step.ensures in
    (opened-beside _ _ _ _ _ _ (reread-beside _ _ _ _ _ _ c.in_default-reread.ensures.ok c.in-Ok-step.below.guard.pid
    k.parent.0) (opened-loads _ _ _ _ _ _ _ k.reads.1 c.spare_in_place-next.ensures.found.loads)).reading

pub reread-requires-then-next-growth-2-clause-counted : goal.reread-requires-then-next-growth-2-clause-counted
reread-requires-then-next-growth-2-clause-counted g c =
    let f = c.spare_in_place-next.ensures.found in
    let beside = reread-beside _ _ _ _ (view c.spare_in_place-next.new.pass) (view c.reread-then-next-growth.new.pass)
    c.in_default-reread.ensures.ok c.in-Ok-step.below.guard.pid c.in-Ok-step.ensures.parent.0 in
    (f.loaded, (_, beside.same.loads ∙ f.loads.loads), f.tells)

pub returns-in-Err-reread-2-clause-err : goal.returns-in-Err-reread-2-clause-err
returns-in-Err-reread-2-clause-err g c =
    let k = c.in-Ok-step.ensures in
    let i = c.loop.invariant in
    c.in-Err-reread-2.ensures.err _ (g.K.Kind.rank c.args.key.now) _ _ _
    (opened-beside _ _ _ _ _ _
    (beside-loads c.loop.stand.guard.pid _ _ _ _ _ _ (λ e. k.parent.0 (sym e))
    c.spare_in_place-next.ensures.found.loads) (k.parent.1 _ i.opened))
    (way-later _ _ _ _ _ _ _ _
    (reads-then _ _ _ k.reads.0 (loads-reads _ _ _ _ _ _ c.spare_in_place-next.ensures.found.loads)) i.reached)

pub returns-in-Err-reread-2-clause-sure : goal.returns-in-Err-reread-2-clause-sure
returns-in-Err-reread-2-clause-sure g c tells r =
    let loads = c.spare_in_place-next.ensures.found.loads in
    c.in-Err-reread-2.ensures.sure tells
    (known-same _ _ _ _ (loads-reads _ _ _ _ _ _ loads).0 loads.table
    (c.in-Ok-step.ensures.known _ tells (c.loop.invariant.known tells r)).1)

pub returns-in-Err-reread-2-clause-few : goal.returns-in-Err-reread-2-clause-few
returns-in-Err-reread-2-clause-few g c =
    let first = counted-next g.K.Kind.bounds.child g.K.Kind.bounds.spare c.loop.counter c.in-Ok.top.stand.level _ _ _
    _ c.loop.invariant.words c.in-Ok-step.ensures.few
    (place-within _ _ _ _ _ _ _ _ c.spare_in_place-next.ensures.found (none-words _)) in
    height-within (λ h. 2 + (g.K.Kind.bounds.child + g.K.Kind.bounds.spare) * (h + 1) + 2 * g.K.Kind.layout.words)
    (2 + (g.K.Kind.bounds.child + g.K.Kind.bounds.spare) * (c.in-Ok.top.stand.level + 1) + g.K.Kind.layout.words)
    c.in-Ok.top.stand.level _ _
    (height-more (so-far g.K.Kind.bounds.child g.K.Kind.bounds.spare c.loop.counter + g.K.Kind.bounds.child
    + g.K.Kind.bounds.spare) g.K.Kind.layout.words
    (2 + (g.K.Kind.bounds.child + g.K.Kind.bounds.spare) * (c.in-Ok.top.stand.level + 1) + g.K.Kind.layout.words)
    _ _ _ _ first (all-of g.K.Kind.layout.words (g.K.Pages.words_of c.reread-then-next-growth.new.into) _ _
    c.in-Err-reread-2.ensures.size c.in-Err-reread-2.ensures.words)
    (next-most g.K.Kind.bounds.child g.K.Kind.bounds.spare g.K.Kind.layout.words c.loop.counter
    c.in-Ok.top.stand.level c.loop-test.true))
    (root-below g.K.Kind.bounds.child g.K.Kind.bounds.spare g.K.Kind.layout.words c.in-Ok.top.stand.level)

pub returns-in-Err-reread-3-clause-err : goal.returns-in-Err-reread-3-clause-err
returns-in-Err-reread-3-clause-err g c =
    let k = c.in-Ok-step.ensures in
    let i = c.loop.invariant in
    let reread = c.in_default-reread.ensures.ok in
    c.in-Err-reread-3.ensures.err _ (g.K.Kind.rank c.args.key.now) _ _ _
    (opened-beside _ _ _ _ _ _ (reread-beside _ _ _ _ _ _ reread c.in-Ok-step.below.guard.pid k.parent.0)
    (opened-loads _ _ _ _ _ _ _ (opened-earlier _ _ _ _ _ _ i.reads k.reads.1) c.spare_in_place-next.ensures.found.loads))
    (way-later _ _ _ _ _ _ _ _
    (reads-then _ _ _ (loads-reads _ _ _ _ _ _ c.spare_in_place-next.ensures.found.loads) (reread-reads _ _ _ _ _ _ reread))
    (k.way _ i.opened i.reached))

pub returns-in-Err-reread-3-clause-sure : goal.returns-in-Err-reread-3-clause-sure
returns-in-Err-reread-3-clause-sure g c tells r =
    let loads = c.spare_in_place-next.ensures.found.loads in
    c.in-Err-reread-3.ensures.sure tells
    (reread-known _ _ _ _ _ _ c.in_default-reread.ensures.ok _ _
    (known-same _ _ _ _ (loads-reads _ _ _ _ _ _ loads).0 loads.table
    (c.in-Ok-step.ensures.known _ tells (c.loop.invariant.known tells r)).0))

pub returns-in-Err-reread-3-clause-few : goal.returns-in-Err-reread-3-clause-few
returns-in-Err-reread-3-clause-few g c =
    let first = counted-next g.K.Kind.bounds.child g.K.Kind.bounds.spare c.loop.counter c.in-Ok.top.stand.level _ _ _
    _ c.loop.invariant.words c.in-Ok-step.ensures.few
    (place-within _ _ _ _ _ _ _ _ c.spare_in_place-next.ensures.found (none-words _)) in
    let over = height-more (so-far g.K.Kind.bounds.child g.K.Kind.bounds.spare c.loop.counter + g.K.Kind.bounds.child
    + g.K.Kind.bounds.spare) g.K.Kind.layout.words
    (2 + (g.K.Kind.bounds.child + g.K.Kind.bounds.spare) * (c.in-Ok.top.stand.level + 1) + g.K.Kind.layout.words)
    _ _ _ _ first (all-of g.K.Kind.layout.words (g.K.Pages.words_of c.reread-then-next-growth.new.into) _ _
    c.in_default-reread.ensures.size c.in_default-reread.ensures.words)
    (next-most g.K.Kind.bounds.child g.K.Kind.bounds.spare g.K.Kind.layout.words c.loop.counter
    c.in-Ok.top.stand.level c.loop-test.true) in
    height-within (λ h. 2 + (g.K.Kind.bounds.child + g.K.Kind.bounds.spare) * (h + 1) + 2 * g.K.Kind.layout.words)
    (2 + (g.K.Kind.bounds.child + g.K.Kind.bounds.spare) * (c.in-Ok.top.stand.level + 1) + 2
    * g.K.Kind.layout.words) c.in-Ok.top.stand.level _ _
    (height-more (2 + (g.K.Kind.bounds.child + g.K.Kind.bounds.spare) * (c.in-Ok.top.stand.level + 1)
    + g.K.Kind.layout.words) g.K.Kind.layout.words
    (2 + (g.K.Kind.bounds.child + g.K.Kind.bounds.spare) * (c.in-Ok.top.stand.level + 1) + 2
    * g.K.Kind.layout.words) _ _ _ _ over
    (all-of g.K.Kind.layout.words (g.K.Pages.words_of c.reread-then-next-growth-2.new.into) _ _
    c.in-Err-reread-3.ensures.size c.in-Err-reread-3.ensures.words)
    (below-most g.K.Kind.bounds.child g.K.Kind.bounds.spare g.K.Kind.layout.words c.in-Ok.top.stand.level))
    (omega arith)

pub returns-then-next-growth-clause-reads : goal.returns-then-next-growth-clause-reads
returns-then-next-growth-clause-reads g c =
    reads-then _ _ _ c.loop.invariant.reads
    (reads-then _ _ _ c.in-Ok-step.ensures.reads.0
    (reads-then _ _ _ (loads-reads _ _ _ _ _ _ c.spare_in_place-next.ensures.found.loads)
    (reads-then _ _ _ (reread-reads _ _ _ _ _ _ c.in_default-reread.ensures.ok)
    (reread-reads _ _ _ _ _ _ c.in_default-reread-2.ensures.ok))))

pub returns-then-next-growth-clause-met : goal.returns-then-next-growth-clause-met
returns-then-next-growth-clause-met g c =
    let k = c.in-Ok-step.ensures in
    let i = c.loop.invariant in
    let f = c.spare_in_place-next.ensures.found in
    let passed = k.passed.1 _ i.counted.0 i.opened i.counted.1
    (spare-room g.K.Kind.layout g.K.Kind.spare i.counted.0 c.loop.left i.counted.2 i.room) in
    full-below g.K.Kind.spare (g.K.Kind.rank c.args.key.now) c.loop.stand.guard c.in-Ok-step.below.guard
    (c.in-Ok.top.stand.level - (c.loop.counter + 1)) (g.K.Pages.words_of c.reread-then-next-growth.new.into)
    (g.K.Pages.words_of c.reread-then-next-growth-2.new.into) (i.counted.0 ++ k.passed.0) f.loaded
    (view c.args.pass.now) (view c.step.new.pass) (view c.spare_in_place-next.new.pass)
    (view c.reread-then-next-growth.new.pass) (view c.reread-then-next-growth-2.new.pass)
    k.parent.0 f.loads c.in_default-reread.ensures.ok c.in_default-reread-2.ensures.ok i.way.0
    c.in_default-reread.ensures.size
    (tree-size _ _ _ c.reread-then-next-growth.ensures.goes.ready.table.is_shape.size c.args.words.now.sized.0
    c.args.words.now.size.takes) (k.parent.1 _ i.opened) (opened-earlier _ _ _ _ _ _ i.reads k.reads.1) passed.0
    (awaits-later _ _ _ _ _ _ k.reads.0.0
    (subst (λ n. Awaits g.K.Kind.layout (view c.loop.pass) c.loop.stand.guard.pid c.loop.stand.guard.word n
    (g.K.Kind.rank c.args.key.now)) (i.level ∙ one-less c.in-Ok.top.stand.level c.loop.counter c.loop-test.true)
    (stand-awaits g.K.Kind.rank (g.K.Kind.rank c.args.key.now) c.loop.stand _ i.stands)))
    (subst (λ n. Awaits g.K.Kind.layout (view c.step.new.pass) c.in-Ok-step.below.guard.pid
    c.in-Ok-step.below.guard.word n (g.K.Kind.rank c.args.key.now))
    (level-on c.in-Ok.top.stand.level c.loop.counter c.loop.stand.level _ i.level k.level c.loop-test.true)
    (stand-awaits g.K.Kind.rank (g.K.Kind.rank c.args.key.now) c.in-Ok-step.below _ k.stands)) (
      passed.1,
      passed-later g.K.Kind.layout g.K.Kind.spare (view c.args.pass.now) (g.K.Kind.rank c.args.key.now)
          i.way.0 c.loop.stand.guard.pid (view c.loop.pass) (view c.step.new.pass) k.reads.0 i.way.1,
    )
    (room-is _ _ _ c.in_default-reread.ensures.left i.room)
    (full-is _ _ _ _ c.in_default-reread-2.ensures.left c.growth-growth.ensures c.if-next-growth.true)

pub returns-then-next-growth-clause-known : goal.returns-then-next-growth-clause-known
returns-then-next-growth-clause-known g c tells r =
    let k = c.in-Ok-step.ensures.known _ tells (c.loop.invariant.known tells r) in
    let loads = c.spare_in_place-next.ensures.found.loads in
    let reads = (loads-reads _ _ _ _ _ _ loads).0 in (
      reread-known _ _ _ _ _ _ c.in_default-reread-2.ensures.ok _ _
          (reread-known _ _ _ _ _ _ c.in_default-reread.ensures.ok _ _ (known-same _ _ _ _ reads loads.table k.1)),
      reread-known _ _ _ _ _ _ c.in_default-reread-2.ensures.ok _ _
          (reread-known _ _ _ _ _ _ c.in_default-reread.ensures.ok _ _ (known-same _ _ _ _ reads loads.table k.0)),
    )

pub returns-then-next-growth-clause-locks : goal.returns-then-next-growth-clause-locks
returns-then-next-growth-clause-locks g c =
    let loads = c.spare_in_place-next.ensures.found.loads in
    reread-locks _ _ _ _ _ _ c.in_default-reread-2.ensures.ok
    (reread-locks _ _ _ _ _ _ c.in_default-reread.ensures.ok
    (locks-same _ _ (loads-reads _ _ _ _ _ _ loads).0 loads.table c.in-Ok-step.ensures.locks))

pub returns-then-next-growth-clause-height : goal.returns-then-next-growth-clause-height
returns-then-next-growth-clause-height g c =
    let first = counted-next g.K.Kind.bounds.child g.K.Kind.bounds.spare c.loop.counter c.in-Ok.top.stand.level _ _ _
    _ c.loop.invariant.words c.in-Ok-step.ensures.few
    (place-within _ _ _ _ _ _ _ _ c.spare_in_place-next.ensures.found (none-words _)) in
    let over = height-more (so-far g.K.Kind.bounds.child g.K.Kind.bounds.spare c.loop.counter + g.K.Kind.bounds.child
    + g.K.Kind.bounds.spare) g.K.Kind.layout.words
    (2 + (g.K.Kind.bounds.child + g.K.Kind.bounds.spare) * (c.in-Ok.top.stand.level + 1) + g.K.Kind.layout.words)
    _ _ _ _ first (all-of g.K.Kind.layout.words (g.K.Pages.words_of c.reread-then-next-growth.new.into) _ _
    c.in_default-reread.ensures.size c.in_default-reread.ensures.words)
    (next-most g.K.Kind.bounds.child g.K.Kind.bounds.spare g.K.Kind.layout.words c.loop.counter
    c.in-Ok.top.stand.level c.loop-test.true) in (
      c.in-Ok.top.stand.level,
      height-more (2 + (g.K.Kind.bounds.child + g.K.Kind.bounds.spare) * (c.in-Ok.top.stand.level + 1)
          + g.K.Kind.layout.words) g.K.Kind.layout.words
          (2 + (g.K.Kind.bounds.child + g.K.Kind.bounds.spare) * (c.in-Ok.top.stand.level + 1) + 2
          * g.K.Kind.layout.words) _ _ _ _ over
          (all-of g.K.Kind.layout.words (g.K.Pages.words_of c.reread-then-next-growth-2.new.into) _ _
          c.in_default-reread-2.ensures.size c.in_default-reread-2.ensures.words)
          (below-most g.K.Kind.bounds.child g.K.Kind.bounds.spare g.K.Kind.layout.words c.in-Ok.top.stand.level),
    )

pub returns-then-next-growth-clause-few : goal.returns-then-next-growth-clause-few
returns-then-next-growth-clause-few g c = let h = returns-then-next-growth-clause-height g c in
    height-within (λ h. 2 + (g.K.Kind.bounds.child + g.K.Kind.bounds.spare) * (h + 1) + 2 * g.K.Kind.layout.words)
    (2 + (g.K.Kind.bounds.child + g.K.Kind.bounds.spare) * (h.0 + 1) + 2 * g.K.Kind.layout.words) h.0 _ _ h.1
    (omega arith)

-- ---- none is

pub returns-clause-reads : goal.returns-clause-reads
returns-clause-reads g c = c.loop.invariant.reads

pub returns-clause-met : goal.returns-clause-met
returns-clause-met g c =
    let i = c.loop.invariant in (
      i.counted.0,
      record {
        opened = i.opened;
        read = i.counted.1;
        awaits = subst (λ n. Awaits g.K.Kind.layout (view c.loop.pass) c.loop.stand.guard.pid c.loop.stand.guard.word
            n (g.K.Kind.rank c.args.key.now))
            (i.level ∙ none-left c.in-Ok.top.stand.level c.loop.counter c.loop-test.false)
            (stand-awaits g.K.Kind.rank (g.K.Kind.rank c.args.key.now) c.loop.stand _ i.stands);
        room = spare-room g.K.Kind.layout g.K.Kind.spare i.counted.0 c.loop.left i.counted.2 i.room;
        way = i.way.0;
        passed = i.way.1;
      },
    )

pub returns-clause-known : goal.returns-clause-known
returns-clause-known g c tells r = c.loop.invariant.known tells r

pub returns-clause-locks : goal.returns-clause-locks
returns-clause-locks g c = c.loop.invariant.locks

pub returns-clause-height : goal.returns-clause-height
returns-clause-height g c = (
  c.in-Ok.top.stand.level,
  height-wider _ _ _ _ _ c.loop.invariant.words
      (roomy-most g.K.Kind.bounds.child g.K.Kind.bounds.spare c.loop.counter c.in-Ok.top.stand.level
      c.loop.invariant.left),
)

pub returns-clause-few : goal.returns-clause-few
returns-clause-few g c = let h = returns-clause-height g c in
    height-within (λ h. 2 + (g.K.Kind.bounds.child + g.K.Kind.bounds.spare) * (h + 1) + 2 * g.K.Kind.layout.words)
    (2 + (g.K.Kind.bounds.child + g.K.Kind.bounds.spare) * (h.0 + 1)) h.0 _ _ h.1
    (roomy-all g.K.Kind.bounds.child g.K.Kind.bounds.spare g.K.Kind.layout.words h.0)
