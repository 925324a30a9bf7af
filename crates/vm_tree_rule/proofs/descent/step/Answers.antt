use Rattle.std.proofs.Common.{◌+◌, ◌-◌, ◌<◌, ◌∙◌, ◌≡◌, ◌≤◌, ap, arith, inr, List, MatchOption, None, Option, option_map}
use Rattle.std.proofs.Common.{Some, subst, suc, sym, unwrap_or, ℕ}
use Rattle.vm_tree_model.specs.Layout.{Layout}
use Rattle.vm_rule.specs.Prelude.{last_of}
use Rattle.vm_step.specs.Prelude.{Origin, View, view}
use Rattle.vm_tree_rule.specs.{declared.descent.Stand.Stand, Seeks.TellChild, Seeks.TellNoChild, Ways.IsOnWay}
use Rattle.vm_tree_rule.specs.Standing.{Awaits, AwaitsNode, fence_of, IsStand}
use Rattle.vm_tree_rule.proofs.descent.step.Goals as goal
use Rattle.vm_tree_rule.proofs.{Counting.place-within, Downward.awaits-later, Downward.node-later, Downward.stand-awaits}
use Rattle.vm_tree_rule.proofs.Entering.{damaged-turn, opened-reads, refused-turn, turned, untold}
use Rattle.vm_tree_rule.proofs.OnWay.{no-child-no-node, no-child-why, no-node-why, tells-page, way-below}
use Rattle.vm_tree_rule.proofs.Onward.{goes-nowhere, goes-on, goes-to}
use Rattle.vm_tree_rule.proofs.Readings.{leaves-self, leaves-then, loads-reads, opened-earlier, opened-later}
use Rattle.vm_tree_rule.proofs.Readings.{opened-loads, reads-self, reads-then}
use Rattle.vm_tree_rule.proofs.Seeking.{beside-loads, passes-by}
use Rattle.vm_tree_rule.proofs.Surely.{known-at, known-same}
use Rattle.vm_tree_rule.proofs.Whole.{tree-size}

inner-level : (n : ℕ) → 1 ≤ n → n ≡ suc (n - 1)
inner-level n some = omega (arith, some)

level-up : (n : ℕ) → 1 ≤ n → n - 1 + 1 ≡ n
level-up n some = omega (arith, some)

at-level : (L : Layout) (loaded : List (ℕ × ℕ)) (key level : ℕ) → 1 ≤ level → TellNoChild L loaded level key
    → TellNoChild L loaded (suc (level - 1)) key
at-level L loaded key level some tells = subst (λ n. TellNoChild L loaded n key) (inner-level level some) tells

module _ {X T : Type 0} (L : Layout) (rank : T → ℕ) where
  above : (key : ℕ) (s : Stand T) (v : View X) → 1 ≤ s.level → IsStand L rank key s v
      → Awaits L v s.guard.pid s.guard.word (suc (s.level - 1)) key
  above key s v some k = subst (λ n. Awaits L v s.guard.pid s.guard.word n key) (inner-level s.level some) (stand-awaits rank key s v k)

  node : (key : ℕ) (s : Stand T) (v : View X) → 1 ≤ s.level → IsStand L rank key s v
      → AwaitsNode L v s.guard.pid s.guard.word (suc (s.level - 1)) (rank s.low) (fence_of L rank s.high)
  node key s v some k = subst (λ n. AwaitsNode L v s.guard.pid s.guard.word n (rank s.low) (fence_of L rank s.high))
      (inner-level s.level some) k.awaits

-- what is told of the keys on both sides is told of their numbers
sides-next : {T : Type 0} (rank : T → ℕ) (key : ℕ) (next : Option T) → MatchOption next (Unit {0}) (λ k. key < rank k)
    → MatchOption (option_map rank next) (Unit {0}) (λ k. key < k)
sides-next rank key None tt = tt
sides-next rank key (Some k) less = less

-- the key is below the next one, or below the node's fence
below-next : (key high : ℕ) (next : Option ℕ) → MatchOption next (Unit {0}) (λ k. key < k) → key < high → key < unwrap_or next high
below-next key high None tt below = below
below-next key high (Some k) less below = less

pub enter-requires-clause-reading : goal.enter-requires-clause-reading
enter-requires-clause-reading g c = c.in-Some.ensures.found.loads.reads

pub enter-requires-clause-names : goal.enter-requires-clause-names
enter-requires-clause-names g c =
    let f = c.in-Some.ensures.found in
    let s = c.args.stand.now in
    let k = c.requires.stands in (
      s.level - 1,
      (g.K.Kind.rank c.in-Some.child.low),
      unwrap_or (option_map g.K.Kind.rank c.in-Some.child.next) (fence_of g.K.Kind.layout g.K.Kind.rank s.high),
      goes-on _ _ _ (s.level - 1) (g.K.Kind.rank c.args.key.now) f.loaded _ f.loads.reads (_, f.loads.loads)
          (g.K.Kind.rank s.low) (fence_of g.K.Kind.layout g.K.Kind.rank s.high)
          (node-later _ _ _ _ _ _ _ (loads-reads _ _ _ _ _ _ f.loads).0
          (node g.K.Kind.layout g.K.Kind.rank (g.K.Kind.rank c.args.key.now) s _ c.requires.inner k)) k.from
          k.below c.in-Some.child.page (g.K.Kind.rank c.in-Some.child.low)
          (option_map g.K.Kind.rank c.in-Some.child.next) f.tells.0,
    )

pub returns-in-Ok-clause-reads : goal.returns-in-Ok-clause-reads
returns-in-Ok-clause-reads g c =
    let reads = loads-reads _ _ _ _ _ _ c.in-Some.ensures.found.loads in
    let s = c.in-Ok.ensures.ok.1 in
    (reads-then _ _ _ reads s.reads, opened-earlier _ _ _ _ _ _ reads s.opened)

pub returns-in-Ok-clause-level : goal.returns-in-Ok-clause-level
returns-in-Ok-clause-level g c = let some = c.requires.inner in omega (arith, some)

pub returns-in-Ok-clause-stands : goal.returns-in-Ok-clause-stands
returns-in-Ok-clause-stands g c =
    let s = c.args.stand.now in
    let child = c.in-Some.child in
    let sides = c.in-Some.ensures.sides in
    let f = c.in-Some.ensures.found in
    let k = c.requires.stands in
    record {
      awaits = subst (λ b. AwaitsNode g.K.Kind.layout (view c.enter.new.pass) c.in-Ok.guard.pid c.in-Ok.guard.word
          (s.level - 1) (g.K.Kind.rank child.low) b) (sym c.high_fence.ensures)
          (c.in-Ok.ensures.awaits (s.level - 1) (g.K.Kind.rank child.low)
          (unwrap_or (option_map g.K.Kind.rank child.next) (fence_of g.K.Kind.layout g.K.Kind.rank s.high))
          (goes-on _ _ _ (s.level - 1) (g.K.Kind.rank c.args.key.now) f.loaded _ f.loads.reads (_, f.loads.loads)
          (g.K.Kind.rank s.low) (fence_of g.K.Kind.layout g.K.Kind.rank s.high)
          (node-later _ _ _ _ _ _ _ (loads-reads _ _ _ _ _ _ f.loads).0
          (node g.K.Kind.layout g.K.Kind.rank (g.K.Kind.rank c.args.key.now) s _ c.requires.inner k)) k.from
          k.below child.page (g.K.Kind.rank child.low) (option_map g.K.Kind.rank child.next) f.tells.0));
      from = sides.0;
      below = subst (λ b. (g.K.Kind.rank c.args.key.now) < b) (sym c.high_fence.ensures)
          (below-next (g.K.Kind.rank c.args.key.now) (fence_of g.K.Kind.layout g.K.Kind.rank s.high)
          (option_map g.K.Kind.rank child.next)
          (sides-next g.K.Kind.rank (g.K.Kind.rank c.args.key.now) child.next sides.1) c.requires.stands.below);
    }

pub returns-in-Ok-clause-parent : goal.returns-in-Ok-clause-parent
returns-in-Ok-clause-parent g c =
    let f = c.in-Some.ensures.found in
    let k = c.in-Ok.ensures.parent in
    (k.apart, λ v o. opened-later _ _ _ v _ _ (opened-loads _ _ _ _ v _ _ o f.loads) c.in-Ok.ensures.ok.1.reads k.same k.reading)

pub returns-in-Ok-clause-passed : goal.returns-in-Ok-clause-passed
returns-in-Ok-clause-passed g c =
    let f = c.in-Some.ensures.found in
    passes-by g.K.Kind.spare _ _ _ (c.args.stand.now.level - 1) _ f.loaded _ _ _ f.loads
    (above g.K.Kind.layout g.K.Kind.rank (g.K.Kind.rank c.args.key.now) c.args.stand.now _ c.requires.inner
    c.requires.stands) c.in-Some.child.page
    (tells-page g.K.Kind.layout f.loaded (g.K.Kind.rank c.args.key.now) c.in-Some.child.page
    (g.K.Kind.rank c.in-Some.child.low) (option_map g.K.Kind.rank c.in-Some.child.next) f.tells.0) _ _ _
    c.in-Ok.ensures.ok.0 (tree-size _ _ _ c.enter.ensures.goes.ready.table.is_shape.size c.args.words.now.sized.0
    c.args.words.now.size.takes) c.in-Ok.ensures.ok.1

pub returns-in-Ok-clause-known : goal.returns-in-Ok-clause-known
returns-in-Ok-clause-known g c shares tells known =
    let loads = c.in-Some.ensures.found.loads in
    c.in-Ok.ensures.known shares tells (known-same _ _ _ _ (loads-reads _ _ _ _ _ _ loads).0 loads.table known)

pub returns-in-Ok-clause-locks : goal.returns-in-Ok-clause-locks
returns-in-Ok-clause-locks g c = c.in-Ok.ensures.locks

pub returns-in-Ok-clause-few : goal.returns-in-Ok-clause-few
returns-in-Ok-clause-few g c = place-within _ _ _ _ _ _ _ _ c.in-Some.ensures.found c.in-Ok.ensures.words

pub returns-in-Err-clause-err : goal.returns-in-Err-clause-err
returns-in-Err-clause-err g c u o way =
    let f = c.in-Some.ensures.found in
    let s = c.args.stand.now in
    let child = c.in-Some.child in
    let page = tells-page g.K.Kind.layout f.loaded (g.K.Kind.rank c.args.key.now) c.in-Some.child.page
    (g.K.Kind.rank c.in-Some.child.low) (option_map g.K.Kind.rank c.in-Some.child.next) f.tells.0 in
    turned _ _ _ _ _ c.in-Err.turn u _ _ (opened-loads _ _ _ _ _ _ _ o f.loads)
    (goes-to _ _ _ (c.args.stand.now.level - 1) _ f.loaded _ f.loads.reads (_, f.loads.loads)
    (awaits-later _ _ _ _ _ _ (loads-reads _ _ _ _ _ _ f.loads).0
    (above g.K.Kind.layout g.K.Kind.rank (g.K.Kind.rank c.args.key.now) c.args.stand.now _ c.requires.inner
    c.requires.stands)) c.in-Some.child.page page)
    (inr (f.loaded, (_, f.loads.loads), page))
    (tree-size _ _ _ c.enter.ensures.goes.ready.table.is_shape.size c.args.words.now.sized.0
    c.args.words.now.size.takes)
    (λ valid. no-child-why _ _ _ s.level (g.K.Kind.rank s.low) (fence_of g.K.Kind.layout g.K.Kind.rank s.high)
    (g.K.Kind.rank c.args.key.now) f.loaded u _ _ _ o way f.loads valid child.page (s.level - 1)
    (g.K.Kind.rank child.low) (option_map g.K.Kind.rank child.next) (level-up s.level c.requires.inner) f.tells.0 f.tells.1)
    c.in-Err.ensures.err

pub returns-in-Err-clause-sure : goal.returns-in-Err-clause-sure
returns-in-Err-clause-sure g c shares tells known =
    let loads = c.in-Some.ensures.found.loads in
    c.in-Err.ensures.sure shares tells (known-same _ _ _ _ (loads-reads _ _ _ _ _ _ loads).0 loads.table known)

pub returns-in-Err-clause-few : goal.returns-in-Err-clause-few
returns-in-Err-clause-few g c = place-within _ _ _ _ _ _ _ _ c.in-Some.ensures.found c.in-Err.ensures.words

pub returns-in-Ok-validate_silently-clause-err : goal.returns-in-Ok-validate_silently-clause-err
returns-in-Ok-validate_silently-clause-err g c u o way =
    let f = c.in-None.ensures.found in
    let valid = c.in-Ok-validate_silently.ensures.ok in
    let opened = opened-loads _ _ _ _ u _ _ o f.loads in
    let start = (opened-reads _ _ _ u _ opened).0.start in
    let s = c.args.stand.now in
    damaged-turn _ _ _ (g.K.Kind.rank c.args.key.now) u _ _ opened
    (untold _ (λ tells.
    let told = ap (λ (y : Origin). y.tells) start ∙ tells in
    goes-nowhere _ _ _ (c.args.stand.now.level - 1) _ f.loaded _ f.loads.reads (_, f.loads.loads)
    (awaits-later _ _ _ _ _ _ (loads-reads _ _ _ _ _ _ f.loads).0
    (above g.K.Kind.layout g.K.Kind.rank (g.K.Kind.rank c.args.key.now) c.args.stand.now _ c.requires.inner
    c.requires.stands)) (at-level g.K.Kind.layout f.loaded (g.K.Kind.rank c.args.key.now) c.args.stand.now.level c.requires.inner f.tells) told
    (last_of (view c.validate_silently.new.pass) c.args.stand.now.guard.pid).words
    (valid.size ∙ tree-size _ _ _ c.validate_silently.ensures.goes.ready.table.is_shape.size
    c.args.words.now.sized.0 c.args.words.now.size.takes) (valid.validates told)))
    valid
    (no-node-why _ _ _ s.level (g.K.Kind.rank s.low) (fence_of g.K.Kind.layout g.K.Kind.rank s.high)
    (g.K.Kind.rank c.args.key.now) f.loaded u _ _ _ o way f.loads valid
    (no-child-no-node g.K.Kind.layout f.loaded s.level (g.K.Kind.rank s.low) (fence_of g.K.Kind.layout g.K.Kind.rank s.high)
    (g.K.Kind.rank c.args.key.now) c.requires.inner c.requires.stands.from f.tells))

pub returns-in-Ok-validate_silently-clause-sure : goal.returns-in-Ok-validate_silently-clause-sure
returns-in-Ok-validate_silently-clause-sure g c shares tells known =
    let f = c.in-None.ensures.found in
    let valid = c.in-Ok-validate_silently.ensures.ok in
    let told = c.in-None.ensures.goes.ready.table.tells_is ∙ tells in
    absurd
    (goes-nowhere _ _ _ (c.args.stand.now.level - 1) _ f.loaded _ f.loads.reads (_, f.loads.loads)
    (awaits-later _ _ _ _ _ _ (loads-reads _ _ _ _ _ _ f.loads).0
    (above g.K.Kind.layout g.K.Kind.rank (g.K.Kind.rank c.args.key.now) c.args.stand.now _ c.requires.inner
    c.requires.stands)) (at-level g.K.Kind.layout f.loaded (g.K.Kind.rank c.args.key.now) c.args.stand.now.level c.requires.inner f.tells) told
    (last_of (view c.validate_silently.new.pass) c.args.stand.now.guard.pid).words
    (valid.size ∙ tree-size _ _ _ c.validate_silently.ensures.goes.ready.table.is_shape.size
    c.args.words.now.sized.0 c.args.words.now.size.takes) (valid.validates told))

pub returns-in-Ok-validate_silently-clause-few : goal.returns-in-Ok-validate_silently-clause-few
returns-in-Ok-validate_silently-clause-few g c =
    place-within _ _ _ _ _ _ _ _ c.in-None.ensures.found c.in-Ok-validate_silently.ensures.words

pub returns-in-Err-validate_silently-clause-err : goal.returns-in-Err-validate_silently-clause-err
returns-in-Err-validate_silently-clause-err g c u o way =
    let loads = c.in-None.ensures.found.loads in refused-turn _ _ _ g.K.Kind.layout (g.K.Kind.rank c.args.key.now) _ u
    _ _ _ (opened-loads _ _ _ _ _ _ _ o loads) (reads-self _) (leaves-self _ _)
    c.in-Err-validate_silently.ensures.err

pub returns-in-Err-validate_silently-clause-sure : goal.returns-in-Err-validate_silently-clause-sure
returns-in-Err-validate_silently-clause-sure g c shares tells known =
    let loads = c.in-None.ensures.found.loads in
    let k = known-same _ _ _ _ (loads-reads _ _ _ _ _ _ loads).0 loads.table known in
    c.in-Err-validate_silently.ensures.sure k.resident.alone (known-at _ _ _ k)

pub returns-in-Err-validate_silently-clause-few : goal.returns-in-Err-validate_silently-clause-few
returns-in-Err-validate_silently-clause-few g c =
    place-within _ _ _ _ _ _ _ _ c.in-None.ensures.found c.in-Err-validate_silently.ensures.words

pub returns-in-Ok-clause-named : goal.returns-in-Ok-clause-named
returns-in-Ok-clause-named g c =
    let f = c.in-Some.ensures.found in
    let page = tells-page g.K.Kind.layout f.loaded (g.K.Kind.rank c.args.key.now) c.in-Some.child.page
    (g.K.Kind.rank c.in-Some.child.low) (option_map g.K.Kind.rank c.in-Some.child.next) f.tells.0 in (
      f.loaded,
      (_, c.in-Ok.ensures.parent.loads ∙ f.loads.loads),
      subst (TellChild g.K.Kind.layout f.loaded (g.K.Kind.rank c.args.key.now)) (sym c.in-Ok.ensures.ok.0) page,
    )

pub returns-in-Ok-clause-others : goal.returns-in-Ok-clause-others
returns-in-Ok-clause-others g c q below here =
    let loads = c.in-Some.ensures.found.loads in
    let first = beside-loads q _ _ _ _ _ _ here loads in
    let then = c.in-Ok.ensures.others q below in (
      record {
        reading = then.0.reading ∙ first.same.reading;
        loads = then.0.loads ∙ first.same.loads;
      },
      leaves-then q _ _ _ first.leaves then.1,
    )

pub returns-in-Ok-clause-beside : goal.returns-in-Ok-clause-beside
returns-in-Ok-clause-beside g c shares tells known q x ne read =
    let loads = c.in-Some.ensures.found.loads in
    let reads = (loads-reads _ _ _ _ _ _ loads).0 in
    c.in-Ok.ensures.beside shares tells (known-same _ _ _ _ reads loads.table known) q x ne (known-same q x _ _ reads loads.table read)

pub returns-in-Ok-clause-way : goal.returns-in-Ok-clause-way
returns-in-Ok-clause-way g c u o way =
    let f = c.in-Some.ensures.found in
    let s = c.args.stand.now in
    let child = c.in-Some.child in
    subst (λ high. IsOnWay g.K.Kind.layout u (g.K.Kind.rank c.args.key.now) c.in-Ok.guard.pid (s.level - 1)
    (g.K.Kind.rank child.low) high (view c.enter.new.pass)) (sym c.high_fence.ensures)
    (way-below _ _ _ s.level (g.K.Kind.rank s.low) (fence_of g.K.Kind.layout g.K.Kind.rank s.high)
    (g.K.Kind.rank c.args.key.now) f.loaded u _ _ _ o way f.loads child.page (s.level - 1) (g.K.Kind.rank child.low)
    (option_map g.K.Kind.rank child.next) (level-up s.level c.requires.inner) f.tells.0 _ _ _ c.in-Ok.ensures.ok.0
    c.in-Ok.ensures.ok.1)
