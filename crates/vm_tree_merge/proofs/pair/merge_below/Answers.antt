use Rattle.std.proofs.Common.{[], ◌∷◌, rules, subst}
use Rattle.vm_tree_join.specs.from_vm_step.Prelude.{view}
use Rattle.vm_tree_join.specs.from_vm_tree_split.Prepares.{IsLockDenied, SaysWorn}
use Rattle.vm_tree_merge.proofs.Pairing.{denied-again, knows-three, pair-before, pair-behind}
use Rattle.vm_tree_merge.proofs.pair.merge_below.Goals as goal

pub join_below-requires-clause-apart : goal.join_below-requires-clause-apart
join_below-requires-clause-apart g c =
    (pair-behind c.requires.leaf.2 c.requires.leaf.3 c.requires.leaf.4 c.joined-both.ensures c.if-choice.true).apart

pub join_below-requires-clause-sizes : goal.join_below-requires-clause-sizes
join_below-requires-clause-sizes g c =
    (c.requires.sizes.0, c.requires.sizes.1, c.requires.sizes.2)

pub join_below-requires-clause-above : goal.join_below-requires-clause-above
join_below-requires-clause-above g c =
    (pair-behind c.requires.leaf.2 c.requires.leaf.3 c.requires.leaf.4 c.joined-both.ensures c.if-choice.true).above

pub join_below-requires-clause-left : goal.join_below-requires-clause-left
join_below-requires-clause-left g c =
    (pair-behind c.requires.leaf.2 c.requires.leaf.3 c.requires.leaf.4 c.joined-both.ensures c.if-choice.true).left

pub join_below-requires-clause-right : goal.join_below-requires-clause-right
join_below-requires-clause-right g c =
    (pair-behind c.requires.leaf.2 c.requires.leaf.3 c.requires.leaf.4 c.joined-both.ensures c.if-choice.true).right

pub join_below-requires-clause-merge : goal.join_below-requires-clause-merge
join_below-requires-clause-merge g c tells inner one two =
    (pair-behind c.requires.leaf.2 c.requires.leaf.3 c.requires.leaf.4 c.joined-both.ensures c.if-choice.true).merge
    tells _ (c.requires.edit _ _ inner.node.rises) inner one two

pub returns-in-Ok-clause-ok : goal.returns-in-Ok-clause-ok
returns-in-Ok-clause-ok g c = (
  c.args.leaf,
  c.args.found.guard,
  (pair-behind c.requires.leaf.2 c.requires.leaf.3 c.requires.leaf.4 c.joined-both.ensures
      c.if-choice.true).order,
  c.in-Ok.ensures.ok,
)

pub returns-in-Ok-clause-known : goal.returns-in-Ok-clause-known
returns-in-Ok-clause-known g c k =
    c.in-Ok.ensures.known k

pub lost-requires : goal.lost-requires
lost-requires g c =
    search (
      rules,
      denied-again g.K.Kind.layout (c.args.up ∷ c.args.leaf ∷ c.args.found.guard ∷ []) c.in-Err.deny
          (view c.args.pass.now) (view c.join_below.new.pass)
          (pair-behind c.requires.leaf.2 c.requires.leaf.3 c.requires.leaf.4 c.joined-both.ensures
          c.if-choice.true).below c.in-Err.ensures.err,
    )

pub returns-in-Err-clause-err : goal.returns-in-Err-clause-err
returns-in-Err-clause-err g c = (
  c.args.leaf,
  c.args.found.guard,
  (pair-behind c.requires.leaf.2 c.requires.leaf.3 c.requires.leaf.4 c.joined-both.ensures
      c.if-choice.true).order,
  subst (λ d. IsLockDenied g.K.Kind.layout (c.args.up ∷ c.args.leaf ∷ c.args.found.guard ∷ []) d
      (view c.args.pass.now) (view c.join_below.new.pass)) c.lost.ensures c.in-Err.ensures.err.1,
)

pub returns-in-Err-clause-sure : goal.returns-in-Err-clause-sure
returns-in-Err-clause-sure g c ku kl ko =
    absurd (subst SaysWorn c.lost.ensures
    (c.in-Err.ensures.sure (knows-three c.args.up c.args.leaf c.args.found.guard (view c.args.pass.now) ku kl
    ko)))

pub join_below-requires-2-clause-apart : goal.join_below-requires-2-clause-apart
join_below-requires-2-clause-apart g c =
    (pair-before c.requires.leaf.2 c.requires.leaf.3 c.requires.leaf.4 c.joined-both.ensures c.if-choice.false).apart

pub join_below-requires-2-clause-sizes : goal.join_below-requires-2-clause-sizes
join_below-requires-2-clause-sizes g c =
    (c.requires.sizes.0, c.requires.sizes.2, c.requires.sizes.1)

pub join_below-requires-2-clause-above : goal.join_below-requires-2-clause-above
join_below-requires-2-clause-above g c =
    (pair-before c.requires.leaf.2 c.requires.leaf.3 c.requires.leaf.4 c.joined-both.ensures c.if-choice.false).above

pub join_below-requires-2-clause-left : goal.join_below-requires-2-clause-left
join_below-requires-2-clause-left g c =
    (pair-before c.requires.leaf.2 c.requires.leaf.3 c.requires.leaf.4 c.joined-both.ensures c.if-choice.false).left

pub join_below-requires-2-clause-right : goal.join_below-requires-2-clause-right
join_below-requires-2-clause-right g c =
    (pair-before c.requires.leaf.2 c.requires.leaf.3 c.requires.leaf.4 c.joined-both.ensures c.if-choice.false).right

pub join_below-requires-2-clause-merge : goal.join_below-requires-2-clause-merge
join_below-requires-2-clause-merge g c tells inner one two =
    (pair-before c.requires.leaf.2 c.requires.leaf.3 c.requires.leaf.4 c.joined-both.ensures c.if-choice.false).merge
    tells _ (c.requires.edit _ _ inner.node.rises) inner one two

pub returns-in-Ok-join_below-clause-ok : goal.returns-in-Ok-join_below-clause-ok
returns-in-Ok-join_below-clause-ok g c = (
  c.args.found.guard,
  c.args.leaf,
  (pair-before c.requires.leaf.2 c.requires.leaf.3 c.requires.leaf.4 c.joined-both.ensures
      c.if-choice.false).order,
  c.in-Ok-join_below.ensures.ok,
)

pub returns-in-Ok-join_below-clause-known : goal.returns-in-Ok-join_below-clause-known
returns-in-Ok-join_below-clause-known g c k =
    c.in-Ok-join_below.ensures.known k

pub lost-requires-in-Err-join_below : goal.lost-requires-in-Err-join_below
lost-requires-in-Err-join_below g c =
    search (
      rules,
      denied-again g.K.Kind.layout (c.args.up ∷ c.args.found.guard ∷ c.args.leaf ∷ [])
          c.in-Err-join_below.deny (view c.args.pass.now) (view c.join_below-2.new.pass)
          (pair-before c.requires.leaf.2 c.requires.leaf.3 c.requires.leaf.4 c.joined-both.ensures
          c.if-choice.false).below c.in-Err-join_below.ensures.err,
    )

pub returns-clause-err : goal.returns-clause-err
returns-clause-err g c = (
  c.args.found.guard,
  c.args.leaf,
  (pair-before c.requires.leaf.2 c.requires.leaf.3 c.requires.leaf.4 c.joined-both.ensures
      c.if-choice.false).order,
  subst (λ d. IsLockDenied g.K.Kind.layout (c.args.up ∷ c.args.found.guard ∷ c.args.leaf ∷ []) d
      (view c.args.pass.now) (view c.join_below-2.new.pass)) c.lost-in-Err-join_below.ensures
      c.in-Err-join_below.ensures.err.1,
)

pub returns-clause-sure : goal.returns-clause-sure
returns-clause-sure g c ku kl ko =
    absurd (subst SaysWorn c.lost-in-Err-join_below.ensures
    (c.in-Err-join_below.ensures.sure
    (knows-three c.args.up c.args.found.guard c.args.leaf (view c.args.pass.now) ku ko kl)))
