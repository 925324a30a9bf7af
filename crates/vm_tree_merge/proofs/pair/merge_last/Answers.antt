use Rattle.std.proofs.Common.{[], ◌∷◌, rules, subst}
use Rattle.vm_tree_join.specs.from_vm_step.Prelude.{view}
use Rattle.vm_tree_join.specs.from_vm_tree_split.Prepares.{IsLockDenied, SaysWorn}
use Rattle.vm_tree_merge.proofs.Pairing.{denied-again, knows-four, pair-before, pair-behind}
use Rattle.vm_tree_merge.proofs.pair.merge_last.Goals as goal

pub join_last-requires-clause-apart : goal.join_last-requires-clause-apart
join_last-requires-clause-apart g c =
    (pair-behind c.requires.leaf.2 c.requires.leaf.3 c.requires.leaf.4 c.joined-both.ensures
    c.if-choice.true).apart_from_zero c.args.meta.pid c.requires.leaf.5.zero

pub join_last-requires-clause-sizes : goal.join_last-requires-clause-sizes
join_last-requires-clause-sizes g c =
    (c.requires.sizes.0, c.requires.sizes.1, c.requires.sizes.2)

pub join_last-requires-clause-above : goal.join_last-requires-clause-above
join_last-requires-clause-above g c =
    (pair-behind c.requires.leaf.2 c.requires.leaf.3 c.requires.leaf.4 c.joined-both.ensures c.if-choice.true).above

pub join_last-requires-clause-left : goal.join_last-requires-clause-left
join_last-requires-clause-left g c =
    (pair-behind c.requires.leaf.2 c.requires.leaf.3 c.requires.leaf.4 c.joined-both.ensures c.if-choice.true).left

pub join_last-requires-clause-right : goal.join_last-requires-clause-right
join_last-requires-clause-right g c =
    (pair-behind c.requires.leaf.2 c.requires.leaf.3 c.requires.leaf.4 c.joined-both.ensures c.if-choice.true).right

pub join_last-requires-clause-zero : goal.join_last-requires-clause-zero
join_last-requires-clause-zero g c =
    c.requires.leaf.5.zero

pub join_last-requires-clause-meta : goal.join_last-requires-clause-meta
join_last-requires-clause-meta g c =
    (c.requires.leaf.5.opened.reading, c.requires.leaf.5.loads)

pub join_last-requires-clause-merge : goal.join_last-requires-clause-merge
join_last-requires-clause-merge g c tells meta names inner one two =
    (pair-behind c.requires.leaf.2 c.requires.leaf.3 c.requires.leaf.4 c.joined-both.ensures
    c.if-choice.true).collapse tells c.args.meta.pid meta c.requires.leaf.5.zero names c.requires.two inner one
    two

pub returns-in-Ok-clause-ok : goal.returns-in-Ok-clause-ok
returns-in-Ok-clause-ok g c = (
  c.args.leaf,
  c.args.found.guard,
  (pair-behind c.requires.leaf.2 c.requires.leaf.3 c.requires.leaf.4 c.joined-both.ensures
      c.if-choice.true).order,
  c.in-Ok.ensures.ok,
)

pub returns-in-Ok-clause-known : goal.returns-in-Ok-clause-known
returns-in-Ok-clause-known g c k =
    c.in-Ok.ensures.known k

pub lost-requires : goal.lost-requires
lost-requires g c =
    search (
      rules,
      denied-again g.K.Kind.layout (c.args.meta ∷ c.args.root ∷ c.args.leaf ∷ c.args.found.guard ∷ [])
          c.in-Err.deny (view c.args.pass.now) (view c.join_last.new.pass) (
            c.requires.below,
            (pair-behind c.requires.leaf.2 c.requires.leaf.3 c.requires.leaf.4 c.joined-both.ensures
                c.if-choice.true).below,
          ) c.in-Err.ensures.err,
    )

pub returns-in-Err-clause-err : goal.returns-in-Err-clause-err
returns-in-Err-clause-err g c = (
  c.args.leaf,
  c.args.found.guard,
  (pair-behind c.requires.leaf.2 c.requires.leaf.3 c.requires.leaf.4 c.joined-both.ensures
      c.if-choice.true).order,
  subst (λ d. IsLockDenied g.K.Kind.layout (c.args.meta ∷ c.args.root ∷ c.args.leaf ∷ c.args.found.guard ∷ []) d
      (view c.args.pass.now) (view c.join_last.new.pass)) c.lost.ensures c.in-Err.ensures.err.1,
)

pub returns-in-Err-clause-sure : goal.returns-in-Err-clause-sure
returns-in-Err-clause-sure g c km ku kl ko =
    absurd (subst SaysWorn c.lost.ensures
    (c.in-Err.ensures.sure (knows-four c.args.meta c.args.root c.args.leaf c.args.found.guard
    (view c.args.pass.now) km ku kl ko)))

pub join_last-requires-2-clause-apart : goal.join_last-requires-2-clause-apart
join_last-requires-2-clause-apart g c =
    (pair-before c.requires.leaf.2 c.requires.leaf.3 c.requires.leaf.4 c.joined-both.ensures
    c.if-choice.false).apart_from_zero c.args.meta.pid c.requires.leaf.5.zero

pub join_last-requires-2-clause-sizes : goal.join_last-requires-2-clause-sizes
join_last-requires-2-clause-sizes g c =
    (c.requires.sizes.0, c.requires.sizes.2, c.requires.sizes.1)

pub join_last-requires-2-clause-above : goal.join_last-requires-2-clause-above
join_last-requires-2-clause-above g c =
    (pair-before c.requires.leaf.2 c.requires.leaf.3 c.requires.leaf.4 c.joined-both.ensures c.if-choice.false).above

pub join_last-requires-2-clause-left : goal.join_last-requires-2-clause-left
join_last-requires-2-clause-left g c =
    (pair-before c.requires.leaf.2 c.requires.leaf.3 c.requires.leaf.4 c.joined-both.ensures c.if-choice.false).left

pub join_last-requires-2-clause-right : goal.join_last-requires-2-clause-right
join_last-requires-2-clause-right g c =
    (pair-before c.requires.leaf.2 c.requires.leaf.3 c.requires.leaf.4 c.joined-both.ensures c.if-choice.false).right

pub join_last-requires-2-clause-zero : goal.join_last-requires-2-clause-zero
join_last-requires-2-clause-zero g c =
    c.requires.leaf.5.zero

pub join_last-requires-2-clause-meta : goal.join_last-requires-2-clause-meta
join_last-requires-2-clause-meta g c =
    (c.requires.leaf.5.opened.reading, c.requires.leaf.5.loads)

pub join_last-requires-2-clause-merge : goal.join_last-requires-2-clause-merge
join_last-requires-2-clause-merge g c tells meta names inner one two =
    (pair-before c.requires.leaf.2 c.requires.leaf.3 c.requires.leaf.4 c.joined-both.ensures
    c.if-choice.false).collapse tells c.args.meta.pid meta c.requires.leaf.5.zero names c.requires.two inner one
    two

pub returns-in-Ok-join_last-clause-ok : goal.returns-in-Ok-join_last-clause-ok
returns-in-Ok-join_last-clause-ok g c = (
  c.args.found.guard,
  c.args.leaf,
  (pair-before c.requires.leaf.2 c.requires.leaf.3 c.requires.leaf.4 c.joined-both.ensures
      c.if-choice.false).order,
  c.in-Ok-join_last.ensures.ok,
)

pub returns-in-Ok-join_last-clause-known : goal.returns-in-Ok-join_last-clause-known
returns-in-Ok-join_last-clause-known g c k =
    c.in-Ok-join_last.ensures.known k

pub lost-requires-in-Err-join_last : goal.lost-requires-in-Err-join_last
lost-requires-in-Err-join_last g c =
    search (
      rules,
      denied-again g.K.Kind.layout (c.args.meta ∷ c.args.root ∷ c.args.found.guard ∷ c.args.leaf ∷ [])
          c.in-Err-join_last.deny (view c.args.pass.now) (view c.join_last-2.new.pass) (
            c.requires.below,
            (pair-before c.requires.leaf.2 c.requires.leaf.3 c.requires.leaf.4 c.joined-both.ensures
                c.if-choice.false).below,
          ) c.in-Err-join_last.ensures.err,
    )

pub returns-clause-err : goal.returns-clause-err
returns-clause-err g c = (
  c.args.found.guard,
  c.args.leaf,
  (pair-before c.requires.leaf.2 c.requires.leaf.3 c.requires.leaf.4 c.joined-both.ensures
      c.if-choice.false).order,
  subst (λ d. IsLockDenied g.K.Kind.layout (c.args.meta ∷ c.args.root ∷ c.args.found.guard ∷ c.args.leaf ∷ []) d
      (view c.args.pass.now) (view c.join_last-2.new.pass)) c.lost-in-Err-join_last.ensures
      c.in-Err-join_last.ensures.err.1,
)

pub returns-clause-sure : goal.returns-clause-sure
returns-clause-sure g c km ku kl ko =
    absurd (subst SaysWorn c.lost-in-Err-join_last.ensures
    (c.in-Err-join_last.ensures.sure
    (knows-four c.args.meta c.args.root c.args.found.guard c.args.leaf (view c.args.pass.now) km ku ko kl)))
