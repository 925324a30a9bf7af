-- Each release of a group may be made, and all of them together release the group.
use Rattle.vm_guard.proofs.GroupReleases.{group-released}
use Rattle.vm_guard.proofs.Groups.{dues-first, dues-later, first-of}
use Rattle.vm_guard.proofs.Prelude.{[], arith, guards_of, IsGroupReleased, option_map, refl, subst, sym, view, ◌∙◌, ◌∷◌}
use Rattle.vm_guard.proofs.group.release_group.Goals as goal

pub release_first-requires-clause-first : goal.release_first-requires-clause-first
release_first-requires-clause-first g c = first-of _ c.in-One.a [] _ _ (rw c.in-One.is at c.requires.may) (omega arith)

pub returns-in-One-clause-released : goal.returns-in-One-clause-released
returns-in-One-clause-released g c =
    subst (λ x. IsGroupReleased g.U.Owner.keeps (guards_of x) (option_map (λ b. b.now) c.args.said)
    (view c.args.pass.now) (view c.release_first.new.pass)) (sym c.in-One.is)
    (group-released g.U.Owner.may_release g.U.Owner.keeps c.in-One.a [] _ _ _ _ (rw c.in-One.is at c.requires.may)
    c.release_first.ensures.told refl
    (λ t. c.release_first.ensures.kept (sym c.requires.ready.table.tells_is ∙ t))
    (λ t. c.release_first.ensures.kept (sym c.requires.ready.table.tells_is ∙ t)))

pub release_first-requires-in-Two-clause-first : goal.release_first-requires-in-Two-clause-first
release_first-requires-in-Two-clause-first g c =
    first-of _ c.in-Two.a (c.in-Two.b ∷ []) _ _ (rw c.in-Two.is at c.requires.may) (omega arith)

pub release_later-requires-clause-due : goal.release_later-requires-clause-due
release_later-requires-clause-due g c =
    (dues-first _ c.in-Two.a (c.in-Two.b ∷ []) _ _ _ (rw c.in-Two.is at c.requires.may)
    c.release_first-in-Two.ensures.told).0

pub returns-in-Two-clause-released : goal.returns-in-Two-clause-released
returns-in-Two-clause-released g c =
    subst (λ x. IsGroupReleased g.U.Owner.keeps (guards_of x) (option_map (λ b. b.now) c.args.said)
    (view c.args.pass.now) (view c.release_later.new.pass)) (sym c.in-Two.is)
    (group-released g.U.Owner.may_release g.U.Owner.keeps c.in-Two.a (c.in-Two.b ∷ []) _ _ _ _
    (rw c.in-Two.is at c.requires.may) c.release_first-in-Two.ensures.told (_, c.release_later.ensures.told, refl)
    (λ t. c.release_first-in-Two.ensures.kept (sym c.requires.ready.table.tells_is ∙ t))
    (λ t. c.release_later.ensures.kept (sym c.requires.ready.table.tells_is ∙ t)))

pub release_first-requires-in-Three-clause-first : goal.release_first-requires-in-Three-clause-first
release_first-requires-in-Three-clause-first g c =
    first-of _ c.in-Three.a (c.in-Three.b ∷ c.in-Three.c ∷ []) _ _ (rw c.in-Three.is at c.requires.may) (omega arith)

pub release_later-requires-in-Three-clause-due : goal.release_later-requires-in-Three-clause-due
release_later-requires-in-Three-clause-due g c =
    (dues-first _ c.in-Three.a (c.in-Three.b ∷ c.in-Three.c ∷ []) _ _ _ (rw c.in-Three.is at c.requires.may)
    c.release_first-in-Three.ensures.told).0

pub release_later-requires-in-Three-2-clause-due : goal.release_later-requires-in-Three-2-clause-due
release_later-requires-in-Three-2-clause-due g c =
    let may = rw c.in-Three.is at c.requires.may in
    (dues-later c.in-Three.b (c.in-Three.c ∷ []) _ _ may.apart.1.0
    (dues-first _ c.in-Three.a (c.in-Three.b ∷ c.in-Three.c ∷ []) _ _ _ may c.release_first-in-Three.ensures.told)
    c.release_later-in-Three.ensures.told).0

pub returns-in-Three-clause-released : goal.returns-in-Three-clause-released
returns-in-Three-clause-released g c =
    subst (λ x. IsGroupReleased g.U.Owner.keeps (guards_of x) (option_map (λ b. b.now) c.args.said)
    (view c.args.pass.now) (view c.release_later-in-Three-2.new.pass)) (sym c.in-Three.is)
    (group-released g.U.Owner.may_release g.U.Owner.keeps c.in-Three.a (c.in-Three.b ∷ c.in-Three.c ∷ []) _ _ _ _
    (rw c.in-Three.is at c.requires.may) c.release_first-in-Three.ensures.told
    (_, c.release_later-in-Three.ensures.told, (_, c.release_later-in-Three-2.ensures.told, refl))
    (λ t. c.release_first-in-Three.ensures.kept (sym c.requires.ready.table.tells_is ∙ t))
    (λ t. c.release_later-in-Three-2.ensures.kept (sym c.requires.ready.table.tells_is ∙ t)))

pub release_first-requires-in-Four-clause-first : goal.release_first-requires-in-Four-clause-first
release_first-requires-in-Four-clause-first g c =
    first-of _ c.in-Four.a (c.in-Four.b ∷ c.in-Four.c ∷ c.in-Four.d ∷ []) _ _ (rw c.in-Four.is at c.requires.may)
    (omega arith)

pub release_later-requires-in-Four-clause-due : goal.release_later-requires-in-Four-clause-due
release_later-requires-in-Four-clause-due g c =
    (dues-first _ c.in-Four.a (c.in-Four.b ∷ c.in-Four.c ∷ c.in-Four.d ∷ []) _ _ _ (rw c.in-Four.is at c.requires.may)
    c.release_first-in-Four.ensures.told).0

pub release_later-requires-in-Four-2-clause-due : goal.release_later-requires-in-Four-2-clause-due
release_later-requires-in-Four-2-clause-due g c =
    let may = rw c.in-Four.is at c.requires.may in
    (dues-later c.in-Four.b (c.in-Four.c ∷ c.in-Four.d ∷ []) _ _ may.apart.1.0
    (dues-first _ c.in-Four.a (c.in-Four.b ∷ c.in-Four.c ∷ c.in-Four.d ∷ []) _ _ _ may
    c.release_first-in-Four.ensures.told) c.release_later-in-Four.ensures.told).0

pub release_later-requires-in-Four-3-clause-due : goal.release_later-requires-in-Four-3-clause-due
release_later-requires-in-Four-3-clause-due g c =
    let may = rw c.in-Four.is at c.requires.may in
    let dues = dues-later c.in-Four.b (c.in-Four.c ∷ c.in-Four.d ∷ []) _ _ may.apart.1.0
    (dues-first _ c.in-Four.a (c.in-Four.b ∷ c.in-Four.c ∷ c.in-Four.d ∷ []) _ _ _ may
    c.release_first-in-Four.ensures.told) c.release_later-in-Four.ensures.told in
    (dues-later c.in-Four.c (c.in-Four.d ∷ []) _ _ may.apart.1.1.0 dues c.release_later-in-Four-2.ensures.told).0

pub returns-in-Four-clause-released : goal.returns-in-Four-clause-released
returns-in-Four-clause-released g c =
    subst (λ x. IsGroupReleased g.U.Owner.keeps (guards_of x) (option_map (λ b. b.now) c.args.said)
    (view c.args.pass.now) (view c.release_later-in-Four-3.new.pass)) (sym c.in-Four.is)
    (group-released g.U.Owner.may_release g.U.Owner.keeps c.in-Four.a (c.in-Four.b ∷ c.in-Four.c ∷ c.in-Four.d ∷ []) _
    _ _ _ (rw c.in-Four.is at c.requires.may) c.release_first-in-Four.ensures.told (
      _,
      c.release_later-in-Four.ensures.told,
      (_, c.release_later-in-Four-2.ensures.told, (_, c.release_later-in-Four-3.ensures.told, refl)),
    )
    (λ t. c.release_first-in-Four.ensures.kept (sym c.requires.ready.table.tells_is ∙ t))
    (λ t. c.release_later-in-Four-3.ensures.kept (sym c.requires.ready.table.tells_is ∙ t)))
