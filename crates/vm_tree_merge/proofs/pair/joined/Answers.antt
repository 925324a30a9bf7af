use Rattle.std.proofs.Common.{rules, inl, inr, subst, sym, ◌≤◌}
use Rattle.vm_tree_model.specs.{Layout.size, Merges.IsJoined}
use Rattle.vm_tree_join.specs.from_vm_kind.Joins.{both_as_one}
use Rattle.vm_tree_merge.specs.Beside.{as_one}
use Rattle.vm_tree_merge.proofs.pair.joined.Goals as goal

pub join-requires : goal.join-requires
join-requires g c =
    let L = g.K.Kind.layout in
    let rest = g.K.Pages.words_of c.args.rest.now in
    let other = g.K.Pages.words_of c.args.other.now in
    let few : size g.K.Kind.layout
    (both_as_one g.K.Kind.layout (g.K.Pages.words_of c.copy.new.into) (g.K.Pages.words_of c.args.other.now))
    ≤ g.K.Kind.layout.merge_room = subst (λ l. size L (both_as_one L l other) ≤ L.merge_room)
    (sym c.copy.ensures.words)
    (subst (λ b. size L (as_one L b rest other) ≤ L.merge_room) c.if-behind.true c.requires) in
    search (rules, few)

pub returns-then-behind : goal.returns-then-behind
returns-then-behind g c =
    inl (
      c.if-behind.true,
      subst
          (λ l. IsJoined g.K.Kind.layout l (g.K.Pages.words_of c.args.other.now) (g.K.Pages.words_of c.join.new.left))
          c.copy.ensures.words c.join.ensures.joined,
    )

pub join-requires-2 : goal.join-requires-2
join-requires-2 g c =
    let L = g.K.Kind.layout in
    let rest = g.K.Pages.words_of c.args.rest.now in
    let other = g.K.Pages.words_of c.args.other.now in
    let few : size g.K.Kind.layout
    (both_as_one g.K.Kind.layout (g.K.Pages.words_of c.copy-2.new.into) (g.K.Pages.words_of c.args.rest.now))
    ≤ g.K.Kind.layout.merge_room = subst (λ l. size L (both_as_one L l rest) ≤ L.merge_room)
    (sym c.copy-2.ensures.words)
    (subst (λ b. size L (as_one L b rest other) ≤ L.merge_room) c.if-behind.false c.requires) in
    search (rules, few)

pub returns : goal.returns
returns g c =
    inr (
      c.if-behind.false,
      subst (λ l. IsJoined g.K.Kind.layout l (g.K.Pages.words_of c.args.rest.now)
          (g.K.Pages.words_of c.join-2.new.left)) c.copy-2.ensures.words c.join-2.ensures.joined,
    )
