use Rattle.std.proofs.Common.{[], ◌∙◌, ◌∷◌, ap, inl, inr, length, refl}
use Rattle.std.proofs.lemmas.Bool.{false≢true}
use Rattle.std.proofs.lemmas.List.{length-replicate}
use Rattle.vm_tree_join.specs.from_vm_tree_rule.declared_above_Above_TheVariants as aboves
use Rattle.vm_tree_merge.proofs.Choosing.{some-of}
use Rattle.vm_tree_merge.proofs.Trying.{leaf-later, lost-three, merge-done}
use Rattle.vm_tree_merge.proofs.tries.try_below.Goals as goal

pub neighbour_to_join-requires-clause-size : goal.neighbour_to_join-requires-clause-size
neighbour_to_join-requires-clause-size g c = (
  ap length c.zero-over.ensures ∙ length-replicate g.K.Kind.layout.words 0,
  ap length c.zero-other.ensures
      ∙ length-replicate g.K.Kind.layout.words 0,
)

pub neighbour_to_join-requires-clause-parent : goal.neighbour_to_join-requires-clause-parent
neighbour_to_join-requires-clause-parent g c =
    (c.requires.read.0, c.requires.read.1)

pub returns-in-Err-clause-tried : goal.returns-in-Err-clause-tried
returns-in-Err-clause-tried g c v parent leaf =
    c.in-Err.ensures.err v parent

pub returns-in-Err-clause-sure : goal.returns-in-Err-clause-sure
returns-in-Err-clause-sure g c tells ku kl =
    absurd (false≢true (c.in-Err.ensures.sure tells ku))

pub returns-in-None-clause-tried : goal.returns-in-None-clause-tried
returns-in-None-clause-tried g c v parent leaf =
    (refl, c.in-Ok.ensures.beside c.args.leaf.pid (inl refl), c.in-Ok.ensures.none v parent c.in-None.is)

pub returns-in-None-clause-known : goal.returns-in-None-clause-known
returns-in-None-clause-known g c tells ku kl =
    (c.in-Ok.ensures.known tells ku).1 c.args.leaf.pid c.args.leaf.word (inr (inl refl)) kl

pub merge_below-requires-clause-home : goal.merge_below-requires-clause-home
merge_below-requires-clause-home g c =
    (c.in-Ok.ensures.beside c.args.leaf.pid (inl refl)).0.0.out ∙ c.requires.home

pub merge_below-requires-clause-sizes : goal.merge_below-requires-clause-sizes
merge_below-requires-clause-sizes g c =
    (c.in-Ok.ensures.size.0, c.requires.size, c.in-Ok.ensures.size.1)

pub merge_below-requires-clause-leaf : goal.merge_below-requires-clause-leaf
merge_below-requires-clause-leaf g c = (
  c.requires.read.0,
  g.K.Kind.rank c.args.key.now,
  leaf-later g.K.Kind.layout c.requires.read.0 _ c.args.leaf _ _ _
      _ _ (c.in-Ok.ensures.beside c.args.leaf.pid (inl refl)) c.requires.read.2,
  (some-of _ c.in-Ok.found c.in-Some.beside c.in-Some.is
      (c.in-Ok.ensures.some c.requires.read.0 c.requires.read.1)).0,
  (some-of _ c.in-Ok.found c.in-Some.beside c.in-Some.is
      (c.in-Ok.ensures.some c.requires.read.0 c.requires.read.1)).1,
)

pub merge_below-requires-clause-edit : goal.merge_below-requires-clause-edit
merge_below-requires-clause-edit g c =
    some-of _ c.in-Ok.found c.in-Some.beside c.in-Some.is c.in-Ok.ensures.edit

pub returns-in-Ok-merge_below-clause-tried : goal.returns-in-Ok-merge_below-clause-tried
returns-in-Ok-merge_below-clause-tried g c v parent leaf =
    merge-done g.K.Kind.plain g.K.Kind.layout v _ (aboves.Node c.args.up) c.args.up c.args.leaf c.in-Some.beside.guard
    _ _ _ _ c.in-Some.beside.choice.behind _ _ _ _ c.args.said.now _ _
    (leaf-later g.K.Kind.layout v _ c.args.leaf _ _ _ _ _ (c.in-Ok.ensures.beside c.args.leaf.pid (inl refl))
    leaf) (some-of _ c.in-Ok.found c.in-Some.beside c.in-Some.is (c.in-Ok.ensures.some v parent)).0
    c.in-Ok-merge_below.ensures.ok.0 c.in-Ok-merge_below.ensures.ok.1 c.in-Ok-merge_below.ensures.ok.2
    (c.in-Ok.ensures.stays v parent)
    (c.args.up ∷ c.in-Ok-merge_below.ensures.ok.0 ∷ c.in-Ok-merge_below.ensures.ok.1 ∷ [])
    (c.in-Ok-merge_below.ensures.ok.1.pid ∷ []) (refl, refl, refl) c.in-Ok-merge_below.ensures.ok.3

pub returns-in-Ok-merge_below-clause-known : goal.returns-in-Ok-merge_below-clause-known
returns-in-Ok-merge_below-clause-known g c tells ku kl =
    c.in-Ok-merge_below.ensures.known ((c.in-Ok.ensures.known tells ku).1 c.args.up.pid c.args.up.word (inl refl) ku).resident

pub returns-clause-tried : goal.returns-clause-tried
returns-clause-tried g c v parent leaf =
    lost-three g.K.Kind.plain g.K.Kind.layout v _ (aboves.Node c.args.up) c.args.up c.args.leaf c.in-Some.beside.guard
    _ _ _ _ c.in-Some.beside.choice.behind _ _ _ _ c.args.said.now _ _
    (leaf-later g.K.Kind.layout v _ c.args.leaf _ _ _ _ _ (c.in-Ok.ensures.beside c.args.leaf.pid (inl refl))
    leaf) (some-of _ c.in-Ok.found c.in-Some.beside c.in-Some.is (c.in-Ok.ensures.some v parent)).0
    c.in-Err-merge_below.ensures.err.0 c.in-Err-merge_below.ensures.err.1 c.in-Err-merge_below.ensures.err.2
    c.in-Err-merge_below.saw c.in-Err-merge_below.ensures.err.3

pub returns-clause-sure : goal.returns-clause-sure
returns-clause-sure g c tells ku kl =
    absurd (false≢true (c.in-Err-merge_below.ensures.sure
    ((c.in-Ok.ensures.known tells ku).1 c.args.up.pid c.args.up.word (inl refl) ku)
    ((c.in-Ok.ensures.known tells ku).1 c.args.leaf.pid c.args.leaf.word (inr (inl refl)) kl)
    (some-of _ c.in-Ok.found c.in-Some.beside c.in-Some.is (c.in-Ok.ensures.known tells ku).0)))
