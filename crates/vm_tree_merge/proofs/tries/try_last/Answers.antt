use Rattle.std.proofs.Common.{[], ◌∙◌, ◌∷◌, ap, inl, inr, length, refl}
use Rattle.std.proofs.lemmas.Bool.{false≢true}
use Rattle.std.proofs.lemmas.List.{length-replicate}
use Rattle.vm_tree_join.specs.from_vm_tree_rule.declared_above_Above_TheVariants as aboves
use Rattle.vm_tree_merge.specs.Beside.IsUnmerged.{worn_meta}
use Rattle.vm_tree_merge.proofs.Choosing.{some-of}
use Rattle.vm_tree_merge.proofs.Trying.{leaf-later, lost-four, lost-three, merge-done, meta-known, meta-there}
use Rattle.vm_tree_merge.proofs.tries.try_last.Goals as goal

pub neighbour_to_join-requires-clause-size : goal.neighbour_to_join-requires-clause-size
neighbour_to_join-requires-clause-size g c = (
  ap length c.zero-over.ensures ∙ length-replicate g.K.Kind.layout.words 0,
  ap length c.zero-other.ensures
      ∙ length-replicate g.K.Kind.layout.words 0,
)

pub neighbour_to_join-requires-clause-parent : goal.neighbour_to_join-requires-clause-parent
neighbour_to_join-requires-clause-parent g c =
    (c.requires.read.0, c.requires.read.1)

pub returns-in-Err-clause-tried : goal.returns-in-Err-clause-tried
returns-in-Err-clause-tried g c v parent leaf meta =
    c.in-Err.ensures.err v parent

pub returns-in-Err-clause-sure : goal.returns-in-Err-clause-sure
returns-in-Err-clause-sure g c tells km ku kl =
    absurd (false≢true (c.in-Err.ensures.sure tells ku))

pub returns-in-None-clause-tried : goal.returns-in-None-clause-tried
returns-in-None-clause-tried g c v parent leaf meta =
    (refl, c.in-Ok.ensures.beside c.args.leaf.pid (inl refl), c.in-Ok.ensures.none v parent c.in-None.is)

pub returns-in-None-clause-known : goal.returns-in-None-clause-known
returns-in-None-clause-known g c tells ku kl =
    (c.in-Ok.ensures.known tells ku).1 c.args.leaf.pid c.args.leaf.word (inr (inl refl)) kl

pub returns-then-is_last-clause-tried : goal.returns-then-is_last-clause-tried
returns-then-is_last-clause-tried g c v parent leaf meta = (
  refl,
  c.in-Ok.ensures.beside c.args.leaf.pid (inl refl),
  inl (worn_meta c.args.meta c.args.root c.in-Some.beside.guard _ _ _ _ _ _
      (meta-there v c.args.meta c.args.root _ _ (c.in-Ok.ensures.beside 0 (inr refl)) meta)
      (some-of _ c.in-Ok.found c.in-Some.beside c.in-Some.is (c.in-Ok.ensures.some v parent)).0.neighbour
      (c.has_two.ensures.0 c.if-has_two.true) (c.is_last.ensures.0 c.if-is_last.true)),
)

pub returns-then-is_last-clause-known : goal.returns-then-is_last-clause-known
returns-then-is_last-clause-known g c tells ku kl =
    (c.in-Ok.ensures.known tells ku).1 c.args.leaf.pid c.args.leaf.word (inr (inl refl)) kl

pub merge_last-requires-clause-home : goal.merge_last-requires-clause-home
merge_last-requires-clause-home g c =
    (c.in-Ok.ensures.beside c.args.leaf.pid (inl refl)).0.0.out ∙ c.requires.home

pub merge_last-requires-clause-sizes : goal.merge_last-requires-clause-sizes
merge_last-requires-clause-sizes g c =
    (c.in-Ok.ensures.size.0, c.requires.size, c.in-Ok.ensures.size.1)

pub merge_last-requires-clause-leaf : goal.merge_last-requires-clause-leaf
merge_last-requires-clause-leaf g c = (
  c.requires.read.0,
  g.K.Kind.rank c.args.key.now,
  leaf-later g.K.Kind.layout c.requires.read.0 _ c.args.leaf _ _ _
      _ _ (c.in-Ok.ensures.beside c.args.leaf.pid (inl refl)) c.requires.read.2,
  (some-of _ c.in-Ok.found c.in-Some.beside c.in-Some.is
      (c.in-Ok.ensures.some c.requires.read.0 c.requires.read.1)).0,
  (some-of _ c.in-Ok.found c.in-Some.beside c.in-Some.is
      (c.in-Ok.ensures.some c.requires.read.0 c.requires.read.1)).1,
  meta-there _ c.args.meta c.args.root _ _
      (c.in-Ok.ensures.beside 0 (inr refl)) c.requires.read.3,
)

pub merge_last-requires-clause-two : goal.merge_last-requires-clause-two
merge_last-requires-clause-two g c =
    c.has_two.ensures.0 c.if-has_two.true

pub merge_last-requires-clause-below : goal.merge_last-requires-clause-below
merge_last-requires-clause-below g c =
    c.is_last.ensures.1 c.if-is_last.false

pub returns-in-Ok-merge_last-clause-tried : goal.returns-in-Ok-merge_last-clause-tried
returns-in-Ok-merge_last-clause-tried g c v parent leaf meta =
    merge-done g.K.Kind.plain g.K.Kind.layout v _ (aboves.Root c.args.meta c.args.root) c.args.root c.args.leaf
    c.in-Some.beside.guard _ _ _ _ c.in-Some.beside.choice.behind _ _ _ _ c.args.said.now _ _
    (leaf-later g.K.Kind.layout v _ c.args.leaf _ _ _ _ _ (c.in-Ok.ensures.beside c.args.leaf.pid (inl refl))
    leaf) (some-of _ c.in-Ok.found c.in-Some.beside c.in-Some.is (c.in-Ok.ensures.some v parent)).0
    c.in-Ok-merge_last.ensures.ok.0 c.in-Ok-merge_last.ensures.ok.1 c.in-Ok-merge_last.ensures.ok.2 (
      meta-there v c.args.meta c.args.root _ _ (c.in-Ok.ensures.beside 0 (inr refl)) meta,
      c.in-Ok.ensures.stays v
          parent,
    ) (c.args.meta ∷ c.args.root ∷ c.in-Ok-merge_last.ensures.ok.0 ∷ c.in-Ok-merge_last.ensures.ok.1 ∷ [])
    (c.args.root.pid ∷ c.in-Ok-merge_last.ensures.ok.1.pid ∷ [])
    (refl, inr (c.has_two.ensures.0 c.if-has_two.true, refl, refl)) c.in-Ok-merge_last.ensures.ok.3

pub returns-in-Ok-merge_last-clause-known : goal.returns-in-Ok-merge_last-clause-known
returns-in-Ok-merge_last-clause-known g c tells ku kl =
    c.in-Ok-merge_last.ensures.known ((c.in-Ok.ensures.known tells ku).1 c.args.root.pid c.args.root.word (inl refl) ku).resident

pub returns-in-Err-merge_last-clause-tried : goal.returns-in-Err-merge_last-clause-tried
returns-in-Err-merge_last-clause-tried g c v parent leaf meta =
    lost-four g.K.Kind.plain g.K.Kind.layout v _ (aboves.Root c.args.meta c.args.root) c.args.root c.args.leaf
    c.in-Some.beside.guard _ _ _ _ c.in-Some.beside.choice.behind _ _ _ _ c.args.said.now _ _
    (leaf-later g.K.Kind.layout v _ c.args.leaf _ _ _ _ _ (c.in-Ok.ensures.beside c.args.leaf.pid (inl refl))
    leaf) (some-of _ c.in-Ok.found c.in-Some.beside c.in-Some.is (c.in-Ok.ensures.some v parent)).0
    c.in-Err-merge_last.ensures.err.0 c.in-Err-merge_last.ensures.err.1 c.in-Err-merge_last.ensures.err.2
    c.args.meta (meta-there v c.args.meta c.args.root _ _ (c.in-Ok.ensures.beside 0 (inr refl)) meta)
    c.in-Err-merge_last.saw c.in-Err-merge_last.ensures.err.3

pub returns-in-Err-merge_last-clause-sure : goal.returns-in-Err-merge_last-clause-sure
returns-in-Err-merge_last-clause-sure g c tells km ku kl =
    absurd (false≢true (c.in-Err-merge_last.ensures.sure
    (meta-known c.args.meta _ _ c.requires.read.3.zero
    (λ n k. (c.in-Ok.ensures.known tells ku).1 0 n (inr (inr refl)) k) km)
    ((c.in-Ok.ensures.known tells ku).1 c.args.root.pid c.args.root.word (inl refl) ku)
    ((c.in-Ok.ensures.known tells ku).1 c.args.leaf.pid c.args.leaf.word (inr (inl refl)) kl)
    (some-of _ c.in-Ok.found c.in-Some.beside c.in-Some.is (c.in-Ok.ensures.known tells ku).0)))

pub merge_below-requires-clause-home : goal.merge_below-requires-clause-home
merge_below-requires-clause-home g c =
    (c.in-Ok.ensures.beside c.args.leaf.pid (inl refl)).0.0.out ∙ c.requires.home

pub merge_below-requires-clause-sizes : goal.merge_below-requires-clause-sizes
merge_below-requires-clause-sizes g c =
    (c.in-Ok.ensures.size.0, c.requires.size, c.in-Ok.ensures.size.1)

pub merge_below-requires-clause-leaf : goal.merge_below-requires-clause-leaf
merge_below-requires-clause-leaf g c = (
  c.requires.read.0,
  g.K.Kind.rank c.args.key.now,
  leaf-later g.K.Kind.layout c.requires.read.0 _ c.args.leaf _ _ _
      _ _ (c.in-Ok.ensures.beside c.args.leaf.pid (inl refl)) c.requires.read.2,
  (some-of _ c.in-Ok.found c.in-Some.beside c.in-Some.is
      (c.in-Ok.ensures.some c.requires.read.0 c.requires.read.1)).0,
  (some-of _ c.in-Ok.found c.in-Some.beside c.in-Some.is
      (c.in-Ok.ensures.some c.requires.read.0 c.requires.read.1)).1,
)

pub merge_below-requires-clause-edit : goal.merge_below-requires-clause-edit
merge_below-requires-clause-edit g c =
    some-of _ c.in-Ok.found c.in-Some.beside c.in-Some.is c.in-Ok.ensures.edit

pub returns-in-Ok-merge_below-clause-tried : goal.returns-in-Ok-merge_below-clause-tried
returns-in-Ok-merge_below-clause-tried g c v parent leaf meta =
    merge-done g.K.Kind.plain g.K.Kind.layout v _ (aboves.Root c.args.meta c.args.root) c.args.root c.args.leaf
    c.in-Some.beside.guard _ _ _ _ c.in-Some.beside.choice.behind _ _ _ _ c.args.said.now _ _
    (leaf-later g.K.Kind.layout v _ c.args.leaf _ _ _ _ _ (c.in-Ok.ensures.beside c.args.leaf.pid (inl refl))
    leaf) (some-of _ c.in-Ok.found c.in-Some.beside c.in-Some.is (c.in-Ok.ensures.some v parent)).0
    c.in-Ok-merge_below.ensures.ok.0 c.in-Ok-merge_below.ensures.ok.1 c.in-Ok-merge_below.ensures.ok.2 (
      meta-there v c.args.meta c.args.root _ _ (c.in-Ok.ensures.beside 0 (inr refl)) meta,
      c.in-Ok.ensures.stays v
          parent,
    ) (c.args.root ∷ c.in-Ok-merge_below.ensures.ok.0 ∷ c.in-Ok-merge_below.ensures.ok.1 ∷ [])
    (c.in-Ok-merge_below.ensures.ok.1.pid ∷ []) (refl, inl (c.has_two.ensures.1 c.if-has_two.false, refl, refl))
    c.in-Ok-merge_below.ensures.ok.3

pub returns-in-Ok-merge_below-clause-known : goal.returns-in-Ok-merge_below-clause-known
returns-in-Ok-merge_below-clause-known g c tells ku kl =
    c.in-Ok-merge_below.ensures.known ((c.in-Ok.ensures.known tells ku).1 c.args.root.pid c.args.root.word (inl refl) ku).resident

pub returns-clause-tried : goal.returns-clause-tried
returns-clause-tried g c v parent leaf meta =
    lost-three g.K.Kind.plain g.K.Kind.layout v _ (aboves.Root c.args.meta c.args.root) c.args.root c.args.leaf
    c.in-Some.beside.guard _ _ _ _ c.in-Some.beside.choice.behind _ _ _ _ c.args.said.now _ _
    (leaf-later g.K.Kind.layout v _ c.args.leaf _ _ _ _ _ (c.in-Ok.ensures.beside c.args.leaf.pid (inl refl))
    leaf) (some-of _ c.in-Ok.found c.in-Some.beside c.in-Some.is (c.in-Ok.ensures.some v parent)).0
    c.in-Err-merge_below.ensures.err.0 c.in-Err-merge_below.ensures.err.1 c.in-Err-merge_below.ensures.err.2
    c.in-Err-merge_below.saw c.in-Err-merge_below.ensures.err.3

pub returns-clause-sure : goal.returns-clause-sure
returns-clause-sure g c tells km ku kl =
    absurd (false≢true (c.in-Err-merge_below.ensures.sure
    ((c.in-Ok.ensures.known tells ku).1 c.args.root.pid c.args.root.word (inl refl) ku)
    ((c.in-Ok.ensures.known tells ku).1 c.args.leaf.pid c.args.leaf.word (inr (inl refl)) kl)
    (some-of _ c.in-Ok.found c.in-Some.beside c.in-Some.is (c.in-Ok.ensures.known tells ku).0)))
