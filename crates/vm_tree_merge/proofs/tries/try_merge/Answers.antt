use Rattle.std.proofs.Common.{inl, refl, subst, sym}
use Rattle.vm_tree_join.specs.from_vm_step.Prelude.{view}
use Rattle.vm_tree_join.specs.from_vm_tree_rule.Above.{IsAbove, KnowsAbove}
use Rattle.vm_tree_merge.specs.Tried.{IsMergeTried}
use Rattle.vm_tree_merge.specs.Beside.IsUnmerged.{root}
use Rattle.vm_tree_merge.proofs.{Choosing.leaves-nothing, Trying.dels-of, Trying.leaf-without}
use Rattle.vm_tree_merge.proofs.tries.try_merge.Goals as goal

pub returns-in-Nothing-clause-tried : goal.returns-in-Nothing-clause-tried
returns-in-Nothing-clause-tried g c v above read = (
  g.K.Pages.words_of c.del.new.page,
  (leaf-without g.K.Kind.layout v (g.K.Kind.rank c.args.key.now) c.args.reached.leaf
      (g.K.Pages.words_of c.args.page.now) (g.K.Pages.words_of c.del.new.page) (g.K.Kind.plain c.args.said.now)
      (view c.args.pass.now) (dels-of g.K.Kind.layout (g.K.Pages.words_of c.args.page.now)
      (g.K.Pages.words_of c.copy.new.into) (g.K.Pages.words_of c.del.new.page) (g.K.Kind.rank c.args.key.now)
      c.copy.ensures.words c.del.ensures.leaf) read).edit,
  (
    refl,
    leaves-nothing c.args.reached.leaf.pid (view c.args.pass.now),
    inl (root (subst (λ a. IsAbove g.K.Kind.layout v (g.K.Kind.rank c.args.key.now) a c.args.reached.leaf.pid
        (view c.args.pass.now)) c.in-Nothing.is above)),
  ),
)

pub returns-in-Nothing-clause-known : goal.returns-in-Nothing-clause-known
returns-in-Nothing-clause-known g c tells kl ka =
    kl

pub try_last-requires-clause-read : goal.try_last-requires-clause-read
try_last-requires-clause-read g c = (
  c.requires.read.0,
  (subst (λ a. IsAbove g.K.Kind.layout c.requires.read.0 (g.K.Kind.rank c.args.key.now) a
      c.args.reached.leaf.pid (view c.args.pass.now)) c.in-Root.is c.requires.read.1).1,
  (leaf-without g.K.Kind.layout c.requires.read.0 (g.K.Kind.rank c.args.key.now) c.args.reached.leaf
      (g.K.Pages.words_of c.args.page.now) (g.K.Pages.words_of c.del.new.page) (g.K.Kind.plain c.args.said.now)
      (view c.args.pass.now) (dels-of g.K.Kind.layout (g.K.Pages.words_of c.args.page.now)
      (g.K.Pages.words_of c.copy.new.into) (g.K.Pages.words_of c.del.new.page) (g.K.Kind.rank c.args.key.now)
      c.copy.ensures.words c.del.ensures.leaf) c.requires.read.2),
  (subst (λ a. IsAbove g.K.Kind.layout c.requires.read.0 (g.K.Kind.rank c.args.key.now) a
      c.args.reached.leaf.pid (view c.args.pass.now)) c.in-Root.is c.requires.read.1).0,
)

pub returns-in-Root-clause-tried : goal.returns-in-Root-clause-tried
returns-in-Root-clause-tried g c v above read = (
  g.K.Pages.words_of c.del.new.page,
  (leaf-without g.K.Kind.layout v (g.K.Kind.rank c.args.key.now) c.args.reached.leaf
      (g.K.Pages.words_of c.args.page.now) (g.K.Pages.words_of c.del.new.page) (g.K.Kind.plain c.args.said.now)
      (view c.args.pass.now) (dels-of g.K.Kind.layout (g.K.Pages.words_of c.args.page.now)
      (g.K.Pages.words_of c.copy.new.into) (g.K.Pages.words_of c.del.new.page) (g.K.Kind.rank c.args.key.now)
      c.copy.ensures.words c.del.ensures.leaf) read).edit,
  subst (λ a. IsMergeTried g.K.Kind.plain g.K.Kind.layout v (g.K.Kind.rank c.args.key.now) a c.args.reached.leaf
      (g.K.Pages.words_of c.args.page.now) (g.K.Pages.words_of c.del.new.page) (g.K.Kind.plain c.args.said.now)
      c.try_last.result (view c.args.pass.now) (view c.try_last.new.pass)) (sym c.in-Root.is)
      (c.try_last.ensures.tried v
      (subst (λ a. IsAbove g.K.Kind.layout v (g.K.Kind.rank c.args.key.now) a c.args.reached.leaf.pid
      (view c.args.pass.now)) c.in-Root.is above).1
      (leaf-without g.K.Kind.layout v (g.K.Kind.rank c.args.key.now) c.args.reached.leaf
      (g.K.Pages.words_of c.args.page.now) (g.K.Pages.words_of c.del.new.page) (g.K.Kind.plain c.args.said.now)
      (view c.args.pass.now) (dels-of g.K.Kind.layout (g.K.Pages.words_of c.args.page.now)
      (g.K.Pages.words_of c.copy.new.into) (g.K.Pages.words_of c.del.new.page) (g.K.Kind.rank c.args.key.now)
      c.copy.ensures.words c.del.ensures.leaf) read)
      (subst (λ a. IsAbove g.K.Kind.layout v (g.K.Kind.rank c.args.key.now) a c.args.reached.leaf.pid
      (view c.args.pass.now)) c.in-Root.is above).0),
)

pub returns-in-Root-clause-sure : goal.returns-in-Root-clause-sure
returns-in-Root-clause-sure g c tells kl ka =
    c.try_last.ensures.sure tells (subst (λ a. KnowsAbove a (view c.args.pass.now)) c.in-Root.is ka).0
    (subst (λ a. KnowsAbove a (view c.args.pass.now)) c.in-Root.is ka).1 kl

pub returns-in-Root-clause-known : goal.returns-in-Root-clause-known
returns-in-Root-clause-known g c tells kl ka =
    c.try_last.ensures.known tells (subst (λ a. KnowsAbove a (view c.args.pass.now)) c.in-Root.is ka).1 kl

pub try_below-requires-clause-read : goal.try_below-requires-clause-read
try_below-requires-clause-read g c = (
  c.requires.read.0,
  (subst (λ a. IsAbove g.K.Kind.layout c.requires.read.0 (g.K.Kind.rank c.args.key.now) a
      c.args.reached.leaf.pid (view c.args.pass.now)) c.in-Node.is c.requires.read.1),
  (leaf-without g.K.Kind.layout c.requires.read.0 (g.K.Kind.rank c.args.key.now) c.args.reached.leaf
      (g.K.Pages.words_of c.args.page.now) (g.K.Pages.words_of c.del.new.page) (g.K.Kind.plain c.args.said.now)
      (view c.args.pass.now) (dels-of g.K.Kind.layout (g.K.Pages.words_of c.args.page.now)
      (g.K.Pages.words_of c.copy.new.into) (g.K.Pages.words_of c.del.new.page) (g.K.Kind.rank c.args.key.now)
      c.copy.ensures.words c.del.ensures.leaf) c.requires.read.2),
)

pub returns-clause-tried : goal.returns-clause-tried
returns-clause-tried g c v above read = (
  g.K.Pages.words_of c.del.new.page,
  (leaf-without g.K.Kind.layout v (g.K.Kind.rank c.args.key.now) c.args.reached.leaf
      (g.K.Pages.words_of c.args.page.now) (g.K.Pages.words_of c.del.new.page) (g.K.Kind.plain c.args.said.now)
      (view c.args.pass.now) (dels-of g.K.Kind.layout (g.K.Pages.words_of c.args.page.now)
      (g.K.Pages.words_of c.copy.new.into) (g.K.Pages.words_of c.del.new.page) (g.K.Kind.rank c.args.key.now)
      c.copy.ensures.words c.del.ensures.leaf) read).edit,
  subst (λ a. IsMergeTried g.K.Kind.plain g.K.Kind.layout v (g.K.Kind.rank c.args.key.now) a c.args.reached.leaf
      (g.K.Pages.words_of c.args.page.now) (g.K.Pages.words_of c.del.new.page) (g.K.Kind.plain c.args.said.now)
      c.try_below.result (view c.args.pass.now) (view c.try_below.new.pass)) (sym c.in-Node.is)
      (c.try_below.ensures.tried v
      (subst (λ a. IsAbove g.K.Kind.layout v (g.K.Kind.rank c.args.key.now) a c.args.reached.leaf.pid
      (view c.args.pass.now)) c.in-Node.is above)
      (leaf-without g.K.Kind.layout v (g.K.Kind.rank c.args.key.now) c.args.reached.leaf
      (g.K.Pages.words_of c.args.page.now) (g.K.Pages.words_of c.del.new.page) (g.K.Kind.plain c.args.said.now)
      (view c.args.pass.now) (dels-of g.K.Kind.layout (g.K.Pages.words_of c.args.page.now)
      (g.K.Pages.words_of c.copy.new.into) (g.K.Pages.words_of c.del.new.page) (g.K.Kind.rank c.args.key.now)
      c.copy.ensures.words c.del.ensures.leaf) read)),
)

pub returns-clause-sure : goal.returns-clause-sure
returns-clause-sure g c tells kl ka =
    c.try_below.ensures.sure tells (subst (λ a. KnowsAbove a (view c.args.pass.now)) c.in-Node.is ka) kl

pub returns-clause-known : goal.returns-clause-known
returns-clause-known g c tells kl ka =
    c.try_below.ensures.known tells (subst (λ a. KnowsAbove a (view c.args.pass.now)) c.in-Node.is ka) kl
