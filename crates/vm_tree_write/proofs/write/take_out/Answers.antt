use Rattle.std.proofs.Common.{inr, sym}
use Rattle.vm_tree_merge.specs.from_vm_step.Prelude.{view}
use Rattle.vm_tree_merge.proofs.from_vm_tree_rule.{Entering.opened-reads, Showing.none-some}
use Rattle.vm_tree_write.proofs.Telling.{del-done, del-merged}
use Rattle.vm_tree_write.proofs.Apart.{left-awaits, left-open, left-read, read-of, why-alone}
use Rattle.vm_tree_write.proofs.write.take_out.Goals as goal

pub returns-in-Made-clause-tried : goal.returns-in-Made-clause-tried
returns-in-Made-clause-tried g c v above opened awaits read =
    let t = c.in-Made.ensures.tried v above
    (read-of g.K.Kind.layout v (g.K.Kind.rank c.args.key.now) c.args.was c.args.reached.leaf
    (g.K.Pages.words_of c.args.page.now) _ (view c.args.pass.now) opened awaits read c.requires.leaf.1
    c.gone-said.ensures c.requires.there) in
    del-merged g.K.Kind.plain g.K.Kind.layout _ (g.K.Kind.rank c.args.key.now) c.args.was v _ c.gone-said.ensures t.2.0

-- ---- the leaf is written alone

pub write_leaf-requires-clause-reading : goal.write_leaf-requires-clause-reading
write_leaf-requires-clause-reading g c =
    let t = c.in-Alone.ensures.tried c.requires.read.0 c.requires.read.1
    (read-of g.K.Kind.layout c.requires.read.0 (g.K.Kind.rank c.args.key.now) c.args.was c.args.reached.leaf
    (g.K.Pages.words_of c.args.page.now) _ (view c.args.pass.now) c.requires.read.2 c.requires.read.3
    c.requires.read.4 c.requires.leaf.1 c.gone-said.ensures c.requires.there) in
    (left-open c.requires.read.0 c.args.reached.leaf c.in-Alone.leaf (view c.args.pass.now)
    (view c.try_merge.new.pass) t.2.0 t.2.1 c.requires.read.2).reading

pub write_leaf-requires-clause-loads : goal.write_leaf-requires-clause-loads
write_leaf-requires-clause-loads g c =
    let t = c.in-Alone.ensures.tried c.requires.read.0 c.requires.read.1
    (read-of g.K.Kind.layout c.requires.read.0 (g.K.Kind.rank c.args.key.now) c.args.was c.args.reached.leaf
    (g.K.Pages.words_of c.args.page.now) _ (view c.args.pass.now) c.requires.read.2 c.requires.read.3
    c.requires.read.4 c.requires.leaf.1 c.gone-said.ensures c.requires.there) in
    left-read c.args.reached.leaf c.in-Alone.leaf (g.K.Pages.words_of c.args.page.now) (view c.args.pass.now)
    (view c.try_merge.new.pass) t.2.0 t.2.1 c.requires.read.4

pub returns-in-Ok-clause-tried : goal.returns-in-Ok-clause-tried
returns-in-Ok-clause-tried g c v above opened awaits read =
    let t = c.in-Alone.ensures.tried v above
    (read-of g.K.Kind.layout v (g.K.Kind.rank c.args.key.now) c.args.was c.args.reached.leaf
    (g.K.Pages.words_of c.args.page.now) _ (view c.args.pass.now) opened awaits read c.requires.leaf.1
    c.gone-said.ensures c.requires.there) in
    let still = left-open v c.args.reached.leaf c.in-Alone.leaf (view c.args.pass.now) (view c.try_merge.new.pass) t.2.0 t.2.1 opened in
    del-done g.K.Kind.plain g.K.Kind.layout _ (g.K.Kind.rank c.args.key.now) c.args.was c.in-Alone.leaf.pid
    c.in-Alone.leaf.word (g.K.Pages.words_of c.args.page.now) t.0 v (view c.try_merge.new.pass)
    (view c.write_leaf.new.pass) c.gone-said.ensures
    (opened-reads _ _ _ _ _ still) c.in-Ok.ensures.ok t.1
    (why-alone g.K.Kind.plain g.K.Kind.layout v (g.K.Kind.rank c.args.key.now) c.args.reached.leaf c.in-Alone.leaf
    (g.K.Pages.words_of c.args.page.now) t.0 _ (view c.try_merge.new.pass) (view c.write_leaf.new.pass) t.2.0
    t.2.2 c.in-Ok.ensures.ok)

pub returns-in-Alone-clause-tried : goal.returns-in-Alone-clause-tried
returns-in-Alone-clause-tried g c v above opened awaits read =
    let t = c.in-Alone.ensures.tried v above
    (read-of g.K.Kind.layout v (g.K.Kind.rank c.args.key.now) c.args.was c.args.reached.leaf
    (g.K.Pages.words_of c.args.page.now) _ (view c.args.pass.now) opened awaits read c.requires.leaf.1
    c.gone-said.ensures c.requires.there) in
    c.unwritten.ensures.del (g.K.Kind.rank c.args.key.now) c.in-Alone.leaf.pid c.in-Alone.leaf.word
    c.in-Alone.leaf.frame (g.K.Pages.words_of c.args.page.now) v (view c.try_merge.new.pass)
    (view c.write_leaf.new.pass)
    (left-open v c.args.reached.leaf c.in-Alone.leaf (view c.args.pass.now) (view c.try_merge.new.pass) t.2.0 t.2.1 opened)
    (left-awaits g.K.Kind.layout (g.K.Kind.rank c.args.key.now) c.args.reached.leaf c.in-Alone.leaf
    (view c.args.pass.now) (view c.try_merge.new.pass) t.2.0 t.2.1 awaits)
    (left-read c.args.reached.leaf c.in-Alone.leaf (g.K.Pages.words_of c.args.page.now) (view c.args.pass.now)
    (view c.try_merge.new.pass) t.2.0 t.2.1 read)
    c.requires.leaf (λ low high rises none. none-some _ c.args.was none (sym (c.requires.there low high rises))) c.in-Err.ensures.err

-- ---- nothing was done

pub returns-in-Turned-clause-tried : goal.returns-in-Turned-clause-tried
returns-in-Turned-clause-tried g c v above opened awaits read =
    let t = c.in-Turned.ensures.tried v above
    (read-of g.K.Kind.layout v (g.K.Kind.rank c.args.key.now) c.args.was c.args.reached.leaf
    (g.K.Pages.words_of c.args.page.now) _ (view c.args.pass.now) opened awaits read c.requires.leaf.1
    c.gone-said.ensures c.requires.there) in
    c.not_yet.ensures.beside (g.K.Kind.rank c.args.key.now) v (view c.try_merge.new.pass) t.2

pub returns-clause-tried : goal.returns-clause-tried
returns-clause-tried g c v above opened awaits read =
    let t = c.in-Lost.ensures.tried v above
    (read-of g.K.Kind.layout v (g.K.Kind.rank c.args.key.now) c.args.was c.args.reached.leaf
    (g.K.Pages.words_of c.args.page.now) _ (view c.args.pass.now) opened awaits read c.requires.leaf.1
    c.gone-said.ensures c.requires.there) in
    inr t.2
