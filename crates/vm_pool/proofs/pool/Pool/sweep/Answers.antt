use Rattle.vm_pool.proofs.{Keeping.swept-keeps, Sweeping.held-come, Sweeping.swept}
use Rattle.vm_pool.proofs.Prelude.{AreCandidates, held-on, IsFreed, List, subst, sym, view, ℕ}
use Rattle.vm_pool.proofs.pool.Pool.sweep.Goals as goal

pub free-requires-clause-frames : goal.free-requires-clause-frames
free-requires-clause-frames g c =
    held-come _ _ (view c.candidates-chosen.new.pass) (view c.evict-evicted.new.pass)
    (held-on _ (view c.args.pass.now) (view c.candidates-chosen.new.pass) c.requires.frames
    c.candidates-chosen.ensures.chosen.aside.start c.candidates-chosen.ensures.chosen.keeps.frames)
    c.evict-evicted.ensures.evicted.aside.start
    c.evict-evicted.ensures.evicted.frames

pub returns-clause-swept : goal.returns-clause-swept
returns-clause-swept g c =
    swept _ _ _ _ _ _ _ _ _ _ _ _
    (subst (λ (n : ℕ). AreCandidates n c.candidates-chosen.result.list.items)
    (sym c.requires.ready.table.is_shape.pages) c.candidates-chosen.ensures.list)
    c.candidates-chosen.ensures.chosen c.evict-evicted.ensures.evicted
    (subst (λ (l : List ℕ). IsFreed c.args.iface.now.cap c.args.iface.now.frames c.evict-evicted.result.frames l
    (view c.evict-evicted.new.pass) (view c.free.new.pass)) (sym c.add_swept.ensures.same.2) c.free.ensures.freed)

pub returns-clause-keeps : goal.returns-clause-keeps
returns-clause-keeps g c = swept-keeps _ _ _ _ _ _ _ (returns-clause-swept g c)
