use Rattle.vm_guard.proofs.Reading.{word-loaded}
use Rattle.vm_group_guard.proofs.Prelude.{List, LoadTold, slice_index, subst, view, ℕ, ◌+◌}
use Rattle.vm_group_guard.proofs.Validating.{loaded-reads}
use Rattle.vm_group_guard.proofs.reader.GroupReader.word_at.Goals as goal

pub returns-clause-loads : goal.returns-clause-loads
returns-clause-loads g c =
    word-loaded _ _ _ _ _ _ _ (c.requires.reading c.args.k c.requires.page)
    (subst (λ (l : List ℕ). LoadTold (c.args.self.now.head + c.args.k)
    (slice_index l c.args.k) c.args.i c.load_at.result
    (view c.args.pass.now) (view c.load_at.new.pass)) c.as_slice.ensures.value c.load_at.ensures.told)

pub returns-clause-reads : goal.returns-clause-reads
returns-clause-reads g c = loaded-reads _ _ _ _ _ c.args.k _ c.requires.reading (returns-clause-loads g c)
