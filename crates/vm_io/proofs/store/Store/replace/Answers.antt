use Rattle.std.proofs.Common.{rules, refl}
use Rattle.vm_io.proofs.Places.{found_bytes, found_put}
use Rattle.vm_io.proofs.store.Store.replace.Goals as goal

pub returns-clause-exact : goal.returns-clause-exact
returns-clause-exact c = let there = found_bytes _ _ _ _ (rw c.deref.ensures.value at c.in-Some.ensures)
    c.index_mut.ensures.value in rw there (search rules)

pub returns-clause-held : goal.returns-clause-held
returns-clause-held c = λ _. found_put _ _ _ _ _ _ _ (rw c.deref.ensures.value at c.in-Some.ensures)
    c.index_mut.ensures.value refl c.put_over.ensures.bytes
