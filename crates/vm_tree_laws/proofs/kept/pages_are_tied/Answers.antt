use Rattle.vm_tree_laws.proofs.Ties.{ties_hold}
use Rattle.vm_tree_laws.proofs.kept.pages_are_tied.Goals as goal

pub returns-clause-pages : goal.returns-clause-pages
returns-clause-pages c = ties_hold

pub returns-clause-itself : goal.returns-clause-itself
returns-clause-itself c L laws start kept p keeps lt = ties_hold L laws start kept p p keeps lt
