use Rattle.vm_tree_model.proofs.Laws.{Rises-map_of}
use Rattle.vm_tree_model.proofs.map_rises.Goals as goal

pub returns : goal.returns
returns c = Rises-map_of
