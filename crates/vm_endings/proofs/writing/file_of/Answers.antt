use Rattle.vm_endings.proofs.FileWords.{tree_file}
use Rattle.vm_endings.proofs.writing.file_of.Goals as goal

pub returns-in-Ok-clause-bytes : goal.returns-in-Ok-clause-bytes
returns-in-Ok-clause-bytes g c = tree_file g.row.N _ _ c.requires.sized c.requires.tree c.in-Ok.ensures.back.0 c.in-Ok.ensures.back.1
