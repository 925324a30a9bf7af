use Rattle.vm_endings.proofs.KeyFileBytes.{key_tree_file}
use Rattle.vm_endings.proofs.writing.key_file_of.Goals as goal

pub returns-in-Ok-clause-bytes : goal.returns-in-Ok-clause-bytes
returns-in-Ok-clause-bytes c = key_tree_file _ _ c.requires c.in-Ok.ensures.bytes c.in-Ok.ensures.back.0 c.in-Ok.ensures.back.1
