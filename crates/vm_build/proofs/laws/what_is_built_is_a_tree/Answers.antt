use Rattle.vm_build.proofs.Built.{built_is_tree, built_map}
use Rattle.vm_build.proofs.laws.what_is_built_is_a_tree.Goals as goal

pub returns : goal.returns
returns c n pages pairs size rises fits = (built_is_tree n size pages pairs rises fits, built_map n size pages pairs rises)
