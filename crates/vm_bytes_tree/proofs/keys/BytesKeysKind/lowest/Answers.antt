-- No string is below the empty one.
use Rattle.std.proofs.Common.{◌∙◌, ap}
use Rattle.vm_bytes_form.specs.Strings.{rank}
use Rattle.vm_bytes_form.proofs.EditLaws.{rank-nil}
use Rattle.vm_bytes_tree.proofs.keys.BytesKeysKind.lowest.Goals as goal

pub returns : goal.returns
returns c = ap rank c.new.ensures ∙ rank-nil
