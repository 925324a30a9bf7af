-- What is said is the window that was read.
use Rattle.std.proofs.Common.{arith, refl}
use Rattle.vm_node.proofs.Telling.{told_so}
use Rattle.vm_kind.proofs.word_keys.WordKeysWindows.window_at.Goals as goal

pub returns-clause-told : goal.returns-clause-told
returns-clause-told g c = (
  c.window_at-window.result,
  refl,
  told_so (omega arith) c.window_at-window.ensures.told (λ words size shows. shows),
)
