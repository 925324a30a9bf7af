-- What the window shows of strings it shows of ranks.
use Rattle.std.proofs.Common.{ap, arith, List, ℕ}
use Rattle.vm_map.specs.declared.call.Call.TheVariants.{Window as ForWindow}
use Rattle.vm_map.specs.declared.call.Reply.TheVariants.{Win}
use Rattle.vm_node.proofs.Telling.{told_so}
use Rattle.vm_bytes_form.specs.Strings.{rank}
use Rattle.vm_bytes_laws.specs.Plain.{plain_window}
use Rattle.vm_bytes_laws.proofs.KeyShown.{shows_first}
use Rattle.vm_bytes_tree.proofs.keys.BytesKeysWindows.window_at.Goals as goal

pub returns-clause-told : goal.returns-clause-told
returns-clause-told g c = (
  plain_window c.window_at-window.result,
  ap (λ (s : List ℕ). record { call = ForWindow (rank s) c.args.most; reply = Win (plain_window c.window_at-window.result) })
      c.copied.ensures,
  told_so (omega arith) c.window_at-window.ensures.told
      (λ words size shows. shows_first words c.args.start.now c.args.most c.window_at-window.result c.in_range.ensures.string shows),
)
