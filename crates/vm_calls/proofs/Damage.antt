-- A call that met a damaged page: the page is one of the table's, and blocks do not tell their words.
use Rattle.std.proofs.Common.{◌<◌, subst, ℕ}
use Rattle.vm_map.specs.declared.window.Bound.{Bound}
use Rattle.vm_step.specs.Prelude.{Origin, View}
use Rattle.vm_tree_model.specs.Layout.{Layout}
use Rattle.vm_tree_range.specs.from_vm_tree_rule.{Leaves.ReadsOn, Standing.IsOpened, Turns.IsDamaged}
use Rattle.vm_tree_range.proofs.from_vm_tree_rule.Entering.{opened-reads}
use Rattle.vm_tree_range.specs.declared.hold.TryRange.TheVariants as ranges
use Rattle.vm_tree_range.specs.Ranges.{HoldsSilently, IsRangeStopped}
use Rattle.vm_tree_range.proofs.RangeRounds.{damaged-stopped}
use Rattle.vm_tree_retry.specs.Prelude.{IsDamagedBeside}
use Rattle.vm_calls.specs.Causes.{IsUntold}
use Rattle.vm_calls.proofs.Tracing.{untold-later}

module _ {X : Type 0} (L : Layout) where
  opened-inside : (p word frame : ℕ) (v x : View X) → IsOpened v p word frame x → p < v.start.pages
  opened-inside p word frame v x o =
      subst (λ (s : Origin). p < s.pages) (opened-reads p word frame v x o).0.start o.reading.page

  pub damaged-untold : (key p : ℕ) (v w : View X) → ReadsOn v w → IsDamaged L v key p w → IsUntold w p
  damaged-untold key p v w reads d = untold-later v w p reads.0.start (d.untold, opened-inside p d.word d.frame v d.found d.opened)

  pub beside-untold : (key p : ℕ) (v w : View X) → ReadsOn v w → IsDamagedBeside L v key p w → IsUntold w p
  beside-untold key p v w reads d =
      untold-later v w p reads.0.start
      (subst (λ (n : ℕ). IsUntold v n) d.page (d.untold, opened-inside d.up.pid d.up.word d.up.frame v d.found d.opened))

  pub range-untold : (low : ℕ) (bound : Bound) (p : ℕ) (v w : View X) → HoldsSilently v w
      → IsRangeStopped L low bound (ranges.Damaged p) v w → IsUntold w p
  range-untold low bound p v w holds stopped = untold-later v w p holds.0.start (damaged-stopped L low bound p v w stopped)
