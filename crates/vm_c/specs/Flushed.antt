-- What flushing a store answers.
use Rattle.std.specs.Prelude.{◌≡◌}
use Rattle.std.specs.Arc.{arc_value}
use Rattle.vm_step.specs.Prelude.{view}
use Rattle.vm_face.specs.from_vm_evict.declared_flushing_Flushed.{Flushed}
use Rattle.vm_face.specs.from_vm_evict.Flushes.{IsFlushed}
use Rattle.vm_c.specs.{declared.flushing.FlushTold.FlushTold, declared.opened.OpenStore.OpenStore}

-- The store's dirty pages were written but for those that somebody had locked, as is told: how many were, how many
-- writes failed, how many pages were busy. It is as it was but for what its pass knows
pub record HasFlushed (before after : OpenStore) (told : FlushTold) : Type 0 where
  pub report : Flushed
  pub flushed : IsFlushed report (view before.store.pass) (view after.store.pass)
  pub tells : told ≡ record { written = report.written; failed = report.failed; busy = report.busy }
  pub rest : (arc_value after.store.pool ≡ arc_value before.store.pool) × (after.store.homes ≡ before.store.homes)
      × (after.store.ever ≡ before.store.ever)
