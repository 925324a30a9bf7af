use Rattle.std.proofs.Common.{⊎_elim, ◌≤◌, arith}
use Rattle.vm_event.specs.Prelude.{at, MAX_COUNT}
use Rattle.vm_rule.specs.Prelude.{no_block}
use Rattle.vm_drive.specs.from_vm_pool.Closing.{view_at_end}
use Rattle.vm_drive.specs.Prelude.{notes_about}
use Rattle.vm_serve.proofs.laws.faults_are_counted.Goals as goal

pub returns : goal.returns
returns c n tells pages before lists replies report blocks end is p none some =
    ⊎_elim
    (λ (l : notes_about p (view_at_end end).notes ≤ (at no_block blocks p).count). omega (arith, is.noted p, none, some, l))
    (λ (l : MAX_COUNT ≤ (at no_block blocks p).count). omega (arith, none, l))
    (is.counted p)
