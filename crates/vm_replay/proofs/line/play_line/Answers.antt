use Rattle.std.proofs.Common.{◌∙◌, subst, sym}
use Rattle.vm_core.specs.Prelude.{core_of}
use Rattle.vm_script.specs.SeenTexts.{FitsLine}
use Rattle.vm_replay.proofs.{Seeing.replay_fits, Stopping.line_stops}
use Rattle.vm_replay.proofs.line.play_line.Goals as goal

pub seen_text-requires : goal.seen_text-requires
seen_text-requires c =
    let fits = replay_fits (core_of c.args.core.now) (core_of c.replay_kept.new.core) c.args.line.now
    c.deref.result.now c.in-Ok.seen.items (c.deref.ensures.value ∙ c.in_ok-events.ensures) c.in-Ok.ensures.ok in
    subst (λ s. FitsLine c.args.line.now s) (sym c.deref-in-Ok.ensures.value) fits

pub returns-in-Err-Illegal : goal.returns-in-Err-Illegal
returns-in-Err-Illegal c = (
  line_stops (core_of c.args.core.now) (core_of c.replay_kept.new.core) c.args.line.now c.deref.result.now
      c.in-Err-Illegal.field-0-0 c.in-Err-Illegal.field-0 (c.deref.ensures.value ∙ c.in_ok-events.ensures)
      c.in-Err-Illegal.field-0-is
      c.in-Err-Illegal.ensures.err,
  c.in_ok-illegal_text-in-Err-Illegal.ensures,
)
