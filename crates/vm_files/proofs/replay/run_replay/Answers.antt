use Rattle.std.proofs.Common.{inl, inr, refl}
use Rattle.vm_script.specs.Scripts.{most_bytes}
use Rattle.vm_replay.specs.Told.{PlayedFile}
use Rattle.vm_reading.specs.from_vm_endings.{Outside.with_shown, Outside.with_unread, Scripts.AreBadEvents}
use Rattle.vm_reading.specs.from_vm_endings.Tests.{here}
use Rattle.vm_reading.proofs.Files.{short_file, long_file}
use Rattle.vm_files.proofs.Giving.{replay-gives}
use Rattle.vm_files.proofs.replay.run_replay.Goals as goal
use Rattle.vm_files.proofs.replay.run_replay.Goals.{then-played, else-played}

pub returns-in-Ok-replay_file-clause-gives : goal.returns-in-Ok-replay_file-clause-gives
returns-in-Ok-replay_file-clause-gives g c = λ outside left.
    let played = c.in-Ok-replay_file.played in
    let k = rw c.as_slice.ensures.value at c.in-Ok-replay_file.ensures in
    let has = short_file _ _ _ most_bytes (λ bytes. PlayedFile bytes played.text.items played.is_legal) c.in-Ok.ensures.whole k.short k in
    replay-gives (with_shown outside _) (with_unread left _) c.args.replay.now played.text.items played.is_legal
    c.if-played.status c.line.result has
    (elim c.if-played.branch [
      | then-played w ↦ inl (w.if-played.true, w.status-is)
      | else-played w ↦
          inr (w.if-played.false, w.status-is)
    ]) c.line.ensures

pub returns-in-Err-Long-clause-gives : goal.returns-in-Err-Long-clause-gives
returns-in-Err-Long-clause-gives g c =
    let k = rw c.in-Err-Long.field-0-is at c.in-Err-Long.ensures in
    λ outside left same. (here (refl, long_file _ _ _ _ c.in-Ok.ensures.whole (rw c.as_slice.ensures.value at k)), refl)

pub returns-in-Err-Line-clause-gives : goal.returns-in-Err-Line-clause-gives
returns-in-Err-Line-clause-gives g c =
    let k = rw c.in-Err-Line.field-0-is at c.in-Err-Line.ensures in
    let h = rw c.as_slice.ensures.value at k in
    λ outside left same. (
      here (
        refl,
        short_file _ _ _ most_bytes (AreBadEvents c.in-Err-Line.line) c.in-Ok.ensures.whole h.0
            (record { short = h.0; first = h.1 }),
      ),
      refl,
    )

pub returns-in-Err-Failed-clause-gives : goal.returns-in-Err-Failed-clause-gives
returns-in-Err-Failed-clause-gives g c =
    let k = c.in-Err-Failed.ensures.failed (rw c.in-Err-Failed.field-0-is refl) in
    λ outside left same. (here (refl, k.kept), refl)
