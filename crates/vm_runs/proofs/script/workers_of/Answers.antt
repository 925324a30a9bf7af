use Rattle.std.proofs.Common.{◌∙◌, ◌≡◌, ap, false, refl, sym, true}
use Rattle.vm_reading.specs.from_vm_endings.{Runs.version_or, Tests.here, Tests.past}
use Rattle.vm_reading.specs.from_vm_endings.Limits.{are_entries, are_frames, are_workers, is_version}
use Rattle.vm_runs.proofs.Outcomes.{version_is}
use Rattle.vm_runs.proofs.script.workers_of.Goals as goal

pub returns-then-not-are_workers : goal.returns-then-not-are_workers
returns-then-not-are_workers c =
    let workers : are_workers c.args.run.now.workers ≡ false = sym c.are_workers.ensures ∙ c.if-not-are_workers.true in
    here (workers, refl)

pub returns-then-not-are_frames : goal.returns-then-not-are_frames
returns-then-not-are_frames c =
    let workers : are_workers c.args.run.now.workers ≡ true = sym c.are_workers.ensures ∙ c.if-not-are_workers.false in
    let frames : are_frames c.args.run.now.workers c.args.run.now.frames ≡ false = sym c.are_frames.ensures ∙ c.if-not-are_frames.true in
    past workers (here (frames, refl))

pub returns-then-not-is_version : goal.returns-then-not-is_version
returns-then-not-is_version c =
    let workers : are_workers c.args.run.now.workers ≡ true = sym c.are_workers.ensures ∙ c.if-not-are_workers.false in
    let frames : are_frames c.args.run.now.workers c.args.run.now.frames ≡ true = sym c.are_frames.ensures ∙ c.if-not-are_frames.false in
    let first = c.unwrap_or.ensures ∙ version_is c.args.run.now.options.first_version in
    let version : is_version (version_or c.args.run.now.options.first_version) ≡ false = sym (ap is_version first)
    ∙ sym c.is_version.ensures ∙ c.if-not-is_version.true in
    past workers (past frames (here (version, refl)))

pub returns-then-not-are_entries : goal.returns-then-not-are_entries
returns-then-not-are_entries c =
    let workers : are_workers c.args.run.now.workers ≡ true = sym c.are_workers.ensures ∙ c.if-not-are_workers.false in
    let frames : are_frames c.args.run.now.workers c.args.run.now.frames ≡ true = sym c.are_frames.ensures ∙ c.if-not-are_frames.false in
    let first = c.unwrap_or.ensures ∙ version_is c.args.run.now.options.first_version in
    let version : is_version (version_or c.args.run.now.options.first_version) ≡ true = sym (ap is_version first)
    ∙ sym c.is_version.ensures ∙ c.if-not-is_version.false in
    let entries : are_entries c.args.run.now.options.fail.items ≡ false =
    sym (ap are_entries c.as_slice.ensures.value) ∙ sym c.are_entries.ensures ∙ c.if-not-are_entries.true in
    past workers (past frames (past version (here (entries, refl))))

pub returns : goal.returns
returns c =
    let workers : are_workers c.args.run.now.workers ≡ true = sym c.are_workers.ensures ∙ c.if-not-are_workers.false in
    let frames : are_frames c.args.run.now.workers c.args.run.now.frames ≡ true = sym c.are_frames.ensures ∙ c.if-not-are_frames.false in
    let first = c.unwrap_or.ensures ∙ version_is c.args.run.now.options.first_version in
    let version : is_version (version_or c.args.run.now.options.first_version) ≡ true = sym (ap is_version first)
    ∙ sym c.is_version.ensures ∙ c.if-not-is_version.false in
    let entries : are_entries c.args.run.now.options.fail.items ≡ true = sym (ap are_entries c.as_slice.ensures.value)
    ∙ sym c.are_entries.ensures ∙ c.if-not-are_entries.false in
    (refl, (workers, (frames, (version, (entries, tt)))))
