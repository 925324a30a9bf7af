-- What a run answers before its history is kept.
use Rattle.std.specs.Prelude.{◌≡◌, ◌⊎◌, Err, Ok, Option, Result, ℕ}
use Rattle.vm_io.specs.Shown.{Shown}
use Rattle.vm_map.specs.declared.call.Said.{Said}
use Rattle.vm_bytes_laws.specs.declared.call.KeySaid.{KeySaid}
use Rattle.vm_reading.specs.from_vm_pool.declared_ended_Ended.{Ended}
use Rattle.vm_words.specs.declared.Run.{Run}
use Rattle.vm_words.specs.declared.Command.TheVariants as commands
use Rattle.vm_reading.specs.from_vm_endings.{Commands.limits_of, Commands.order_of, declared_stop_Quantity.Quantity}
use Rattle.vm_reading.specs.from_vm_endings.{declared_stop_Stop.Stop, declared_stop_Stop_TheVariants.Shape}
use Rattle.vm_reading.specs.from_vm_endings.{declared_undone_Undone_TheVariants.Memory, declared_undone_Undone_TheVariants.Stopped}
use Rattle.vm_reading.specs.from_vm_endings.{declared_undone_Undone.Undone, Deliveries.Content, Deliveries.content_of, Tests.AllPass}
use Rattle.vm_reading.specs.from_vm_endings.{Outside.nothing_left, Outside.nowhere, Outside.Outside, Outside.Remains, Tests.StopsAt}
use Rattle.vm_reading.specs.from_vm_endings.KeyRuns.{IsFlushedKeyRun, IsUnflushedKeyRun, OfKeyFiles}
use Rattle.vm_reading.specs.from_vm_endings.Runs.{IsFlushedRun, IsUnflushedRun, OfFiles}
use Rattle.vm_runs.specs.declared.outcome.Outcome.{Outcome}

-- what the test of a run's numbers answers: the number of workers, or the first number that is outside its limits
abbrev pub TellsLimits : Run → Result ℕ Quantity → Type 0
TellsLimits run (Ok workers) = (workers ≡ run.workers) × AllPass nowhere (limits_of run)
TellsLimits run (Err quantity) = StopsAt nowhere nothing_left (limits_of run) (Shape quantity)

-- why a run's calls were not made
abbrev pub StopsRun : Outside → Remains → Run → Undone Stop → Type 0
StopsRun outside left run Memory = Unit {0}
StopsRun outside left run (Stopped stop) = StopsAt outside left (order_of (commands.Run run)) stop

-- what a run's calls come to on the tree of its image, of pages of n words
abbrev pub DoesRun : (n : ℕ) {U : Type 0} → Run → Option Shown → Content → Ended U Said → Type 0
DoesRun n run shown content end = ((content.status ≡ 0) × OfFiles n shown run (IsFlushedRun n run end content))
    ⊎ ((content.status ≡ 7) × OfFiles n shown run (IsUnflushedRun n run end content))

-- and on one with byte keys
abbrev pub DoesKeyRun : {U : Type 0} → Run → Option Shown → Content → Ended U KeySaid → Type 0
DoesKeyRun run shown content end = ((content.status ≡ 0) × OfKeyFiles shown run (IsFlushedKeyRun run end content))
    ⊎ ((content.status ≡ 7) × OfKeyFiles shown run (IsUnflushedKeyRun run end content))

-- what the calls come to, or why they were not made
abbrev pub AnswersBy : {A : Type 0} → (does : A → Type 0) → Run → Outside → Remains → Result A (Undone Stop) → Type 0
AnswersBy does run outside left (Ok outcome) = AllPass outside (order_of (commands.Run run)) × does outcome
AnswersBy does run outside left (Err undone) = StopsRun outside left run undone

abbrev pub AnswersRun : (n : ℕ) {U : Type 0} → Run → Outside → Remains → Result (Outcome U Said) (Undone Stop) → Type 0
AnswersRun n run outside left result = AnswersBy
    (λ outcome. DoesRun n run outside.shown (content_of outcome.delivery) outcome.ended) run outside left result

abbrev pub AnswersKeyRun : {U : Type 0} → Run → Outside → Remains → Result (Outcome U KeySaid) (Undone Stop) → Type 0
AnswersKeyRun run outside left result = AnswersBy
    (λ outcome. DoesKeyRun run outside.shown (content_of outcome.delivery) outcome.ended) run outside left result
