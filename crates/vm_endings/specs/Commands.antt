-- The commands as tables: of each what it asks before it does anything, in which order; what it does with status 0; and how else it may end
-- when nothing stopped it. A further command is one more row of each.
use Rattle.std.specs.Prelude.{[], ◌++◌, ◌∷◌, ◌≡◌, false, List, true, ℕ}
use Rattle.vm_words.specs.{declared.Command.Command, declared.Run.Run, declared.Serve.Serve}
use Rattle.vm_words.specs.declared.Command.TheVariants as commands
use Rattle.vm_replay.specs.Told.{PlayedFile}
use Rattle.vm_endings.specs.{Checks.ToldCheck, Churns.ToldChurn, declared.ends.Ends.Ends, Deliveries.Content}
use Rattle.vm_endings.specs.{Files.HasFile, Makes.ToldMake, MakesBytes.ToldMakeBytes, Migrates.ToldMigrate, Replays.PlayedReplay}
use Rattle.vm_endings.specs.declared.stop.Quantity.TheVariants.{Fail, FirstVersion, Frames, Pages, Pairs, Words, Workers}
use Rattle.vm_endings.specs.Limits.{are_entries, are_frames, are_pages, are_pairs_to_churn, are_pairs_to_make}
use Rattle.vm_endings.specs.Limits.{are_words, are_workers, is_version, words_or}
use Rattle.vm_endings.specs.{AnyRuns.CutRun, AnyRuns.ToldRun, Outside.Outside, Outside.Remains, Runs.version_or}
use Rattle.vm_endings.specs.{Serves.CutServe, Serves.ToldServe}
use Rattle.vm_endings.specs.Tests.{any_image, depth, events, image, room, run_script, script, space, stored}
use Rattle.vm_endings.specs.Tests.{stored_depth, Test, within}

-- the numbers of a run
abbrev pub limits_of : Run → List Test
limits_of run =
    within Workers (are_workers run.workers)
    ∷ within Frames (are_frames run.workers run.frames)
    ∷ within FirstVersion (is_version (version_or run.options.first_version))
    ∷ within Fail (are_entries run.options.fail.items)
    ∷ []

-- the numbers of a serve
abbrev pub limits_to_serve : Serve → List Test
limits_to_serve serve = within Workers (are_workers serve.workers) ∷ within Frames (are_frames serve.workers serve.frames) ∷ []

-- what a command asks before it does anything
abbrev pub order_of : Command → List Test
order_of (commands.Run run) =
    limits_of run
    ++ any_image run.image.now
    ∷ depth run.frames run.image.now
    ∷ run_script run.image.now run.script.now run.workers
    ∷ []
order_of (commands.Make make) =
    within Pages (are_pages (words_or make.words) make.pages)
    ∷ within Pairs (are_pairs_to_make make.pairs)
    ∷ within Words (are_words (words_or make.words))
    ∷ room (words_or make.words) make.pages make.pairs
    ∷ []
order_of (commands.Check check) = any_image check.file.now ∷ []
order_of (commands.Churn churn) =
    within Pairs (are_pairs_to_churn churn.pairs)
    ∷ within Workers (are_workers churn.workers)
    ∷ within Frames (are_frames churn.workers churn.frames)
    ∷ within Words (are_words (words_or churn.words))
    ∷ []
order_of (commands.Replay replay) = events replay.file.now ∷ []
order_of (commands.Migrate migrate) =
    within Pages (are_pages 512 migrate.pages) ∷ image migrate.input.now ∷ space migrate.pages migrate.input.now ∷ []
order_of (commands.Serve serve) =
    limits_to_serve serve
    ++ stored serve.file.now ∷ stored_depth serve.frames serve.file.now ∷ script serve.script.now serve.workers ∷ []
order_of (commands.MakeBytes make) = within Pages (are_pages 512 make.pages) ∷ []

-- what status 0 says of a command: what it gave, what remains outside, and what is kept in `after`
abbrev pub ToldCommand : Command → Outside → Remains → Content → Ends → Ends → Type 0
ToldCommand (commands.Run run) outside left content before after = ToldRun run outside.shown content after
ToldCommand (commands.Make make) outside left content before after = ToldMake make content × (after ≡ before)
ToldCommand (commands.Check check) outside left content before after = ToldCheck check outside.shown content × (after ≡ before)
ToldCommand (commands.Churn churn) outside left content before after = ToldChurn churn content after
ToldCommand (commands.Replay replay) outside left content before after = PlayedReplay true replay outside.shown content × (after ≡ before)
ToldCommand (commands.Migrate migrate) outside left content before after = ToldMigrate migrate outside.shown content × (after ≡ before)
ToldCommand (commands.Serve serve) outside left content before after = ToldServe serve outside left content after
ToldCommand (commands.MakeBytes make) outside left content before after = ToldMakeBytes make content × (after ≡ before)

-- how else it may end, and with which status
abbrev pub Cut : Command → Outside → Remains → Content → Ends → Ends → Type 0
Cut (commands.Run run) outside left content before after = CutRun run outside.shown content after × (content.status ≡ 7)
Cut (commands.Make make) outside left content before after = ⊥
Cut (commands.Check check) outside left content before after = ⊥
Cut (commands.Churn churn) outside left content before after = ⊥
Cut (commands.Replay replay) outside left content before after =
    (PlayedReplay false replay outside.shown content × (after ≡ before)) × (content.status ≡ 5)
Cut (commands.Migrate migrate) outside left content before after = ⊥
Cut (commands.Serve serve) outside left content before after = CutServe serve outside left content after × (content.status ≡ 7)
Cut (commands.MakeBytes make) outside left content before after = ⊥

-- nothing in what is asked for makes it end so: no failures of blocks are planned; every event is legal
abbrev pub IsSmooth : Command → Outside → Type 0
IsSmooth (commands.Run run) outside = run.options.fail.items ≡ []
IsSmooth (commands.Make make) outside = Unit {0}
IsSmooth (commands.Check check) outside = Unit {0}
IsSmooth (commands.Churn churn) outside = Unit {0}
IsSmooth (commands.Replay replay) outside = HasFile outside.shown replay.file.now (λ bytes. (text : List ℕ) × PlayedFile bytes text true)
IsSmooth (commands.Migrate migrate) outside = Unit {0}
IsSmooth (commands.Serve serve) outside = Unit {0}
IsSmooth (commands.MakeBytes make) outside = Unit {0}
