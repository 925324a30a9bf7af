-- The parts of a churn: its numbers, once they were tested, and what serving its calls leaves.
use Rattle.std.specs.Prelude.{[], ◌*◌, ◌≡◌, ◌≤◌, Err, length, List, Ok, Result, Some, ℕ}
use Rattle.vm_map.specs.declared.call.Said.{Said}
use Rattle.vm_page.specs.Sizes.{IsSize}
use Rattle.vm_block.specs.declared.memory.MemBlock.{MemBlock}
use Rattle.vm_image.specs.File.{most_pages}
use Rattle.vm_build.specs.{Build.IsBuilt, Numbers.numbered}
use Rattle.vm_reading.specs.from_vm_pool.Closing.{view_at_end}
use Rattle.vm_reading.specs.from_vm_serve.{declared_serving_ServedOn.ServedOn, Served.IsServedInto}
use Rattle.vm_reading.specs.from_vm_churn.{Calls.churn_lists, declared_tally_Tally.Tally, Tallies.StandsFor}
use Rattle.vm_words.specs.declared.Churn.{Churn}
use Rattle.vm_words.specs.declared.Command.TheVariants as commands
use Rattle.vm_reading.specs.from_vm_endings.{Churns.churn_pages, Commands.order_of, declared_stop_Quantity.Quantity}
use Rattle.vm_reading.specs.from_vm_endings.{declared_stop_Stop_TheVariants.Shape}
use Rattle.vm_reading.specs.from_vm_endings.{Limits.words_or, Outside.nowhere, Outside.Outside, Outside.Remains}
use Rattle.vm_reading.specs.from_vm_endings.{Tests.AllPass, Tests.StopsAt}
use Rattle.vm_runs.specs.declared.churn.Load.{Load}

-- the numbers are within their limits
pub record IsWithinLimits (load : Load) : Type 0 where
  pub pairs : load.pairs ≤ 100000
  pub workers : (1 ≤ load.workers) × (load.workers ≤ 64)
  pub frames : (64 ≤ load.frames) × (load.frames ≤ 65536) × (8 * load.workers ≤ load.frames)
  pub words : IsSize load.words

-- the command that asks for these numbers
abbrev pub asked : Load → Churn
asked load = record { pairs = load.pairs; seed = load.seed; workers = load.workers; frames = load.frames; words = Some load.words }

-- the same command, where it says how many words a page has
abbrev pub spelt : Churn → Churn
spelt churn = record churn { words = Some (words_or churn.words) }

-- what the tests answer: the numbers, or the first that is outside its limits. None of them is of a file
abbrev pub TellsLoad : Churn → Result Load Quantity → Type 0
TellsLoad churn (Ok load) = (asked load ≡ spelt churn) × IsWithinLimits load × AllPass nowhere (order_of (commands.Churn churn))
TellsLoad churn (Err quantity) =
    (outside : Outside) (left : Remains) → StopsAt outside left (order_of (commands.Churn churn)) (Shape quantity)

-- what serving the calls leaves: the tree was built, and they were made on it
pub record IsLoaded (n : ℕ) {U : Type 0} (load : Load) (s : ServedOn U Tally (MemBlock n) Said) : Type 0 where
  pub pages : List (List ℕ)
  pub some : 2 ≤ length pages
  pub most : length pages ≤ most_pages n
  pub built : IsBuilt n (churn_pages n load.pairs) (numbered load.seed load.pairs) pages
  pub made : IsServedInto n StandsFor pages [] (churn_lists load.pairs load.seed load.workers) s.kept.items s.report s.blocks.items s.ended
  pub version : (view_at_end s.ended).start.version ≡ 0
  pub frames : (view_at_end s.ended).start.frames ≡ load.frames
