-- What a sweep does: candidates are chosen and evicted, and their frames go to the interface, or back to the bundles
-- past its cap; and what a pass
-- that is alone knows of the table then.
use Rattle.std.specs.Prelude.{◌<◌, ◌⊎◌, length, List, ℕ}
use Rattle.vm_rule.specs.Prelude.{bundles_of}
use Rattle.vm_clock.specs.from_vm_step.Prelude.{candidate_pages, IsAlone, KnowsElse, View}
use Rattle.vm_exmap.specs.{Frames.IsBundleOf, Returns.IsFreed, Returns.KnowsGiven}
use Rattle.vm_clock.specs.Clock.{IsChosen, KnowsWalked}
use Rattle.vm_evict.specs.{declared.candidate.Stage.Stage, declared.report.Report.Report, Tables.IsOfAny, Tables.KnowsStage}
use Rattle.vm_evict.specs.Evictions.{candidate_at, IsBatch, stage_at}

module _ {X : Type 0} where
  -- what a pass that was alone knows after a sweep, whose walk left it the view x: there, the words of the pages that
  -- the clock passed; then, of
  -- each candidate's words what its end says, of each bundle's word which of these frames came back to it, and all other words as they were
  pub record KnowsSwept (drawn count : ℕ) (list : List (ℕ × ℕ)) (ends : List Stage) (given : List ℕ) (v x w : View X) : Type 0 where
    pub walked : KnowsWalked drawn count v x
    pub each : (n : ℕ) → n < length list → KnowsStage (candidate_at list n) (stage_at ends n) x w
    pub bundles : (g : ℕ) → g < bundles_of v.start.frames → KnowsGiven given g v w
    pub others : KnowsElse (λ at. IsOfAny (candidate_pages list) at ⊎ IsBundleOf v.start at) x w

  -- a sweep for `want` pages, by an interface with this cap that had the frames `old` and then has the frames `new`
  pub record IsSwept (want cap : ℕ) (old new : List ℕ) (report : Report) (v w : View X) : Type 0 where
    pub list : List (ℕ × ℕ)
    pub chosen_view : View X
    pub chosen : IsChosen want report.looks list v chosen_view
    pub batch : List ℕ
    pub evicted_view : View X
    pub evicted : IsBatch list report.looks chosen_view evicted_view report batch
    pub freed : IsFreed cap old batch new evicted_view w
    pub table : IsAlone v → KnowsSwept chosen.drawn chosen.count list evicted.ends freed.given v chosen_view w
