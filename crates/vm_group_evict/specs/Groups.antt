-- Several groups that are to be evicted, one behind another, and what is reported of them.
use Rattle.std.specs.Prelude.{[], ◌++◌, ◌+◌, ◌<◌, ◌∷◌, ◌≡◌, length, List, ℕ}
use Rattle.vm_event.specs.Prelude.{MARKED, MAX_VERSION, state_of, version_of}
use Rattle.vm_rule.specs.declared.view.TableShape.{TableShape}
use Rattle.vm_step.specs.declared.choice.Looks.{Looks}
use Rattle.vm_step.specs.Prelude.{View}
use Rattle.vm_evict.specs.{declared.report.Evicted.Evicted, declared.report.Report.Report, Evictions.first_pair}
use Rattle.vm_evict.specs.{Stages.none_of}
use Rattle.vm_group_guard.specs.Group.{IsGroupAt}
use Rattle.vm_group_evict.specs.{declared.evict.GroupEnd.GroupEnd, Ends.EndsGroup}

-- the first page of a group of so many pages, with the word at which the group was marked
pub record IsHeadToEvict (shape : TableShape) (size : ℕ) (c : ℕ × ℕ) : Type 0 where
  pub group : IsGroupAt shape c.0 size
  pub marked : state_of c.1 ≡ MARKED
  pub below : version_of c.1 < MAX_VERSION

-- the frames of a group that was evicted
abbrev pub frames_of : GroupEnd → List ℕ
frames_of (GroupEnd.Freed frames written) = frames.items
frames_of (GroupEnd.Failed failure) = []
frames_of (GroupEnd.Lost written) = []

-- heads are counted as freed, failed and lost, pages as written; the first page whose write failed is named
abbrev pub counted_end : Report → GroupEnd → Report
counted_end r (GroupEnd.Freed frames written) = record r { freed = r.freed + 1; written = r.written + written }
counted_end r (GroupEnd.Failed failure) = record r {
  failed = r.failed + 1;
  written = r.written + failure.written;
  first_failed = first_pair r.first_failed (failure.page, failure.count);
}
counted_end r (GroupEnd.Lost written) = record r { lost = r.lost + 1; written = r.written + written }

-- these ends, one behind another
abbrev pub tallied : Evicted → List GroupEnd → Evicted
tallied e [] = e
tallied e (x ∷ xs) = tallied (record { frames = e.frames ++ frames_of x; report = counted_end e.report x }) xs

module _ {X : Type 0} where
  -- each group came to its end
  abbrev pub EndEach : ℕ → List (ℕ × ℕ) → List GroupEnd → View X → View X → Type 0
  EndEach size [] [] v w = w ≡ v
  EndEach size (c ∷ cs) (e ∷ es) v w = (u : View X) × EndsGroup c.0 size c.1 v u e × EndEach size cs es u w
  EndEach size cs es v w = ⊥

  -- so they did, and this is reported of them
  pub record AreEvicted (size : ℕ) (list : List (ℕ × ℕ)) (looks : Looks) (v w : View X)
      (evicted : Evicted) : Type 0 where
    pub ends : List GroupEnd
    pub each : EndEach size list ends v w
    pub told : evicted ≡ tallied (record { frames = []; report = none_of looks }) ends
    pub all : evicted.report.freed + (evicted.report.failed + evicted.report.lost) ≡ length list
