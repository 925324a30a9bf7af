-- What a report of groups has room for: eight groups of eight pages.
use Rattle.std.specs.Prelude.{◌*◌, ◌≤◌, length, ℕ}
use Rattle.vm_evict.specs.declared.report.Evicted.{Evicted}
use Rattle.vm_group_evict.specs.{declared.evict.GroupEnd.GroupEnd, Groups.frames_of}

-- how many pages of the group were written
abbrev pub written_in : GroupEnd → ℕ
written_in (GroupEnd.Freed frames written) = written
written_in (GroupEnd.Failed failure) = failure.written
written_in (GroupEnd.Lost written) = written

-- so many groups at most were reported
pub record IsWithin (groups : ℕ) (e : Evicted) : Type 0 where
  pub frames : length e.frames ≤ 8 * groups
  pub freed : e.report.freed ≤ groups
  pub written : e.report.written ≤ 8 * groups
  pub failed : e.report.failed ≤ groups
  pub lost : e.report.lost ≤ groups

-- there is room for one more, whose end is this
pub record HasRoomForGroup (e : Evicted) (end : GroupEnd) : Type 0 where
  pub within : IsWithin 7 e
  pub frames : length (frames_of end) ≤ 8
  pub written : written_in end ≤ 8
