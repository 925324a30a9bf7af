-- When a fault may be answered: a count of failures never falls, and rose in the call or stands at its last value.
use Rattle.std.specs.Prelude.{ℕ, ◌≤◌, ◌<◌, ◌≡◌, ◌⊎◌, List, Result, OnOk, OnErr, IfOk}
use Rattle.vm_page.specs.Counts.{count_more}
use Rattle.vm_io.specs.declared.host.GiveFaults.{GiveFaults}

-- one more at least, or at the last value
abbrev pub Rose : ℕ → ℕ → Type 0
Rose before now = count_more before ≤ now

-- a count of failures never falls, and a failure raises it
pub record HasCause {T E : Type 0} (before now : ℕ) (result : Result T E) : Type 0 where
  pub later : before ≤ now
  pub failed : OnErr result (Rose before now)

-- a count of pieces of which nothing was taken never falls, and an answer that nothing was taken of a piece that is not empty raises it
pub record HasStuckCause {E : Type 0} (before now len : ℕ) (result : Result ℕ E) : Type 0 where
  pub later : before ≤ now
  pub stuck : IfOk result (λ n. n ≡ 0 → 0 < len → Rose before now)

-- one more failure; one more piece of which nothing was taken
abbrev pub more_failed : GiveFaults → GiveFaults
more_failed gives = record gives { failed = count_more gives.failed }

abbrev pub more_stuck : GiveFaults → GiveFaults
more_stuck gives = record gives { stuck = count_more gives.stuck }

-- neither count of gives fell
pub record AreLater (before now : GiveFaults) : Type 0 where
  pub failed : before.failed ≤ now.failed
  pub stuck : before.stuck ≤ now.stuck

-- a call failed that gives bytes to the host, or took nothing of a piece that is not empty, and was counted
abbrev pub FailedGive : GiveFaults → GiveFaults → Type 0
FailedGive before now = Rose before.failed now.failed ⊎ Rose before.stuck now.stuck

-- two counts of failed takes, and the names of the last ones, are the same
pub record SameTakes (before now : ℕ) (last_before last : List ℕ) : Type 0 where
  pub count : now ≡ before
  pub name : last ≡ last_before

-- a take that failed is counted and its file is named; one that did not fail leaves both
pub record HasTakeCause {T E : Type 0} (before now : ℕ) (last_before last name : List ℕ) (result : Result T E) : Type 0 where
  pub later : before ≤ now
  pub failed : OnErr result (Rose before now)
  pub named : OnErr result (last ≡ name)
  pub steady : OnOk result (SameTakes before now last_before last)

-- a take of the file with the name failed, was counted, and is the last that failed
pub record FailedTake (before now : ℕ) (last name : List ℕ) : Type 0 where
  pub count : Rose before now
  pub kept : last ≡ name
