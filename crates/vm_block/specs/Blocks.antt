-- What a call on a block answers and changes: the words held, the counts, and the bound of the count of faults.
use Rattle.std.specs.Prelude.{ℕ, ◌≡◌, List, length, Bool, true, Result, is_ok, OnOk, if◌then◌else◌}
use Rattle.vm_page.specs.Counts.{count_more}
use Rattle.vm_block.specs.declared.stored.Stored.{Stored}

-- a read of a page of so many words: where it answers, the buffer has the words held, and where it fails, the count of faults is raised
pub record Reads {E : Type 0} (size : ℕ) (tells : Bool) (old new : Stored) (into : List ℕ) (result : Result (Unit {0}) E) : Type 0 where
  pub given : tells ≡ true → OnOk result (into ≡ old.words)
  pub whole : OnOk result (length into ≡ size)
  pub held : tells ≡ true → new.words ≡ old.words
  pub count : new.count ≡ (if is_ok result then old.count else count_more old.count)
  pub reads : new.reads ≡ (if is_ok result then count_more old.reads else old.reads)
  pub writes : new.writes ≡ old.writes
  pub bound : new.bound ≡ old.bound

-- a write: where it answers, the given words are held, and where it fails, the words stay and the count of faults is raised
pub record Writes {E : Type 0} (tells : Bool) (old new : Stored) (given : List ℕ) (result : Result (Unit {0}) E) : Type 0 where
  pub held : tells ≡ true → new.words ≡ (if is_ok result then given else old.words)
  pub count : new.count ≡ (if is_ok result then old.count else count_more old.count)
  pub reads : new.reads ≡ old.reads
  pub writes : new.writes ≡ (if is_ok result then count_more old.writes else old.writes)
  pub bound : new.bound ≡ old.bound
