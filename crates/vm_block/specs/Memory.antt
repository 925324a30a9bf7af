-- What a block in memory is.
use Rattle.std.specs.Prelude.{ℕ, ◌≡◌, List, Bool}
use Rattle.vm_page.specs.Counts.{count_more}
use Rattle.vm_block.specs.Plans.{most_counted, most_faults}
use Rattle.vm_block.specs.Plans as plans
use Rattle.vm_block.specs.declared.stored.Stored.{Stored}
use Rattle.vm_block.specs.declared.memory.MemBlock.{MemBlock}

-- the words held
abbrev pub words_of : {n : ℕ} → MemBlock n → List ℕ
words_of block = block.words.value

-- the numbers of the calls that fail
abbrev pub planned_calls : {n : ℕ} → MemBlock n → List ℕ
planned_calls block = block.plan.numbers.items

-- how many reads and writes were made together, up to the last value
abbrev pub calls_made : {n : ℕ} → MemBlock n → ℕ
calls_made block = block.plan.calls

-- what contracts see of a block in memory: its bound is the count that it started at and how many different numbers its plan has
abbrev pub stored_of : {n : ℕ} → MemBlock n → Stored
stored_of block = record {
  words = block.words.value;
  count = block.plan.faults;
  bound = most_counted block.plan.first block.plan.numbers.items;
  reads = block.reads;
  writes = block.writes;
}

-- whether the next call is to fail
abbrev pub fails_next : {n : ℕ} → MemBlock n → Bool
fails_next block = plans.plans_failure (planned_calls block) (calls_made block)

-- one more call was made, and the plan is the same
pub record IsNextCall {n : ℕ} (old new : MemBlock n) : Type 0 where
  pub calls : calls_made new ≡ count_more (calls_made old)
  pub plan : planned_calls new ≡ planned_calls old

-- a block that holds these words, fails the calls of this plan, starts at this count of faults, and has counted nothing else
pub record IsBlockFrom {n : ℕ} (block : MemBlock n) (words plan : List ℕ) (faults : ℕ) : Type 0 where
  pub held : words_of block ≡ words
  pub planned : planned_calls block ≡ plan
  pub calls : calls_made block ≡ 0
  pub count : (stored_of block).count ≡ faults
  pub bound : (stored_of block).bound ≡ most_counted faults plan
  pub reads : (stored_of block).reads ≡ 0
  pub writes : (stored_of block).writes ≡ 0

-- such a block with no faults counted, so that its bound is how many different numbers its plan has
pub record IsNewBlock {n : ℕ} (block : MemBlock n) (words plan : List ℕ) : Type 0 where
  pub began : IsBlockFrom block words plan 0
  pub bound : (stored_of block).bound ≡ most_faults plan
