-- What is left of blocks that are read into an image, each once and in order.
use Rattle.std.specs.Prelude.{ℕ, ◌≡◌, ◌<◌, List, length, map, Bool, true, Result, Ok, Err, slice_index_or}
use Rattle.vm_page.specs.Counts.{count_more}
use Rattle.vm_block.specs.declared.stored.Stored.{Stored}
use Rattle.vm_image.specs.declared.reading.BlocksFault.{BlocksFault}
use Rattle.vm_image.specs.declared.reading.BlocksFault.TheVariants.{Failed, Memory}

-- the words that each block holds
abbrev pub held_words : List Stored → List (List ℕ)
held_words blocks = map (λ block. block.words) blocks

-- a block after a read that answered
pub record IsBlockRead (tells : Bool) (old new : Stored) : Type 0 where
  pub words : tells ≡ true → new.words ≡ old.words
  pub count : new.count ≡ old.count
  pub reads : new.reads ≡ count_more old.reads
  pub writes : new.writes ≡ old.writes
  pub bound : new.bound ≡ old.bound

-- a block after a read that failed
pub record IsFailedRead (tells : Bool) (old new : Stored) : Type 0 where
  pub words : tells ≡ true → new.words ≡ old.words
  pub count : new.count ≡ count_more old.count
  pub reads : new.reads ≡ old.reads
  pub writes : new.writes ≡ old.writes
  pub bound : new.bound ≡ old.bound

-- each block was read
pub record AreRead (tells : Bool) (old new : List Stored) : Type 0 where
  pub count : length new ≡ length old
  pub each : (p : ℕ) (d : Stored) → p < length old → IsBlockRead tells (slice_index_or old p d) (slice_index_or new p d)

-- the read of this block failed: those before it were read, and those behind it were not touched
pub record IsFailedAt (tells : Bool) (old new : List Stored) (pid : ℕ) : Type 0 where
  pub within : pid < length old
  pub count : length new ≡ length old
  pub before : (p : ℕ) (d : Stored) → p < pid → IsBlockRead tells (slice_index_or old p d) (slice_index_or new p d)
  pub here : (d : Stored) → IsFailedRead tells (slice_index_or old pid d) (slice_index_or new pid d)
  pub behind : (p : ℕ) (d : Stored) → pid < p → slice_index_or new p d ≡ slice_index_or old p d

-- what each answer tells of the blocks; for want of memory none was read
abbrev pub ReadsBlocks : {T : Type 0} → Bool → List Stored → List Stored → Result T BlocksFault → Type 0
ReadsBlocks tells old new (Ok image) = AreRead tells old new
ReadsBlocks tells old new (Err (Failed pid)) = IsFailedAt tells old new pid
ReadsBlocks tells old new (Err Memory) = new ≡ old
