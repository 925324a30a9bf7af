-- All blocks of a file: taken out, made to last, and brought home, each once and in the order of the pages.
use Rattle.std.specs.Prelude.{ℕ, ◌≡◌, ◌≢◌, ◌+◌, ◌++◌, ◌<◌, ◌≤◌, ◌⊎◌, List, [], ◌∷◌, length, min, Bool, true, false}
use Rattle.std.specs.Prelude.{if◌then◌else◌, Option, Some, None, is_some, slice_index_or}
use Rattle.vm_page.specs.Counts.{count_more, MAX_COUNT}
use Rattle.vm_block.specs.declared.stored.Stored.{Stored}
use Rattle.vm_device.specs.Devices.{DeviceState, OutPage, StoredFile, count_out, is_faulty, size_of, with_words, words_at}
use Rattle.vm_device.specs.declared.whole.TakeFault.{TakeFault}
use Rattle.vm_device.specs.declared.whole.TakeFault.TheVariants.{Failed, Memory}

-- a count of faults rose, or stands at its last value
abbrev pub RoseOrLast : ℕ → ℕ → Type 0
RoseOrLast before now = (before < now) ⊎ (now ≡ MAX_COUNT)

-- no block of the file's first so many pages is out
abbrev pub AreHome : List OutPage → List ℕ → ℕ → Type 0
AreHome outs name pages = (p : ℕ) → p < pages → count_out outs name p ≡ None

-- the entries of blocks that are out, of the file's pages from `first` on, each with its block's count
abbrev pub outs_of : List ℕ → ℕ → List Stored → List OutPage
outs_of name first [] = []
outs_of name first (block ∷ blocks) = record { name = name; page = first; count = block.count } ∷ outs_of name (first + 1) blocks

-- the same files, but that the pages of the one with the name have the blocks' words, from page `first` on
abbrev pub with_all_words : List StoredFile → List ℕ → ℕ → List Stored → List StoredFile
with_all_words files name first [] = files
with_all_words files name first (block ∷ blocks) = with_all_words (with_words files name first block.words) name (first + 1) blocks

-- how many blocks come home with a fault to be counted, where `before` has them as they were taken out
abbrev pub how_many_faulty : List Stored → List Stored → ℕ
how_many_faulty before [] = 0
how_many_faulty [] (block ∷ blocks) = 0
how_many_faulty (out ∷ before) (block ∷ blocks) = (if is_faulty out.count block.count then 1 else 0) + how_many_faulty before blocks

-- the block of each of the first so many pages is out now, none was, and where devices tell it holds the page's words
pub record AllAreOut (tells : Bool) (old new : DeviceState) (name : List ℕ) (pages : ℕ) (blocks : List Stored) : Type 0 where
  pub many : length blocks ≡ pages
  pub home : AreHome old.outs name pages
  pub outs : new.outs ≡ old.outs ++ outs_of name 0 blocks
  pub told : tells ≡ true → (p : ℕ) (d : Stored) → p < pages → words_at old.files name p ≡ Some (slice_index_or blocks p d).words
  pub count : new.count ≡ old.count
  pub answered : new.answered ≡ old.answered
  pub files : tells ≡ true → new.files ≡ old.files

-- a block could not be taken out, which was counted, and none is out that was not before
pub record NoneIsOut (tells : Bool) (old new : DeviceState) : Type 0 where
  pub outs : new.outs ≡ old.outs
  pub count : RoseOrLast old.count new.count
  pub grown : old.count ≤ new.count
  pub answered : new.answered ≡ old.answered
  pub files : tells ≡ true → new.files ≡ old.files

-- what is left where not all blocks were taken out: for want of memory nothing changed
abbrev pub LeavesHome : Bool → DeviceState → DeviceState → TakeFault → Type 0
LeavesHome tells old new Failed = NoneIsOut tells old new
LeavesHome tells old new Memory = new ≡ old

-- the count of faults after blocks came home: one more for each that is faulty, up to the last value. So it rose or stands there where some
-- block is faulty, stays where none is, and never falls
pub record CountsHome (before blocks : List Stored) (old new : ℕ) : Type 0 where
  pub sum : new ≡ min (old + how_many_faulty before blocks) MAX_COUNT
  pub rose : (p : ℕ) (d : Stored) → p < length blocks
      → is_faulty (slice_index_or before p d).count (slice_index_or blocks p d).count ≡ true → RoseOrLast old new
  pub kept : ((p : ℕ) (d : Stored) → p < length blocks
      → is_faulty (slice_index_or before p d).count (slice_index_or blocks p d).count ≡ false) → new ≡ old
  pub grown : old ≤ new

-- the file's first pages have the blocks' words, as far as it had them, and no other page and no size has changed
pub record HaveBlocksWords (old new : List StoredFile) (name : List ℕ) (blocks : List Stored) : Type 0 where
  pub all : new ≡ with_all_words old name 0 blocks
  pub words : (p : ℕ) (d : Stored) → p < length blocks → is_some (words_at old name p) ≡ true
      → words_at new name p ≡ Some (slice_index_or blocks p d).words
  pub past : (p : ℕ) → length blocks ≤ p → words_at new name p ≡ words_at old name p
  pub others : (other : List ℕ) (p : ℕ) → other ≢ name → words_at new other p ≡ words_at old other p
  pub sizes : (other : List ℕ) → size_of new other ≡ size_of old other

-- all blocks of the file's first pages, as many as were taken out, are home, beside those that were out before
pub record AllComeHome (tells : Bool) (base : List OutPage) (before blocks : List Stored) (old new : DeviceState) (name : List ℕ) : Type 0 where
  pub outs : new.outs ≡ base
  pub count : CountsHome before blocks old.count new.count
  pub files : tells ≡ true → HaveBlocksWords old.files new.files name blocks

-- what bringing blocks home does, whatever else was out: they are those of the file's first pages, whose entries stand last
abbrev pub BringsAll : Bool → List Stored → DeviceState → DeviceState → List ℕ → Type 0
BringsAll tells blocks old new name = (base : List OutPage) (before : List Stored) → old.outs ≡ base ++ outs_of name 0 before
    → length before ≡ length blocks → AreHome base name (length blocks) → AllComeHome tells base before blocks old new name

-- a block after a sync that answered or failed: nothing changes but that a failure is counted
pub record IsAfterSync (tells answered : Bool) (old new : Stored) : Type 0 where
  pub words : tells ≡ true → new.words ≡ old.words
  pub count : new.count ≡ (if answered then old.count else count_more old.count)
  pub reads : new.reads ≡ old.reads
  pub writes : new.writes ≡ old.writes
  pub bound : new.bound ≡ old.bound

-- each block's sync answered
pub record AreSynced (tells : Bool) (old new : List Stored) : Type 0 where
  pub many : length new ≡ length old
  pub each : (p : ℕ) (d : Stored) → p < length old → IsAfterSync tells true (slice_index_or old p d) (slice_index_or new p d)

-- this block's sync failed, and none before it did; those behind it were synced too, and answered or failed
pub record IsFirstUnsynced (tells : Bool) (old new : List Stored) (page : ℕ) : Type 0 where
  pub many : length new ≡ length old
  pub within : page < length old
  pub before : (p : ℕ) (d : Stored) → p < page → IsAfterSync tells true (slice_index_or old p d) (slice_index_or new p d)
  pub here : (d : Stored) → IsAfterSync tells false (slice_index_or old page d) (slice_index_or new page d)
  pub behind : (p : ℕ) (d : Stored) → page < p → p < length old
      → (answered : Bool) × IsAfterSync tells answered (slice_index_or old p d) (slice_index_or new p d)

-- one sync more was asked of each block, where these are the counts of those that were
pub record AreAsked (old new : List ℕ) : Type 0 where
  pub many : length new ≡ length old
  pub each : (p d : ℕ) → p < length old → slice_index_or new p d ≡ count_more (slice_index_or old p d)

-- the least page whose sync failed, where that of one page more, behind the others, answered or failed
abbrev pub first_unsynced : Option ℕ → ℕ → Bool → Option ℕ
first_unsynced None page true = None
first_unsynced None page false = Some page
first_unsynced (Some first) page answered = Some first

-- what each answer tells of blocks that were all synced
abbrev pub SyncsAll : Bool → List Stored → List Stored → Option ℕ → Type 0
SyncsAll tells old new None = AreSynced tells old new
SyncsAll tells old new (Some page) = IsFirstUnsynced tells old new page
