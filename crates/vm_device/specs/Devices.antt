-- What devices hold and have counted, as plain data, and what each call answers and changes of it.
use Rattle.std.specs.Prelude.{ℕ, ◌≡◌, ◌+◌, ◌++◌, List, [], ◌∷◌, Bool, true, ◌&&◌, ◌||◌, cond, if◌then◌else◌}
use Rattle.std.specs.Prelude.{nat_eq, nat_lt, slice_get, slice_set}
use Rattle.std.specs.Prelude.{Option, Some, None, Result, is_ok, IfOk, OnOk, OnErr, option_map}
use Rattle.std.specs.Str.{bytes_eq}
use Rattle.vm_page.specs.Counts.{count_more, MAX_COUNT}
use Rattle.vm_block.specs.declared.stored.Stored.{Stored}

-- a file: its name, how many bytes it has, and the words of each page that is whole in it
pub record StoredFile : Type 0 where
  pub name : List ℕ
  pub size : ℕ
  pub pages : List (List ℕ)

-- a page whose block is out, and the count of faults that the block had when it was taken out
pub record OutPage : Type 0 where
  pub name : List ℕ
  pub page : ℕ
  pub count : ℕ

-- what contracts see of devices
pub record DeviceState : Type 0 where
  -- the length that was answered last, and None before any was
  pub answered : Option ℕ
  -- the pages whose blocks are out, in the order in which they were taken out
  pub outs : List OutPage
  -- faults counted, which stand still at 2^64 - 1
  pub count : ℕ
  -- the files, of two with one name the first. They stand for nothing where devices don't tell
  pub files : List StoredFile

-- the file with a name
abbrev pub file_of : List StoredFile → List ℕ → Option StoredFile
file_of [] name = None
file_of (file ∷ files) name = cond (bytes_eq file.name name) (Some file) (file_of files name)

-- how many bytes it has, and None where there is no such file
abbrev pub size_of : List StoredFile → List ℕ → Option ℕ
size_of files name = option_map (λ file. file.size) (file_of files name)

abbrev pub page_in_file : Option StoredFile → ℕ → Option (List ℕ)
page_in_file None p = None
page_in_file (Some file) p = slice_get file.pages p

-- the words of page p of a file, and None where the file lacks it
abbrev pub words_at : List StoredFile → List ℕ → ℕ → Option (List ℕ)
words_at files name p = page_in_file (file_of files name) p

-- the same files, but that page p of the one with the name has these words
abbrev pub with_words : List StoredFile → List ℕ → ℕ → List ℕ → List StoredFile
with_words [] name p words = []
with_words (file ∷ files) name p words = cond (bytes_eq file.name name)
    (record file { pages = slice_set file.pages p words } ∷ files) (file ∷ with_words files name p words)

-- whether it is the file's page p that is out
abbrev pub is_page : List ℕ → ℕ → OutPage → Bool
is_page name p out = nat_eq out.page p && bytes_eq out.name name

-- the count of faults that the page's block had when it was taken out, and None where it is not out
abbrev pub count_out : List OutPage → List ℕ → ℕ → Option ℕ
count_out [] name p = None
count_out (out ∷ outs) name p = cond (is_page name p out) (Some out.count) (count_out outs name p)

-- the pages out but for this one
abbrev pub outs_without : List OutPage → List ℕ → ℕ → List OutPage
outs_without [] name p = []
outs_without (out ∷ outs) name p = cond (is_page name p out) outs (out ∷ outs_without outs name p)

-- the count of faults after a call: one more where it failed
abbrev pub count_after : {T E : Type 0} → Result T E → ℕ → ℕ
count_after result count = if is_ok result then count else count_more count

-- whether a block's faults are counted as it comes home: they rose since it was taken out with so many, or stand at the last value
abbrev pub is_faulty : ℕ → ℕ → Bool
is_faulty before now = nat_lt before now || nat_eq now MAX_COUNT

-- the count of faults after a block with so many comes home, if it was out with some count
abbrev pub count_home : Option ℕ → ℕ → ℕ → ℕ
count_home None now count = count
count_home (Some before) now count = if is_faulty before now then count_more count else count

-- the files after a block that holds these words comes home, if its page was out
abbrev pub files_home : Option ℕ → List StoredFile → List ℕ → ℕ → List ℕ → List StoredFile
files_home None files name p words = files
files_home (Some before) files name p words = with_words files name p words

-- a file's length is asked for
pub record Measures {E : Type 0} (tells : Bool) (old new : DeviceState) (name : List ℕ) (result : Result ℕ E) : Type 0 where
  pub told : tells ≡ true → IfOk result (λ size. size_of old.files name ≡ Some size)
  pub answered : IfOk result (λ size. new.answered ≡ Some size)
  pub left : OnErr result (new.answered ≡ old.answered)
  pub count : new.count ≡ count_after result old.count
  pub outs : new.outs ≡ old.outs
  pub files : tells ≡ true → new.files ≡ old.files

-- a page's block is asked for: it is of a page that the file has and that is not out, and holds its words; a call that fails moves no block
pub record TakesOut {B E : Type 0} (tells : Bool) (stored : B → Stored) (old new : DeviceState) (name : List ℕ) (p : ℕ)
    (result : Result B E) : Type 0 where
  pub told : tells ≡ true → IfOk result (λ block. words_at old.files name p ≡ Some (stored block).words)
  pub home : OnOk result (count_out old.outs name p ≡ None)
  pub out : IfOk result (λ block. new.outs ≡ old.outs ++ record { name = name; page = p; count = (stored block).count } ∷ [])
  pub left : OnErr result (new.outs ≡ old.outs)
  pub count : new.count ≡ count_after result old.count
  pub answered : new.answered ≡ old.answered
  pub files : tells ≡ true → new.files ≡ old.files

-- a block is brought back: where its page is out it is home then, and the page has the block's words; else nothing changes
pub record BringsHome (tells : Bool) (block : Stored) (old new : DeviceState) (name : List ℕ) (p : ℕ) : Type 0 where
  pub outs : new.outs ≡ outs_without old.outs name p
  pub count : new.count ≡ count_home (count_out old.outs name p) block.count old.count
  pub answered : new.answered ≡ old.answered
  pub files : tells ≡ true → new.files ≡ files_home (count_out old.outs name p) old.files name p block.words

-- a block's words are made to last: nothing changes but the count of faults, by a call that fails
pub record Syncs {E : Type 0} (tells : Bool) (old new : Stored) (result : Result (Unit {0}) E) : Type 0 where
  pub held : tells ≡ true → new.words ≡ old.words
  pub count : new.count ≡ count_after result old.count
  pub reads : new.reads ≡ old.reads
  pub writes : new.writes ≡ old.writes
  pub bound : new.bound ≡ old.bound
