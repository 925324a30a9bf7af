-- What the reader of a page file of any kind answers.
use Rattle.std.specs.Prelude.{◌≡◌, Err, false, List, Ok, Result, true, ℕ}
use Rattle.vm_image.specs.File.{IsPageFile, pages_of_bytes}
use Rattle.vm_bytes_form.specs.Bytes.{bytes as keyed, ranked_entry}
use Rattle.vm_endings.specs.from_vm_bytes_file.KeyFiles.{is_key_file}
use Rattle.vm_check.specs.Rows.{AreRowsOf}
use Rattle.vm_endings.specs.AnyFiles.{any_layout}
use Rattle.vm_endings.specs.declared.stop.Stop.{Stop}
use Rattle.vm_endings.specs.declared.undone.Undone.{Undone}
use Rattle.vm_endings.specs.declared.undone.Undone.TheVariants.{Memory, Stopped}
use Rattle.vm_endings.specs.Files.{HasFile}
use Rattle.vm_endings.specs.Outside.{Outside, Remains}
use Rattle.vm_endings.specs.Tests.{any_image, Fails}
use Rattle.vm_reading.specs.Readings.{IsStoredIn, IsStoredTree, TellsNoTreeIn}
use Rattle.vm_reading.specs.declared.any.{AnyTree.AnyTree, KeyTree.KeyTree}
use Rattle.vm_reading.specs.declared.reading.ReadTree.{ReadTree}
use Rattle.vm_reading.specs.declared.any.AnyTree.TheVariants.{Keys, Words}

-- the bytes are a page file with byte keys whose pages are a tree; these are its pages and its rows
pub record IsKeyStored (stored : KeyTree) (bytes : List ℕ) : Type 0 where
  pub file : IsPageFile 512 bytes
  pub pages : stored.image ≡ pages_of_bytes 512 bytes
  pub rows : AreRowsOf keyed ranked_entry (pages_of_bytes 512 bytes) stored.rows

-- and their first ones tell so
abbrev pub IsKeyImage : KeyTree → List ℕ → Type 0
IsKeyImage stored bytes = (is_key_file bytes ≡ true) × IsKeyStored stored bytes

-- the same of words as keys, with n words a page
abbrev pub IsWordImage : (n : ℕ) → ReadTree n → List ℕ → Type 0
IsWordImage n stored bytes = (is_key_file bytes ≡ false) × IsStoredIn n stored bytes

-- the bytes are a page file whose pages are a tree; these are its pages and its rows
abbrev pub IsAnyStored : AnyTree → List ℕ → Type 0
IsAnyStored (Words tree) bytes = (is_key_file bytes ≡ false) × IsStoredTree tree bytes
IsAnyStored (Keys tree) bytes = IsKeyImage tree bytes

-- what the bytes of a file with byte keys give
abbrev pub TellsKeys : List ℕ → Result KeyTree (Undone Stop) → Type 0
TellsKeys bytes (Ok tree) = IsKeyStored tree bytes
TellsKeys bytes (Err undone) = TellsNoTreeIn keyed bytes undone

-- what the bytes of a page file give
abbrev pub TellsAnyTree : List ℕ → Result AnyTree (Undone Stop) → Type 0
TellsAnyTree bytes (Ok tree) = IsAnyStored tree bytes
TellsAnyTree bytes (Err undone) = TellsNoTreeIn (any_layout bytes) bytes undone

-- what the reader of a page file answers
abbrev pub ReadsAnyTree : Outside → Remains → List ℕ → Result AnyTree (Undone Stop) → Type 0
ReadsAnyTree outside left name (Ok tree) = HasFile outside.shown name (IsAnyStored tree)
ReadsAnyTree outside left name (Err Memory) = Unit {0}
ReadsAnyTree outside left name (Err (Stopped stop)) = Fails outside left (any_image name) stop
