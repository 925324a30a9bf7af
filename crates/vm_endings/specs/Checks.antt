-- What the command `check` does: it tells a page file's rows and its size.
use Rattle.std.specs.Prelude.{◌≡◌, List, None, Option, ℕ}
use Rattle.vm_io.specs.Shown.{Shown}
use Rattle.vm_words.specs.declared.Check.{Check}
use Rattle.vm_endings.specs.{Deliveries.Content, Files.HasFile}
use Rattle.vm_endings.specs.{AnyFiles.any_check_text, AnyFiles.any_layout, Images.IsTreeIn}

-- the bytes are a page file whose pages are a tree, and this is the text of its rows and its size
pub record IsChecked (text bytes : List ℕ) : Type 0 where
  pub good : IsTreeIn (any_layout bytes) bytes
  pub told : text ≡ any_check_text bytes

abbrev pub ToldCheck : Check → Option Shown → Content → Type 0
ToldCheck check shown content = HasFile shown check.file.now (IsChecked content.text) × (content.file ≡ None)
