-- What the command `migrate` does: it builds a tree of a page file's pairs on pages of 512 words, writes it as a page
-- file, and tells its size.
use Rattle.std.specs.Prelude.{◌≡◌, length, List, Option, Some, ℕ}
use Rattle.vm_io.specs.Shown.{Shown}
use Rattle.vm_map.specs.Map.{Pairs}
use Rattle.vm_image.specs.File.{words_of_file}
use Rattle.vm_build.specs.Build.{IsBuilt}
use Rattle.vm_script.specs.Texts.{migrated_line}
use Rattle.vm_words.specs.declared.Migrate.{Migrate}
use Rattle.vm_endings.specs.{Deliveries.Content, Files.HasFile}
use Rattle.vm_endings.specs.Images.{file_height, file_map, file_used, IsTreeFile, pages_of_file}

-- What is given is made of these pairs: the file with the name asked for is a page file of the pages asked for, of
-- 512 words each, which are a tree built of
-- the pairs, and hold no other. What is told is the pages asked for, how many of them are not all zero, the level of
-- the root, and how many pairs there are
pub record IsMigrated (migrate : Migrate) (content : Content) (pairs : Pairs) : Type 0 where
  pub bytes : List ℕ
  pub named : content.file ≡ Some (record { name = migrate.output.now; bytes = bytes })
  pub large : words_of_file bytes ≡ 512
  pub good : IsTreeFile bytes
  pub built : IsBuilt 512 migrate.pages pairs (pages_of_file bytes)
  pub same : file_map bytes ≡ pairs
  pub text : content.text ≡ migrated_line migrate.pages (file_used bytes) (file_height bytes) (length pairs)

-- the pairs are those of the page file that is to be migrated, whose pages are a tree, of 64 or of 512 words each
abbrev pub ToldMigrate : Migrate → Option Shown → Content → Type 0
ToldMigrate migrate shown content =
    HasFile shown migrate.input.now (λ bytes. IsTreeFile bytes × IsMigrated migrate content (file_map bytes))
