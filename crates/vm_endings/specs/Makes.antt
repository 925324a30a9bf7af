-- What the command `make` does: it builds a tree of numbered pairs, writes it as a page file, and tells its size.
use Rattle.std.specs.Prelude.{◌≡◌, List, Some, ℕ}
use Rattle.vm_image.specs.File.{IsPageFile, words_of_file}
use Rattle.vm_build.specs.{Build.IsBuilt, Numbers.numbered}
use Rattle.vm_script.specs.Texts.{made_line}
use Rattle.vm_words.specs.declared.Make.{Make}
use Rattle.vm_endings.specs.{Deliveries.Content, Images.file_height, Images.file_used, Images.pages_of_file, Limits.words_or}

-- The file with the name asked for is a page file of the pages asked for, with so many words each, built of the pairs
-- that the seed gives: their tree, laid out in the one way,
-- and pages that are free. What is told is the pages asked for, how many of the file's are not all zero, and the level of its root
pub record ToldMake (make : Make) (content : Content) : Type 0 where
  pub bytes : List ℕ
  pub named : content.file ≡ Some (record { name = make.file.now; bytes = bytes })
  pub words : words_of_file bytes ≡ words_or make.words
  pub file : IsPageFile (words_of_file bytes) bytes
  pub built : IsBuilt (words_or make.words) make.pages (numbered make.seed make.pairs) (pages_of_file bytes)
  pub text : content.text ≡ made_line make.pages (file_used bytes) (file_height bytes)
