-- What the command `make-bytes` does: it writes a page file with byte keys that holds nothing, and tells its size.
use Rattle.std.specs.Prelude.{[], ◌≡◌, List, Some, true, ℕ}
use Rattle.vm_tree_model.specs.Tree.{IsTree, map_of}
use Rattle.vm_image.specs.File.{IsPageFile, pages_of_bytes}
use Rattle.vm_bytes_form.specs.Bytes.{bytes as keyed}
use Rattle.vm_bytes_file.specs.KeyFiles.{empty_pages, is_key_file}
use Rattle.vm_script.specs.Texts.{made_line}
use Rattle.vm_words.specs.declared.MakeBytes.{MakeBytes}
use Rattle.vm_endings.specs.{Deliveries.Content}

-- The file with the name asked for is one with byte keys, of the pages asked for: page 0, a leaf that is the root, and free pages. They are a
-- tree that holds nothing. What is told is the pages asked for, the two that are used, and the level of the root
pub record ToldMakeBytes (make : MakeBytes) (content : Content) : Type 0 where
  pub bytes : List ℕ
  pub named : content.file ≡ Some (record { name = make.file.now; bytes = bytes })
  pub known : is_key_file bytes ≡ true
  pub file : IsPageFile 512 bytes
  pub pages : pages_of_bytes 512 bytes ≡ empty_pages make.pages
  pub tree : IsTree keyed (pages_of_bytes 512 bytes)
  pub empty : map_of keyed (pages_of_bytes 512 bytes) ≡ []
  pub text : content.text ≡ made_line make.pages 2 0
