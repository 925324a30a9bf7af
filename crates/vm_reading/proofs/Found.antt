-- What was read of files, as what the files hold.
use Rattle.std.proofs.Common.{◌≡◌, ◌∙◌, ap, ℕ, Bool, false, true, List, Result, Ok, Err, refl, sym, subst, arith}
use Rattle.vm_io.specs.Loops.{ReadsWhole}
use Rattle.vm_tree_model.specs.Fixed.{fixed}
use Rattle.vm_image.specs.File.{IsPageFile, pages_of_bytes, words_of_file}
use Rattle.vm_check.specs.Rows.{AreRows}
use Rattle.vm_check.specs.declared.rows.Rows.{Rows}
use Rattle.vm_page.specs.Sizes.{IsSize}
use Rattle.vm_endings.specs.from_vm_bytes_file.KeyFiles.{is_key_file}
use Rattle.vm_endings.specs.AnyFiles.{any_height, any_layout, layout_with}
use Rattle.vm_reading.specs.declared.any.{AnyTree.AnyTree, KeyTree.KeyTree}
use Rattle.vm_reading.specs.declared.any.AnyTree.TheVariants.{Keys, Words}
use Rattle.vm_reading.specs.AnyReadings.{IsAnyStored, IsKeyImage, IsWordImage, ReadsAnyTree, TellsAnyTree}
use Rattle.vm_reading.specs.declared.reading.ReadTree.{ReadTree}
use Rattle.vm_reading.specs.declared.reading.StoredTree.{StoredTree}
use Rattle.vm_reading.specs.declared.reading.StoredTree.TheVariants.{Words64, Words512}
use Rattle.vm_endings.specs.declared.stop.Stop.{Stop}
use Rattle.vm_endings.specs.declared.stop.Stop.TheVariants.{Length, Page}
use Rattle.vm_endings.specs.declared.undone.Undone.{Undone}
use Rattle.vm_endings.specs.declared.undone.Undone.TheVariants.{Stopped, Memory}
use Rattle.vm_endings.proofs.FileWords.{file_sized}
use Rattle.vm_endings.specs.Endings.{HasReadCause}
use Rattle.vm_endings.specs.Files.{HasFile}
use Rattle.vm_endings.specs.Images.{HoldsNoTree, HoldsNoTreeIn, IsTreeFile, IsTreeIn, layout_of_file, most_image}
use Rattle.vm_endings.specs.Images.{pages_of_file, root_level}
use Rattle.vm_endings.specs.{Outside.Outside, Outside.Remains}
use Rattle.vm_endings.specs.Tests.{any_image, image, Passes}
use Rattle.vm_reading.specs.Readings.{IsStoredIn, IsStoredTree, ReadsTree, TellsNoTree, TellsNoTreeIn, TellsTree, rows_in}
use Rattle.vm_reading.proofs.Files.{has_file, page_file, wrong_length}

-- the bytes are a page file whose pages are a tree with these rows
pub record HasRows (rows : Rows) (bytes : List ℕ) : Type 0 where
  pub file : IsPageFile (words_of_file bytes) bytes
  pub are : AreRows (layout_of_file bytes) (pages_of_file bytes) rows

pub stored-rows : (n : ℕ) (stored : ReadTree n) (bytes : List ℕ) → IsStoredIn n stored bytes → HasRows stored.rows bytes
stored-rows n stored bytes is = record {
  file = subst (λ k. IsPageFile k bytes) (sym is.words) is.file;
  are = subst (λ k. AreRows (fixed k) (pages_of_bytes k bytes) stored.rows) (sym is.words) is.rows;
}

pub tree-rows : (tree : StoredTree) (bytes : List ℕ) → IsStoredTree tree bytes → HasRows (rows_in tree) bytes
tree-rows (Words64 stored) bytes is = stored-rows 64 stored bytes is
tree-rows (Words512 stored) bytes is = stored-rows 512 stored bytes is

pub rows-file : (rows : Rows) (bytes : List ℕ) → HasRows rows bytes → IsTreeFile bytes
rows-file rows bytes is = record { file = is.file; tree = is.are.tree }

-- a page file that was read passes its test
pub rows-pass : (outside : Outside) (name : List ℕ) (rows : Rows) → HasFile outside.shown name (HasRows rows)
    → Passes outside (image name)
rows-pass outside name rows has = has_file outside.shown name (HasRows rows) IsTreeFile (rows-file rows) has

-- what the bytes read tell is told of the file
none-told : (outside : Outside) (left : Remains) (name found : List ℕ) (undone : Undone Stop)
    → ReadsWhole outside.shown name most_image found → TellsNoTree found undone
    → ReadsTree outside left name (Err undone)
none-told outside left name found Memory w t = tt
none-told outside left name found (Stopped (Length len)) w t = wrong_length layout_of_file file_sized outside.shown name found len w t.0 t.1
none-told outside left name found (Stopped (Page page why)) w t =
    page_file layout_of_file file_sized outside.shown name found (λ bytes. HoldsNoTree bytes page why) w t.file t
none-told outside left name found (Stopped _) w t = absurd t

pub tree-told : (outside : Outside) (left : Remains) (name found : List ℕ) (r : Result StoredTree (Undone Stop))
    → ReadsWhole outside.shown name most_image found → TellsTree found r → ReadsTree outside left name r
tree-told outside left name found (Ok tree) w t =
    page_file layout_of_file file_sized outside.shown name found (IsStoredTree tree) w (tree-rows tree found t).file t
tree-told outside left name found (Err undone) w t = none-told outside left name found undone w t

-- bytes that were read cause no fault of reading
none-cause : (found : List ℕ) (before now : ℕ) (undone : Undone Stop) → TellsNoTree found undone
    → HasReadCause {V = StoredTree} before now (Err undone)
none-cause found before now Memory t = tt
none-cause found before now (Stopped (Length len)) t = λ two. absurd (omega arith)
none-cause found before now (Stopped (Page page why)) t = λ two. absurd (omega arith)
none-cause found before now (Stopped _) t = absurd t

pub tree-cause : (found : List ℕ) (before now : ℕ) (r : Result StoredTree (Undone Stop)) → TellsTree found r → HasReadCause before now r
tree-cause found before now (Ok tree) t = tt
tree-cause found before now (Err undone) t = none-cause found before now undone t

-- ---- of any kind

-- a file with byte keys has pages of 512 words
any_sized : (bytes : List ℕ) → IsSize (any_layout bytes).words
any_sized bytes = go (is_key_file bytes)
  where
    go : (b : Bool) → IsSize (layout_with b bytes).words
    go true = refl
    go false = file_sized bytes

words-tree : (rows : Rows) (bytes : List ℕ) → is_key_file bytes ≡ false → HasRows rows bytes
    → IsTreeIn (any_layout bytes) bytes
words-tree rows bytes words is =
    subst (λ b. IsTreeIn (layout_with b bytes) bytes) (sym words) (rows-file rows bytes is)

key-tree : (tree : KeyTree) (bytes : List ℕ) → IsKeyImage tree bytes → IsTreeIn (any_layout bytes) bytes
key-tree tree bytes is =
    subst (λ b. IsTreeIn (layout_with b bytes) bytes) (sym is.0) (record { file = is.1.file; tree = is.1.rows.tree })

pub any-file : (tree : AnyTree) (bytes : List ℕ) → IsAnyStored tree bytes → IsTreeIn (any_layout bytes) bytes
any-file (Words tree) bytes is = words-tree (rows_in tree) bytes is.0 (tree-rows tree bytes is.1)
any-file (Keys tree) bytes is = key-tree tree bytes is

-- the bytes are a page file whose pages are a tree of this height, with byte keys or without
pub record IsAnyTree (has_keys : Bool) (height : ℕ) (bytes : List ℕ) : Type 0 where
  pub kind : is_key_file bytes ≡ has_keys
  pub tree : IsTreeIn (any_layout bytes) bytes
  pub level : height ≡ any_height bytes

height-with : (has_keys : Bool) (bytes : List ℕ) → is_key_file bytes ≡ has_keys
    → root_level (pages_of_bytes (layout_with has_keys bytes).words bytes) ≡ any_height bytes
height-with has_keys bytes kind = ap (λ b. root_level (pages_of_bytes (layout_with b bytes).words bytes)) (sym kind)

pub word-image : (n : ℕ) (stored : ReadTree n) (bytes : List ℕ) → IsWordImage n stored bytes
    → IsAnyTree false stored.rows.height bytes
word-image n stored bytes is =
    let has = stored-rows n stored bytes is.1 in
    record {
      kind = is.0;
      tree = words-tree stored.rows bytes is.0 has;
      level = has.are.height ∙ height-with false bytes is.0;
    }

pub key-image : (tree : KeyTree) (bytes : List ℕ) → IsKeyImage tree bytes → IsAnyTree true tree.rows.height bytes
key-image tree bytes is = record {
  kind = is.0;
  tree = key-tree tree bytes is;
  level = is.1.rows.height ∙ height-with true bytes is.0;
}

-- a file that was read passes its test
pub any-pass : (outside : Outside) (name : List ℕ) (tree : AnyTree) → HasFile outside.shown name (IsAnyStored tree)
    → Passes outside (any_image name)
any-pass outside name tree has =
    has_file outside.shown name (IsAnyStored tree) (λ bytes. IsTreeIn (any_layout bytes) bytes) (any-file tree) has

any-none : (outside : Outside) (left : Remains) (name found : List ℕ) (undone : Undone Stop)
    → ReadsWhole outside.shown name most_image found → TellsNoTreeIn (any_layout found) found undone
    → ReadsAnyTree outside left name (Err undone)
any-none outside left name found Memory w t = tt
any-none outside left name found (Stopped (Length len)) w t =
    wrong_length any_layout any_sized outside.shown name found len w t.0 t.1
any-none outside left name found (Stopped (Page page why)) w t =
    page_file any_layout any_sized outside.shown name found (λ bytes. HoldsNoTreeIn (any_layout bytes) bytes page why) w t.file t
any-none outside left name found (Stopped _) w t = absurd t

pub any-told : (outside : Outside) (left : Remains) (name found : List ℕ) (r : Result AnyTree (Undone Stop))
    → ReadsWhole outside.shown name most_image found → TellsAnyTree found r → ReadsAnyTree outside left name r
any-told outside left name found (Ok tree) w t =
    page_file any_layout any_sized outside.shown name found (IsAnyStored tree) w (any-file tree found t).file t
any-told outside left name found (Err undone) w t = any-none outside left name found undone w t

pub any-cause : (found : List ℕ) (before now : ℕ) (r : Result AnyTree (Undone Stop)) → TellsAnyTree found r → HasReadCause before now r
any-cause found before now (Ok tree) t = tt
any-cause found before now (Err Memory) t = tt
any-cause found before now (Err (Stopped (Length len))) t = λ two. absurd (omega arith)
any-cause found before now (Err (Stopped (Page page why))) t = λ two. absurd (omega arith)
any-cause found before now (Err (Stopped _)) t = absurd t
