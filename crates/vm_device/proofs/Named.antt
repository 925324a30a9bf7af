-- What the place of the first file with a name tells of the files.
use Rattle.std.proofs.Common.{◌≡◌, ℕ, zero, suc, ◌<◌, List, [], ◌∷◌, length, Bool, true, false, cond, Some, None}
use Rattle.std.proofs.Common.{refl, sym, ap, ◌∙◌, slice_index_or, slice_set, arith}
use Rattle.std.specs.Str.{bytes_eq}
use Rattle.std.specs.Prelude.{Option, is_some}
use Rattle.vm_device.specs.Devices.{StoredFile, file_of, files_home, with_words}
use Rattle.vm_device.specs.Held.{StandsFirst}
use Rattle.vm_device.specs.Memory.{files_in, stored_file}
use Rattle.vm_device.specs.declared.memory.PagesFile.{PagesFile}
use Rattle.vm_device.proofs.First.{behind, nowhere}

module _ {n : ℕ} (name : List ℕ) where
  abbrev named : PagesFile n → Bool
  named file = bytes_eq (stored_file file).name name

  pub none_named : (files : List (PagesFile n)) → ((k : ℕ) (d : PagesFile n) → k < length files → named (slice_index_or files k d) ≡ false)
      → file_of (files_in files) name ≡ None
  none_named [] h = refl
  none_named (file ∷ files) h = ap (λ same. cond same (Some (stored_file file)) (file_of (files_in files) name)) (h 0 file (omega arith))
      ∙ none_named files (λ k d low. h (suc k) d (omega arith))

  found : (files : List (PagesFile n)) (i : ℕ) (d : PagesFile n) → StandsFirst named files i
      → file_of (files_in files) name ≡ Some (stored_file (slice_index_or files i d))
  found [] i d p = nowhere named i p
  found (file ∷ files) zero d p =
      ap (λ same. cond same (Some (stored_file file)) (file_of (files_in files) name)) (p.here d)
  found (file ∷ files) (suc i) d p =
      ap (λ same. cond same (Some (stored_file file)) (file_of (files_in files) name)) (p.first 0 d (omega arith))
      ∙ found files i d (behind named file files i p)

  -- the file that was found
  pub found_file : (files : List (PagesFile n)) (i : ℕ) (file : PagesFile n) → StandsFirst named files i
      → file ≡ slice_index_or files i file → file_of (files_in files) name ≡ Some (stored_file file)
  found_file files i file p e = found files i file p ∙ ap (λ f. Some (stored_file f)) (sym e)

  set_found : (files : List (PagesFile n)) (i page : ℕ) (words : List ℕ) (d new : PagesFile n) → StandsFirst named files i
      → stored_file new ≡ record (stored_file (slice_index_or files i d)) {
        pages = slice_set (slice_index_or files i d).pages.items page words;
      }
      → files_in (slice_set files i new) ≡ with_words (files_in files) name page words
  set_found [] i page words d new p e = nowhere named i p
  set_found (file ∷ files) zero page words d new p e =
      ap (λ f. f ∷ files_in files) e
      ∙ sym (ap (λ same. cond same (record (stored_file file) { pages = slice_set file.pages.items page words } ∷ files_in files)
      (stored_file file ∷ with_words (files_in files) name page words)) (p.here d))
  set_found (file ∷ files) (suc i) page words d new p e =
      ap (λ l. stored_file file ∷ l) (set_found files i page words d new (behind named file files i p) e)
      ∙ sym (ap (λ same. cond same (record (stored_file file) { pages = slice_set file.pages.items page words } ∷ files_in files)
      (stored_file file ∷ with_words (files_in files) name page words)) (p.first 0 d (omega arith)))

  -- the file that was found has a page written
  pub found_put : (files : List (PagesFile n)) (i page : ℕ) (words : List ℕ) (file new : PagesFile n) → StandsFirst named files i
      → file ≡ slice_index_or files i file
      → stored_file new ≡ record (stored_file file) { pages = slice_set (stored_file file).pages page words }
      → files_in (slice_set files i new) ≡ with_words (files_in files) name page words
  found_put files i page words file new p e put =
      set_found files i page words file new p
      (put ∙ ap (λ (f : PagesFile n). record (stored_file f) { pages = slice_set f.pages.items page words }) e)

  -- where there is no such file nothing is written
  pub none_put : (files : List (PagesFile n)) (page : ℕ) (words : List ℕ) → file_of (files_in files) name ≡ None
      → with_words (files_in files) name page words ≡ files_in files
  none_put [] page words h = refl
  none_put (file ∷ files) page words h = split (none_put files page words) (named file) refl
    where
      split : (file_of (files_in files) name ≡ None → with_words (files_in files) name page words ≡ files_in files)
          → (b : Bool) → named file ≡ b → with_words (files_in (file ∷ files)) name page words ≡ files_in (file ∷ files)
      split others true is =
          let some : Some (stored_file file) ≡ None =
          sym (ap (λ same. cond same (Some (stored_file file)) (file_of (files_in files) name)) is) ∙ h in grind (arith, some)
      split others false is =
          let rest : file_of (files_in files) name ≡ None =
          sym (ap (λ same. cond same (Some (stored_file file)) (file_of (files_in files) name)) is) ∙ h in
          ap (λ same. cond same (record (stored_file file) { pages = slice_set file.pages.items page words } ∷ files_in files)
          (stored_file file ∷ with_words (files_in files) name page words)) is ∙ ap (λ l. stored_file file ∷ l) (others rest)

-- a block that was out comes home
pub some_home : (before : Option ℕ) (files : List StoredFile) (name : List ℕ) (page : ℕ) (words : List ℕ) → is_some before ≡ true
    → files_home before files name page words ≡ with_words files name page words
some_home None files name page words is = grind (arith, is)
some_home (Some count) files name page words is = refl
