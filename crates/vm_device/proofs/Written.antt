-- Files of which pages are written: what they have then, and that a page's own words change nothing.
use Rattle.std.proofs.Common.{◌≡◌, ◌≢◌, ℕ, zero, suc, ◌+◌, ◌<◌, ◌≤◌, List, [], ◌∷◌, ◌++◌, length, Bool, true, false}
use Rattle.std.proofs.Common.{cond, Option, Some, None}
use Rattle.std.proofs.Common.{refl, sym, ap, ◌∙◌, arith, bytes_eq, is_some, option_map, slice_get, slice_set, slice_index_or}
use Rattle.std.proofs.lemmas.Slice.Eq.{bytes_eq-Decides}
use Rattle.vm_block.specs.declared.stored.Stored.{Stored}
use Rattle.vm_device.specs.Devices.{StoredFile, file_of, page_in_file, size_of, with_words, words_at}
use Rattle.vm_device.specs.Whole.{with_all_words}

set_there : (pages : List (List ℕ)) (p : ℕ) (words : List ℕ) → is_some (slice_get pages p) ≡ true
    → slice_get (slice_set pages p words) p ≡ Some words
set_there [] p words some = grind (arith, some)
set_there (page ∷ pages) zero words some = refl
set_there (page ∷ pages) (suc p) words some = set_there pages p words some

set_elsewhere : (pages : List (List ℕ)) (p q : ℕ) (words : List ℕ) → q ≢ p → slice_get (slice_set pages p words) q ≡ slice_get pages q
set_elsewhere [] p q words apart = refl
set_elsewhere (page ∷ pages) zero zero words apart = absurd (apart refl)
set_elsewhere (page ∷ pages) zero (suc q) words apart = refl
set_elsewhere (page ∷ pages) (suc p) zero words apart = refl
set_elsewhere (page ∷ pages) (suc p) (suc q) words apart = set_elsewhere pages p q words (λ e. apart (omega (arith, e)))

set_own : (pages : List (List ℕ)) (p : ℕ) (words : List ℕ) → slice_get pages p ≡ Some words → slice_set pages p words ≡ pages
set_own [] p words own = refl
set_own (page ∷ pages) zero words own = ap (λ w. w ∷ pages) (grind (arith, own))
set_own (page ∷ pages) (suc p) words own = ap (λ l. page ∷ l) (set_own pages p words own)

is_unlike : (b : Bool) → (b ≡ true → ⊥) → b ≡ false
is_unlike true never = absurd (never refl)
is_unlike false never = refl

module _ (name : List ℕ) (p : ℕ) (words : List ℕ) where
  -- the file with this page written
  abbrev written : StoredFile → StoredFile
  written file = record file { pages = slice_set file.pages p words }

  abbrev rewritten : List StoredFile → List StoredFile
  rewritten files = with_words files name p words

  -- the file of that name is the written one
  file_written : (files : List StoredFile) → file_of (rewritten files) name ≡ option_map written (file_of files name)
  file_written [] = refl
  file_written (file ∷ files) = split (file_written files) (bytes_eq file.name name) refl
    where
      split : file_of (rewritten files) name ≡ option_map written (file_of files name) → (same : Bool) → bytes_eq file.name name ≡ same
          → file_of (rewritten (file ∷ files)) name ≡ option_map written (file_of (file ∷ files) name)
      split rest true is = ap (λ same. file_of (cond same (written file ∷ files) (file ∷ rewritten files)) name) is
          ∙ ap (λ same. cond same (Some (written file)) (file_of files name)) is
          ∙ sym (ap (λ same. option_map written (cond same (Some file) (file_of files name))) is)
      split rest false is = ap (λ same. file_of (cond same (written file ∷ files) (file ∷ rewritten files)) name) is
          ∙ ap (λ same. cond same (Some file) (file_of (rewritten files) name)) is
          ∙ rest
          ∙ sym (ap (λ same. option_map written (cond same (Some file) (file_of files name))) is)

  -- and that of another name is as before
  file_other : (files : List StoredFile) (other : List ℕ) → other ≢ name → file_of (rewritten files) other ≡ file_of files other
  file_other [] other apart = refl
  file_other (file ∷ files) other apart = split (file_other files other apart) (bytes_eq file.name name) refl
    where
      split : file_of (rewritten files) other ≡ file_of files other → (same : Bool) → bytes_eq file.name name ≡ same
          → file_of (rewritten (file ∷ files)) other ≡ file_of (file ∷ files) other
      split rest true is =
          let unlike : bytes_eq file.name other ≡ false =
          is_unlike (bytes_eq file.name other)
          (λ like. apart (sym ((bytes_eq-Decides file.name other).0 like) ∙ (bytes_eq-Decides file.name name).0 is)) in
          ap (λ same. file_of (cond same (written file ∷ files) (file ∷ rewritten files)) other) is
          ∙ ap (λ same. cond same (Some (written file)) (file_of files other)) unlike
          ∙ sym (ap (λ same. cond same (Some file) (file_of files other)) unlike)
      split rest false is = ap (λ same. file_of (cond same (written file ∷ files) (file ∷ rewritten files)) other) is
          ∙ ap (λ others. cond (bytes_eq file.name other) (Some file) others) rest

  -- each file has its size
  size_written : (files : List StoredFile) (other : List ℕ) → size_of (rewritten files) other ≡ size_of files other
  size_written [] other = refl
  size_written (file ∷ files) other = split (size_written files other) (bytes_eq file.name name) refl
    where
      its : (b : Bool) (rest : Option StoredFile)
          → option_map (λ (f : StoredFile). f.size) (cond b (Some (written file)) rest)
          ≡ option_map (λ (f : StoredFile). f.size) (cond b (Some file) rest)
      its true rest = refl
      its false rest = refl

      both : (b : Bool) (now before : Option StoredFile)
          → option_map (λ (f : StoredFile). f.size) now ≡ option_map (λ (f : StoredFile). f.size) before
          → option_map (λ (f : StoredFile). f.size) (cond b (Some file) now)
          ≡ option_map (λ (f : StoredFile). f.size) (cond b (Some file) before)
      both true now before same = refl
      both false now before same = same

      split : size_of (rewritten files) other ≡ size_of files other → (same : Bool) → bytes_eq file.name name ≡ same
          → size_of (rewritten (file ∷ files)) other ≡ size_of (file ∷ files) other
      split rest true is = ap (λ same. size_of (cond same (written file ∷ files) (file ∷ rewritten files)) other) is
          ∙ its (bytes_eq file.name other) (file_of files other)
      split rest false is = ap (λ same. size_of (cond same (written file ∷ files) (file ∷ rewritten files)) other) is
          ∙ both (bytes_eq file.name other) (file_of (rewritten files) other) (file_of files other) rest

  -- the page that is written has the words
  page_written : (files : List StoredFile) → is_some (words_at files name p) ≡ true → words_at (rewritten files) name p ≡ Some words
  page_written files some = ap (λ file. page_in_file file p) (file_written files) ∙ of (file_of files name) some
    where
      of : (file : Option StoredFile) → is_some (page_in_file file p) ≡ true → page_in_file (option_map written file) p ≡ Some words
      of None has = grind (arith, has)
      of (Some file) has = set_there file.pages p words has

  -- another page of the file those that it had
  page_other : (files : List StoredFile) (q : ℕ) → q ≢ p → words_at (rewritten files) name q ≡ words_at files name q
  page_other files q apart = ap (λ file. page_in_file file q) (file_written files) ∙ of (file_of files name)
    where
      of : (file : Option StoredFile) → page_in_file (option_map written file) q ≡ page_in_file file q
      of None = refl
      of (Some file) = set_elsewhere file.pages p q words apart

  -- a page's own words change nothing
  own_words : (files : List StoredFile) → words_at files name p ≡ Some words → rewritten files ≡ files
  own_words [] own = refl
  own_words (file ∷ files) own = split (own_words files) (bytes_eq file.name name) refl
    where
      split : (words_at files name p ≡ Some words → rewritten files ≡ files) → (same : Bool) → bytes_eq file.name name ≡ same
          → rewritten (file ∷ files) ≡ file ∷ files
      split rest true is =
          let here : slice_get file.pages p ≡ Some words =
          sym (ap (λ same. page_in_file (cond same (Some file) (file_of files name)) p) is) ∙ own in
          ap (λ same. cond same (written file ∷ files) (file ∷ rewritten files)) is
          ∙ ap (λ (pages : List (List ℕ)). record file { pages = pages } ∷ files) (set_own file.pages p words here)
      split rest false is =
          let there : words_at files name p ≡ Some words =
          sym (ap (λ same. page_in_file (cond same (Some file) (file_of files name)) p) is) ∙ own in
          ap (λ same. cond same (written file ∷ files) (file ∷ rewritten files)) is ∙ ap (λ l. file ∷ l) (rest there)

module _ (name : List ℕ) where
  pub all_sizes : (files : List StoredFile) (first : ℕ) (blocks : List Stored) (other : List ℕ)
      → size_of (with_all_words files name first blocks) other ≡ size_of files other
  all_sizes files first [] other = refl
  all_sizes files first (block ∷ blocks) other =
      all_sizes (with_words files name first block.words) (first + 1) blocks other ∙ size_written name first block.words files other

  pub all_others : (files : List StoredFile) (first : ℕ) (blocks : List Stored) (other : List ℕ) (p : ℕ) → other ≢ name
      → words_at (with_all_words files name first blocks) other p ≡ words_at files other p
  all_others files first [] other p apart = refl
  all_others files first (block ∷ blocks) other p apart =
      all_others (with_words files name first block.words) (first + 1) blocks other p apart
      ∙ ap (λ file. page_in_file file p) (file_other name first block.words files other apart)

  all_below : (files : List StoredFile) (first : ℕ) (blocks : List Stored) (p : ℕ) → p < first
      → words_at (with_all_words files name first blocks) name p ≡ words_at files name p
  all_below files first [] p low = refl
  all_below files first (block ∷ blocks) p low =
      all_below (with_words files name first block.words) (first + 1) blocks p (omega (arith, low))
      ∙ page_other name first block.words files p (λ e. omega (arith, e, low))

  pub all_past : (files : List StoredFile) (first : ℕ) (blocks : List Stored) (p : ℕ) → first + length blocks ≤ p
      → words_at (with_all_words files name first blocks) name p ≡ words_at files name p
  all_past files first [] p high = refl
  all_past files first (block ∷ blocks) p high =
      all_past (with_words files name first block.words) (first + 1) blocks p (omega (arith, high))
      ∙ page_other name first block.words files p (λ e. omega (arith, e, high))

  -- each page has its block's words
  pub all_words : (files : List StoredFile) (first : ℕ) (blocks : List Stored) (p page : ℕ) (d : Stored) → p < length blocks
      → page ≡ first + p → is_some (words_at files name page) ≡ true
      → words_at (with_all_words files name first blocks) name page ≡ Some (slice_index_or blocks p d).words
  all_words files first [] p page d low at some = absurd (omega (arith, low))
  all_words files first (block ∷ blocks) zero page d low at some =
      let here : first ≡ page = omega (arith, at) in
      all_below (with_words files name first block.words) (first + 1) blocks page (omega (arith, at))
      ∙ ap (λ q. words_at (with_words files name first block.words) name q) (sym here)
      ∙ page_written name first block.words files (ap (λ q. is_some (words_at files name q)) here ∙ some)
  all_words files first (block ∷ blocks) (suc p) page d low at some =
      all_words (with_words files name first block.words) (first + 1) blocks p page d (omega (arith, low)) (omega (arith, at))
      (ap (λ words. is_some words) (page_other name first block.words files page (λ e. omega (arith, e, at))) ∙ some)

  -- blocks that hold the pages' own words change nothing
  pub all_own : (files : List StoredFile) (first : ℕ) (blocks : List Stored)
      → ((p : ℕ) (d : Stored) → p < length blocks → words_at files name (first + p) ≡ Some (slice_index_or blocks p d).words)
      → with_all_words files name first blocks ≡ files
  all_own files first [] own = refl
  all_own files first (block ∷ blocks) own =
      let here : words_at files name first ≡ Some block.words =
      ap (λ q. words_at files name q) (omega arith) ∙ own 0 block (omega arith) in
      ap (λ same. with_all_words same name (first + 1) blocks) (own_words name first block.words files here)
      ∙ all_own files (first + 1) blocks
      (λ p d low. ap (λ q. words_at files name q) (omega arith) ∙ own (suc p) d (omega (arith, low)))

  -- one page more
  pub one_written : (files : List StoredFile) (first : ℕ) (blocks : List Stored) (block : Stored) (page : ℕ) → page ≡ first + length blocks
      → with_all_words files name first (blocks ++ block ∷ [])
      ≡ with_words (with_all_words files name first blocks) name page block.words
  one_written files first [] block page at = ap (λ q. with_words files name q block.words) (omega (arith, at))
  one_written files first (other ∷ blocks) block page at =
      one_written (with_words files name first other.words) (first + 1) blocks block page (omega (arith, at))
