-- The words that blocks hold, page by page and as one list, and the pages of a file.
use Rattle.std.proofs.Common.{◌≡◌, ◌<◌, ◌/◌, ◌∙◌, All, ap, ap₂, arith, Bool, cond, length, List, [], ◌∷◌, None}
use Rattle.std.proofs.Common.{Option, refl, Some, subst, suc}
use Rattle.std.proofs.Common.{inl, inr, sym, true, false, ℕ}
use Rattle.std.proofs.Common.{option_map, slice_get, slice_index_or}
use Rattle.std.proofs.lemmas.Bool.{cases_lt}
use Rattle.std.specs.Option.{option_map_or}
use Rattle.std.specs.Str.{bytes_eq}
use Rattle.vm_block.specs.declared.stored.Stored.{Stored}
use Rattle.vm_device.specs.Devices.{file_of, page_in_file, size_of, StoredFile, words_at}
use Rattle.vm_image.specs.Reading.{AreRead, held_words, IsFailedAt}
use Rattle.vm_reading.specs.from_vm_endings.Held.{pages_held}
use Rattle.vm_file_serve.specs.Serving.{HoldTheSame}

pub some_one : {X : Type 0} (d x y : X) → ◌≡◌ {A = Option X} (Some x) (Some y) → x ≡ y
some_one {X = X} d x y e = ap (λ (o : Option X). option_map_or (λ (z : X). z) o d) e

-- blocks that hold the same words page by page hold the same
pub same_words : (old new : List Stored) → length new ≡ length old
    → ((p : ℕ) (d : Stored) → p < length old → (slice_index_or new p d).words ≡ (slice_index_or old p d).words)
    → held_words new ≡ held_words old
same_words [] [] e h = refl
same_words [] (n ∷ new) e h = absurd (omega (arith, e))
same_words (o ∷ old) [] e h = absurd (omega (arith, e))
same_words (o ∷ old) (n ∷ new) e h =
    ap₂ (λ (w : List ℕ) (ws : List (List ℕ)). w ∷ ws) (h 0 o (omega arith))
    (same_words old new (omega (arith, e)) (λ p d low. h (suc p) d (omega (arith, low))))

pub read_same : (tells : Bool) (old new : List Stored) → AreRead tells old new → HoldTheSame tells old new
read_same tells old new is = record {
  count = is.count;
  held = λ t. same_words old new is.count (λ p d low. (is.each p d low).words t);
}

pub failed_same : (tells : Bool) (old new : List Stored) (pid : ℕ) → IsFailedAt tells old new pid → HoldTheSame tells old new
failed_same tells old new pid is = record {
  count = is.count;
  held = λ t. same_words old new is.count (λ p d low. elim (cases_lt p pid) [
    | inl before ↦ (is.before p d before).words t
    | inr rest ↦ elim (cases_lt pid p) [
      | inl behind ↦ ap (λ (b : Stored). b.words) (is.behind p d behind)
      | inr none ↦
          let here : pid ≡ p = omega (arith, rest, none) in
          subst (λ (q : ℕ). (slice_index_or new q d).words ≡ (slice_index_or old q d).words) here ((is.here d).words t)
    ]
  ]);
}

-- pages that are the blocks' page by page are theirs
pub own_pages : (pages : List (List ℕ)) (blocks : List Stored) → length pages ≡ length blocks
    → ((p : ℕ) (d : Stored) → p < length blocks → slice_get pages p ≡ Some (slice_index_or blocks p d).words)
    → pages ≡ held_words blocks
own_pages [] [] e h = refl
own_pages [] (b ∷ blocks) e h = absurd (omega (arith, e))
own_pages (w ∷ pages) [] e h = absurd (omega (arith, e))
own_pages (w ∷ pages) (b ∷ blocks) e h =
    ap₂ (λ (x : List ℕ) (xs : List (List ℕ)). x ∷ xs) (some_one [] w b.words (h 0 b (omega arith)))
    (own_pages pages blocks (omega (arith, e)) (λ p d low. h (suc p) d (omega (arith, low))))

-- a file has as many pages as are whole in it
abbrev pub IsWhole : StoredFile → Type 0
IsWhole file = length file.pages ≡ file.size / 512

file_whole : (files : List StoredFile) (name : List ℕ) (file : StoredFile) → All IsWhole files → file_of files name ≡ Some file
    → IsWhole file
file_whole [] name file all is = absurd cc
file_whole (f ∷ files) name file all is =
    go (bytes_eq f.name name) is (file_whole files name file (λ k d low. all (suc k) d (omega (arith, low))))
  where
    go : (b : Bool) → cond b (Some f) (file_of files name) ≡ Some file → (file_of files name ≡ Some file → IsWhole file) → IsWhole file
    go true e later = subst IsWhole (some_one f f file e) (all 0 f (omega arith))
    go false e later = later e

-- a file of so many bytes whose pages are the blocks', page by page, has the blocks' pages
pub held_pages : (files : List StoredFile) (name : List ℕ) (size : ℕ) (blocks : List Stored) → All IsWhole files
    → size_of files name ≡ Some size → length blocks ≡ size / 512
    → ((p : ℕ) (d : Stored) → p < length blocks → words_at files name p ≡ Some (slice_index_or blocks p d).words)
    → pages_held files name ≡ Some (held_words blocks)
held_pages files name size blocks all has many words = go (file_of files name) refl has words
  where
    go : (o : Option StoredFile) → file_of files name ≡ o → option_map (λ (f : StoredFile). f.size) o ≡ Some size
        → ((p : ℕ) (d : Stored) → p < length blocks → page_in_file o p ≡ Some (slice_index_or blocks p d).words)
        → option_map (λ (f : StoredFile). f.pages) o ≡ Some (held_words blocks)
    go None is s w = absurd cc
    go (Some f) is s w =
        let whole : length f.pages ≡ f.size / 512 = file_whole files name f all is in
        let size_is : f.size ≡ size = some_one 0 f.size size s in
        let long : length f.pages ≡ length blocks = whole ∙ ap (λ n. n / 512) size_is ∙ sym many in
        ap (λ (ps : List (List ℕ)). Some ps) (own_pages f.pages blocks long w)
