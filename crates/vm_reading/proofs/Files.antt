-- What is read of a file, and what the file has.
use Rattle.std.proofs.Common.{◌≡◌, ℕ, ◌+◌, ◌≤◌, ◌<◌, List, length, take, Option, Some, None, ◌⊎◌, inl, inr, sym, ap}
use Rattle.std.proofs.Common.{subst, ◌∙◌, arith}
use Rattle.std.proofs.Common.{length-take}
use Rattle.std.proofs.lemmas.Bool.{cases_lt}
use Rattle.std.proofs.lemmas.List.{take_all}
use Rattle.vm_io.specs.Shown.{Shown}
use Rattle.vm_io.specs.Loops.{ReadsWhole}
use Rattle.vm_endings.specs.Files.{HasFile}
use Rattle.vm_page.specs.Sizes.{IsSize}
use Rattle.vm_tree_model.specs.Layout.{Layout}
use Rattle.vm_image.specs.File.{IsPageFile}
use Rattle.vm_image.proofs.FileSizes.{bytes_few}
use Rattle.vm_endings.specs.Images.{most_image, IsWrongLengthIn}

whole_bytes : (bytes found : List ℕ) (limit : ℕ) → found ≡ take (limit + 1) bytes → length found ≤ limit → found ≡ bytes
whole_bytes bytes found limit e h = e ∙ take_all (limit + 1) bytes (omega (arith, ap length e, length-take (limit + 1) bytes))

-- a file that was read to its end is what was read
pub short_file : (told : Option Shown) (name found : List ℕ) (limit : ℕ) (P : List ℕ → Type 0)
    → ReadsWhole told name limit found → length found ≤ limit → P found → HasFile told name P
short_file None name found limit P w h p = (found, p)
short_file (Some shown) name found limit P w h p = (w.bytes, w.file, subst P (whole_bytes w.bytes found limit w.front h) p)

-- a file of which more than the limit was read is longer than it
pub long_file : (told : Option Shown) (name found : List ℕ) (limit : ℕ) → ReadsWhole told name limit found
    → limit < length found → HasFile told name (λ bytes. limit < length bytes)
long_file None name found limit w h = (found, h)
long_file (Some shown) name found limit w h = (w.bytes, w.file, omega (arith, ap length w.front, length-take (limit + 1) w.bytes))

-- where a file's first bytes tell its layout, whose pages have 64 or 512 words
module _ (layout : List ℕ → Layout) (sized : (bytes : List ℕ) → IsSize (layout bytes).words) where
  -- a page file has no more bytes than one may have
  file_few : (bytes : List ℕ) → IsPageFile (layout bytes).words bytes → length bytes ≤ most_image
  file_few bytes file = omega (arith, bytes_few (layout bytes).words (sized bytes) file.0 file.2, file.3)

  -- a page file that was read is the file
  pub page_file : (told : Option Shown) (name found : List ℕ) (P : List ℕ → Type 0)
      → ReadsWhole told name most_image found → IsPageFile (layout found).words found → P found → HasFile told name P
  page_file told name found P w file p = short_file told name found most_image P w (file_few found file) p

  short_length : (bytes found : List ℕ) (told : ℕ) → found ≡ take (most_image + 1) bytes → told ≡ length found
      → ¬ (IsPageFile (layout found).words found) → (most_image < length found) ⊎ (length found ≤ most_image)
      → IsWrongLengthIn (layout bytes) bytes told
  short_length bytes found told e t none (inr short) =
      let same : found ≡ bytes = whole_bytes bytes found most_image e short in
      let len : length found ≡ length bytes = ap length same in
      record { none = λ file. none (subst (λ b. IsPageFile (layout b).words b) (sym same) file); len = omega arith }
  short_length bytes found told e t none (inl long) = record {
    none = λ file. omega (arith, ap length e, length-take (most_image + 1) bytes, file_few bytes file);
    len = omega (arith, ap length e, length-take (most_image + 1) bytes);
  }

  -- where what was read is no page file, the file is none, and its length is told up to one past a page file's most
  pub wrong_length : (told : Option Shown) (name found : List ℕ) (len : ℕ) → ReadsWhole told name most_image found
      → len ≡ length found → ¬ (IsPageFile (layout found).words found)
      → HasFile told name (λ bytes. IsWrongLengthIn (layout bytes) bytes len)
  wrong_length None name found len w e none =
      (w.0, short_length w.0 found len w.1 e none (cases_lt most_image (length found)))
  wrong_length (Some shown) name found len w e none =
      (w.bytes, w.file, short_length w.bytes found len w.front e none (cases_lt most_image (length found)))

-- what holds of a file's bytes may be said weaker
pub has_file : (told : Option Shown) (name : List ℕ) (P Q : List ℕ → Type 0) → ((bytes : List ℕ) → P bytes → Q bytes)
    → HasFile told name P → HasFile told name Q
has_file None name P Q h f = (f.0, h f.0 f.1)
has_file (Some shown) name P Q h f = (f.0, f.1, h f.0 f.2)

-- there are bytes of which it holds
abbrev pub some_bytes : (told : Option Shown) (name : List ℕ) (P : List ℕ → Type 0) → HasFile told name P
    → (bytes : List ℕ) × P bytes
some_bytes None name P has = has
some_bytes (Some shown) name P has = (has.0, has.2)
