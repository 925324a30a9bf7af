-- Blocks that come home: where they hold what they held the files are as they were, and no other page changes.
use Rattle.std.proofs.Common.{◌≡◌, ◌<◌, ◌∙◌, ap, arith, length, List, Option, refl, Some, ℕ}
use Rattle.std.proofs.Common.{◌∷◌, [], None, option_map, slice_get, slice_index_or, suc, zero}
use Rattle.vm_block.specs.declared.stored.Stored.{Stored}
use Rattle.vm_device.specs.Devices.{file_of, page_in_file, size_of, StoredFile, words_at}
use Rattle.vm_device.specs.Whole.{HaveBlocksWords}
use Rattle.vm_device.proofs.Written.{all_own}
use Rattle.vm_image.specs.Reading.{held_words}
use Rattle.vm_reading.specs.from_vm_endings.Held.{pages_held}
use Rattle.vm_reading.specs.from_vm_endings.Outside.{ChangesJust}

-- what is not the blocks' own pages is as it was
pub just_changes : (old new : List StoredFile) (name : List ℕ) (blocks : List Stored) → HaveBlocksWords old new name blocks
    → ChangesJust old new name
just_changes old new name blocks have = record { sizes = have.sizes; others = have.others }

pub none_change : (old new : List StoredFile) (name : List ℕ) → new ≡ old → ChangesJust old new name
none_change old new name same = record {
  sizes = λ other. ap (λ (fs : List StoredFile). size_of fs other) same;
  others = λ other p differ. ap (λ (fs : List StoredFile). words_at fs other p) same;
}

-- the words of a page of the file are those that its list of pages has
pub word_at : (files : List StoredFile) (name : List ℕ) (pages : List (List ℕ)) (p : ℕ) → pages_held files name ≡ Some pages
    → words_at files name p ≡ slice_get pages p
word_at files name pages p held = go (file_of files name) held
  where
    go : (o : Option StoredFile) → option_map (λ (f : StoredFile). f.pages) o ≡ Some pages
        → page_in_file o p ≡ slice_get pages p
    go None e = absurd cc
    go (Some f) e = cc

pub held_at : (blocks : List Stored) (p : ℕ) (d : Stored) → p < length blocks → slice_get (held_words blocks) p ≡ Some (slice_index_or blocks p d).words
held_at [] p d low = absurd (omega (arith, low))
held_at (b ∷ blocks) zero d low = refl
held_at (b ∷ blocks) (suc p) d low = held_at blocks p d (omega (arith, low))

-- blocks that hold the file's own pages leave it as it was
pub own_home : (old new : List StoredFile) (name : List ℕ) (blocks : List Stored) → HaveBlocksWords old new name blocks
    → pages_held old name ≡ Some (held_words blocks) → new ≡ old
own_home old new name blocks have held =
    have.all ∙ all_own name old 0 blocks
    (λ p d low. ap (λ (q : ℕ). words_at old name q) (omega arith) ∙ word_at old name (held_words blocks) p held ∙ held_at blocks p d low)
