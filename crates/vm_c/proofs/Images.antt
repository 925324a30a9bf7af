-- The bytes of pages of 64 words, and the words of blocks in memory.
use Rattle.std.proofs.Common.{[], ◌*◌, ◌/◌, ◌∷◌, ◌≡◌, ap, arith, length}
use Rattle.std.proofs.Common.{length-append, List, map, refl, subst, suc, true, zero, ℕ}
use Rattle.std.proofs.lemmas.List.{length-map}
use Rattle.vm_block.specs.Memory.{stored_of, words_of}
use Rattle.vm_block.specs.declared.{memory.MemBlock.MemBlock, stored.Stored.Stored}
use Rattle.vm_map.specs.declared.call.Said.{Said}
use Rattle.vm_image.specs.{Blocks.pages_of_blocks, File.IsPageFile, File.page_in, File.pages_in, File.pages_of_bytes}
use Rattle.vm_step.specs.Prelude.{View}
use Rattle.vm_face.specs.Closed.{IsClosedOn}

length-pages_in : (n : ℕ) (bytes : List ℕ) (count : ℕ) → length (pages_in n bytes count) ≡ count
length-pages_in n bytes zero = refl
length-pages_in n bytes (suc count) =
    omega (arith, length-append (pages_in n bytes count) (page_in n bytes count ∷ []), length-pages_in n bytes count)

-- a page file of blocks' pages has 512 bytes for each block
pub file-long : (bytes : List ℕ) (blocks : List (MemBlock 64)) → IsPageFile 64 bytes → pages_of_bytes 64 bytes ≡ pages_of_blocks blocks
    → length bytes ≡ 512 * length blocks
file-long bytes blocks file is =
    let read : length (pages_of_bytes 64 bytes) ≡ length bytes / (8 * 64) = length-pages_in 64 bytes (length bytes / (8 * 64)) in
    let held : length (pages_of_blocks blocks) ≡ length blocks = length-map blocks words_of in
    let same : length (pages_of_bytes 64 bytes) ≡ length (pages_of_blocks blocks) = ap (λ (l : List (List ℕ)). length l) is in
    omega (arith, read, held, same, file.3)

pub words-held : (blocks : List (MemBlock 64)) → map (λ (b : Stored). b.words) (map stored_of blocks) ≡ pages_of_blocks blocks
words-held [] = refl
words-held (b ∷ bs) = ap (λ (l : List (List ℕ)). words_of b ∷ l) (words-held bs)

pub closed-as : {n m : ℕ} {w u : List (List ℕ)} {v x : View Said} → n ≡ m → w ≡ u → v ≡ x → IsClosedOn 64 true n w v → IsClosedOn 64 true m u x
closed-as {n} {m} {w} {u} {v} {x} failed words view closed =
    subst (λ (y : View Said). IsClosedOn 64 true m u y) view
    (subst (λ (l : List (List ℕ)). IsClosedOn 64 true m l v) words (subst (λ (k : ℕ). IsClosedOn 64 true k w v) failed closed))
