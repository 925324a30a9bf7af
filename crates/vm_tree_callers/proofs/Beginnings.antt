-- A pool may begin with the blocks of an image that is a tree; its first pass has fresh parts.
use Rattle.std.proofs.Common.{[], ◌<◌, ◌∙◌, ◌∷◌, ◌≡◌, ap, arith, Bool, length, List, map, refl, replicate}
use Rattle.std.proofs.Common.{slice_index, subst, suc, sym, zero, ℕ, true≢false}
use Rattle.vm_page.specs.Sizes.{IsSize}
use Rattle.vm_map.specs.declared.call.Said.{Said}
use Rattle.vm_tree_model.specs.{Fixed.fixed, Layout.IsLayout, Layout.Layout, Tree.IsTree}
use Rattle.vm_tree_model.proofs.FixedLaws.{sized_layout}
use Rattle.vm_image.specs.{Blocks.AreBlocksOf, Blocks.pages_of_blocks, declared.blocks.PlannedFault.PlannedFault, File.IsNextPage}
use Rattle.vm_event.specs.Prelude.{page_at}
use Rattle.vm_rule.specs.Prelude.{block_words, MayBegin, MemBlock, numbers, started_shape, Stored, stored_of, unborn, words_of}
use Rattle.vm_rule.specs.Begun.{begun}
use Rattle.vm_step.specs.Prelude.{View}
use Rattle.vm_tree_laws.specs.Plain.{KeepsPlain}
use Rattle.vm_tree_laws.proofs.Starts.{start_keeps}

words-held : {size : ℕ} (blocks : List (MemBlock size)) → block_words (map stored_of blocks) ≡ pages_of_blocks blocks
words-held [] = refl
words-held (b ∷ bs) = ap (λ (l : List (List ℕ)). words_of b ∷ l) (words-held bs)

all-zero : (n : ℕ) (ws : List ℕ) → length ws ≡ n → ((i : ℕ) → slice_index ws i ≡ 0) → ws ≡ replicate n 0
all-zero zero [] e z = refl
all-zero zero (x ∷ xs) e z = absurd (omega arith)
all-zero (suc n) [] e z = absurd (omega arith)
all-zero (suc n) (x ∷ xs) e z =
    let first : x ≡ 0 = z 0 in let rest : xs ≡ replicate n 0 = all-zero n xs (omega arith) (λ i. z (suc i)) in cc

pub begins-of : {S : Type 0} (plain : S → Said) (L : Layout) → IsLayout L → (size : ℕ) (pages : List (List ℕ))
    (plan : List PlannedFault) (next : ℕ) (blocks : List (MemBlock size)) → IsTree L pages → IsNextPage size pages next
    → AreBlocksOf pages plan blocks → MayBegin (KeepsPlain plain L) next [] (block_words (map stored_of blocks))
begins-of plain L laws size pages plan next blocks tree free held =
    subst (λ (l : List (List ℕ)). MayBegin (KeepsPlain plain L) next [] l) (sym (words-held blocks ∙ held.held))
    (record {
      zero = λ p l m. let f = free.free p l m in all-zero (length (page_at pages p)) (page_at pages p) refl f.zero;
      spare = λ p e. absurd (true≢false (sym e));
      kept = start_keeps L laws (record { pages = pages; next = next; free = [] }) tree free.within;
    })

-- the same of trees whose keys are words
pub begins : (size : ℕ) → IsSize size → (pages : List (List ℕ)) (plan : List PlannedFault) (next : ℕ)
    (blocks : List (MemBlock size)) → IsTree (fixed size) pages → IsNextPage size pages next
    → AreBlocksOf pages plan blocks → MayBegin (KeepsPlain (λ (s : Said). s) (fixed size)) next []
    (block_words (map stored_of blocks))
begins size sized = begins-of (λ (s : Said). s) (fixed size) (sized_layout size sized) size

numbers-long : (a n : ℕ) → length (numbers a n) ≡ n
unfolding numbers
numbers-long a zero = refl
numbers-long a (suc n) = ap suc (numbers-long (suc a) n)

-- the first pass of a pool has fresh parts
pub has-fresh : {X : Type 0} (size : ℕ) (tells : Bool) (version next frames : ℕ) (blocks : List Stored) (v : View X)
    → v ≡ begun (unborn (started_shape size tells version next [] [] frames blocks)) → 0 < length v.fresh
has-fresh {X} size tells version next frames blocks v is = let long : length v.fresh ≡ 4294967295 =
    ap (λ (x : View X). length x.fresh) is ∙ numbers-long 1 4294967295 in omega arith
