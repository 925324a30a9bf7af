-- The pairs of a page that lie in a range, taken one by one.
use Rattle.std.proofs.Common.{◌≡◌, ℕ, ◌+◌, ◌*◌, ◌<◌, ◌≤◌, Bool, true, false, List, [], ◌∷◌, ◌++◌, length, get_or}
use Rattle.std.proofs.Common.{take, min, leb, ltb, ◌&&◌, if◌then◌else◌, refl, sym, ap, ◌∙◌, arith, append-nil}
use Rattle.std.proofs.Common.{append_assoc}
use Rattle.std.proofs.lemmas.List.{take_all, take_more}
use Rattle.vm_page.specs.Sizes.{IsSize}
use Rattle.vm_map.specs.Map.{Pairs}
use Rattle.vm_map.specs.History.{between}
use Rattle.vm_tree_model.specs.Fixed.{fixed_pairs, high_of}
use Rattle.vm_node.proofs.ReadPairs.{pair_is}

-- what was appended to `old` are those in the range among the first i
pub record IsRanging (n from high bound count i : ℕ) (old new : Pairs) (words : List ℕ) : Type 0 where
  pub fence : high ≡ high_of words
  pub all : count ≡ length (fixed_pairs n words)
  pub pairs : new ≡ old ++ between (take i (fixed_pairs n words)) from (min high bound)

-- a pair behind others is in the range, or is not
between-last : (m : Pairs) (from upto key value : ℕ) → between (m ++ (key, value) ∷ []) from upto ≡ between m from
    upto ++ between ((key, value) ∷ []) from upto
between-last [] from upto key value = refl
between-last (e ∷ es) from upto key value = go (leb from e.0 && ltb e.0 upto) (between-last es from upto key value)
  where
    go : (b : Bool) → between (es ++ (key, value) ∷ []) from upto ≡ between es from upto ++ between ((key, value) ∷ []) from upto
        → (if b then e ∷ between (es ++ (key, value) ∷ []) from upto else between (es ++ (key, value) ∷ []) from upto)
        ≡ (if b then e ∷ between es from upto else between es from upto) ++ between ((key, value) ∷ []) from upto
    go true rest = ap (λ (l : Pairs). e ∷ l) rest
    go false rest = rest

pub ranging_begins : (n from high bound count : ℕ) (old : Pairs) (words : List ℕ) → high ≡ high_of words
    → count ≡ length (fixed_pairs n words) → IsRanging n from high bound count 0 old old words
ranging_begins n from high bound count old words fence all = record { fence = fence; all = all; pairs = sym (append-nil old) }

module _ (n : ℕ) (size_of : IsSize n) (from high bound count i : ℕ) (old new : Pairs) (words : List ℕ)
    (is : IsRanging n from high bound count i old new words) (size : length words ≡ n) (left : i < count)
    (key value : ℕ)
    (read_key : get_or words (8 + 2 * i) 0 ≡ key) (read_value : get_or words (9 + 2 * i) 0 ≡ value) where
  inside : i < length (fixed_pairs n words)
  inside = omega (arith, left, is.all)

  longer : between (take (i + 1) (fixed_pairs n words)) from (min high bound) ≡ between (take i (fixed_pairs n words))
      from (min high bound) ++ between ((key, value) ∷ []) from (min high bound)
  longer =
      ap (λ (l : Pairs). between l from (min high bound))
      (take_more (fixed_pairs n words) i (0, 0) inside
      ∙ ap (λ (e : ℕ × ℕ). take i (fixed_pairs n words) ++ e ∷ [])
      (pair_is n size_of words size i inside ∙ (λ j. (read_key j, read_value j))))
      ∙ between-last (take i (fixed_pairs n words)) from (min high bound) key value

  pub ranging_more : (next : Pairs) → next ≡ new ++ between ((key, value) ∷ []) from (min high bound)
      → IsRanging n from high bound count (i + 1) old next words
  ranging_more next pushed = record {
    fence = is.fence;
    all = is.all;
    pairs = pushed
        ∙ ap (λ (l : Pairs). l ++ between ((key, value) ∷ []) from (min high bound)) is.pairs
        ∙ append_assoc old (between (take i (fixed_pairs n words)) from (min high bound))
        (between ((key, value) ∷ []) from (min high bound))
        ∙ ap (λ (l : Pairs). old ++ l) (sym longer);
  }

-- all pairs were taken
pub ranging_ends : (n from high bound count i : ℕ) (old new : Pairs) (words : List ℕ)
    → IsRanging n from high bound count i old new words → count ≤ i → new ≡ old ++ between (fixed_pairs n words) from
    (min (high_of words) bound)
ranging_ends n from high bound count i old new words is past =
    is.pairs
    ∙ ap (λ (l : Pairs). old ++ between l from (min high bound)) (take_all i (fixed_pairs n words) (omega (arith, past, is.all)))
    ∙ ap (λ (k : ℕ). old ++ between (fixed_pairs n words) from (min k bound)) is.fence
