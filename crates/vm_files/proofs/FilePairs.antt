-- No file holds more pairs than a builder takes, and no key of a map stands twice.
use Rattle.std.proofs.Common.{◌≡◌, ◌==◌, ◌+◌, ◌*◌, ◌<◌, ◌≤◌, ℕ, Bool, true, false, cond, eqb, List, [], ◌∷◌, arith}
use Rattle.std.proofs.Common.{length, length-append, length-take, map, min, drop, length-drop, get_or}
use Rattle.std.proofs.lemmas.Bool.{ne_eqb}
use Rattle.std.proofs.Math.Nat.{mul-suc}
use Rattle.std.specs.List.{AllByRecursion, IsDistinct}
use Rattle.vm_map.specs.Map.{gather, Pairs, Rises}
use Rattle.vm_map.proofs.MapLemmas.{length-put}
use Rattle.vm_page.specs.Sizes.{IsSize}
use Rattle.vm_tree_model.specs.Fixed.{capacity, fixed, places}
use Rattle.vm_tree_model.specs.Tree.{leaf_pairs, leaf_part, map_of}
use Rattle.vm_tree_model.proofs.FixedLaws.{size_is}
use Rattle.vm_image.specs.File.{most_pages}
use Rattle.vm_build.specs.Numbers.{HasNoTwins}

few_gathered : (l : Pairs) → length (gather l) ≤ length l
few_gathered [] = omega arith
few_gathered (e ∷ es) = omega (arith, length-put (gather es) e.0 e.1, few_gathered es)

-- a page has no more pairs than places
part_few : (n : ℕ) (words : List ℕ) → length (leaf_part (fixed n) words) ≤ capacity n
part_few n words = go (get_or words 0 0 == 2)
  where
    go : (b : Bool) → length (cond b ((fixed n).node_of words).pairs []) ≤ capacity n
    go true = omega (arith, length-take (min (get_or words 1 0) (capacity n)) (places words))
    go false = omega arith

leaves_few : (n : ℕ) (pages : List (List ℕ)) → length (leaf_pairs (fixed n) pages) ≤ capacity n * length pages
leaves_few n [] = omega arith
leaves_few n (words ∷ pages) =
    omega (
      arith,
      length-append (leaf_part (fixed n) words) (leaf_pairs (fixed n) pages),
      part_few n words,
      leaves_few n pages,
      mul-suc (capacity n) (length pages),
    )

-- no file holds more pairs than these
pub pairs_few : (n : ℕ) (pages : List (List ℕ)) → IsSize n → length pages ≤ most_pages n → length (map_of (fixed n) pages) ≤ 2064132
pairs_few n pages size most =
    let pairs : length (map_of (fixed n) pages) ≤ capacity n * length (drop 1 pages) =
    omega (arith, few_gathered (leaf_pairs (fixed n) (drop 1 pages)), leaves_few n (drop 1 pages)) in
    let bound : capacity n * length (drop 1 pages) ≤ 2064132 =
    size_is (λ k. length pages ≤ most_pages k → capacity k * length (drop 1 pages) ≤ 2064132) n size
    (λ few. omega (arith, few, length-drop 1 pages)) (λ few. omega (arith, few, length-drop 1 pages)) most in
    omega (arith, pairs, bound)

-- behind rising keys no key is met again
later : (low high : ℕ) (es : Pairs) (k : ℕ) → k < low → Rises low high es → AllByRecursion (λ j. eqb k j ≡ false)
    (map (λ (e : ℕ × ℕ). e.0) es)
later low high [] k below rise = tt
later low high (e ∷ es) k below rise = (
  ne_eqb k e.0 (λ same. absurd (omega (arith, same, below, rise.0))),
  later (e.0 + 1) high es k
      (omega (arith, below, rise.0)) rise.2,
)

pub no_twins : (low high : ℕ) (pairs : Pairs) → Rises low high pairs → HasNoTwins pairs
unfolding IsDistinct
no_twins low high [] rise = tt
no_twins low high (e ∷ es) rise = (later (e.0 + 1) high es e.0 (omega arith) rise.2, no_twins (e.0 + 1) high es rise.2)
