-- What the map of the pages finds: what the covering leaf has.
use Rattle.std.proofs.Common.{◌≡◌, ℕ, zero, suc, ◌<◌, ◌≢◌, ◌⊎◌, inl, inr, List, [], ◌∷◌, length, None, refl, ◌∙◌, arith}
use Rattle.std.proofs.lemmas.Bool.{cases_eq}
use Rattle.std.proofs.lemmas.Bool.Decides.{nat_tests}
use Rattle.vm_tree_model.specs.Layout.{Layout}
use Rattle.vm_map.specs.Map.{lookup_at}
use Rattle.vm_tree_model.specs.Page.{pairs_of, node_of}
use Rattle.vm_tree_model.specs.Tree.{page_at, leaf_part, leaf_pairs}
use Rattle.vm_map.proofs.MapLemmas.{lookup-append, KeysIn, KeysIn-append}

-- the tag of the page as a node
abbrev pub tag_at : Layout → List (List ℕ) → ℕ → ℕ
tag_at L ws i = (node_of L (page_at ws i)).tag

-- a page that is no leaf has no part in the map
part_none : (L : Layout) (w : List ℕ) (key : ℕ) → ((node_of L w).tag ≡ 2 → lookup_at (pairs_of L w) key ≡ None)
    → lookup_at (leaf_part L w) key ≡ None
part_none L w key none = grind (arith, nat_tests, none)

pub part_leaf : (L : Layout) (w : List ℕ) → (node_of L w).tag ≡ 2 → leaf_part L w ≡ pairs_of L w
part_leaf L w tag = grind (arith, nat_tests, tag)

-- no leaf among the pages has the key
pub none_found : (L : Layout) (ws : List (List ℕ)) (key : ℕ)
    → ((i : ℕ) → i < length ws → tag_at L ws i ≡ 2 → lookup_at (pairs_of L (page_at ws i)) key ≡ None)
    → lookup_at (leaf_pairs L ws) key ≡ None
none_found L [] key none = refl
none_found L (w ∷ ws) key none =
    let rest = none_found L ws key (λ i lt. none (suc i) (omega arith)) in
    let here = part_none L w key (none 0 (omega arith)) in
    lookup-append (leaf_part L w) (leaf_pairs L ws) key ∙ grind (arith, here, rest)

-- only leaf i can have the key
pub one_found : (L : Layout) (ws : List (List ℕ)) (key i : ℕ) → i < length ws → tag_at L ws i ≡ 2
    → ((j : ℕ) → j < length ws → j ≢ i → tag_at L ws j ≡ 2 → lookup_at (pairs_of L (page_at ws j)) key ≡ None)
    → lookup_at (leaf_pairs L ws) key ≡ lookup_at (pairs_of L (page_at ws i)) key
one_found L [] key i lt tag none = absurd (omega arith)
one_found L (w ∷ ws) key zero lt tag none =
    let rest = none_found L ws key (λ j jlt. none (suc j) (omega arith) (omega arith)) in
    let here = part_leaf L w tag in
    lookup-append (leaf_part L w) (leaf_pairs L ws) key ∙ rw here (grind (arith, rest))
one_found L (w ∷ ws) key (suc i) lt tag none =
    let rest = one_found L ws key i (omega arith) tag (λ j jlt ne. none (suc j) (omega arith) (omega arith)) in
    let here = part_none L w key (none 0 (omega arith) (omega arith)) in
    lookup-append (leaf_part L w) (leaf_pairs L ws) key ∙ grind (arith, here, rest)

-- the leaves' keys lie in a range
pub keys_in : (L : Layout) (ws : List (List ℕ)) (low high : ℕ)
    → ((i : ℕ) → i < length ws → tag_at L ws i ≡ 2 → KeysIn low high (pairs_of L (page_at ws i)))
    → KeysIn low high (leaf_pairs L ws)
keys_in L [] low high each = tt
keys_in L (w ∷ ws) low high each = KeysIn-append (leaf_part L w) (leaf_pairs L ws) low high
    (part (cases_eq ((node_of L w).tag) 2)) (keys_in L ws low high (λ i lt. each (suc i) (omega arith)))
  where
    part : ((node_of L w).tag ≡ 2) ⊎ ((node_of L w).tag ≢ 2) → KeysIn low high (leaf_part L w)
    part (inl leaf) = rw (part_leaf L w leaf) (each 0 (omega arith) leaf)
    part (inr other) = let none : leaf_part L w ≡ [] = grind (arith, nat_tests, other) in rw none tt
