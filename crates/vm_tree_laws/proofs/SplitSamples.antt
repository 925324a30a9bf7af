-- A split of a full root and one below the root, and a way from the root to a leaf: what each of them asks can be met.
use Rattle.std.proofs.Common.{◌≡◌, ℕ, zero, suc, ◌^◌, ◌<◌, ◌≤◌, List, [], ◌∷◌, length, get_or, replicate, None, refl, arith}
use Rattle.vm_tree_model.specs.Fixed.{fixed}
use Rattle.vm_tree_model.proofs.FixedLaws.{layout_64}
use Rattle.vm_tree_model.proofs.WordTests.{free_zeros}
use Rattle.vm_map.specs.declared.call.Said.{Said}
use Rattle.vm_tree_model.specs.Node.{Covers}
use Rattle.vm_tree_model.specs.Page.{node_of, IsFree, IsLeaf}
use Rattle.vm_tree_model.specs.Tree.{page_at, map_of}
use Rattle.vm_tree_model.specs.Reason.{walk, reason}
use Rattle.vm_tree_model.proofs.Theorem.{no_reason}
use Rattle.vm_owner.specs.Kept.{Start, Kept, Change, first_kept, claimed, after_release}
use Rattle.vm_tree_laws.specs.Keeps.{KeepsTree}
use Rattle.vm_tree_laws.specs.May.{MayRelease}
use Rattle.vm_tree_laws.specs.Tied.{IsTied}
use Rattle.vm_tree_laws.proofs.Claims.{claims_keep}
use Rattle.vm_tree_laws.proofs.Laws.{releases_keep}
use Rattle.vm_tree_laws.proofs.Ties.{ties_hold}
use Rattle.vm_tree_laws.proofs.Descents.{reached_root, way_ends}
use Rattle.vm_tree_laws.proofs.Starts.{start_keeps}
use Rattle.vm_tree_laws.proofs.SamplePages.{page_from, meta_page, bounded_leaf, last_leaf, unused, unused_zero, leaf_from, inner_from}

-- an image whose root is a leaf of 28 pairs, of the keys 1 to 28
abbrev pub full : List (List ℕ)
full = meta_page 1 0 ∷ last_leaf 0 28 1 ∷ unused 6

full_fault : reason (fixed 64) full ≡ None
unfolding walk
full_fault = refl

abbrev pub full_start : Start
full_start = record { pages = full; next = 2; free = [] }

-- two pages were claimed
pub full_keeps : KeepsTree (fixed 64) full_start (claimed 2 (first_kept full_start))
full_keeps = claims_keep (fixed 64) layout_64 full_start (first_kept full_start) 2
    (start_keeps (fixed 64) layout_64 full_start ((no_reason (fixed 64) layout_64 full).0 full_fault) (omega arith))
    (record { there = omega arith; zero = zero_at })
  where
    zero_at : (p i : ℕ) → 2 ≤ p → p < 4 → get_or (page_at full p) i 0 ≡ 0
    zero_at zero i ge lt = absurd (omega (arith, ge))
    zero_at (suc zero) i ge lt = absurd (omega (arith, ge))
    zero_at (suc (suc p)) i ge lt = unused_zero 6 p i

-- page 0, the old root, its right sibling on page 2 and the new root on page 3
abbrev pub root_changes : List Change
root_changes = record { page = 0; old = meta_page 1 0; new = meta_page 3 1 }
    ∷ record { page = 1; old = last_leaf 0 28 1; new = bounded_leaf 0 15 14 1 }
    ∷ record { page = 2; old = replicate 64 0; new = last_leaf 15 14 15 }
    ∷ record { page = 3; old = replicate 64 0; new = page_from (3 ∷ 2 ∷ 0 ∷ 0 ∷ 1 ∷ 1 ∷ 0 ∷ 0 ∷ 0 ∷ 1 ∷ 15 ∷ 2 ∷ []) }
    ∷ []

free_page : IsFree (fixed 64) (replicate 64 0)
free_page = free_zeros (fixed 64)

root_may : MayRelease (fixed 64) full_start (2 ∷ 3 ∷ []) root_changes []
root_may = record {
  separator = 15;
  page_zero = refl;
  root_page = refl;
  full = omega arith;
  split = record {
    separates = refl;
    left_is = refl;
    right_is = refl;
    left_clean = λ _. (leaf_from 0 15 (bounded_leaf 0 15 14 1) (omega arith) refl).clean;
    right_clean = λ _. (leaf_from 15 (2 ^ 64) (last_leaf 15 14 15) (omega arith) refl).clean;
  };
  grows = record {
    node = refl;
    clean = (inner_from 0 (2 ^ 64) (page_from (3 ∷ 2 ∷ 0 ∷ 0 ∷ 1 ∷ 1 ∷ 0 ∷ 0 ∷ 0 ∷ 1 ∷ 15 ∷ 2 ∷ [])) (omega arith) refl).clean;
  };
  meta_new = refl;
  free = free_page;
  free_top = free_page;
}

abbrev pub after_root_split : Kept Said
after_root_split = after_release root_changes [] (claimed 2 (first_kept full_start))

pub root_split_keeps : KeepsTree (fixed 64) full_start after_root_split
root_split_keeps = releases_keep (fixed 64) layout_64 full_start (claimed 2 (first_kept full_start)) (2 ∷ 3 ∷ []) root_changes [] full_keeps
    (record {
      agrees = (omega arith, refl, (omega arith, refl, (omega arith, refl, (omega arith, refl, tt))));
      apart = (refl, (refl, (refl, (refl, tt))));
      sized = (refl, (refl, (refl, (refl, tt))));
      few = omega arith;
      owed = λ p some. some;
    })
    tt root_may

-- the map is the same, and no page is owed
pub root_split_map : map_of (fixed 64) after_root_split.pages ≡ map_of (fixed 64) full
root_split_map = refl

pub root_split_owed : after_root_split.owed ≡ []
root_split_owed = refl

-- an image of height 1: the root on page 3 has a full leaf of the keys 1 to 28 below 100, and an empty leaf from 100 on
abbrev pub high : List (List ℕ)
high = meta_page 3 1 ∷ bounded_leaf 0 100 28 1 ∷ last_leaf 100 0 0 ∷ page_from
    (3 ∷ 2 ∷ 0 ∷ 0 ∷ 1 ∷ 1 ∷ 0 ∷ 0 ∷ 0 ∷ 1 ∷ 100 ∷ 2 ∷ []) ∷ unused 4

high_fault : reason (fixed 64) high ≡ None
unfolding walk
high_fault = refl

abbrev pub high_start : Start
high_start = record { pages = high; next = 4; free = [] }

-- one page was claimed
pub high_keeps : KeepsTree (fixed 64) high_start (claimed 1 (first_kept high_start))
high_keeps = claims_keep (fixed 64) layout_64 high_start (first_kept high_start) 1
    (start_keeps (fixed 64) layout_64 high_start ((no_reason (fixed 64) layout_64 high).0 high_fault) (omega arith))
    (record { there = omega arith; zero = zero_at })
  where
    zero_at : (p i : ℕ) → 4 ≤ p → p < 5 → get_or (page_at high p) i 0 ≡ 0
    zero_at zero i ge lt = absurd (omega (arith, ge))
    zero_at (suc zero) i ge lt = absurd (omega (arith, ge))
    zero_at (suc (suc zero)) i ge lt = absurd (omega (arith, ge))
    zero_at (suc (suc (suc zero))) i ge lt = absurd (omega (arith, ge))
    zero_at (suc (suc (suc (suc p)))) i ge lt = unused_zero 4 p i

-- the parent, the full leaf and its right sibling on page 4
abbrev pub leaf_changes : List Change
leaf_changes = record { page = 3; old = page_at high 3; new = page_from (3 ∷ 3 ∷ 0 ∷ 0 ∷ 1 ∷ 1 ∷ 0 ∷ 0 ∷ 0 ∷ 1 ∷ 15 ∷ 4 ∷ 100 ∷ 2 ∷ []) }
    ∷ record { page = 1; old = bounded_leaf 0 100 28 1; new = bounded_leaf 0 15 14 1 }
    ∷ record { page = 4; old = replicate 64 0; new = bounded_leaf 15 100 14 15 }
    ∷ []

leaf_may : MayRelease (fixed 64) high_start (4 ∷ []) leaf_changes []
leaf_may = record {
  key = 0;
  separator = 15;
  inner = refl;
  room = omega arith;
  names = refl;
  full = omega arith;
  split = record {
    separates = refl;
    left_is = refl;
    right_is = refl;
    left_clean = λ _. (leaf_from 0 15 (bounded_leaf 0 15 14 1) (omega arith) refl).clean;
    right_clean = λ _. (leaf_from 15 100 (bounded_leaf 15 100 14 15) (omega arith) refl).clean;
  };
  adds = record {
    not_full = λ is_full. omega (arith, is_full.count);
    node = refl;
    clean = λ _. (inner_from 0 (2 ^ 64) (page_from (3 ∷ 3 ∷ 0 ∷ 0 ∷ 1 ∷ 1 ∷ 0 ∷ 0 ∷ 0 ∷ 1 ∷ 15 ∷ 4 ∷ 100 ∷ 2 ∷ []))
        (omega arith) refl).clean;
  };
  free = free_page;
}

abbrev pub after_leaf_split : Kept Said
after_leaf_split = after_release leaf_changes [] (claimed 1 (first_kept high_start))

pub leaf_split_keeps : KeepsTree (fixed 64) high_start after_leaf_split
leaf_split_keeps = releases_keep (fixed 64) layout_64 high_start (claimed 1 (first_kept high_start)) (4 ∷ []) leaf_changes [] high_keeps
    (record {
      agrees = (omega arith, refl, (omega arith, refl, (omega arith, refl, tt)));
      apart = (refl, (refl, (refl, tt)));
      sized = (refl, (refl, (refl, tt)));
      few = omega arith;
      owed = λ p some. some;
    })
    tt leaf_may

pub leaf_split_map : map_of (fixed 64) after_leaf_split.pages ≡ map_of (fixed 64) high
leaf_split_map = refl

-- the way of key 7 in the image of height 1, from the root on page 3 to the leaf on page 1
high_tied : (r p : ℕ) → r < 8 → IsTied (fixed 64) 8 r (page_at high r) p (page_at high p)
high_tied r p lt = ties_hold (fixed 64) layout_64 high_start (claimed 1 (first_kept high_start)) r p high_keeps lt

abbrev pub way_steps : List (ℕ × List ℕ)
way_steps = (1, page_at high 1) ∷ []

pub way_sample : (length way_steps ≡ 1) × IsLeaf (fixed 64) (page_at high 1) × Covers (node_of (fixed 64) (page_at high 1)) 7
way_sample = way_ends (fixed 64) 8 7 way_steps 3 (page_at high 3) 1
    (reached_root (fixed 64) 8 3 7 (page_at high 0) (page_at high 3) (high_tied 0 3 (omega arith)) refl (omega arith))
    (refl, refl, high_tied 3 1 (omega arith), refl)
