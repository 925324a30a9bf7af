-- Two leaves that become one below the root, and the root's last two leaves: what each of them asks can be met.
use Rattle.std.proofs.Common.{◌≡◌, ℕ, ◌^◌, inl, inr, List, [], ◌∷◌, replicate, true, None, Some, refl, arith}
use Rattle.vm_map.specs.Map.{del_pair}
use Rattle.vm_map.specs.declared.call.Said.{Said}
use Rattle.vm_map.specs.declared.call.Call.TheVariants.{Del}
use Rattle.vm_map.specs.declared.call.Reply.TheVariants.{Gone}
use Rattle.vm_tree_model.specs.Fixed.{fixed}
use Rattle.vm_tree_model.specs.Tree.{page_at, map_of}
use Rattle.vm_tree_model.specs.Reason.{walk, reason}
use Rattle.vm_tree_model.proofs.FixedLaws.{layout_64}
use Rattle.vm_tree_model.proofs.Theorem.{no_reason}
use Rattle.vm_tree_model.proofs.WordTests.{free_zeros}
use Rattle.vm_owner.specs.declared.Entry.{Entry}
use Rattle.vm_owner.specs.Kept.{Start, Kept, Change, first_kept, after_release}
use Rattle.vm_tree_laws.specs.Keeps.{KeepsTree}
use Rattle.vm_tree_laws.specs.May.{entry, MayRelease}
use Rattle.vm_tree_laws.proofs.Laws.{releases_keep}
use Rattle.vm_tree_laws.proofs.Starts.{start_keeps}
use Rattle.vm_tree_laws.proofs.SamplePages.{page_from, meta_page, bounded_leaf, last_leaf, unused, leaf_from, inner_from}

-- an image of height 1: the root on page 3 has leaves of the keys 1 to 14 and 15 to 28, and an empty one from 100 on
abbrev pub spread : List (List ℕ)
spread = meta_page 3 1 ∷ bounded_leaf 0 15 14 1 ∷ last_leaf 100 0 0 ∷ page_from
    (3 ∷ 3 ∷ 0 ∷ 0 ∷ 1 ∷ 1 ∷ 0 ∷ 0 ∷ 0 ∷ 1 ∷ 15 ∷ 4 ∷ 100 ∷ 2 ∷ []) ∷ bounded_leaf 15 100 14 15 ∷ unused 3

spread_fault : reason (fixed 64) spread ≡ None
unfolding walk
spread_fault = refl

abbrev pub spread_start : Start
spread_start = record { pages = spread; next = 5; free = [] }

-- the parent, and the last two leaves, without key 28
abbrev pub merge_changes : List Change
merge_changes = record { page = 3; old = page_at spread 3; new = page_from (3 ∷ 2 ∷ 0 ∷ 0 ∷ 1 ∷ 1 ∷ 0 ∷ 0 ∷ 0 ∷ 1 ∷ 15 ∷ 4 ∷ []) }
    ∷ record { page = 4; old = bounded_leaf 15 100 14 15; new = last_leaf 15 13 15 }
    ∷ record { page = 2; old = last_leaf 100 0 0; new = replicate 64 0 }
    ∷ []

abbrev pub merge_entry : List (Entry Said)
merge_entry = entry 0 1 (Del 28) (Gone (Some 28))

merge_may : MayRelease (fixed 64) spread_start [] merge_changes merge_entry
merge_may = record {
  key = 28;
  value = 28;
  said_is = refl;
  low = 15;
  separator = 100;
  inner = refl;
  names = refl;
  names_right = refl;
  next = refl;
  left_leaf = refl;
  right_leaf = refl;
  left_mid = bounded_leaf 15 100 13 15;
  right_mid = last_leaf 100 0 0;
  deletes = inl (
    (
      (omega arith, omega arith),
      refl,
      record {
        leaf = leaf_from 15 100 (bounded_leaf 15 100 13 15) (omega arith) refl;
        low = refl;
        high = refl;
        pairs = refl;
      },
    ),
    refl,
  );
  few = omega arith;
  takes = record {
    node = refl;
    clean = λ _. (inner_from 0 (2 ^ 64) (page_from (3 ∷ 2 ∷ 0 ∷ 0 ∷ 1 ∷ 1 ∷ 0 ∷ 0 ∷ 0 ∷ 1 ∷ 15 ∷ 4 ∷ [])) (omega arith) refl).clean;
  };
  joined = record { node = refl; clean = λ _ _. (leaf_from 15 (2 ^ 64) (last_leaf 15 13 15) (omega arith) refl).clean };
  zeroed = free_zeros (fixed 64);
}

abbrev pub after_merge : Kept Said
after_merge = after_release merge_changes merge_entry (first_kept spread_start)

pub merge_sample : KeepsTree (fixed 64) spread_start after_merge
merge_sample = releases_keep (fixed 64) layout_64 spread_start (first_kept spread_start) [] merge_changes merge_entry
    (start_keeps (fixed 64) layout_64 spread_start ((no_reason (fixed 64) layout_64 spread).0 spread_fault) (omega arith))
    (record {
      agrees = (omega arith, refl, (omega arith, refl, (omega arith, refl, tt)));
      apart = (refl, (refl, (refl, tt)));
      sized = (refl, (refl, (refl, tt)));
      few = omega arith;
      owed = λ p some. absurd (cc);
    })
    (refl, refl) merge_may

-- the map has the key no more, and the right leaf's number is still to be given
pub merge_map : map_of (fixed 64) after_merge.pages ≡ del_pair (map_of (fixed 64) spread) 28
merge_map = refl

pub merge_frees : after_merge.freed 2 ≡ true
merge_frees = refl

-- an image of height 1: the root on page 3 has leaves of the keys 1 to 14, and of key 100
abbrev pub pair : List (List ℕ)
pair = meta_page 3 1 ∷ bounded_leaf 0 100 14 1 ∷ last_leaf 100 1 100 ∷ page_from
    (3 ∷ 2 ∷ 0 ∷ 0 ∷ 1 ∷ 1 ∷ 0 ∷ 0 ∷ 0 ∷ 1 ∷ 100 ∷ 2 ∷ []) ∷ unused 4

pair_fault : reason (fixed 64) pair ≡ None
unfolding walk
pair_fault = refl

abbrev pub pair_start : Start
pair_start = record { pages = pair; next = 4; free = [] }

-- page 0, the old root, and both leaves, without key 100
abbrev pub collapse_changes : List Change
collapse_changes = record { page = 0; old = meta_page 3 1; new = meta_page 1 0 }
    ∷ record { page = 3; old = page_at pair 3; new = replicate 64 0 }
    ∷ record { page = 1; old = bounded_leaf 0 100 14 1; new = last_leaf 0 14 1 }
    ∷ record { page = 2; old = last_leaf 100 1 100; new = replicate 64 0 }
    ∷ []

abbrev pub collapse_entry : List (Entry Said)
collapse_entry = entry 0 1 (Del 100) (Gone (Some 100))

collapse_may : MayRelease (fixed 64) pair_start [] collapse_changes collapse_entry
collapse_may = record {
  key = 100;
  value = 100;
  said_is = refl;
  low = 0;
  separator = 100;
  page_zero = refl;
  root_page = refl;
  inner = refl;
  pairs = refl;
  left_leaf = refl;
  right_leaf = refl;
  left_mid = bounded_leaf 0 100 14 1;
  right_mid = last_leaf 100 0 0;
  deletes = inr (
    refl,
    (
      (omega arith, omega arith),
      refl,
      record {
        leaf = leaf_from 100 (2 ^ 64) (last_leaf 100 0 0) (omega arith) refl;
        low = refl;
        high = refl;
        pairs = refl;
      },
    ),
  );
  few = omega arith;
  meta_new = refl;
  joined = record { node = refl; clean = λ _ _. (leaf_from 0 (2 ^ 64) (last_leaf 0 14 1) (omega arith) refl).clean };
  zeroed = free_zeros (fixed 64);
  gone = free_zeros (fixed 64);
}

abbrev pub after_collapse : Kept Said
after_collapse = after_release collapse_changes collapse_entry (first_kept pair_start)

pub collapse_sample : KeepsTree (fixed 64) pair_start after_collapse
collapse_sample = releases_keep (fixed 64) layout_64 pair_start (first_kept pair_start) [] collapse_changes collapse_entry
    (start_keeps (fixed 64) layout_64 pair_start ((no_reason (fixed 64) layout_64 pair).0 pair_fault) (omega arith))
    (record {
      agrees = (omega arith, refl, (omega arith, refl, (omega arith, refl, (omega arith, refl, tt))));
      apart = (refl, (refl, (refl, (refl, tt))));
      sized = (refl, (refl, (refl, (refl, tt))));
      few = omega arith;
      owed = λ p some. absurd (cc);
    })
    (refl, refl) collapse_may

-- the map has the key no more, and two numbers are still to be given
pub collapse_map : map_of (fixed 64) after_collapse.pages ≡ del_pair (map_of (fixed 64) pair) 100
collapse_map = refl

pub collapse_frees : (after_collapse.freed 2 ≡ true) × (after_collapse.freed 3 ≡ true)
collapse_frees = (refl, refl)
