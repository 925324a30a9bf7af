-- A split of the root: page 0, the old root, its right sibling and the new root change together.
use Rattle.std.proofs.Common.{◌≡◌, ℕ, ◌+◌, ◌≤◌, ◌≢◌, List, [], ◌∷◌, length, get_or, eqb, if◌then◌else◌, Bool, true}
use Rattle.std.proofs.Common.{false, refl, subst, arith}
use Rattle.std.proofs.lemmas.Bool.Decides.{nat_tests}
use Rattle.vm_tree_model.specs.Layout.{Layout, IsLayout}
use Rattle.vm_map.specs.Map.{Pairs}
use Rattle.vm_tree_model.specs.Node.{Node, IsNode, IsTreeOf}
use Rattle.vm_tree_model.specs.Page.{IsMeta, IsClean}
use Rattle.vm_tree_model.specs.Tree.{page_at, node_at, IsTree, map_of}
use Rattle.vm_tree_model.proofs.GrowLaw.{grow_tree}
use Rattle.vm_tree_model.proofs.Laws.{in_range}
use Rattle.vm_tree_model.proofs.SameTree.{same_tree}
use Rattle.vm_tree_model.proofs.SplitLaw.{IsSplitStep}
use Rattle.vm_tree_model.proofs.SplitPages.{IsSplitPages, split_pages_tree, split_pages_map}

abbrev pub root_page : List (List ℕ) → ℕ
root_page pages = get_or (page_at pages 0) 1 0

abbrev pub height_word : List (List ℕ) → ℕ
height_word pages = get_or (page_at pages 0) 2 0

-- the new root over the old one
abbrev pub top_over : Layout → List (List ℕ) → Node
top_over L pages = record { tag = 3; level = height_word pages + 1; low = 0; high = L.key_end; pairs = (0, root_page pages) ∷ [] }

-- the old nodes with a new root over them on page s, and the new page 0
abbrev pub with_top : Layout → List (List ℕ) → List (List ℕ) → ℕ → ℕ → Node
with_top L old new s x = if eqb x s then (top_over L) old else (if eqb x 0 then (node_at L) new 0 else (node_at L) old x)

same_test : (s : ℕ) → eqb s s ≡ true
same_test s = grind (arith, nat_tests)

other_test : (x s : ℕ) → x ≢ s → eqb x s ≡ false
other_test x s ne = grind (arith, nat_tests, ne)

test_same : (x s : ℕ) → eqb x s ≡ true → x ≡ s
test_same x s test = grind (arith, nat_tests, test)

pub with_top-same : (L : Layout) (old new : List (List ℕ)) (s : ℕ) → with_top L old new s s ≡ top_over L old
with_top-same L old new s = rw (same_test s) refl

pub with_top-other : (L : Layout) (old new : List (List ℕ)) (s x : ℕ) → 1 ≤ x → x ≢ s → with_top L old new s x ≡ node_at L old x
with_top-other L old new s x ge ne = rw (other_test x s ne) (rw (other_test x 0 (λ e. omega (arith, ge, e))) refl)

pub with_top-zero : (L : Layout) (old new : List (List ℕ)) (s : ℕ) → 1 ≤ s → with_top L old new s 0 ≡ node_at L new 0
with_top-zero L old new s ge = rw (other_test 0 s (λ e. omega (arith, ge, e))) refl

pub record IsRootSplit (L : Layout) (old new : List (List ℕ)) (s r sep : ℕ) (a b : Pairs) : Type 0 where
  pub same_count : length new ≡ length old
  pub meta : IsMeta L (length new) (page_at new 0)
  pub new_root : root_page new ≡ s
  pub new_height : height_word new ≡ height_word old + 1
  pub top_page : 1 ≤ s
  pub free : (node_at L old s).tag ≡ 0
  pub clean_top : IsClean L (page_at new s)
  pub clean_left : IsClean L (page_at new (root_page old))
  pub clean_right : IsClean L (page_at new r)
  pub step : IsSplitStep (with_top L old new s) (node_at L new) s 0 (root_page old) r sep a b
  pub others : (x : ℕ) → 1 ≤ x → x ≢ s → x ≢ root_page old → x ≢ r → page_at new x ≡ page_at old x

module _ (L : Layout) (laws : IsLayout L) (old new : List (List ℕ)) (s r sep : ℕ) (a b : Pairs) (tree : IsTree L old)
    (split : IsRootSplit L old new s r sep a b) where
  -- the old nodes with the new root, page 0 as it was
  abbrev over : ℕ → Node
  over x = if eqb x s then (top_over L) old else (node_at L) old x

  grown : IsTreeOf L.key_end over s (height_word old + 1)
  grown = grow_tree (node_at L old) over (root_page old) (height_word old) s tree.tree (record {
    free = split.free;
    top = rw (same_test s) refl;
    others = λ x ne. rw (other_test x s ne) refl;
  }) laws.some_keys

  old_zero : IsNode (node_at L old 0) → ⊥
  old_zero is = laws.meta_tag _ tree.meta.magic is

  over_zero : over 0 ≡ node_at L old 0
  over_zero = rw (other_test 0 s (λ e. omega (arith, split.top_page, e))) refl

  new_zero : IsNode (node_at L new 0) → ⊥
  new_zero is = laws.meta_tag _ split.meta.magic is

  with_top_tree : IsTreeOf L.key_end (with_top L old new s) s (height_word old + 1)
  with_top_tree = same_tree over (with_top L old new s) s (height_word old + 1) grown
      (λ x is. go x (eqb x s) (eqb x 0) refl (λ z. old_zero (subst IsNode over_zero (subst (λ y. IsNode (over y)) z is))))
      (λ x is. go x (eqb x s) (eqb x 0) refl
      (λ z. new_zero (subst IsNode (with_top-zero L old new s split.top_page)
      (subst (λ y. IsNode (with_top L old new s y)) z is))))
    where
      go : (x : ℕ) (top zero_page : Bool) → eqb x 0 ≡ zero_page → (x ≡ 0 → ⊥)
          → (if top then (top_over L) old else (if zero_page then (node_at L) new 0 else (node_at L) old x))
          ≡ (if top then (top_over L) old else (node_at L) old x)
      go x true z test none = refl
      go x false true test none = absurd (none (test_same x 0 test))
      go x false false test none = refl

  pages : IsSplitPages L old new (with_top L old new s) s (height_word old + 1) s 0 (root_page old) r sep a b
  pages = record {
    same_count = split.same_count;
    meta = split.meta;
    root_word = split.new_root;
    height_word = split.new_height;
    parent = split.clean_top;
    left = split.clean_left;
    right = split.clean_right;
    tree = with_top_tree;
    same = with_top-other L old new s;
    left_page = (in_range L laws old tree (root_page old) tree.tree.root_is).0;
    inner = λ tag. omega (arith, split.free, tag);
    step = split.step;
    others = split.others;
  }

  pub root_split_tree : IsTree L new
  root_split_tree = split_pages_tree L laws old new _ _ _ _ _ _ _ _ a b tree pages

  pub root_split_map : map_of L new ≡ map_of L old
  root_split_map = split_pages_map L laws old new _ _ _ _ _ _ _ _ a b tree pages
