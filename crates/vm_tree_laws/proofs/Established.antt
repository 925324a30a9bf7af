-- What the node calls say of their pages is what the laws ask of a release and of a read.
use Rattle.std.proofs.Common.{◌≡◌, ◌≢◌, ℕ, ◌+◌, ◌≤◌, List, [], ◌∷◌, min, slice_index, slice_set, Option, Some, None}
use Rattle.std.proofs.Common.{refl, sym, ap, ◌∙◌, arith, option_map}
use Rattle.std.proofs.lemmas.Bool.Decides.{nat_tests}
use Rattle.vm_tree_model.specs.Layout.{Layout, size, IsFullNode}
use Rattle.vm_map.specs.Map.{Rises, lookup_at, del_pair, floor_pair}
use Rattle.vm_tree_model.specs.Node.{Covers}
use Rattle.vm_tree_model.specs.Page.{pairs_of, node_of, IsFree, IsInner}
use Rattle.vm_map.proofs.MapLemmas.{floor_is}
use Rattle.vm_tree_model.specs.Edits.{child_of, PutsInLeaf, IsLeafWith, AddsPair, IsSplit, IsNewRoot}
use Rattle.vm_owner.specs.Kept.{Start, Change}
use Rattle.vm_map.specs.declared.call.Call.TheVariants.{Get, Put, Del, Swap, Window as AWindow}
use Rattle.vm_map.specs.declared.call.Reply.TheVariants.{Got, Was, Gone, Swapped, Win}
use Rattle.vm_map.specs.declared.call.Swap.TheVariants.{Done, Kept, Missing}
use Rattle.vm_map.specs.declared.window.Window.{Window}
use Rattle.vm_map.specs.Windows.{IsWindow}
use Rattle.vm_tree_laws.specs.May.{entry, MayRelease, MaySplit, MayRead}

module _ (L : Layout) (start : Start) (due : List ℕ) (leaf : Change) (number count k : ℕ)
    (tag : (node_of L leaf.old).tag ≡ 2) (covers : Covers (node_of L leaf.old) k) where
  pub may_put : (v : ℕ) (was : Option ℕ) → PutsInLeaf L leaf.old leaf.new k v was
      → MayRelease L start due (leaf ∷ []) (entry number count (Put k v) (Was was))
  may_put v was puts = (tag, (covers, puts.was_there, puts.after))

  pub may_del : (was : Option ℕ) → was ≡ lookup_at (pairs_of L leaf.old) k
      → IsLeafWith L leaf.old leaf.new (del_pair (pairs_of L leaf.old) k)
      → MayRelease L start due (leaf ∷ []) (entry number count (Del k) (Gone was))
  may_del was was_is after = (tag, (covers, was_is, after))

  pub may_swap : (want v : ℕ) → PutsInLeaf L leaf.old leaf.new k v (Some want)
      → MayRelease L start due (leaf ∷ []) (entry number count (Swap k want v) (Swapped Done))
  may_swap want v puts = (tag, (covers, sym puts.was_there, puts.after))

module _ (L : Layout) (start : Start) (p number count : ℕ) (words : List ℕ) (tag : (node_of L words).tag ≡ 2) (k : ℕ)
    (covers : Covers (node_of L words) k) where
  pub may_get : (found : Option ℕ)
      → ((low high : ℕ) → Rises low high (pairs_of L words) → found ≡ lookup_at (pairs_of L words) k)
      → MayRead L start p words (entry number count (Get k) (Got found))
  may_get found found_is = (tag, λ low high rises. (covers, found_is low high rises))

  -- a del of a key that the leaf lacks
  pub may_miss : ((low high : ℕ) → Rises low high (pairs_of L words) → lookup_at (pairs_of L words) k ≡ None)
      → MayRead L start p words (entry number count (Del k) (Gone None))
  may_miss none = (tag, λ low high rises. (covers, refl, none low high rises))

  -- a swap of a key whose value is another, or that the leaf lacks
  pub may_keep : (want v there : ℕ) → there ≢ want
      → ((low high : ℕ) → Rises low high (pairs_of L words) → lookup_at (pairs_of L words) k ≡ Some there)
      → MayRead L start p words (entry number count (Swap k want v) (Swapped (Kept there)))
  may_keep want v there other found = (tag, λ low high rises. (covers, found low high rises, other))

  pub may_lack : (want v : ℕ)
      → ((low high : ℕ) → Rises low high (pairs_of L words) → lookup_at (pairs_of L words) k ≡ None)
      → MayRead L start p words (entry number count (Swap k want v) (Swapped Missing))
  may_lack want v none = (tag, λ low high rises. (covers, none low high rises))

  pub may_window : (most : ℕ) (window : Window) → 1 ≤ most
      → ((low high : ℕ) → Rises low high (pairs_of L words) → IsWindow (pairs_of L words) (node_of L words).high k
      (min most 28) window) → MayRead L start p words (entry number count (AWindow k most) (Win window))
  may_window most window some is_window = (tag, λ low high rises. (covers, some, is_window low high rises))

-- the parent that the descent of a key reached, and its child for that key
pub may_split : (L : Layout) (start : Start) (due : List ℕ) (parent node sibling : Change) (key separator : ℕ)
    → IsInner L parent.old → Covers (node_of L parent.old) key → child_of L parent.old key ≡ Some node.page
    → size L (node_of L parent.old) + L.growth ≤ L.room → IsFullNode L (node_of L node.old)
    → IsSplit L node.old node.new sibling.new separator → AddsPair L parent.old parent.new separator sibling.page
    → IsFree L sibling.old → MayRelease L start due (parent ∷ node ∷ sibling ∷ []) []
may_split L start due parent node sibling key separator inner covers names room full split adds free =
    go (floor_pair (pairs_of L parent.old) key) refl
  where
    go : (o : Option (ℕ × ℕ)) → floor_pair (pairs_of L parent.old) key ≡ o → MaySplit L parent node sibling
    go None none = let no : child_of L parent.old key ≡ None = ap (option_map (λ (y : ℕ × ℕ). y.1)) none in absurd (cc)
    go (Some x) is =
        let some : child_of L parent.old key ≡ Some x.1 = ap (option_map (λ (y : ℕ × ℕ). y.1)) is in
        let page : x.1 ≡ node.page = grind (arith, nat_tests, some, names) in
        let floor = floor_is (pairs_of L parent.old) (node_of L parent.old).low (node_of L parent.old).high key x
        inner.node.rises covers.1 is in
        record {
          key = x.0;
          separator = separator;
          inner = inner.node.tag;
          room = room;
          names = floor.found ∙ ap (λ (c : ℕ). Some c) page;
          full = full;
          split = split;
          adds = adds;
          free = free;
        }

-- page 0, the root that it names, and the two pages that were free
pub may_split_root : (L : Layout) (start : Start) (due : List ℕ) (meta root sibling top : Change)
    (height separator : ℕ) → meta.page ≡ 0 → slice_index meta.old 1 ≡ root.page → slice_index meta.old 2 ≡ height
    → IsFullNode L (node_of L root.old) → IsSplit L root.old root.new sibling.new separator
    → IsNewRoot L top.new (height + 1) root.page separator sibling.page
    → meta.new ≡ slice_set (slice_set meta.old 1 top.page) 2 (height + 1) → IsFree L sibling.old → IsFree L top.old
    → MayRelease L start due (meta ∷ root ∷ sibling ∷ top ∷ []) []
may_split_root L start due meta root sibling top height separator zero_page root_page is full split grows meta_new free free_top = record {
  separator = separator;
  page_zero = zero_page;
  root_page = root_page;
  full = full;
  split = split;
  grows = rw is grows;
  meta_new = rw is meta_new;
  free = free;
  free_top = free_top;
}
