-- The halves of a node with no room for a further pair.
use Rattle.std.proofs.Common.{◌≡◌, ℕ, ◌<◌, ◌≤◌, List, [], length, get_or, take, drop, Some, sym, ap, subst, ◌∙◌, arith}
use Rattle.vm_map.specs.Map.{Rises}
use Rattle.vm_tree_model.specs.Layout.{IsClean, IsFullNode, PaysForSplit}
use Rattle.vm_tree_model.specs.Page.{IsInner, IsLeaf, node_of, pairs_of}
use Rattle.vm_tree_model.specs.Edits.{IsSplit}
use Rattle.vm_node.proofs.Leaves.{left_leaf, right_leaf}
use Rattle.vm_inner.proofs.InnerNodes.{left_inner, right_inner}
use Rattle.vm_bytes_form.specs.Bytes.{bytes}
use Rattle.vm_bytes_form.specs.Forms.{ByteNode, IsFitting, form_of, node_in}
use Rattle.vm_bytes_form.specs.NodeEdits.{kept_at_split, lower_half, upper_half}
use Rattle.vm_bytes_form.specs.Strings.{rank}
use Rattle.vm_bytes_form.proofs.BytesLaws.{bytes_is_layout}
use Rattle.vm_bytes_form.proofs.EditLaws.{lower-fits, ranks-at, splits_in_two, upper-fits}
use Rattle.vm_bytes_edit.proofs.Cutting.{not_empty, not_lowest}
use Rattle.vm_bytes_node.proofs.KeySearch.{length-pairs}

module _ (words : List ℕ) (clean : IsClean bytes words) (full : IsFullNode bytes (node_of bytes words)) where
  abbrev n : ByteNode
  n = node_in words

  abbrev kept : ℕ
  kept = kept_at_split n.entries

  paid : PaysForSplit bytes (node_of bytes words) 0
  paid = bytes_is_layout.splits (node_of bytes words) 0 (bytes_is_layout.clean_fits words clean) full

  pub some_stay : 1 ≤ kept
  some_stay = paid.left_some

  pub some_go : kept < length (pairs_of bytes words)
  some_go = paid.right_some

  pub inside : kept < length n.entries
  inside = let lt = paid.right_some in omega (arith, lt, length-pairs words)

  module _ (s : List ℕ) (separates : s ≡ (get_or n.entries kept ([], 0)).0) (low high : ℕ)
      (rises : Rises low high (pairs_of bytes words)) where
    pub not_nil : 1 ≤ length s
    not_nil = not_empty s (let least = not_lowest (pairs_of bytes words) low high kept rises some_stay some_go in
        let key = ranks-at kept n.entries inside in omega (arith, least, key, ap rank separates))

    pub lower_fits : IsFitting 512 (lower_half n s)
    lower_fits = lower-fits words clean full s (sym separates) not_nil

    pub upper_fits : IsFitting 512 (upper_half n s)
    upper_fits = upper-fits words clean full s (sym separates) not_nil

    module _ (left right : List ℕ) (left_is : left ≡ form_of 512 (lower_half n s)) (right_is : right ≡ form_of 512 (upper_half n s)) where
      pub split_is : IsSplit bytes words left right (rank s)
      split_is = subst (λ (l : List ℕ). IsSplit bytes words l right (rank s)) (sym left_is)
          (subst (λ (r : List ℕ). IsSplit bytes words (form_of 512 (lower_half n s)) r (rank s)) (sym right_is)
          (splits_in_two words clean full s (sym separates) not_nil))

module _ (words left right : List ℕ) (separator : ℕ) (full : IsFullNode bytes (node_of bytes words))
    (split : IsSplit bytes words left right separator) where
  pub split_leaves : IsLeaf bytes words → IsLeaf bytes left × IsLeaf bytes right
  split_leaves leaf = let some = some_go words leaf.clean full in
      (left_leaf bytes words left right separator split some leaf, right_leaf bytes words left right separator split some leaf)

  pub split_inners : IsInner bytes words → IsInner bytes left × IsInner bytes right
  split_inners inner =
      let first = some_stay words inner.clean full in
      let some = some_go words inner.clean full in (
        left_inner bytes words left right separator split first some inner,
        right_inner bytes words left right separator split first some inner,
      )

-- what the parts of the call give
module _ (words s left right : List ℕ) (kept_found count : ℕ) (counted : count ≡ length (node_in words).entries)
    (kept_is : kept_found ≡ kept_at_split (node_in words).entries)
    (key : kept_found < count → count ≡ length (node_in words).entries → s ≡ (get_or (node_in words).entries kept_found ([], 0)).0)
    (clean : IsClean bytes words) (full : IsFullNode bytes (node_of bytes words)) where
  less : kept_found < count
  less = let lt = inside words clean full in omega (arith, lt, kept_is, counted)

  pub separator_is : s ≡ (get_or (node_in words).entries (kept_at_split (node_in words).entries) ([], 0)).0
  separator_is = key less counted ∙ ap (λ (i : ℕ). (get_or (node_in words).entries i ([], 0)).0) kept_is

  module _ (low high : ℕ) (rises : Rises low high (pairs_of bytes words)) where
    pub lower_is : (kept_found ≤ length (node_in words).entries → 1 ≤ length s
        → IsFitting 512 (record (node_in words) { high = Some s; entries = take kept_found (node_in words).entries })
        → left ≡ form_of 512 (record (node_in words) { high = Some s; entries = take kept_found (node_in words).entries }))
        → left ≡ form_of 512 (lower_half (node_in words) s)
    lower_is made =
        let fits = lower_fits words clean full s separator_is low high rises in
        made (omega (arith, less, counted)) (not_nil words clean full s separator_is low high rises)
        (subst (λ (i : ℕ). IsFitting 512 (record (node_in words) { high = Some s; entries = take i (node_in words).entries }))
        (sym kept_is) fits)
        ∙ ap (λ (i : ℕ). form_of 512 (record (node_in words) { high = Some s; entries = take i (node_in words).entries })) kept_is

    pub upper_is : (count ≡ length (node_in words).entries → kept_found ≤ count → IsClean bytes words
        → IsFitting 512 (record (node_in words) { low = s; entries = drop kept_found (node_in words).entries })
        → right ≡ form_of 512 (record (node_in words) { low = s; entries = drop kept_found (node_in words).entries }))
        → right ≡ form_of 512 (upper_half (node_in words) s)
    upper_is made =
        let fits = upper_fits words clean full s separator_is low high rises in
        made counted (omega (arith, less)) clean
        (subst (λ (i : ℕ). IsFitting 512 (record (node_in words) { low = s; entries = drop i (node_in words).entries })) (sym kept_is) fits)
        ∙ ap (λ (i : ℕ). form_of 512 (record (node_in words) { low = s; entries = drop i (node_in words).entries })) kept_is
