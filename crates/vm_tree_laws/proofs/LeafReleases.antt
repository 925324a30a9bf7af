-- The release of a leaf after a put, a del or a swap keeps what the tree keeps.
use Rattle.std.proofs.Common.{◌≡◌, ◌≢◌, ◌⊎◌, inl, inr, ℕ, ◌+◌, ◌-◌, ◌*◌, ◌<◌, ◌≤◌, true, false, true≢false, List, []}
use Rattle.std.proofs.Common.{◌∷◌, ◌++◌, length, set, Bool, if◌then◌else◌, Option, Some, None, refl, sym, ap, ◌∙◌}
use Rattle.std.proofs.Common.{arith, length-set, get_or-set_same, get_or-set_other}
use Rattle.std.proofs.lemmas.Bool.{cases_eq}
use Rattle.std.proofs.lemmas.Bool.Decides.{nat_tests}
use Rattle.std.proofs.lemmas.List.Sums.{sum_by-set}
use Rattle.vm_tree_model.specs.Layout.{Layout, IsLayout}
use Rattle.vm_map.specs.Map.{Pairs, lookup_at, put_pair, del_pair, Rises}
use Rattle.vm_page.specs.Pages.{all_zero}
use Rattle.vm_tree_laws.proofs.Zeros.{node_words}
use Rattle.vm_tree_model.specs.Page.{pairs_of, node_of, IsFree}
use Rattle.vm_tree_model.specs.Tree.{page_at, node_at, IsLeafAt, map_of}
use Rattle.vm_tree_model.specs.Count.{excess, is_node, node_count}
use Rattle.vm_tree_model.proofs.Laws.{parted_leaves, lookup-map_of, high_le}
use Rattle.vm_tree_model.proofs.LeafPages.{IsLeafReplaced, replaced_tree, put_map, del_map}
use Rattle.vm_tree_model.specs.Layout.{pairs_size}
use Rattle.vm_tree_model.proofs.Load.{load_of, load, load-set, load_is}
use Rattle.vm_tree_laws.proofs.Weights.{size-put, size-put_found, size-del, weighs_more, weighs_less, grown_room}
use Rattle.vm_tree_laws.proofs.Payments.{excess_grows, paid_told}
use Rattle.vm_tree_model.specs.Edits.{IsLeafWith}
use Rattle.vm_owner.specs.Numbers.{has, without}
use Rattle.vm_owner.specs.declared.Entry.{Entry}
use Rattle.vm_owner.specs.Kept.{Start, Kept, entries_under, is_spare}
use Rattle.vm_owner.proofs.NumberLemmas.{without-none}
use Rattle.vm_map.specs.declared.call.Said.{Said}
use Rattle.vm_map.specs.declared.call.Call.{Call}
use Rattle.vm_map.specs.declared.call.Call.TheVariants.{Put, Del, Swap}
use Rattle.vm_map.specs.declared.call.Swap.TheVariants as swaps
use Rattle.vm_map.proofs.SwapLaws.{outcome-done, swap-done}
use Rattle.vm_map.specs.declared.call.Reply.{Reply}
use Rattle.vm_map.specs.declared.call.Reply.TheVariants.{Was, Gone, Swapped}
use Rattle.vm_map.specs.History.{IsReply, after}
use Rattle.vm_tree_laws.specs.Keeps.{KeepsTree, full_weight, merge_weight}
use Rattle.vm_tree_laws.specs.History.{gones, is_gone, is_new, news}
use Rattle.vm_tree_laws.specs.May.{IsEdit}
use Rattle.vm_tree_laws.proofs.Histories.{gones_after, legal_after, map_after, news_after}
use Rattle.vm_tree_laws.proofs.Nodes.{not_owed}

module _ (L : Layout) (laws : IsLayout L) (start : Start) (kept : Kept Said) (keeps : KeepsTree L start kept) (p : ℕ)
    (words : List ℕ) (at : IsLeafAt L kept.pages p) (e : Entry Said)
    (turn : e.count ≡ entries_under e.number kept.history + 1) where
  -- what stands after the release
  abbrev now : Kept Said
  now = record kept { pages = set kept.pages p words; owed = without p kept.owed; history = kept.history ++ e ∷ [] }

  here : page_at (set kept.pages p words) p ≡ words
  here = get_or-set_same kept.pages p words [] at.1

  there : (x : ℕ) → x ≢ p → page_at (set kept.pages p words) x ≡ page_at kept.pages x
  there x ne = get_or-set_other kept.pages p x words [] ne

  p_not_owed : has p kept.owed ≡ false
  p_not_owed = not_owed L laws start kept keeps p (omega (arith, at.2), omega (arith, at.2))

  module _ (step : IsLeafReplaced L kept.pages p words) where
    both_nodes : is_node L words ≡ is_node L (page_at kept.pages p)
    both_nodes = let after = step.leaf.node.tag in let before = at.2 in grind (arith, nat_tests, after, before)

    pub same_count : node_count L (set kept.pages p words) ≡ node_count L kept.pages
    same_count = let sums = sum_by-set (λ (w : List ℕ). if (is_node L) w then 1 else 0) kept.pages p words [] at.1 in
        let each = ap (λ (b : Bool). let n : ℕ = (if b then 1 else 0) in n) both_nodes in
        omega (arith, sums, each)

    claimed : (x : ℕ) → start.next ≤ x → x < kept.next → (all_zero (page_at (set kept.pages p words) x) ≡ false)
        ⊎ (has x kept.owed ≡ true) ⊎ (is_spare kept x ≡ true)
    claimed x ge lt = elim (cases_eq x p) [
      | inl same ↦ let tag = step.leaf.node.tag in
          inl (rw same (rw here (node_words L laws words (omega (arith, tag), omega (arith, tag)))))
      | inr other ↦ rw (there x other) (keeps.claimed x ge lt)
    ]

    free : (x : ℕ) → has x kept.owed ≡ true → IsFree L (page_at (set kept.pages p words) x)
    free x some = let other : x ≢ p = λ same. true≢false (sym some ∙ ap (λ y. has y kept.owed) same ∙ p_not_owed) in
        rw (there x other) (keeps.owed.free x some)

    -- what is left of what is paid: what a node that two became exceeds the base, where a del gave a value
    pub paid_left : (call : Call) (reply : Reply) → e.said ≡ record {
      call = call;
      reply = reply;
    } → load_of L words ≤ load_of L (page_at kept.pages p) + L.excess_weight * L.growth * is_new call reply
        → L.node_weight * kept.next + L.excess_weight * excess L (set kept.pages p words) + merge_weight L * is_gone call reply
        ≤ L.excess_weight * (L.room - L.base) * node_count L start.pages + L.excess_weight * L.growth * news
        (kept.history ++ e ∷ []) + merge_weight L * gones (kept.history ++ e ∷ []) + L.node_weight
        * (start.next + length kept.owed)
    paid_left call reply is grows =
        let sums = load-set L kept.pages p words at.1 in
        let more = excess_grows L kept.pages (set kept.pages p words) (L.excess_weight * L.growth * is_new call reply)
        same_count (omega (arith, sums, grows)) in
        paid_told (L.excess_weight * L.growth) (merge_weight L) _ _ _ (is_new call reply) (is_gone call reply) _ _ _ _
        _ _ more (news_after L start kept keeps e call reply is) (gones_after L start kept keeps e call reply is)
        keeps.paid

    leaf_keeps : (call : Call) (reply : Reply) → e.said ≡ record {
      call = call;
      reply = reply;
    } → IsReply (map_of L kept.pages) call reply → map_of L (set kept.pages p words) ≡ after (map_of L kept.pages) call
        → load_of L words ≤ load_of L (page_at kept.pages p) + L.excess_weight * L.growth * is_new call reply → KeepsTree L start now
    leaf_keeps call reply is right to grows =
        let tree = replaced_tree L laws kept.pages keeps.tree p words step in
        let before : load L kept.pages ≤ full_weight L * node_count L start.pages + L.excess_weight * L.growth * news
        kept.history = rw (load_is L kept.pages) keeps.room in
        let grown = grown_room (L.excess_weight * L.growth) _ _ _ _ _ _ _ _ (load-set L kept.pages p words at.1)
        (news_after L start kept keeps e call reply is) grows before in
        rw (without-none p kept.owed p_not_owed) (record {
          same_count = rw length-set keeps.same_count;
          tree = tree;
          parted = parted_leaves L laws (set kept.pages p words) tree;
          contents = map_after L start kept keeps e call reply is _ to;
          legal = legal_after L start kept keeps e call reply is turn right;
          risen = keeps.risen;
          bounded = rw length-set keeps.bounded;
          claimed = claimed;
          owed = record { apart = keeps.owed.apart; range = keeps.owed.range; free = free };
          room = rw (← load_is L (set kept.pages p words)) grown;
          paid = let less = paid_left call reply is grows in omega (arith, less);
        })

  module _ (holds : Pairs) (with : IsLeafWith L (page_at kept.pages p) words holds) where
    pub replaced : IsLeafReplaced L kept.pages p words
    replaced = record { at = at; leaf = with.leaf; low = with.low; high = with.high }

    rises : Rises (node_at L kept.pages p).low (node_at L kept.pages p).high (pairs_of L (page_at kept.pages p))
    rises = (keeps.tree.tree.leaf p at.2).rises

    both : is_node L words ≡ is_node L (page_at kept.pages p)
    both = both_nodes replaced

    fences : L.fence_size (node_of L words).low + L.fence_size (node_of L words).high ≡ L.fence_size
        (node_at L kept.pages p).low + L.fence_size (node_at L kept.pages p).high
    fences = rw (with.low, with.high) refl

    put_grows : (k v : ℕ) (was : Option ℕ) → was ≡ lookup_at (pairs_of L (page_at kept.pages p)) k
        → holds ≡ put_pair (pairs_of L (page_at kept.pages p)) k v
        → load_of L words ≤ load_of L (page_at kept.pages p) + L.excess_weight * L.growth * is_new (Put k v) (Was was)
    put_grows k v None was_is is =
        let more : pairs_size L.pair_size (pairs_of L words) ≤ pairs_size L.pair_size
        (pairs_of L (page_at kept.pages p)) + L.pair_size k =
        rw (with.pairs ∙ is) (size-put L.pair_size (pairs_of L (page_at kept.pages p)) k v) in
        weighs_more L words (page_at kept.pages p) both (omega (arith, more, fences, laws.grows k))
    put_grows k v (Some w) was_is is =
        let same : pairs_size L.pair_size (pairs_of L words) ≡ pairs_size L.pair_size
        (pairs_of L (page_at kept.pages p)) =
        rw (with.pairs ∙ is) (size-put_found L.pair_size _ _ _ k v w rises (sym was_is)) in
        weighs_less L words (page_at kept.pages p) (L.excess_weight * L.growth * 0) both (omega (arith, same, fences))

    pub del_grows : (k : ℕ) → holds ≡ del_pair (pairs_of L (page_at kept.pages p)) k
        → load_of L words ≤ load_of L (page_at kept.pages p) + L.excess_weight * L.growth * 0
    del_grows k is =
        let less : pairs_size L.pair_size (pairs_of L words) ≤ pairs_size L.pair_size
        (pairs_of L (page_at kept.pages p)) =
        rw (with.pairs ∙ is) (size-del L.pair_size (pairs_of L (page_at kept.pages p)) k) in
        weighs_less L words (page_at kept.pages p) (L.excess_weight * L.growth * 0) both (omega (arith, less, fences))

  pub edit_keeps : (call : Call) (reply : Reply) → e.said ≡ record {
    call = call;
    reply = reply;
  } → IsEdit L (page_at kept.pages p) words call reply → KeepsTree L start now
  edit_keeps (Put k v) (Was was) is (covers, was_is, with) = leaf_keeps (replaced _ with) (Put k v) (Was was) is
      (was_is ∙ sym (lookup-map_of L laws kept.pages keeps.tree p k at covers))
      (put_map L laws kept.pages keeps.tree p words (replaced _ with) k v covers
      (omega (arith, covers.1, high_le L laws kept.pages keeps.tree p at)) with.pairs)
      (put_grows _ with k v was was_is refl)
  edit_keeps (Del k) (Gone was) is (covers, was_is, with) = leaf_keeps (replaced _ with) (Del k) (Gone was) is
      (was_is ∙ sym (lookup-map_of L laws kept.pages keeps.tree p k at covers))
      (del_map L laws kept.pages keeps.tree p words (replaced _ with) k covers with.pairs)
      (del_grows _ with k refl)
  edit_keeps (Swap k want v) (Swapped swaps.Done) is (covers, found, with) =
      let wanted = lookup-map_of L laws kept.pages keeps.tree p k at covers ∙ found in
      leaf_keeps (replaced _ with) (Swap k want v) (Swapped swaps.Done) is
      (sym (outcome-done (lookup_at (map_of L kept.pages) k) want wanted))
      (put_map L laws kept.pages keeps.tree p words (replaced _ with) k v covers
      (omega (arith, covers.1, high_le L laws kept.pages keeps.tree p at)) with.pairs
      ∙ sym (swap-done (map_of L kept.pages) k want v wanted))
      (put_grows _ with k v (Some want) (sym found) refl)
  edit_keeps _ _ is edit = absurd edit
