-- The entry that a validated leaf proves keeps what the tree keeps.
use Rattle.std.proofs.Common.{◌≡◌, ◌≤◌, ℕ, min, ◌+◌, ◌-◌, ◌*◌, [], ◌∷◌, length, refl, sym, ◌∙◌, arith}
use Rattle.std.proofs.Math.Nat.{mul-add}
use Rattle.vm_tree_model.specs.Layout.{Layout, IsLayout}
use Rattle.vm_tree_model.specs.Tree.{page_at, IsLeafAt, map_of}
use Rattle.vm_tree_model.specs.Count.{excess, node_count}
use Rattle.vm_map.proofs.MapLemmas.{del-none}
use Rattle.vm_tree_model.proofs.Laws.{lookup-map_of}
use Rattle.vm_owner.specs.declared.Entry.{Entry}
use Rattle.vm_owner.specs.Kept.{Start, Kept, entries_under, told}
use Rattle.vm_map.specs.declared.call.Said.{Said}
use Rattle.vm_map.specs.declared.call.Call.{Call}
use Rattle.vm_map.specs.declared.call.Call.TheVariants.{Get, Del, Swap, Window}
use Rattle.vm_map.specs.declared.call.Swap.TheVariants as swaps
use Rattle.vm_map.specs.Map.{lookup_at}
use Rattle.vm_map.proofs.SwapLaws.{outcome-kept, outcome-missing, swap-kept, swap-missing}
use Rattle.vm_map.specs.declared.call.Reply.{Reply}
use Rattle.vm_map.specs.declared.call.Reply.TheVariants.{Got, Gone, Swapped, Win}
use Rattle.vm_map.specs.History.{IsReply, after, bound_of}
use Rattle.vm_map.proofs.WindowLaws.{window_replies}
use Rattle.vm_tree_laws.specs.History.{is_gone, is_new}
use Rattle.vm_tree_laws.specs.Keeps.{KeepsTree, merge_weight}
use Rattle.vm_tree_laws.specs.May.{IsProved}
use Rattle.vm_tree_laws.proofs.WindowPages.{between-map_of, leaf_rises}
use Rattle.vm_tree_laws.proofs.Histories.{gones_after, legal_after, map_after, news_after}
use Rattle.vm_tree_laws.proofs.Payments.{paid_told}

-- a further put adds to what may be weighed
more_room : (each a b c l k : ℕ) → a ≡ b + c → l ≤ k + each * b → l ≤ k + each * a
more_room each a b c l k is le = rw (is, mul-add each b c) (omega (arith, le))

module _ (L : Layout) (start : Start) (kept : Kept Said) (keeps : KeepsTree L start kept) (e : Entry Said)
    (turn : e.count ≡ entries_under e.number kept.history + 1) where
  -- an entry whose reply is right, of a call that leaves the map
  pub told_keeps : (call : Call) (reply : Reply) → e.said ≡ record {
    call = call;
    reply = reply;
  } → IsReply (map_of L kept.pages) call reply → map_of L kept.pages ≡ after (map_of L kept.pages) call
      → KeepsTree L start (told (e ∷ []) kept)
  told_keeps call reply is right same = record {
    same_count = keeps.same_count;
    tree = keeps.tree;
    parted = keeps.parted;
    contents = map_after L start kept keeps e call reply is _ same;
    legal = legal_after L start kept keeps e call reply is turn right;
    risen = keeps.risen;
    bounded = keeps.bounded;
    claimed = keeps.claimed;
    owed = record { apart = keeps.owed.apart; range = keeps.owed.range; free = keeps.owed.free };
    room = more_room (L.excess_weight * L.growth) _ _ _ _ _ (news_after L start kept keeps e call reply is) keeps.room;
    paid = (let less = paid_told (L.excess_weight * L.growth) (merge_weight L) (L.node_weight * kept.next)
        (L.excess_weight * excess L kept.pages) (L.excess_weight * excess L kept.pages) (is_new call reply)
        (is_gone call reply)
        _ _ _ _ (L.excess_weight * (L.room - L.base) * node_count L start.pages)
        (L.node_weight * (start.next + length kept.owed)) (omega arith)
        (news_after L start kept keeps e call reply is) (gones_after L start kept keeps e call reply is) keeps.paid in omega (arith, less));
  }

module _ (L : Layout) (laws : IsLayout L) (start : Start) (kept : Kept Said) (keeps : KeepsTree L start kept) (p : ℕ)
    (at : IsLeafAt L kept.pages p) (e : Entry Said) (turn : e.count ≡ entries_under e.number kept.history + 1) where
  pub read_keeps : (call : Call) (reply : Reply) → e.said ≡ record {
    call = call;
    reply = reply;
  } → IsProved L (page_at kept.pages p) call reply → KeepsTree L start (told (e ∷ []) kept)
  read_keeps (Get k) (Got found) is (covers, found_is) = told_keeps L start kept keeps e turn (Get k) (Got found) is
      (found_is ∙ sym (lookup-map_of L laws kept.pages keeps.tree p k at covers)) refl
  read_keeps (Del k) (Gone was) is (covers, was_is, none) =
      let none_there = lookup-map_of L laws kept.pages keeps.tree p k at covers ∙ none in
      told_keeps L start kept keeps e turn (Del k) (Gone was) is (was_is ∙ sym none_there)
      (sym (del-none (map_of L kept.pages) k none_there))
  read_keeps (Window from most) (Win window) is (covers, some, is_window) =
      let (above, within, shows, few) = window_replies _ _ _ from (min most 28) window
      (keeps.tree.tree.leaf p at.2).rises covers.1 (omega (arith, some)) is_window in
      told_keeps L start kept keeps e turn (Window from most) (Win window) is (
        above,
        shows ∙ sym (between-map_of L laws kept.pages keeps.tree p from (bound_of window.bound) at covers.0
            within (leaf_rises L laws kept.pages keeps.tree p at)),
        omega (arith, few),
      ) refl
  read_keeps (Swap k want v) (Swapped (swaps.Kept w)) is (covers, found, other) =
      let there = lookup-map_of L laws kept.pages keeps.tree p k at covers ∙ found in
      told_keeps L start kept keeps e turn (Swap k want v) (Swapped (swaps.Kept w)) is
      (sym (outcome-kept (lookup_at (map_of L kept.pages) k) w want there other))
      (sym (swap-kept (map_of L kept.pages) k want v w there other))
  read_keeps (Swap k want v) (Swapped swaps.Missing) is (covers, none) =
      let there = lookup-map_of L laws kept.pages keeps.tree p k at covers ∙ none in
      told_keeps L start kept keeps e turn (Swap k want v) (Swapped swaps.Missing) is
      (sym (outcome-missing (lookup_at (map_of L kept.pages) k) want there))
      (sym (swap-missing (map_of L kept.pages) k want v there))
  read_keeps _ _ is proved = absurd proved
