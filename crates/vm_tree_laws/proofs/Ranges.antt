-- The entry that leaves prove which are held together keeps what the tree keeps: they have just the map's pairs of the range.
use Rattle.std.proofs.Common.{◌≡◌, ℕ, ◌+◌, ◌<◌, ◌≤◌, List, [], ◌∷◌, ◌++◌, length, min, refl, sym, ap, ◌∙◌, subst}
use Rattle.std.proofs.Common.{arith, ⊎_elim, append-nil, append_assoc}
use Rattle.std.proofs.lemmas.Bool.{cases_lt}
use Rattle.vm_map.specs.Map.{Pairs}
use Rattle.vm_map.specs.History.{between, bound_of}
use Rattle.vm_map.specs.declared.call.Said.{Said}
use Rattle.vm_map.specs.declared.call.Call.{Call}
use Rattle.vm_map.specs.declared.call.Call.TheVariants.{Range}
use Rattle.vm_map.specs.declared.call.Reply.{Reply}
use Rattle.vm_map.specs.declared.call.Reply.TheVariants.{Many, Wide}
use Rattle.vm_map.proofs.RangeLaws.{between-cut, between-nothing}
use Rattle.vm_tree_model.specs.Layout.{IsLayout, Layout}
use Rattle.vm_tree_model.specs.Node.{Covers}
use Rattle.vm_tree_model.specs.Page.{node_of, pairs_of}
use Rattle.vm_tree_model.specs.Tree.{page_at, node_at, IsLeafAt, map_of}
use Rattle.vm_tree_model.proofs.Laws.{Rises-map_of}
use Rattle.vm_owner.specs.declared.Entry.{Entry}
use Rattle.vm_owner.specs.Kept.{Start, Kept, PagesHave, IsTurn, entries_under, told}
use Rattle.vm_tree_laws.specs.Keeps.{KeepsTree}
use Rattle.vm_tree_laws.specs.May.{AreLeavesFrom, IsProvedByAll, MayHold, MOST_LEAVES, pairs_held}
use Rattle.vm_tree_laws.proofs.LeafReads.{told_keeps}
use Rattle.vm_tree_laws.proofs.Nodes.{leaf_by_tag}
use Rattle.vm_tree_laws.proofs.WindowPages.{between-map_of, leaf_rises}

-- leaves with one more behind
pub leaves_more : (L : Layout) (leaves : List (ℕ × List ℕ)) (low from : ℕ) (q : ℕ × List ℕ)
    → AreLeavesFrom L leaves low from → (node_of L q.1).tag ≡ 2 → Covers (node_of L q.1) from
    → AreLeavesFrom L (leaves ++ q ∷ []) low (node_of L q.1).high
leaves_more L [] low from q are tag covers = (tag, subst (Covers (node_of L q.1)) are covers, refl)
leaves_more L (p ∷ ps) low from q are tag covers = (are.0, are.1, leaves_more L ps (node_of L p.1).high from q are.2 tag covers)

-- and their pairs
pub pairs_more : (L : Layout) (leaves : List (ℕ × List ℕ)) (low from upto : ℕ) (q : ℕ × List ℕ) → AreLeavesFrom L leaves low from
    → pairs_held L (leaves ++ q ∷ []) low upto ≡ pairs_held L leaves low upto ++ between (pairs_of L q.1) from
    (min (node_of L q.1).high upto)
pairs_more L [] low from upto q are = append-nil (between (pairs_of L q.1) low (min (node_of L q.1).high upto))
    ∙ ap (λ (n : ℕ). between (pairs_of L q.1) n (min (node_of L q.1).high upto)) (sym are)
pairs_more L (p ∷ ps) low from upto q are =
    ap (λ (l : Pairs). between (pairs_of L p.1) low (min (node_of L p.1).high upto) ++ l)
    (pairs_more L ps (node_of L p.1).high from upto q are.2)
    ∙ sym (append_assoc (between (pairs_of L p.1) low (min (node_of L p.1).high upto))
    (pairs_held L ps (node_of L p.1).high upto) (between (pairs_of L q.1) from (min (node_of L q.1).high upto)))

-- leaves reach farther than where they begin
pub reaches : (L : Layout) (leaves : List (ℕ × List ℕ)) (from reach : ℕ) → AreLeavesFrom L leaves from reach → from ≤ reach
reaches L [] from reach are = omega (arith, are)
reaches L (q ∷ qs) from reach are = let lt : from < (node_of L q.1).high = are.1.1 in let le =
    reaches L qs (node_of L q.1).high reach are.2 in omega (arith, lt, le)

module _ (L : Layout) (laws : IsLayout L) (start : Start) (kept : Kept Said) (keeps : KeepsTree L start kept) where
  abbrev m : Pairs
  m = map_of L kept.pages

  -- what leaves have that follow one another is what the map has there
  pub held_pairs : (leaves : List (ℕ × List ℕ)) (from upto reach : ℕ) → PagesHave kept.pages leaves
      → AreLeavesFrom L leaves from reach → upto ≤ reach → pairs_held L leaves from upto ≡ between m from upto
  held_pairs [] from upto reach have are le = sym (between-nothing m from upto (omega (arith, le, are)))
  held_pairs (q ∷ qs) from upto reach have are le =
      let words : page_at kept.pages q.0 ≡ q.1 = have.1 in
      let at : IsLeafAt L kept.pages q.0 = leaf_by_tag L laws start kept keeps q.0 (ap (λ w. (node_of L w).tag) words ∙ are.0) in
      let high : ℕ = (node_of L q.1).high in
      let cut : ℕ = min high upto in
      let covers : Covers (node_at L kept.pages q.0) from = subst (λ w. Covers (node_of L w) from) (sym words) are.1 in
      let under : cut ≤ (node_at L kept.pages q.0).high = subst (λ w. cut ≤ (node_of L w).high) (sym words) (omega arith) in
      let here : between (pairs_of L q.1) from cut ≡ between m from cut =
      subst (λ w. between (pairs_of L w) from cut ≡ between m from cut) words
      (sym (between-map_of L laws kept.pages keeps.tree q.0 from cut at covers.0 under
      (leaf_rises L laws kept.pages keeps.tree q.0 at))) in
      let rest : pairs_held L qs high upto ≡ between m high upto = held_pairs qs high upto reach have.2 are.2 le in
      let lt : from < high = are.1.1 in
      (λ i. here i ++ rest i)
      ∙ ⊎_elim
      (λ (above : high < upto).
      let is : cut ≡ high = omega (arith, above) in
      subst (λ c. between m from c ++ between m high upto ≡ between m from upto) (sym is)
      (sym (between-cut m 0 L.key_end from high upto (Rises-map_of L laws kept.pages keeps.tree) (omega (arith, lt))
      (omega (arith, above)))))
      (λ (below : upto ≤ high).
      let is : cut ≡ upto = omega (arith, below) in
      (λ i. between m from (is i) ++ between-nothing m high upto below i)
      ∙ append-nil (between m from upto))
      (cases_lt high upto)

  farther : (leaves : List (ℕ × List ℕ)) (from reach : ℕ) → AreLeavesFrom L leaves from reach → length leaves ≡ MOST_LEAVES → from < reach
  farther [] from reach are many = absurd (omega (arith, many))
  farther (q ∷ qs) from reach are many = let lt : from < (node_of L q.1).high = are.1.1 in let le =
      reaches L qs (node_of L q.1).high reach are.2 in omega (arith, lt, le)

  module _ (leaves : List (ℕ × List ℕ)) (have : PagesHave kept.pages leaves) (e : Entry Said)
      (turn : e.count ≡ entries_under e.number kept.history + 1) where
    pub range_keeps : (call : Call) (reply : Reply) → e.said ≡ record {
      call = call;
      reply = reply;
    } → IsProvedByAll L leaves call reply → KeepsTree L start (told (e ∷ []) kept)
    range_keeps (Range low bound) (Many span) is (reach, are, covered, pairs) =
        told_keeps L start kept keeps e turn (Range low bound) (Many span) is
        (pairs ∙ held_pairs leaves low (bound_of bound) reach have are covered) refl
    range_keeps (Range low bound) (Wide reach) is (are, many, below, key) =
        told_keeps L start kept keeps e turn (Range low bound) (Wide reach) is (farther leaves low reach are many, below) refl
    range_keeps _ _ is proved = absurd proved

pub holds_keep : (L : Layout) (laws : IsLayout L) (start : Start) (kept : Kept Said) (leaves : List (ℕ × List ℕ))
    (entries : List (Entry Said))
    → KeepsTree L start kept → PagesHave kept.pages leaves → IsTurn kept.history entries
    → MayHold L start leaves entries → KeepsTree L start (told entries kept)
holds_keep L laws start kept leaves [] keeps have turn may = rw (append-nil kept.history) keeps
holds_keep L laws start kept leaves (e ∷ es) keeps have turn may =
    rw turn.1 (range_keeps L laws start kept keeps leaves have e turn.0 e.said.call e.said.reply refl may)
