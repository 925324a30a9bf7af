-- Sixteen leaves that do not reach the last key have another leaf behind them and an inner node above: so the tree has eighteen nodes.
use Rattle.std.proofs.Common.{◌≡◌, ◌≢◌, ℕ, ◌+◌, ◌-◌, ◌*◌, ◌<◌, ◌≤◌, ◌||◌, ◌==◌, ◌⊎◌, suc, Bool, true, false, List, []}
use Rattle.std.proofs.Common.{◌∷◌, ◌++◌, length, set, slice_index, if◌then◌else◌, refl, sym, ap, ◌∙◌, subst, arith}
use Rattle.std.proofs.Common.{inl, inr, ⊎_elim, length-append, length-set, get_or-set_other}
use Rattle.std.proofs.lemmas.Bool.{cases_eq, ne_eqb}
use Rattle.std.proofs.lemmas.Bool.Decides.{nat_tests}
use Rattle.std.proofs.lemmas.List.{get_or_past}
use Rattle.std.proofs.lemmas.List.Sums.{sum_by-set}
use Rattle.std.proofs.Math.Nat.{add-mul, mul-add, mul-le-mul_left}
use Rattle.vm_map.specs.declared.call.Said.{Said}
use Rattle.vm_tree_model.specs.Layout.{IsLayout, Layout}
use Rattle.vm_tree_model.specs.Node.{Covers}
use Rattle.vm_tree_model.specs.Page.{IsFree, node_of}
use Rattle.vm_tree_model.specs.Tree.{page_at, node_at, IsLeafAt, IsTree}
use Rattle.vm_tree_model.specs.Count.{is_node, node_count}
use Rattle.vm_tree_model.proofs.Laws.{high_le, in_range}
use Rattle.vm_tree_model.proofs.NodeCounts.{nodes_below, nodes_fewer}
use Rattle.vm_owner.specs.Numbers.{AreApart, has}
use Rattle.vm_owner.specs.Kept.{PagesHave, Kept, Start}
use Rattle.vm_tree_laws.specs.History.{news}
use Rattle.vm_tree_laws.specs.Keeps.{full_weight, KeepsTree}
use Rattle.vm_tree_laws.specs.May.{AreLeavesFrom, MOST_LEAVES}
use Rattle.vm_tree_laws.proofs.Nodes.{leaf_by_tag}
use Rattle.vm_tree_laws.proofs.Ranges.{leaves_more, reaches}

-- ---- distinct nodes

-- each of these pages is a node
abbrev pub AllNodes : Layout → List (List ℕ) → List ℕ → Type 0
AllNodes L pages [] = Unit {0}
AllNodes L pages (p ∷ ps) = (p < length pages) × (is_node L (page_at pages p) ≡ true) × AllNodes L pages ps

other : (p q : ℕ) (qs : List ℕ) → has p (q ∷ qs) ≡ false → (q ≢ p) × (has p qs ≡ false)
other p q qs none = (grind (arith, nat_tests, none), grind (arith, nat_tests, none))

-- the others are so without one of them
still : (L : Layout) (ps : List ℕ) (pages : List (List ℕ)) (p : ℕ) → has p ps ≡ false → AllNodes L pages ps → AllNodes L (set pages p []) ps
still L [] pages p none all = tt
still L (q ∷ qs) pages p none all =
    let apart = other p q qs none in (
      rw length-set all.0,
      ap (λ (w : List ℕ). is_node L w) (get_or-set_other pages p q [] [] apart.0) ∙ all.1,
      still L qs pages p apart.1 all.2,
    )

-- a page without words is no node
no_node : (L : Layout) → IsLayout L → is_node L [] ≡ false
no_node L laws = untagged (node_of L []).tag (laws.free_tag [] (λ i. get_or_past [] i 0 (omega arith)))
  where
    untagged : (tag : ℕ) → tag ≡ 0 → (tag == 2 || tag == 3) ≡ false
    untagged tag e = rw e refl

pub many_nodes : (L : Layout) (laws : IsLayout L) (ps : List ℕ) (pages : List (List ℕ)) → AreApart ps
    → AllNodes L pages ps → length ps ≤ node_count L pages
many_nodes L laws [] pages apart all = omega arith
many_nodes L laws (p ∷ ps) pages apart all =
    let rest : length ps ≤ node_count L (set pages p []) = many_nodes L laws ps (set pages p []) apart.1
    (still L ps pages p apart.0 all.2) in
    let sums = sum_by-set (λ (w : List ℕ). if is_node L w then 1 else 0) pages p [] [] all.0 in
    let one = ap (λ (b : Bool). let n : ℕ = (if b then 1 else 0) in n) all.1 in
    let none = ap (λ (b : Bool). let n : ℕ = (if b then 1 else 0) in n) (no_node L laws) in
    omega (arith, rest, sums, one, none)

-- ---- leaves that follow one another

abbrev pub firsts : List (ℕ × List ℕ) → List ℕ
firsts [] = []
firsts (q ∷ qs) = q.0 ∷ firsts qs

pub firsts_length : (leaves : List (ℕ × List ℕ)) → length (firsts leaves) ≡ length leaves
firsts_length [] = refl
firsts_length (q ∷ qs) = ap (λ (n : ℕ). suc n) (firsts_length qs)

words_more : (pages : List (List ℕ)) (leaves : List (ℕ × List ℕ)) (p : ℕ) → PagesHave pages leaves → p < length pages
    → PagesHave pages (leaves ++ (p, page_at pages p) ∷ [])
words_more pages [] p have lt = (lt, refl, tt)
words_more pages (q ∷ qs) p have lt = (have.0, have.1, words_more pages qs p have.2 lt)

node_by_tag : (L : Layout) (w : List ℕ) → ((node_of L w).tag ≡ 2) ⊎ ((node_of L w).tag ≡ 3) → is_node L w ≡ true
node_by_tag L w = tagged (node_of L w).tag
  where
    tagged : (tag : ℕ) → (tag ≡ 2) ⊎ (tag ≡ 3) → (tag == 2 || tag == 3) ≡ true
    tagged tag (inl e) = rw e refl
    tagged tag (inr e) = rw e refl

module _ (L : Layout) (pages : List (List ℕ)) where
  -- a page whose fence is at most where they begin is none of them
  beyond : (leaves : List (ℕ × List ℕ)) (from reach p : ℕ) → PagesHave pages leaves
      → AreLeavesFrom L leaves from reach → (node_at L pages p).high ≤ from → has p (firsts leaves) ≡ false
  beyond [] from reach p have are le = refl
  beyond (q ∷ qs) from reach p have are le =
      let lt : from < (node_of L q.1).high = are.1.1 in
      let ne : p ≢ q.0 = (λ e. let same : (node_at L pages p).high ≡ (node_of L q.1).high =
      ap (λ (n : ℕ). (node_at L pages n).high) e ∙ ap (λ (w : List ℕ). (node_of L w).high) have.1 in
      omega (arith, lt, le, same)) in
      let rest : has p (firsts qs) ≡ false = beyond qs (node_of L q.1).high reach p have.2 are.2 (omega (arith, lt, le)) in
      (λ i. ne_eqb p q.0 ne i || rest i)

  apart_leaves : (leaves : List (ℕ × List ℕ)) (from reach : ℕ) → PagesHave pages leaves
      → AreLeavesFrom L leaves from reach → AreApart (firsts leaves)
  apart_leaves [] from reach have are = tt
  apart_leaves (q ∷ qs) from reach have are =
      let same : (node_at L pages q.0).high ≡ (node_of L q.1).high = ap (λ (w : List ℕ). (node_of L w).high) have.1 in
      (beyond qs (node_of L q.1).high reach q.0 have.2 are.2 (omega (arith, same)), apart_leaves qs (node_of L q.1).high reach have.2 are.2)

  leaf_nodes : (leaves : List (ℕ × List ℕ)) (from reach : ℕ) → PagesHave pages leaves
      → AreLeavesFrom L leaves from reach → AllNodes L pages (firsts leaves)
  leaf_nodes [] from reach have are = tt
  leaf_nodes (q ∷ qs) from reach have are = (
    have.0,
    node_by_tag L (page_at pages q.0) (inl (ap (λ (w : List ℕ). (node_of L w).tag) have.1 ∙ are.0)),
    leaf_nodes qs (node_of L q.1).high reach have.2 are.2,
  )

  -- an inner node is none of them
  inner_apart : (leaves : List (ℕ × List ℕ)) (from reach r : ℕ) → PagesHave pages leaves
      → AreLeavesFrom L leaves from reach → (node_at L pages r).tag ≡ 3 → has r (firsts leaves) ≡ false
  inner_apart [] from reach r have are inner = refl
  inner_apart (q ∷ qs) from reach r have are inner =
      let ne : r ≢ q.0 = (λ e. let same : (node_at L pages r).tag ≡ 2 = ap (λ (n : ℕ). (node_at L pages n).tag) e
      ∙ ap (λ (w : List ℕ). (node_of L w).tag) have.1 ∙ are.0 in omega (arith, inner, same)) in
      let rest : has r (firsts qs) ≡ false = inner_apart qs (node_of L q.1).high reach r have.2 are.2 inner in
      (λ i. ne_eqb r q.0 ne i || rest i)

-- ---- the tree over them

module _ (L : Layout) (laws : IsLayout L) (start : Start) (kept : Kept Said) (keeps : KeepsTree L start kept) where
  abbrev root : ℕ
  root = slice_index (page_at kept.pages 0) 1

  -- the root is no leaf
  root_inner : (q : ℕ × List ℕ) (qs : List (ℕ × List ℕ)) (low reach : ℕ) → PagesHave kept.pages (q ∷ qs)
      → AreLeavesFrom L (q ∷ qs) low reach → reach < L.key_end → (node_at L kept.pages root).tag ≡ 3
  root_inner q qs low reach have are below =
      let t = keeps.tree.tree in
      ⊎_elim
      (λ (leaf : (node_at L kept.pages root).tag ≡ 2).
      let at : IsLeafAt L kept.pages q.0 = leaf_by_tag L laws start kept keeps q.0
      (ap (λ (w : List ℕ). (node_of L w).tag) have.1 ∙ are.0) in
      let top : IsLeafAt L kept.pages root = leaf_by_tag L laws start kept keeps root leaf in
      let covers : Covers (node_at L kept.pages q.0) low = subst (λ (w : List ℕ). Covers (node_of L w) low) (sym have.1) are.1 in
      let lt : low < (node_at L kept.pages q.0).high = covers.1 in
      let within : (node_at L kept.pages q.0).high ≤ L.key_end = high_le L laws kept.pages keeps.tree q.0 at in
      let over : Covers (node_at L kept.pages root) low = (omega (arith, t.root_low), omega (arith, t.root_high, lt, within)) in
      let same : q.0 ≡ root = keeps.parted.one low q.0 root at covers top over in
      let high : (node_of L q.1).high ≡ L.key_end = ap (λ (w : List ℕ). (node_of L w).high) (sym have.1)
      ∙ ap (λ (n : ℕ). (node_at L kept.pages n).high) same ∙ t.root_high in
      let far : (node_of L q.1).high ≤ reach = reaches L qs (node_of L q.1).high reach are.2 in
      absurd (omega (arith, high, far, below)))
      (λ ne. let is = t.root_is in omega (arith, ne, is))
      (cases_eq (node_at L kept.pages root).tag 2)

  -- they, the leaf behind them and the root are eighteen nodes
  pub eighteen_nodes : (leaves : List (ℕ × List ℕ)) (low reach : ℕ) → PagesHave kept.pages leaves
      → AreLeavesFrom L leaves low reach → length leaves ≡ MOST_LEAVES → reach < L.key_end
      → 18 ≤ node_count L kept.pages
  eighteen_nodes [] low reach have are many below = absurd (omega (arith, many))
  eighteen_nodes (q ∷ qs) low reach have are many below =
      let next = keeps.parted.some reach below in
      let all : List (ℕ × List ℕ) = (q ∷ qs) ++ (next.0, page_at kept.pages next.0) ∷ [] in
      let high : ℕ = (node_at L kept.pages next.0).high in
      let have' : PagesHave kept.pages all = words_more kept.pages (q ∷ qs) next.0 have next.1.1 in
      let are' : AreLeavesFrom L all low high = leaves_more L (q ∷ qs) low reach (next.0, page_at kept.pages next.0) are next.1.2 next.2 in
      let inner = root_inner q qs low reach have are below in
      let range = in_range L laws kept.pages keeps.tree root (omega (arith, inner), omega (arith, inner)) in
      let nodes : length (root ∷ firsts all) ≤ node_count L kept.pages = many_nodes L laws (root ∷ firsts all) kept.pages
      (inner_apart L kept.pages all low high root have' are' inner, apart_leaves L kept.pages all low high have' are')
      (range.1, node_by_tag L (page_at kept.pages root) (inr inner), leaf_nodes L kept.pages all low high have' are') in
      let long : length (firsts all) ≡ length all = firsts_length all in
      let more : length all ≡ length (q ∷ qs) + 1 = length-append (q ∷ qs) ((next.0, page_at kept.pages next.0) ∷ []) in
      omega (arith, nodes, long, more, many)

  -- they weigh no more than what the start and the puts of new keys account for
  pub wide_cause : (leaves : List (ℕ × List ℕ)) (low reach : ℕ) → PagesHave kept.pages leaves
      → AreLeavesFrom L leaves low reach → length leaves ≡ MOST_LEAVES → reach < L.key_end
      → L.node_weight * 18 ≤ full_weight L * node_count L start.pages + L.excess_weight * L.growth * news kept.history
  wide_cause leaves low reach have are many below =
      let weighed : L.node_weight * 18 ≤ L.node_weight * node_count L kept.pages =
      mul-le-mul_left L.node_weight (eighteen_nodes leaves low reach have are many below) in
      omega (arith, weighed, keeps.room)

  -- page 0 is none of them
  pub wide_pages : (leaves : List (ℕ × List ℕ)) (low reach : ℕ) → PagesHave kept.pages leaves
      → AreLeavesFrom L leaves low reach → length leaves ≡ MOST_LEAVES → reach < L.key_end → 19 ≤ length start.pages
  wide_pages leaves low reach have are many below =
      omega (
        arith,
        eighteen_nodes leaves low reach have are many below,
        nodes_fewer L laws kept.pages keeps.tree,
        keeps.same_count,
      )

  -- the start's nodes are fewer than its next page's number, where the pages from that one on are free
  pub wide_room : IsTree L start.pages → ((p : ℕ) → start.next ≤ p → p < length start.pages → IsFree L (page_at start.pages p))
      → (leaves : List (ℕ × List ℕ)) (low reach : ℕ) → PagesHave kept.pages leaves → AreLeavesFrom L leaves low reach
      → length leaves ≡ MOST_LEAVES → reach < L.key_end
      → L.node_weight * 19 ≤ L.excess_weight * (L.room - L.base) * node_count L start.pages + L.excess_weight
      * L.growth * news kept.history + L.node_weight * start.next
  wide_room tree free leaves low reach have are many below =
      let weighed = wide_cause leaves low reach have are many below in
      let fewer : L.node_weight * (node_count L start.pages + 1) ≤ L.node_weight * start.next =
      mul-le-mul_left L.node_weight (nodes_below L laws start.pages tree start.next free) in
      let one = mul-add L.node_weight (node_count L start.pages) 1 in
      let full = add-mul L.node_weight (L.excess_weight * (L.room - L.base)) (node_count L start.pages) in
      omega (arith, weighed, fewer, one, full)
