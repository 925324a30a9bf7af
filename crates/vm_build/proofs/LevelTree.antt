-- Levels of nodes, each with the low fences of the level below as its entries, are a tree by names and levels: which
-- page is the node of which
-- level and place settles who names whom.
use Rattle.std.proofs.Common.{◌≡◌, ℕ, zero, suc, ◌+◌, ◌*◌, ◌/◌, ◌<◌, ◌≤◌, inl, inr, length, refl, sym, ap, ◌∙◌, arith}
use Rattle.std.proofs.lemmas.Bool.{cases_lt}
use Rattle.std.proofs.lemmas.Bool.Decides.{nat_tests}
use Rattle.vm_map.specs.Keys.{KEY_END}
use Rattle.vm_map.specs.Map.{Pairs, Rises, next_key}
use Rattle.vm_tree_model.specs.Node.{Node, IsLeafNode, IsInnerNode, IsNode, Names, IsTreeOf}
use Rattle.vm_build.specs.Levels.{nodes_for, run_of, low_of, entries_above}
use Rattle.vm_build.proofs.Sizes.{length-entries_above}
use Rattle.vm_build.proofs.Rising.{entry_at}
use Rattle.vm_build.proofs.Runs.{fence_of, fence_next, fence_last, run_starts, run_found, run_rises, run_finds, run_next, run_last}
use Rattle.vm_build.proofs.Above.{above_at, above_low, above_rises}
use Rattle.vm_build.proofs.Nodes.{built_node, tag_above}
use Rattle.vm_page.specs.Sizes.{IsSize}
use Rattle.vm_build.specs.Levels.{fill_of}
use Rattle.vm_build.proofs.Fill.{fill_nodes, fill_own, fill_same, fill_within, fill_from, fill_to}

module _ (z : ℕ) where
  -- page p is node n of a level with so many entries, whose node 0 is on this page
  pub record IsAt (first : ℕ) (entries : Pairs) (p n : ℕ) : Type 0 where
    pub within : n < nodes_for z (length entries)
    pub page : p ≡ first + n

  -- level l has these entries, and its node 0 on page `first l`; the levels go up to the height, where one node is
  pub record AreLevels (node : ℕ → Node) (first : ℕ → ℕ) (entries : ℕ → Pairs) (height : ℕ) : Type 0 where
    pub rises : Rises 0 KEY_END (entries 0)
    pub next : (l : ℕ) → l < height → first (suc l) ≡ first l + nodes_for z (length (entries l))
    pub above : (l : ℕ) → l < height → entries (suc l) ≡ entries_above z (first l) (entries l) (nodes_for z (length (entries l)))
    pub top : nodes_for z (length (entries height)) ≡ 1
    pub nodes : (l p n : ℕ) → l ≤ height → IsAt (first l) (entries l) p n → node p ≡ built_node z l (entries l) n
    pub only : (p : ℕ) → IsNode (node p) → (l : ℕ) × (n : ℕ) × (l ≤ height) × IsAt (first l) (entries l) p n

module _ (z : ℕ) (size : IsSize z) where
  module _ (node : ℕ → Node) (first : ℕ → ℕ) (entries : ℕ → Pairs) (height : ℕ) (levels : AreLevels z node first entries height) where
    abbrev count : ℕ → ℕ
    count l = nodes_for z (length (entries l))

    pub rises_at : (l : ℕ) → l ≤ height → Rises 0 KEY_END (entries l)
    rises_at zero le = levels.rises
    rises_at (suc l) le = rw (levels.above l le) (above_rises z size (first l) (entries l) (rises_at l (omega (arith, le))))

    -- a level ends before those above it begin
    ends_before : (l m : ℕ) → l < m → m ≤ height → first l + count l ≤ first m
    ends_before l zero lt le = absurd (omega (arith, lt))
    ends_before l (suc m) lt le =
        let before = ends_before l m in
        elim (cases_lt l m) [
          | inl less ↦ omega (arith, before less (omega (arith, le)), levels.next m le)
          | inr last ↦ let same : l ≡ m = omega (arith, lt, last) in rw same (omega (arith, levels.next m le))
        ]

    -- a page is one node of one level
    one_place : (p l n m k : ℕ) → l ≤ height → m ≤ height → IsAt z (first l) (entries l) p n
        → IsAt z (first m) (entries m) p k → (l ≡ m) × (n ≡ k)
    one_place p l n m k l_le m_le here there = elim (cases_lt l m) [
      | inl less ↦ absurd (omega (arith, ends_before l m less m_le, here.within, here.page, there.page))
      | inr from ↦ elim (cases_lt m l) [
        | inl more ↦ absurd (omega (arith, ends_before m l more l_le, there.within, here.page, there.page))
        | inr upto ↦ let same : l ≡ m = omega (arith, from, upto) in (same, omega (arith, here.page, there.page, ap first same))
      ]
    ]

    pub is_node : (l p n : ℕ) → l ≤ height → IsAt z (first l) (entries l) p n → IsNode (node p)
    is_node l p n le at = rw (levels.nodes l p n le at) (grind (arith, nat_tests), grind (arith, nat_tests))

    -- the entries above the lowest level are the nodes of the level below
    length_above : (l : ℕ) → l < height → length (entries (suc l)) ≡ count l
    length_above l lt = ap length (levels.above l lt) ∙ length-entries_above z size (first l) (entries l) (count l)

    entry_above : (l j : ℕ) → l < height → j < count l → entry_at (entries (suc l)) j ≡ (low_of z (entries l) j, first l + j)
    entry_above l j lt within = ap (λ (m : Pairs). entry_at m j) (levels.above l lt) ∙ above_at z size (first l)
        (entries l) (count l) j within

    -- a node that page q names at the key k on page c: page q is node n of the level above, and page c is node j
    record IsChild (q k c : ℕ) : Type 0 where
      level : ℕ
      n : ℕ
      j : ℕ
      lt : level < height
      parent : IsAt z (first (suc level)) (entries (suc level)) q n
      child : IsAt z (first level) (entries level) c j
      from : fill_of z * n ≤ j
      to : j < fill_of z * n + fill_of z
      key : k ≡ low_of z (entries level) j

    child_at : (q k c l n j : ℕ) → l < height → IsAt z (first (suc l)) (entries (suc l)) q n → fill_of z * n ≤ j
        → j < fill_of z * n + fill_of z → j < count l
        → entry_at (entries (suc l)) j ≡ (k, c) → IsChild q k c
    child_at q k c l n j lt at from to within stands = record {
      level = l;
      n = n;
      j = j;
      lt = lt;
      parent = at;
      from = from;
      to = to;
      child = record { within = within; page = ap (λ (e : ℕ × ℕ). e.1) (sym stands ∙ entry_above l j lt within) };
      key = ap (λ (e : ℕ × ℕ). e.0) (sym stands ∙ entry_above l j lt within);
    }

    child_of : (q k c : ℕ) → Names node q k c → IsChild q k c
    child_of q k c named =
        let tag : (node q).tag ≡ 3 = named.0 in
        let (l, n, le, at) = levels.only q (omega (arith, tag), omega (arith, tag)) in
        at_level l n le at
      where
        at_level : (l n : ℕ) → l ≤ height → IsAt z (first l) (entries l) q n → IsChild q k c
        at_level zero n le at = absurd (omega (arith, named.0, ap (λ (x : Node). x.tag) (levels.nodes 0 q n le at)))
        at_level (suc l) n lt at =
            let (j, from, to, within, stands) = run_found z size (entries (suc l)) n k c (rw (levels.nodes (suc l) q n lt at) at named.1) in
            child_at q k c l n j lt at from to (omega (arith, within, length_above l lt)) stands

    names_from : (l n j : ℕ) → l < height → n < count (suc l) → j < count l → fill_of z * n ≤ j
        → j < fill_of z * n + fill_of z → Names node (first (suc l) + n) (low_of z (entries l) j) (first l + j)
    names_from l n j lt n_lt j_lt from to =
        let is = levels.nodes (suc l) (first (suc l) + n) n lt (record { within = n_lt; page = refl }) in
        let found = run_finds z size (entries (suc l)) n (rises_at (suc l) lt) j from to (omega (arith, j_lt, length_above l lt)) in
        (ap (λ (x : Node). x.tag) is ∙ tag_above z size l (entries (suc l)) n, rw is (rw (entry_above l j lt j_lt) at found))

    leaf_is : (p l n : ℕ) → l ≤ height → IsAt z (first l) (entries l) p n → (node p).tag ≡ 2 → IsLeafNode (node p)
    leaf_is p zero n le at tag =
        let rises = run_rises z size (entries 0) n levels.rises in
        rw (levels.nodes 0 p n le at) (record { tag = refl; level = refl; rises = rises })
    leaf_is p (suc l) n le at tag =
        absurd (omega (
          arith,
          tag,
          ap (λ (x : Node). x.tag) (levels.nodes (suc l) p n le at),
          tag_above z size l (entries (suc l)) n,
        ))

    inner_is : (p l n : ℕ) → l ≤ height → IsAt z (first l) (entries l) p n → (node p).tag ≡ 3 → IsInnerNode (node p)
    inner_is p zero n le at tag = absurd (omega (arith, tag, ap (λ (x : Node). x.tag) (levels.nodes 0 p n le at)))
    inner_is p (suc l) n le at tag =
        let some : fill_of z * n < length (entries (suc l)) = fill_own z size (length (entries (suc l))) n
        (omega (arith, length_above l le, fill_nodes z size (length (entries l)))) at.within in
        let low : low_of z (entries (suc l)) n ≡ (entry_at (entries (suc l)) (fill_of z * n)).0 =
        rw (levels.above l le) (above_low z size (first l) (entries l) (count l) n
        (fill_nodes z size (length (entries l)))) in
        rw (levels.nodes (suc l) p n le at) (record {
          tag = tag_above z size l (entries (suc l)) n;
          level = omega arith;
          rises = run_rises z size (entries (suc l)) n (rises_at (suc l) le);
          starts = run_starts z size (entries (suc l)) n some low;
        })

    root_at : IsAt z (first height) (entries height) (first height) 0
    root_at = record { within = omega (arith, levels.top); page = omega arith }

    root_node : node (first height) ≡ built_node z height (entries height) 0
    root_node = levels.nodes height (first height) 0 (omega arith) root_at

    child_node : (q k c : ℕ) (i : IsChild q k c) → node c ≡ built_node z i.level (entries i.level) i.j
    child_node q k c i = levels.nodes i.level c i.j (omega (arith, i.lt)) i.child

    parent_node : (q k c : ℕ) (i : IsChild q k c) → node q ≡ built_node z (suc i.level) (entries (suc i.level)) i.n
    parent_node q k c i = levels.nodes (suc i.level) q i.n i.lt i.parent

    high_is : (q k c : ℕ) → IsChild q k c → (node c).high ≡ next_key (node q).pairs (node q).high k
    high_is q k c i =
        let l = i.level in
        let up = entries (suc l) in
        let rises = rises_at (suc l) i.lt in
        let key : (entry_at up i.j).0 ≡ k = ap (λ (e : ℕ × ℕ). e.0) (entry_above l i.j i.lt i.child.within) ∙ sym i.key in
        let next : next_key (run_of z up i.n) (fence_of z up i.n) (entry_at up i.j).0 ≡ fence_of z (entries l) i.j =
        elim (cases_lt (suc i.j) (count l)) [
          | inl more ↦
              run_next z size up i.n rises i.j i.from i.to (omega (arith, more, length_above l i.lt))
              ∙ ap (λ (e : ℕ × ℕ). e.0) (entry_above l (suc i.j) i.lt more)
              ∙ sym (fence_next z size (entries l) i.j more)
          | inr last ↦ run_last z size up i.n rises i.j i.from i.to
              (omega (arith, last, i.child.within, length_above l i.lt))
              ∙ sym (fence_last z size (entries l) i.j last)
        ] in
        ap (λ (x : Node). x.high) (child_node q k c i) ∙ sym next ∙ ap (next_key (run_of z up i.n) (fence_of z up i.n)) key
        ∙ sym (ap (λ (x : Node). next_key x.pairs x.high k) (parent_node q k c i))

    once_is : (q q' k k' c : ℕ) → IsChild q k c → IsChild q' k' c → q ≡ q'
    once_is q q' k k' c i i' =
        let same = one_place c i.level i.j i'.level i'.j (omega (arith, i.lt)) (omega (arith, i'.lt)) i.child i'.child in
        let node_same = fill_same z size i.n i'.n i.j i.from i.to (omega (arith, i'.from, same.1)) (omega (arith, i'.to, same.1)) in
        omega (arith, i.parent.page, i'.parent.page, ap (λ l. first (suc l)) same.0, node_same)

    named_at : (c l n : ℕ) → l ≤ height → IsAt z (first l) (entries l) c n → (c ≡ first height → ⊥) → (q : ℕ) × (k : ℕ) × Names node q k c
    named_at c l n le at other = elim (cases_lt l height) [
      | inl lt ↦
          let named = names_from l (n / fill_of z) n lt
          (fill_within z size (length (entries (suc l))) n (omega (arith, at.within, length_above l lt)))
          at.within (fill_from z size n) (fill_to z size n) in
          (first (suc l) + n / fill_of z, low_of z (entries l) n, rw (← at.page) at named)
      | inr from ↦ let same : l ≡ height = omega (arith, le, from) in
          absurd (other (omega (arith, at.page, at.within, ap first same, ap count same, levels.top)))
    ]

    pub levels_tree : IsTreeOf KEY_END node (first height) height
    levels_tree = record {
      leaf = λ p tag. let (l, n, le, at) = levels.only p (omega (arith, tag), omega (arith, tag)) in leaf_is p l n le at tag;
      inner = λ p tag. let (l, n, le, at) = levels.only p (omega (arith, tag), omega (arith, tag)) in inner_is p l n le at tag;
      root_is = is_node height (first height) 0 (omega arith) root_at;
      root_level = ap (λ (x : Node). x.level) root_node;
      root_low = ap (λ (x : Node). x.low) root_node;
      root_high = ap (λ (x : Node). x.high) root_node ∙ fence_last z size (entries height) 0 (omega (arith, levels.top));
      child_is = λ q k c named. let i = child_of q k c named in is_node i.level c i.j (omega (arith, i.lt)) i.child;
      child_level = λ q k c named. let i = child_of q k c named in
          omega (
            arith,
            ap (λ (x : Node). x.level) (child_node q k c i),
            ap (λ (x : Node). x.level)
                (parent_node q k c i),
          );
      child_low = λ q k c named. let i = child_of q k c named in ap (λ (x : Node). x.low) (child_node q k c i) ∙ sym i.key;
      child_high = λ q k c named. high_is q k c (child_of q k c named);
      once = λ q q' k k' c named named'. once_is q q' k k' c (child_of q k c named) (child_of q' k' c named');
      unnamed = λ q k named. let i = child_of q k (first height) named in
          omega (arith, i.child.page, i.child.within, ends_before i.level height i.lt (omega arith));
      named = λ c is other. let (l, n, le, at) = levels.only c is in named_at c l n le at other;
    }
