-- What the nodes' weights pay: for a page claimed, for a node more, and for one less.
use Rattle.std.proofs.Common.{◌≡◌, ℕ, ◌+◌, ◌*◌, ◌≤◌, List, ap, arith}
use Rattle.std.proofs.Math.Nat.{mul-add, mul-le-mul_left}
use Rattle.vm_tree_model.specs.Layout.{Layout}
use Rattle.vm_tree_model.specs.Count.{excess, node_count}
use Rattle.vm_tree_model.proofs.Load.{load, load_is}

-- a page is claimed, and owed
pub paid_more : (each next x k from n m : ℕ) → m ≡ n + 1 → each * next + x ≤ k + each * (from + n)
    → each * (next + 1) + x ≤ k + each * (from + m)
paid_more each next x k from n m is le =
    let one = mul-add each next 1 in
    let before = mul-add each from n in
    let after = mul-add each from m in
    let same : each * m ≡ each * (n + 1) = ap (λ (i : ℕ). each * i) is in
    let more = mul-add each n 1 in
    omega (arith, le, one, before, after, same, more)

-- an entry more, which may be of a new key, or of one that went
pub paid_told : (each gone a x x' new is news news' gones gones' k l : ℕ) → x' ≤ x + each * new → news' ≡ news + new
    → gones' ≡ gones + is → a + x ≤ k + each * news + gone * gones + l
    → a + x' + gone * is ≤ k + each * news' + gone * gones' + l
paid_told each gone a x x' new is news news' gones gones' k l grows new_is gone_is le =
    rw (new_is, gone_is, mul-add each news new, mul-add gone gones is) (omega (arith, grows, le))

-- other pages, of which others are owed
pub paid_regrouped : (each a x x' slack k from n m : ℕ) → x' + each * n ≤ x + each * m + slack
    → a + x + slack ≤ k + each * (from + n) → a + x' ≤ k + each * (from + m)
paid_regrouped each a x x' slack k from n m moves le =
    let before = mul-add each from n in
    let after = mul-add each from m in
    omega (arith, moves, le, before, after)

module _ (L : Layout) (old new : List (List ℕ)) where
  -- as many nodes, which weigh no more than what a put adds
  pub excess_grows : (more : ℕ) → node_count L new ≡ node_count L old → load L new ≤ load L old + more
      → L.excess_weight * excess L new ≤ L.excess_weight * excess L old + more
  excess_grows more same le =
      let nodes : L.node_weight * node_count L new ≡ L.node_weight * node_count L old = ap (λ (n : ℕ). L.node_weight * n) same in
      omega (arith, nodes, le, load_is L old, load_is L new)

  -- some nodes more, and at most as many pages owed less
  pub split_pays : (k owed owed' : ℕ) → load L new ≤ load L old → node_count L new ≡ node_count L old + k → owed ≤ owed' + k
      → L.excess_weight * excess L new + L.node_weight * owed ≤ L.excess_weight * excess L old + L.node_weight * owed'
  split_pays k owed owed' le more few =
      let nodes : L.node_weight * node_count L new ≡ L.node_weight * (node_count L old + k) = ap (λ (n : ℕ). L.node_weight * n) more in
      let apart = mul-add L.node_weight (node_count L old) k in
      let fewer : L.node_weight * owed ≤ L.node_weight * (owed' + k) = mul-le-mul_left L.node_weight few in
      let parts = mul-add L.node_weight owed' k in
      omega (arith, le, nodes, apart, fewer, parts, load_is L old, load_is L new)

  -- some nodes less, in place of which one may be above the base by so much
  pub merge_pays : (k most : ℕ) → node_count L old ≡ node_count L new + k → load L new + L.node_weight * k ≤ load L
      old + most → L.excess_weight * excess L new ≤ L.excess_weight * excess L old + most
  merge_pays k most fewer le =
      let nodes : L.node_weight * node_count L old ≡ L.node_weight * (node_count L new + k) = ap (λ (n : ℕ). L.node_weight * n) fewer in
      let apart = mul-add L.node_weight (node_count L new) k in
      omega (arith, le, nodes, apart, load_is L old, load_is L new)
