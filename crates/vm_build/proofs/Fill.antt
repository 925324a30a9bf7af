-- How many nodes a level's entries fill, on pages of either size: what follows of 20 and of 180.
use Rattle.std.proofs.Common.{◌≡◌, ℕ, suc, ◌+◌, ◌*◌, ◌/◌, ◌<◌, ◌≤◌, max, arith}
use Rattle.vm_page.specs.Sizes.{IsSize}
use Rattle.vm_tree_model.specs.Fixed.{capacity}
use Rattle.vm_tree_model.proofs.FixedLaws.{size_is}
use Rattle.vm_build.specs.Levels.{fill_of, nodes_for}

twenty : (e : ℕ) → e ≤ 20 * max 1 ((e + 19) / 20)
twenty e = omega arith

large_few : (e n : ℕ) → e ≤ 20 * n → 1 ≤ n → max 1 ((e + 179) / 180) ≤ n
large_few e n le some = omega (arith, le, some)

module _ (z : ℕ) (size : IsSize z) where
  pub fill_some : 20 ≤ fill_of z
  fill_some = size_is (λ k. 20 ≤ fill_of k) z size (omega arith) (omega arith)

  -- a page has place for them
  pub fill_fits : fill_of z ≤ capacity z
  fill_fits = size_is (λ k. fill_of k ≤ capacity k) z size (omega arith) (omega arith)

  -- where the next node's entries begin
  pub fill_next : (n : ℕ) → fill_of z * suc n ≡ fill_of z * n + fill_of z
  fill_next n = size_is (λ k. fill_of k * suc n ≡ fill_of k * n + fill_of k) z size (omega arith) (omega arith)

  pub fill_first : fill_of z * 0 ≡ 0
  fill_first = size_is (λ k. fill_of k * 0 ≡ 0) z size (omega arith) (omega arith)

  pub fill_rise : (i j : ℕ) → i < j → fill_of z * i < fill_of z * j
  fill_rise i j lt = size_is (λ k. fill_of k * i < fill_of k * j) z size (omega (arith, lt)) (omega (arith, lt))

  -- all entries are in the nodes
  pub fill_all : (e : ℕ) → e ≤ fill_of z * nodes_for z e
  fill_all e = size_is (λ k. e ≤ fill_of k * nodes_for k e) z size (omega arith) (omega arith)

  pub fill_one : (e : ℕ) → e ≤ fill_of z → nodes_for z e ≡ 1
  fill_one e = size_is (λ k. e ≤ fill_of k → nodes_for k e ≡ 1) z size (λ le. omega (arith, le)) (λ le. omega (arith, le))

  pub fill_several : (e : ℕ) → fill_of z < e → 2 ≤ nodes_for z e
  fill_several e = size_is (λ k. fill_of k < e → 2 ≤ nodes_for k e) z size (λ lt. omega (arith, lt)) (λ lt. omega (arith, lt))

  -- no more nodes than of 20 entries
  pub fill_few : (e : ℕ) → nodes_for z e ≤ max 1 ((e + 19) / 20)
  fill_few e = size_is (λ k. nodes_for k e ≤ max 1 ((e + 19) / 20)) z size (omega arith)
      (large_few e (max 1 ((e + 19) / 20)) (twenty e) (omega arith))

  pub fill_nodes : (e : ℕ) → 1 ≤ nodes_for z e
  fill_nodes e = size_is (λ k. 1 ≤ nodes_for k e) z size (omega arith) (omega arith)

  -- a node but the first has an entry, and each has one where there is one
  pub fill_has : (e n : ℕ) → suc n < nodes_for z e → fill_of z * suc n < e
  fill_has e n = size_is (λ k. suc n < nodes_for k e → fill_of k * suc n < e) z size (λ lt. omega (arith, lt)) (λ lt. omega (arith, lt))

  pub fill_own : (e n : ℕ) → 1 ≤ e → n < nodes_for z e → fill_of z * n < e
  fill_own e n some = size_is (λ k. n < nodes_for k e → fill_of k * n < e) z size (λ lt. omega (arith, lt, some))
      (λ lt. omega (arith, lt, some))

  -- behind a node's entries there are more, or none
  pub fill_more : (e n : ℕ) → fill_of z * n + fill_of z < e → suc n < nodes_for z e
  fill_more e n = size_is (λ k. fill_of k * n + fill_of k < e → suc n < nodes_for k e) z size
      (λ lt. omega (arith, lt)) (λ lt. omega (arith, lt))

  pub fill_last : (e n : ℕ) → e ≤ fill_of z * n + fill_of z → nodes_for z e ≤ suc n
  fill_last e n = size_is (λ k. e ≤ fill_of k * n + fill_of k → nodes_for k e ≤ suc n) z size
      (λ le. omega (arith, le)) (λ le. omega (arith, le))

  -- the node that an entry is in
  pub fill_from : (j : ℕ) → fill_of z * (j / fill_of z) ≤ j
  fill_from j = size_is (λ k. fill_of k * (j / fill_of k) ≤ j) z size (omega arith) (omega arith)

  pub fill_to : (j : ℕ) → j < fill_of z * (j / fill_of z) + fill_of z
  fill_to j = size_is (λ k. j < fill_of k * (j / fill_of k) + fill_of k) z size (omega arith) (omega arith)

  pub fill_within : (e j : ℕ) → j < e → j / fill_of z < nodes_for z e
  fill_within e j lt = size_is (λ k. j / fill_of k < nodes_for k e) z size (omega (arith, lt)) (omega (arith, lt))

  pub fill_same : (m n j : ℕ) → fill_of z * m ≤ j → j < fill_of z * m + fill_of z → fill_of z * n ≤ j
      → j < fill_of z * n + fill_of z → m ≡ n
  fill_same m n j = size_is (λ k. fill_of k * m ≤ j → j < fill_of k * m + fill_of k → fill_of k * n ≤ j
      → j < fill_of k * n + fill_of k → m ≡ n) z size
      (λ a b c d. omega (arith, a, b, c, d)) (λ a b c d. omega (arith, a, b, c, d))
