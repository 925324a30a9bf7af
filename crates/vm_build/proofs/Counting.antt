-- A count of the nodes of all levels, one level after another: how many levels are still to come does not matter, where they are enough.
use Rattle.std.proofs.Common.{◌≡◌, ℕ, zero, suc, ◌+◌, ◌-◌, ◌^◌, ◌<◌, ◌≤◌, true, false, nat_le, if◌then◌else◌, refl, arith}
use Rattle.std.proofs.lemmas.Bool.Decides.{nat_tests}
use Rattle.vm_build.specs.Levels.{nodes_for}
use Rattle.vm_build.specs.Build.{nodes_from, needed}
use Rattle.vm_page.specs.Sizes.{IsSize}
use Rattle.vm_build.proofs.Fill.{fill_few, fill_nodes}

module _ (z : ℕ) where
  -- the nodes of the levels above one of so many
  abbrev pub nodes_above : ℕ → ℕ → ℕ
  nodes_above levels nodes = if nat_le nodes 1 then 0 else nodes_from z levels (nodes_for z nodes)

  -- the pages counted so far: page 0, and the levels up to one of so many nodes
  pub record IsCounted (pairs nodes pages : ℕ) : Type 0 where
    pub levels : ℕ
    pub enough : nodes ≤ levels + 2
    pub whole : pages + nodes_above levels nodes ≡ needed z pairs
    pub some : 1 ≤ nodes
    pub small : pages + nodes ≤ 500000000

module _ (z : ℕ) (size : IsSize z) where
  nodes_of_level : (levels nodes : ℕ) → nodes ≤ levels + 1 → nodes_from z levels nodes ≡ nodes + nodes_above z (levels - 1) nodes
  nodes_of_level zero nodes enough = let one : nat_le nodes 1 ≡ true = grind (arith, nat_tests) in rw one (omega arith)
  nodes_of_level (suc levels) nodes enough = let same : suc levels - 1 ≡ levels = omega arith in rw same refl

  pub counted_first : (pairs nodes pages : ℕ) → pairs < 2 ^ 32 → nodes ≡ nodes_for z pairs → pages ≡ 1 + nodes
      → IsCounted z pairs nodes pages
  counted_first pairs nodes pages few is first = record {
    levels = pairs - 1;
    enough = omega (arith, is, fill_few z size pairs);
    whole = rw (first, is) (omega (arith, nodes_of_level pairs (nodes_for z pairs) (omega (arith, fill_few z size pairs))));
    some = omega (arith, is, fill_nodes z size pairs);
    small = omega (arith, is, first, few, fill_few z size pairs);
  }

  pub counted_next : (pairs nodes pages above : ℕ) → IsCounted z pairs nodes pages → 1 < nodes
      → above ≡ nodes_for z nodes → IsCounted z pairs above (pages + above)
  counted_next pairs nodes pages above so_far more is =
      let levels = so_far.levels in
      let enough : nodes_for z nodes ≤ levels + 1 = omega (arith, so_far.enough, fill_few z size nodes) in
      let several : nat_le nodes 1 ≡ false = grind (arith, nat_tests) in
      let whole : pages + nodes_from z levels (nodes_for z nodes) ≡ needed z pairs = rw several at so_far.whole in
      record {
        levels = levels - 1;
        enough = omega (arith, is, enough);
        whole = rw is (omega (arith, whole, nodes_of_level levels (nodes_for z nodes) enough));
        some = omega (arith, is, fill_nodes z size nodes);
        small = omega (arith, is, so_far.small, fill_few z size nodes);
      }

  pub counted_last : (pairs nodes pages : ℕ) → IsCounted z pairs nodes pages → nodes ≤ 1 → pages ≡ needed z pairs
  counted_last pairs nodes pages so_far one =
      let test : nat_le nodes 1 ≡ true = grind (arith, nat_tests) in
      let whole : pages + 0 ≡ needed z pairs = rw test at so_far.whole in
      omega (arith, whole)

  -- page 0 and a leaf are always needed
  pub needed_two : (pairs : ℕ) → 2 ≤ needed z pairs
  needed_two zero = omega (arith, fill_nodes z size 0)
  needed_two (suc pairs) = omega (arith, fill_nodes z size (suc pairs))
