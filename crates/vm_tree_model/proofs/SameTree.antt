-- Nodes that differ only where neither is a node are a tree together or not at all.
use Rattle.std.proofs.Common.{◌≡◌, ℕ, arith}
use Rattle.vm_tree_model.specs.Node.{Node, IsNode, Names, IsTreeOf}

module _ {end : ℕ} (old new : ℕ → Node) (root height : ℕ) (tree : IsTreeOf end old root height)
    (to : (x : ℕ) → IsNode (old x) → new x ≡ old x) (from : (x : ℕ) → IsNode (new x) → new x ≡ old x) where
  of_leaf : (x : ℕ) → (new x).tag ≡ 2 → new x ≡ old x
  of_leaf x tag = from x (omega (arith, tag), omega (arith, tag))

  of_inner : (x : ℕ) → (new x).tag ≡ 3 → new x ≡ old x
  of_inner x tag = from x (omega (arith, tag), omega (arith, tag))

  names_back : (q k c : ℕ) → Names new q k c → Names old q k c
  names_back q k c n = rw (of_inner q n.0) at n

  names_to : (q k c : ℕ) → Names old q k c → Names new q k c
  names_to q k c n = rw (to q (omega (arith, n.0), omega (arith, n.0))) n

  of_child : (q k c : ℕ) → Names new q k c → new c ≡ old c
  of_child q k c n = to c (tree.child_is q k c (names_back q k c n))

  of_root : new root ≡ old root
  of_root = to root tree.root_is

  pub same_tree : IsTreeOf end new root height
  same_tree = record {
    leaf = λ x tag. let e = of_leaf x tag in rw e (tree.leaf x (rw e at tag));
    inner = λ x tag. let e = of_inner x tag in rw e (tree.inner x (rw e at tag));
    root_is = rw of_root tree.root_is;
    root_level = rw of_root tree.root_level;
    root_low = rw of_root tree.root_low;
    root_high = rw of_root tree.root_high;
    child_is = λ q k c n. rw (of_child q k c n) (tree.child_is q k c (names_back q k c n));
    child_level = λ q k c n. rw (of_child q k c n) (rw (of_inner q n.0) (tree.child_level q k c (names_back q k c n)));
    child_low = λ q k c n. rw (of_child q k c n) (tree.child_low q k c (names_back q k c n));
    child_high = λ q k c n. rw (of_child q k c n) (rw (of_inner q n.0) (tree.child_high q k c (names_back q k c n)));
    once = λ q q' k k' c n n'. tree.once q q' k k' c (names_back q k c n) (names_back q' k' c n');
    unnamed = λ q k n. tree.unnamed q k (names_back q k root n);
    named = λ c is other. let (q, k, n) = tree.named c (rw (from c is) at is) other in (q, k, names_to q k c n);
  }
