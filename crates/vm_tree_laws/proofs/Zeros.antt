-- Pages whose words are all 0, and others.
use Rattle.std.proofs.Common.{◌≡◌, ℕ, List, slice_index, Bool, true, false, refl, arith}
use Rattle.vm_page.specs.Pages.{all_zero}
use Rattle.vm_tree_model.specs.Layout.{Layout, IsLayout}
use Rattle.vm_tree_model.specs.Node.{IsNode}
use Rattle.vm_tree_model.specs.Page.{node_of, IsFree}
use Rattle.vm_tree_model.proofs.WordTests.{all_zero-from, all_zero-tells}

pub other_words : (w : List ℕ) → (((i : ℕ) → slice_index w i ≡ 0) → ⊥) → all_zero w ≡ false
other_words w other = go (all_zero w) refl
  where
    go : (b : Bool) → all_zero w ≡ b → b ≡ false
    go true zero = absurd (other (all_zero-tells w zero))
    go false some = refl

pub free_words : (L : Layout) (w : List ℕ) → IsFree L w → all_zero w ≡ true
free_words L w free = all_zero-from w free.zero

pub node_words : (L : Layout) (laws : IsLayout L) (w : List ℕ) → IsNode (node_of L w) → all_zero w ≡ false
node_words L laws w is = other_words w (λ zero. omega (arith, laws.free_tag w zero, is))
