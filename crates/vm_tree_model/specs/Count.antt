-- How many nodes the pages have, and what their sizes exceed the base.
use Rattle.std.specs.Prelude.{ℕ, ◌-◌, List, sum_by, Bool, ◌==◌, ◌||◌, if◌then◌else◌}
use Rattle.vm_tree_model.specs.Layout.{Layout, size}

-- a leaf's or an inner node's tag
abbrev pub is_node : Layout → List ℕ → Bool
is_node L words = (L.node_of words).tag == 2 || (L.node_of words).tag == 3

-- how many pages are leaves or inner nodes
abbrev pub node_count : Layout → List (List ℕ) → ℕ
node_count L pages = sum_by (λ w. if is_node L w then 1 else 0) pages

-- what the size of each node exceeds the base, together
abbrev pub excess : Layout → List (List ℕ) → ℕ
excess L pages = sum_by (λ w. if is_node L w then size L (L.node_of w) - L.base else 0) pages
