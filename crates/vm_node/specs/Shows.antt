-- What a window shows of a page, and which of its pairs lie in a range.
use Rattle.std.specs.Prelude.{◌≡◌, ℕ, ◌++◌, ◌<◌, ◌≤◌, List, length, min}
use Rattle.vm_map.specs.History.{bound_of, between}
use Rattle.vm_map.specs.Map.{Pairs, Rises}
use Rattle.vm_map.specs.Windows.{IsWindow}
use Rattle.vm_map.specs.declared.window.TheConstants.{MOST_PAIRS}
use Rattle.vm_map.specs.declared.window.{Bound.Bound, Window.Window}
use Rattle.vm_tree_model.specs.Layout.{Layout}
use Rattle.vm_tree_model.specs.Page.{pairs_of, node_of}

-- where the keys rise, the first pairs from the start on; `most` above 28 is read as 28
abbrev pub ShowsFirst : Layout → List ℕ → ℕ → ℕ → Window → Type 0
ShowsFirst L words start most window = (low high : ℕ) → Rises low high (pairs_of L words)
    → IsWindow (pairs_of L words) (node_of L words).high start (min most MOST_PAIRS) window

-- all pairs of the leaf from the start up to a bound, which lies above the start and not above the high fence
pub record IsLeafWindow (L : Layout) (words : List ℕ) (start most : ℕ) (window : Window) : Type 0 where
  pub past : start < bound_of window.bound
  pub within : bound_of window.bound ≤ (node_of L words).high
  pub shows : window.pairs ≡ between (pairs_of L words) start (bound_of window.bound)
  pub few : length window.pairs ≤ most

-- the page's pairs from a key on and below both a bound and its high fence were appended, and that fence is the answer
pub record AppendsRange (L : Layout) (words : List ℕ) (from : ℕ) (bound : Bound) (old new : Pairs) (high : Bound) : Type 0 where
  pub fence : bound_of high ≡ (node_of L words).high
  pub pairs : new ≡ old ++ between (pairs_of L words) from (min (node_of L words).high (bound_of bound))
