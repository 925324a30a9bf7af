-- One step of a look through the words of a page.
use Rattle.std.proofs.Common.{◌≡◌, ℕ, ◌+◌, ◌<◌, List, length, get_or, drop, ◌&&◌, eqb}
use Rattle.std.proofs.lemmas.List.{at_drop_more}
use Rattle.vm_tree_model.specs.Walk.{all_zero}

pub zero_step : (ws : List ℕ) (i w : ℕ) → i < length ws → w ≡ get_or ws i 0 → all_zero (drop i ws) ≡ (eqb w 0 && all_zero (drop (i + 1) ws))
zero_step ws i w lt is = let more : all_zero (drop i ws) ≡ (eqb (get_or ws i 0) 0 && all_zero (drop (i + 1) ws)) =
    at_drop_more all_zero ws i 0 lt in rw is more

pub zero_first : (ws : List ℕ) (w : ℕ) → 0 < length ws → w ≡ get_or ws 0 0 → all_zero ws ≡ (eqb w 0 && all_zero (drop 1 ws))
zero_first ws w long is = zero_step ws 0 w long is
