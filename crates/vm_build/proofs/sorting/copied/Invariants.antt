use Rattle.std.proofs.Common.{◌≡◌, ◌<◌, All, take}
use Rattle.vm_map.specs.Keys.{KEY_END}
use Rattle.vm_build.proofs.sorting.copied.Given as goal

abbrev pub invariant-loop-pair : goal.invariant-loop-pair
invariant-loop-pair l = (l.copied.items ≡ take l.pair-index l.pairs) × All (λ e. e.0 < KEY_END) l.copied.items
