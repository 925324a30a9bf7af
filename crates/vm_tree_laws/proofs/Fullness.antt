-- Where a put is refused for want of pages, the image has grown by what the calls ask.
use Rattle.std.proofs.Common.{◌≡◌, ℕ, ◌+◌, ◌-◌, ◌*◌, ◌≤◌, List, [], length, ap, arith}
use Rattle.std.proofs.Math.Nat.{mul-add, mul-le-mul_left}
use Rattle.vm_tree_model.specs.Layout.{Layout}
use Rattle.vm_tree_model.specs.Count.{node_count}
use Rattle.vm_owner.specs.Kept.{Start, Kept}
use Rattle.vm_map.specs.declared.call.Said.{Said}
use Rattle.vm_tree_laws.specs.History.{gones, news}
use Rattle.vm_tree_laws.specs.Keeps.{KeepsTree, merge_weight}

-- no page is owed, as where one pass alone is left, and at most one page was never claimed
pub room_used : (L : Layout) (start : Start) (kept : Kept Said) → KeepsTree L start kept → kept.owed ≡ []
    → length start.pages ≤ kept.next + 1
    → L.node_weight * length start.pages ≤ L.excess_weight * (L.room - L.base) * node_count L
    start.pages + L.excess_weight * L.growth * news kept.history + merge_weight L * gones
    kept.history + L.node_weight * (start.next + 1)
room_used L start kept keeps none few =
    let weighed : L.node_weight * length start.pages ≤ L.node_weight * (kept.next + 1) = mul-le-mul_left L.node_weight few in
    let next = mul-add L.node_weight kept.next 1 in
    let left = mul-add L.node_weight start.next (length kept.owed) in
    let right = mul-add L.node_weight start.next 1 in
    let owed : L.node_weight * length kept.owed ≡ L.node_weight * 0 = ap (λ (l : List ℕ). L.node_weight * length l) none in
    omega (arith, weighed, next, left, right, owed, keeps.paid)
