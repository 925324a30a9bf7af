use Rattle.std.proofs.Common.{ℕ, ◌-◌, ◌<◌, List, ◌++◌, length, map, reverse, refl, sym, ap, ◌∙◌}
use Rattle.std.proofs.lemmas.List.{append-nil}
use Rattle.vm_tree_model.specs.Page.{pairs_of}
use Rattle.vm_tree_model.specs.Tree.{page_at}
use Rattle.vm_tree_model.specs.Walk.{children}
use Rattle.vm_check.specs.Places.{place, rank_or}
use Rattle.vm_check.proofs.Visits.{fault_stops, fault_read, next_visit, leaf_passes, inner_passes, inside_children}
use Rattle.vm_check.proofs.walk.visit.Goals as goal
use Rattle.vm_check.proofs.walk.visit.Goals.{in-Ok, in-Err}

pub returns-in-Some : goal.returns-in-Some
returns-in-Some g c =
    let L = g.F.Nodes.layout in
    let at = place g.F.Nodes.rank L.key_end in
    let inside : c.args.slot.page < length c.args.walk.now.visited.items = rw c.requires.going.flags c.requires.inside in
    let found = fault_read L c.args.image.now c.args.walk.now.visited.items (at c.args.slot) c.fault_of.result c.pages.result c.args.slot.page
    c.index-was_visited.result.now c.page-page.result.now inside c.pages.ensures.pages refl c.index-was_visited.ensures c.page-page.ensures.page
    c.fault_of.ensures in
    fault_stops L c.args.image.now (at c.args.slot) (map at (reverse c.args.walk.now.slots.items)) c.args.walk.now.visited.items
    (map g.F.Nodes.pair c.args.walk.now.rows.items) c.in-Some.why inside (found ∙ c.in-Some.is)

-- a leaf
pub returns-then-slot-eq0 : goal.returns-then-slot-eq0
returns-then-slot-eq0 g c =
    let L = g.F.Nodes.layout in
    let at = place g.F.Nodes.rank L.key_end in
    let inside : c.args.slot.page < length c.args.walk.now.visited.items = rw c.requires.going.flags c.requires.inside in
    let found = fault_read L c.args.image.now c.args.walk.now.visited.items (at c.args.slot) c.fault_of.result c.pages.result c.args.slot.page
    c.index-was_visited.result.now c.page-page.result.now inside c.pages.ensures.pages refl c.index-was_visited.ensures c.page-page.ensures.page
    c.fault_of.ensures in
    let none = found ∙ c.in-None.is in
    let (below, part) = leaf_passes L _ _ (at c.args.slot) (page_at c.args.image.now c.args.slot.page) none c.if-slot-eq0.true in
    elim c.match-push_rows.branch [
      | in-Ok w ↦ rw w.result-is (next_visit L c.args.image.now (at c.args.slot) _ _ c.requires.going c.requires.inside none refl (rw below refl)
          (rw part (w.in-Ok.ensures ∙ ap (λ (words : List ℕ). map g.F.Nodes.pair c.args.walk.now.rows.items ++ pairs_of L words) c.page-page.ensures.page))
          (rw below c.requires.going.inside))
      | in-Err w ↦ rw w.result-is tt
    ]

-- an inner node
pub returns-in-Ok-push_children : goal.returns-in-Ok-push_children
returns-in-Ok-push_children g c =
    let L = g.F.Nodes.layout in
    let at = place g.F.Nodes.rank L.key_end in
    let inside : c.args.slot.page < length c.args.walk.now.visited.items = rw c.requires.going.flags c.requires.inside in
    let found = fault_read L c.args.image.now c.args.walk.now.visited.items (at c.args.slot) c.fault_of.result c.pages.result c.args.slot.page
    c.index-was_visited.result.now c.page-page.result.now inside c.pages.ensures.pages refl c.index-was_visited.ensures c.page-page.ensures.page
    c.fault_of.ensures in
    let none = found ∙ c.in-None.is in
    let (below, part, names) = inner_passes L _ _ (at c.args.slot) (page_at c.args.image.now c.args.slot.page) none c.if-slot-eq0.false in
    next_visit L c.args.image.now (at c.args.slot) _ _ c.requires.going c.requires.inside none refl
    (rw below (c.in-Ok-push_children.ensures ∙ ap (λ (words : List ℕ). children (c.args.slot.level - 1) (pairs_of L words)
    (rank_or g.F.Nodes.rank L.key_end c.args.slot.high) ++ map at (reverse c.args.walk.now.slots.items)) c.page-page.ensures.page))
    (rw part (sym (append-nil (map g.F.Nodes.pair c.args.walk.now.rows.items))))
    (rw below (inside_children (pairs_of L (page_at c.args.image.now c.args.slot.page)) (length c.args.image.now) _ _
    (map at (reverse c.args.walk.now.slots.items)) names c.requires.going.inside))
