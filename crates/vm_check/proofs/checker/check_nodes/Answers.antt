use Rattle.std.proofs.Common.{◌≡◌, ℕ, List, map, drop, get_or, Ok, sym, ap, ◌∙◌}
use Rattle.vm_tree_model.specs.Reason.{walked, first_lost, lost_or}
use Rattle.vm_check.specs.Places.{place}
use Rattle.vm_check.specs.Progress.{outcome_at, reached}
use Rattle.vm_check.specs.declared.fault.CheckFault.TheVariants.{BadPage}
use Rattle.vm_check.proofs.Answered.{refused, refused_at, meta_refused, taken, ended, lost_refused}
use Rattle.vm_tree_model.proofs.Complete.{lost_or-None}
use Rattle.vm_tree_model.proofs.Laws.{Rises-map_of}
use Rattle.vm_tree_model.proofs.Theorem.{tree_from_walk}
use Rattle.vm_check.proofs.checker.check_nodes.Goals as goal

pub returns-in-Some : goal.returns-in-Some
returns-in-Some g c = let L = g.F.Nodes.layout in refused L (g.F.Nodes.is_layout c.requires) c.args.image.now (BadPage 0 c.in-Some.why)
    (meta_refused L c.args.image.now c.in-Some.why (sym c.meta_fault.ensures ∙ c.in-Some.is))

pub returns-in-Err-visit : goal.returns-in-Err-visit
returns-in-Err-visit g c =
    let L = g.F.Nodes.layout in
    let took = taken L c.args.image.now g.F.Nodes.rank L.key_end g.F.Nodes.pair c.in-Some-next.slot c.loop-slot.walk c.next.new.self
    c.in-Some-next.ensures.slots c.in-Some-next.ensures.visited c.in-Some-next.ensures.rows in
    refused_at L (g.F.Nodes.is_layout c.requires) c.args.image.now c.in-Err-visit.fault
    (outcome_at L c.args.image.now (place g.F.Nodes.rank L.key_end c.in-Some-next.slot) (reached g.F.Nodes.rank L.key_end g.F.Nodes.pair c.next.new.self))
    (sym took ∙ c.loop-slot.invariant.same) c.in-Err-visit.ensures

pub returns-in-Ok-used_pages : goal.returns-in-Ok-used_pages
returns-in-Ok-used_pages g c =
    let L = g.F.Nodes.layout in
    let rows = map g.F.Nodes.pair c.next.new.self.rows.items in
    let same : lost_or (first_lost L (drop 1 c.args.image.now) c.as_slice.result.now 1) (Ok rows) ≡ walked L c.args.image.now =
    rw (c.as_slice.ensures.value, c.next.ensures.visited, c.next.ensures.rows)
    (sym (ended L c.args.image.now g.F.Nodes.rank L.key_end g.F.Nodes.pair c.loop-slot.walk c.in_default.ensures.slots)
    ∙ c.loop-slot.invariant.same) in
    let (used, none) = c.in-Ok-used_pages.ensures in
    let (tree, pairs) = tree_from_walk L (g.F.Nodes.is_layout c.requires) c.args.image.now rows (sym same ∙ lost_or-None _ (Ok rows) none) in
    record {
      tree = tree;
      pairs = pairs;
      rise = rw pairs (Rises-map_of L (g.F.Nodes.is_layout c.requires) c.args.image.now tree);
      height = c.get.ensures.word ∙ ap (λ (w : List ℕ). get_or w 2 0) c.page.ensures.page;
      used = used;
    }

pub returns-in-Err-used_pages : goal.returns-in-Err-used_pages
returns-in-Err-used_pages g c =
    let L = g.F.Nodes.layout in
    let rows = map g.F.Nodes.pair c.next.new.self.rows.items in
    let same : lost_or (first_lost L (drop 1 c.args.image.now) c.as_slice.result.now 1) (Ok rows) ≡ walked L c.args.image.now =
    rw (c.as_slice.ensures.value, c.next.ensures.visited, c.next.ensures.rows)
    (sym (ended L c.args.image.now g.F.Nodes.rank L.key_end g.F.Nodes.pair c.loop-slot.walk c.in_default.ensures.slots)
    ∙ c.loop-slot.invariant.same) in
    lost_refused L (g.F.Nodes.is_layout c.requires) c.args.image.now c.in-Err-used_pages.fault
    (first_lost L (drop 1 c.args.image.now) c.as_slice.result.now 1) (Ok rows) same c.in-Err-used_pages.ensures
