use Rattle.std.proofs.Common.{◌≡◌, suc, ◌-◌, ◌<◌, length, get_or, ap, ◌∙◌, arith}
use Rattle.vm_tree_model.specs.Page.{pairs_of}
use Rattle.vm_check.specs.Places.{place, rank_or}
use Rattle.vm_check.specs.declared.slot.NodeSlot.{NodeSlot}
use Rattle.vm_check.proofs.Pushes.{push_step, names_at}
use Rattle.vm_check.proofs.walk.push_children.Goals as goal

pub overflow_cast-value_at : goal.overflow_cast-value_at
overflow_cast-value_at g c =
    let pairs = pairs_of g.F.Nodes.layout c.args.page.now in
    let lt : c.loop-i.i - 1 < length pairs = omega (arith, c.count-i.ensures) in
    omega (arith, names_at pairs c.args.pages (c.loop-i.i - 1) c.requires.names lt, c.value_at.ensures, c.ranges.pages.fits)

pub loop-i-preserved : goal.loop-i-preserved
loop-i-preserved g c =
    let pairs = pairs_of g.F.Nodes.layout c.args.page.now in
    let end = g.F.Nodes.layout.key_end in
    let lt : c.loop-i.i - 1 < length pairs = omega (arith, c.count-i.ensures) in
    let next : c.loop-i.i ≡ suc (c.loop-i.i - 1) = omega arith in
    let child : NodeSlot _ = record { page = c.value_at.result; level = c.args.level; low = c.key_at-low.result; high = c.replace-high.result } in
    let is : place g.F.Nodes.rank end child ≡ record {
      page = (get_or pairs (c.loop-i.i - 1) (0, 0)).1;
      level = c.args.level;
      low = (get_or pairs (c.loop-i.i - 1) (0, 0)).0;
      high = rank_or g.F.Nodes.rank end c.loop-i.above;
    } = λ k. record {
      page = c.value_at.ensures k;
      level = c.args.level;
      low = c.key_at-low.ensures k;
      high = rank_or g.F.Nodes.rank end (c.replace-high.ensures.value k);
    } in
    let top : rank_or g.F.Nodes.rank end c.replace-high.new.dest ≡ (get_or pairs (c.loop-i.i - 1) (0, 0)).0 =
    ap (rank_or g.F.Nodes.rank end) c.replace-high.ensures.after ∙ c.copied.ensures ∙ c.key_at-low.ensures in
    let step = push_step (place g.F.Nodes.rank end) pairs c.args.level c.loop-i.i (c.loop-i.i - 1)
    (rank_or g.F.Nodes.rank end c.loop-i.above) child c.loop-i.slots.items lt next is in
    rw (c.in_ok-push.ensures.items, top) (step ∙ c.loop-i.invariant)
