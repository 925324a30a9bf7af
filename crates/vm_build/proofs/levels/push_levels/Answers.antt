use Rattle.std.proofs.Common.{rules, ◌≡◌, ◌<◌, ◌≤◌, ◌++◌, length, OnOk, ◌∙◌}
use Rattle.std.proofs.lemmas.Result.{on_ok_weaker}
use Rattle.vm_build.specs.Levels.{fill_of, nodes_for, level_pages, entries_above}
use Rattle.vm_build.proofs.Stack.{above_fewer, pushed_next, pushed_last}
use Rattle.vm_build.proofs.levels.push_levels.Goals as goal

pub levels-smaller : goal.levels-smaller
levels-smaller g c =
    let several : fill_of g.row.N < length c.levels.entries.items = search rules in
    let over : c.in_ok-above.above.items ≡ entries_above g.row.N (length c.levels.pages.items) c.levels.entries.items
    (nodes_for g.row.N (length c.levels.entries.items)) = search rules in
    above_fewer g.row.N c.requires.sized (length c.levels.pages.items) c.levels.entries.items c.in_ok-above.above.items several over

pub levels-preserved : goal.levels-preserved
levels-preserved g c =
    let several : fill_of g.row.N < length c.levels.entries.items = search rules in
    let over : c.in_ok-above.above.items ≡ entries_above g.row.N (length c.levels.pages.items) c.levels.entries.items
    (nodes_for g.row.N (length c.levels.entries.items)) = search rules in
    let more : c.push_level.new.pages.items ≡ c.levels.pages.items ++ level_pages g.row.N c.levels.level
    c.levels.entries.items (nodes_for g.row.N (length c.levels.entries.items)) = search rules in
    pushed_next g.row.N c.requires.sized c.args.pairs.items c.args.pages.now.items c.levels.pages.items c.levels.level
    c.levels.entries.items c.levels.invariant c.push_level.new.pages.items c.in_ok-above.above.items several more
    over

pub returns : goal.returns
returns g c =
    let few : length c.levels.entries.items ≤ fill_of g.row.N = search rules in
    let pushed = pushed_last g.row.N c.requires.sized c.args.pairs.items c.args.pages.now.items c.levels.pages.items
    c.levels.level c.levels.entries.items c.levels.invariant few in
    let last : OnOk c.push_level-2.result
    (c.push_level-2.new.pages.items ≡ c.levels.pages.items ++ level_pages g.row.N c.levels.level
    c.levels.entries.items (nodes_for g.row.N (length c.levels.entries.items))) =
    rw c.deref-2.ensures.value at c.push_level-2.ensures in
    on_ok_weaker c.push_level-2.result (λ more. more ∙ pushed) last
