use Rattle.std.proofs.Common.{◌∙◌, rules}
use Rattle.vm_map.specs.declared.call.Call.TheVariants.{Range}
use Rattle.vm_map.specs.declared.call.Said.{Said}
use Rattle.vm_tree_model.specs.Fixed.{fixed}
use Rattle.vm_step.specs.Prelude.{view}
use Rattle.vm_range_callers.proofs.calls.ranged.Goals as goal
use Rattle.vm_range_callers.proofs.Homes.{has-room, ranged-home}

pub range-requires : goal.range-requires
range-requires g c =
    let fits = has-room g.row.N _ g.S.OfSize.is_size c.requires.room in
    search (rules, fits)

pub returns-clause-home : goal.returns-clause-home
returns-clause-home g c = ranged-home (λ (s : Said). s) (fixed g.row.N) (Range c.args.low c.args.bound) c.args.low
    c.args.bound c.range.result (view c.args.pass.now) (view c.range.new.pass) c.range.ensures.ok c.range.ensures.err
    ∙ c.requires.home
