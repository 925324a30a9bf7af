use Rattle.std.proofs.Common.{◌∙◌, arith}
use Rattle.vm_map.specs.declared.call.Said.{Said}
use Rattle.vm_page.specs.declared.buf.TheConstants.{WORDS}
use Rattle.vm_tree_model.specs.Fixed.{fixed}
use Rattle.vm_step.specs.Prelude.{view}
use Rattle.vm_range_callers.proofs.Homes.{rests-held}
use Rattle.vm_range_callers.proofs.calls.range_once.Goals as goal
use Rattle.vm_range_callers.proofs.Homes.{range-rests}

pub returns-clause-home : goal.returns-clause-home
returns-clause-home c =
    (range-rests (λ (s : Said). s) (fixed WORDS) c.args.low c.args.bound c.try_range.result c.try_range.new.out
    (view c.args.pass.now) (view c.try_range.new.pass) c.try_range.ensures.tried).out ∙ c.requires.home

pub returns-clause-held : goal.returns-clause-held
returns-clause-held c = rests-held _ (view c.args.pass.now) (view c.try_range.new.pass) c.requires.held
    (range-rests (λ (s : Said). s) (fixed WORDS) c.args.low c.args.bound c.try_range.result c.try_range.new.out
    (view c.args.pass.now) (view c.try_range.new.pass) c.try_range.ensures.tried)

pub returns-clause-room : goal.returns-clause-room
returns-clause-room c = omega (arith, c.try_range.ensures.kept, c.requires.room)
