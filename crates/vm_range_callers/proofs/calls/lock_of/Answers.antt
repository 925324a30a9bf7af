use Rattle.std.proofs.Common.{◌∙◌}
use Rattle.vm_page.specs.declared.buf.TheConstants.{WORDS}
use Rattle.vm_tree_model.specs.Fixed.{fixed}
use Rattle.vm_step.specs.Prelude.{view}
use Rattle.vm_range_callers.proofs.Homes.{look-rests, rests-held}
use Rattle.vm_range_callers.proofs.calls.lock_of.Goals as goal

pub returns-clause-home : goal.returns-clause-home
returns-clause-home c =
    (look-rests (fixed WORDS) c.args.pid c.look_silently.result (view c.args.pass.now) (view c.look_silently.new.pass)
    c.look_silently.ensures.told).out ∙ c.requires.home

pub returns-clause-held : goal.returns-clause-held
returns-clause-held c = rests-held _ (view c.args.pass.now) (view c.look_silently.new.pass) c.requires.held
    (look-rests (fixed WORDS) c.args.pid c.look_silently.result (view c.args.pass.now) (view c.look_silently.new.pass)
    c.look_silently.ensures.told)
