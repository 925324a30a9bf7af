use Rattle.std.proofs.Common.{◌∙◌}
use Rattle.vm_map.specs.declared.call.Call.TheVariants.{Get}
use Rattle.vm_map.specs.declared.call.Said.{Said}
use Rattle.vm_page.specs.declared.buf.TheConstants.{WORDS}
use Rattle.vm_tree_model.specs.Fixed.{fixed}
use Rattle.vm_step.specs.Prelude.{view}
use Rattle.vm_tree_callers.proofs.calls.get_once.Goals as goal
use Rattle.vm_tree_callers.proofs.Homes.{read-rests, rests-held}

pub returns-clause-home : goal.returns-clause-home
returns-clause-home c =
    (read-rests (λ (s : Said). s) (fixed WORDS) (Get c.args.key) c.args.key c.try_get.result (view c.args.pass.now)
    (view c.try_get.new.pass) c.try_get.ensures.tried).out ∙ c.requires.home

pub returns-clause-held : goal.returns-clause-held
returns-clause-held c = rests-held _ (view c.args.pass.now) (view c.try_get.new.pass) c.requires.held
    (read-rests (λ (s : Said). s) (fixed WORDS) (Get c.args.key) c.args.key c.try_get.result (view c.args.pass.now)
    (view c.try_get.new.pass) c.try_get.ensures.tried)
