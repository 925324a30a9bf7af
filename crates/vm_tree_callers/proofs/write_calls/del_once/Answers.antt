use Rattle.std.proofs.Common.{◌∙◌}
use Rattle.vm_map.specs.declared.call.Said.{Said}
use Rattle.vm_page.specs.declared.buf.TheConstants.{WORDS}
use Rattle.vm_tree_model.specs.Fixed.{fixed}
use Rattle.vm_step.specs.Prelude.{view}
use Rattle.vm_tree_callers.proofs.{Homes.rests-held, WriteHomes.del-rests}
use Rattle.vm_tree_callers.proofs.write_calls.del_once.Goals as goal

pub returns-clause-home : goal.returns-clause-home
returns-clause-home c =
    (del-rests (λ (s : Said). s) (fixed WORDS) c.args.key c.try_del.result (view c.args.pass.now)
    (view c.try_del.new.pass) c.try_del.ensures.tried).out ∙ c.requires.home

pub returns-clause-held : goal.returns-clause-held
returns-clause-held c = rests-held _ (view c.args.pass.now) (view c.try_del.new.pass) c.requires.held
    (del-rests (λ (s : Said). s) (fixed WORDS) c.args.key c.try_del.result (view c.args.pass.now)
    (view c.try_del.new.pass) c.try_del.ensures.tried)
