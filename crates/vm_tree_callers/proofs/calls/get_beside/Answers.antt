use Rattle.std.proofs.Common.{◌∙◌}
use Rattle.vm_map.specs.declared.call.Call.TheVariants.{Get}
use Rattle.vm_map.specs.declared.call.Said.{Said}
use Rattle.vm_page.specs.declared.buf.TheConstants.{WORDS}
use Rattle.vm_tree_model.specs.Fixed.{fixed}
use Rattle.vm_step.specs.Prelude.{view}
use Rattle.vm_tree_callers.proofs.calls.get_beside.Goals as goal
use Rattle.vm_tree_callers.proofs.Homes.{read-rests, tried-beside}

pub returns-clause-home : goal.returns-clause-home
returns-clause-home c =
    (read-rests (λ (s : Said). s) (fixed WORDS) (Get c.args.key) c.args.key c.try_get.result (view c.args.pass.now)
    (view c.try_get.new.pass) c.try_get.ensures.tried).out ∙ c.requires.home

pub returns-clause-held : goal.returns-clause-held
returns-clause-held c =
    (tried-beside (λ (s : Said). s) (fixed WORDS) (Get c.args.key) c.args.key c.try_get.result c.args.guard.now.pid
    c.args.guard.now.frame c.args.guard.now.version c.args.guard.now.dirty (view c.args.pass.now)
    (view c.try_get.new.pass) c.try_get.ensures.tried (record {
      held = c.requires.held;
      same = c.requires.same;
      unpaid = c.requires.unpaid;
    })).held

pub returns-clause-same : goal.returns-clause-same
returns-clause-same c =
    (tried-beside (λ (s : Said). s) (fixed WORDS) (Get c.args.key) c.args.key c.try_get.result c.args.guard.now.pid
    c.args.guard.now.frame c.args.guard.now.version c.args.guard.now.dirty (view c.args.pass.now)
    (view c.try_get.new.pass) c.try_get.ensures.tried (record {
      held = c.requires.held;
      same = c.requires.same;
      unpaid = c.requires.unpaid;
    })).same

pub returns-clause-unpaid : goal.returns-clause-unpaid
returns-clause-unpaid c =
    (tried-beside (λ (s : Said). s) (fixed WORDS) (Get c.args.key) c.args.key c.try_get.result c.args.guard.now.pid
    c.args.guard.now.frame c.args.guard.now.version c.args.guard.now.dirty (view c.args.pass.now)
    (view c.try_get.new.pass) c.try_get.ensures.tried (record {
      held = c.requires.held;
      same = c.requires.same;
      unpaid = c.requires.unpaid;
    })).unpaid
