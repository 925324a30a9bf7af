use Rattle.std.proofs.Common.{rules}
use Rattle.vm_evict.specs.declared.candidate.Phase.TheVariants as phases
use Rattle.vm_evict.specs.declared.candidate.Stage.TheVariants as stages
use Rattle.vm_evict.proofs.Moving.{at-stage, begins-waiting, comes-from, empty-leaves, leave-leaves, lock-leaves, raise-leaves, skips}
use Rattle.vm_evict.proofs.Prelude.{MayBeginPhase, Phase, subst, view}
use Rattle.vm_evict.proofs.candidate.advance.Goals as goal

pub returns-in-Save-clause-moved : goal.returns-in-Save-clause-moved
returns-in-Save-clause-moved g c v done h =
    comes-from c.args.phase phases.Save c.args.c c.args.stage stages.Waiting c.save_page.result done v
    (view c.args.pass.now) (view c.save_page.new.pass) c.in-Save.is
    (begins-waiting c.args.stage (subst (λ (k : Phase). MayBeginPhase k c.args.stage) c.in-Save.is c.requires.begins))
    (c.save_page.ensures.moved v done) h

pub returns-in_default-clause-moved : goal.returns-in_default-clause-moved
returns-in_default-clause-moved g c v done h = skips c.args.phase c.args.c c.args.stage done v (view c.args.pass.now)
    c.requires.begins h phases.Lock c.in-Lock.is (lock-leaves c.args.stage c.in_default.not-Clean)

pub returns-in-Shared-clause-moved : goal.returns-in-Shared-clause-moved
returns-in-Shared-clause-moved g c v done h =
    comes-from c.args.phase phases.Raise c.args.c c.args.stage (stages.Shared c.in-Shared.written)
    c.raise_shared.result done v (view c.args.pass.now) (view c.raise_shared.new.pass) c.in-Raise.is
    c.in-Shared.is (c.raise_shared.ensures.moved v done) h

pub returns-in_default-stage-clause-moved : goal.returns-in_default-stage-clause-moved
returns-in_default-stage-clause-moved g c v done h = skips c.args.phase c.args.c c.args.stage done v
    (view c.args.pass.now) c.requires.begins h phases.Raise c.in-Raise.is
    (raise-leaves c.args.stage c.in_default-stage.not-Shared)

pub returns-in-Owned-clause-moved : goal.returns-in-Owned-clause-moved
returns-in-Owned-clause-moved g c v done h =
    comes-from c.args.phase phases.Empty c.args.c c.args.stage (stages.Owned c.in-Owned.written) c.empty_page.result
    done v (view c.args.pass.now) (view c.empty_page.new.pass) c.in-Empty.is c.in-Owned.is
    (c.empty_page.ensures.moved v done) h

pub returns-in_default-stage-2-clause-moved : goal.returns-in_default-stage-2-clause-moved
returns-in_default-stage-2-clause-moved g c v done h = skips c.args.phase c.args.c c.args.stage done v
    (view c.args.pass.now) c.requires.begins h phases.Empty c.in-Empty.is
    (empty-leaves c.args.stage c.in_default-stage-2.not-Owned)

pub returns-in-Emptied-clause-moved : goal.returns-in-Emptied-clause-moved
returns-in-Emptied-clause-moved g c v done h =
    comes-from c.args.phase phases.Leave c.args.c c.args.stage
    (stages.Emptied c.in-Emptied.frame c.in-Emptied.written) c.leave_page.result done v (view c.args.pass.now)
    (view c.leave_page.new.pass) c.in-Leave.is c.in-Emptied.is (c.leave_page.ensures.moved v done) h

pub returns-in_default-stage-3-clause-moved : goal.returns-in_default-stage-3-clause-moved
returns-in_default-stage-3-clause-moved g c v done h = skips c.args.phase c.args.c c.args.stage done v
    (view c.args.pass.now) c.requires.begins h phases.Leave c.in-Leave.is
    (leave-leaves c.args.stage c.in_default-stage-3.not-Emptied)

pub lock_clean-requires-clause-at : goal.lock_clean-requires-clause-at
lock_clean-requires-clause-at g c = at-stage c.args.c c.args.stage _ (view c.args.pass.now) c.in-Clean.is c.requires.at

pub raise_shared-requires-clause-at : goal.raise_shared-requires-clause-at
raise_shared-requires-clause-at g c = at-stage c.args.c c.args.stage _ (view c.args.pass.now) c.in-Shared.is c.requires.at

pub empty_page-requires-clause-at : goal.empty_page-requires-clause-at
empty_page-requires-clause-at g c = at-stage c.args.c c.args.stage _ (view c.args.pass.now) c.in-Owned.is c.requires.at

pub leave_page-requires-clause-at : goal.leave_page-requires-clause-at
leave_page-requires-clause-at g c = at-stage c.args.c c.args.stage _ (view c.args.pass.now) c.in-Emptied.is c.requires.at

pub returns-in-Clean-clause-moved : goal.returns-in-Clean-clause-moved
returns-in-Clean-clause-moved g c v done h =
    comes-from c.args.phase phases.Lock c.args.c c.args.stage stages.Clean c.lock_clean.result done v
    (view c.args.pass.now) (view c.lock_clean.new.pass) c.in-Lock.is c.in-Clean.is
    (c.lock_clean.ensures.moved v done) h

pub save_page-requires : goal.save_page-requires
save_page-requires g c = record {
  ready = search rules;
  sized = c.requires.sized;
  size = c.requires.size;
  candidate = search rules;
  home = search rules;
  at = at-stage c.args.c c.args.stage _ (view c.args.pass.now)
      (begins-waiting c.args.stage
      (subst (λ (k : Phase). MayBeginPhase k c.args.stage) c.in-Save.is c.requires.begins)) c.requires.at;
}
