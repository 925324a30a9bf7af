use Rattle.vm_evict.proofs.Locking.{may-give, may-raise, raise-lost, raised-so}
use Rattle.vm_evict.proofs.Prelude.{ap, arith, version-within, view, word_of, ◌∙◌}
use Rattle.vm_supply.proofs.from_vm_step.Going.{goes-then}
use Rattle.vm_evict.proofs.candidate.raise_shared.Goals as goal

pub upgrade-requires-clause-legal : goal.upgrade-requires-clause-legal
upgrade-requires-clause-legal g c = may-raise g.U.Owner.tied c.args.p c.args.word c.args.written c.requires.at.1
    c.requires.at.0 (view c.args.pass.now) c.requires.at.2.0 c.of-shared.result
    (c.of-shared.ensures ∙ ap (word_of 1) c.version.ensures) c.requires.candidate.below

pub returns-in-Taken-clause-moved : goal.returns-in-Taken-clause-moved
returns-in-Taken-clause-moved g c v done h = raised-so g.U.Owner.tied c.args.p c.args.word c.args.written done v
    (view c.args.pass.now) h.0 c.requires.candidate.marked h.1.0 h.1.1 c.of-shared.result
    (c.of-shared.ensures ∙ ap (word_of 1) c.version.ensures) (view c.upgrade.new.pass) c.in-Taken.ensures.told

pub unlock_shared-requires-clause-legal : goal.unlock_shared-requires-clause-legal
unlock_shared-requires-clause-legal g c = may-give g.U.Owner.tied c.args.p c.args.word c.args.written c.requires.at.1
    c.requires.at.0 (view c.args.pass.now) c.requires.at.2.0 c.of-shared.result c.in-Lost.field-0
    (c.of-shared.ensures ∙ ap (word_of 1) c.version.ensures) (c.upgrade.ensures.lost c.in-Lost.field-0 c.in-Lost.is)
    (view c.upgrade.new.pass) c.in-Lost.ensures.told c.requires.home

pub returns-in-Lost-clause-moved : goal.returns-in-Lost-clause-moved
returns-in-Lost-clause-moved g c v done h = raise-lost g.U.Owner.tied c.args.p c.args.word c.args.written done v
    (view c.args.pass.now) h.0 c.of-shared.result c.in-Lost.field-0
    (c.of-shared.ensures ∙ ap (word_of 1) c.version.ensures) (c.upgrade.ensures.lost c.in-Lost.field-0 c.in-Lost.is)
    (view c.upgrade.new.pass) c.in-Lost.ensures.told c.unlock_shared.result (view c.unlock_shared.new.pass)
    c.unlock_shared.ensures.told

pub returns-in-Lost-clause-goes : goal.returns-in-Lost-clause-goes
returns-in-Lost-clause-goes g c = goes-then c.upgrade.ensures.goes c.unlock_shared.ensures.goes

pub of-shared-requires : goal.of-shared-requires
of-shared-requires g c = omega (arith, c.version.ensures, version-within c.args.word)
