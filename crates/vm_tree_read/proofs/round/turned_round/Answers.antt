use Rattle.std.proofs.Common.{refl, subst}
use Rattle.vm_tree_rule.specs.from_vm_step.Prelude.{view}
use Rattle.vm_tree_rule.specs.Turns.{IsTurnedBack}
use Rattle.vm_tree_read.proofs.Lasting.{reads-wait, waits-then}
use Rattle.vm_tree_read.proofs.Losing.{loses-same}
use Rattle.vm_tree_read.proofs.Rounds.{told-as}
use Rattle.vm_tree_read.specs.Waiting.{IsReadFault as fault, IsRound as round}
use Rattle.vm_tree_read.proofs.round.turned_round.Goals as goal

-- ---- others came before

pub returns-in-Again-clause-lost : goal.returns-in-Again-clause-lost
returns-in-Again-clause-lost g c = loses-same _ _ (view c.args.pass.now) (view c.args.pass.now) refl (λ f e. e)

pub returns-in-Again-clause-told : goal.returns-in-Again-clause-told
returns-in-Again-clause-told g c v key turned =
    let back = subst (λ t. IsTurnedBack g.K.Kind.layout v key t (view c.args.pass.now)) c.in-Again.is turned in
    (reads-wait _ _ back.0, round.again _ back.0 back.1)

-- ---- a page is damaged

pub returns-in-Damaged-clause-lost : goal.returns-in-Damaged-clause-lost
returns-in-Damaged-clause-lost g c = loses-same _ _ (view c.args.pass.now) (view c.args.pass.now) refl (λ f e. e)

pub returns-in-Damaged-clause-told : goal.returns-in-Damaged-clause-told
returns-in-Damaged-clause-told g c v key turned =
    let back = subst (λ t. IsTurnedBack g.K.Kind.layout v key t (view c.args.pass.now)) c.in-Damaged.is turned in
    (reads-wait _ _ back.0, fault.damaged _ back.0 back.1 refl)

-- ---- a page is needed

pub returns-in-Need-clause-told : goal.returns-in-Need-clause-told
returns-in-Need-clause-told g c v key turned =
    let needed = subst (λ t. IsTurnedBack g.K.Kind.layout v key t (view c.args.pass.now)) c.in-Need.is turned in
    let waits = waits-then _ _ _ (reads-wait _ _ needed.0) c.fetch.ensures.waits in
    told-as _ _ _ _ _ _ c.fetch.result c.fetch.ensures.told (λ t none. none) (λ k. (waits, round.needed _ _ needed.0 needed.1 k))
    (λ _ k. (waits, fault.unbrought _ _ needed.0 needed.1 k))

pub returns-in-Again-clause-goes : goal.returns-in-Again-clause-goes
returns-in-Again-clause-goes g c = record { same = (refl, refl); ready = c.requires.ready }

pub returns-in-Again-clause-held : goal.returns-in-Again-clause-held
returns-in-Again-clause-held g c = c.requires.frames

pub returns-in-Again-clause-iface : goal.returns-in-Again-clause-iface
returns-in-Again-clause-iface g c = (refl, refl)

pub returns-in-Damaged-clause-goes : goal.returns-in-Damaged-clause-goes
returns-in-Damaged-clause-goes g c = record { same = (refl, refl); ready = c.requires.ready }

pub returns-in-Damaged-clause-held : goal.returns-in-Damaged-clause-held
returns-in-Damaged-clause-held g c = c.requires.frames

pub returns-in-Damaged-clause-iface : goal.returns-in-Damaged-clause-iface
returns-in-Damaged-clause-iface g c = (refl, refl)

pub returns-in-Need-clause-goes : goal.returns-in-Need-clause-goes
returns-in-Need-clause-goes g c = c.fetch.ensures.goes

pub returns-in-Need-clause-held : goal.returns-in-Need-clause-held
returns-in-Need-clause-held g c = c.fetch.ensures.held

pub returns-in-Need-clause-iface : goal.returns-in-Need-clause-iface
returns-in-Need-clause-iface g c = c.fetch.ensures.iface

pub returns-in-Need-clause-lost : goal.returns-in-Need-clause-lost
returns-in-Need-clause-lost g c = c.fetch.ensures.lost
