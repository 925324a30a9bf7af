use Rattle.std.proofs.Common.{refl}
use Rattle.vm_tree_rule.proofs.from_vm_step.Going.{goes-then}
use Rattle.vm_tree_read.proofs.Losing.{loses-then}
use Rattle.vm_tree_rule.specs.from_vm_step.Prelude.{view}
use Rattle.vm_pool.proofs.from_vm_exmap.Handing.{held-on}
use Rattle.vm_tree_read.proofs.{Lasting.turned-reads, Losing.loses-same}
use Rattle.vm_tree_read.proofs.Rounds.{told-as}
use Rattle.vm_tree_read.proofs.round.get_round.Goals as goal

pub returns-in-Ok-clause-held : goal.returns-in-Ok-clause-held
returns-in-Ok-clause-held g c =
    let k = c.in-Ok.ensures.ok.reads in
    held-on _ (view c.args.pass.now) (view c.look_up.new.pass) c.requires.frames k.start k.frames.0

pub returns-in-Ok-clause-lost : goal.returns-in-Ok-clause-lost
returns-in-Ok-clause-lost g c =
    loses-same _ _ (view c.args.pass.now) (view c.look_up.new.pass) c.in-Ok.ensures.ok.reads.frames.0 (λ f e. e)

-- ---- the try was turned back

pub returns-in-Err-clause-told : goal.returns-in-Err-clause-told
returns-in-Err-clause-told g c =
    told-as _ _ _ _ _ _ c.turned_round.result (c.turned_round.ensures.told _ _ c.in-Err.ensures.err) (λ t none. absurd none) (λ k. k) (λ _ k. k)

pub returns-in-Ok-clause-told : goal.returns-in-Ok-clause-told
returns-in-Ok-clause-told g c = c.in-Ok.ensures.ok

pub returns-in-Ok-clause-goes : goal.returns-in-Ok-clause-goes
returns-in-Ok-clause-goes g c = c.look_up.ensures.goes

pub returns-in-Ok-clause-iface : goal.returns-in-Ok-clause-iface
returns-in-Ok-clause-iface g c = (refl, refl)

pub returns-in-Err-clause-goes : goal.returns-in-Err-clause-goes
returns-in-Err-clause-goes g c = goes-then c.look_up.ensures.goes c.turned_round.ensures.goes

pub returns-in-Err-clause-held : goal.returns-in-Err-clause-held
returns-in-Err-clause-held g c = c.turned_round.ensures.held

pub returns-in-Err-clause-iface : goal.returns-in-Err-clause-iface
returns-in-Err-clause-iface g c = c.turned_round.ensures.iface

pub returns-in-Err-clause-lost : goal.returns-in-Err-clause-lost
returns-in-Err-clause-lost g c =
    let v = view c.args.pass.now in
    let w = view c.look_up.new.pass in
    let reads = turned-reads g.K.Kind.layout v (g.K.Kind.rank c.args.key.now) c.in-Err.turn w c.in-Err.ensures.err in
    loses-then c.args.iface.now.frames c.args.iface.now.frames c.turned_round.new.iface.frames v w (view c.turned_round.new.pass)
    (loses-same _ _ v w reads.0.frames.0 (λ f e. e)) c.turned_round.ensures.lost

pub look_up-requires-clause-ready : goal.look_up-requires-clause-ready
look_up-requires-clause-ready g c = c.requires.ready

pub look_up-requires-clause-pages : goal.look_up-requires-clause-pages
look_up-requires-clause-pages g c = c.requires.pages
