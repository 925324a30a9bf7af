use Rattle.std.proofs.Common.{sym, true≢false}
use Rattle.vm_map.specs.declared.call.Call.TheVariants.{Get}
use Rattle.vm_tree_read.proofs.read.try_get.Goals as goal

pub returns-in-Err-clause-tried : goal.returns-in-Err-clause-tried
returns-in-Err-clause-tried g c = c.not_yet.ensures.tried _ _ _ _ c.in-Err.ensures.err

pub returns-in-Ok-clause-height : goal.returns-in-Ok-clause-height
returns-in-Ok-clause-height g c done = c.in-Ok.ensures.height

pub returns-in-Err-clause-height : goal.returns-in-Err-clause-height
returns-in-Err-clause-height g c done = absurd (c.not_yet.ensures.unanswered done)

pub returns-in-Err-clause-sure : goal.returns-in-Err-clause-sure
returns-in-Err-clause-sure g c tells k = absurd (true≢false (sym (c.in-Err.ensures.sure tells k)))

pub look_up-requires-clause-ready : goal.look_up-requires-clause-ready
look_up-requires-clause-ready g c = c.requires.ready

pub look_up-requires-clause-pages : goal.look_up-requires-clause-pages
look_up-requires-clause-pages g c = c.requires.pages

pub returns-in-Ok-clause-goes : goal.returns-in-Ok-clause-goes
returns-in-Ok-clause-goes g c = c.look_up.ensures.goes

pub returns-in-Ok-clause-known : goal.returns-in-Ok-clause-known
returns-in-Ok-clause-known g c = c.look_up.ensures.known

pub returns-in-Ok-clause-few : goal.returns-in-Ok-clause-few
returns-in-Ok-clause-few g c = c.look_up.ensures.few

pub returns-in-Err-clause-goes : goal.returns-in-Err-clause-goes
returns-in-Err-clause-goes g c = c.look_up.ensures.goes

pub returns-in-Err-clause-known : goal.returns-in-Err-clause-known
returns-in-Err-clause-known g c = c.look_up.ensures.known

pub returns-in-Err-clause-few : goal.returns-in-Err-clause-few
returns-in-Err-clause-few g c = c.look_up.ensures.few

pub returns-in-Err-clause-kind : goal.returns-in-Err-clause-kind
returns-in-Err-clause-kind g c = c.not_yet.ensures.kind (Get (g.K.Kind.rank c.args.key.now))

pub returns-in-Ok-clause-sure : goal.returns-in-Ok-clause-sure
returns-in-Ok-clause-sure g c tells k = tt

pub returns-in-Ok-clause-tried : goal.returns-in-Ok-clause-tried
returns-in-Ok-clause-tried g c = c.in-Ok.ensures.ok

pub returns-in-Ok-clause-kind : goal.returns-in-Ok-clause-kind
returns-in-Ok-clause-kind g c = tt
