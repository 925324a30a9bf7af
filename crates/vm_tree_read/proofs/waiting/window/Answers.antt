use Rattle.std.proofs.Common.{◌∙◌, ap, subst, sym}
use Rattle.vm_map.specs.declared.call.Reply.{Reply}
use Rattle.vm_map.specs.declared.call.Said.{Said}
use Rattle.vm_map.specs.declared.call.Call.TheVariants.{Window as ForWindow}
use Rattle.vm_tree_rule.specs.from_vm_step.Prelude.{view}
use Rattle.vm_tree_read.specs.{Reads.IsOfKind, Waiting.IsReplied}
use Rattle.vm_tree_read.proofs.waiting.window.Goals as goal

pub returns-in-Ok-clause-ok : goal.returns-in-Ok-clause-ok
returns-in-Ok-clause-ok g c = subst (λ (reply : Reply). IsReplied g.K.Kind.plain g.K.Kind.layout
    (record { call = ForWindow (g.K.Kind.rank c.args.start.now) c.args.most; reply = reply })
    (view c.args.pass.now) (view c.window_said.new.pass))
    (sym (c.reply_of.ensures ∙ ap (λ (s : Said). s.reply) c.in-Ok.ensures.ok.1)) c.in-Ok.ensures.ok.2

pub returns-in-Ok-clause-kind : goal.returns-in-Ok-clause-kind
returns-in-Ok-clause-kind g c = subst (IsOfKind (ForWindow (g.K.Kind.rank c.args.start.now) c.args.most))
    (sym (c.reply_of.ensures ∙ ap (λ (s : Said). s.reply) c.in-Ok.ensures.ok.1)) tt

pub returns-in-Ok-clause-goes : goal.returns-in-Ok-clause-goes
returns-in-Ok-clause-goes g c = c.window_said.ensures.goes

pub returns-in-Ok-clause-held : goal.returns-in-Ok-clause-held
returns-in-Ok-clause-held g c = c.window_said.ensures.held

pub returns-in-Ok-clause-iface : goal.returns-in-Ok-clause-iface
returns-in-Ok-clause-iface g c = c.window_said.ensures.iface

pub returns-in-Ok-clause-lost : goal.returns-in-Ok-clause-lost
returns-in-Ok-clause-lost g c = c.window_said.ensures.lost

pub returns-in-Err-clause-goes : goal.returns-in-Err-clause-goes
returns-in-Err-clause-goes g c = c.window_said.ensures.goes

pub returns-in-Err-clause-held : goal.returns-in-Err-clause-held
returns-in-Err-clause-held g c = c.window_said.ensures.held

pub returns-in-Err-clause-iface : goal.returns-in-Err-clause-iface
returns-in-Err-clause-iface g c = c.window_said.ensures.iface

pub returns-in-Err-clause-lost : goal.returns-in-Err-clause-lost
returns-in-Err-clause-lost g c = c.window_said.ensures.lost

pub returns-in-Ok-clause-err : goal.returns-in-Ok-clause-err
returns-in-Ok-clause-err g c = tt

pub returns-in-Err-clause-ok : goal.returns-in-Err-clause-ok
returns-in-Err-clause-ok g c = tt

pub returns-in-Err-clause-kind : goal.returns-in-Err-clause-kind
returns-in-Err-clause-kind g c = tt

pub returns-in-Err-clause-err : goal.returns-in-Err-clause-err
returns-in-Err-clause-err g c = c.in-Err.ensures.err
