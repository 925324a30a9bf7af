use Rattle.std.proofs.Common.{◌∙◌, ap, subst, sym, true≢false}
use Rattle.vm_map.specs.declared.call.Reply.{Reply}
use Rattle.vm_map.specs.declared.call.Said.{Said}
use Rattle.vm_map.specs.declared.call.Call.TheVariants.{Window as ForWindow}
use Rattle.vm_tree_rule.specs.from_vm_step.Prelude.{view}
use Rattle.vm_tree_read.specs.Reads.{IsAnswered, IsOfKind}
use Rattle.vm_tree_read.proofs.read.try_window.Goals as goal

pub returns-in-Ok-clause-tried : goal.returns-in-Ok-clause-tried
returns-in-Ok-clause-tried g c = subst (λ (reply : Reply). IsAnswered g.K.Kind.plain g.K.Kind.layout
    (record { call = ForWindow (g.K.Kind.rank c.args.start.now) c.args.most; reply = reply })
    (view c.args.pass.now) (view c.show_window.new.pass))
    (sym (c.reply_of.ensures ∙ ap (λ (s : Said). s.reply) c.in-Ok.ensures.ok.1)) c.in-Ok.ensures.ok.2

pub returns-in-Ok-clause-kind : goal.returns-in-Ok-clause-kind
returns-in-Ok-clause-kind g c = subst (IsOfKind (ForWindow (g.K.Kind.rank c.args.start.now) c.args.most))
    (sym (c.reply_of.ensures ∙ ap (λ (s : Said). s.reply) c.in-Ok.ensures.ok.1)) tt

pub returns-in-Err-clause-tried : goal.returns-in-Err-clause-tried
returns-in-Err-clause-tried g c = c.not_yet.ensures.tried _ _ _ _ c.in-Err.ensures.err

pub returns-in-Ok-clause-height : goal.returns-in-Ok-clause-height
returns-in-Ok-clause-height g c done = c.in-Ok.ensures.height

pub returns-in-Err-clause-height : goal.returns-in-Err-clause-height
returns-in-Err-clause-height g c done = absurd (c.not_yet.ensures.unanswered done)

pub returns-in-Err-clause-sure : goal.returns-in-Err-clause-sure
returns-in-Err-clause-sure g c tells k = absurd (true≢false (sym (c.in-Err.ensures.sure tells k)))

pub show_window-requires-clause-ready : goal.show_window-requires-clause-ready
show_window-requires-clause-ready g c = c.requires.ready

pub show_window-requires-clause-pages : goal.show_window-requires-clause-pages
show_window-requires-clause-pages g c = c.requires.pages

pub show_window-requires-clause-most : goal.show_window-requires-clause-most
show_window-requires-clause-most g c = c.requires.most

pub returns-in-Ok-clause-goes : goal.returns-in-Ok-clause-goes
returns-in-Ok-clause-goes g c = c.show_window.ensures.goes

pub returns-in-Ok-clause-known : goal.returns-in-Ok-clause-known
returns-in-Ok-clause-known g c = c.show_window.ensures.known

pub returns-in-Ok-clause-few : goal.returns-in-Ok-clause-few
returns-in-Ok-clause-few g c = c.show_window.ensures.few

pub returns-in-Err-clause-goes : goal.returns-in-Err-clause-goes
returns-in-Err-clause-goes g c = c.show_window.ensures.goes

pub returns-in-Err-clause-known : goal.returns-in-Err-clause-known
returns-in-Err-clause-known g c = c.show_window.ensures.known

pub returns-in-Err-clause-few : goal.returns-in-Err-clause-few
returns-in-Err-clause-few g c = c.show_window.ensures.few

pub returns-in-Err-clause-kind : goal.returns-in-Err-clause-kind
returns-in-Err-clause-kind g c = c.not_yet.ensures.kind (ForWindow (g.K.Kind.rank c.args.start.now) c.args.most)

pub returns-in-Ok-clause-sure : goal.returns-in-Ok-clause-sure
returns-in-Ok-clause-sure g c tells k = tt
