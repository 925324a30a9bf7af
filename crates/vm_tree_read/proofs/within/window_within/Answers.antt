use Rattle.std.proofs.Common.{◌∙◌, ◌≡◌, ◌<◌, ap, IfSome, Option, Some, subst, sym}
use Rattle.std.proofs.lemmas.Option.{none-some}
use Rattle.vm_map.specs.declared.call.Reply.{Reply}
use Rattle.vm_map.specs.declared.call.Said.{Said}
use Rattle.vm_map.specs.declared.call.Call.TheVariants.{Window as ForWindow}
use Rattle.vm_tree_rule.specs.from_vm_step.Prelude.{view}
use Rattle.vm_tree_read.specs.{Reads.IsOfKind, Waiting.IsReplied, Waiting.rounds_in}
use Rattle.vm_tree_read.proofs.within.window_within.Goals as goal

-- what holds of an answer that is there
given : {A : Type 0} (P : A → Type 0) (o : Option A) (a : A) → o ≡ Some a → IfSome o P → P a
given P o a is k = subst (λ (x : Option _). IfSome x P) is k

pub returns-in-Ok-Some-clause-some : goal.returns-in-Ok-Some-clause-some
returns-in-Ok-Some-clause-some g c =
    let k = given _ _ _ c.in-Ok-Some.field-0-is c.in-Ok-Some.ensures.some in
    subst (λ (reply : Reply). (r : IsReplied g.K.Kind.plain g.K.Kind.layout
    (record { call = ForWindow (g.K.Kind.rank c.args.start.now) c.args.most; reply = reply })
    (view c.args.pass.now) (view c.window_said_within.new.pass)) × (rounds_in r.rounds < c.args.turns))
    (sym (c.reply_of.ensures ∙ ap (λ (s : Said). s.reply) k.1)) (k.2, k.3)

pub returns-in-Ok-Some-clause-goes : goal.returns-in-Ok-Some-clause-goes
returns-in-Ok-Some-clause-goes g c = c.window_said_within.ensures.goes

pub returns-in-Ok-Some-clause-held : goal.returns-in-Ok-Some-clause-held
returns-in-Ok-Some-clause-held g c = c.window_said_within.ensures.held

pub returns-in-Ok-Some-clause-iface : goal.returns-in-Ok-Some-clause-iface
returns-in-Ok-Some-clause-iface g c = c.window_said_within.ensures.iface

pub returns-in-Ok-Some-clause-lost : goal.returns-in-Ok-Some-clause-lost
returns-in-Ok-Some-clause-lost g c = c.window_said_within.ensures.lost

pub returns-in-Ok-None-clause-goes : goal.returns-in-Ok-None-clause-goes
returns-in-Ok-None-clause-goes g c = c.window_said_within.ensures.goes

pub returns-in-Ok-None-clause-held : goal.returns-in-Ok-None-clause-held
returns-in-Ok-None-clause-held g c = c.window_said_within.ensures.held

pub returns-in-Ok-None-clause-iface : goal.returns-in-Ok-None-clause-iface
returns-in-Ok-None-clause-iface g c = c.window_said_within.ensures.iface

pub returns-in-Ok-None-clause-lost : goal.returns-in-Ok-None-clause-lost
returns-in-Ok-None-clause-lost g c = c.window_said_within.ensures.lost

pub returns-in-Err-clause-goes : goal.returns-in-Err-clause-goes
returns-in-Err-clause-goes g c = c.window_said_within.ensures.goes

pub returns-in-Err-clause-held : goal.returns-in-Err-clause-held
returns-in-Err-clause-held g c = c.window_said_within.ensures.held

pub returns-in-Err-clause-iface : goal.returns-in-Err-clause-iface
returns-in-Err-clause-iface g c = c.window_said_within.ensures.iface

pub returns-in-Err-clause-lost : goal.returns-in-Err-clause-lost
returns-in-Err-clause-lost g c = c.window_said_within.ensures.lost

pub returns-in-Ok-Some-clause-kind : goal.returns-in-Ok-Some-clause-kind
returns-in-Ok-Some-clause-kind g c =
    let k = given _ _ _ c.in-Ok-Some.field-0-is c.in-Ok-Some.ensures.some in
    subst (IsOfKind (ForWindow (g.K.Kind.rank c.args.start.now) c.args.most))
    (sym (c.reply_of.ensures ∙ ap (λ (s : Said). s.reply) k.1)) tt

pub returns-in-Ok-Some-clause-err : goal.returns-in-Ok-Some-clause-err
returns-in-Ok-Some-clause-err g c = tt

pub returns-in-Ok-Some-clause-none : goal.returns-in-Ok-Some-clause-none
returns-in-Ok-Some-clause-none g c none = absurd (none-some _ (sym none))

pub returns-in-Ok-None-clause-some : goal.returns-in-Ok-None-clause-some
returns-in-Ok-None-clause-some g c = tt

pub returns-in-Ok-None-clause-kind : goal.returns-in-Ok-None-clause-kind
returns-in-Ok-None-clause-kind g c = tt

pub returns-in-Ok-None-clause-err : goal.returns-in-Ok-None-clause-err
returns-in-Ok-None-clause-err g c = tt

pub returns-in-Ok-None-clause-none : goal.returns-in-Ok-None-clause-none
returns-in-Ok-None-clause-none g c none = c.in-Ok-None.ensures.none c.in-Ok-None.field-0-is

pub returns-in-Err-clause-some : goal.returns-in-Err-clause-some
returns-in-Err-clause-some g c = tt

pub returns-in-Err-clause-kind : goal.returns-in-Err-clause-kind
returns-in-Err-clause-kind g c = tt

pub returns-in-Err-clause-none : goal.returns-in-Err-clause-none
returns-in-Err-clause-none g c = tt

pub returns-in-Err-clause-err : goal.returns-in-Err-clause-err
returns-in-Err-clause-err g c = c.in-Err.ensures.err
