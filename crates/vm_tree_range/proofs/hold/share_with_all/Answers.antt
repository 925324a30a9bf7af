-- The pairs are said, and taken out of what was said again.
use Rattle.std.proofs.Common.{◌∙◌, ◌≡◌, ap, subst, sym}
use Rattle.std.proofs.lemmas.Result.{IfOk-weaker}
use Rattle.vm_map.specs.{declared.call.Call.Call, declared.call.Reply.Reply, declared.call.Said.Said}
use Rattle.vm_map.specs.declared.call.Call.TheVariants.{Range}
use Rattle.vm_map.specs.declared.call.Reply.TheVariants.{Many}
use Rattle.vm_step.specs.Prelude.{view}
use Rattle.vm_tree_range.specs.Ranges.{IsMany, IsRangeDone, TellRange}
use Rattle.vm_tree_range.proofs.{Ranging.done-as, RangeRounds.same-pairs}
use Rattle.vm_tree_range.proofs.hold.share_with_all.Goals as goal

abbrev saying : Call → Reply → Said
saying call reply = record { call = call; reply = reply }

-- the reply that was taken out of what is said is the one in it
same-reply : (said : Said) (call : Call) (shown reply : Reply) → said ≡ saying call shown → said.reply ≡ reply → said ≡ saying call reply
same-reply said call shown reply is taken = is ∙ ap (saying call) (sym (ap (λ (s : Said). s.reply) is) ∙ taken)

pub share_last-answer-requires-clause-proves : goal.share_last-answer-requires-clause-proves
share_last-answer-requires-clause-proves g c =
    let p = c.requires.proves in
    let is = c.many-said.ensures ∙ ap (λ s. saying (Range (g.K.Kind.rank c.args.low.now) c.args.bound) (Many s)) c.take.ensures.all in (
      p.0,
      p.1,
      g.K.Kind.rank c.args.low.now,
      p.2,
      p.3,
      p.4,
      p.5,
      subst (λ s. TellRange g.K.Kind.layout p.0 p.3 s (view c.args.pass.now)) (sym is) p.6,
    )

pub pairs_said-requires : goal.pairs_said-requires
pairs_said-requires g c = subst IsMany (sym (ap (λ (s : Said). s.reply) c.many-said.ensures)) tt

pub returns-clause-ok : goal.returns-clause-ok
returns-clause-ok g c =
    let is = same-reply _ _ _ _ c.many-said.ensures c.pairs_said.ensures in
    IfOk-weaker c.share_last-answer.result
    (λ _. IsRangeDone g.K.Kind.plain g.K.Kind.layout (g.K.Kind.plain c.many-said.result) (view c.args.pass.now)
    (view c.share_last-answer.new.pass))
    (λ _. IsRangeDone g.K.Kind.plain g.K.Kind.layout
    (saying (Range (g.K.Kind.rank c.args.low.now) c.args.bound) (Many c.pairs_said.result)) (view c.args.pass.now)
    (view c.share_last-answer.new.pass))
    (λ _ d. done-as g.K.Kind.plain g.K.Kind.layout _ _ _ _ is d) c.share_last-answer.ensures.ok

pub returns-clause-same : goal.returns-clause-same
returns-clause-same g c = same-pairs _ _ (sym c.pairs_said.ensures ∙ ap (λ (s : Said). s.reply) c.many-said.ensures) ∙ c.take.ensures.all

pub returns-clause-sure : goal.returns-clause-sure
returns-clause-sure g c shares few k = c.share_last-answer.ensures.sure shares few k

pub returns-clause-known : goal.returns-clause-known
returns-clause-known g c shares few k = c.share_last-answer.ensures.known shares few k

pub returns-clause-steps : goal.returns-clause-steps
returns-clause-steps g c = c.share_last-answer.ensures.steps

pub share_last-answer-requires-clause-ready : goal.share_last-answer-requires-clause-ready
share_last-answer-requires-clause-ready g c = c.requires.ready

pub share_last-answer-requires-clause-reading : goal.share_last-answer-requires-clause-reading
share_last-answer-requires-clause-reading g c = c.requires.reading

pub share_last-answer-requires-clause-home : goal.share_last-answer-requires-clause-home
share_last-answer-requires-clause-home g c = c.requires.home

pub returns-clause-goes : goal.returns-clause-goes
returns-clause-goes g c = c.share_last-answer.ensures.goes

pub returns-clause-err : goal.returns-clause-err
returns-clause-err g c = c.share_last-answer.ensures.err
