use Rattle.std.proofs.Common.{[], ◌++◌, ◌∙◌, ◌∷◌, ap, arith, sym, ℕ}
use Rattle.std.proofs.lemmas.List.FromFn.{map-range_with_len_more}
use Rattle.vm_event.specs.declared.event.Event.TheVariants.{Load}
use Rattle.vm_rule.specs.Prelude.{Event}
use Rattle.vm_replay.proofs.line.loads_of.Goals as goal

pub loop-i-preserved : goal.loop-i-preserved
loop-i-preserved c =
    let load : ℕ → Event = λ i. Load c.args.a c.args.p i in
    c.in_ok-push.ensures.items ∙ ap (λ xs. xs ++ load c.loop-i.i ∷ []) c.loop-i.invariant
    ∙ sym (map-range_with_len_more load 0 c.loop-i.i c.loop-i.i (omega arith))
