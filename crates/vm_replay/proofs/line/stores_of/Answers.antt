use Rattle.std.proofs.Common.{[], ◌++◌, ◌∙◌, ◌∷◌, ap, arith, slice_index, sym, ℕ}
use Rattle.std.proofs.lemmas.List.FromFn.{map-range_with_len_more}
use Rattle.vm_core.specs.Prelude.{core_of}
use Rattle.vm_event.specs.declared.event.Event.TheVariants.{Store}
use Rattle.vm_rule.specs.Prelude.{Event}
use Rattle.vm_replay.proofs.line.stores_of.Goals as goal

pub loop-i-preserved : goal.loop-i-preserved
loop-i-preserved c =
    let store : ℕ → Event = λ i. Store c.args.a c.args.f i (slice_index ((core_of c.args.core.now).pages c.args.p).block i) in
    c.in_ok-push.ensures.items ∙ ap (λ w. c.loop-i.events.items ++ Store c.args.a c.args.f c.loop-i.i w ∷ [])
    c.block_word-w.ensures ∙ ap (λ xs. xs ++ store c.loop-i.i ∷ []) c.loop-i.invariant
    ∙ sym (map-range_with_len_more store 0 c.loop-i.i c.loop-i.i (omega arith))
