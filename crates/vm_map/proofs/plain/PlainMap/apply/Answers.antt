use Rattle.std.proofs.Common.{◌^◌, min, rules, sym, ap, ◌∙◌, arith}
use Rattle.vm_map.specs.Map.{lookup_at, put_pair, del_pair, swap_pair}
use Rattle.vm_map.specs.History.{between, bound_of, outcome_of, TakesMemory}
use Rattle.vm_map.proofs.{MapLemmas.Rises-put, MapLemmas.Rises-del, SwapLaws.Rises-swap}
use Rattle.vm_map.proofs.WindowLaws.{window_replies}
use Rattle.vm_map.proofs.Entries.{lookup_is, insert_is, remove_is}
use Rattle.vm_map.proofs.plain.PlainMap.apply.Goals as goal

pub returns-in_err-insert-in-Put-clause-takes_memory : goal.returns-in_err-insert-in-Put-clause-takes_memory
returns-in_err-insert-in-Put-clause-takes_memory c =
    let takes : TakesMemory c.args.self.now c.args.call.now =
    rw c.in-Put.is (rw (← c.self.view_is) (sym (lookup_is c.self.inside.entries.entries c.in-Put.key)
    ∙ c.in_err-insert-in-Put.ensures.absent)) in
    search (rules, takes)

pub invariant_of-self-in-Put : goal.invariant_of-self-in-Put
invariant_of-self-in-Put c = rw (c.in_ok-insert-in-Put.ensures.entries, insert_is c.self.inside.entries.entries c.in-Put.key c.in-Put.value)
    (Rises-put c.self.inside.entries.entries 0 (2 ^ 64) c.in-Put.key c.in-Put.value c.self.invariant (omega arith) (search rules))

pub returns-in-Get-clause-reply : goal.returns-in-Get-clause-reply
returns-in-Get-clause-reply c =
    rw c.in-Get.is (λ _. c.copied.ensures ∙ c.get.ensures.value ∙ lookup_is c.self.inside.entries.entries c.in-Get.key
    ∙ ap (λ m. lookup_at m c.in-Get.key) c.self.view_is)

pub returns-in_ok-insert-in-Put-clause-reply : goal.returns-in_ok-insert-in-Put-clause-reply
returns-in_ok-insert-in-Put-clause-reply c =
    rw c.in-Put.is (λ _. c.in_ok-insert-in-Put.ensures.old ∙ lookup_is c.self.inside.entries.entries c.in-Put.key
    ∙ ap (λ m. lookup_at m c.in-Put.key) c.self.view_is)

pub returns-in_ok-insert-in-Put-clause-after : goal.returns-in_ok-insert-in-Put-clause-after
returns-in_ok-insert-in-Put-clause-after c =
    rw c.in-Put.is (c.in_ok-insert-in-Put.ensures.entries ∙ insert_is c.self.inside.entries.entries c.in-Put.key
    c.in-Put.value ∙ ap (λ m. put_pair m c.in-Put.key c.in-Put.value) c.self.view_is)

pub returns-in_ok-insert-in-Put-clause-rises : goal.returns-in_ok-insert-in-Put-clause-rises
returns-in_ok-insert-in-Put-clause-rises c = invariant_of-self-in-Put c

pub invariant_of-self-in-Del : goal.invariant_of-self-in-Del
invariant_of-self-in-Del c = rw (c.remove.ensures.entries, remove_is c.self.inside.entries.entries c.in-Del.key)
    (Rises-del c.self.inside.entries.entries 0 (2 ^ 64) c.in-Del.key c.self.invariant)

pub returns-in-Del-clause-reply : goal.returns-in-Del-clause-reply
returns-in-Del-clause-reply c =
    rw c.in-Del.is (λ _. c.remove.ensures.value ∙ lookup_is c.self.inside.entries.entries c.in-Del.key
    ∙ ap (λ m. lookup_at m c.in-Del.key) c.self.view_is)

pub returns-in-Del-clause-after : goal.returns-in-Del-clause-after
returns-in-Del-clause-after c =
    rw c.in-Del.is (c.remove.ensures.entries ∙ remove_is c.self.inside.entries.entries c.in-Del.key
    ∙ ap (λ m. del_pair m c.in-Del.key) c.self.view_is)

pub returns-in-Del-clause-rises : goal.returns-in-Del-clause-rises
returns-in-Del-clause-rises c = invariant_of-self-in-Del c

pub returns-in-Window-clause-reply : goal.returns-in-Window-clause-reply
returns-in-Window-clause-reply c = rw (c.in-Window.is, ← c.self.view_is) (λ some.
    let (above, upto, shows, few) = window_replies c.self.inside.entries.entries 0 (2 ^ 64) c.in-Window.start
    (min c.in-Window.most 28) c.window_of.result c.self.invariant (search rules) (omega (arith, some))
    c.window_of.ensures in
    (above, shows, omega (arith, few)))

pub returns-in_err-span_of-in-Range-clause-takes_memory : goal.returns-in_err-span_of-in-Range-clause-takes_memory
returns-in_err-span_of-in-Range-clause-takes_memory c =
    let takes : TakesMemory c.args.self.now c.args.call.now = rw c.in-Range.is tt in
    search (rules, takes)

pub returns-in_ok-span_of-in-Range-clause-reply : goal.returns-in_ok-span_of-in-Range-clause-reply
returns-in_ok-span_of-in-Range-clause-reply c =
    rw c.in-Range.is (λ _. c.in_ok-span_of-in-Range.ensures ∙ ap (λ m. between m c.in-Range.low (bound_of c.in-Range.bound)) c.self.view_is)

pub invariant_of-self-in-Swap : goal.invariant_of-self-in-Swap
invariant_of-self-in-Swap c = rw (c.swap_in.ensures.after c.self.invariant)
    (Rises-swap c.self.inside.entries.entries 0 (2 ^ 64) c.in-Swap.key c.in-Swap.want c.in-Swap.value c.self.invariant
    (omega arith) (search rules))

pub returns-in-Swap-clause-reply : goal.returns-in-Swap-clause-reply
returns-in-Swap-clause-reply c =
    rw c.in-Swap.is (λ _. c.swap_in.ensures.reply ∙ ap (λ m. outcome_of (lookup_at m c.in-Swap.key) c.in-Swap.want) c.self.view_is)

pub returns-in-Swap-clause-after : goal.returns-in-Swap-clause-after
returns-in-Swap-clause-after c =
    rw c.in-Swap.is (c.swap_in.ensures.after c.self.invariant
    ∙ ap (λ m. swap_pair m c.in-Swap.key c.in-Swap.want c.in-Swap.value) c.self.view_is)

pub returns-in-Swap-clause-rises : goal.returns-in-Swap-clause-rises
returns-in-Swap-clause-rises c = invariant_of-self-in-Swap c
