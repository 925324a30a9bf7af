use Rattle.std.proofs.Common.{◌^◌, ◌∙◌, ap, Some, sym}
use Rattle.std.specs.BTreeMap.{is_at}
use Rattle.std.specs.Ordering.{nat_cmp}
use Rattle.std.proofs.lemmas.Map.Steps.{set_value_same}
use Rattle.vm_map.proofs.{Entries.lookup_is, Entries.set_is}
use Rattle.vm_map.proofs.SwapLaws.{outcome-done, outcome-kept, outcome-missing, swap-done, swap-kept, swap-missing}
use Rattle.vm_map.proofs.plain.swap_in.Goals as goal

pub returns-in_default-clause-reply : goal.returns-in_default-clause-reply
returns-in_default-clause-reply c =
    sym (outcome-missing _ c.args.want
    (sym (lookup_is c.args.entries.now.entries c.args.key) ∙ sym c.in_default.ensures.value))

pub returns-in_default-clause-after : goal.returns-in_default-clause-after
returns-in_default-clause-after c rises =
    ap (λ m. m.entries) c.get_mut.follows.holds-at-none
    ∙ sym (swap-missing c.args.entries.now.entries c.args.key c.args.want c.args.value
    (sym (lookup_is c.args.entries.now.entries c.args.key) ∙ sym c.in_default.ensures.value))

pub returns-then-found-want-clause-reply : goal.returns-then-found-want-clause-reply
returns-then-found-want-clause-reply c =
    sym (outcome-done _ c.args.want
    (sym (lookup_is c.args.entries.now.entries c.args.key) ∙ sym c.in-Some.ensures.value
    ∙ ap Some c.if-found-want.true))

-- the value is written over
pub returns-then-found-want-clause-after : goal.returns-then-found-want-clause-after
returns-then-found-want-clause-after c rises =
    let there = sym (lookup_is c.args.entries.now.entries c.args.key) ∙ sym c.in-Some.ensures.value in
    (c.get_mut.follows.holds c.args.value).0 ∙ set_is c.args.entries.now.entries 0 (2 ^ 64) c.args.key c.args.value
    c.in-Some.there.now rises there
    ∙ sym (swap-done c.args.entries.now.entries c.args.key c.args.want c.args.value (there ∙ ap Some c.if-found-want.true))

pub returns-clause-reply : goal.returns-clause-reply
returns-clause-reply c =
    sym (outcome-kept _ c.in-Some.there.now c.args.want
    (sym (lookup_is c.args.entries.now.entries c.args.key) ∙ sym c.in-Some.ensures.value) c.if-found-want.false)

-- nothing is written: the value read goes back
pub returns-clause-after : goal.returns-clause-after
returns-clause-after c rises =
    (c.get_mut.follows.holds c.in-Some.there.now).0 ∙ set_value_same (is_at (nat_cmp c.args.key))
    c.args.entries.now.entries c.in-Some.there.now (sym c.in-Some.ensures.value)
    ∙ sym (swap-kept c.args.entries.now.entries c.args.key c.args.want c.args.value c.in-Some.there.now
    (sym (lookup_is c.args.entries.now.entries c.args.key) ∙ sym c.in-Some.ensures.value) c.if-found-want.false)
