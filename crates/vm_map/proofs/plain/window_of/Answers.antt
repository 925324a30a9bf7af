use Rattle.std.proofs.Common.{◌≡◌, ◌≤◌, ◌∙◌, ◌^◌, ◌++◌, ◌∷◌, length, min, sym, ap, append-nil, arith}
use Rattle.vm_map.specs.Windows.{from_key}
use Rattle.vm_map.proofs.FirstPairs.{first_shown, first_bound, all_shown, all_bound}
use Rattle.vm_map.proofs.plain.window_of.Goals as goal

pub returns-then-len-most : goal.returns-then-len-most
returns-then-len-most c =
    let whole : c.pairs.pairs ++ (c.in-Some.key.now, c.in-Some.value.now) ∷ c.next.new.self ≡ from_key c.args.start
    c.args.entries.now.entries = ap (λ l. c.pairs.pairs ++ l) (sym c.in-Some.ensures.steps)
    ∙ c.pairs.invariant.0 in
    let long : length c.pairs.pairs ≡ min c.args.most 28 =
    omega (arith, c.pairs.invariant.1, c.min-most.ensures, c.len.ensures.value, c.if-len-most.true) in
    record { shows = first_shown _ _ _ _ _ whole long; ends = first_bound _ _ _ _ _ (2 ^ 64) whole long }

pub returns : goal.returns
returns c =
    let whole : c.pairs.pairs ≡ from_key c.args.start c.args.entries.now.entries = sym (append-nil c.pairs.pairs)
    ∙ ap (λ l. c.pairs.pairs ++ l) (sym c.in-None.ensures.steps.0) ∙ c.pairs.invariant.0 in
    let long : length c.pairs.pairs ≤ min c.args.most 28 = omega (arith, c.pairs.invariant.1, c.min-most.ensures) in
    record { shows = all_shown _ _ _ whole long; ends = all_bound _ _ _ (2 ^ 64) whole long }
