use Rattle.std.specs.Fmt.{decimal}
use Rattle.std.proofs.Common.{◌∙◌, ◌≡◌, arith, lit<, sym}
use Rattle.std.proofs.lemmas.Fmt.{decimal_injective}
use Rattle.vm_script.specs.Texts.{bound_text}
use Rattle.vm_script.proofs.Bounds.{low_key, one_bound}
use Rattle.vm_script.proofs.calls.range_of.Goals as goal
use Rattle.vm_script.proofs.Words.{cut_here, lacks_decimal, no_cut}

pub returns-in_default : goal.returns-in_default
returns-in_default c = λ low bound is e. no_cut 32 _ (decimal low) (bound_text bound) c.in_default.ensures e

pub returns-in_default-number_of : goal.returns-in_default-number_of
returns-in_default-number_of c = λ low bound is e.
    let small = low_key low bound is in
    c.in_default-number_of.ensures low small
    (cut_here _ 32 _ _ (decimal low) (bound_text bound) c.in-Some.ensures (lacks_decimal 32 low (lit< tt) small)
    e).0

pub returns-in_default-bound_of : goal.returns-in_default-bound_of
returns-in_default-bound_of c = λ low bound is e.
    c.in_default-bound_of.ensures bound is.1
    (cut_here _ 32 _ _ (decimal low) (bound_text bound) c.in-Some.ensures
    (lacks_decimal 32 low (lit< tt) (low_key low bound is)) e).1

pub returns-else-is_above : goal.returns-else-is_above
returns-else-is_above c = λ low bound is e.
    let small = low_key low bound is in
    let parts = cut_here _ 32 _ _ (decimal low) (bound_text bound) c.in-Some.ensures (lacks_decimal 32 low (lit< tt) small) e in
    let key : low ≡ c.in-Some-number_of.low = decimal_injective _ _ small c.in-Some-number_of.ensures.0
    (sym parts.0 ∙ c.in-Some-number_of.ensures.1) in
    let end : bound ≡ c.in-Some-bound_of.bound = one_bound _ _ is.1 c.in-Some-bound_of.ensures.0
    (sym parts.1 ∙ c.in-Some-bound_of.ensures.1) in
    let above = rw (key, end) at is.0 in
    grind (arith, above, c.is_above.ensures, c.if-is_above.ensures)
