use Rattle.std.proofs.Common.{◌<◌, ◌^◌, ◌∙◌, ◌≡◌, arith, sym}
use Rattle.std.proofs.lemmas.Fmt.{decimal_injective}
use Rattle.vm_script.proofs.event_words.shares_of.Goals.{else-shares-ge1-via-else-shares-ge1}
use Rattle.vm_script.proofs.event_words.shares_of.Goals.{else-shares-ge1-via-then-shares-ge1+else-shares-from}
use Rattle.vm_script.proofs.event_words.shares_of.Goals as goal

pub returns-else-shares-ge1 : goal.returns-else-shares-ge1
returns-else-shares-ge1 c = λ shares is e.
    let small : shares < 2 ^ 64 = omega (arith, is.few) in
    let same : shares ≡ c.in-Some.shares = decimal_injective _ _ small c.in-Some.ensures.0 (sym e ∙ c.in-Some.ensures.1) in
    elim c.else-shares-ge1.branch [
      | else-shares-ge1-via-then-shares-ge1+else-shares-from w ↦ omega (arith, is.few, w.if-shares-from.false)
      | else-shares-ge1-via-else-shares-ge1 w ↦ omega (arith, is.some, w.if-shares-ge1.false)
    ]
