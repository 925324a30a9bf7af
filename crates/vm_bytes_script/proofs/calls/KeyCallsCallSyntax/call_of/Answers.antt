use Rattle.std.proofs.Common.{◌∙◌, ◌≡◌, inl, inr, sym}
use Rattle.std.proofs.lemmas.Bool.{false≢true}
use Rattle.vm_bytes_laws.specs.declared.call.KeyCall.{KeyCall}
use Rattle.vm_bytes_laws.specs.declared.call.KeyCall.TheVariants.{Del, Get, Put, Swap, Window}
use Rattle.vm_bytes_script.specs.KeyScripts.{IsKeyScriptCall}
use Rattle.vm_bytes_script.proofs.KeyLines.{no_window, rest_text, verb_of, verb_text}
use Rattle.vm_bytes_script.proofs.calls.KeyCallsCallSyntax.call_of.Goals.{else-eq-4, else-most-ge1-via-else-most-ge1}
use Rattle.vm_bytes_script.proofs.calls.KeyCallsCallSyntax.call_of.Goals.{else-most-ge1-via-then-most-ge1+else-most}
use Rattle.vm_bytes_script.proofs.calls.KeyCallsCallSyntax.call_of.Goals.{then-eq-4+in_ok-start+else-most-ge1}
use Rattle.vm_bytes_script.proofs.calls.KeyCallsCallSyntax.call_of.Goals as goal

pub returns : goal.returns
returns c = λ call is e. let parts = verb_of _ c.in_ok-verb.verb.now c.in_ok-verb.rest.now call c.in_ok-verb.ensures is e in none call is parts.0 parts.1
  where
    none : (call : KeyCall) → IsKeyScriptCall call → c.in_ok-verb.verb.now ≡ verb_text call → c.in_ok-verb.rest.now ≡ rest_text call → ⊥
    none (Get key) is get rest = let k = rw (get, c.as_slice.ensures) at c.if-eq.ensures in absurd (false≢true k)
    none (Del key) is del rest = let k = rw (del, c.as_slice-2.ensures) at c.if-eq-2.ensures in absurd (false≢true k)
    none (Put key value) is put rest = let k = rw (put, c.as_slice-3.ensures) at c.if-eq-3.ensures in absurd (false≢true k)
    none (Swap key want value) is swap rest = absurd is
    none (Window s n) is scan rest = elim c.if-eq-4.branch [
      | then-eq-4+in_ok-start+else-most-ge1 w ↦
          no_window s w.in_ok-start.start n w.in_ok-start.most is w.in_ok-start.ensures.0 w.in_ok-start.ensures.1 (sym rest ∙ w.in_ok-start.ensures.2)
          (elim w.else-most-ge1.branch [
            | else-most-ge1-via-then-most-ge1+else-most x ↦ inr x.if-most.false
            | else-most-ge1-via-else-most-ge1 x ↦ inl x.if-most-ge1.false
          ])
      | else-eq-4 w ↦ let k = rw (scan, c.as_slice-4.ensures) at w.if-eq-4.ensures in absurd (false≢true k)
    ]
