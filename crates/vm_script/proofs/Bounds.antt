-- Bounds of ranges: a number, or `end`, which no number is.
use Rattle.std.specs.Fmt.{decimal}
use Rattle.std.specs.Str.Parse.{AllDigits}
use Rattle.std.proofs.Common.{[], ◌++◌, ◌<◌, ◌^◌, ◌∷◌, ◌≡◌, ◌≢◌, ap, arith, codes, List, lit<, refl, subst, sym, ℕ}
use Rattle.std.proofs.lemmas.Fmt.{decimal_injective, decimal_is_IsNumeral}
use Rattle.std.proofs.lemmas.Str.Parse.{digit_from_value}
use Rattle.vm_map.specs.declared.call.Call.TheVariants.{Range}
use Rattle.vm_map.specs.declared.window.Bound.{Bound}
use Rattle.vm_map.specs.declared.window.Bound.TheVariants.{End, Key}
use Rattle.vm_script.specs.{Cuts.Lacks, Scripts.IsScriptBound, Scripts.IsScriptCall, Texts.bound_text}
use Rattle.vm_script.proofs.Words.{each_append, lacks_decimal, one_cut}

no_letter : (at : ℕ) → 57 < at → (ds : List ℕ) → AllDigits 10 ds → Lacks at ds
no_letter at high [] h = tt
no_letter at high (d ∷ ds) h = (let r = digit_from_value d h.0 in λ e. omega (arith, r), no_letter at high ds h.1)

-- a number is not written `end`
pub end_is_no_key : (key : ℕ) → key < 2 ^ 64 → decimal key ≡ codes "end" → ⊥
end_is_no_key key k e = let lacks : Lacks 101 (codes "end") =
    subst (λ bs. Lacks 101 bs) e (no_letter 101 (lit< tt) (decimal key) (decimal_is_IsNumeral key k).0.1) in
    lacks.0 refl

pub lacks_bound : (at : ℕ) (bound : Bound) → at < 48 → IsScriptBound bound → Lacks at (bound_text bound)
lacks_bound at (Key key) low is = lacks_decimal at key low is
lacks_bound at End low is = (λ e. omega arith, (λ e. omega arith, (λ e. omega arith, tt)))

pub one_bound : (a b : Bound) → IsScriptBound a → IsScriptBound b → bound_text a ≡ bound_text b → a ≡ b
one_bound (Key k) (Key k') is is' e = ap Key (decimal_injective k k' is is' e)
one_bound (Key k) End is is' e = absurd (end_is_no_key k is e)
one_bound End (Key k') is is' e = absurd (end_is_no_key k' is' (sym e))
one_bound End End is is' e = refl

-- a key below a bound is below 2 ^ 64
pub low_key : (low : ℕ) (bound : Bound) → IsScriptCall (Range low bound) → low < 2 ^ 64
low_key low (Key key) is = omega (arith, is.0, is.1)
low_key low End is = is.0

pub lacks_range : (at low : ℕ) (bound : Bound) → at < 32 → IsScriptCall (Range low bound) → Lacks at (decimal low ++ 32 ∷ bound_text bound)
lacks_range at low bound below is = each_append (λ b. b ≢ at) (decimal low) (32 ∷ bound_text bound)
    (lacks_decimal at low (omega arith) (low_key low bound is))
    (λ e. omega arith, lacks_bound at bound (omega arith) is.1)

pub one_range : (low low' : ℕ) (bound bound' : Bound) → IsScriptCall (Range low bound)
    → IsScriptCall (Range low' bound') → decimal low ++ 32 ∷ bound_text bound ≡ decimal low' ++ 32 ∷ bound_text bound'
    → (low ≡ low') × (bound ≡ bound')
one_range low low' bound bound' is is' e =
    let small = low_key low bound is in
    let small' = low_key low' bound' is' in
    let parts = one_cut 32 (decimal low) (bound_text bound) (decimal low') (bound_text bound')
    (lacks_decimal 32 low (lit< tt) small) (lacks_decimal 32 low' (lit< tt) small') e in
    (decimal_injective low low' small small' parts.0, one_bound bound bound' is.1 is'.1 parts.1)
