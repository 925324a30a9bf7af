-- A call with word keys is written on one line, and a text is that of one call.
use Rattle.std.specs.Fmt.{decimal}
use Rattle.std.proofs.Common.{◌++◌, ◌∷◌, ◌≡◌, ◌≢◌, ap, arith, get_or}
use Rattle.std.proofs.lemmas.Fmt.{decimal_injective}
use Rattle.vm_map.specs.declared.call.Call.{Call}
use Rattle.vm_map.specs.declared.call.Call.TheVariants.{Del, Get, Put, Range, Swap, Window}
use Rattle.vm_script.specs.Cuts.{Lacks}
use Rattle.vm_script.specs.Scripts.{call_text, IsScriptCall}
use Rattle.vm_script.specs.Texts.{bound_text}
use Rattle.vm_script.proofs.Bounds.{lacks_range, one_range}
use Rattle.vm_script.proofs.Words.{each_append, lacks_decimal, lacks_pair, lacks_verb, numbers_text, one_pair, one_three, text_is, verb_text}

lacks_numbers : (call : Call) → IsScriptCall call → Lacks 10 (numbers_text call)
lacks_numbers (Get key) is = lacks_decimal 10 key (omega arith) is
lacks_numbers (Put key value) is = lacks_pair 10 key value (omega arith) is.0 is.1
lacks_numbers (Del key) is = lacks_decimal 10 key (omega arith) is
lacks_numbers (Window start most) is = lacks_pair 10 start most (omega arith) is.0 (omega (arith, is.2))
lacks_numbers (Swap key want value) is = each_append (λ b. b ≢ 10) (decimal key)
    (32 ∷ (decimal want ++ 32 ∷ decimal value)) (lacks_decimal 10 key (omega arith) is.0)
    (λ e. omega arith, lacks_pair 10 want value (omega arith) is.1 is.2)
lacks_numbers (Range low bound) is = lacks_range 10 low bound (omega arith) is

pub lacks_call : (call : Call) → IsScriptCall call → Lacks 10 (call_text call)
lacks_call call is = rw (text_is call)
    (each_append (λ b. b ≢ 10) (verb_text call) (32 ∷ numbers_text call) (lacks_verb 10 call (omega arith))
    (λ e. omega arith, lacks_numbers call is))

-- a text is that of one call
pub one_call : (a b : Call) → IsScriptCall a → IsScriptCall b → call_text a ≡ call_text b → a ≡ b
one_call (Get k) (Get k') a b e = let rest : decimal k ≡ decimal k' = cc in ap Get (decimal_injective k k' a b rest)
one_call (Get k) (Put k' v') a b e = let first : 103 ≡ 112 = ap (λ l. get_or l 0 0) e in absurd (omega (arith, first))
one_call (Get k) (Del k') a b e = let first : 103 ≡ 100 = ap (λ l. get_or l 0 0) e in absurd (omega (arith, first))
one_call (Get k) (Window s' n') a b e = let first : 103 ≡ 115 = ap (λ l. get_or l 0 0) e in absurd (omega (arith, first))
one_call (Put k v) (Get k') a b e = let first : 112 ≡ 103 = ap (λ l. get_or l 0 0) e in absurd (omega (arith, first))
one_call (Put k v) (Put k' v') a b e =
    let rest : decimal k ++ 32 ∷ decimal v ≡ decimal k' ++ 32 ∷ decimal v' = cc in
    let same = one_pair k v k' v' a.0 a.1 b.0 b.1 rest in
    cc (same.0, same.1)
one_call (Put k v) (Del k') a b e = let first : 112 ≡ 100 = ap (λ l. get_or l 0 0) e in absurd (omega (arith, first))
one_call (Put k v) (Window s' n') a b e = let first : 112 ≡ 115 = ap (λ l. get_or l 0 0) e in absurd (omega (arith, first))
one_call (Del k) (Get k') a b e = let first : 100 ≡ 103 = ap (λ l. get_or l 0 0) e in absurd (omega (arith, first))
one_call (Del k) (Put k' v') a b e = let first : 100 ≡ 112 = ap (λ l. get_or l 0 0) e in absurd (omega (arith, first))
one_call (Del k) (Del k') a b e = let rest : decimal k ≡ decimal k' = cc in ap Del (decimal_injective k k' a b rest)
one_call (Del k) (Window s' n') a b e = let first : 100 ≡ 115 = ap (λ l. get_or l 0 0) e in absurd (omega (arith, first))
one_call (Window s n) (Get k') a b e = let first : 115 ≡ 103 = ap (λ l. get_or l 0 0) e in absurd (omega (arith, first))
one_call (Window s n) (Put k' v') a b e = let first : 115 ≡ 112 = ap (λ l. get_or l 0 0) e in absurd (omega (arith, first))
one_call (Window s n) (Del k') a b e = let first : 115 ≡ 100 = ap (λ l. get_or l 0 0) e in absurd (omega (arith, first))
one_call (Window s n) (Window s' n') a b e =
    let rest : decimal s ++ 32 ∷ decimal n ≡ decimal s' ++ 32 ∷ decimal n' = cc in
    let same = one_pair s n s' n' a.0 (omega (arith, a.2)) b.0 (omega (arith, b.2)) rest in
    cc (same.0, same.1)
one_call (Get k) (Swap k' o' v') a b e = let first : 103 ≡ 115 = ap (λ l. get_or l 0 0) e in absurd (omega (arith, first))
one_call (Put k v) (Swap k' o' v') a b e = let first : 112 ≡ 115 = ap (λ l. get_or l 0 0) e in absurd (omega (arith, first))
one_call (Del k) (Swap k' o' v') a b e = let first : 100 ≡ 115 = ap (λ l. get_or l 0 0) e in absurd (omega (arith, first))
one_call (Window s n) (Swap k' o' v') a b e = let second : 99 ≡ 119 = ap (λ l. get_or l 1 0) e in absurd (omega (arith, second))
one_call (Swap k o v) (Get k') a b e = let first : 115 ≡ 103 = ap (λ l. get_or l 0 0) e in absurd (omega (arith, first))
one_call (Swap k o v) (Put k' v') a b e = let first : 115 ≡ 112 = ap (λ l. get_or l 0 0) e in absurd (omega (arith, first))
one_call (Swap k o v) (Del k') a b e = let first : 115 ≡ 100 = ap (λ l. get_or l 0 0) e in absurd (omega (arith, first))
one_call (Swap k o v) (Window s' n') a b e = let second : 119 ≡ 99 = ap (λ l. get_or l 1 0) e in absurd (omega (arith, second))
one_call (Swap k o v) (Swap k' o' v') a b e =
    let rest : decimal k ++ 32 ∷ (decimal o ++ 32 ∷ decimal v) ≡ decimal k' ++ 32 ∷ (decimal o' ++ 32 ∷ decimal v') = cc in
    let same = one_three k o v k' o' v' a.0 a.1 a.2 b.0 b.1 b.2 rest in
    cc (same.0, same.1, same.2)
one_call (Get k) (Range l' u') a b e = let first : 103 ≡ 114 = ap (λ l. get_or l 0 0) e in absurd (omega (arith, first))
one_call (Put k v) (Range l' u') a b e = let first : 112 ≡ 114 = ap (λ l. get_or l 0 0) e in absurd (omega (arith, first))
one_call (Del k) (Range l' u') a b e = let first : 100 ≡ 114 = ap (λ l. get_or l 0 0) e in absurd (omega (arith, first))
one_call (Window s n) (Range l' u') a b e = let first : 115 ≡ 114 = ap (λ l. get_or l 0 0) e in absurd (omega (arith, first))
one_call (Swap k o v) (Range l' u') a b e = let first : 115 ≡ 114 = ap (λ l. get_or l 0 0) e in absurd (omega (arith, first))
one_call (Range l u) (Get k') a b e = let first : 114 ≡ 103 = ap (λ l. get_or l 0 0) e in absurd (omega (arith, first))
one_call (Range l u) (Put k' v') a b e = let first : 114 ≡ 112 = ap (λ l. get_or l 0 0) e in absurd (omega (arith, first))
one_call (Range l u) (Del k') a b e = let first : 114 ≡ 100 = ap (λ l. get_or l 0 0) e in absurd (omega (arith, first))
one_call (Range l u) (Window s' n') a b e = let first : 114 ≡ 115 = ap (λ l. get_or l 0 0) e in absurd (omega (arith, first))
one_call (Range l u) (Swap k' o' v') a b e = let first : 114 ≡ 115 = ap (λ l. get_or l 0 0) e in absurd (omega (arith, first))
one_call (Range l u) (Range l' u') a b e =
    let rest : decimal l ++ 32 ∷ bound_text u ≡ decimal l' ++ 32 ∷ bound_text u' = cc in
    let same = one_range l l' u u' a b rest in
    cc (same.0, same.1)
