-- A call with a byte key is written on one line, and a text is that of one call.
use Rattle.std.specs.Fmt.{decimal}
use Rattle.std.proofs.Common.{[], ◌++◌, ◌<◌, ◌^◌, ◌∙◌, ◌∷◌, ◌≡◌, ◌≢◌, ◌⊎◌, ap, arith, codes, get_or, inl, inr, List, refl, ℕ}
use Rattle.std.proofs.lemmas.Fmt.{decimal_injective}
use Rattle.vm_bytes_form.specs.Strings.{IsString}
use Rattle.vm_bytes_laws.specs.declared.call.KeyCall.{KeyCall}
use Rattle.vm_bytes_laws.specs.declared.call.KeyCall.TheVariants.{Del, Get, Put, Swap, Window}
use Rattle.vm_bytes_text.specs.KeyTexts.{key_text}
use Rattle.vm_script.specs.{Cuts.IsCut, Cuts.Lacks, Orders.TellsCalls}
use Rattle.vm_script.proofs.Words.{cut_here, each_append, lacks_decimal, one_cut}
use Rattle.vm_bytes_script.specs.KeyScripts.{IsKeyScriptCall, key_call_text, key_grammar}
use Rattle.vm_bytes_script.proofs.Keys.{lacks_key, one_key}

-- the word of a call
abbrev pub verb_text : KeyCall → List ℕ
verb_text (Get key) = codes "get"
verb_text (Put key value) = codes "put"
verb_text (Del key) = codes "del"
verb_text (Window start most) = codes "scan"
verb_text (Swap key want value) = []

-- what stands behind it
abbrev pub rest_text : KeyCall → List ℕ
rest_text (Get key) = key_text key
rest_text (Put key value) = key_text key ++ 32 ∷ decimal value
rest_text (Del key) = key_text key
rest_text (Window start most) = key_text start ++ 32 ∷ decimal most
rest_text (Swap key want value) = []

pub text_is : (call : KeyCall) → IsKeyScriptCall call → key_call_text call ≡ verb_text call ++ 32 ∷ rest_text call
text_is (Get key) is = refl
text_is (Put key value) is = refl
text_is (Del key) is = refl
text_is (Window start most) is = refl
text_is (Swap key want value) is = absurd is

lacks_verb : (at : ℕ) (call : KeyCall) → at < 97 → Lacks at (verb_text call)
lacks_verb at (Get key) low = (λ e. omega arith, (λ e. omega arith, (λ e. omega arith, tt)))
lacks_verb at (Put key value) low = (λ e. omega arith, (λ e. omega arith, (λ e. omega arith, tt)))
lacks_verb at (Del key) low = (λ e. omega arith, (λ e. omega arith, (λ e. omega arith, tt)))
lacks_verb at (Window start most) low = (λ e. omega arith, (λ e. omega arith, (λ e. omega arith, (λ e. omega arith, tt))))
lacks_verb at (Swap key want value) low = tt

lacks_pair : (at : ℕ) (key : List ℕ) (number : ℕ) → at < 32 → IsString 64 key → number < 2 ^ 64 → Lacks at (key_text key ++ 32 ∷ decimal number)
lacks_pair at key number low k n = each_append (λ b. b ≢ at) (key_text key) (32 ∷ decimal number)
    (lacks_key at key (omega (arith, low)) k) (λ e. omega arith, lacks_decimal at number (omega arith) n)

lacks_rest : (call : KeyCall) → IsKeyScriptCall call → Lacks 10 (rest_text call)
lacks_rest (Get key) is = lacks_key 10 key (omega arith) is
lacks_rest (Put key value) is = lacks_pair 10 key value (omega arith) is.0 is.1
lacks_rest (Del key) is = lacks_key 10 key (omega arith) is
lacks_rest (Window start most) is = lacks_pair 10 start most (omega arith) is.0 (omega (arith, is.2))
lacks_rest (Swap key want value) is = tt

lacks_call : (call : KeyCall) → IsKeyScriptCall call → Lacks 10 (key_call_text call)
lacks_call call is = rw (text_is call is)
    (each_append (λ b. b ≢ 10) (verb_text call) (32 ∷ rest_text call) (lacks_verb 10 call (omega arith))
    (λ e. omega arith, lacks_rest call is))

-- the first word of a call's text is its verb, and its key stands behind it
pub verb_of : (bytes verb rest : List ℕ) (call : KeyCall) → IsCut bytes 32 verb rest → IsKeyScriptCall call → bytes ≡ key_call_text call
    → (verb ≡ verb_text call) × (rest ≡ rest_text call)
verb_of bytes verb rest call cut is e = cut_here bytes 32 verb rest (verb_text call) (rest_text call) cut
    (lacks_verb 32 call (omega arith)) (e ∙ text_is call is)

pub one_pair : (key key' : List ℕ) (n n' : ℕ) → IsString 64 key → IsString 64 key' → n < 2 ^ 64 → n' < 2 ^ 64
    → key_text key ++ 32 ∷ decimal n ≡ key_text key' ++ 32 ∷ decimal n' → (key ≡ key') × (n ≡ n')
one_pair key key' n n' k k' small small' e =
    let parts = one_cut 32 (key_text key) (decimal n) (key_text key') (decimal n') (lacks_key 32 key (omega arith) k)
    (lacks_key 32 key' (omega arith) k') e in
    (one_key key key' k k' parts.0, decimal_injective n n' small small' parts.1)

-- a window that may be asked for shows 1 to 28 pairs
pub no_window : (s start : List ℕ) (n most : ℕ) → IsKeyScriptCall (Window s n) → IsString 64 start → most < 2 ^ 64
    → key_text s ++ 32 ∷ decimal n ≡ key_text start ++ 32 ∷ decimal most → (most < 1) ⊎ (28 < most) → ⊥
no_window s start n most is k small e out =
    let same = one_pair s start n most is.0 k (omega (arith, is.2)) small e in
    elim out [ inl low ↦ omega (arith, low, same.1, is.1) | inr high ↦ omega (arith, high, same.1, is.2) ]

one_call : (a b : KeyCall) → IsKeyScriptCall a → IsKeyScriptCall b → key_call_text a ≡ key_call_text b → a ≡ b
one_call (Get k) (Get k') a b e = let rest : key_text k ≡ key_text k' = cc in ap Get (one_key k k' a b rest)
one_call (Get k) (Put k' v') a b e = let first : 103 ≡ 112 = ap (λ l. get_or l 0 0) e in absurd (omega (arith, first))
one_call (Get k) (Del k') a b e = let first : 103 ≡ 100 = ap (λ l. get_or l 0 0) e in absurd (omega (arith, first))
one_call (Get k) (Window s' n') a b e = let first : 103 ≡ 115 = ap (λ l. get_or l 0 0) e in absurd (omega (arith, first))
one_call (Put k v) (Get k') a b e = let first : 112 ≡ 103 = ap (λ l. get_or l 0 0) e in absurd (omega (arith, first))
one_call (Put k v) (Put k' v') a b e =
    let rest : key_text k ++ 32 ∷ decimal v ≡ key_text k' ++ 32 ∷ decimal v' = cc in
    let same = one_pair k k' v v' a.0 b.0 a.1 b.1 rest in
    cc (same.0, same.1)
one_call (Put k v) (Del k') a b e = let first : 112 ≡ 100 = ap (λ l. get_or l 0 0) e in absurd (omega (arith, first))
one_call (Put k v) (Window s' n') a b e = let first : 112 ≡ 115 = ap (λ l. get_or l 0 0) e in absurd (omega (arith, first))
one_call (Del k) (Get k') a b e = let first : 100 ≡ 103 = ap (λ l. get_or l 0 0) e in absurd (omega (arith, first))
one_call (Del k) (Put k' v') a b e = let first : 100 ≡ 112 = ap (λ l. get_or l 0 0) e in absurd (omega (arith, first))
one_call (Del k) (Del k') a b e = let rest : key_text k ≡ key_text k' = cc in ap Del (one_key k k' a b rest)
one_call (Del k) (Window s' n') a b e = let first : 100 ≡ 115 = ap (λ l. get_or l 0 0) e in absurd (omega (arith, first))
one_call (Window s n) (Get k') a b e = let first : 115 ≡ 103 = ap (λ l. get_or l 0 0) e in absurd (omega (arith, first))
one_call (Window s n) (Put k' v') a b e = let first : 115 ≡ 112 = ap (λ l. get_or l 0 0) e in absurd (omega (arith, first))
one_call (Window s n) (Del k') a b e = let first : 115 ≡ 100 = ap (λ l. get_or l 0 0) e in absurd (omega (arith, first))
one_call (Window s n) (Window s' n') a b e =
    let rest : key_text s ++ 32 ∷ decimal n ≡ key_text s' ++ 32 ∷ decimal n' = cc in
    let same = one_pair s s' n n' a.0 b.0 (omega (arith, a.2)) (omega (arith, b.2)) rest in
    cc (same.0, same.1)
one_call (Swap k w v) b is_a is_b e = absurd is_a
one_call a (Swap k w v) is_a is_b e = absurd is_b

pub tells : TellsCalls key_grammar
tells = record { one_line = lacks_call; one_call = one_call }
