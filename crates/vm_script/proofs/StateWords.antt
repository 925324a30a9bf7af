-- State words: what each state is called, and that `S:V` spells one word.
use Rattle.std.specs.Fmt.{decimal}
use Rattle.std.specs.Prelude.{◌==◌}
use Rattle.std.specs.Str.Parse.{AllDigits}
use Rattle.std.proofs.Common.{[], ◌++◌, ◌<◌, ◌^◌, ◌∙◌, ◌∷◌, ◌≡◌, ◌≢◌, ◌≤◌, ◌⊎◌, ap, ap₂, arith, Bool, codes, eqb-true}
use Rattle.std.proofs.Common.{false, if◌then◌else◌, inl, inr, List, lit<, refl, subst, sym, true, ℕ}
use Rattle.std.proofs.lemmas.Bool.{eqb-false}
use Rattle.std.proofs.lemmas.Fmt.{decimal_injective, decimal_is_IsNumeral}
use Rattle.std.proofs.lemmas.Str.Parse.{digit_from_value}
use Rattle.vm_event.specs.Prelude.{state_of, version_of, word_of}
use Rattle.vm_script.specs.{Cuts.IsCut, Cuts.Lacks, EventLines.state_name, EventLines.state_text}
use Rattle.vm_script.proofs.Words.{cut_here, each_append, one_cut}

-- what a state may be called
pub data IsName (state : ℕ) (name : List ℕ) : Type 0 where
  unlocked : state ≡ 0 → name ≡ codes "u" → IsName state name
  locked : state ≡ 253 → name ≡ codes "x" → IsName state name
  marked : state ≡ 254 → name ≡ codes "m" → IsName state name
  evicted : state ≡ 255 → name ≡ codes "e" → IsName state name
  shared : 1 ≤ state → name ≡ decimal state → IsName state name

name_by : (state : ℕ) (u x m e : Bool) → (state == 0) ≡ u → (state == 253) ≡ x → (state == 254) ≡ m → (state == 255) ≡ e
    → IsName state (if u then codes "u" else if x then codes "x" else if m then codes "m" else if e then codes "e" else decimal state)
name_by state true x m e hu hx hm he = unlocked (eqb-true state 0 hu) refl
name_by state false true m e hu hx hm he = locked (eqb-true state 253 hx) refl
name_by state false false true e hu hx hm he = marked (eqb-true state 254 hm) refl
name_by state false false false true hu hx hm he = evicted (eqb-true state 255 he) refl
name_by state false false false false hu hx hm he = shared (let h = eqb-false state 0 hu in omega arith) refl

pub names : (state : ℕ) → IsName state (state_name state)
names state = name_by state (state == 0) (state == 253) (state == 254) (state == 255) refl refl refl refl

pub version_in : (word : ℕ) → version_of word < 2 ^ 56
unfolding version_of
version_in word = omega arith

pub state_in : (word : ℕ) → word < 2 ^ 64 → state_of word < 256
unfolding state_of
state_in word h = omega arith

pub state_of_word : (state version : ℕ) → version < 2 ^ 56 → state_of (word_of state version) ≡ state
unfolding state_of word_of
state_of_word state version h = omega arith

pub version_of_word : (state version : ℕ) → version < 2 ^ 56 → version_of (word_of state version) ≡ version
unfolding version_of word_of
version_of_word state version h = omega arith

pub word_in : (state version : ℕ) → state < 256 → version < 2 ^ 56 → word_of state version < 2 ^ 64
unfolding word_of
word_in state version h k = omega arith

pub word_is : (word : ℕ) → word_of (state_of word) (version_of word) ≡ word
unfolding word_of state_of version_of
word_is word = omega arith

-- a byte that no digit is
abbrev pub IsNoDigit : ℕ → Type 0
IsNoDigit at = (at < 48) ⊎ (57 < at)

lacks_digits : (at : ℕ) → IsNoDigit at → (ds : List ℕ) → AllDigits 10 ds → Lacks at ds
lacks_digits at not_in [] h = tt
lacks_digits at not_in (d ∷ ds) h = (
  let r = digit_from_value d h.0 in λ e. elim not_in [ inl low ↦ omega (arith, r) | inr high ↦ omega (arith, r) ],
  lacks_digits at not_in ds h.1,
)

pub lacks_number : (at n : ℕ) → IsNoDigit at → n < 2 ^ 64 → Lacks at (decimal n)
lacks_number at n not_in h = lacks_digits at not_in (decimal n) (decimal_is_IsNumeral n h).0.1

-- a byte that no state word has before its colon
pub record IsNoName (at : ℕ) : Type 0 where
  pub digit : IsNoDigit at
  pub letter : at < 97

pub lacks_name : (at state : ℕ) → IsNoName at → state < 256 → Lacks at (state_name state)
lacks_name at state not_in h = by_name (state_name state) (names state) where
  by_name : (name : List ℕ) → IsName state name → Lacks at name
  by_name name (unlocked s e) = rw e (λ k. omega (arith, not_in.letter), tt)
  by_name name (locked s e) = rw e (λ k. omega (arith, not_in.letter), tt)
  by_name name (marked s e) = rw e (λ k. omega (arith, not_in.letter), tt)
  by_name name (evicted s e) = rw e (λ k. omega (arith, not_in.letter), tt)
  by_name name (shared s e) = rw e (lacks_number at state not_in.digit (omega arith))

pub colon : IsNoName 58
colon = record { digit = inr (lit< tt); letter = lit< tt }

pub lacks_state : (at word : ℕ) → at < 48 → word < 2 ^ 64 → Lacks at (state_text word)
lacks_state at word low h =
    let v = version_in word in
    each_append (λ b. b ≢ at) (state_name (state_of word)) (58 ∷ decimal (version_of word))
    (lacks_name at (state_of word) (record { digit = inl low; letter = omega arith }) (state_in word h))
    (λ e. omega arith, lacks_number at (version_of word) (inl low) (omega arith))

-- where a state word's text is cut
pub cut_state : (text name version : List ℕ) (word : ℕ) → IsCut text 58 name version → word < 2 ^ 64
    → text ≡ state_text word → (name ≡ state_name (state_of word)) × (version ≡ decimal (version_of word))
cut_state text name version word cut h e =
    cut_here text 58 name version (state_name (state_of word)) (decimal (version_of word)) cut
    (lacks_name 58 (state_of word) colon (state_in word h)) e

pub spelled_state : (text name digits : List ℕ) (state version word : ℕ) → word ≡ word_of state version → state < 256
    → version < 2 ^ 56 → text ≡ name ++ 58 ∷ digits → name ≡ state_name state → digits ≡ decimal version
    → (word < 2 ^ 64) × (text ≡ state_text word)
spelled_state text name digits state version word is h k whole name_is digits_is =
    subst (λ (w : ℕ). (w < 2 ^ 64) × (text ≡ state_text w)) (sym is) (
      word_in state version h k,
      whole ∙ ap₂ (λ (a b : List ℕ). a ++ 58 ∷ b)
          (name_is ∙ ap state_name (sym (state_of_word state version k)))
          (digits_is ∙ ap decimal (sym (version_of_word state version k))),
    )

apart : (a b : ℕ) → a ≢ b → a ∷ [] ≢ b ∷ []
apart a b differ = λ e. differ (cc)

one_name : (one other : ℕ) → one < 256 → other < 256 → state_name one ≡ state_name other → one ≡ other
one_name one other h k e = by_names (state_name one) (state_name other) (names one) (names other) e where
  letter : (at n : ℕ) → 57 < at → n < 256 → decimal n ≢ at ∷ []
  letter at n high small same = let l = subst (λ (bytes : List ℕ). Lacks at bytes) same
      (lacks_number at n (inr high) (omega arith)) in l.0 refl

  by_names : (a b : List ℕ) → IsName one a → IsName other b → a ≡ b → one ≡ other
  by_names a b (unlocked s x) (unlocked t y) same = s ∙ sym t
  by_names a b (locked s x) (locked t y) same = s ∙ sym t
  by_names a b (marked s x) (marked t y) same = s ∙ sym t
  by_names a b (evicted s x) (evicted t y) same = s ∙ sym t
  by_names a b (shared s x) (shared t y) same = decimal_injective one other (omega arith) (omega arith) (sym x ∙ same ∙ y)
  by_names a b (shared s x) (unlocked t y) same = absurd (letter 117 one (lit< tt) h (sym x ∙ same ∙ y))
  by_names a b (shared s x) (locked t y) same = absurd (letter 120 one (lit< tt) h (sym x ∙ same ∙ y))
  by_names a b (shared s x) (marked t y) same = absurd (letter 109 one (lit< tt) h (sym x ∙ same ∙ y))
  by_names a b (shared s x) (evicted t y) same = absurd (letter 101 one (lit< tt) h (sym x ∙ same ∙ y))
  by_names a b (unlocked s x) (shared t y) same = absurd (letter 117 other (lit< tt) k (sym y ∙ sym same ∙ x))
  by_names a b (locked s x) (shared t y) same = absurd (letter 120 other (lit< tt) k (sym y ∙ sym same ∙ x))
  by_names a b (marked s x) (shared t y) same = absurd (letter 109 other (lit< tt) k (sym y ∙ sym same ∙ x))
  by_names a b (evicted s x) (shared t y) same = absurd (letter 101 other (lit< tt) k (sym y ∙ sym same ∙ x))
  by_names a b (unlocked s x) (locked t y) same = absurd (apart 117 120 (omega arith) (sym x ∙ same ∙ y))
  by_names a b (unlocked s x) (marked t y) same = absurd (apart 117 109 (omega arith) (sym x ∙ same ∙ y))
  by_names a b (unlocked s x) (evicted t y) same = absurd (apart 117 101 (omega arith) (sym x ∙ same ∙ y))
  by_names a b (locked s x) (unlocked t y) same = absurd (apart 120 117 (omega arith) (sym x ∙ same ∙ y))
  by_names a b (locked s x) (marked t y) same = absurd (apart 120 109 (omega arith) (sym x ∙ same ∙ y))
  by_names a b (locked s x) (evicted t y) same = absurd (apart 120 101 (omega arith) (sym x ∙ same ∙ y))
  by_names a b (marked s x) (unlocked t y) same = absurd (apart 109 117 (omega arith) (sym x ∙ same ∙ y))
  by_names a b (marked s x) (locked t y) same = absurd (apart 109 120 (omega arith) (sym x ∙ same ∙ y))
  by_names a b (marked s x) (evicted t y) same = absurd (apart 109 101 (omega arith) (sym x ∙ same ∙ y))
  by_names a b (evicted s x) (unlocked t y) same = absurd (apart 101 117 (omega arith) (sym x ∙ same ∙ y))
  by_names a b (evicted s x) (locked t y) same = absurd (apart 101 120 (omega arith) (sym x ∙ same ∙ y))
  by_names a b (evicted s x) (marked t y) same = absurd (apart 101 109 (omega arith) (sym x ∙ same ∙ y))

-- one state word is spelled by one text
pub one_state : (one other : ℕ) → one < 2 ^ 64 → other < 2 ^ 64 → state_text one ≡ state_text other → one ≡ other
one_state one other h k e =
    let v = version_in one in
    let w = version_in other in
    let both = one_cut 58 (state_name (state_of one)) (decimal (version_of one)) (state_name (state_of other))
    (decimal (version_of other)) (lacks_name 58 (state_of one) colon (state_in one h))
    (lacks_name 58 (state_of other) colon (state_in other k)) e in
    let state : state_of one ≡ state_of other = one_name (state_of one) (state_of other) (state_in one h) (state_in other k) both.0 in
    let version : version_of one ≡ version_of other = decimal_injective (version_of one) (version_of other)
    (omega arith) (omega arith) both.1 in
    sym (word_is one) ∙ ap₂ word_of state version ∙ word_is other
