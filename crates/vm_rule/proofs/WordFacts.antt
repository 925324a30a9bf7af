-- Words of the table as numbers: a state word is its state and its version, a translation word its frame and its
-- dirty bit. None of these asks that the word is below 2^64.
use Rattle.vm_rule.proofs.Prelude.{and_from, ap, arith, cases_Bool, div-add-mod', eq-eqb, false, finds, found}
use Rattle.vm_rule.proofs.Prelude.{frame-of, frame_in, mapping_of, MAX_VERSION, None, Page, refl, Some, state_of, sym}
use Rattle.vm_rule.proofs.Prelude.{top-clear, top-set, true, UNLOCKED, version_of, word_of, ℕ, ⊎_elim, ◌%◌, ◌*◌, ◌+◌}
use Rattle.vm_rule.proofs.Prelude.{◌-◌, ◌/◌, ◌<◌, ◌^◌, ◌∙◌, ◌≡◌, ◌≢◌, ◌≤◌}

-- a word is its state and its version
pub word-is : (n m : ℕ) → state_of n ≡ state_of m → version_of n ≡ version_of m → n ≡ m
unfolding state_of version_of
word-is n m s v = sym (div-add-mod' n (2 ^ 56)) ∙ ap (λ y. y * 2 ^ 56 + n % 2 ^ 56) s
    ∙ ap (λ y. m / 2 ^ 56 * 2 ^ 56 + y) v ∙ div-add-mod' m (2 ^ 56)

pub word-made : (n : ℕ) → word_of (state_of n) (version_of n) ≡ n
unfolding state_of version_of word_of
word-made n = div-add-mod' n (2 ^ 56)

-- the parts of a word that is made of them
pub word-state : (state version : ℕ) → version ≤ MAX_VERSION → state_of (word_of state version) ≡ state
unfolding state_of word_of
word-state state version l = omega arith

pub word-version : (state version : ℕ) → version ≤ MAX_VERSION → version_of (word_of state version) ≡ version
unfolding version_of word_of
word-version state version l = omega arith

pub version-within : (n : ℕ) → version_of n ≤ MAX_VERSION
unfolding version_of
version-within n = omega arith

-- one share less
pub less-state : (n : ℕ) → 1 ≤ state_of n → state_of (n - 2 ^ 56) ≡ state_of n - 1
unfolding state_of
less-state n l = omega arith

pub less-version : (n : ℕ) → 1 ≤ state_of n → version_of (n - 2 ^ 56) ≡ version_of n
unfolding state_of version_of
less-version n l = omega arith

-- an unlocked word is its version
pub bare-state : (n : ℕ) → n ≤ MAX_VERSION → state_of n ≡ UNLOCKED
unfolding state_of
bare-state n l = omega arith

pub bare-version : (n : ℕ) → n ≤ MAX_VERSION → version_of n ≡ n
unfolding version_of
bare-version n l = omega arith

-- the word that was found is the one expected, or not
pub finds-hit : (r : Page) (n expects : ℕ) → r.state ≡ state_of n → r.version ≡ version_of n → n ≡ expects
    → finds r expects ≡ true
finds-hit r n expects s v e = and_from _ _ (eq-eqb r.state (state_of expects) (s ∙ ap state_of e))
    (eq-eqb r.version (version_of expects) (v ∙ ap version_of e))

pub finds-miss : (r : Page) (n expects : ℕ) → r.state ≡ state_of n → r.version ≡ version_of n → n ≢ expects
    → finds r expects ≡ false
finds-miss r n expects s v ne =
    ⊎_elim (λ t. let k = found r expects t in absurd (ne (word-is n expects (sym s ∙ k.0) (sym v ∙ k.1)))) (λ f. f)
    (cases_Bool (finds r expects))

-- a translation word that is written: no frame, a clean page in frame f, a dirty one
pub mapping-none : mapping_of 0 ≡ None
unfolding frame_in
mapping-none = refl

pub mapping-clean : (f : ℕ) → f < 2 ^ 32 → mapping_of (f + 1) ≡ Some (record { frame = f; dirty = false })
mapping-clean f l = rw (frame-of (f + 1) f l (omega arith), top-clear (f + 1) (omega arith)) refl

pub mapping-dirty : (f : ℕ) → f < 2 ^ 32 → mapping_of (f + 1 + 2 ^ 63) ≡ Some (record { frame = f; dirty = true })
mapping-dirty f l = rw (frame-of (f + 1 + 2 ^ 63) f l (omega arith), top-set (f + 1 + 2 ^ 63) (omega arith)) refl
