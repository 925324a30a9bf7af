-- The word that a lock expects of a page: the word seen itself, or the unlocked one at its version. A page that is to
-- be given may be evicted.
use Rattle.vm_guard.proofs.OpenReads.{readable-state}
use Rattle.vm_guard.proofs.Prelude.{AgainOrWorn, ap, arith, Deny, EVICTED, inl, is_readable, IsToExpect, IsToSeize}
use Rattle.vm_guard.proofs.Prelude.{LOCKED, MARKED, MAX_VERSION, nat_tests, NotCrowded, refl, SameOrUnlocked}
use Rattle.vm_guard.proofs.Prelude.{state_of, subst, sym, true, UNLOCKED, UnlockedExpected, version-within}
use Rattle.vm_guard.proofs.Prelude.{version_of, word-state, word-version, word_of, ℕ, ⊎_elim, ◌<◌, ◌∙◌, ◌≡◌, ◌≢◌, ◌≤◌}
use Rattle.vm_guard.proofs.Prelude.{◌⊎◌}

below-last : (n : ℕ) → n ≤ MAX_VERSION → n ≢ MAX_VERSION → n < MAX_VERSION
below-last n l ne = omega arith

pub seize-same : (word : ℕ) → (state_of word ≡ UNLOCKED) ⊎ ((state_of word ≡ MARKED) ⊎ (state_of word ≡ EVICTED))
    → version_of word ≢ MAX_VERSION → IsToSeize word word
seize-same word state ne = record {
  may_lock = record { state = state; version = below-last (version_of word) (version-within word) ne };
  version = refl;
}

pub seize-bare : (word version : ℕ) → version ≡ version_of word → version_of word ≢ MAX_VERSION → IsToSeize word (word_of UNLOCKED version)
seize-bare word version e ne =
    let within : version ≤ MAX_VERSION = subst (λ (n : ℕ). n ≤ MAX_VERSION) (sym e) (version-within word) in
    let same : version_of word ≡ version_of (word_of UNLOCKED version) = sym e ∙ sym (word-version UNLOCKED version within) in
    record {
      may_lock = record {
        state = inl (word-state UNLOCKED version within);
        version = subst (λ (n : ℕ). n < MAX_VERSION) same (below-last (version_of word) (version-within word) ne);
      };
      version = same;
    }

-- ---- of a page that is resident

-- a word that can be read, and is neither Unlocked nor Marked, has shares
pub has-shares : (state : ℕ) → is_readable state ≡ true → state ≢ UNLOCKED → state ≢ MARKED → (1 ≤ state) × (state < LOCKED)
has-shares state readable bare unmarked = (grind (arith, nat_tests), grind (arith, nat_tests))

-- a word that may be locked, and is not an evicted page's, is to be expected of a page that is resident
pub expect-resident : (word expects : ℕ) → IsToSeize word expects → SameOrUnlocked word expects
    → state_of word ≢ EVICTED → IsToExpect word expects
expect-resident word expects to kept ne =
    ⊎_elim
    (λ (e : expects ≡ word).
    let state : (state_of word ≡ UNLOCKED) ⊎ ((state_of word ≡ MARKED) ⊎ (state_of word ≡ EVICTED)) =
    subst (λ (n : ℕ). (state_of n ≡ UNLOCKED) ⊎ ((state_of n ≡ MARKED) ⊎ (state_of n ≡ EVICTED))) e
    to.may_lock.state in
    record {
      may_lock = to.may_lock;
      version = to.version;
      resident = λ gone. ne (sym (ap state_of e) ∙ gone);
      open_word = readable-state (state_of word) (omega arith) (λ locked. omega arith) ne;
    })
    (λ (u : UnlockedExpected word expects).
    let bare : state_of expects ≡ 0 = ap state_of u.2 ∙ word-state UNLOCKED (version_of word) (version-within word) in
    record {
      may_lock = to.may_lock;
      version = to.version;
      resident = λ gone. omega (arith, bare, gone);
      open_word = readable-state (state_of word) (omega (arith, u.1)) (λ locked. omega (arith, locked, u.1)) ne;
    })
    kept

-- an answer that a page is to be tried again, or is worn, is not that it is crowded
pub not-crowded : (d : Deny) → AgainOrWorn d → NotCrowded d
not-crowded (Deny.Again saw) kind = tt
not-crowded (Deny.Worn q) kind = tt
not-crowded d kind = absurd kind
