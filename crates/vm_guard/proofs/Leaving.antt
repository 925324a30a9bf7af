-- A pass that locks a page exclusively which it was reading optimistically has left that read behind.
use Rattle.vm_guard.proofs.Prelude.{ap, append_assoc, arith, Bool, cases_eq, Did, HasLeft, inl, inr, IsLocked}
use Rattle.vm_guard.proofs.Prelude.{IsOlder, IsReading, IsSteady, List, LOCKED, MAX_VERSION, None, Open, Option}
use Rattle.vm_guard.proofs.Prelude.{Release, rules, Some, Start, state_of, subst, sym, version_of, View, word-state}
use Rattle.vm_guard.proofs.Prelude.{word-version, word_of, ℕ, ⊎_elim, ◌++◌, ◌<◌, ◌∙◌, ◌∷◌, ◌≡◌, ◌≤◌, ◌⊎◌}

-- an open read is of no later version than the word found
pub older-read : (found : ℕ) (o : Option Open) → IsOlder found o → (x : Open) → o ≡ Some x → x.version ≤ version_of found
older-read found None older x e = cc
older-read found (Some y) older x e = let same : y ≡ x = cc in subst (λ (z : Open). z.version ≤ version_of found) same older.0

module _ {X : Type 0} where
  -- what a read has left behind stays behind
  pub has-left-on : (p word : ℕ) (done : List Did) {own : List Release} (v w : View X) → HasLeft p word v
      → IsSteady done own v w → HasLeft p word w
  has-left-on p word done v w h steady =
      let cut = steady.log ∙ ap (λ (l : List Did). l ++ done) h.cut ∙ append_assoc h.earlier (h.step ∷ h.later) done in
      search (rules, cut, h)

  pub lock-leaves : (tied : Start → ℕ → List ℕ → ℕ → List ℕ → Type 0) (p word frame f version : ℕ) (dirty : Bool)
      (v w : View X) → IsReading p word frame v → IsLocked tied p f version dirty v w → HasLeft p word w
  lock-leaves tied p word frame f version dirty v w reads k =
      let wr = k.wrote in
      let within : version ≤ MAX_VERSION = (let below : version < MAX_VERSION = k.holding.below in omega (arith, below)) in
      let same : version_of (word_of LOCKED version) ≡ version = word-version LOCKED version within in
      let older : version_of word ≤ version = k.older _ reads.reading in
      let cut = k.elsewhere.steady.log ∙ ap (λ (l : List Did). v.log ++ l) wr.cut
      ∙ sym (append_assoc v.log wr.earlier (wr.step ∷ wr.later)) in
      let gone : (version_of word < version_of (word_of LOCKED version))
      ⊎ ((state_of (word_of LOCKED version) ≡ LOCKED) × (version_of (word_of LOCKED version) ≡ version_of word))
      = ⊎_elim
      (λ e. inr (word-state LOCKED version within, same ∙ sym e))
      (λ ne. inl (subst (λ (n : ℕ). version_of word < n) (sym same) (omega (arith, older, ne))))
      (cases_eq (version_of word) version) in
      search (rules, cut, wr, reads.open_word, gone)
