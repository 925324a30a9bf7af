-- A page that the pass has locked is in use where a word of it is not 0, so the pass may write it.
use Rattle.std.proofs.Common.{[], ◌&&◌, ◌==◌, ◌≡◌, ◌≢◌, ◌∙◌, ◌∷◌, ap, Bool, false, inl, inr, List, refl, slice_index}
use Rattle.std.proofs.Common.{subst, suc, sym, true, zero, ℕ}
use Rattle.std.proofs.lemmas.Bool.{ne_eqb}
use Rattle.vm_event.specs.Prelude.{Version}
use Rattle.vm_page.specs.Pages.{all_zero}
use Rattle.vm_rule.specs.Prelude.{draft_of, last_of, Start}
use Rattle.vm_step.specs.Prelude.{Did, IsClaimed, View}
use Rattle.vm_guard.specs.{Guards.IsLocked, Guards.IsSet, Quiet.IsQuiet}

none-and : (b : Bool) → (b && false) ≡ false
none-and true = refl
none-and false = refl

pub word-used : (words : List ℕ) (i : ℕ) → slice_index words i ≢ 0 → all_zero words ≡ false
word-used [] i some = absurd (some refl)
word-used (x ∷ xs) zero some = ap (λ (b : Bool). b && all_zero xs) (ne_eqb x 0 some)
word-used (x ∷ xs) (suc i) some = ap (λ (b : Bool). (x == 0) && b) (word-used xs i some) ∙ none-and (x == 0)

module _ {X : Type 0} where
  -- a page in use is the pass's to write
  pub claims-used : (v : View X) (p : ℕ) → all_zero (last_of v p).words ≡ false → IsClaimed v p
  claims-used v p used = inr (inl used)

  -- page p was locked, whose number q is, and then a word of it read, which is not 0
  module _ {tied : Start → ℕ → List ℕ → ℕ → List ℕ → Type 0} {p q frame version : ℕ} {dirty : Bool} {done : List Did} {u v w : View X}
      (same : q ≡ p) (taken : IsLocked tied p frame version dirty u v) (reads : IsQuiet q done v w) (i : ℕ)
      (some : slice_index (draft_of v q) i ≢ 0) where
    locked : IsLocked tied q frame version dirty u v
    locked = subst (λ (n : ℕ). IsLocked tied n frame version dirty u v) (sym same) taken

    last-stays : last_of w q ≡ last_of v q
    last-stays = (reads.knows q (inl locked.holding.owns)).last

    pub read-used : all_zero (last_of w q).words ≡ false
    read-used = ap (λ (y : Version). all_zero y.words) last-stays ∙ ap all_zero (sym locked.draft) ∙ word-used (draft_of v q) i some

    -- so it is after a word of it was set, and may be released then
    pub set-used : (z : View X) (f : ℕ) (d : Bool) (j x : ℕ) → IsSet q f d j x w z → all_zero (last_of z q).words ≡ false
    set-used z f d j x set = ap (λ (y : Version). all_zero y.words) set.last ∙ read-used

    pub set-claims : (z : View X) (f : ℕ) (d : Bool) (j x : ℕ) → IsSet q f d j x w z → IsClaimed z q
    set-claims z f d j x set = claims-used z q (set-used z f d j x set)
