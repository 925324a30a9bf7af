-- A pass that is alone brings a page, writes and releases it, sweeps, and brings it again: the word that was set is
-- the page's over calls that leave its
-- last words; and the calls succeed where the page is far enough below the last version, and its block never fails.
use Rattle.vm_rule.specs.declared.view.WordPlace.TheVariants as places
use Rattle.vm_pool.proofs.{Keeping.keeps-alone, Knowing.brought-word, Knowing.when-free}
use Rattle.vm_pool_callers.proofs.OnePage.{asked-reads, is-out, no-fault, out-reads, swept-free}
use Rattle.vm_pool_callers.proofs.Prelude.{[], alone-then, ap, append-none, arith, at, Bool, Bring, Did, draft_of}
use Rattle.vm_pool_callers.proofs.Prelude.{false≢true, get_or-set_same, HasFree, IfSome, inl, is_readable, IsAlone}
use Rattle.vm_pool_callers.proofs.Prelude.{IsKnownFree, IsKnownOut, IsReleased, IsSet, IsSome, IsSteady, IsSure}
use Rattle.vm_pool_callers.proofs.Prelude.{IsSwept, KeepsLocks, known_version, known_word_at, KnowsAsked, KnowsBring}
use Rattle.vm_pool_callers.proofs.Prelude.{last_in, last_of, length, List, MAX_VERSION, None, Option, Origin, Release}
use Rattle.vm_pool_callers.proofs.Prelude.{Report, slice_index, slice_set, Some, state_of, StaysAlone, still-alone}
use Rattle.vm_pool_callers.proofs.Prelude.{subst, sym, true, UNLOCKED, Version, version_of, View, word-state}
use Rattle.vm_pool_callers.proofs.Prelude.{word-version, ℕ, ⊎_elim, ◌+◌, ◌<◌, ◌∙◌, ◌≡◌, ◌≤◌}

module _ {X : Type 0} where
  -- the calls of a guard leave it so
  pub steady-alone : {done : List Did} {own : List Release} {v w : View X} → IsSteady done own v w → IsAlone v → IsAlone w
  steady-alone {v = v} {w = w} s = still-alone v w s.parts s.alone.current

  -- the guard's page is p: word i of its draft was set, and the page was released
  pub set-words : (p i x q n frame version : ℕ) (dirty : Bool) (said : Option X) (v w z : View X) → q ≡ p → n ≡ p
      → IsSet q frame dirty i x v w → IsReleased n version said w z
      → (last_of z p).words ≡ slice_set (draft_of v p) i x
  set-words p i x q n frame version dirty said v w z e f is released =
      ap (λ (k : ℕ). (last_of z k).words) (sym f)
      ∙ ap (λ (l : Version). l.words) released.last
      ∙ ap (draft_of w) (f ∙ sym e)
      ∙ is.draft
      ∙ ap (λ (k : ℕ). slice_set (draft_of v k) i x) e

  -- two calls that keep the locks, and a third one, leave the word that was set
  pub word-back : (p i x : ℕ) (words : List ℕ) (r a b z : View X) → IsAlone r → (last_of r p).words ≡ slice_set words
      i x → i < length words → KeepsLocks r a → KeepsLocks a b → StaysAlone b z
      → slice_index (last_of z p).words i ≡ x
  word-back p i x words r a b z alone is inside sweeps brings reads =
      let parts : (b.used ≡ r.used) × (b.fresh ≡ r.fresh) = (brings.parts.0 ∙ sweeps.parts.0, brings.parts.1 ∙ sweeps.parts.1) in
      let stays : StaysAlone r z = alone-then r b z parts (alone-then r a b sweeps.parts sweeps.alone brings.alone) reads in
      ap (λ (l : List ℕ). slice_index l i) (stays.words alone.0 alone.1 p ∙ is) ∙ get_or-set_same words i x 0 inside

pub some-is : (r : Option ℕ) (x : ℕ) → IsSome r → IfSome r (λ y. y ≡ x) → r ≡ Some x
some-is None x some is = absurd (false≢true some)
some-is (Some y) x some is = ap (λ (n : ℕ). Some n) is

module _ {X : Type 0} where
  -- a page that was brought can be locked
  pub first-locks : (cap p : ℕ) (old new : List ℕ) (v w : View X) (answer : Bring) → at 0 v.start.bounds p ≡ 0
      → known_version v p < MAX_VERSION → IsSure p v w answer → KnowsBring cap p old new v w answer
      → IsKnownFree p w × (version_of (known_word_at w (places.State p)) ≡ known_version v p + 1)
  first-locks cap p old new v w answer none low s k =
      let is = brought-word (subst (λ (b : Bring). KnowsBring cap p old new v w b) (no-fault p v w answer none s) k) in (
        inl (ap state_of is ∙ word-state UNLOCKED (known_version v p + 1) (omega (arith, low))),
        ap version_of is
            ∙ word-version UNLOCKED (known_version v p + 1) (omega (arith, low)),
      )

  -- steps of a pass that is alone, without a release, leave the last version of each page
  pub same-last : (done : List Did) (p : ℕ) (v w : View X) → IsAlone v → IsSteady done [] v w → last_of w p ≡ last_of v p
  same-last done p v w a s =
      ap (λ (o : Origin). last_in o w.releases p) s.start
      ∙ ap (λ (l : List Release). last_in v.start l p) (s.alone.releases a.0 a.1 ∙ append-none v.releases)

  pub same-version : (done : List Did) (p : ℕ) (v w : View X) → IsAlone v → IsSteady done [] v w
      → (last_of w p).version ≡ (last_of v p).version
  same-version done p v w a s = ap (λ (y : Version). y.version) (same-last done p v w a s)

  -- a page that is free can be read after a sweep and another call of `bring`
  pub reads-again : (want cap most p : ℕ) (old new last : List ℕ) (report : Report) (v x w : View X) (answer : Bring)
      → IsAlone v → 1 ≤ cap → 1 ≤ most → p < v.start.pages → IsKnownFree p v
      → version_of (known_word_at v (places.State p)) + 1 < MAX_VERSION
      → at 0 v.start.bounds p ≡ 0 → IsSwept want cap old new report v x → KeepsLocks v x
      → (IsAlone x → IsKnownOut p x → HasFree new x → IsSure p x w answer)
      → (IsAlone x → KnowsAsked most p new last x w answer)
      → is_readable (state_of (known_word_at w (places.State p))) ≡ true
  reads-again want cap most p old new last report v x w answer alone one some page free low none s keeps sure table =
      let still : IsAlone x = keeps-alone keeps alone in
      let bound : at 0 x.start.bounds p ≡ 0 = subst (λ (o : Origin). at 0 o.bounds p ≡ 0) (sym keeps.start) none in
      let there : p < x.start.pages = subst (λ (o : Origin). p < o.pages) (sym keeps.start) page in
      ⊎_elim
      (λ in-frame. asked-reads most p x some there still in-frame.0
      (subst (λ (n : ℕ). n + 1 < MAX_VERSION) (sym in-frame.1) low) bound new last w answer (table still))
      (λ out.
      let known : IsKnownOut p x = is-out p (version_of (known_word_at v (places.State p)) + 1) x low out.0 in
      out-reads most p new last x w answer bound known (sure still known (inl out.1))
      (when-free most p new last x w answer (inl out.1) (table still)))
      (swept-free want cap old new report v x s alone one p page free)
