-- A call that looked at a page's word and was denied: at once, or by an exchange that was lost.
use Rattle.vm_guard.proofs.Prelude.{[], At, cond-false, Deny, Did, did_exchange, did_load, Each, eqb, inl, inr}
use Rattle.vm_guard.proofs.Prelude.{IsAlone, IsDenied, IsEvidence, IsQuiet, IsSaw, LeavesNone, LeavesTable, List}
use Rattle.vm_guard.proofs.Prelude.{look-others, LookTold, lost-saw, ne_eqb, None, one-given, Option, refl, rules}
use Rattle.vm_guard.proofs.Prelude.{same, Saw, SaysWhy, Some, Start, subst, sym, View, WordPlace, ℕ, ◌++◌, ◌∙◌, ◌∷◌}
use Rattle.vm_guard.proofs.Prelude.{◌≡◌, ◌≢◌, ◌⊎◌}
use Rattle.vm_guard.proofs.QuietSteps.{look-quiet, quiet-then}
use Rattle.vm_guard.proofs.Sure.{alone-on, look-current, look-leaves, lost-leaves}
use Rattle.vm_guard.proofs.Unmarking.{load-unmarks, lost-unmarks, one-saw}

word-shows : (kept : ℕ → Type 0) (expects : ℕ → ℕ → Type 0) (p word : ℕ) (d : Deny) → SaysWhy p word d
    → IsEvidence kept expects (did_load (WordPlace.State p) word ∷ []) p d
word-shows kept expects p word (Deny.Again saw) why =
    subst (λ (s : Saw). (s.at ≡ At.Page p) × IsSaw kept expects (did_load (WordPlace.State p) word ∷ []) s) (sym why.0)
    (refl, one-saw kept expects p word word (did_load (WordPlace.State p) word) (refl, refl) (same refl refl) (inr (inl why.1)))
word-shows kept expects p word (Deny.Need q) why =
    (why.0, record { word = word; given = one-given p word; load = (refl, refl); evicted = why.1; foreign = tt })
word-shows kept expects p word (Deny.Crowded q) why =
    (why.0, record { word = word; given = one-given p word; load = (refl, refl); full = why.1; foreign = tt })
word-shows kept expects p word (Deny.Worn q) why =
    (why.0, record { word = word; given = one-given p word; load = (refl, refl); last = why.1; foreign = tt })

-- such a call, all of whose steps are on the page's word, and leave none
module _ {X : Type 0} (tied : Start → ℕ → List ℕ → ℕ → List ℕ → Type 0) (allowed : Deny → Type 0) (instead : ℕ → ℕ → Type 0) where
  abbrev pub IsDeniedThere : (ℕ → Type 0) → ℕ → Deny → View X → View X → Type 0
  IsDeniedThere kept p d v w = (f : IsDenied allowed kept instead p d v w)
      × Each (λ (k : Did). k.at ≡ WordPlace.State p) f.done × LeavesNone f.done

  pub denied-at-once : {kept : ℕ → Type 0} (p word : ℕ) (d : Deny) (v w : View X) → LookTold tied p None word v w
      → SaysWhy p word d → allowed d → IsDeniedThere kept p d v w
  denied-at-once {kept = kept} p word d v w t why kind =
      let f : IsDenied allowed kept instead p d v w =
      search (
        rules,
        look-quiet tied p word v w t,
        word-shows kept instead p word d why,
        look-leaves tied p None
            word v w t,
        load-unmarks p (WordPlace.State p) word,
        look-current tied p None word v w t,
      ) in
      (f, (refl, tt), (refl, tt))

  pub denied-lost : {kept : ℕ → Type 0} (p word expects found new : ℕ) (v u w : View X)
      → LookTold tied p None word v u → IsQuiet p (did_exchange (WordPlace.State p) expects found new ∷ []) u w
      → (word ≡ expects) ⊎ instead word expects → found ≢ expects → allowed (Deny.Again (record {
        at = At.Page p;
        first = expects;
        seen = found;
      }))
      → IsDeniedThere kept p (Deny.Again (record { at = At.Page p; first = expects; seen = found })) v w
  denied-lost {kept = kept} p word expects found new v u w t quiet from ne kind =
      let first : List Did = did_load (WordPlace.State p) word ∷ [] in
      let all : IsQuiet p (first ++ did_exchange (WordPlace.State p) expects found new ∷ []) v w =
      quiet-then p first (did_exchange (WordPlace.State p) expects found new ∷ []) v u w
      (look-quiet tied p word v u t) quiet in
      let table = λ (a : IsAlone v). lost-leaves p expects found new u w quiet ne (alone-on tied p word v u t a)
      ∙ look-leaves tied p None word v u t a in
      let f : IsDenied allowed kept instead p (Deny.Again (record { at = At.Page p; first = expects; seen = found })) v w =
      search (
        rules,
        all,
        lost-saw {kept = kept} instead p word expects found new from ne,
        table,
        load-unmarks p (WordPlace.State p) word,
        lost-unmarks p expects found new ne,
        quiet.alone.current
            (look-current tied p None word v u t),
      ) in
      (f, (refl, (refl, tt)), (refl, (cond-false (eqb found expects) (Some new) None (ne_eqb found expects ne), tt)))

-- ---- a denied call leaves no word

module _ {X : Type 0} {tied : Start → ℕ → List ℕ → ℕ → List ℕ → Type 0} {p word : ℕ} {v u : View X} where
  -- where it only looked
  pub looked-bare : {said : Option X} → LookTold tied p said word v u → LeavesTable v u
  looked-bare t = (did_load (WordPlace.State p) word ∷ [], (look-others t (λ q. q ≡ p) refl).log, (refl, tt))

  -- or its exchange was lost
  pub lost-bare : (expects found new : ℕ) {w : View X} → LookTold tied p None word v u
      → IsQuiet p (did_exchange (WordPlace.State p) expects found new ∷ []) u w → found ≢ expects → LeavesTable v w
  lost-bare expects found new {w = w} t f ne =
      let all = quiet-then p (did_load (WordPlace.State p) word ∷ [])
      (did_exchange (WordPlace.State p) expects found new ∷ []) v u w (look-quiet tied p word v u t) f in (
        did_load (WordPlace.State p) word ∷ did_exchange (WordPlace.State p) expects found new ∷ [],
        all.steady.log,
        (refl, (cond-false (eqb found expects) (Some new) None (ne_eqb found expects ne), tt)),
      )
