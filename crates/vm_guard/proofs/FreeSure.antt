-- What a pass that is alone finds in the free-number words: the words that it knew; so it knows which of its pages a
-- call for fresh ones takes.
use Rattle.std.specs.Prelude.{bit_xor}
use Rattle.std.proofs.Common.{inl, inr}
use Rattle.vm_event.specs.{Prelude.AreLowest, Prelude.Version, Words.bit_count}
use Rattle.vm_page.specs.Pages.{all_zero}
use Rattle.vm_rule.specs.FreeNumbers.{SpareTold, TakeNumbersTold}
use Rattle.vm_rule.specs.Prelude.{IsLocking}
use Rattle.vm_guard.proofs.Amid.{others-known}
use Rattle.vm_guard.proofs.Reusing.{took-silent}
use Rattle.vm_guard.proofs.Searching.{looks-some}
use Rattle.vm_guard.specs.Reused.{take_did}
use Rattle.vm_guard.specs.Spares.{FindsFew, FindsAllFew, FindsSome, known_spare, KnowsFew}
use Rattle.vm_guard.specs.Sure.{FirstFreeHave, FreePagesHave, FreePagesTried, HoldsUsed, known_next, known_word}
use Rattle.vm_guard.specs.Sure.{MayBeClaimed, MayBeSeized, MayTryClaim}
use Rattle.vm_guard.proofs.Prelude.{[], ap, arith, cases_eq, did_exchange, did_load, found-known, IsAlone}
use Rattle.vm_guard.proofs.Prelude.{known_word_at, length, LeavesOthers, List, LocksNone, None, Origin, others-still}
use Rattle.vm_guard.proofs.Prelude.{WordPlace, refl, same-word, still-alone, subst, sym, true≢false, View}
use Rattle.vm_guard.proofs.Prelude.{words-known, ℕ, ⊎_elim, ◌+◌, ◌<◌, ◌∙◌, ◌∷◌, ◌≡◌, ◌≢◌, ◌≤◌}

module _ {X : Type 0} where
  -- ---- one load

  -- it finds the word that the pass knew, and leaves what it knows
  spare-found : (g x : ℕ) (v w : View X) → SpareTold g x v w → IsAlone v → x ≡ known_spare g v
  spare-found g x v w t a = found-known (did_load (WordPlace.Spare g) x) x None [] [] v v w t.brings refl a

  spare-start : (g x : ℕ) (v w : View X) → SpareTold g x v w → w.start ≡ v.start
  spare-start g x v w t = ap (λ (y : View X). y.start) t.brings.view

  spare-at : (g x : ℕ) (v w : View X) → SpareTold g x v w → IsAlone v → (at : WordPlace) → known_word_at w at ≡ known_word_at v at
  spare-at g x v w t a at =
      same-word v w (spare-start g x v w t)
      (words-known (did_load (WordPlace.Spare g) x) None [] [] v v w t.brings refl a) at

  spare-alone : (g x : ℕ) (v w : View X) → SpareTold g x v w → IsAlone v → IsAlone w
  spare-alone g x v w t a =
      let f : LeavesOthers (λ _. ⊥) (did_load (WordPlace.Spare g) x ∷ []) [] v w = others-still t.brings in
      still-alone v w f.parts f.runs.current a

  -- ---- several

  -- the pass is alone then, and knows what it knew; and it knew that each of these words has fewer than n bits
  pub record FewKnown (n g many : ℕ) (v w : View X) : Type 0 where
    pub alone : IsAlone w
    pub start : w.start ≡ v.start
    pub at : (place : WordPlace) → known_word_at w place ≡ known_word_at v place
    pub few : (k : ℕ) → g ≤ k → k < g + many → bit_count (known_spare k v) < n

  few-known : (n g : ℕ) (found : List ℕ) (v w : View X) → FindsFew n g found v w → IsAlone v → FewKnown n g (length found) v w
  few-known n g [] v w same a = record {
    alone = subst IsAlone (sym same) a;
    start = ap (λ (y : View X). y.start) same;
    at = λ place. ap (λ (y : View X). known_word_at y place) same;
    few = λ k le l. absurd (omega (arith, le, l));
  }
  few-known n g (x ∷ xs) v w f a =
      let u : View X = f.0 in
      let rest : FewKnown n (g + 1) (length xs) u w = few-known n (g + 1) xs u w f.3 (spare-alone g x v u f.2 a) in
      record {
        alone = rest.alone;
        start = rest.start ∙ spare-start g x v u f.2;
        at = λ place. rest.at place ∙ spare-at g x v u f.2 a place;
        few = λ k le l.
            ⊎_elim
            (λ (e : k ≡ g). subst (λ m. bit_count m < n) (spare-found g x v u f.2 a ∙ ap (λ m. known_spare m v) (sym e)) f.1)
            (λ (ne : k ≢ g). subst (λ m. bit_count m < n) (spare-at g x v u f.2 a (WordPlace.Spare k))
            (rest.few k (omega (arith, le, ne)) (omega (arith, l))))
            (cases_eq k g);
      }

  pub all-few-known : (n : ℕ) (v w : View X) → FindsAllFew n v w → IsAlone v
      → IsAlone w × ((place : WordPlace) → known_word_at w place ≡ known_word_at v place) × KnowsFew n v.start.pages v
  all-few-known n v w f a =
      let k = few-known n 0 f.found v w f.few a in
      (k.alone, k.at, λ g l inside. k.few g (omega arith) (let all = f.all.0 in omega (arith, all, inside)))

  pub some-known : (n g word : ℕ) (v w : View X) → FindsSome n g word v w → IsAlone v
      → IsAlone w × ((place : WordPlace) → known_word_at w place ≡ known_word_at v place) × KnowsFew n g v
      × (known_spare g v ≡ word)
  some-known n g word v w f a =
      let k = few-known n 0 f.earlier v f.between f.few a in (
        spare-alone g word f.between w f.loaded k.alone,
        λ place. spare-at g word f.between w f.loaded k.alone place ∙ k.at place,
        λ j l inside. k.few j (omega arith) (let many = f.count in omega (arith, l, many)),
        sym (spare-found g word f.between w f.loaded k.alone ∙ k.at (WordPlace.Spare g)),
      )

  -- what is so of the bits that the pass would be given is so of those of the word that was found
  first-have : (P : ℕ → ℕ → Type 0) (n g word mask : ℕ) (v w : View X) → FindsSome n g word v w → IsAlone v
      → FirstFreeHave P n v → AreLowest word n mask → P g mask
  first-have P n g word mask v w f a have low =
      let k = some-known n g word v w f a in
      have g mask f.inside k.2 (subst (λ m. n ≤ bit_count m) (sym k.3) f.enough) (subst (λ m. AreLowest m n mask) (sym k.3) low)

  -- what the pass knew of their pages, it knows after the loads
  pub free-have : (P : ℕ → Type 0) (n g word mask : ℕ) (v w : View X) → FindsSome n g word v w → IsAlone v
      → FirstFreeHave (λ h m. FreePagesHave P h m v) n v → AreLowest word n mask → FreePagesHave P g mask w
  free-have P n g word mask v w f a have low q e =
      subst P (sym ((some-known n g word v w f a).1 (WordPlace.State q)))
      (first-have (λ h m. FreePagesHave P h m v) n g word mask v w f a have low q e)

  -- and the pages that it has locked are as they were
  used-still : (n g word : ℕ) (v w : View X) → FindsSome n g word v w → (q : ℕ) → HoldsUsed v q → HoldsUsed w q
  used-still n g word v w f q used =
      let k = (looks-some n g word v w f).others in
      let none : ⊥ → ⊥ = λ e. e in (
        ap (λ (o : Origin). o.tells) k.start ∙ used.0,
        subst IsLocking (sym (k.seats q none)) used.1,
        ap (λ (x : Version). all_zero x.words) (k.last q none used.1) ∙ used.2,
      )

  pub free-tried : (n g word mask : ℕ) (v w : View X) → FindsSome n g word v w → IsAlone v
      → FirstFreeHave (λ h m. FreePagesTried h m v) n v → AreLowest word n mask → FreePagesTried g mask w
  free-tried n g word mask v w f a have low q inside e =
      let start = (looks-some n g word v w f).others.start in
      ⊎_elim
      (λ (none : LocksNone (known_word q v)). inl (subst LocksNone (sym ((some-known n g word v w f a).1 (WordPlace.State q))) none))
      (λ (used : HoldsUsed v q). inr (used-still n g word v w f q used))
      (first-have (λ h m. FreePagesTried h m v) n g word mask v w f a have low q (subst (λ (o : Origin). q < o.pages) start inside) e)

  -- ---- the take

  -- it is not lost
  pub take-sure : (g word mask found : ℕ) (v w : View X) → TakeNumbersTold g word mask found v w → IsAlone v
      → known_spare g v ≡ word → found ≡ word
  take-sure g word mask found v w t a known =
      found-known (did_exchange (WordPlace.Spare g) word found (bit_xor word mask)) found None [] [] v _ w t.brings
      refl a ∙ known

  -- and leaves what the pass knows of the pages
  pub take-knows : (P : ℕ → Type 0) (g word mask : ℕ) (v w : View X) → TakeNumbersTold g word mask word v w
      → IsAlone v → FreePagesHave P g mask v → FreePagesHave P g mask w
  take-knows P g word mask v w t a have q e =
      subst P (sym ((others-known [] (take_did g word mask ∷ []) v w (took-silent t []).0 a).words (WordPlace.State q)
      (t.inside refl q e) (λ k. true≢false (sym k.1)))) (have q e)

  -- the number of a page that the pass has locked, and that is in use, is none of those taken; so the pages taken are locked by nobody
  pub take-tried : (g word mask : ℕ) (v w : View X) → TakeNumbersTold g word mask word v w → IsAlone v
      → FreePagesTried g mask v → FreePagesHave LocksNone g mask w
  take-tried g word mask v w t a tried =
      take-knows LocksNone g word mask v w t a
      (λ q e.
      ⊎_elim
      (λ (none : LocksNone (known_word q v)). none)
      (λ (used : HoldsUsed v q). absurd (true≢false (sym (t.zero used.0 refl q e used.1) ∙ used.2)))
      (tried q (t.inside refl q e) e))

  -- ---- the next pages

  pub claim-known : (n : ℕ) (v u : View X) → u.start ≡ v.start
      → ((at : WordPlace) → known_word_at u at ≡ known_word_at v at) → MayBeClaimed n v → MayBeClaimed n u
  claim-known n v u start at may =
      let next : known_next u ≡ known_next v = at WordPlace.Next in
      record {
        room = subst (λ (o : Origin). known_next u + n ≤ o.pages) (sym start) (omega (arith, next, may.room));
        each = λ q low high. subst MayBeSeized (sym (at (WordPlace.State q)))
            (may.each q (omega (arith, next, low)) (omega (arith, next, high)));
      }

  pub try-known : (n : ℕ) (v u : View X) → u.start ≡ v.start
      → ((at : WordPlace) → known_word_at u at ≡ known_word_at v at) → MayTryClaim n v → MayTryClaim n u
  try-known n v u start at may =
      let next : known_next u ≡ known_next v = at WordPlace.Next in
      record {
        room = subst (λ (o : Origin). known_next u + n ≤ o.pages) (sym start) (omega (arith, next, may.room));
        each = λ q low high. subst LocksNone (sym (at (WordPlace.State q)))
            (may.each q (omega (arith, next, low)) (omega (arith, next, high)));
      }

  -- a pass that knows that no word has n bits finds none
  pub some-few : (n g word below : ℕ) (v w : View X) → FindsSome n g word v w → IsAlone v → v.start.pages ≡ below → KnowsFew n below v → ⊥
  some-few n g word below v w f a same few =
      let k = some-known n g word v w f a in
      let low : bit_count (known_spare g v) < n = few g (let inside = f.inside in omega (arith, inside, same)) f.inside in
      let few-bits : bit_count word < n = subst (λ m. bit_count m < n) k.3 low in
      let enough = f.enough in
      absurd (omega (arith, few-bits, enough))
