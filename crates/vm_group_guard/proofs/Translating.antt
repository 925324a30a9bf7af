-- The translation words of a group's pages, loaded one behind another.
use Rattle.vm_group_guard.proofs.Prelude.{[], AreTranslated, arith, IsUnder, LeavesOthers, length, List, others-none}
use Rattle.vm_group_guard.proofs.Prelude.{others-then, refl, subst, suc, sym, tload-holds, tload-knows, tload-others}
use Rattle.vm_group_guard.proofs.Prelude.{tload-own}
use Rattle.vm_group_guard.proofs.Prelude.{translation_loads, TranslationTold, View, ℕ, ◌++◌, ◌+◌, ◌<◌, ◌∷◌, ◌≡◌, ◌≤◌}
use Rattle.vm_group_guard.proofs.Quiet.{calm-self, calm-then, IsCalm}

module _ {X : Type 0} where
  -- one page more
  pub translated-more : (q : ℕ) (ts : List ℕ) (t : ℕ) (v u w : View X) → AreTranslated q ts v u
      → TranslationTold (q + length ts) t u w → AreTranslated q (ts ++ t ∷ []) v w
  translated-more q [] t v u w told last =
      let here : q + 0 ≡ q = omega arith in
      (w, subst (λ k. TranslationTold q t k w) told (subst (λ k. TranslationTold k t u w) here last), refl)
  translated-more q (x ∷ ts) t v u w told last =
      let there : q + length (x ∷ ts) ≡ suc q + length ts = omega arith in
      (told.0, told.1, translated-more (suc q) ts t told.0 u w told.2 (subst (λ k. TranslationTold k t u w) there last))

  pub translated-leave : (h size q : ℕ) (ts : List ℕ) (v w : View X) → h ≤ q → q + length ts ≤ h + size
      → AreTranslated q ts v w → LeavesOthers (IsUnder h size) (translation_loads q ts) [] v w
  translated-leave h size q [] v w low high told = subst (LeavesOthers (IsUnder h size) [] [] v) (sym told)
      (others-none v)
  translated-leave h size q (t ∷ ts) v w low high told =
      let inside : q < h + size = omega (arith, high) in
      let behind : suc q + length ts ≤ h + size = omega (arith, high) in
      others-then (tload-others told.1 (IsUnder h size) (low, inside))
      (translated-leave h size (suc q) ts told.0 w (omega (arith, low)) behind told.2)

  pub translated-calm : (q : ℕ) (ts : List ℕ) (v w : View X) → AreTranslated q ts v w → IsCalm v w
  translated-calm q [] v w told = subst (IsCalm v) (sym told) (calm-self v)
  translated-calm q (t ∷ ts) v w told =
      calm-then v told.0 w (record { own = tload-own told.1; holds = tload-holds told.1; knows = tload-knows told.1 })
      (translated-calm (suc q) ts told.0 w told.2)
