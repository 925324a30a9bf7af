-- The translation words of the pages of a group, loaded one behind another.
use Rattle.std.specs.Prelude.{[], ◌∷◌, ◌≡◌, List, suc, ℕ}
use Rattle.vm_rule.specs.Prelude.{TranslationTold}
use Rattle.vm_step.specs.Prelude.{View}

module _ {X : Type 0} where
  -- these are those of the pages from q on
  abbrev pub AreTranslated : ℕ → List ℕ → View X → View X → Type 0
  AreTranslated q [] v w = w ≡ v
  AreTranslated q (t ∷ ts) v w = (u : View X) × TranslationTold q t v u × AreTranslated (suc q) ts u w
