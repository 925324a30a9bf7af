-- What the rule keeps of a live view, read off that view alone.
use Rattle.std.specs.Prelude.{[], ◌++◌, ◌<◌, ◌∷◌, ◌≡◌, ◌≤◌, true, ℕ}
use Rattle.vm_event.specs.Prelude.{MAX_VERSION}
use Rattle.vm_owner.specs.{Kept.AreCounted, Numbers.AreApart, Numbers.has}
use Rattle.vm_rule.specs.{declared.view.View.View, Reading.last_of, Rule.AreNext}
use Rattle.vm_rule.specs.{Views.Each, Views.entries_by, Views.PARTS}

-- its own entries are those of its numbers; a fresh part has none; its parts are apart; entries have numbers of
-- parts, counted for each; its
-- releases have the next versions, and no page is past the last
pub record Sound {X : Type 0} (v : View X) : Type 0 where
  pub mine : v.mine ≡ entries_by v.used v.seen
  pub fresh : (k : ℕ) → has k v.fresh ≡ true → entries_by (k ∷ []) v.seen ≡ []
  pub apart : AreApart (v.used ++ v.fresh)
  pub numbered : Each (λ e. e.number < PARTS) v.seen
  pub counted : AreCounted (λ _. 0) v.seen
  pub rises : AreNext v.start [] v.releases
  pub capped : (p : ℕ) → (last_of v p).version ≤ MAX_VERSION
