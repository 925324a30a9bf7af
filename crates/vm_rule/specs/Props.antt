-- What is kept of a pass's own view is a proposition: it has one proof at most. So a pass can have it beside its token.
use Rattle.std.specs.Prelude.{[], ◌++◌, ◌+◌, ◌<◌, ◌==◌, ◌∷◌, if◌then◌else◌, List, ℕ}
use denote.Struct.Props.{props}
use Rattle.vm_owner.specs.Kept.{AreCounted}
use Rattle.vm_rule.specs.Prelude.{AreApart, AreNext, Each, Entry, PARTS}
use Rattle.vm_rule.specs.{declared.view.Origin.Origin, declared.view.Release.Release}

pub AreApart-prop : (l : List ℕ) → IsProp (AreApart l)
AreApart-prop [] = hlevel props
AreApart-prop (q ∷ qs) = hlevel (props, AreApart-prop qs)

pub AreNext-prop : (start : Origin) (before l : List Release) → IsProp (AreNext start before l)
AreNext-prop start before [] = hlevel props
AreNext-prop start before (r ∷ rs) = hlevel (props, AreNext-prop start (before ++ r ∷ []) rs)

module _ {X : Type 0} where
  pub AreCounted-prop : (before : ℕ → ℕ) (l : List (Entry X)) → IsProp (AreCounted before l)
  AreCounted-prop before [] = hlevel props
  AreCounted-prop before (e ∷ es) = hlevel (props, AreCounted-prop (λ n. (if e.number == n then 1 else 0) + before n) es)

  pub numbered-prop : (l : List (Entry X)) → IsProp (Each (λ e. e.number < PARTS) l)
  numbered-prop [] = hlevel props
  numbered-prop (e ∷ es) = hlevel (props, numbered-prop es)
