-- What a pass that was brought up to date knows, above all where it has all parts of its table.
use Rattle.std.specs.Prelude.{[], ◌<◌, ◌≡◌, ◌≤◌, Bool, true, ℕ}
use Rattle.vm_event.specs.Prelude.{version_of}
use Rattle.vm_rule.specs.Prelude.{began_of, CaughtUp, HoldsNoPage, IsWhole, Kept, last_of, Start}
use Rattle.vm_rule.specs.declared.view.WordPlace.TheVariants as places
use Rattle.vm_rule.specs.declared.view.View.{View}
use Rattle.vm_rule_laws.specs.Known.{kept_by}
use Rattle.vm_step.specs.Evidence.{HasGiven}

module _ {X : Type 0} where
  -- Where it holds no page, no group of its is released in part, and it owes no page. Where it is whole, every entry
  -- is its own; it knows what the
  -- layer above keeps, where it holds no page; no state word that it or a pass that was joined into it found has a
  -- later version than the page's
  -- last one, and no next word is above the one that it knows.
  pub record KnowsAll (tells : Bool) (keeps : Start → Kept X → Type 0) (w : View X) : Type 0 where
    pub paid : HoldsNoPage w → (w.pending ≡ []) × (w.owed ≡ [])
    pub all : IsWhole w → w.mine ≡ w.seen
    pub stands : tells ≡ true → IsWhole w → HoldsNoPage w → keeps (began_of w.start) (kept_by w)
    pub last : IsWhole w → (p word : ℕ) → p < w.start.pages → HasGiven w.log (places.State p) word
        → version_of word ≤ (last_of w p).version
    pub next : IsWhole w → (x : ℕ) → HasGiven w.log places.Next x → x ≤ (kept_by w).next

  pub record CatchTold (tells : Bool) (keeps : Start → Kept X → Type 0) (v w : View X) : Type 0 where
    pub caught : CaughtUp v w
    pub knows : KnowsAll tells keeps w
