-- What a step tells of the layer above: at the step it keeps its relation, and its history is the one that the pass
-- has seen then.
use Rattle.std.specs.Prelude.{◌<◌, ◌≡◌, ◌≤◌, false, length, replicate, true, ℕ}
use Rattle.vm_event.specs.Prelude.{page_at}
use Rattle.vm_rule.specs.{declared.view.View.View, Prelude.began_of, Prelude.draft_of, Prelude.has, Prelude.IsLocking}
use Rattle.vm_rule.specs.{Prelude.Kept, Prelude.last_of, Prelude.seat_of, Prelude.Start}
use Rattle.vm_rule.specs.declared.view.WordPlace.TheVariants as places
use Rattle.vm_step.specs.Alone.{IsAlone, known_word_at}

module _ {X : Type 0} where
  -- What the layer above keeps after a step of the pass: its history is all that the pass has seen now; it has page p
  -- with the last words, where
  -- the page is free, and each member still to be released of a group of the pass with its draft.
  pub record IsKeptNow (keeps : Start → Kept X → Type 0) (p : ℕ) (free : Type 0) (w : View X) : Type 0 where
    pub kept : Kept X
    pub holds : keeps (began_of w.start) kept
    pub history : kept.history ≡ w.seen
    pub pages : length kept.pages ≡ w.start.pages
    pub page : free → page_at kept.pages p ≡ (last_of w p).words
    pub members : (q : ℕ) → q < w.start.pages → has q w.pending ≡ true → page_at kept.pages q ≡ draft_of w q
    -- each other page that the pass has locked or shared, with its last words
    pub held : (q : ℕ) → q < w.start.pages → IsLocking (seat_of w q) → has q w.pending ≡ false
        → page_at kept.pages q ≡ (last_of w q).words
    -- a page of which the pass has a share is no such member
    pub shared : (q : ℕ) → q < w.start.pages → 1 ≤ (seat_of w q).shares → page_at kept.pages q ≡ (last_of w q).words
    -- pages that were never claimed have words of zeros; a pass that is alone knows the next one
    pub zero : (q : ℕ) → kept.next ≤ q → q < w.start.pages → page_at kept.pages q ≡ replicate w.start.size 0
    pub next : IsAlone w → known_word_at w places.Next ≡ kept.next
