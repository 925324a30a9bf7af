-- What the layer above keeps after a step of a pass, as the step tells it: it has the relation, the pages with their
-- logical words, and the next page.
use Rattle.vm_rule.specs.declared.view.WordPlace.TheVariants as places
use Rattle.vm_step.proofs.Logical.{logical-draft, logical-last, not-pending, page-listed}
use Rattle.vm_step.proofs.Prelude.{ap, arith, began_of, Bool, draft-is, draft_of, false, get_elem?, has, is_pending}
use Rattle.vm_step.proofs.Prelude.{IsAlone, IsKeptNow, IsLocking, Kept, kept_of, known_word_at, last-is, last_in}
use Rattle.vm_step.proofs.Prelude.{last_of, length-listed, List, logical, Option, Origin, page_at, refl, replicate}
use Rattle.vm_step.proofs.Prelude.{Ruled, seat_of, shared-here, some, Start, Stored, subst, sym, Table, true, Version}
use Rattle.vm_step.proofs.Prelude.{View, World, world_of, ℕ, ◌<◌, ◌∙◌, ◌≡◌, ◌≤◌}

-- a page of which a pass has a share is no member still to be released
pub shared-free : {X B : Type 0} (stored : B → Stored) (keeps : Start → Kept X → Type 0)
    (tied : Start → ℕ → List ℕ → ℕ → List ℕ → Type 0) (start : Origin) (tells : Bool) (t : Table (Option B) (View X))
    (r : Ruled stored keeps tied start tells t) (id : ℕ) (w : View X)
    → get_elem? t.views id ≡ some w → (q : ℕ) → q < start.pages → 1 ≤ (seat_of w q).shares
    → is_pending t.views q ≡ false
shared-free stored keeps tied start tells t r id w there q l some' =
    let below = (shared-here stored start t id q w (r.inv.pages q).locks l there some').1 in
    not-pending stored keeps tied start tells t r q l (λ e. omega (arith, below, e))

module _ {X B : Type 0} (stored : B → Stored) (keeps : Start → Kept X → Type 0) (start : Origin)
    (t : Table (Option B) (View X)) (drafts : ℕ → List ℕ) (w : View X) where
  -- the pages as the table shows them, by what the pass has seen of the releases
  abbrev shown : World
  shown = world_of stored start w.releases drafts t

  abbrev pub kept_shown : Kept X
  kept_shown = kept_of shown w.seen t.views

  -- of a page that is no member still to be released they are its last words
  shown-last : (q : ℕ) → q < start.pages → w.start ≡ start → is_pending t.views q ≡ false
      → page_at kept_shown.pages q ≡ (last_of w q).words
  shown-last q l same free =
      page-listed start.pages _ q l
      ∙ logical-last shown.histories (is_pending t.views) q free
      ∙ ap (λ (x : Version). x.words) (sym (last-is start w.releases drafts q))
      ∙ ap (λ (o : Origin). (last_in o w.releases q).words) (sym same)

  pub kept-now : (p : ℕ) (free : Type 0) → p < start.pages → w.start ≡ start → keeps (began_of start) kept_shown
      → (free → is_pending t.views p ≡ false)
      → ((q : ℕ) → has q w.pending ≡ true → (is_pending t.views q ≡ true) × (drafts q ≡ draft_of w q))
      → ((q : ℕ) → q < start.pages → IsLocking (seat_of w q) → has q w.pending ≡ false → is_pending t.views q ≡ false)
      → ((q : ℕ) → shown.core.next ≤ q → q < start.pages → logical shown.histories (is_pending t.views) q ≡ replicate start.size 0)
      → (IsAlone w → known_word_at w places.Next ≡ shown.core.next)
      → ((q : ℕ) → q < start.pages → 1 ≤ (seat_of w q).shares → is_pending t.views q ≡ false)
      → IsKeptNow keeps p free w
  kept-now p free l same holds none members others zero next shared = record {
    kept = kept_shown;
    holds = subst (λ (o : Origin). keeps (began_of o) kept_shown) (sym same) holds;
    history = refl;
    pages = length-listed start.pages _ ∙ ap (λ (o : Origin). o.pages) (sym same);
    page = λ f. shown-last p l same (none f);
    members = λ q inside e.
        page-listed start.pages _ q (subst (λ (o : Origin). q < o.pages) same inside)
        ∙ logical-draft shown.histories (is_pending t.views) q (members q e).0
        ∙ draft-is start w.releases drafts q
        ∙ (members q e).1;
    held = λ q inside locks e. let l' : q < start.pages = subst (λ (o : Origin). q < o.pages) same inside in
        shown-last q l' same (others q l' locks e);
    shared = λ q inside e. let l' : q < start.pages = subst (λ (o : Origin). q < o.pages) same inside in
        shown-last q l' same (shared q l' e);
    zero = λ q le inside. let l' : q < start.pages = subst (λ (o : Origin). q < o.pages) same inside in
        page-listed start.pages _ q l' ∙ zero q le l' ∙ ap (λ (o : Origin). replicate o.size 0) (sym same);
    next = next;
  }
