-- The logical words of pages that were never claimed are zeros: such a page has words of zeros, and a member still to
-- be released that was never
-- claimed has no new ones.
use Rattle.vm_step.proofs.Logical.{logical-draft, logical-last}
use Rattle.vm_step.proofs.Prelude.{any-true, ap, Bool, cases_Bool, false≢true, get_elem?, has, is_pending, Kept, List}
use Rattle.vm_step.proofs.Prelude.{logical, Option, Origin, replicate, Ruled, some, Start, Stored, sym, Table, true}
use Rattle.vm_step.proofs.Prelude.{View, World, world_of, ℕ, ⊎_elim, ◌<◌, ◌∙◌, ◌≡◌, ◌≤◌}

module _ {X B : Type 0} (stored : B → Stored) (keeps : Start → Kept X → Type 0)
    (tied : Start → ℕ → List ℕ → ℕ → List ℕ → Type 0) (start : Origin) (tells : Bool) (s : Table (Option B) (View X))
    (r : Ruled stored keeps tied start tells s) where
  abbrev world : World
  world = world_of stored start r.releases r.drafts s

  pub draft-unclaimed : start.tells ≡ true → (j : ℕ) (u : View X) (q : ℕ) → get_elem? s.views j ≡ some u
      → has q u.pending ≡ true → world.core.next ≤ q → (world.histories q).draft ≡ (world.histories q).last.words
  draft-unclaimed t j u q there e le =
      ((r.known j u there (⊎_elim (λ on. on)
      (λ off. absurd (false≢true (ap (λ (y : View X). has q y.pending) (sym (r.parts.spent j u there off)) ∙ e)))
      (cases_Bool u.live))).pending q e).1 t le

  pub logical-zero : start.tells ≡ true → (q : ℕ) → world.core.next ≤ q → q < start.pages
      → logical world.histories (is_pending s.views) q ≡ replicate start.size 0
  logical-zero t q le l =
      ⊎_elim
      (λ e. let k = any-true (λ (u : View X). has q u.pending) s.views e in
      logical-draft world.histories (is_pending s.views) q e ∙ draft-unclaimed t k.0 k.1 q k.2 k.3 le
      ∙ r.zero t q le l)
      (λ none. logical-last world.histories (is_pending s.views) q none ∙ r.zero t q le l)
      (cases_Bool (is_pending s.views q))
