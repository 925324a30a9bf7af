-- The logical words of pages, as the layer above knows them: of a page that is not locked they are its last words.
use Rattle.vm_step.proofs.Prelude.{[], at, at-listed, began_of, Bool, cases_Bool, core_shown, false}
use Rattle.vm_step.proofs.Prelude.{false_from_ne_true, History, is_pending, Kept, kept_of, length, length-listed}
use Rattle.vm_step.proofs.Prelude.{List, listed, LOCKED, locked-here, logical, Option, Origin, page_at, pending-held}
use Rattle.vm_step.proofs.Prelude.{refl, Ruled, Start, Stored, subst, sym, Table, true, View, world_of, ℕ, ⊎_elim}
use Rattle.vm_step.proofs.Prelude.{◌<◌, ◌∙◌, ◌≡◌, ◌≢◌}

pub page-listed : (n : ℕ) (f : ℕ → List ℕ) (k : ℕ) → k < n → page_at (listed n f) k ≡ f k
unfolding at
page-listed n f k l = at-listed [] n f k l

-- the logical words of a page, as a member still to be released or not
pub logical-draft : (h : ℕ → History) (members : ℕ → Bool) (q : ℕ) → members q ≡ true
    → logical h members q ≡ (h q).draft
unfolding logical
logical-draft h members q e = rw e refl

pub logical-last : (h : ℕ → History) (members : ℕ → Bool) (q : ℕ) → members q ≡ false
    → logical h members q ≡ (h q).last.words
unfolding logical
logical-last h members q e = rw e refl

pub logical-same : (h h' : ℕ → History) (members members' : ℕ → Bool) (q : ℕ) → members q ≡ members' q
    → (members q ≡ true → (h q).draft ≡ (h' q).draft) → (members q ≡ false → (h q).last.words ≡ (h' q).last.words)
    → logical h members q ≡ logical h' members' q
logical-same h h' members members' q same draft last =
    ⊎_elim
    (λ t. logical-draft h members q t ∙ draft t ∙ sym (logical-draft h' members' q (sym same ∙ t)))
    (λ f. logical-last h members q f ∙ last f ∙ sym (logical-last h' members' q (sym same ∙ f)))
    (cases_Bool (members q))

module _ {X B : Type 0} (stored : B → Stored) (keeps : Start → Kept X → Type 0)
    (tied : Start → ℕ → List ℕ → ℕ → List ℕ → Type 0) (start : Origin) (tells : Bool) (s : Table (Option B) (View X))
    (r : Ruled stored keeps tied start tells s) where
  -- a page that is not locked is no member still to be released
  pub not-pending : (p : ℕ) → p < start.pages → ((core_shown stored start s).pages p).state ≢ LOCKED
      → is_pending s.views p ≡ false
  not-pending p l free =
      false_from_ne_true (is_pending s.views p) (λ t. let k = pending-held stored start keeps tied tells s r p t in
      free (locked-here stored start s k.0 p k.1 (r.inv.pages p).locks l k.2 k.3))

  -- what the layer above has of a page
  pub page-kept : (p : ℕ) → p < start.pages → is_pending s.views p ≡ false
      → page_at (kept_of (world_of stored start r.releases r.drafts s) r.history s.views).pages
      p ≡ ((world_of stored start r.releases r.drafts s).histories p).last.words
  page-kept p l free = page-listed start.pages _ p l
      ∙ logical-last (world_of stored start r.releases r.drafts s).histories (is_pending s.views) p free

  pub pages-kept : length (kept_of (world_of stored start r.releases r.drafts s) r.history s.views).pages ≡ start.pages
  pages-kept = length-listed start.pages _

  module _ (law : (start : Start) (kept : Kept X) (r p : ℕ) → keeps start kept → r < length kept.pages
      → p < length kept.pages → tied start r (page_at kept.pages r) p (page_at kept.pages p)) where
    -- two pages, neither of them a member still to be released, are tied by their last words
    pub tied-now : start.tells ≡ true → (q p : ℕ) → q < start.pages → p < start.pages → is_pending s.views q ≡ false
        → is_pending s.views p ≡ false
        → tied (began_of start) q ((world_of stored start r.releases r.drafts s).histories q).last.words p
        ((world_of stored start r.releases r.drafts s).histories p).last.words
    tied-now t q p lq lp fq fp =
        let kept : Kept X = kept_of (world_of stored start r.releases r.drafts s) r.history s.views in
        rw (sym (page-kept q lq fq), sym (page-kept p lp fp))
        (law (began_of start) kept q p (r.owner t) (subst (λ n. q < n) (sym pages-kept) lq) (subst (λ n. p < n) (sym pages-kept) lp))
