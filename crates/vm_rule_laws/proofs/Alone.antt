-- Beside a pass with all parts every other pass has none, so it holds nothing; and what it has still to release, or
-- owes, it would hold.
use Rattle.std.proofs.Common.{[], ⊎_elim, ◌∙◌, ◌∷◌, ◌≡◌, ◌≢◌, ◌≤◌, ap, arith, Bool, false, List, Option, refl, subst}
use Rattle.std.proofs.Common.{sym, true, true≢false, ℕ}
use Rattle.std.proofs.lemmas.Bool.{cases_Bool, eq-eqb}
use Rattle.vm_rule.specs.from_vm_event.Prelude.{get_elem?, some}
use Rattle.vm_rule.specs.Prelude.{has, HoldsNothing, is_pending, Kept, KnowsPages, owns, Ruled, seat_of, spent, Start}
use Rattle.vm_rule.specs.Prelude.{Stored, Table, times, world_of}
use Rattle.vm_rule.specs.{declared.view.Origin.Origin, declared.view.View.View}
use Rattle.vm_rule.proofs.Beside.{more-left, more-right, no-times}
use Rattle.vm_rule.proofs.Entries.{not-whole}
use Rattle.vm_rule_laws.specs.{Alone.HasNothing, Known.IsWholePass}

-- a list with no number
no-number : (l : List ℕ) → ((n : ℕ) → has n l ≡ true → ⊥) → l ≡ []
no-number [] none = refl
no-number (n ∷ ns) none = absurd (none n (rw (eq-eqb n n refl) refl))

module _ {X B : Type 0} (stored : B → Stored) (keeps : Start → Kept X → Type 0)
    (tied : Start → ℕ → List ℕ → ℕ → List ℕ → Type 0) (start : Origin) (tells : Bool) (s : Table (Option B) (View X))
    (r : Ruled stored keeps tied start tells s) where
  -- a member still to be released is locked exclusively by its pass, and so is a page that is owed
  pub without-locks : (j : ℕ) (u : View X) → get_elem? s.views j ≡ some u → u.live ≡ true
      → ((p : ℕ) → (seat_of u p).exclusive ≡ false) → (u.pending ≡ []) × (u.owed ≡ [])
  without-locks j u there on free =
      let knows : KnowsPages tied start (world_of stored start r.releases r.drafts s) (is_pending s.views) u = r.known j u there on in (
        no-number u.pending (λ p x. true≢false (sym (knows.pending p x).0 ∙ free p)),
        no-number u.owed (λ p x. true≢false (sym (knows.owed p x).0 ∙ free p)),
      )

  -- a live pass without a part has nothing
  without-parts : (j : ℕ) (u : View X) → get_elem? s.views j ≡ some u → u.live ≡ true → ((k : ℕ) → 1 ≤ owns k u → ⊥)
      → HasNothing u
  without-parts j u there on none =
      let used : u.used ≡ [] = no-times u.used (λ n l. none n (more-left (times n u.used) (times n u.fresh) l)) in
      let fresh : u.fresh ≡ [] = no-times u.fresh (λ n l. none n (more-right (times n u.used) (times n u.fresh) l)) in
      let idle : HoldsNothing u = (r.heard j u there on).idle used fresh in
      let none-left : (u.pending ≡ []) × (u.owed ≡ []) = without-locks j u there on idle.exclusive in
      record {
        used = used;
        fresh = fresh;
        holds = idle;
        pending = none-left.0;
        owed = none-left.1;
      }

  spent-has-nothing : HasNothing {X = X} spent
  spent-has-nothing = record {
    used = refl;
    fresh = refl;
    holds = record { shares = λ p. refl; exclusive = λ p. refl; writing = λ p. refl; frames = refl; numbers = (refl, refl); out = refl };
    pending = refl;
    owed = refl;
  }

  -- a pass that was joined away has no part
  pub whole-lives : (id : ℕ) (v : View X) → IsWholePass s.views id v → v.live ≡ true
  whole-lives id v pass =
      ⊎_elim
      (λ on. on)
      (λ off. absurd (let some' : 1 ≤ owns 0 v = pass.whole 0 (omega arith) in let none : owns 0 v ≡ 0 =
      ap (owns 0) (r.parts.spent id v pass.there off) in omega arith))
      (cases_Bool v.live)

  pub others-have-nothing : (id : ℕ) (v : View X) → IsWholePass s.views id v → (j : ℕ) (u : View X) → j ≢ id
      → get_elem? s.views j ≡ some u → HasNothing u
  others-have-nothing id v pass j u ne there =
      ⊎_elim
      (λ on. without-parts j u there on
      (λ k l. not-whole s.views id j v u r.parts.parts (λ e. ne (sym e)) pass.there there (k, l) pass.whole))
      (λ off. subst HasNothing (sym (r.parts.spent j u there off)) spent-has-nothing)
      (cases_Bool u.live)
