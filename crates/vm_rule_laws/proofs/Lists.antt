-- The lists of releases and of entries are those of the table: some pass has seen all of each, and no pass has seen
-- more than is there.
use Rattle.std.proofs.Common.{[], ⊎_elim, ◌++◌, ◌+◌, ◌∙◌, ◌∷◌, ◌≡◌, ◌⊎◌, ap, arith, Bool, false, length, List, Option}
use Rattle.std.proofs.Common.{refl, subst, sym, true, ℕ}
use Rattle.std.proofs.lemmas.Bool.{cases_Bool}
use Rattle.std.proofs.lemmas.List.{append-nil, length-append}
use Rattle.vm_rule.specs.from_vm_event.Prelude.{get_elem?, some}
use Rattle.vm_rule.specs.Prelude.{Kept, Ruled, spent, Start, StartsWith, Stored, Table}
use Rattle.vm_rule.specs.{declared.view.Origin.Origin, declared.view.View.View}

none-long : {A : Type 0} (l : List A) → length l ≡ 0 → l ≡ []
none-long [] e = refl
none-long (x ∷ xs) e = absurd (omega arith)

-- two lists that begin with each other are one
pub begin-both : {A : Type 0} (l m : List A) → StartsWith l m → StartsWith m l → l ≡ m
begin-both l m a b =
    let first : length l ≡ length m + length a.0 = ap length a.1 ∙ length-append m a.0 in
    let second : length m ≡ length l + length b.0 = ap length b.1 ∙ length-append l b.0 in
    a.1 ∙ ap (λ (t : List _). m ++ t) (none-long a.0 (omega arith)) ∙ append-nil m

module _ {X B : Type 0} (stored : B → Stored) (keeps : Start → Kept X → Type 0)
    (tied : Start → ℕ → List ℕ → ℕ → List ℕ → Type 0) (start : Origin) (tells : Bool)
    (s : Table (Option B) (View X)) where
  -- all that a pass has of one of the lists, where some view has seen or was told all of it
  begins-with : {A : Type 0} (list : List A) (field told : View X → List A) → (other : List A)
      → ((j : ℕ) (v : View X) → get_elem? s.views j ≡ some v → v.live ≡ true → StartsWith other (field v) × StartsWith other (told v))
      → ((j : ℕ) (v : View X) → get_elem? s.views j ≡ some v → v.live ≡ false → v ≡ spent)
      → field spent ≡ [] → told spent ≡ []
      → (j : ℕ) × (v : View X) × (get_elem? s.views j ≡ some v) × ((field v ≡ list) ⊎ (told v ≡ list))
      → StartsWith other list
  begins-with list field told other lives dies no_field no_told k =
      ⊎_elim
      (λ on. let both = lives k.0 k.1 k.2 on in
      ⊎_elim (λ e. subst (StartsWith other) e both.0) (λ e. subst (StartsWith other) e both.1) k.3)
      (λ off. let is : k.1 ≡ spent = dies k.0 k.1 k.2 off in
      let none : list ≡ [] = ⊎_elim (λ e. sym e ∙ ap field is ∙ no_field) (λ e. sym e ∙ ap told is ∙ no_told) k.3 in
      (other, sym (ap (λ (l : List _). l ++ other) none)))
      (cases_Bool k.1.live)

  releases-begin : (r other : Ruled stored keeps tied start tells s) → StartsWith other.releases r.releases
  releases-begin r other =
      begins-with r.releases (λ v. v.releases) (λ v. v.told_releases) other.releases
      (λ j v there on. let k = other.heard j v there on in (k.saw, k.told.0)) r.parts.spent refl refl r.lists.longest_releases

  history-begins : (r other : Ruled stored keeps tied start tells s) → StartsWith other.history r.history
  history-begins r other =
      begins-with r.history (λ v. v.seen) (λ v. v.told) other.history
      (λ j v there on. let k = other.heard j v there on in ((k.heard.0, k.heard.1), (k.told.1.0, k.told.1.1)))
      r.parts.spent refl refl r.lists.longest

  pub lists-one : (r other : Ruled stored keeps tied start tells s)
      → (r.releases ≡ other.releases) × (r.history ≡ other.history)
  lists-one r other = (
    begin-both r.releases other.releases (releases-begin other r) (releases-begin r other),
    begin-both r.history other.history (history-begins other r) (history-begins r other),
  )
