-- What a call that gave fresh pages leaves of the pages owed and of the next page that the pass knows: by whether the
-- pages were claimed, or their numbers were free.
use Rattle.std.proofs.Common.{[], ⊎_elim, ◌++◌, ◌∙◌, ◌∷◌, ◌≡◌, ◌⊎◌, ap, eqb, false, inl, inr, List, None, refl, Some, sym, true, ℕ}
use Rattle.std.proofs.lemmas.Bool.{eq-eqb, or_left, or_right}
use Rattle.vm_owner.proofs.NumberLemmas.{without-none}
use Rattle.vm_rule.specs.Prelude.{has, without_all}
use Rattle.vm_step.specs.Prelude.{View}
use Rattle.vm_tree_read.specs.from_vm_guard.{declared_group_Group.Group, Groups.guards_of, Groups.pids_of, Reused.IsFreshAnswer}
use Rattle.vm_tree_read.specs.from_vm_guard.declared_given_Fresh_TheVariants as freshes
use Rattle.vm_tree_read.proofs.from_vm_guard.Searching.{looks-none, looks-some}

-- none of these pages is among the others
pub without-each : (ps o : List ℕ) → ((q : ℕ) → has q ps ≡ true → has q o ≡ false) → without_all ps o ≡ o
without-each [] o none = refl
without-each (p ∷ ps) o none =
    ap (without_all ps) (without-none p o (none p (or_left (eqb p p) (has p ps) (eq-eqb p p refl))))
    ∙ without-each ps o (λ q e. none q (or_right (eqb q p) (has q ps) e))

lost-not : (group : Group) (saw : _) → freshes.Pages group ≡ freshes.Again saw → ⊥
lost-not group saw e = absurd (cc)

none-given-some : (q : ℕ) → None ≡ Some q → ⊥
none-given-some q e = absurd (cc)

module _ {X : Type 0} (n : ℕ) (group : Group) (before after : List ℕ) (v w : View X) where
  -- the pages were claimed, and are owed to the pass; or it took their numbers, and owes what it owed
  pub owed-either : IsFreshAnswer n before after v w (freshes.Pages group)
      → (w.owed ≡ pids_of (guards_of group) ++ v.owed) ⊎ (w.owed ≡ v.owed)
  owed-either answer =
      ⊎_elim
      (λ a. let own = (looks-none n v a.0 a.1).own in inl (a.2.1.owed ∙ (λ i. sym a.2.1.guards i ++ own.group.1 i)))
      (λ a.
      let own = (looks-some n a.1 a.2 v a.0 a.3).own in
      ⊎_elim (λ lost. absurd (lost-not group lost.0 lost.1)) (λ taken. inr (taken.group.0 ∙ own.group.1)) a.4.2)
      answer

  -- the next page that it knows then it knew before
  pub next-given : IsFreshAnswer n before after v w (freshes.Pages group) → (q : ℕ) → w.next ≡ Some q → v.next ≡ Some q
  next-given answer q e =
      ⊎_elim
      (λ a. absurd (none-given-some q (sym a.2.1.next ∙ e)))
      (λ a.
      let own = (looks-some n a.1 a.2 v a.0 a.3).own in
      ⊎_elim (λ lost. absurd (lost-not group lost.0 lost.1)) (λ taken. sym own.group.2 ∙ sym taken.group.1 ∙ e) a.4.2)
      answer
