-- Steps of a range leave no word but where they take a mark away, take a share, or give one up.
use Rattle.std.proofs.Common.{[], ◌++◌, ◌∙◌, ◌∷◌, ◌≡◌, ◌⊎◌, ap, append_assoc, inl, inr, List, None, Option, refl, subst, sym, ⊎_elim, ℕ}
use Rattle.vm_rule.specs.Prelude.{Start}
use Rattle.vm_rule.specs.declared.view.WordPlace.{WordPlace}
use Rattle.vm_rule.proofs.{Entries.each-map, Heard.each-both}
use Rattle.vm_step.specs.Prelude.{Did, View}
use Rattle.vm_tree_read.specs.from_vm_guard.{declared_deny_Deny.Deny, Denied.IsDenied}
use Rattle.vm_tree_read.specs.from_vm_guard.{Guards.IsSharedAt, Guards.IsUnshared, Guards.Loads, LockSteps.share_did, Quiet.IsUnmark}
use Rattle.vm_tree_model.specs.Layout.{Layout}
use Rattle.vm_tree_read.specs.from_vm_tree_rule.{declared_turn_Turn.Turn, Leaves.OnlyReads, Leaves.ReadsOn, Turns.IsTurnedBack}
use Rattle.vm_tree_read.specs.from_vm_tree_rule.declared_turn_Turn_TheVariants as turns
use Rattle.vm_tree_read.proofs.from_vm_tree_rule.Readings.{denied-reads, loads-reads}
use Rattle.vm_tree_range.specs.Ranges.{IsShareStep, IsShareStep as steps, LeavesShares, OnlyShares}

-- a step of a range
abbrev IsOf : Did → Type 0
IsOf d = (d.wrote ≡ None) ⊎ (IsUnmark d ⊎ IsShareStep d)

module _ {X : Type 0} where
  pub shares-then : (u v w : View X) → LeavesShares u v → LeavesShares v w → LeavesShares u w
  shares-then u v w f g = record {
    done = f.done ++ g.done;
    log = g.log ∙ ap (λ (l : List Did). l ++ g.done) f.log ∙ append_assoc u.log f.done g.done;
    shares = each-both IsOf f.done g.done f.shares g.shares;
  }

  pub reads-shares : (v w : View X) → OnlyReads v w → LeavesShares v w
  reads-shares v w r = record {
    done = r.done;
    log = r.log;
    shares = each-map (λ (d : Did). (d.wrote ≡ None) ⊎ IsUnmark d) IsOf
        (λ d. ⊎_elim (λ none. inl none) (λ unmark. inr (inl unmark))) r.done r.clears;
  }

  pub turned-shares : (L : Layout) (v : View X) (key : ℕ) (turn : Turn) (w : View X) → IsTurnedBack L v key turn w → LeavesShares v w
  turned-shares L v key (turns.Again saw) w t = reads-shares v w t.0.0
  turned-shares L v key (turns.Need p) w t = reads-shares v w t.0.0
  turned-shares L v key (turns.Damaged p) w t = reads-shares v w t.0.0

  pub denied-shares : (allowed : Deny → Type 0) (kept : ℕ → Type 0) (expects : ℕ → ℕ → Type 0) (p : ℕ) (deny : Deny)
      (v w : View X) → IsDenied allowed kept expects p deny v w → LeavesShares v w
  denied-shares allowed kept expects p deny v w d = reads-shares v w (denied-reads allowed kept expects p deny v w d).0

  -- a leaf was reached, and words of it were loaded
  pub leaf-shares : (p word frame : ℕ) (loaded : List (ℕ × ℕ)) (u v w : View X) → ReadsOn u v
      → Loads p word frame loaded v w → LeavesShares u w
  leaf-shares p word frame loaded u v w r l =
      shares-then u v w (reads-shares u v r.0) (reads-shares v w (loads-reads p word frame loaded v w l).0)

  pub taken-shares : (tied : Start → ℕ → List ℕ → ℕ → List ℕ → Type 0) (p frame version : ℕ) (said : Option X)
      (v w : View X) → IsSharedAt tied p frame version said v w → LeavesShares v w
  taken-shares tied p frame version said v w s =
      let t = s.takes in
      record {
        done = t.before ++ share_did p t.expects ∷ [];
        log = s.elsewhere.steady.log ∙ ap (λ (l : List Did). v.log ++ l) t.cut;
        shares = each-both IsOf t.before (share_did p t.expects ∷ [])
            (each-map (λ (d : Did). (d.at ≡ WordPlace.State p) × (d.wrote ≡ None)) IsOf (λ d looks. inl looks.1)
            t.before t.looks)
            (inr (inr (steps.takes p t.expects refl)), tt);
      }

  pub given-shares : (p : ℕ) (v w : View X) → IsUnshared p v w → LeavesShares v w
  given-shares p v w g = record {
    done = g.done;
    log = g.elsewhere.steady.log;
    shares = subst OnlyShares (sym g.steps.1) (inr (inr (steps.gives p g.steps.0 refl)), tt);
  }
