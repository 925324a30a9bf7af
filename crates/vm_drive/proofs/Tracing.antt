-- From what the calls of all lists found to what is so at the end.
use Rattle.std.proofs.Common.{[], ◌+◌, ◌<◌, ◌∷◌, ◌≡◌, ◌≤◌, arith, List, Result, subst, ℕ}
use Rattle.vm_event.specs.Prelude.{MAX_VERSION, version_of}
use Rattle.vm_rule.specs.Prelude.{last_of}
use Rattle.vm_rule.specs.declared.view.WordPlace.TheVariants as places
use Rattle.vm_step.specs.Prelude.{HasGiven, View}
use Rattle.vm_calls.specs.from_vm_tree_rule.declared_fault_TreeFault.{TreeFault}
use Rattle.vm_calls.specs.{Called.FoundFull, Called.FoundWorn, Calling.Calling}
use Rattle.vm_calls.proofs.Tracing.{all-caused}
use Rattle.vm_drive.specs.Lists.{AllCausedBy}

module _ {X C R P : Type 0} (kind : Calling X C R P)
    (full worn damaged full' worn' damaged' : ℕ → Type 0) (f : (n : ℕ) → full n → full' n) (g : (n : ℕ) → worn n → worn' n)
    (h : (n : ℕ) → damaged n → damaged' n) where
  pub lists-caused : (lists : List (List C)) (answers : List (List (Result R TreeFault)))
      → AllCausedBy kind full worn damaged lists answers → AllCausedBy kind full' worn' damaged' lists answers
  lists-caused [] answers k = tt
  lists-caused (cs ∷ lists) [] k = tt
  lists-caused (cs ∷ lists) (rs ∷ answers) k =
      (all-caused kind full worn damaged full' worn' damaged' f g h cs rs k.0, lists-caused lists answers k.1)

module _ {X : Type 0} where
  -- no next word that the pass found is above this one
  pub used-up : (w : View X) (n next : ℕ) → ((x : ℕ) → HasGiven w.log places.Next x → x ≤ next) → FoundFull w n
      → (n ≡ w.start.pages) × (n ≤ next + 1)
  used-up w n next most f =
      let found : f.1.found ≤ next = most f.1.found f.1.given in
      let high : n ≤ f.1.found + 1 = f.1.high in
      (f.0, omega arith)

  -- no state word that it found has a later version than the page's last one
  pub worn-out : (w : View X) (p : ℕ)
      → ((p word : ℕ) → p < w.start.pages → HasGiven w.log (places.State p) word
      → version_of word ≤ (last_of w p).version) → FoundWorn w p → MAX_VERSION ≤ (last_of w p).version
  worn-out w p most m =
      let last : version_of m.word ≤ (last_of w p).version = most p m.word m.inside m.given in
      subst (λ n. n ≤ (last_of w p).version) m.last last
