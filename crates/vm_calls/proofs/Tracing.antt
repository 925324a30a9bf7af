-- What steps found stays found.
use Rattle.std.proofs.Common.{[], ◌++◌, ◌+◌, ◌<◌, ◌∙◌, ◌∷◌, ◌≡◌, ap, append_assoc, Err, false, List, Ok, Result, subst, sym, ℕ}
use Rattle.vm_rule.specs.Prelude.{StartsWith}
use Rattle.vm_rule.specs.declared.view.WordPlace.{WordPlace}
use Rattle.vm_rule.specs.declared.view.WordPlace.TheVariants as places
use Rattle.vm_step.specs.Prelude.{Did, HasGiven, Origin, View}
use Rattle.vm_tree_range.specs.from_vm_tree_rule.declared_fault_TreeFault.{TreeFault}
use Rattle.vm_tree_range.specs.from_vm_tree_rule.declared_fault_TreeFault_TheVariants.{Damaged, Device, Full, Worn}
use Rattle.vm_calls.specs.Causes.{AreCausedBy, CausedBy, IsUntold}
use Rattle.vm_calls.specs.{Called.FoundFull, Called.FoundWorn, Calling.Calling}

-- what was found stays found
pub given-more : (l m : List Did) (at : WordPlace) (word : ℕ) → StartsWith l m → HasGiven m at word → HasGiven l at word
given-more l m at word s h = record {
  earlier = h.earlier;
  step = h.step;
  later = h.later ++ s.0;
  cut = s.1 ∙ ap (λ (y : List Did). y ++ s.0) h.cut ∙ append_assoc h.earlier (h.step ∷ h.later) s.0;
  gives = h.gives;
}

module _ {X C R P : Type 0} (k : Calling X C R P) (full worn damaged full' worn' damaged' : ℕ → Type 0)
    (f : (n : ℕ) → full n → full' n) (g : (n : ℕ) → worn n → worn' n) (h : (n : ℕ) → damaged n → damaged' n) where
  pub caused-by : (c : C) (r : Result R TreeFault) → CausedBy k full worn damaged c r → CausedBy k full' worn' damaged' c r
  caused-by c (Ok reply) had = tt
  caused-by c (Err (Device p count)) had = tt
  caused-by c (Err (Full pages)) had = (had.0, f pages had.1)
  caused-by c (Err (Worn p)) had = g p had
  caused-by c (Err (Damaged p)) had = h p had

  pub all-caused : (cs : List C) (rs : List (Result R TreeFault)) → AreCausedBy k full worn damaged cs rs
      → AreCausedBy k full' worn' damaged' cs rs
  all-caused [] rs had = tt
  all-caused (c ∷ cs) [] had = tt
  all-caused (c ∷ cs) (r ∷ rs) had = (caused-by c r had.0, all-caused cs rs had.1)

module _ {X : Type 0} where
  -- so does what began so
  pub untold-later : (v w : View X) (p : ℕ) → w.start ≡ v.start → IsUntold v p → IsUntold w p
  untold-later v w p start u = subst (λ (o : Origin). (o.tells ≡ false) × (p < o.pages)) (sym start) u

  -- steps that come later leave both
  pub found-later : (v w : View X) (n : ℕ) → w.start ≡ v.start → StartsWith w.log v.log → FoundFull v n → FoundFull w n
  found-later v w n start log f = (
    f.0 ∙ ap (λ s. s.pages) (sym start),
    record { found = f.1.found; given = given-more w.log v.log places.Next f.1.found log f.1.given; high = f.1.high },
  )

  pub max-later : (v w : View X) (p : ℕ) → w.start ≡ v.start → StartsWith w.log v.log → FoundWorn v p → FoundWorn w p
  max-later v w p start log m = record {
    inside = subst (λ s. p < s.pages) (sym start) m.inside;
    word = m.word;
    given = given-more w.log v.log (places.State p) m.word log m.given;
    last = m.last;
  }
