-- What the replies of all lists show they show in each later view.
use Rattle.std.proofs.Common.{[], ◌∷◌, ◌≡◌, List, Result}
use Rattle.vm_rule.specs.Prelude.{Kept, Start, StartsWith}
use Rattle.vm_step.specs.Prelude.{View}
use Rattle.vm_calls.specs.{Called.AreCalls, Calling.Calling}
use Rattle.vm_calls.specs.from_vm_tree_rule.declared_fault_TreeFault.{TreeFault}
use Rattle.vm_calls.proofs.Shown.{are-shown-more}
use Rattle.vm_drive.specs.Lists.{AllShown}

module _ {X C R P : Type 0} (kind : Calling X C R P) {owned : Start → Kept X → Type 0} (laws : AreCalls kind owned)
    (v w : View X) (start : w.start ≡ v.start) (seen : StartsWith w.seen v.seen)
    (releases : StartsWith w.releases v.releases) where
  pub all-shown-more : (lists : List (List C)) (answers : List (List (Result R TreeFault)))
      → AllShown kind v lists answers → AllShown kind w lists answers
  all-shown-more [] answers h = tt
  all-shown-more (cs ∷ lists) [] h = tt
  all-shown-more (cs ∷ lists) (rs ∷ answers) h =
      (are-shown-more kind laws v w start seen releases cs rs h.0, all-shown-more lists answers h.1)
