-- What an allocation answers, of an interface that had no frame: what the walk over the bundles came to.
use Rattle.vm_exmap.specs.{declared.interface.Alloc.Alloc, Visits.IsFound}
use Rattle.vm_exmap.specs.Walks.{HandsOut, IsAlloc, IsDry, IsLostOut}
use Rattle.vm_exmap.proofs.Prelude.{[], Bool, inr, length, List, max, Saw, subst, sym, true, View, ℕ, ◌∙◌, ◌≡◌}
use Rattle.std.specs.Bool.{◌==◌}
use Rattle.std.proofs.lemmas.{Bool.eqb-true, List.nil_from_length}

-- there are none where it is empty
pub is-empty : (l : List ℕ) (b : Bool) → b ≡ (length l == 0) → b ≡ true → l ≡ []
is-empty l b is e = nil_from_length l (eqb-true (length l) 0 (sym is ∙ e))

module _ {X : Type 0} (home cap n most : ℕ) (old : List ℕ) (v w : View X) (none : old ≡ []) (asked : most ≡ max n cap) where
  pub found-answer : (frames batch new : List ℕ) → IsFound most home frames v w → HandsOut n frames batch new
      → IsAlloc home cap n old new v w (Alloc.Batch batch)
  found-answer frames batch new f hands =
      let found : IsFound (max n cap) home frames v w = subst (λ m. IsFound m home frames v w) asked f in
      inr record {
        none = none;
        done = found.done;
        moves = found.moves;
        g = found.g;
        mask = found.mask;
        takes = found.takes;
        table = found.table;
        hands = subst (λ (l : List ℕ). HandsOut n l batch new) found.are hands;
      }

  pub dry-answer : IsDry home [] [] v w → IsAlloc home cap n old old v w Alloc.Dry
  dry-answer d = subst (λ (l : List ℕ). IsDry home l l v w) (sym none) d

  pub lost-answer : (saw : Saw) → IsLostOut home most [] [] saw v w → IsAlloc home cap n old old v w (Alloc.Again saw)
  lost-answer saw l =
      subst (λ (m : ℕ). IsLostOut home m old old saw v w) asked (subst (λ (o : List ℕ). IsLostOut home most o o saw v w) (sym none) l)
