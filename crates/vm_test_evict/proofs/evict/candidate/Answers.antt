use Rattle.std.proofs.Common.{[], ◌++◌, ◌<◌, ◌∙◌, ◌∷◌, ◌≡◌, ap, arith, List, refl, subst, sym, ℕ}
use Rattle.vm_event.specs.Prelude.{MARKED, MAX_VERSION, state_of, version_of}
use Rattle.vm_step.specs.Prelude.{AreCandidates}
use Rattle.vm_test_evict.proofs.evict.candidate.Goals as goal

marked : state_of 18302628885633695751 ≡ MARKED
unfolding state_of
marked = omega arith

below : version_of 18302628885633695751 < MAX_VERSION
unfolding version_of
below = omega arith

one : AreCandidates 1 ((0, 18302628885633695751) ∷ [])
one = record { apart = (refl, tt); each = (record { page = omega arith; marked = marked; below = below }, tt) }

pub returns : goal.returns
returns c = subst (λ (l : List (ℕ × ℕ)). AreCandidates 1 l)
    (sym (c.push.ensures.items ∙ ap (λ (l : List (ℕ × ℕ)). l ++ (0, 18302628885633695751) ∷ []) c.new-list.ensures))
    one
