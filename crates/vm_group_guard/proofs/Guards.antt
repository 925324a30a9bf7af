-- A group that a pass holds as guards of its pages, one each: what holds of several guards together holds of the group.
use Rattle.vm_guard.specs.{declared.exclusive.ExclusiveGuard.ExclusiveGuard, Groups.GuardsHeld, Groups.IsBeside}
use Rattle.vm_guard.specs.{Groups.last_pid}
use Rattle.vm_guard.specs.Groups.{MayReleaseAll, pids_of, release_steps as steps_of, releases_of}
use Rattle.vm_guard.specs.Guards.{IsHolding}
use Rattle.vm_owner.specs.Kept.{Change}
use Rattle.vm_rule.specs.Prelude.{did_store, draft_of}
use Rattle.vm_step.specs.Prelude.{IsClaimed, IsNotOut, Release}
use Rattle.vm_group_guard.proofs.Pages.{numbers-apart}
use Rattle.vm_group_guard.proofs.Prelude.{[], ap, AreApart, arith, Did, Each, Entry, IsUnder, length, List, numbers}
use Rattle.vm_group_guard.proofs.Prelude.{Option, refl, Start, subst, suc, sym, View, WordPlace, ℕ, ◌+◌, ◌∙◌, ◌∷◌, ◌≡◌}
use Rattle.vm_group_guard.specs.{declared.lock.Standing.Standing, Locking.AreHolding}
use Rattle.vm_group_guard.specs.Releasing.{LetsRelease, MayBeGivenUp, release_stores, releases_at}

abbrev pub guard_of : ℕ → ℕ → Standing → ExclusiveGuard
guard_of q version s = record { pid = q; version = version; frame = s.frame; dirty = s.dirty; lock = record {} }

-- those of the pages from q on
abbrev pub guards_from : ℕ → ℕ → List Standing → List ExclusiveGuard
guards_from q version [] = []
guards_from q version (s ∷ ss) = guard_of q version s ∷ guards_from (suc q) version ss

pub pids-are : (q version : ℕ) (ss : List Standing) → pids_of (guards_from q version ss) ≡ numbers q (length ss)
unfolding numbers
pids-are q version [] = refl
pids-are q version (s ∷ ss) = ap (λ (ps : List ℕ). q ∷ ps) (pids-are (suc q) version ss)

pub steps-are : (q version : ℕ) (ss : List Standing)
    → steps_of (guards_from q version ss) ≡ release_stores version (numbers q (length ss))
unfolding numbers
steps-are q version [] = refl
steps-are q version (s ∷ ss) =
    ap (λ (l : List Did). did_store (WordPlace.State q) (version + 1) ∷ l) (steps-are (suc q) version ss)

pub last-is : (q version : ℕ) (s : Standing) (ss : List Standing)
    → last_pid (guard_of q version s) (guards_from (suc q) version ss) ≡ q + length ss
last-is q version s [] = let same : q ≡ q + 0 = omega arith in same
last-is q version s (t ∷ ss) =
    last-is (suc q) version t ss ∙ (let same : suc q + length ss ≡ q + suc (length ss) = omega arith in same)

-- what holds of each page holds of each guard's
each-guard : (P : ℕ → Type 0) (q version : ℕ) (ss : List Standing) → ((p : ℕ) → IsUnder q (length ss) p → P p)
    → Each (λ (g : ExclusiveGuard). P g.pid) (guards_from q version ss)
each-guard P q version [] all = tt
each-guard P q version (s ∷ ss) all = (
  all q (omega arith, omega arith),
  each-guard P (suc q) version ss (λ p is. all p (omega (arith, is.0), omega (arith, is.1))),
)

module _ {X : Type 0} where
  pub releases-are : (q version : ℕ) (ss : List Standing) (v : View X)
      → releases_of v (guards_from q version ss) ≡ releases_at version v (numbers q (length ss))
  unfolding numbers
  releases-are q version [] v = refl
  releases-are q version (s ∷ ss) v =
      ap (λ (l : List Release). record { page = q; version = version + 1; words = draft_of v q } ∷ l)
      (releases-are (suc q) version ss v)

  pub guards-held : (q version : ℕ) (ss : List Standing) (v : View X) → AreHolding q version ss v
      → GuardsHeld v (guards_from q version ss)
  guards-held q version [] v held = tt
  guards-held q version (s ∷ ss) v held =
      let here : q + 0 ≡ q = omega arith in (
        subst (λ p. IsHolding p s.frame version s.dirty v) here (held 0 s refl),
        guards-held (suc q) version ss v (λ k t is.
            let there : q + suc k ≡ suc q + k = omega arith in
            subst (λ p. IsHolding p t.frame version t.dirty v) there (held (suc k) t is)),
      )

  -- they may be released together, where the group may be given up
  pub guards-may : (may_release : Start → List ℕ → List Change → List (Entry X) → Type 0) (h version : ℕ)
      (ss : List Standing) (said : Option X) (v : View X) → AreHolding h version ss v → MayBeGivenUp h (length ss) v
      → LetsRelease may_release (numbers h (length ss)) said v
      → MayReleaseAll may_release (guards_from h version ss) said v
  guards-may may_release h version ss said v held may owner = record {
    held = guards-held h version ss v held;
    apart = subst AreApart (sym (pids-are h version ss)) (numbers-apart h (length ss));
    home = each-guard (λ q. IsNotOut v q) h version ss may.home;
    claimed = λ t. each-guard (λ q. IsClaimed v q) h version ss (may.claimed t);
    owner = subst (λ qs. LetsRelease may_release qs said v) (sym (pids-are h version ss)) owner;
  }

  -- what they leave beside them the group does
  pub guards-beside : (h version : ℕ) (ss : List Standing) (v w : View X)
      → IsBeside (pids_of (guards_from h version ss)) (steps_of (guards_from h version ss))
      (releases_of v (guards_from h version ss)) v w
      → IsBeside (numbers h (length ss)) (release_stores version (numbers h (length ss)))
      (releases_at version v (numbers h (length ss))) v w
  guards-beside h version ss v w beside =
      let gs : List ExclusiveGuard = guards_from h version ss in
      let qs : List ℕ = numbers h (length ss) in
      subst (λ (l : List Release). IsBeside qs (release_stores version qs) l v w) (releases-are h version ss v)
      (subst (λ (l : List Did). IsBeside qs l (releases_of v gs) v w) (steps-are h version ss)
      (subst (λ (l : List ℕ). IsBeside l (steps_of gs) (releases_of v gs) v w) (pids-are h version ss) beside))
