-- A call that is tried again, round after round: what is left of its pass and interface while no try was answered, and how many
-- rounds were made.
use Rattle.std.proofs.Common.{◌+◌, ◌∙◌, ◌≡◌, arith, Bool, refl, ℕ}
use Rattle.vm_pool.specs.from_vm_rule.{declared_words_Pass.Pass, declared_words_Words.Words}
use Rattle.vm_tree_rule.specs.from_vm_step.Prelude.{AreHeld, GoesOn, IsReadyOn, View, view}
use Rattle.vm_tree_rule.proofs.from_vm_step.Going.{goes-then}
use Rattle.vm_pool.specs.from_vm_exmap.declared_interface_Interface.{Interface}
use Rattle.vm_tree_rule.specs.declared.fault.TreeFault.{TreeFault}
use Rattle.vm_tree_read.specs.Waiting.{AreRounds as rounds, HasRounds, LosesNone, RoundTells}
use Rattle.vm_tree_read.specs.declared.round.Round.{Round}
use Rattle.vm_tree_read.specs.declared.round.Round.TheVariants as comes
use Rattle.vm_tree_read.proofs.Losing.{loses-same, loses-then}

module _ {U B X : Type 0} {o : _} where
  pub record HasTried (leaves : View X → View X → Type 0) (words : Words U B X o) (tells : Bool) (p q : Pass U X o)
      (old new : Interface) : Type 0 where
    pub goes : GoesOn words tells p q
    pub held : AreHeld new.frames (view q)
    pub lost : LosesNone old.frames (view p) new.frames (view q)
    pub iface : (new.home ≡ old.home) × (new.cap ≡ old.cap)
    pub left : leaves (view p) (view q)

  module _ {leaves : View X → View X → Type 0} {words : Words U B X o} {tells : Bool} where
    pub tried-none : (p : Pass U X o) (i : Interface) → leaves (view p) (view p) → IsReadyOn words tells p
        → AreHeld i.frames (view p) → HasTried leaves words tells p p i i
    tried-none p i left ready held = record {
      goes = record { same = (refl, refl); ready = ready };
      held = held;
      lost = loses-same i.frames i.frames (view p) (view p) refl (λ f e. e);
      iface = (refl, refl);
      left = left;
    }

  -- one round more was made
  pub tried-round : {leaves further : View X → View X → Type 0} {words : Words U B X o} {tells : Bool} {p q : Pass U X o}
      {old mid : Interface} → HasTried leaves words tells p q old mid → (r : Pass U X o) (new : Interface)
      → GoesOn words tells q r → AreHeld new.frames (view r) → LosesNone mid.frames (view q) new.frames (view r)
      → (new.home ≡ mid.home) × (new.cap ≡ mid.cap) → further (view p) (view r) → HasTried further words tells p r old new
  tried-round {p = p} {q = q} {old = old} {mid = mid} h r new goes held lost iface left = record {
    goes = goes-then h.goes goes;
    held = held;
    lost = loses-then old.frames mid.frames new.frames (view p) (view q) (view r) h.lost lost;
    iface = (iface.0 ∙ h.iface.0, iface.1 ∙ h.iface.1);
    left = left;
  }

-- what is told of a round may be told in other words
pub told-as : {T : Type 0} (done as_done : T → Type 0) (undone as_undone : Type 0) (failed as_failed : TreeFault → Type 0)
    (round : Round T) → RoundTells done undone failed round → ((t : T) → done t → as_done t) → (undone → as_undone)
    → ((fault : TreeFault) → failed fault → as_failed fault) → RoundTells as_done as_undone as_failed round
told-as done as_done undone as_undone failed as_failed (comes.Done t) k d u f = d t k
told-as done as_done undone as_undone failed as_failed comes.Soon k d u f = u k
told-as done as_done undone as_undone failed as_failed comes.Later k d u f = u k
told-as done as_done undone as_undone failed as_failed (comes.Failed fault) k d u f = f fault k

-- no round was made yet, and then one more
module _ {X : Type 0} (round : View X → View X → Type 0) where
  pub has-none : (v : View X) → HasRounds round 0 v v
  has-none v = (rounds.none, refl)

  pub has-further : (n : ℕ) (v x w : View X) → HasRounds round n v x → round x w → HasRounds round (n + 1) v w
  has-further n v x w made last = (rounds.further x w made.0 last, (let e = made.1 in omega (arith, e)))
