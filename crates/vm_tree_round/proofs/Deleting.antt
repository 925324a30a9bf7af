-- A round of a del: what a try leaves that is not answered, and what its answer leaves.
use Rattle.std.proofs.Common.{⊎_elim, ◌<◌, ◌∙◌, ◌≡◌, ◌⊎◌, ℕ}
use Rattle.vm_map.specs.declared.call.Call.TheVariants.{Del}
use Rattle.vm_map.specs.{declared.call.Reply.Reply, declared.call.Said.Said}
use Rattle.vm_tree_model.specs.{Layout.Layout}
use Rattle.vm_tree_write.specs.from_vm_step.Prelude.{UnlockedExpected, View}
use Rattle.vm_tree_write.specs.from_vm_step.declared_saw_Saw.{Saw}
use Rattle.vm_tree_write.specs.from_vm_guard.declared_deny_Deny_TheVariants as denies
use Rattle.vm_tree_write.specs.from_vm_tree_rule.{Leaves.ReadsOn, Shown.IsShown, Turns.IsNeeded}
use Rattle.vm_tree_write.specs.from_vm_tree_read.{Reads.IsAnswered}
use Rattle.vm_tree_write.specs.from_vm_tree_read.{Waiting.IsNoBringFault}
use Rattle.vm_tree_write.specs.from_vm_tree_read.Waiting.{IsRound as round}
use Rattle.vm_tree_write.specs.from_vm_tree_split.Splits.{KeepsLocksOnly}
use Rattle.vm_tree_write.proofs.from_vm_tree_split.{Refusing.denied-keeps, Trying.reads-keep}
use Rattle.vm_tree_write.specs.Prelude.{IsLockLost, IsMergeDone, IsNeededBeside}
use Rattle.vm_tree_write.specs.declared.write.TryWrite.TheVariants as tries
use Rattle.vm_tree_round.specs.Rounds.{IsDelRound, IsDelRound as del_round, IsNeededByDel}
use Rattle.vm_tree_write.specs.Writes.{IsDel, IsDelAlone, IsVain}

module _ {X : Type 0} (L : Layout) (key : ℕ) (saw : Saw) (v w : View X) where
  -- a try of a del that is to be made again
  abbrev ToTry : Type 0
  ToTry = (ReadsOn v w × IsShown UnlockedExpected v saw w) ⊎ IsLockLost L v saw w

  pub again-keeps : ToTry → KeepsLocksOnly v w
  again-keeps a =
      ⊎_elim (λ (r : ReadsOn v w × IsShown UnlockedExpected v saw w). reads-keep v w r.0) (λ (l : IsLockLost L v saw w). l.keeps) a

  -- it has just the frames that it had
  pub again-frames : ToTry → (w.start ≡ v.start) × (w.frames ≡ v.frames)
  again-frames a =
      ⊎_elim (λ (r : ReadsOn v w × IsShown UnlockedExpected v saw w). (r.0.0.start, r.0.0.frames.0))
      (λ (l : IsLockLost L v saw w).
      (l.keeps.start, (denied-keeps L l.guards (denies.Again saw) l.found w l.denied).1 ∙ l.earlier.0.frames.0)) a

  pub again-round : ToTry → IsDelRound L key v w
  again-round a =
      ⊎_elim (λ (r : ReadsOn v w × IsShown UnlockedExpected v saw w). del_round.round (round.again saw r.0 r.1))
      (λ (l : IsLockLost L v saw w). del_round.lost saw l) a

module _ {X : Type 0} (L : Layout) (key p : ℕ) (v x : View X) where
  pub needed-inside : IsNeededByDel L v key p x → p < v.start.pages
  needed-inside n = ⊎_elim (λ (k : IsNeeded L v key p x). k.inside) (λ (k : IsNeededBeside L v key p x). k.inside) n

  -- the page that was needed was brought
  pub needed-round : (w : View X) → ReadsOn v x → IsNeededByDel L v key p x → IsNoBringFault p x w → IsDelRound L key v w
  needed-round w reads n brought =
      ⊎_elim (λ (k : IsNeeded L v key p x). del_round.round (round.needed p x reads k brought))
      (λ (k : IsNeededBeside L v key p x). del_round.needed p x reads k brought) n

module _ {S : Type 0} (plain : S → Said) (L : Layout) (key : ℕ) (reply : Reply) where
  abbrev said_is : Said
  said_is = record { call = Del key; reply = reply }

  abbrev Takes : View S → View S → Type 0
  Takes x w = (IsDelAlone plain L key said_is x w ⊎ IsMergeDone plain L key said_is x w) × ¬ (IsVain said_is)

  -- the pass has just the frames that it had
  pub answer-frames : (x w : View S) → IsDel plain L key (tries.Done reply) x w → (w.start ≡ x.start) × (w.frames ≡ x.frames)
  answer-frames x w a =
      ⊎_elim
      (λ (t : Takes x w).
      ⊎_elim (λ (k : IsDelAlone plain L key said_is x w). (k.write.writes.start, k.write.writes.frames.0))
      (λ (d : IsMergeDone plain L key said_is x w).
      (d.made.holds.start ∙ d.earlier.0.start, d.made.holds.frames ∙ d.earlier.0.frames.0)) t.0)
      (λ (k : IsAnswered plain L said_is x w × IsVain said_is). (k.0.reads.start, k.0.reads.frames.0)) a
