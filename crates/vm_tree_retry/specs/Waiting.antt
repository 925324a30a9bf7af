-- What a write answers that is tried again: tries, pages brought and nodes split in between, until a try is answered or
-- can't be, or as many were made as may be.
use Rattle.std.specs.Prelude.{[], ◌++◌, ◌∷◌, ◌≡◌, ◌⊎◌, List, true, ℕ}
use Rattle.vm_map.specs.{declared.call.Call.TheVariants.Del, declared.call.Reply.Reply, declared.call.Said.Said}
use Rattle.vm_tree_model.specs.{Layout.Layout, Tree.map_of}
use Rattle.vm_tree_round.specs.from_vm_rule.Prelude.{Entry, entry_of, IsLocking, seat_of, StartsWith}
use Rattle.vm_tree_round.specs.from_vm_step.Prelude.{HoldsPage, KnowsAsBefore, View}
use Rattle.vm_tree_laws.specs.{History.IsLegal, Plain.plain_history}
use Rattle.vm_tree_round.specs.Rounds.{IsDelRound, IsPutFault, IsPutRound, IsWriteFault}
use Rattle.vm_tree_round.specs.from_vm_tree_rule.{declared_fault_TreeFault.TreeFault}
use Rattle.vm_tree_round.specs.from_vm_tree_read.Reads.{GainsEntry, IsAnswered, key_of}
use Rattle.vm_tree_round.specs.from_vm_tree_read.Waiting.{AreRounds}
use Rattle.vm_tree_round.specs.from_vm_tree_split.{Splits.KeepsLocksOnly}
use Rattle.vm_tree_round.specs.from_vm_tree_write.declared_write_TryWrite_TheVariants as tries
use Rattle.vm_tree_round.specs.from_vm_tree_write.Writes.{IsDel, IsVain, IsWriteDone}

module _ {S : Type 0} (plain : S → Said) (L : Layout) where
  -- The last try was answered, by a write or by a read that shows that there is nothing to write; what was done
  -- before were rounds as `round` tells of
  -- the key, which made no entry, and left what `keeps` tells. So the entry is the pass's next one, and stands behind
  -- all that the pass had seen; the
  -- pass holds what it held
  pub record IsWriteReplied (keeps : View S → View S → Type 0) (round : ℕ → View S → View S → Type 0) (said : Said)
      (v w : View S) : Type 0 where
    pub tried : View S
    pub rounds : AreRounds (round (key_of said.call)) v tried
    pub waits : keeps v tried
    pub answered : (IsWriteDone plain L said tried w × ¬ (IsVain said)) ⊎ (IsAnswered plain L said tried w × IsVain said)
    pub says : S
    pub says_is : plain says ≡ said
    pub mine : w.mine ≡ v.mine ++ entry_of v says ∷ []
    pub entry : GainsEntry says v [] w
    pub legal : v.start.tells ≡ true → IsLegal (map_of L v.start.contents) (plain_history plain w.seen)
    pub holds : (q : ℕ) → HoldsPage v w q
    pub knows : (q : ℕ) → IsLocking (seat_of v q) → KnowsAsBefore v w q
    pub out : w.out ≡ v.out
    pub notes : StartsWith w.notes v.notes
    pub start : w.start ≡ v.start
    pub parts : (w.used ≡ v.used) × (w.fresh ≡ v.fresh)

module _ {X : Type 0} (L : Layout) where
  -- the last try, after such rounds, ended so
  pub record IsWriteFaulted (keeps : View X → View X → Type 0) (round : ℕ → View X → View X → Type 0)
      (needs meets : View X → ℕ → ℕ → View X → Type 0) (may : List ℕ → ℕ → Type 0)
      (key : ℕ) (fault : TreeFault) (v w : View X) : Type 0 where
    pub tried : View X
    pub rounds : AreRounds (round key) v tried
    pub waits : keeps v tried
    pub why : IsWriteFault L needs meets may key fault tried w
    pub leaves : keeps v w

module _ {S : Type 0} (plain : S → Said) (L : Layout) where
  -- The last try of a del was answered: the pair was taken out of its leaf, alone or with a merge, or a read shows
  -- that the leaf has it not; what was done before were rounds
  -- of a del. So the entry is the pass's next one, and stands behind all that the pass had seen; the pass holds what
  -- it held. Behind the entry of a merge the pass has seen
  -- `more`, which others said since; where blocks tell their words the history up to some point behind the entry is legal
  pub record IsDelReplied (key : ℕ) (reply : Reply) (v w : View S) : Type 0 where
    pub tried : View S
    pub rounds : AreRounds (IsDelRound L key) v tried
    pub waits : KeepsLocksOnly v tried
    pub answered : IsDel plain L key (tries.Done reply) tried w
    pub says : S
    pub says_is : plain says ≡ record { call = Del key; reply = reply }
    pub mine : w.mine ≡ v.mine ++ entry_of v says ∷ []
    pub more : List (Entry S)
    pub entry : GainsEntry says v more w
    pub legal : v.start.tells ≡ true → (later rest : List (Entry S)) × (more ≡ later ++ rest)
        × IsLegal (map_of L v.start.contents) (plain_history plain ((v.seen ++ entry.0) ++ entry_of v says ∷ later))
    pub holds : (q : ℕ) → HoldsPage v w q
    pub knows : (q : ℕ) → IsLocking (seat_of v q) → KnowsAsBefore v w q
    pub out : w.out ≡ v.out
    pub notes : StartsWith w.notes v.notes
    pub start : w.start ≡ v.start
    pub parts : (w.used ≡ v.used) × (w.fresh ≡ v.fresh)

module _ {S : Type 0} (plain : S → Said) (L : Layout) (spare : List ℕ → ℕ) where
  -- the last try of a put, after such rounds, ended so
  pub record IsPutFaulted (key : ℕ) (fault : TreeFault) (v w : View S) : Type 0 where
    pub tried : View S
    pub rounds : AreRounds (IsPutRound plain L spare key) v tried
    pub waits : KeepsLocksOnly v tried
    pub why : IsPutFault plain L spare key fault tried w
    pub leaves : KeepsLocksOnly v w
