-- What a read leaves and answers that is tried again: tries, and pages brought in between, until a try is answered or a
-- page can't be brought, or as many were made as may be.
use Rattle.std.specs.Prelude.{[], ◌++◌, ◌∷◌, ◌≡◌, ◌⊎◌, false, List, suc, true, ℕ}
use Rattle.vm_map.specs.{declared.call.Said.Said}
use Rattle.vm_tree_model.specs.{Layout.Layout, Tree.map_of}
use Rattle.vm_pool.specs.from_vm_rule.Prelude.{entry_of, has, IsLocking, seat_of}
use Rattle.vm_tree_rule.specs.from_vm_step.Prelude.{HoldsPage, KnowsAsBefore, NoneExpected, StaysAlone, View}
use Rattle.vm_tree_rule.specs.from_vm_step.declared_saw_Saw.{Saw}
use Rattle.vm_pool.specs.{Brings.IsBring, Brings.KeepsLocks, declared.bring.Bring.Bring}
use Rattle.vm_pool.specs.declared.bring.Bring.TheVariants as brings
use Rattle.vm_tree_laws.specs.{History.IsLegal, Plain.plain_history}
use Rattle.vm_tree_rule.specs.{declared.fault.TreeFault.TreeFault, Leaves.ReadsOn, Shown.IsShown, Turns.IsDamaged, Turns.IsNeeded}
use Rattle.vm_tree_rule.specs.declared.fault.TreeFault.TheVariants as faults
use Rattle.vm_tree_read.specs.Reads.{GainsEntry, IsAnswered, key_of}
use Rattle.vm_tree_read.specs.declared.round.Round.{Round}
use Rattle.vm_tree_read.specs.declared.round.Round.TheVariants as comes

-- the fault that such an answer names, where it names one
abbrev pub NamesFault : Bring → TreeFault → Type 0
NamesFault (brings.Device p count) fault = fault ≡ faults.Device p count
NamesFault (brings.Worn p) fault = fault ≡ faults.Worn p
NamesFault brings.Brought fault = ⊥
NamesFault (brings.Again saw) fault = ⊥
NamesFault (brings.Dry looks) fault = ⊥

-- it names none: the page was brought, or others came before, or no frame was free
abbrev pub NamesNone : Bring → Type 0
NamesNone answer = (fault : TreeFault) → ¬ (NamesFault answer fault)

module _ {X : Type 0} where
  -- the pass holds just what it held, and made no entry, as after a page was brought
  abbrev pub Waits : View X → View X → Type 0
  Waits v w = KeepsLocks v w

  -- no frame is lost: each one that the pass has is among the new ones, or it had it before, and not among the old ones
  abbrev pub LosesNone : List ℕ → View X → List ℕ → View X → Type 0
  LosesNone old v new w = (f : ℕ) → has f w.frames ≡ true → (has f new ≡ true) ⊎ ((has f v.frames ≡ true) × (has f old ≡ false))

  -- page p was to be brought, and a device failed, or a page was at the last version
  pub data IsBringFault (p : ℕ) (fault : TreeFault) (v w : View X) : Type 0 where
    device : (home cap before after q count : ℕ) (old new : List ℕ) → IsBring home cap p old new before after v w
        (brings.Device q count) → fault ≡ faults.Device q count → IsBringFault p fault v w
    worn : (home cap before after q : ℕ) (old new : List ℕ) → IsBring home cap p old new before after v w
        (brings.Worn q) → fault ≡ faults.Worn q → IsBringFault p fault v w

  -- page p was to be brought, once, and the answer names no fault
  pub record IsNoBringFault (p : ℕ) (v w : View X) : Type 0 where
    pub home : ℕ
    pub cap : ℕ
    pub old : List ℕ
    pub new : List ℕ
    pub before : ℕ
    pub after : ℕ
    pub answer : Bring
    pub brings : IsBring home cap p old new before after v w answer
    pub none : NamesNone answer

-- what a round came to: an answer, of which `done` tells; none, of which `undone` tells; or a fault, of which `failed` tells
abbrev pub RoundTells : {T : Type 0} → (T → Type 0) → Type 0 → (TreeFault → Type 0) → Round T → Type 0
RoundTells done undone failed (comes.Done answer) = done answer
RoundTells done undone failed comes.Soon = undone
RoundTells done undone failed comes.Later = undone
RoundTells done undone failed (comes.Failed fault) = failed fault

module _ {X : Type 0} where
  -- A round of a call: a try, from v on, was not answered, since others came before, as the steps of this
  -- try show; or it needed a page, which was then to be brought, once, and the answer named no fault. An exchange of the
  -- try may expect a word in the place of one that it read as `expects` tells
  pub data IsRound (L : Layout) (expects : ℕ → ℕ → Type 0) (key : ℕ) (v w : View X) : Type 0 where
    again : (saw : Saw) → ReadsOn v w → IsShown expects v saw w → IsRound L expects key v w
    needed : (page : ℕ) (x : View X) → ReadsOn v x → IsNeeded L v key page x → IsNoBringFault page x w → IsRound L expects key v w

  -- so it went, one such round after another
  pub data AreRounds (round : View X → View X → Type 0) (v : View X) : View X → Type 0 where
    none : AreRounds round v v
    further : (x w : View X) → AreRounds round v x → round x w → AreRounds round v w

  -- how many they are
  abbrev pub rounds_in : {round : View X → View X → Type 0} {v w : View X} → AreRounds round v w → ℕ
  rounds_in none = 0
  rounds_in (further x w before last) = suc (rounds_in before)

  -- so many rounds were made, and none of them was answered
  abbrev pub HasRounds : (View X → View X → Type 0) → ℕ → View X → View X → Type 0
  HasRounds round n v w = (r : AreRounds round v w) × (rounds_in r ≡ n)

  -- a try, from v on, needed a page, which could not be brought; or it met a damaged page
  pub data IsReadFault (L : Layout) (key : ℕ) (fault : TreeFault) (v w : View X) : Type 0 where
    unbrought : (page : ℕ) (x : View X) → ReadsOn v x → IsNeeded L v key page x → IsBringFault page fault x w → IsReadFault L key fault v w
    damaged : (page : ℕ) → ReadsOn v w → IsDamaged L v key page w → fault ≡ faults.Damaged page → IsReadFault L key fault v w

  -- the last try, after such rounds, ended so
  pub record IsFaulted (L : Layout) (key : ℕ) (fault : TreeFault) (v w : View X) : Type 0 where
    pub tried : View X
    pub rounds : AreRounds (IsRound L NoneExpected key) v tried
    pub waits : Waits v tried
    pub why : IsReadFault L key fault tried w
    pub leaves : Waits v w

module _ {S : Type 0} (plain : S → Said) (L : Layout) where
  -- The last try was answered; those before it, and the pages brought, each for a try that needed it, made no entry.
  -- So the entry is the pass's next one,
  -- and stands behind all that the pass had seen; the pass holds what it held
  pub record IsReplied (said : Said) (v w : View S) : Type 0 where
    pub tried : View S
    pub rounds : AreRounds (IsRound L NoneExpected (key_of said.call)) v tried
    pub waits : Waits v tried
    pub answered : IsAnswered plain L said tried w
    pub mine : w.mine ≡ v.mine ++ entry_of v answered.says ∷ []
    pub entry : GainsEntry answered.says v [] w
    pub legal : v.start.tells ≡ true → IsLegal (map_of L v.start.contents) (plain_history plain w.seen)
    pub holds : (q : ℕ) → HoldsPage v w q
    pub knows : (q : ℕ) → IsLocking (seat_of v q) → KnowsAsBefore v w q
    pub out : w.out ≡ v.out
    pub start : w.start ≡ v.start
    pub parts : (w.used ≡ v.used) × (w.fresh ≡ v.fresh)
    pub alone : StaysAlone v w
