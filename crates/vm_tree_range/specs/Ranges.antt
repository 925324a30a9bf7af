-- What a range of the tree answers: at the step that locked the last of its leaves, while all of them were held; or
-- why it is to be tried again.
use Rattle.std.specs.Prelude.{[], ◌++◌, ◌-◌, ◌<◌, ◌^◌, ◌∷◌, ◌≡◌, ◌≤◌, ◌⊎◌, length, List, None, true, ℕ}
use Rattle.vm_map.specs.{declared.call.Call.Call, declared.call.Said.Said, declared.window.Bound.Bound, History.bound_of, Map.Pairs}
use Rattle.vm_map.specs.declared.call.Call.TheVariants.{Range}
use Rattle.vm_map.specs.declared.call.Reply.{Reply}
use Rattle.vm_map.specs.declared.call.Reply.TheVariants.{Many, Wide}
use Rattle.vm_map.specs.declared.window.Bound.TheVariants.{End}
use Rattle.vm_tree_model.specs.{Layout.Layout, Tree.map_of}
use Rattle.vm_node.specs.Loads.{IsPageWith}
use Rattle.vm_owner.specs.Kept.{PagesHave}
use Rattle.vm_rule.specs.Prelude.{began_of, did_change, Each, Entry, entry_of, IsLocking, Kept, seat_of, StartsWith}
use Rattle.vm_rule.specs.declared.view.WordPlace.{WordPlace}
use Rattle.vm_step.specs.{Prelude.Did, Prelude.HoldsPage, Prelude.KeepsNumbers, Prelude.KnowsAsBefore}
use Rattle.vm_step.specs.{Prelude.NoneExpected, Prelude.StaysAlone, Prelude.View, steps.Share.HasShare}
use Rattle.vm_step.specs.{steps.Share.pages_known}
use Rattle.vm_step.specs.declared.saw.Saw.{Saw}
use Rattle.vm_tree_read.specs.from_vm_guard.{declared_deny_Deny.Deny, Denied.IsDenied, Denied.KeptWord}
use Rattle.vm_tree_read.specs.from_vm_guard.{Denied.NotWorn, LockSteps.share_did, Quiet.IsUnmark}
use Rattle.vm_tree_read.specs.from_vm_guard.declared_deny_Deny_TheVariants as denies
use Rattle.vm_tree_laws.specs.{History.IsLegal, Plain.KeepsPlain, Plain.plain_history}
use Rattle.vm_tree_laws.specs.May.{AreLeavesFrom, IsProvedByAll, MOST_LEAVES, pairs_held}
use Rattle.vm_tree_read.specs.from_vm_tree_rule.{declared_fault_TreeFault.TreeFault, declared_turn_Turn.Turn, Seeks.HasLoaded}
use Rattle.vm_tree_read.specs.from_vm_tree_rule.declared_fault_TreeFault_TheVariants as faults
use Rattle.vm_tree_read.specs.from_vm_tree_rule.{Standing.IsOpened, Turns.IsTurnedBack, Turns.TellLeaf}
use Rattle.vm_tree_read.specs.from_vm_tree_rule.declared_turn_Turn_TheVariants as turns
use Rattle.vm_tree_range.specs.declared.hold.TryRange.{TryRange}
use Rattle.vm_tree_range.specs.declared.hold.TryRange.TheVariants as tries
use Rattle.vm_tree_read.specs.Reads.{GainsEntry, key_of}
use Rattle.vm_tree_read.specs.Waiting.{AreRounds, IsBringFault, IsNoBringFault, Waits}

-- ---- on the way

module _ {X : Type 0} (L : Layout) where
  -- the pass has shares of these leaves; where blocks tell their words they follow one another, from low on up to `from`
  pub record HoldsLeaves (held : List ℕ) (low from : ℕ) (v : View X) : Type 0 where
    pub shares : Each (HasShare v) held
    pub leaves : v.start.tells ≡ true → AreLeavesFrom L (pages_known v held) low from

  -- and these are their pairs of the range
  abbrev pub HasGathered : List ℕ → ℕ → Bound → Pairs → View X → Type 0
  HasGathered held low bound pairs v = v.start.tells ≡ true → pairs ≡ pairs_held L (pages_known v held) low (bound_of bound)

  -- each page that has the words loaded proves what is said, behind those that are held
  abbrev pub TellRange : List ℕ → List (ℕ × ℕ) → Said → View X → Type 0
  TellRange held loaded said v =
      v.start.tells ≡ true → (p : ℕ) (words : List ℕ) → IsPageWith L.words loaded words
      → IsProvedByAll L (pages_known v held ++ (p, words) ∷ []) said.call said.reply

-- The key is where a leaf of the range may begin: it is the range's first, or it is below the bound; then it is also
-- above the first, where blocks tell
-- their words
abbrev pub IsOnTheWay : {X : Type 0} → ℕ → Bound → ℕ → View X → Type 0
IsOnTheWay low bound key v = (key ≡ low) ⊎ ((key < bound_of bound) × (v.start.tells ≡ true → low < key))

module _ {X : Type 0} where
  -- the pass holds just the locks and page numbers that it held, and knows under them what it knew; its steps, its
  -- entries and what it has seen go on
  pub record HoldsOn (v w : View X) : Type 0 where
    pub holds : (q : ℕ) → HoldsPage v w q
    pub knows : (q : ℕ) → IsLocking (seat_of v q) → KnowsAsBefore v w q
    pub seen : StartsWith w.seen v.seen
    pub releases : StartsWith w.releases v.releases
    pub log : StartsWith w.log v.log
    pub notes : w.notes ≡ v.notes
    pub frames : (w.frames ≡ v.frames) × (w.contents ≡ v.contents)
    pub out : w.out ≡ v.out
    pub group : (w.pending ≡ v.pending) × (w.owed ≡ v.owed) × (w.next ≡ v.next)
    pub numbers : KeepsNumbers v w
    pub start : w.start ≡ v.start
    pub parts : (w.used ≡ v.used) × (w.fresh ≡ v.fresh)
    pub alone : StaysAlone v w

  -- and it said nothing
  abbrev pub HoldsSilently : View X → View X → Type 0
  HoldsSilently v w = HoldsOn v w × (w.mine ≡ v.mine)

  -- the steps of the call go on from the one view to the other
  pub record StepsOn (v w : View X) : Type 0 where
    pub log : StartsWith w.log v.log
    pub start : w.start ≡ v.start

-- ---- steps

-- the step took a share of a page, or gave one up
pub data IsShareStep (d : Did) : Type 0 where
  takes : (page word : ℕ) → d ≡ share_did page word → IsShareStep d
  gives : (page word : ℕ) → d ≡ did_change (WordPlace.State page) word (word - 2 ^ 56) → IsShareStep d

-- the steps leave no word but where they take a mark away, take a share, or give one up
abbrev pub OnlyShares : List Did → Type 0
OnlyShares done = Each (λ d. (d.wrote ≡ None) ⊎ (IsUnmark d ⊎ IsShareStep d)) done

-- so do the steps of the call
pub record LeavesShares {X : Type 0} (v w : View X) : Type 0 where
  pub done : List Did
  pub log : w.log ≡ v.log ++ done
  pub shares : OnlyShares done

-- ---- answers

-- there are pairs in the reply
abbrev pub IsMany : Reply → Type 0
IsMany (Many pairs) = Unit {0}
IsMany reply = ⊥

-- the try was answered: with the pairs, or with how far the leaves reach
abbrev pub IsRangeFinal : TryRange → Type 0
IsRangeFinal (tries.Done count) = Unit {0}
IsRangeFinal (tries.TooWide reach) = Unit {0}
IsRangeFinal answer = ⊥

-- what the end of a descent, and the denial of a share, is answered
abbrev pub TurnAnswers : Turn → TryRange → Type 0
TurnAnswers (turns.Again saw) answer = answer ≡ tries.Again saw
TurnAnswers (turns.Need p) answer = answer ≡ tries.Need p
TurnAnswers (turns.Damaged p) answer = answer ≡ tries.Damaged p

abbrev pub DenyAnswers : Deny → TryRange → Type 0
DenyAnswers (denies.Again saw) answer = answer ≡ tries.Again saw
DenyAnswers (denies.Need p) answer = answer ≡ tries.Need p
DenyAnswers (denies.Crowded p) answer = answer ≡ tries.Crowded p
DenyAnswers (denies.Worn p) answer = ⊥

-- Why there is no answer yet: a descent to a leaf, from a key on the way, was turned back; or such a leaf was
-- reached, as the words loaded of it tell, and
-- a share of it was denied
pub data IsRangeStopped {X : Type 0} (L : Layout) (low : ℕ) (bound : Bound) (answer : TryRange) (v w : View X) : Type 0 where
  turned : (key : ℕ) (turn : Turn) (u x : View X) → IsOnTheWay low bound key v → StepsOn v u
      → IsTurnedBack L u key turn x → StepsOn x w → TurnAnswers turn answer → IsRangeStopped L low bound answer v w
  denied : (key p word frame : ℕ) (loaded : List (ℕ × ℕ)) (deny : Deny) (u x y : View X) → IsOnTheWay low bound key v
      → StepsOn v u → IsOpened u p word frame x → HasLoaded x p loaded → TellLeaf L loaded key
      → IsDenied NotWorn (KeptWord word) NoneExpected p deny x y → StepsOn y w → DenyAnswers deny answer
      → IsRangeStopped L low bound answer v w

-- What is said, `says`, may speak of keys in its own way; `plain` reads it with a number for each key, as the call with its reply
module _ {S : Type 0} (plain : S → Said) (L : Layout) where
  -- At the step that made the entry the tree's pages were such that their map is the start's map after the history up
  -- to there, which is legal; these
  -- leaves, no more than can be held, stood there with these words, and prove the reply together
  pub record IsBorneOutByAll (says : S) (v w : View S) : Type 0 where
    pub kept : Kept S
    pub keeps : KeepsPlain plain L (began_of v.start) kept
    pub legal : IsLegal (map_of L v.start.contents) (plain_history plain kept.history)
    pub entry : (others : List (Entry S)) × (kept.history ≡ (v.seen ++ others) ++ entry_of v says ∷ [])
    pub seen : StartsWith w.seen kept.history
    pub leaves : List (ℕ × List ℕ)
    pub there : PagesHave kept.pages leaves
    pub few : length leaves ≤ MOST_LEAVES
    pub proved : IsProvedByAll L leaves (plain says).call (plain says).reply

  -- The call with its reply became an entry, under the pass's first number and its next count, and the pass holds
  -- what it held. Behind the entry stands
  -- what others said while the leaves were given up; where blocks tell their words it is borne out
  pub record IsRangeDone (said : Said) (v w : View S) : Type 0 where
    pub on : HoldsOn v w
    pub says : S
    pub says_is : plain says ≡ said
    pub mine : w.mine ≡ v.mine ++ entry_of v says ∷ []
    pub entry : (later : List (Entry S)) × GainsEntry says v later w
    pub told : v.start.tells ≡ true → IsBorneOutByAll says v w

  -- a try of the range from low on and below the bound; the pairs are in `out`
  abbrev pub IsTriedRange : ℕ → Bound → TryRange → Pairs × ℕ → View S → View S → Type 0
  IsTriedRange low bound (tries.Done count) out v w =
      IsRangeDone (record { call = Range low bound; reply = Many out }) v w × (count ≡ length out.0)
  IsTriedRange low bound (tries.TooWide reach) out v w = IsRangeDone (record { call = Range low bound; reply = Wide reach }) v w
  IsTriedRange low bound answer out v w = HoldsSilently v w × IsRangeStopped L low bound answer v w

-- it has the pairs
abbrev pub HasPairs : TryRange → Type 0
HasPairs (tries.Done count) = Unit {0}
HasPairs answer = ⊥

-- ---- a range that waits

-- the bound of a range; another call has none
abbrev pub range_bound : Call → Bound
range_bound (Range low bound) = bound
range_bound call = End

module _ {X : Type 0} where
  -- A round of it: a try had no answer, by the evidence of that try; or it needed a page, which was then to be
  -- brought, once, and the answer named no
  -- fault
  pub data IsRangeRound (L : Layout) (low : ℕ) (bound : Bound) (v w : View X) : Type 0 where
    again : (saw : Saw) → HoldsSilently v w → IsRangeStopped L low bound (tries.Again saw) v w → IsRangeRound L low bound v w
    crowded : (page : ℕ) → HoldsSilently v w → IsRangeStopped L low bound (tries.Crowded page) v w → IsRangeRound L low bound v w
    needed : (page : ℕ) (x : View X) → HoldsSilently v x → IsRangeStopped L low bound (tries.Need page) v x
        → IsNoBringFault page x w → IsRangeRound L low bound v w

  -- a try, from v on, needed a page, which could not be brought; or it met a damaged page
  pub data IsRangeFault (L : Layout) (low : ℕ) (bound : Bound) (fault : TreeFault) (v w : View X) : Type 0 where
    unbrought : (page : ℕ) (x : View X) → HoldsSilently v x → IsRangeStopped L low bound (tries.Need page) v x
        → IsBringFault page fault x w → IsRangeFault L low bound fault v w
    damaged : (page : ℕ) → HoldsSilently v w → IsRangeStopped L low bound (tries.Damaged page) v w
        → fault ≡ faults.Damaged page → IsRangeFault L low bound fault v w

  -- the last try, after such rounds, ended so
  pub record IsRangeFaulted (L : Layout) (low : ℕ) (bound : Bound) (fault : TreeFault) (v w : View X) : Type 0 where
    pub tried : View X
    pub rounds : AreRounds (IsRangeRound L low bound) v tried
    pub waits : Waits v tried
    pub why : IsRangeFault L low bound fault tried w
    pub leaves : Waits v w

-- The last try was answered; those before it, and the pages brought, each for a try that needed it, made no entry. So
-- the entry is the pass's next one,
-- and stands behind all that the pass had seen; the pass holds what it held
pub record IsRangeReplied {S : Type 0} (plain : S → Said) (L : Layout) (said : Said) (v w : View S) : Type 0 where
  pub tried : View S
  pub rounds : AreRounds (IsRangeRound L (key_of said.call) (range_bound said.call)) v tried
  pub waits : Waits v tried
  pub answered : IsRangeDone plain L said tried w
  pub mine : w.mine ≡ v.mine ++ entry_of v answered.says ∷ []
  pub entry : (later : List (Entry S)) × GainsEntry answered.says v later w
  pub holds : (q : ℕ) → HoldsPage v w q
  pub knows : (q : ℕ) → IsLocking (seat_of v q) → KnowsAsBefore v w q
  pub out : w.out ≡ v.out
  pub start : w.start ≡ v.start
  pub parts : (w.used ≡ v.used) × (w.fresh ≡ v.fresh)
  pub alone : StaysAlone v w
