-- What setting words of a draft leaves of the view.
use Rattle.std.specs.Prelude.{[], ◌++◌, ◌<◌, ◌≡◌, ◌≢◌, ◌≤◌, ◌⊎◌, List, slice_index, Some, ℕ}
use Rattle.vm_rule.specs.Prelude.{Each, last_of}
use Rattle.vm_rule.specs.declared.view.WordPlace.{WordPlace}
use Rattle.vm_rule.specs.declared.view.WordPlace.TheVariants as places
use Rattle.vm_step.specs.Prelude.{Did, HoldsPage, IsAlone, KeepsNumbers, ReadsAsBefore, StaysAlone, View}
use Rattle.vm_tree_read.specs.from_vm_guard.{Guards.IsElsewhere, Sure.known_next, Sure.KnowsStates}

-- a draft from one place on and before another has the wanted words; behind these it has those of the page before, and before these its own
pub record IsDraftedAmong (from end : ℕ) (before after old new : List ℕ) : Type 0 where
  pub under : (k : ℕ) → k < from → slice_index new k ≡ slice_index old k
  pub among : (k : ℕ) → from ≤ k → k < end → slice_index new k ≡ slice_index after k
  pub behind : (k : ℕ) → end ≤ k → slice_index new k ≡ slice_index before k

-- a word of frame f, or the translation word of page p, which tells that the page is dirty there
abbrev pub IsDraftPlace : ℕ → ℕ → WordPlace → Type 0
IsDraftPlace p f at = (at ≡ places.Translation p) ⊎ ((i : ℕ) × (at ≡ places.Content f i))

module _ {X : Type 0} where
  -- words of the draft of page p, which the pass holds, were set; its last words are as they were
  pub record IsRedrafted (p : ℕ) (v w : View X) : Type 0 where
    pub done : List Did
    pub elsewhere : IsElsewhere p done [] v w
    pub mine : w.mine ≡ v.mine
    pub group : (w.pending ≡ v.pending) × (w.owed ≡ v.owed) × (w.next ≡ v.next)
    pub numbers : KeepsNumbers v w
    pub alone : StaysAlone v w
    pub holds : HoldsPage v w p
    pub reads : ReadsAsBefore v w p
    pub last : last_of w p ≡ last_of v p

  -- a pass that is alone knows all pages' state words, and the next word, as before
  pub record KnowsSameStates (v w : View X) : Type 0 where
    pub states : KnowsStates v w
    pub next : IsAlone v → known_next w ≡ known_next v

  -- the steps since then leave words in frame f and on the translation word of page p alone: page p is drafted there
  pub record DraftsIn (p f : ℕ) (v w : View X) : Type 0 where
    pub done : List Did
    pub log : w.log ≡ v.log ++ done
    pub steps : Each (λ d. (x : ℕ) → d.wrote ≡ Some x → IsDraftPlace p f d.at) done

  -- the steps since then store into words of frames only where the two pages differ, and there the words of the second one
  pub record SetsDiffering (before after : List ℕ) (v w : View X) : Type 0 where
    pub done : List Did
    pub log : w.log ≡ v.log ++ done
    pub differ : Each (λ d. (f i : ℕ) → d.at ≡ places.Content f i → (x : ℕ) → d.wrote ≡ Some x
        → (x ≡ slice_index after i) × (slice_index before i ≢ slice_index after i)) done
