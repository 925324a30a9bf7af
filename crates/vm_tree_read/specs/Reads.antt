-- What a read of the tree answers: the reply at one step of the history, or why it is to be tried again.
use Rattle.std.specs.Prelude.{[], ◌++◌, ◌∷◌, ◌≡◌, List, true, ℕ}
use Rattle.vm_map.specs.{declared.call.Call.Call, declared.call.Reply.Reply, declared.call.Said.Said, Map.Rises}
use Rattle.vm_map.specs.declared.window.Window.{Window as Shown}
use Rattle.vm_map.specs.declared.call.Call.TheVariants.{Del, Get, Put, Range, Swap, Window}
use Rattle.vm_map.specs.declared.call.Reply.TheVariants.{Gone, Got, Many, Swapped, Was, Wide, Win}
use Rattle.vm_tree_model.specs.{Layout.Layout, Node.Covers, Page.node_of, Page.pairs_of, Tree.map_of}
use Rattle.vm_node.specs.Loads.{IsPageWith}
use Rattle.vm_event.specs.Prelude.{page_at}
use Rattle.vm_pool.specs.from_vm_rule.Prelude.{began_of, Entry, entry_of, Kept, last_of}
use Rattle.vm_tree_rule.specs.from_vm_step.Prelude.{View}
use Rattle.vm_tree_laws.specs.{History.IsLegal, May.IsProved, Plain.KeepsPlain, Plain.plain_history}
use Rattle.vm_tree_rule.specs.{Leaves.OnlyReads, Leaves.ReadsOn, Seeks.HasLoaded, Shown.IsAgain, Turns.IsDamaged, Turns.IsNeeded}
use Rattle.vm_tree_read.specs.declared.read.TryRead.{TryRead}
use Rattle.vm_tree_read.specs.declared.read.TryRead.TheVariants as tries

-- the key whose leaf proves the reply of a call
abbrev pub key_of : Call → ℕ
key_of (Get key) = key
key_of (Put key value) = key
key_of (Del key) = key
key_of (Window start most) = start
key_of (Swap key want value) = key
key_of (Range low bound) = low

-- the reply is one to such a call: a value to a get, a put or a del, a window to a window, what it did to a swap, and
-- pairs or a reach to a range
abbrev pub IsOfKind : Call → Reply → Type 0
IsOfKind (Get key) (Got found) = Unit {0}
IsOfKind (Put key value) (Was old) = Unit {0}
IsOfKind (Del key) (Gone old) = Unit {0}
IsOfKind (Window start most) (Win window) = Unit {0}
IsOfKind (Swap key want value) (Swapped outcome) = Unit {0}
IsOfKind (Range low bound) (Many span) = Unit {0}
IsOfKind (Range low bound) (Wide reach) = Unit {0}
IsOfKind _ _ = ⊥

-- a window of at most so many pairs from this key on, with what it shows
abbrev pub says_window : ℕ → ℕ → Shown → Said
says_window start most shown = record { call = Window start most; reply = Win shown }

-- the words are a leaf's that covers the call's key; and they prove the reply where their keys rise, as those of a tree's leaf do
pub record ProvesReply (L : Layout) (words : List ℕ) (said : Said) : Type 0 where
  pub leaf : (node_of L words).tag ≡ 2
  pub covers : Covers (node_of L words) (key_of said.call)
  pub reply : (low high : ℕ) → Rises low high (pairs_of L words) → IsProved L words said.call said.reply

-- the words are a leaf's with these fences
abbrev pub IsLeafBetween : Layout → List ℕ → ℕ → ℕ → Type 0
IsLeafBetween L words low high = ((node_of L words).tag ≡ 2) × ((node_of L words).low ≡ low) × ((node_of L words).high ≡ high)

-- each page that has the words loaded proves the reply
abbrev pub TellReply : Layout → List (ℕ × ℕ) → Said → Type 0
TellReply L loaded said = (words : List ℕ) → IsPageWith L.words loaded words → ProvesReply L words said

-- the entry of what is said, the pass's next one, stands behind all entries that it had seen and others that came
-- meanwhile; and behind the entry it has seen
-- these
abbrev pub GainsEntry : {S : Type 0} → S → View S → List (Entry S) → View S → Type 0
GainsEntry {S} said v more w = (others : List (Entry S)) × (w.seen ≡ (v.seen ++ others) ++ entry_of v said ∷ more)

-- What is said, `says`, may speak of keys in its own way; `plain` reads it with a number for each key, as the call with its reply
module _ {S : Type 0} (plain : S → Said) (L : Layout) where
  -- At the step that made the entry the pages of the tree were such that their map is the start's map after the whole
  -- history; the history is legal
  -- for the start's map; and the tree's page, whose words are the last ones of the table's page, has the words that
  -- were loaded, and proves the reply
  pub record IsBorneOut (page : ℕ) (loaded : List (ℕ × ℕ)) (said : Said) (v w : View S) : Type 0 where
    pub legal : IsLegal (map_of L v.start.contents) (plain_history plain w.seen)
    pub kept : Kept S
    pub keeps : KeepsPlain plain L (began_of v.start) kept
    pub history : kept.history ≡ w.seen
    pub last : page_at kept.pages page ≡ (last_of w page).words
    pub has : IsPageWith L.words loaded (page_at kept.pages page)
    pub proved : IsProved L (page_at kept.pages page) said.call said.reply

  -- The call with its reply became the last entry, under the pass's first number and its next count. Words of a page
  -- were loaded, and each page that
  -- has them is a leaf that covers the call's key, and proves the reply if its keys rise; where blocks tell their words one is borne out
  pub record IsAnswered (said : Said) (v w : View S) : Type 0 where
    pub reads : OnlyReads v w
    pub says : S
    pub says_is : plain says ≡ said
    pub mine : w.mine ≡ v.mine ++ entry_of v says ∷ []
    pub entry : GainsEntry says v [] w
    pub page : ℕ
    pub loaded : List (ℕ × ℕ)
    pub read : HasLoaded w page loaded
    pub proves : TellReply L loaded said
    pub told : v.start.tells ≡ true → IsBorneOut page loaded said v w

  -- a try of this call, whose key this is: answered; or to be tried again; or for a page that is needed; or a page is
  -- damaged. Without an answer the pass has no further entry
  abbrev pub IsTried : Call → ℕ → TryRead → View S → View S → Type 0
  IsTried call key (tries.Done reply) v w = IsAnswered (record { call = call; reply = reply }) v w
  IsTried call key (tries.Again saw) v w = ReadsOn v w × IsAgain v saw w
  IsTried call key (tries.Need p) v w = ReadsOn v w × IsNeeded L v key p w
  IsTried call key (tries.Damaged p) v w = ReadsOn v w × IsDamaged L v key p w

-- where it was answered the reply is one to such a call, whatever the blocks tell
abbrev pub IsDoneInKind : Call → TryRead → Type 0
IsDoneInKind call (tries.Done reply) = IsOfKind call reply
IsDoneInKind call (tries.Again saw) = Unit {0}
IsDoneInKind call (tries.Need p) = Unit {0}
IsDoneInKind call (tries.Damaged p) = Unit {0}

-- it was answered
abbrev pub IsDone : TryRead → Type 0
IsDone (tries.Done reply) = Unit {0}
IsDone (tries.Again saw) = ⊥
IsDone (tries.Need p) = ⊥
IsDone (tries.Damaged p) = ⊥
