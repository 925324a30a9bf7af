-- Where a descent stands: a page whose open read began in this call, and what its ties ask of its words.
use Rattle.std.specs.Prelude.{◌++◌, ◌<◌, ◌∷◌, ◌≡◌, ◌≢◌, ◌≤◌, ◌⊎◌, length, List, None, Option, slice_index, Some, true, unwrap_or, ℕ}
use Rattle.std.specs.Option.{option_map}
use Rattle.vm_tree_model.specs.{Edits.child_of, Layout.Layout, Node.Covers}
use Rattle.vm_tree_model.specs.Page.{node_of}
use Rattle.vm_event.specs.Prelude.{version_of}
use Rattle.vm_rule.specs.Prelude.{began_of, Each, last_of, loads_at, LockValidates}
use Rattle.vm_step.specs.Prelude.{Tie, View}
use Rattle.vm_kind.specs.from_vm_guard.Guards.{BeginsReading, IsReading, IsValid}
use Rattle.vm_tree_laws.specs.{Descent.IsReached, Descent.IsReachedAs, Tied.IsNodeAs, Tied.IsTied, Tied.Tied}
use Rattle.vm_tree_rule.specs.{declared.descent.Stand.Stand, Leaves.LeavesWord, Leaves.ReadsOn}

-- page p, with these words in an image of so many pages, names another page of it, which is a node of this level with these fences
pub record IsNameIn (L : Layout) (pages p : ℕ) (words : List ℕ) (named level low high : ℕ) : Type 0 where
  pub from_one : 1 ≤ named
  pub in_range : named < pages
  pub apart : named ≢ p
  pub node : (child : List ℕ) → IsTied L pages p words named child → IsNodeAs L child level low high

-- a high fence, of keys that have these numbers: the end of all keys where there is none
abbrev pub fence_of : {T : Type 0} → Layout → (T → ℕ) → Option T → ℕ
fence_of L rank high = unwrap_or (option_map rank high) L.key_end

module _ {X : Type 0} where
  -- the pages of the table's tree
  abbrev pub tree_pages : View X → ℕ
  tree_pages v = length v.start.contents

  -- an optimistic read of page p, which began at this word in a call that the pass began with the view v, is still
  -- open; since then the call left
  -- no word on the page's state word
  pub record IsOpened (v : View X) (p word frame : ℕ) (w : View X) : Type 0 where
    pub before : View X
    pub after : View X
    pub earlier : ReadsOn v before
    pub begins : BeginsReading p word frame before after
    pub since : ReadsOn after w
    pub same : LeavesWord p after w
    pub reading : IsReading p word frame w

  -- the read of page p is open as it was after another page, q, was entered
  pub record StaysOpen (p word frame q : ℕ) (v w : View X) : Type 0 where
    pub apart : q ≢ p
    pub reading : IsReading p word frame w
    pub loads : loads_at w p ≡ loads_at v p
    pub same : LeavesWord p v w

module _ {X : Type 0} (L : Layout) where
  -- what a validation of page p at this word would prove of its words
  abbrev pub Sees : View X → ℕ → ℕ → List ℕ → Type 0
  Sees v p word words = LockValidates (Tied L) p (version_of word) words v

  -- these words meet the ties of page p at this word
  abbrev pub MeetsTies : View X → ℕ → ℕ → List ℕ → Type 0
  MeetsTies v p word words = Each (λ t. t.page ≡ p → t.version ≡ version_of word → Tied L (began_of v.start) t.of t.words p words) v.ties

  -- words that meet the ties of page p at this word are those of a node of this level that covers the key, where blocks tell their words
  abbrev pub Awaits : View X → ℕ → ℕ → ℕ → ℕ → Type 0
  Awaits v p word level key = v.start.tells ≡ true → (words : List ℕ) → MeetsTies v p word words
      → IsReached L (tree_pages v) p words level key

  -- they are those of a node of exactly this level, with these fences
  abbrev pub AwaitsNode : View X → ℕ → ℕ → ℕ → ℕ → ℕ → Type 0
  AwaitsNode v p word level low high = v.start.tells ≡ true → (words : List ℕ) → MeetsTies v p word words
      → IsReachedAs L (tree_pages v) p words level low high

  -- whatever words of page p a validation would prove, they name this page as a node of this level with these fences,
  -- where blocks tell their words
  abbrev pub NamesNode : View X → ℕ → ℕ → ℕ → ℕ → ℕ → ℕ → Type 0
  NamesNode v p word named level low high =
      v.start.tells ≡ true → (words : List ℕ) → length words ≡ L.words → Sees v p word words
      → IsNameIn L (tree_pages v) p words named level low high

  -- a descent for the key stands at this page: where blocks tell their words, what it awaits is a node of this level
  -- whose fences hold the key
  pub record IsStand {T : Type 0} (rank : T → ℕ) (key : ℕ) (s : Stand T) (v : View X) : Type 0 where
    pub awaits : AwaitsNode v s.guard.pid s.guard.word s.level (rank s.low) (fence_of L rank s.high)
    pub from : rank s.low ≤ key
    pub below : key < fence_of L rank s.high

  -- page p was looked at, at this word; then page r was validated, which was read before. Page p is tied to the words that page r had there
  pub record HasSteppedDown (r was above : ℕ) (p word frame : ℕ) (v w : View X) : Type 0 where
    pub opened : IsOpened v p word frame w
    pub checked : View X
    pub looked : ReadsOn v checked
    pub stays : StaysOpen r was above p v checked
    pub valid : IsValid (Tied L) r was above None checked w
    pub reads : ReadsOn v w
    pub sees : v.start.tells ≡ true → Sees v r was (last_of w r).words
    pub tied : (newer : List Tie) × (older : List Tie) × (w.ties ≡ newer ++ record {
      page = p;
      version = version_of word;
      of = r;
      words = (last_of w r).words;
    } ∷ older)

-- page r with these words names page p for the key: as the root, or, where it is an inner node that covers the key, as the child
abbrev pub NamesForKey : Layout → ℕ → List ℕ → ℕ → ℕ → Type 0
NamesForKey L r words key p =
    ((r ≡ 0) × (slice_index words 1 ≡ p))
    ⊎ ((1 ≤ r) × ((node_of L words).tag ≡ 3) × Covers (node_of L words) key × (child_of L words key ≡ Some p))
