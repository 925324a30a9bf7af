-- Where a descent stands that looks for a full node: a page and the page that names it, of which words were loaded
-- where they stand, both still open.
use Rattle.std.specs.Prelude.{[], ◌*◌, ◌++◌, ◌+◌, ◌<◌, ◌∷◌, ◌≡◌, ◌≢◌, ◌≤◌, ◌⊎◌, List, None, Option, slice_index, Some, suc, true, ℕ}
use Rattle.vm_tree_model.specs.{Edits.child_of, Layout.Layout, Page.node_of}
use Rattle.vm_kind.specs.Bounds.{Bounds}
use Rattle.vm_node.specs.Loads.{IsPageWith}
use Rattle.vm_kind.specs.from_vm_inner.Found.{FindsChild, FindsChildIn, FindsNoChild}
use Rattle.vm_rule.specs.Prelude.{last_of, loads_at}
use Rattle.vm_step.specs.Prelude.{View}
use Rattle.vm_kind.specs.from_vm_guard.{declared_opt_OptGuard.OptGuard, Guards.IsValid, Guards.Loads, Guards.placed}
use Rattle.vm_tree_laws.specs.Tied.{Tied}
use Rattle.vm_tree_rule.specs.{declared.seek.Met.Met, Leaves.ReadsOn, Resident.IsKnownNow, Standing.Awaits, Standing.IsOpened}
use Rattle.vm_tree_rule.specs.declared.seek.Met.TheVariants as met

module _ (L : Layout) where
  -- the words loaded name this page for the key: a search finds it in each page that has them
  abbrev pub TellChild : List (ℕ × ℕ) → ℕ → ℕ → Type 0
  TellChild loaded key named = (words : List ℕ) → IsPageWith L.words loaded words → FindsChild L words key named

  -- they tell its fences, too: its low one, and the next key, if the node has one
  abbrev pub TellChildIn : List (ℕ × ℕ) → ℕ → ℕ → ℕ → Option ℕ → Type 0
  TellChildIn loaded key named low next = (words : List ℕ) → IsPageWith L.words loaded words → FindsChildIn L words key named low next

  -- they tell the level of their page
  abbrev pub TellLevel : List (ℕ × ℕ) → ℕ → Type 0
  TellLevel loaded level = (words : List ℕ) → IsPageWith L.words loaded words → (node_of L words).level ≡ level

  -- each page that has them has another level, or no child for the key that a search finds
  abbrev pub TellNoChild : List (ℕ × ℕ) → ℕ → ℕ → Type 0
  TellNoChild loaded level key = (words : List ℕ) → IsPageWith L.words loaded words
      → ((node_of L words).level ≢ level) ⊎ FindsNoChild L words key

  -- each page that has the words loaded has so much of its room left
  abbrev pub TellSpare : (List ℕ → ℕ) → List (ℕ × ℕ) → ℕ → Type 0
  TellSpare spare loaded left = (words : List ℕ) → IsPageWith L.words loaded words → left ≡ spare words

  -- each has room for any further pair
  abbrev pub TellRoom : (List ℕ → ℕ) → List (ℕ × ℕ) → Type 0
  TellRoom spare loaded = (words : List ℕ) → IsPageWith L.words loaded words → L.growth ≤ spare words

-- how many words of pages the search loads by the height, of pages of n words: two of page 0, and of each node on the
-- way those that tell its room and
-- its child; then those of the full root, or of the full node and of its parent
abbrev pub most_for : Bounds → ℕ → Met → ℕ → ℕ
most_for b n (met.Root meta root height) h = 2 + (b.child + b.spare) * (h + 1) + n
most_for b n (met.Below parent node) h = 2 + (b.child + b.spare) * (h + 1) + 2 * n
most_for b n (met.Roomy leaf) h = 2 + (b.child + b.spare) * (h + 1)

module _ {X : Type 0} where
  -- these words of page p, each with its place, were loaded last through its open read
  abbrev pub HasLoaded : View X → ℕ → List (ℕ × ℕ) → Type 0
  HasLoaded v p loaded = (before : List (ℕ × ℕ)) × (loads_at v p ≡ before ++ loaded)

  -- the words of page p were read whole, and last
  abbrev pub HasRead : View X → ℕ → List ℕ → Type 0
  HasRead v p page = HasLoaded v p (placed 0 page)

  -- page 0 was read, and names this root, at this level, which is below the number of pages where blocks tell their words
  pub record IsMetaRead (p word frame root level : ℕ) (v w : View X) : Type 0 where
    pub zero : p ≡ 0
    pub apart : root ≢ 0
    pub opened : IsOpened v p word frame w
    pub loads : (before : List (ℕ × ℕ)) × (loads_at w p ≡ before ++ (1, root) ∷ (2, level) ∷ [])
    pub height : w.start.tells ≡ true → level < w.start.pages

  -- a pass that is alone knows the words of the guards that the search gives, as long as it meets resident pages alone
  abbrev pub KnowsMet : Met → View X → Type 0
  KnowsMet (met.Root meta root height) w = IsKnownNow meta.pid meta.word w × IsKnownNow root.pid root.word w
  KnowsMet (met.Below parent node) w = IsKnownNow parent.pid parent.word w × IsKnownNow node.pid node.word w
  KnowsMet (met.Roomy leaf) w = IsKnownNow leaf.pid leaf.word w

module _ {X : Type 0} (L : Layout) where
  -- page p was read whole through its open read, with these words, and then validated
  pub record IsReread (p word frame : ℕ) (page : List ℕ) (v w : View X) : Type 0 where
    pub read : View X
    pub loads : Loads p word frame (placed 0 page) v read
    pub valid : IsValid (Tied L) p word frame None read w

  -- Page 0 was read in this call, and names this root; then it was validated, so that this is its root where blocks
  -- tell their words. Since then
  -- the call only read
  pub record IsNamedRoot (v : View X) (p : ℕ) (w : View X) : Type 0 where
    pub meta : OptGuard
    pub level : ℕ
    pub checked : View X
    pub after : View X
    pub zero : meta.pid ≡ 0
    pub opened : IsOpened v meta.pid meta.word meta.frame checked
    pub loads : (before : List (ℕ × ℕ)) × (loads_at checked meta.pid ≡ before ++ (1, p) ∷ (2, level) ∷ [])
    pub valid : IsValid (Tied L) meta.pid meta.word meta.frame None checked after
    pub since : ReadsOn after w
    pub told : v.start.tells ≡ true → slice_index (last_of after meta.pid).words 1 ≡ p

module _ {X : Type 0} (L : Layout) (spare : List ℕ → ℕ) where
  -- the root is full
  pub record IsRootFull (v : View X) (key : ℕ) (meta root : OptGuard) (height : ℕ) (page : List ℕ) (w : View X) : Type 0 where
    pub named : IsMetaRead meta.pid meta.word meta.frame root.pid height v w
    pub opened : IsOpened v root.pid root.word root.frame w
    pub read : HasRead w root.pid page
    pub awaits : Awaits L w root.pid root.word height key
    pub full : spare page < L.growth

  -- These words of page p were loaded in this call: a page that has them has room, and names the next page for the
  -- key. Then it was validated, so
  -- that they are its words where blocks tell theirs, and the next page is its child for the key. Since then the call only read
  pub record IsPassedBy (v : View X) (key p : ℕ) (loaded : List (ℕ × ℕ)) (next : ℕ) (w : View X) : Type 0 where
    pub word : ℕ
    pub frame : ℕ
    pub checked : View X
    pub after : View X
    pub opened : IsOpened v p word frame checked
    pub read : HasLoaded checked p loaded
    pub room : TellRoom L spare loaded
    pub names : TellChild L loaded key next
    pub valid : IsValid (Tied L) p word frame None checked after
    pub since : ReadsOn after w
    pub told : v.start.tells ≡ true → IsPageWith L.words loaded (last_of after p).words
        × (child_of L (last_of after p).words key ≡ Some next)

  -- a step went from page p to the next one: words that a call had loaded of page p, which tell room, and those that
  -- the step loaded, pass it by
  abbrev pub GoesPast : ℕ → ℕ → ℕ → ℕ → ℕ → View X → View X → Type 0
  GoesPast p word frame key next v w =
      (loaded : List (ℕ × ℕ)) × ((u : View X) (counted : List (ℕ × ℕ)) → IsOpened u p word frame v
      → HasLoaded v p counted → TellRoom L spare counted
      → HasLoaded w p (counted ++ loaded) × IsPassedBy u key p (counted ++ loaded) next w)

  -- so were these pages, the last one first, on the way from the root to page p
  abbrev pub ArePassed : View X → ℕ → List (ℕ × List (ℕ × ℕ)) → ℕ → View X → Type 0
  ArePassed v key [] p w = IsNamedRoot L v p w
  ArePassed v key (s ∷ ss) p w = IsPassedBy v key s.0 s.1 p w × ArePassed v key ss s.0 w

  -- A node is full whose parent has room and names it for the key; no node on the way to the parent is full. Once the
  -- node was found full, both were
  -- read whole and validated
  pub record IsFullBelow (v : View X) (key : ℕ) (parent node : OptGuard) (over page : List ℕ) (w : View X) : Type 0 where
    pub parent_opened : IsOpened v parent.pid parent.word parent.frame w
    pub opened : IsOpened v node.pid node.word node.frame w
    pub apart : node.pid ≢ parent.pid
    pub parent_read : HasRead w parent.pid over
    pub read : HasRead w node.pid page
    pub level : ℕ
    pub awaits : Awaits L w parent.pid parent.word (suc level) key
    pub below : Awaits L w node.pid node.word level key
    pub names : v.start.tells ≡ true → child_of L over key ≡ Some node.pid
    pub room : L.growth ≤ spare over
    pub full : spare page < L.growth
    pub loaded : List (ℕ × ℕ)
    pub way : List (ℕ × List (ℕ × ℕ))
    pub passed : ArePassed v key ((parent.pid, loaded) ∷ way) node.pid w

  -- no node on the way is full, the leaf neither
  pub record IsRoomy (v : View X) (key : ℕ) (leaf : OptGuard) (loaded : List (ℕ × ℕ)) (w : View X) : Type 0 where
    pub opened : IsOpened v leaf.pid leaf.word leaf.frame w
    pub read : HasLoaded w leaf.pid loaded
    pub awaits : Awaits L w leaf.pid leaf.word 0 key
    pub room : TellRoom L spare loaded
    pub way : List (ℕ × List (ℕ × ℕ))
    pub passed : ArePassed v key way leaf.pid w

  -- what the search met, with what stands in the two pages where a node is full
  abbrev pub IsMet : View X → ℕ → Met → List ℕ → List ℕ → View X → Type 0
  IsMet v key (met.Root meta root height) over page w = IsRootFull v key meta root height page w
  IsMet v key (met.Below parent node) over page w = IsFullBelow v key parent node over page w
  IsMet v key (met.Roomy leaf) over page w = (loaded : List (ℕ × ℕ)) × IsRoomy v key leaf loaded w
