-- The laws of the tree as an owner.
use Rattle.std.proofs.Common.{◌≡◌, ◌||◌, ℕ, ◌+◌, Bool, true, false, inl, inr, if◌then◌else◌, List, [], ◌∷◌, ◌++◌}
use Rattle.std.proofs.Common.{get_or, set, refl, sym, subst, append-nil}
use Rattle.std.proofs.lemmas.Bool.{cases_eq, ne_eqb}
use Rattle.vm_tree_model.specs.Layout.{Layout, IsLayout}
use Rattle.vm_tree_model.specs.Page.{node_of}
use Rattle.vm_tree_model.specs.Tree.{page_at}
use Rattle.vm_tree_model.proofs.RootSplit.{root_page}
use Rattle.vm_owner.specs.Numbers.{AreApart, without}
use Rattle.vm_owner.specs.declared.Entry.{Entry}
use Rattle.vm_owner.specs.Kept.{Start, Kept, Change, changed_pages, Agrees, entries_under, Fits, frees, IsTurn}
use Rattle.vm_owner.specs.Kept.{after_release, MayMove, moved, NumberMove, told}
use Rattle.vm_owner.specs.Kept.NumberMove.{Ended, Given, Taken}
use Rattle.vm_map.specs.declared.call.Said.{Said}
use Rattle.vm_tree_laws.specs.Keeps.{KeepsTree}
use Rattle.vm_tree_laws.specs.May.{IsEdit, MayCollapse, MayMerge, MaySplit, MaySplitRoot, MayRelease, MayRead}
use Rattle.vm_tree_laws.proofs.GroupReleases.{numbers_keep, spare_more}
use Rattle.vm_tree_laws.proofs.LeafReads.{read_keeps}
use Rattle.vm_tree_laws.proofs.LeafReleases.{edit_keeps}
use Rattle.vm_tree_laws.proofs.Collapses.{collapse_keeps}
use Rattle.vm_tree_laws.proofs.Merges.{merge_keeps}
use Rattle.vm_tree_laws.proofs.NodeSplits.{split_keeps}
use Rattle.vm_tree_laws.proofs.Nodes.{leaf_by_tag}
use Rattle.vm_tree_laws.proofs.RootSplits.{root_split_keeps}

module _ (L : Layout) (laws : IsLayout L) (start : Start) (kept : Kept Said) (keeps : KeepsTree L start kept) (due : List ℕ) where
  -- a change with the words that stand at a page
  abbrev change_at : ℕ → List ℕ → Change
  change_at p words = record { page = p; old = page_at kept.pages p; new = words }

  leaf_law : (leaf : Change) (e : Entry Said) → Fits kept due (leaf ∷ []) → IsTurn kept.history (e ∷ [])
      → MayRelease L start due (leaf ∷ []) (e ∷ []) → KeepsTree L start (after_release (leaf ∷ []) (e ∷ []) kept)
  leaf_law leaf e fits turn may =
      let (tag, edit) = subst (λ (w : List ℕ). ((node_of L w).tag ≡ 2) × IsEdit L w leaf.new e.said.call e.said.reply)
      (sym fits.agrees.1) may in
      let now = edit_keeps L laws start kept keeps leaf.page leaf.new
      (leaf_by_tag L laws start kept keeps leaf.page tag) e turn.0 e.said.call e.said.reply refl edit in
      numbers_keep L start (record kept {
        pages = set kept.pages leaf.page leaf.new;
        owed = without leaf.page kept.owed;
        history = kept.history ++ e ∷ [];
      }) kept.free kept.held
      (λ x. frees (leaf ∷ []) x || kept.freed x) now
      (λ x spare. inr (spare_more (kept.free x) (kept.held x) (frees (leaf ∷ []) x) (kept.freed x) spare))

  split_law : (parent node sibling : Change) → Fits kept due (parent ∷ node ∷ sibling ∷ [])
      → MaySplit L parent node sibling → KeepsTree L start (after_release (parent ∷ node ∷ sibling ∷ []) [] kept)
  split_law parent node sibling fits may =
      let agrees = fits.agrees in
      let first = subst (λ (w : List ℕ). MaySplit L record parent { old = w } node sibling) (sym agrees.1) may in
      let second = subst (λ (w : List ℕ). MaySplit L (change_at parent.page parent.new) record node { old = w }
      sibling) (sym agrees.2.1) first in
      let third = subst (λ (w : List ℕ). MaySplit L (change_at parent.page parent.new) (change_at node.page node.new)
      record sibling { old = w }) (sym agrees.2.2.1) second in
      subst (λ (cs : List Change). KeepsTree L start (after_release cs [] kept))
      (λ i. record parent { old = agrees.1 i } ∷ record node { old = agrees.2.1 i } ∷ record sibling {
        old =
            agrees.2.2.1 i;
      } ∷ [])
      (split_keeps L laws start kept keeps parent.page node.page sibling.page parent.new node.new sibling.new third
      (agrees.0, refl, (agrees.2.0, refl, (agrees.2.2.0, refl, tt))) fits.apart)

  module _ (meta root sibling top : Change) where
    abbrev four : ℕ → ℕ → List Change
    four m p = change_at m meta.new ∷ change_at p root.new ∷ change_at sibling.page sibling.new ∷ change_at top.page top.new ∷ []

    -- the law, with page m for page 0 and page p for the root
    abbrev RootLaw : ℕ → ℕ → Type 0
    RootLaw m p = Agrees kept.pages (four m p) → AreApart (changed_pages (four m p))
        → MaySplitRoot L (change_at m meta.new) (change_at p root.new) (change_at sibling.page sibling.new)
        (change_at top.page top.new) → KeepsTree L start (after_release (four m p) [] kept)

    root_split_law : Fits kept due (meta ∷ root ∷ sibling ∷ top ∷ []) → MaySplitRoot L meta root sibling top
        → KeepsTree L start (after_release (meta ∷ root ∷ sibling ∷ top ∷ []) [] kept)
    root_split_law fits may =
        let agrees = fits.agrees in
        let first = subst (λ (w : List ℕ). MaySplitRoot L record meta { old = w } root sibling top) (sym agrees.1) may in
        let second = subst (λ (w : List ℕ). MaySplitRoot L (change_at meta.page meta.new) record root { old = w }
        sibling top) (sym agrees.2.1) first in
        let third = subst (λ (w : List ℕ). MaySplitRoot L (change_at meta.page meta.new)
        (change_at root.page root.new) record sibling { old = w } top) (sym agrees.2.2.1) second in
        let fourth = subst (λ (w : List ℕ). MaySplitRoot L (change_at meta.page meta.new)
        (change_at root.page root.new) (change_at sibling.page sibling.new) record top { old = w })
        (sym agrees.2.2.2.1) third in
        let at_root = subst (λ (m : ℕ). get_or (page_at kept.pages m) 1 0 ≡ root.page) may.page_zero fourth.root_page in
        let here : RootLaw 0 (root_page kept.pages) = λ a apart m. root_split_keeps L laws start kept keeps
        sibling.page top.page meta.new root.new sibling.new top.new m a apart in
        let there : RootLaw meta.page root.page = subst (λ (m : ℕ). RootLaw m root.page) (sym may.page_zero)
        (subst (λ (p : ℕ). RootLaw 0 p) at_root here) in
        subst (λ (cs : List Change). KeepsTree L start (after_release cs [] kept))
        (λ i. record meta { old = agrees.1 i } ∷ record root { old = agrees.2.1 i } ∷ record sibling {
          old =
              agrees.2.2.1 i;
        } ∷ record top { old = agrees.2.2.2.1 i } ∷ [])
        (there (agrees.0, refl, (agrees.2.0, refl, (agrees.2.2.0, refl, (agrees.2.2.2.0, refl, tt)))) fits.apart fourth)

module _ (L : Layout) (laws : IsLayout L) (start : Start) (kept : Kept Said) (keeps : KeepsTree L start kept)
    (e : Entry Said) (turn : e.count ≡ entries_under e.number kept.history + 1) where
  merge_law : (due : List ℕ) (parent left right : Change) → Fits kept due (parent ∷ left ∷ right ∷ [])
      → MayMerge L parent left right e.said
      → KeepsTree L start (after_release (parent ∷ left ∷ right ∷ []) (e ∷ []) kept)
  merge_law due parent left right fits may =
      let agrees = fits.agrees in
      let first = subst (λ (w : List ℕ). MayMerge L record parent { old = w } left right e.said) (sym agrees.1) may in
      let second = subst (λ (w : List ℕ). MayMerge L record parent { old = page_at kept.pages parent.page }
      record left { old = w } right e.said) (sym agrees.2.1) first in
      let third = subst (λ (w : List ℕ). MayMerge L record parent { old = page_at kept.pages parent.page }
      record left { old = page_at kept.pages left.page } record right { old = w } e.said) (sym agrees.2.2.1)
      second in
      subst (λ (cs : List Change). KeepsTree L start (after_release cs (e ∷ []) kept))
      (λ i. record parent { old = agrees.1 i } ∷ record left { old = agrees.2.1 i } ∷ record right {
        old =
            agrees.2.2.1 i;
      } ∷ [])
      (merge_keeps L laws start kept keeps parent.page left.page right.page parent.new left.new right.new e turn third
      (agrees.0, refl, (agrees.2.0, refl, (agrees.2.2.0, refl, tt))) fits.apart)

  module _ (meta root left right : Change) where
    abbrev here : ℕ → ℕ → List Change
    here m q = record {
      page = m;
      old = page_at kept.pages m;
      new = meta.new;
    } ∷ record { page = q; old = page_at kept.pages q; new = root.new }
        ∷ record {
          page = left.page;
          old = page_at kept.pages left.page;
          new = left.new;
        } ∷ record { page = right.page; old = page_at kept.pages right.page; new = right.new } ∷ []

    abbrev CollapseLaw : ℕ → ℕ → Type 0
    CollapseLaw m q = Agrees kept.pages (here m q) → AreApart (changed_pages (here m q))
        → MayCollapse L (record {
          page = m;
          old = page_at kept.pages m;
          new = meta.new;
        }) (record { page = q; old = page_at kept.pages q; new = root.new })
        (record {
          page = left.page;
          old = page_at kept.pages left.page;
          new = left.new;
        }) (record { page = right.page; old = page_at kept.pages right.page; new = right.new }) e.said
        → KeepsTree L start (after_release (here m q) (e ∷ []) kept)

    collapse_law : (due : List ℕ) → Fits kept due (meta ∷ root ∷ left ∷ right ∷ [])
        → MayCollapse L meta root left right e.said
        → KeepsTree L start (after_release (meta ∷ root ∷ left ∷ right ∷ []) (e ∷ []) kept)
    collapse_law due fits may =
        let agrees = fits.agrees in
        let first = subst (λ (w : List ℕ). MayCollapse L record meta { old = w } root left right e.said) (sym agrees.1) may in
        let second = subst (λ (w : List ℕ). MayCollapse L record meta { old = page_at kept.pages meta.page }
        record root { old = w } left right e.said) (sym agrees.2.1) first in
        let third = subst (λ (w : List ℕ). MayCollapse L record meta { old = page_at kept.pages meta.page }
        record root { old = page_at kept.pages root.page } record left { old = w } right e.said)
        (sym agrees.2.2.1) second in
        let fourth = subst (λ (w : List ℕ). MayCollapse L record meta { old = page_at kept.pages meta.page }
        record root { old = page_at kept.pages root.page } record left { old = page_at kept.pages left.page }
        record right { old = w } e.said) (sym agrees.2.2.2.1) third in
        let at_root = subst (λ (m : ℕ). get_or (page_at kept.pages m) 1 0 ≡ root.page) may.page_zero fourth.root_page in
        let law : CollapseLaw 0 (root_page kept.pages) = λ a apart m. collapse_keeps L laws start kept keeps left.page
        right.page meta.new root.new left.new right.new e turn m a apart in
        let there : CollapseLaw meta.page root.page = subst (λ (m : ℕ). CollapseLaw m root.page) (sym may.page_zero)
        (subst (λ (q : ℕ). CollapseLaw 0 q) at_root law) in
        subst (λ (cs : List Change). KeepsTree L start (after_release cs (e ∷ []) kept))
        (λ i. record meta { old = agrees.1 i } ∷ record root { old = agrees.2.1 i } ∷ record left {
          old =
              agrees.2.2.1 i;
        } ∷ record right { old = agrees.2.2.2.1 i } ∷ [])
        (there (agrees.0, refl, (agrees.2.0, refl, (agrees.2.2.0, refl, (agrees.2.2.2.0, refl, tt)))) fits.apart fourth)

pub releases_keep : (L : Layout) (laws : IsLayout L) (start : Start) (kept : Kept Said) (due : List ℕ)
    (changes : List Change) (entries : List (Entry Said))
    → KeepsTree L start kept → Fits kept due changes → IsTurn kept.history entries
    → MayRelease L start due changes entries → KeepsTree L start (after_release changes entries kept)
releases_keep L laws start kept due (leaf ∷ []) (e ∷ []) keeps fits turn may = leaf_law L laws start kept keeps due leaf e fits turn may
releases_keep L laws start kept due (parent ∷ node ∷ sibling ∷ []) [] keeps fits turn may =
    split_law L laws start kept keeps due parent node sibling fits may
releases_keep L laws start kept due (meta ∷ root ∷ sibling ∷ top ∷ []) [] keeps fits turn may =
    root_split_law L laws start kept keeps due meta root sibling top fits may
releases_keep L laws start kept due (parent ∷ left ∷ right ∷ []) (e ∷ []) keeps fits turn may =
    merge_law L laws start kept keeps e turn.0 due parent left right fits may
releases_keep L laws start kept due (meta ∷ root ∷ left ∷ right ∷ []) (e ∷ []) keeps fits turn may =
    collapse_law L laws start kept keeps e turn.0 meta root left right due fits may
releases_keep L laws start kept due _ _ keeps fits turn may = absurd may

pub moves_keep : (L : Layout) (start : Start) (kept : Kept Said) (move : NumberMove) → KeepsTree L start kept
    → MayMove kept move → KeepsTree L start (moved move kept)
moves_keep L start kept (Taken mask) keeps may = numbers_keep L start kept _ _ kept.freed keeps
    (λ x spare. inr (go (mask x) (kept.free x) (kept.held x) (kept.freed x) spare))
  where
    go : (m a b c : Bool) → (a || b || c) ≡ true → ((if m then false else a) || (if m then true else b) || c) ≡ true
    go true a b c e = refl
    go false a b c e = e
moves_keep L start kept (Given mask) keeps may =
    numbers_keep L start kept _ _ _ keeps
    (λ x spare. inr (go (mask x) (kept.free x) (kept.held x) (kept.freed x) spare))
  where
    go : (m a b c : Bool) → (a || b || c) ≡ true → ((if m then true else a) || (if m then false else b) || (if m then false else c)) ≡ true
    go true a b c e = refl
    go false a b c e = e
moves_keep L start kept (Ended q) keeps may = numbers_keep L start kept kept.free _ kept.freed keeps (λ x spare. elim (cases_eq x q) [
  | inl same ↦ inl (rw same may)
  | inr other ↦ inr (rw (ne_eqb x q other) spare)
])

pub reads_keep : (L : Layout) (laws : IsLayout L) (start : Start) (kept : Kept Said) (page : ℕ) (entries : List (Entry Said))
    → KeepsTree L start kept → IsTurn kept.history entries → MayRead L start page (page_at kept.pages page) entries
    → KeepsTree L start (told entries kept)
reads_keep L laws start kept page [] keeps turn may = rw (append-nil kept.history) keeps
reads_keep L laws start kept page (e ∷ es) keeps turn may =
    let at = leaf_by_tag L laws start kept keeps page may.0 in
    rw turn.1 (read_keeps L laws start kept keeps page at e turn.0 e.said.call e.said.reply refl
    (may.1 _ _ (keeps.tree.tree.leaf page at.2).rises))
