-- The way on which a page was reached goes on with each step down, and stays as it is while the call reads on. What a search finds wrong with a page
-- on it is that the page is no node of the level and the fences at which it was reached.
use Rattle.std.proofs.Common.{[], ◌++◌, ◌+◌, ◌∙◌, ◌∷◌, ◌≡◌, ◌≤◌, ap, arith, inl, inr, List, None, Option}
use Rattle.std.proofs.Common.{option_map, refl, Some, subst, sym}
use Rattle.std.proofs.Common.{unwrap_or, ℕ}
use Rattle.vm_map.proofs.MapLemmas.{floor_some}
use Rattle.vm_tree_model.specs.{Edits.child_of, Layout.Layout, Page.IsInner, Page.node_of, Page.pairs_of}
use Rattle.vm_kind.specs.from_vm_inner.Found.{FindsChildIn, FindsNoChild}
use Rattle.vm_rule.specs.Prelude.{loads_at}
use Rattle.vm_step.specs.Prelude.{View}
use Rattle.vm_kind.specs.from_vm_guard.Guards.{IsValid, Loads}
use Rattle.vm_tree_laws.specs.Tied.{IsNodeAs, Tied}
use Rattle.vm_tree_rule.specs.declared.descent.Stand.{Stand}
use Rattle.vm_tree_rule.specs.{Above.IsLeafOn, Leaves.ReadsOn}
use Rattle.vm_tree_rule.specs.Standing.{AwaitsNode, fence_of, HasSteppedDown, IsOpened, IsStand}
use Rattle.vm_tree_rule.specs.Seeks.{TellChild, TellChildIn, TellLevel, TellNoChild}
use Rattle.vm_tree_rule.specs.Turns.{IsNoChild, WhyDamaged}
use Rattle.vm_tree_rule.specs.Turns.{WhyDamaged as why}
use Rattle.vm_tree_rule.specs.Ways.{AreOnWay, IsNamedBelow, IsOnWay, StandsOnWay, TellNoNode, WayStep}
use Rattle.vm_tree_rule.proofs.{Downward.node-later, Onward.root-later}
use Rattle.vm_tree_rule.proofs.Readings.{loads-reads, opened-later, opened-loads, reads-self, reads-then, valid-reads}

-- the search that tells the fences tells the page
pub tells-page : (L : Layout) (loaded : List (ℕ × ℕ)) (key named low : ℕ) (next : Option ℕ)
    → TellChildIn L loaded key named low next → TellChild L loaded key named
tells-page L loaded key named low next tells words with = (tells words with).finds

module _ (L : Layout) (words : List ℕ) (level low high key : ℕ) (node : IsNodeAs L words level low high) where
  -- a node above level 0 is an inner node
  inner-above : 1 ≤ level → IsInner L words
  inner-above some = elim node.kind [
    | inl leaf ↦ absurd (omega (arith, leaf.node.level, node.level_is, some))
    | inr inner ↦ inner
  ]

  -- so it has a child for each key that its fences hold
  no-child-clashes : 1 ≤ level → low ≤ key → FindsNoChild L words key → ⊥
  no-child-clashes some from none =
      let inner = inner-above some in
      let (x, is) = floor_some (pairs_of L words) (node_of L words).low key inner.node.starts (omega (arith, node.low_is, from)) in
      let there : child_of L words key ≡ Some x.1 = ap (option_map (λ (y : ℕ × ℕ). y.1)) is in
      let no : Some x.1 ≡ None = sym there ∙ none.child _ _ inner.node.rises in cc

-- where the search finds no child, or another level, there is no such node
pub no-child-no-node : (L : Layout) (loaded : List (ℕ × ℕ)) (level low high key : ℕ) → 1 ≤ level → low ≤ key
    → TellNoChild L loaded level key → TellNoNode L loaded level low high
no-child-no-node L loaded level low high key some from tells words with node = elim (tells words with) [
  | inl other ↦ other node.level_is
  | inr none ↦ no-child-clashes L words level low high key node some from none
]

-- nor is a page of one level a node of another
pub level-no-node : (L : Layout) (loaded : List (ℕ × ℕ)) (level below low high : ℕ) → below + 1 ≡ level
    → TellLevel L loaded level → TellNoNode L loaded below low high
level-no-node L loaded level below low high up tells words with node =
    let is : (node_of L words).level ≡ level = tells words with in absurd (omega (arith, is, node.level_is, up))

module _ {X : Type 0} (L : Layout) where
  -- the call read on
  below-later : (v : View X) (key r p low : ℕ) (next : Option ℕ) (w y : View X) → ReadsOn w y
      → IsNamedBelow L v key r p low next w → IsNamedBelow L v key r p low next y
  below-later v key r p low next w y reads k = record {
    word = k.word;
    frame = k.frame;
    checked = k.checked;
    after = k.after;
    opened = k.opened;
    loaded = k.loaded;
    read = k.read;
    names = k.names;
    valid = k.valid;
    since = reads-then k.after w y k.since reads;
  }

  are-later : (v : View X) (key : ℕ) (steps : List WayStep) (p level low high : ℕ) (w y : View X) → ReadsOn w y
      → AreOnWay L v key steps p level low high w → AreOnWay L v key steps p level low high y
  are-later v key [] p level low high w y reads k = (root-later L v p w y reads k.0, k.1, k.2, k.3)
  are-later v key (s ∷ ss) p level low high w y reads k = (
    below-later v key s.page p low s.next w y reads k.0,
    k.1,
    k.2,
    are-later v key ss s.page s.level s.low s.high w y reads k.3,
  )

module _ {X : Type 0} {L : Layout} where
  pub way-later : (v : View X) (key p level low high : ℕ) (w y : View X) → ReadsOn w y → IsOnWay L v key p level low high w
      → IsOnWay L v key p level low high y
  way-later v key p level low high w y reads k =
      record { steps = k.steps; are = are-later L v key k.steps p level low high w y reads k.are }

  -- words of page r were loaded that name another page, and it has been reached
  module _ (r word frame level low high key : ℕ) (loaded : List (ℕ × ℕ)) (u v x w : View X) (o : IsOpened u r word frame v)
      (way : IsOnWay L u key r level low high v) (l : Loads r word frame loaded v x) where
    opened-now : IsOpened u r word frame x
    opened-now = opened-loads r word frame loaded u v x o l

    pub way-below : (named below first : ℕ) (next : Option ℕ) → below + 1 ≡ level → TellChildIn L loaded key named first next
        → (q word' frame' : ℕ) → q ≡ named → HasSteppedDown L r word frame q word' frame' x w
        → IsOnWay L u key q below first (unwrap_or next high) w
    way-below named below first next up tells q word' frame' same s = record {
      steps = record { page = r; level = level; low = low; high = high; next = next } ∷ way.steps;
      are = (
        record {
          word = word;
          frame = frame;
          checked = s.checked;
          after = w;
          opened = opened-later r word frame u x s.checked opened-now s.looked s.stays.same s.stays.reading;
          loaded = loaded;
          read = (loads_at v r, s.stays.loads ∙ l.loads);
          names = λ words with. subst (λ n. FindsChildIn L words key n first next) (sym same) (tells words with);
          valid = s.valid;
          since = reads-self w;
        },
        up,
        refl,
        are-later L u key way.steps r level low high v w
            (reads-then v x w (loads-reads r word frame loaded v x l) s.reads) way.are,
      );
    }

    -- then it was validated: it names a page that the image has not, or itself, which is of another level
    module _ (k : IsValid (Tied L) r word frame None x w) (named below first : ℕ) (next : Option ℕ) (up : below + 1 ≡ level)
        (tells : TellChildIn L loaded key named first next) (here : TellLevel L loaded level) where
      still : ReadsOn v w
      still = reads-then v x w (loads-reads r word frame loaded v x l) (valid-reads (Tied L) r word frame x w k)

      has : loads_at w r ≡ loads_at v r ++ loaded
      has = (k.same_reads r).loads ∙ l.loads

      names-itself : named ≡ r → WhyDamaged L u key r w
      names-itself same =
          why.other below first (unwrap_or next high) loaded (record {
            steps = record { page = r; level = level; low = low; high = high; next = next } ∷ way.steps;
            are = (
              record {
                word = word;
                frame = frame;
                checked = x;
                after = w;
                opened = opened-now;
                loaded = loaded;
                read = (loads_at v r, l.loads);
                names = λ words with. subst (λ n. FindsChildIn L words key n first next) same (tells words with);
                valid = k;
                since = reads-self w;
              },
              up,
              refl,
              are-later L u key way.steps r level low high v w still way.are,
            );
          }) (loads_at v r, has) (level-no-node L loaded level below first (unwrap_or next high) up here)

      pub no-child-why : IsNoChild w.start.pages r named → WhyDamaged L u key r w
      no-child-why (inl none) =
          why.childless level low high named loaded (way-later u key r level low high v w still way)
          (loads_at v r, has) (tells-page L loaded key named first next tells) (inl none)
      no-child-why (inr (inl far)) =
          why.childless level low high named loaded (way-later u key r level low high v w still way)
          (loads_at v r, has) (tells-page L loaded key named first next tells) (inr far)
      no-child-why (inr (inr same)) = names-itself same

    -- it was validated, and is no such node
    pub no-node-why : IsValid (Tied L) r word frame None x w → TellNoNode L loaded level low high → WhyDamaged L u key r w
    no-node-why k none =
        why.other level low high loaded
        (way-later u key r level low high v w
        (reads-then v x w (loads-reads r word frame loaded v x l) (valid-reads (Tied L) r word frame x w k)) way)
        (loads_at v r, (k.same_reads r).loads ∙ l.loads) none

  -- a leaf that was reached stays so while the call reads on
  pub leaf-later : (u : View X) (key p word : ℕ) (v w : View X) → ReadsOn v w → IsLeafOn L u key p word v → IsLeafOn L u key p word w
  leaf-later u key p word v w reads k = record {
    low = k.low;
    high = k.high;
    awaits = node-later p word 0 k.low k.high v w reads.0 k.awaits;
    from = k.from;
    below = k.below;
    way = way-later u key p 0 k.low k.high v w reads k.way;
  }

module _ {X T : Type 0} (L : Layout) (rank : T → ℕ) where
  -- a descent that stands at level 0 has reached a leaf
  abbrev pub stands-leaf : (v : View X) (key : ℕ) (s : Stand T) (w : View X) → s.level ≡ 0 → IsStand L rank key s w
      → StandsOnWay L rank v key s w → IsLeafOn L v key s.guard.pid s.guard.word w
  stands-leaf v key s w zero stands way = record {
    low = rank s.low;
    high = fence_of L rank s.high;
    awaits = subst (λ n. AwaitsNode L w s.guard.pid s.guard.word n (rank s.low) (fence_of L rank s.high)) zero stands.awaits;
    from = stands.from;
    below = stands.below;
    way = subst (λ n. IsOnWay L v key s.guard.pid n (rank s.low) (fence_of L rank s.high) w) zero way;
  }
