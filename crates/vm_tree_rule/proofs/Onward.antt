-- A step down from a node of which words were loaded before: they name the next page.
use Rattle.std.proofs.Common.{[], ◌++◌, ◌<◌, ◌∙◌, ◌∷◌, ◌≡◌, ◌≢◌, ◌≤◌, ap, append_assoc, arith, inl, inr, length, List}
use Rattle.std.proofs.Common.{None, Option, refl, slice_index, Some, subst, suc, sym, true, unwrap_or, ℕ}
use Rattle.vm_map.specs.Map.{next_key}
use Rattle.vm_tree_model.specs.{Layout.Layout, Page.node_of, Page.pairs_of}
use Rattle.vm_node.specs.Loads.{IsPageWith}
use Rattle.vm_event.specs.Prelude.{LoadsAre}
use Rattle.vm_rule.specs.Prelude.{last_of, loads_at}
use Rattle.vm_step.specs.Prelude.{Origin, ReadsAsBefore, View}
use Rattle.vm_kind.specs.from_vm_guard.declared_opt_OptGuard.{OptGuard}
use Rattle.vm_kind.specs.from_vm_guard.Guards.{BeginsReading, IsReading, IsValid, Loads}
use Rattle.vm_tree_laws.specs.{Descent.IsReachedAs, Tied.IsNodeAs, Tied.Tied}
use Rattle.vm_tree_laws.proofs.Descents.{child_as, child_there, reached_as}
use Rattle.vm_tree_rule.specs.Leaves.{LeavesWord, ReadsOn}
use Rattle.vm_tree_rule.specs.Seeks.{ArePassed, HasLoaded, IsMetaRead, IsNamedRoot, TellChild, TellChildIn, TellNoChild}
use Rattle.vm_tree_rule.specs.Standing.{Awaits, AwaitsNode, HasSteppedDown, IsOpened, NamesForKey, NamesNode, Sees, StaysOpen, tree_pages}
use Rattle.vm_tree_rule.proofs.Downward.{inner-here, itself-not}
use Rattle.vm_tree_rule.proofs.Entering.{opened-reads}
use Rattle.vm_tree_rule.proofs.Readings.{begins-leave, leaves-then, each-loaded, loads-behind, opened-later}
use Rattle.vm_tree_rule.proofs.Readings.{reads-self, reads-then, valid-leave}

module _ {X : Type 0} where
  -- more words of the page were loaded
  pub loaded-more : (p word frame : ℕ) (before loaded : List (ℕ × ℕ)) (v w : View X) → HasLoaded v p before
      → Loads p word frame loaded v w → HasLoaded w p (before ++ loaded)
  loaded-more p word frame before loaded v w has l =
      (has.0, l.loads ∙ ap (λ (m : List (ℕ × ℕ)). m ++ loaded) has.1 ∙ append_assoc has.0 before loaded)

  -- page 0 was read, and then the root entered
  pub meta-read : (p word frame root entered level : ℕ) (v a b y w : View X) → p ≡ 0 → IsOpened v p word frame y
      → ReadsOn y w → StaysOpen p word frame entered y w → entered ≡ root
      → loads_at b p ≡ loads_at a p ++ (1, root) ∷ [] → loads_at y p ≡ loads_at b p ++ (2, level) ∷ []
      → (w.start.tells ≡ true → level < w.start.pages) → IsMetaRead p word frame entered level v w
  meta-read p word frame root entered level v a b y w zero o reads s same first second height = record {
    height = height;
    zero = zero;
    apart = λ e. s.apart (e ∙ sym zero);
    opened = opened-later p word frame v y w o reads s.same s.reading;
    loads = (
      loads_at a p,
      s.loads ∙ second ∙ ap (λ (l : List (ℕ × ℕ)). l ++ (2, level) ∷ [])
          (first ∙ ap (λ (n : ℕ). loads_at a p ++ (1, n) ∷ []) (sym same)) ∙ append_assoc (loads_at a p)
          ((1, entered) ∷ []) ((2, level) ∷ []),
    );
  }

module _ {X : Type 0} {L : Layout} where
  module _ (p word frame level key : ℕ) (loaded : List (ℕ × ℕ)) (y : View X) (r : IsReading p word frame y)
      (read : HasLoaded y p loaded) where
    -- the words that a validation would prove are a page that has what was loaded
    pub has-loaded : (words : List ℕ) → length words ≡ L.words → Sees L y p word words → IsPageWith L.words loaded words
    has-loaded words size sees = record {
      size = size;
      has = each-loaded words loaded (loads-behind words read.0 loaded (subst (LoadsAre words) read.1 (sees.valid _ r.reading refl)));
    }

    module _ (low high : ℕ) (awaits : AwaitsNode L y p word (suc level) low high) (from : low ≤ key) (below : key < high) where
      pub goes-on : (named first : ℕ) (next : Option ℕ) → TellChildIn L loaded key named first next
          → NamesNode L y p word named level first (unwrap_or next high)
      goes-on named first next is tells words size sees =
          let here : IsReachedAs L (tree_pages y) p words (suc level) low high = awaits tells words sees.holds in
          let reached = reached_as L (tree_pages y) p words (suc level) low high key here from below in
          let inner = inner-here (tree_pages y) p words level key reached in
          let found = is words (has-loaded words size sees) in
          let fences = found.fences _ _ inner.node.rises in
          let bound : next_key (pairs_of L words) (node_of L words).high first ≡ unwrap_or next high =
          fences.1 (node_of L words).high ∙ ap (λ (n : ℕ). unwrap_or next n) here.node.high_is in
          let range = sees.itself.sound.children reached.from_one first named inner.node.tag fences.0 in
          record {
            from_one = range.0;
            in_range = range.1;
            apart = λ e. itself-not (tree_pages y) p words level key reached inner sees.itself
                (found.finds.child _ _ inner.node.rises ∙ ap (λ (n : ℕ). Some n) e);
            node = λ child tied. subst (λ n. IsNodeAs L child level first n) bound
                (child_as L (tree_pages y) p words (suc level) key reached named first child inner fences.0 tied level
                (omega arith)).node;
          }

    module _ (awaits : Awaits L y p word (suc level) key) where
      pub goes-to : (named : ℕ) → TellChild L loaded key named → y.start.tells ≡ true → (words : List ℕ)
          → length words ≡ L.words → Sees L y p word words → NamesForKey L p words key named
      goes-to named is tells words size sees =
          let reached = awaits tells words sees.holds in
          let inner = inner-here (tree_pages y) p words level key reached in
          inr (reached.from_one, inner.node.tag, reached.covers, (is words (has-loaded words size sees)).child _ _ inner.node.rises)

      pub goes-nowhere : TellNoChild L loaded (suc level) key → y.start.tells ≡ true → (words : List ℕ) → length words ≡ L.words
          → Sees L y p word words → ⊥
      goes-nowhere none tells words size sees =
          let reached = awaits tells words sees.holds in
          let inner = inner-here (tree_pages y) p words level key reached in
          let there = child_there L (tree_pages y) p words (suc level) key reached sees.itself.sound inner in
          elim (none words (has-loaded words size sees)) [
            | inl other ↦ other reached.level_is
            | inr gone ↦ let no : Some there.0 ≡ None = sym there.1 ∙ gone.child _ _ inner.node.rises in cc
          ]

  -- the root was named by page 0, which was validated then
  abbrev pub root-passes : (meta : OptGuard) (root level q word' frame' : ℕ) (u y w : View X) → meta.pid ≡ 0
      → IsOpened u meta.pid meta.word meta.frame y → (before : List (ℕ × ℕ))
      × (loads_at y meta.pid ≡ before ++ (1, root) ∷ (2, level) ∷ []) → q ≡ root
      → HasSteppedDown L meta.pid meta.word meta.frame q word' frame' y w
      → (y.start.tells ≡ true → slice_index (last_of w meta.pid).words 1 ≡ root) → IsNamedRoot L u q w
  root-passes meta root level q word' frame' u y w zero o loads same s told = record {
    meta = meta;
    level = level;
    checked = s.checked;
    after = w;
    zero = zero;
    opened = opened-later meta.pid meta.word meta.frame u y s.checked o s.looked s.stays.same s.stays.reading;
    loads = (loads.0, s.stays.loads ∙ loads.1 ∙ ap (λ (n : ℕ). loads.0 ++ (1, n) ∷ (2, level) ∷ []) (sym same));
    valid = s.valid;
    since = reads-self w;
    told = λ tells. told (ap (λ (o : Origin). o.tells) (opened-reads meta.pid meta.word meta.frame u y o).0.start ∙ tells) ∙ sym same;
  }

  -- the parent stays open
  pub stays : (p word frame q started frame' : ℕ) (v x w : View X) → q ≢ p → BeginsReading q started frame' v x
      → IsValid (Tied L) p word frame None x w → StaysOpen p word frame q v w
  stays p word frame q started frame' v x w ne b k = record {
    apart = ne;
    reading = k.reads;
    loads = (k.same_reads p).loads ∙ (b.quiet.others p (λ e. ne (sym e))).loads;
    same = leaves-then p v x w (begins-leave p q started frame' v x (λ e. ne (sym e)) b) (valid-leave (Tied L) p p word frame None x w k);
  }

  -- so does each other page's read, and no word is left there
  pub others-stay : (q p started frame' r word frame : ℕ) (v x w : View X) → q ≢ p
      → BeginsReading p started frame' v x → IsValid (Tied L) r word frame None x w → ReadsAsBefore v w q
      × LeavesWord q v w
  others-stay q p started frame' r word frame v x w ne b k =
      let first = b.quiet.others q ne in
      let then = k.same_reads q in (
        record { reading = then.reading ∙ first.reading; loads = then.loads ∙ first.loads },
        leaves-then q v x w (begins-leave q p started frame' v x ne b) (valid-leave (Tied L) q r word frame None x w k),
      )

module _ {X : Type 0} (L : Layout) where
  -- the call went on
  abbrev pub root-later : (v : View X) (p : ℕ) (w y : View X) → ReadsOn w y → IsNamedRoot L v p w → IsNamedRoot L v p y
  root-later v p w y reads k = record {
    meta = k.meta;
    level = k.level;
    checked = k.checked;
    after = k.after;
    zero = k.zero;
    opened = k.opened;
    loads = k.loads;
    valid = k.valid;
    since = reads-then k.after w y k.since reads;
    told = k.told;
  }

module _ {X : Type 0} (L : Layout) (spare : List ℕ → ℕ) where
  pub passed-later : (v : View X) (key : ℕ) (way : List (ℕ × List (ℕ × ℕ))) (p : ℕ) (w y : View X) → ReadsOn w y
      → ArePassed L spare v key way p w → ArePassed L spare v key way p y
  passed-later v key [] p w y reads k = root-later L v p w y reads k
  passed-later v key (s ∷ ss) p w y reads k = (
    record {
      word = k.0.word;
      frame = k.0.frame;
      checked = k.0.checked;
      after = k.0.after;
      opened = k.0.opened;
      read = k.0.read;
      room = k.0.room;
      names = k.0.names;
      valid = k.0.valid;
      since = reads-then k.0.after w y k.0.since reads;
      told = k.0.told;
    },
    passed-later v key ss s.0 w y reads k.1,
  )
