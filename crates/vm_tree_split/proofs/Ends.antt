-- What came of a full node: all that a split asks for, once its pages are locked and its fresh ones claimed.
use Rattle.std.proofs.Common.{[], ◌++◌, ◌||◌, ◌∙◌, ◌∷◌, ◌≡◌, ◌≢◌, ◌≤◌, ap, arith, eqb, false, length, List, None, refl, slice_index, Some}
use Rattle.vm_page.specs.Pages.{all_zero}
use Rattle.vm_tree_laws.proofs.Zeros.{other_words}
use Rattle.std.proofs.Common.{subst, suc, sym, true, ℕ}
use Rattle.std.proofs.lemmas.Bool.{eq-eqb, ne_eqb, or_left, or_right}
use Rattle.vm_map.specs.declared.call.Said.{Said}
use Rattle.vm_tree_model.specs.Layout.{IsLayout, Layout}
use Rattle.vm_event.specs.Prelude.{LoadsAre}
use Rattle.vm_rule.specs.Prelude.{AreApart, has, last_of, loads_at, put_at}
use Rattle.vm_step.specs.Prelude.{Did, Origin, View}
use Rattle.vm_tree_read.specs.from_vm_exmap.Frames.{MovesFrames}
use Rattle.vm_tree_read.specs.from_vm_guard.{declared_exclusive_ExclusiveGuard.ExclusiveGuard, declared_opt_OptGuard.OptGuard}
use Rattle.vm_tree_read.specs.from_vm_guard.{Groups.GuardsHeld, Groups.pids_of}
use Rattle.vm_tree_read.specs.from_vm_tree_rule.Seeks.{IsFullBelow, IsRootFull}
use Rattle.vm_tree_read.proofs.from_vm_tree_rule.{Entering.opened-reads, Readings.loads-behind}
use Rattle.vm_tree_split.specs.{Prepares.AreTaken, Prepares.IsPrepared, Tries.HasSplit}
use Rattle.vm_tree_draft.specs.Splits.{AreToSplit, CanSplit, CanSplitRoot, HasDraft, IsRootToSplit, IsSplitUp, KeepsLocksOnly, MayUse}
use Rattle.vm_tree_split.proofs.Preparing.{first-held, first-inner, first-not, first-stays, first-words, fresh-zero}
use Rattle.vm_tree_split.proofs.Preparing.{home-is, prepared-gains, prepared-keeps, second-held, second-not}
use Rattle.vm_tree_split.proofs.Preparing.{second-reached, second-words, start-then}
use Rattle.vm_tree_draft.proofs.{Framing.keeps-then, Numbering.gains-kept, Numbering.gains-then}
use Rattle.vm_tree_split.proofs.Seeing.{OnlySees, sees-room}
use Rattle.vm_tree_split.proofs.Roomy.{awaits-loaded, read-loaded, reading-loaded, roomy-keeps, roomy-out, roomy-start}
use Rattle.vm_tree_split.proofs.Under.{reading-moved}

-- words of page 0 are not all zero
pub meta-not : (words : List ℕ) (magic : ℕ) → slice_index words 0 ≡ magic → 1 ≤ magic → all_zero words ≡ false
meta-not words magic is some = other_words words (λ zeros. omega (arith, zeros 0, is, some))

-- what stands at one height stands at another, if that is the same where blocks tell their words
pub can-at : {X : Type 0} (L : Layout) (spare : List ℕ → ℕ) (meta low right top : ExclusiveGuard) (height other : ℕ)
    (page : List ℕ) (v : View X) → (v.start.tells ≡ true → other ≡ height)
    → CanSplitRoot L spare meta low right top height page v → CanSplitRoot L spare meta low right top other page v
can-at L spare meta low right top height other page v same can = record {
  home = can.home;
  held = can.held;
  apart = can.apart;
  zero = can.zero;
  same = can.same;
  usable = can.usable;
  full = can.full;
  told = λ tells. subst (λ n. IsRootToSplit L meta.pid low.pid right.pid top.pid n page v) (sym (same tells)) (can.told tells);
}

module _ {X : Type 0} {L : Layout} (n : ℕ) (first second : OptGuard) (up low : ExclusiveGuard)
    (gs : List ExclusiveGuard) (v w : View X) (all : AreTaken L n first second up low gs v w)
    (apart : second.pid ≢ first.pid) where
  pub pids-are : up.pid ∷ low.pid ∷ pids_of gs ≡ first.pid ∷ second.pid ∷ all.pids
  pids-are i = all.locks.up_page i ∷ all.locks.low_page i ∷ all.fresh.guards i

  group-apart : AreApart (up.pid ∷ low.pid ∷ pids_of gs)
  group-apart =
      subst AreApart (sym pids-are) (
        (λ i. ne_eqb first.pid second.pid (λ e. apart (sym e)) i || first-not n first second up low gs v w all apart
            i),
        (second-not n first second up low gs v w all apart, all.fresh.apart),
      )

  held-all : GuardsHeld w (up ∷ low ∷ gs)
  held-all = (first-held n first second up low gs v w all apart, (second-held n first second up low gs v w all apart, all.fresh.held))

  -- each of the fresh pages is the pass's to use
  usable-all : w.start.tells ≡ true → (q : ℕ) → has q all.pids ≡ true → MayUse q w
  usable-all tells q e = all.fresh.usable (ap (λ (o : Origin). o.tells) (sym all.fresh.amid.start) ∙ tells) q e

module _ {S : Type 0} (plain : S → Said) (L : Layout) (laws : IsLayout L) (spare : List ℕ → ℕ) where
  ended : (n : ℕ) (first second : OptGuard) (up low : ExclusiveGuard) (gs : List ExclusiveGuard) (v w : View S)
      (all : IsPrepared L n first second up low gs v w) → second.pid ≢ first.pid → (d : List Did) (y z : View S)
      → IsSplitUp plain L (up.pid ∷ low.pid ∷ pids_of gs) w y → MovesFrames d y z → KeepsLocksOnly v z
      × HasSplit plain L spare n first second v z
  ended n first second up low gs v w all apart d y z su m =
      let t = all.taken in (
        keeps-then v all.roomy z (roomy-keeps v all.roomy (sees-room n v all.roomy all.room))
            (prepared-keeps n first second up low gs all.roomy w t apart d y z
            (subst (λ (l : List ℕ). IsSplitUp plain L l w y)
            (pids-are n first second up low gs all.roomy w t apart) su) m),
        record {
          up = up;
          low = low;
          pages = gs;
          before = w;
          prepared = all;
          after = y;
          split = subst (λ (l : List ℕ). IsSplitUp plain L l w y) (λ i. t.locks.up_page i ∷ t.locks.low_page i ∷ pids_of gs) su;
          done = d;
          freed = m;
          numbers = gains-then v all.roomy z (sees-room n v all.roomy all.room).nil.amid.start
              (gains-kept v all.roomy (sees-room n v all.roomy all.room).nil.numbers)
              (prepared-gains n first second up low gs all.roomy w t apart d y z
              (subst (λ (l : List ℕ). IsSplitUp plain L l w y)
              (pids-are n first second up low gs all.roomy w t apart) su) m);
        },
      )

  -- ---- below a parent with room

  module _ (parent node : OptGuard) (up low right : ExclusiveGuard) (gs : List ExclusiveGuard) (v w : View S)
      (all : IsPrepared L 1 parent node up low gs v w) (one : gs ≡ right ∷ [])
      (u : View S) (key : ℕ) (over page : List ℕ) (met : IsFullBelow L spare u key parent node over page v)
      (long : (length over ≡ L.words) × (length page ≡ L.words)) (whole : v.start.size ≡ L.words)
      (out : v.out ≡ None) where
    abbrev one-taken : AreTaken L 1 parent node up low gs all.roomy w
    one-taken = all.taken

    abbrev one-load : OnlySees v all.roomy
    one-load = sees-room 1 v all.roomy all.room

    one-whole : all.roomy.start.size ≡ L.words
    one-whole = ap (λ (o : Origin). o.size) (roomy-start v all.roomy one-load) ∙ whole

    are-to-split : has right.pid one-taken.pids ≡ true → w.start.tells ≡ true → AreToSplit L up.pid low.pid right.pid over page w
    are-to-split among after =
        let here : all.roomy.start.tells ≡ true =
        ap (λ (o : Origin). o.tells) (sym (start-then 1 parent node up low gs all.roomy w one-taken met.apart))
        ∙ after in
        let tells : v.start.tells ≡ true = ap (λ (o : Origin). o.tells) (sym (roomy-start v all.roomy one-load)) ∙ here in
        let reading = reading-loaded v all.roomy one-load parent.pid parent.word parent.frame met.parent_opened.reading in
        let read = read-loaded v all.roomy one-load parent.pid over met.parent_read in
        let node-reading = reading-loaded v all.roomy one-load node.pid node.word node.frame met.opened.reading in
        let node-read = read-loaded v all.roomy one-load node.pid page met.read in
        let begun : v.start ≡ u.start = (opened-reads parent.pid parent.word parent.frame u v met.parent_opened).0.start in
        let inner = first-inner 1 parent node up low gs all.roomy w one-taken met.apart here one-whole over met.level
        key reading read long.0
        (awaits-loaded v all.roomy one-load parent.pid parent.word (suc met.level) key met.awaits) in
        record {
          above = first-words 1 parent node up low gs all.roomy w one-taken met.apart here one-whole over reading read long.0;
          node = second-words 1 parent node up low gs all.roomy w one-taken met.apart here one-whole page node-reading node-read long.1;
          kind = (second-reached 1 parent node up low gs all.roomy w one-taken met.apart here one-whole page
              node-reading node-read long.1 met.level key
              (awaits-loaded v all.roomy one-load node.pid node.word met.level key met.below)).kind;
          fresh = fresh-zero 1 parent node up low gs all.roomy w one-taken met.apart here one-whole right.pid among;
          inner = inner.0;
          names = (
            key,
            inner.1,
            met.names (ap (λ (o : Origin). o.tells) (sym begun) ∙ tells)
                ∙ ap (λ n. Some n) (sym one-taken.locks.low_page),
          );
        }

    pub can-split : CanSplit L spare up low right over page w
    can-split =
        let pids : right.pid ∷ [] ≡ one-taken.pids = ap pids_of (sym one) ∙ one-taken.fresh.guards in
        let among : has right.pid one-taken.pids ≡ true = ap (has right.pid) (sym pids)
        ∙ or_left (eqb right.pid right.pid) false (eq-eqb right.pid right.pid refl) in
        record {
          home = home-is 1 parent node up low gs all.roomy w one-taken met.apart ∙ roomy-out v all.roomy one-load out;
          held = subst (λ (l : List ExclusiveGuard). GuardsHeld w (up ∷ low ∷ l)) one
              (held-all 1 parent node up low gs all.roomy w one-taken met.apart);
          apart = subst (λ (l : List ExclusiveGuard). AreApart (up.pid ∷ low.pid ∷ pids_of l)) one
              (group-apart 1 parent node up low gs all.roomy w one-taken met.apart);
          usable = λ tells. usable-all 1 parent node up low gs all.roomy w one-taken met.apart tells right.pid among;
          room = met.room;
          full = met.full;
          told = are-to-split among;
        }

    pub below-ended : (d : List Did) (y z : View S) → IsSplitUp plain L (up.pid ∷ low.pid ∷ right.pid ∷ []) w y
        → MovesFrames d y z → KeepsLocksOnly v z × HasSplit plain L spare 1 parent node v z
    below-ended d y z su m =
        ended 1 parent node up low gs v w all met.apart d y z
        (subst (λ (l : List ExclusiveGuard). IsSplitUp plain L (up.pid ∷ low.pid ∷ pids_of l) w y) (sym one) su) m

  -- ---- below page 0

  module _ (meta root : OptGuard) (up low right top : ExclusiveGuard) (gs : List ExclusiveGuard) (v w : View S)
      (all : IsPrepared L 2 meta root up low gs v w) (two : gs ≡ right ∷ top ∷ [])
      (u : View S) (key height : ℕ) (page : List ℕ) (met : IsRootFull L spare u key meta root height page v)
      (long : length page ≡ L.words) (whole : v.start.size ≡ L.words) (out : v.out ≡ None) where
    abbrev two-taken : AreTaken L 2 meta root up low gs all.roomy w
    two-taken = all.taken

    abbrev two-load : OnlySees v all.roomy
    two-load = sees-room 2 v all.roomy all.room

    two-whole : all.roomy.start.size ≡ L.words
    two-whole = ap (λ (o : Origin). o.size) (roomy-start v all.roomy two-load) ∙ whole

    pub roots-apart : root.pid ≢ meta.pid
    roots-apart e = met.named.apart (e ∙ met.named.zero)

    abbrev meta_words : List ℕ
    meta_words = (last_of two-taken.locks.between meta.pid).words

    tells-asked : all.roomy.start.tells ≡ true → two-taken.asked.start.tells ≡ true
    tells-asked here = ap (λ (o : Origin). o.tells) two-taken.moves.start ∙ here

    meta-loads : all.roomy.start.tells ≡ true → LoadsAre meta_words ((1, root.pid) ∷ (2, height) ∷ [])
    meta-loads here =
        let r = reading-moved two-taken.done all.roomy two-taken.asked two-taken.moves meta.pid meta.word meta.frame
        (reading-loaded v all.roomy two-load meta.pid meta.word meta.frame met.named.opened.reading) in
        let loads : loads_at two-taken.asked meta.pid ≡ met.named.loads.0 ++ (1, root.pid) ∷ (2, height) ∷ [] =
        ap (λ l. put_at [] l meta.pid) two-taken.moves.pages.1 ∙ two-load.nil.amid.loads meta.pid refl
        ∙ met.named.loads.1 in
        loads-behind meta_words met.named.loads.0 ((1, root.pid) ∷ (2, height) ∷ [])
        (subst (LoadsAre meta_words) loads
        ((two-taken.locks.up_locked.validates (tells-asked here)).valid _ r.reading
        (sym two-taken.locks.up_version)))

    meta-draft : HasDraft up.pid meta_words meta_words w
    meta-draft = first-stays 2 meta root up low gs all.roomy w two-taken roots-apart meta_words (record {
      last = refl;
      draft = two-taken.locks.up_locked.draft;
    })

    root-to-split : has right.pid two-taken.pids ≡ true → has top.pid two-taken.pids ≡ true → w.start.tells ≡ true
        → IsRootToSplit L up.pid low.pid right.pid top.pid height page w
    root-to-split first second after =
        let here : all.roomy.start.tells ≡ true =
        ap (λ (o : Origin). o.tells) (sym (start-then 2 meta root up low gs all.roomy w two-taken roots-apart))
        ∙ after in
        let root-reading = reading-loaded v all.roomy two-load root.pid root.word root.frame met.opened.reading in
        let root-read = read-loaded v all.roomy two-load root.pid page met.read in
        let magic = ((two-taken.locks.up_locked.validates (tells-asked here)).itself.sound.meta met.named.zero).magic in
        record {
          names = (
            ap (λ (l : List ℕ). slice_index l 1) meta-draft.last ∙ (meta-loads here).0
                ∙ sym two-taken.locks.low_page,
            ap (λ (l : List ℕ). slice_index l 2) meta-draft.last
                ∙ (meta-loads here).1.0,
          );
          claimed = ap all_zero meta-draft.last ∙ meta-not meta_words L.magic magic laws.some_magic;
          node = second-words 2 meta root up low gs all.roomy w two-taken roots-apart here two-whole page root-reading root-read long;
          kind = (second-reached 2 meta root up low gs all.roomy w two-taken roots-apart here two-whole page
              root-reading root-read long height key
              (awaits-loaded v all.roomy two-load root.pid root.word height key met.awaits)).kind;
          fresh = (
            fresh-zero 2 meta root up low gs all.roomy w two-taken roots-apart here two-whole right.pid first,
            fresh-zero 2 meta root up low gs all.roomy w two-taken roots-apart here two-whole top.pid second,
          );
        }

    pub can-split-root : CanSplitRoot L spare up low right top height page w
    can-split-root =
        let pids : right.pid ∷ top.pid ∷ [] ≡ two-taken.pids = ap pids_of (sym two) ∙ two-taken.fresh.guards in
        let first : has right.pid two-taken.pids ≡ true = ap (has right.pid) (sym pids)
        ∙ or_left (eqb right.pid right.pid) (has right.pid (top.pid ∷ [])) (eq-eqb right.pid right.pid refl) in
        let second : has top.pid two-taken.pids ≡ true =
        ap (has top.pid) (sym pids) ∙ or_right (eqb top.pid right.pid) (has top.pid (top.pid ∷ []))
        (or_left (eqb top.pid top.pid) false (eq-eqb top.pid top.pid refl)) in
        record {
          home = home-is 2 meta root up low gs all.roomy w two-taken roots-apart ∙ roomy-out v all.roomy two-load out;
          held = subst (λ (l : List ExclusiveGuard). GuardsHeld w (up ∷ low ∷ l)) two
              (held-all 2 meta root up low gs all.roomy w two-taken roots-apart);
          apart = subst (λ (l : List ExclusiveGuard). AreApart (up.pid ∷ low.pid ∷ pids_of l)) two
              (group-apart 2 meta root up low gs all.roomy w two-taken roots-apart);
          zero = two-taken.locks.up_page ∙ met.named.zero;
          same = meta-draft.draft ∙ sym meta-draft.last;
          usable = λ tells. (
            usable-all 2 meta root up low gs all.roomy w two-taken roots-apart tells right.pid first,
            usable-all 2 meta root up low gs all.roomy w two-taken roots-apart tells top.pid second,
          );
          full = met.full;
          told = root-to-split first second;
        }

    pub root-ended : (d : List Did) (y z : View S) → IsSplitUp plain L (up.pid ∷ low.pid ∷ right.pid ∷ top.pid ∷ []) w
        y → MovesFrames d y z → KeepsLocksOnly v z × HasSplit plain L spare 2 meta root v z
    root-ended d y z su m =
        ended 2 meta root up low gs v w all roots-apart d y z
        (subst (λ (l : List ExclusiveGuard). IsSplitUp plain L (up.pid ∷ low.pid ∷ pids_of l) w y) (sym two) su) m
