-- The step down from page 0: the words that were loaded are those that the validation proves, and so they name the root.
use Rattle.std.proofs.Common.{[], ⊎_elim, ◌++◌, ◌+◌, ◌<◌, ◌∙◌, ◌∷◌, ◌≡◌, ◌≤◌, ap, append_assoc, arith, inl, length, List, refl}
use Rattle.std.proofs.Common.{slice_index, Some, subst, suc, sym, true, ℕ}
use Rattle.vm_tree_model.specs.{Edits.child_of, Layout.Layout, Page.IsInner}
use Rattle.vm_event.specs.Prelude.{LoadsAre, version_of}
use Rattle.vm_rule.specs.Prelude.{began_of, Each, last_of, loads_at}
use Rattle.vm_step.specs.Prelude.{Origin, Tie, View}
use Rattle.vm_kind.specs.from_vm_guard.{Guards.BeginsReading, Guards.Loads, PageWords.LoadsWords}
use Rattle.vm_kind.proofs.from_vm_guard.Starting.{each-at}
use Rattle.vm_tree_laws.specs.{Descent.IsReached, Descent.IsReachedAs, Tied.IsNodeAs, Tied.IsTied, Tied.Tied}
use Rattle.vm_tree_laws.proofs.Descents.{kind_by_level, reached_as, reached_child}
use Rattle.vm_tree_rule.specs.{Few.HasHeight, Leaves.OnlyReads, Turns.LoadsName}
use Rattle.vm_tree_rule.specs.declared.descent.Stand.{Stand}
use Rattle.vm_tree_rule.specs.Standing.{Awaits, AwaitsNode, fence_of, HasSteppedDown, IsNameIn, IsOpened, IsStand}
use Rattle.vm_tree_rule.specs.Standing.{MeetsTies, NamesForKey, NamesNode, Sees, tree_pages}
use Rattle.vm_tree_rule.proofs.Counting.{meta-height}
use Rattle.vm_tree_rule.proofs.Readings.{each-behind, leaves-then, loads-behind, loads-leave, loads-reads, reads-self, reads-then}

-- a page that names itself can't be: its level would be another
pub itself-not : {L : Layout} (pages p : ℕ) (words : List ℕ) (level key : ℕ) → IsReached L pages p words (suc level)
    key → IsInner L words → IsTied L pages p words p words → child_of L words key ≡ Some p → ⊥
itself-not {L} pages p words level key reached inner itself names =
    let below = reached_child L pages p words (suc level) key reached p words inner names itself level
    (omega arith) in omega (arith, below.level_is, reached.level_is)

pub inner-here : {L : Layout} (pages p : ℕ) (words : List ℕ) (level key : ℕ) → IsReached L pages p words (suc level) key → IsInner L words
inner-here {L} pages p words level key reached = ⊎_elim (λ leaf. absurd (omega (arith, leaf.0))) (λ inner. inner.1)
    (kind_by_level L pages p words (suc level) key reached)

-- the words loaded first
loads-front : (words : List ℕ) (l m : List (ℕ × ℕ)) → LoadsAre words (l ++ m) → LoadsAre words l
loads-front words [] m h = tt
loads-front words (x ∷ l) m h = (h.0, loads-front words l m h.1)

module _ {X : Type 0} where
  module _ (p word frame root level key : ℕ) (v a b y : View X) (zero : p ≡ 0)
      (begins : BeginsReading 0 word frame v a) (first : Loads p word frame ((1, root) ∷ []) a b)
      (second : Loads p word frame ((2, level) ∷ []) b y) where
    pub meta-loads : (before : List (ℕ × ℕ)) × (loads_at y p ≡ before ++ (1, root) ∷ (2, level) ∷ [])
    meta-loads = (
      loads_at a p,
      second.loads ∙ ap (λ (l : List (ℕ × ℕ)). l ++ (2, level) ∷ []) first.loads
          ∙ append_assoc (loads_at a p) ((1, root) ∷ []) ((2, level) ∷ []),
    )

    pub root-opened : IsOpened v p word frame y
    root-opened = record {
      before = v;
      after = a;
      earlier = reads-self v;
      begins = subst (λ n. BeginsReading n word frame v a) (sym zero) begins;
      since = reads-then a b y (loads-reads p word frame ((1, root) ∷ []) a b first)
          (loads-reads p word frame ((2, level) ∷ []) b y second);
      same = leaves-then p a b y (loads-leave p p word frame ((1, root) ∷ []) a b first)
          (loads-leave p p word frame ((2, level) ∷ []) b y second);
      reading = second.reads;
    }

    -- and page 0 tells the height
    pub tells-height : (w : View X) → LoadsWords [] v a → LoadsWords (root ∷ []) a b → LoadsWords (level ∷ []) b y
        → LoadsWords [] y w → HasHeight level v w
    tells-height w = meta-height p word frame root level v a b y w zero root-opened meta-loads

module _ {X : Type 0} (L : Layout) where
  -- words that meet the ties of a page met those that there were before
  ties-back : (p word : ℕ) (v w : View X) → OnlyReads v w → (words : List ℕ) → MeetsTies L w p word words → MeetsTies L v p word words
  ties-back p word v w reads words all =
      subst (λ (s : Origin). Each (λ (t : Tie). t.page ≡ p → t.version ≡ version_of word
      → Tied L (began_of s) t.of t.words p words) v.ties) reads.start
      (each-behind (λ (t : Tie). t.page ≡ p → t.version ≡ version_of word → Tied L (began_of w.start) t.of t.words p
      words) reads.ties.0 v.ties
      (subst (λ (l : List Tie).
      Each (λ (t : Tie). t.page ≡ p → t.version ≡ version_of word → Tied L (began_of w.start) t.of t.words p
      words) l) reads.ties.1 all))

module _ {X : Type 0} {L : Layout} where
  pub awaits-later : (p word level key : ℕ) (v w : View X) → OnlyReads v w → Awaits L v p word level key → Awaits L w p word level key
  awaits-later p word level key v w reads awaits tells words all =
      subst (λ (s : Origin). IsReached L (length s.contents) p words level key) (sym reads.start)
      (awaits (ap (λ (s : Origin). s.tells) (sym reads.start) ∙ tells) words
      (ties-back L p word v w reads words all))

  -- a page that a validated page names, validated at the version that was seen before
  pub awaits-named : (p word frame named level low high q word' frame' : ℕ) (y w : View X)
      → NamesNode L y p word named level low high → q ≡ named → HasSteppedDown L p word frame q word' frame' y w
      → w.start.size ≡ L.words → AwaitsNode L w q word' level low high
  awaits-named p word frame named level low high q word' frame' y w names same s whole told words all =
      let tells : y.start.tells ≡ true = ap (λ (o : Origin). o.tells) (sym s.reads.0.start) ∙ told in
      let above : List ℕ = (last_of w p).words in
      let name : IsNameIn L (tree_pages y) p above named level low high = names tells above (s.valid.size ∙ whole) (s.sees tells) in
      let tie : Tied L (began_of w.start) p above q words =
      each-at (λ (t : Tie). t.page ≡ q → t.version ≡ version_of word' → Tied L (began_of w.start) t.of t.words q words) s.tied.0 _ s.tied.1
      (subst (λ (l : List Tie).
      Each (λ (t : Tie). t.page ≡ q → t.version ≡ version_of word' → Tied L (began_of w.start) t.of t.words q
      words) l) s.tied.2 all) refl refl in
      record {
        from_one = subst (λ n. 1 ≤ n) (sym same) name.from_one;
        in_range = subst (λ (o : Origin). q < length o.contents) (sym s.reads.0.start)
            (subst (λ n. n < tree_pages y) (sym same) name.in_range);
        node = name.node words (subst (λ n. IsTied L (tree_pages y) p above n words) same
            (subst (λ (o : Origin). IsTied L (length o.contents) p above q words) s.reads.0.start tie));
      }

  -- where a descent for the key stands, a node that covers the key is awaited
  pub stand-awaits : {T : Type 0} (rank : T → ℕ) (key : ℕ) (s : Stand T) (v : View X) → IsStand L rank key s v
      → Awaits L v s.guard.pid s.guard.word s.level key
  stand-awaits rank key s v k tells words all = reached_as L (tree_pages v) s.guard.pid words s.level (rank s.low)
      (fence_of L rank s.high) key (k.awaits tells words all) k.from k.below

  pub node-later : (p word level low high : ℕ) (v w : View X) → OnlyReads v w → AwaitsNode L v p word level low high
      → AwaitsNode L w p word level low high
  node-later p word level low high v w reads awaits tells words all =
      subst (λ (s : Origin). IsReachedAs L (length s.contents) p words level low high) (sym reads.start)
      (awaits (ap (λ (s : Origin). s.tells) (sym reads.start) ∙ tells) words
      (ties-back L p word v w reads words all))

  pub stand-later : {T : Type 0} (rank : T → ℕ) (key : ℕ) (s : Stand T) (v w : View X) → OnlyReads v w
      → IsStand L rank key s v → IsStand L rank key s w
  stand-later rank key s v w reads k = record {
    awaits = node-later s.guard.pid s.guard.word s.level (rank s.low) (fence_of L rank s.high) v w reads k.awaits;
    from = k.from;
    below = k.below;
  }

  module _ (p word frame root level key : ℕ) (v a b y : View X) (zero : p ≡ 0)
      (begins : BeginsReading 0 word frame v a) (first : Loads p word frame ((1, root) ∷ []) a b)
      (second : Loads p word frame ((2, level) ∷ []) b y) where
    pub meta-words : (words : List ℕ) → Sees L y p word words → (slice_index words 1 ≡ root) × (slice_index words 2 ≡ level)
    meta-words words sees =
        let all : LoadsAre words (loads_at b p ++ (2, level) ∷ []) =
        subst (LoadsAre words) second.loads (sees.valid _ second.reads.reading refl) in
        let some' : LoadsAre words (loads_at b p) = loads-front words (loads_at b p) ((2, level) ∷ []) all in (
          (loads-behind words (loads_at a p) ((1, root) ∷ []) (subst (LoadsAre words) first.loads some')).0,
          (loads-behind words (loads_at b p) ((2, level) ∷ []) all).0,
        )

    pub root-loaded : LoadsName L y p key root
    root-loaded = let m = meta-loads p word frame root level key v a b y zero begins first second in inl (zero, (m.0, level, m.1))

    -- a table has more pages than its tree has levels
    pub root-height : (words : List ℕ) → Sees L y p word words → level + 2 ≤ tree_pages y
    root-height words sees = subst (λ n. n + 2 ≤ tree_pages y) (meta-words words sees).1 (sees.itself.sound.height zero)

    pub names-root : NamesNode L y p word root level 0 L.key_end
    names-root tells words size sees =
        let m = sees.itself.sound.meta zero in
        let is = (meta-words words sees).0 in
        record {
          from_one = subst (λ n. 1 ≤ n) is m.root_low;
          in_range = subst (λ n. n < tree_pages y) is m.root_high;
          apart = λ e. let low = m.root_low in omega (arith, is, e, low, zero);
          node = λ child tied. subst (λ n. IsNodeAs L child n 0 L.key_end) (meta-words words sees).1 (tied.root zero is);
        }

    pub root-named : y.start.tells ≡ true → (words : List ℕ) → length words ≡ L.words → Sees L y p word words
        → NamesForKey L p words key root
    root-named tells words size sees = inl (zero, (meta-words words sees).0)
