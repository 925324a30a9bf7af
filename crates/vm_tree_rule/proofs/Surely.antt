-- A pass that is alone and knows the pages below the next one to be resident: its reads leave it so, and none of them is denied.
use Rattle.std.proofs.Common.{⊎_elim, ◌<◌, ◌==◌, ◌∙◌, ◌≡◌, ◌≢◌, ◌≤◌, ◌⊎◌, ap, arith, Bool, Err, false, IfErr, IfOk}
use Rattle.std.proofs.Common.{if◌then◌else◌, inl, length, List, None, Ok, replicate, Result, slice_index, subst, suc}
use Rattle.std.proofs.Common.{sym, true, zero, ℕ}
use Rattle.std.proofs.lemmas.Bool.{cases_eq, cases_lt, Decides.nat_tests, ne_eqb}
use Rattle.std.proofs.lemmas.List.{get_or-set_other}
use Rattle.vm_map.specs.declared.call.Said.{Said}
use Rattle.vm_tree_model.specs.{Layout.IsLayout, Layout.Layout, Page.IsInner, Page.IsLeaf}
use Rattle.vm_event.specs.Prelude.{is_readable, LOCKED, MARKED, page_at, state_of, UNLOCKED, version_of, word_of}
use Rattle.vm_rule.specs.Prelude.{began_of, bundle_count, index_of, last_of}
use Rattle.vm_rule.specs.declared.view.WordPlace.TheVariants as places
use Rattle.vm_rule.proofs.WordFacts.{version-within, word-state}
use Rattle.vm_step.specs.Prelude.{IsAlone, IsKeptNow, KnowsSame, LocksNone, NoneExpected, NoWord, Origin, ReadsAsBefore, View}
use Rattle.vm_step.proofs.{Alone.same-word, Alone.still-alone, Asides.whole-then}
use Rattle.vm_kind.specs.from_vm_guard.{declared_deny_Deny.Deny, declared_opt_OptGuard.OptGuard, Denied.AgainOrNeed, Denied.IsDenied}
use Rattle.vm_kind.specs.from_vm_guard.Guards.{BeginsReading, IsReading, IsValid, Loads}
use Rattle.vm_kind.specs.from_vm_guard.Sure.{IsKnownAt, IsUnlockedWord, known_next, known_word, unmarked_word}
use Rattle.vm_kind.proofs.from_vm_guard.Reading.{reading-kept}
use Rattle.vm_tree_laws.specs.{Plain.KeepsPlain, Tied.IsTied, Tied.Tied}
use Rattle.vm_tree_laws.proofs.Plainly.{plain_ties}
use Rattle.vm_tree_rule.specs.Leaves.{LeavesWord, OnlyReads, ReadsOn}
use Rattle.vm_tree_rule.specs.Resident.{IsReadableWord, IsReadNow, KnowsLocks, KnowsReadable}
use Rattle.vm_tree_rule.specs.Standing.{IsNameIn, NamesNode, tree_pages}
use Rattle.vm_tree_rule.proofs.Entering.{pages-are, sees-back}
use Rattle.vm_tree_rule.proofs.Readings.{begins-leave, begins-reads, denied-leave, denied-reads, loads-reads, valid-reads}
use Rattle.vm_tree_rule.proofs.Whole.{zero-at}

-- ---- words

not-marked : (word : ℕ) → state_of word ≢ MARKED → unmarked_word word ≡ word
not-marked word other = ap (λ (b : Bool). if b then word_of UNLOCKED (version_of word) else word) (ne_eqb _ _ other)

-- a readable page's word is so without its mark
pub unmarked-readable : (n word : ℕ) → IsReadableWord n word → IsReadableWord n (unmarked_word word)
unmarked-readable zero word free = go (state_of word == MARKED)
  where
    go : (b : Bool) → IsUnlockedWord (if b then word_of UNLOCKED (version_of word) else word)
    go true = inl (word-state UNLOCKED (version_of word) (version-within word))
    go false = free
unmarked-readable (suc n) word shared =
    let other : state_of word ≢ MARKED = λ marked. let is : state_of word ≡ 254 = marked in
    let count : state_of word ≡ suc n = shared.0 in let few : suc n < 253 = shared.1 in
    omega (arith, is, count, few) in
    (ap state_of (not-marked word other) ∙ shared.0, shared.1)

pub readable-unlocked : (n word : ℕ) → IsReadableWord n word → state_of word ≢ LOCKED
readable-unlocked zero word free locked =
    let full : state_of word ≡ 253 = locked in
    ⊎_elim (λ (e : state_of word ≡ 0). omega (arith, e, full)) (λ (e : state_of word ≡ 254). omega (arith, e, full)) free
readable-unlocked (suc n) word shared locked = let full : state_of word ≡ 253 = locked in
    let count : state_of word ≡ suc n = shared.0 in let few : suc n < 253 = shared.1 in
    omega (arith, count, few, full)

below-readable : (state : ℕ) → state < 253 → is_readable state ≡ true
below-readable state below = grind (arith, nat_tests)

pub free-readable : (n word : ℕ) → IsReadableWord n word → is_readable (state_of word) ≡ true
free-readable zero word free = ⊎_elim (λ (e : state_of word ≡ UNLOCKED). ap is_readable e)
    (λ (e : state_of word ≡ MARKED). ap is_readable e) free
free-readable (suc n) word shared = below-readable (state_of word) (subst (λ (s : ℕ). s < 253) (sym shared.0) shared.1)

module _ {X : Type 0} where
  pub resident-same : {shares : ℕ → ℕ} (v w : View X) → OnlyReads v w → KnowsSame v w → KnowsReadable shares v → KnowsReadable shares w
  resident-same {shares} v w reads table k =
      let words = table k.alone in
      record {
        alone = still-alone v w reads.parts reads.alone.current k.alone;
        each = λ q l m.
            subst (IsReadableWord (shares q)) (sym (same-word v w reads.start words (places.State q)))
            (k.each q (subst (λ (end : ℕ). q < end) (same-word v w reads.start words places.Next) l)
            (subst (λ (o : Origin). q < o.pages) reads.start m));
      }

  -- the next word is known on
  pub same-next : (v w : View X) → OnlyReads v w → KnowsSame v w → IsAlone v → known_next w ≡ known_next v
  same-next v w reads table a = same-word v w reads.start (table a) places.Next

  pub known-same : {shares : ℕ → ℕ} (p word : ℕ) (v w : View X) → OnlyReads v w → KnowsSame v w
      → IsReadNow shares p word v → IsReadNow shares p word w
  known-same p word v w reads table k = record {
    resident = resident-same v w reads table k.resident;
    known = same-word v w reads.start (table k.resident.alone) (places.State p) ∙ k.known;
    free = k.free;
    below = subst (λ (end : ℕ). p < end) (sym (same-next v w reads table k.resident.alone)) k.below;
  }

  -- a pass that knew the locks knows them on
  pub locks-same : (v w : View X) → OnlyReads v w → KnowsSame v w → KnowsLocks v → KnowsLocks w
  locks-same v w reads table k = record {
    current = reads.alone.current k.current;
    unheld = λ a q inside exclusive shares.
        let alone : IsAlone v = (whole-then w v (sym reads.parts.0, sym reads.parts.1) a.0, k.current) in
        subst LocksNone (sym (same-word v w reads.start (table alone) (places.State q)))
        (k.unheld alone q (subst (λ (o : Origin). q < o.pages) reads.start inside)
        (sym (reads.holds q).exclusive ∙ exclusive) (sym (reads.holds q).shares ∙ shares));
  }

  pub known-at : {shares : ℕ → ℕ} (p word : ℕ) (v : View X) → IsReadNow shares p word v → IsKnownAt p word v
  known-at {shares} p word v k = (ap version_of k.known, λ l. readable-unlocked (shares p) word k.free (ap state_of (sym k.known) ∙ l))

  module _ (p word frame : ℕ) (v w : View X) (b : BeginsReading p word frame v w) (a : IsAlone v) where
    begun-word : (q : ℕ) → q ≢ p → known_word q w ≡ known_word q v
    begun-word q ne = ap (λ (l : List ℕ). slice_index l q) (b.table a) ∙ get_or-set_other v.snapshot.words p q word 0 ne

    pub begun-next : known_next w ≡ known_next v
    begun-next =
        let start : w.start ≡ v.start = b.quiet.steady.start in
        let inside : p < v.start.pages = subst (λ (o : Origin). p < o.pages) start b.reads.page in
        ap (λ (o : Origin). slice_index w.snapshot.words (index_of o places.Next)) start
        ∙ ap (λ (l : List ℕ). slice_index l (index_of v.start places.Next)) (b.table a)
        ∙ get_or-set_other v.snapshot.words p (index_of v.start places.Next) word 0
        (λ e. let more = bundle_count v.start in omega (arith, inside, e))

  -- a page that the pass begins to read is read, and readable on
  pub resident-begun : {shares : ℕ → ℕ} (p word frame : ℕ) (v w : View X) → BeginsReading p word frame v w
      → KnowsReadable shares v → KnowsReadable shares w
  resident-begun {shares} p word frame v w b k =
      let reads : OnlyReads v w = (begins-reads p word frame v w b).0 in
      let known = b.known k.alone in
      record {
        alone = still-alone v w reads.parts reads.alone.current k.alone;
        each = λ q l m.
            let below : q < known_next v = subst (λ (end : ℕ). q < end) (begun-next p word frame v w b k.alone) l in
            let inside : q < v.start.pages = subst (λ (o : Origin). q < o.pages) reads.start m in
            ⊎_elim
            (λ (e : q ≡ p). subst (IsReadableWord (shares q))
            (sym (ap (λ (x : ℕ). known_word x w) e ∙ known.0 ∙ known.1
            ∙ ap (λ (x : ℕ). unmarked_word (known_word x v)) (sym e)))
            (unmarked-readable (shares q) (known_word q v) (k.each q below inside)))
            (λ ne. subst (IsReadableWord (shares q)) (sym (begun-word p word frame v w b k.alone q ne)) (k.each q below inside))
            (cases_eq q p);
      }

  pub known-begun : {shares : ℕ → ℕ} (p word frame : ℕ) (v w : View X) → BeginsReading p word frame v w
      → p < known_next v → KnowsReadable shares v → IsReadNow shares p word w
  known-begun {shares} p word frame v w b below k =
      let known = b.known k.alone in
      let inside : p < v.start.pages = subst (λ (o : Origin). p < o.pages) b.quiet.steady.start b.reads.page in
      record {
        resident = resident-begun p word frame v w b k;
        known = known.0;
        free = subst (IsReadableWord (shares p)) (sym known.1) (unmarked-readable (shares p) (known_word p v) (k.each p below inside));
        below = subst (λ (end : ℕ). p < end) (sym (begun-next p word frame v w b k.alone)) below;
      }

  pub known-beside : {shares : ℕ → ℕ} (q x p word frame : ℕ) (v w : View X) → q ≢ p → BeginsReading p word frame v w
      → IsReadNow shares q x v → IsReadNow shares q x w
  known-beside q x p word frame v w ne b k = record {
    resident = resident-begun p word frame v w b k.resident;
    known = begun-word p word frame v w b k.resident.alone q ne ∙ k.known;
    free = k.free;
    below = subst (λ (end : ℕ). q < end) (sym (begun-next p word frame v w b k.resident.alone)) k.below;
  }

-- page q was looked at, with whatever answer: page p, another one, is as it was
pub record HasLooked {X : Type 0} (p : ℕ) (v x : View X) : Type 0 where
  pub reads : ReadsOn v x
  pub leaves : LeavesWord p v x
  pub same : ReadsAsBefore v x p
  pub next : IsAlone v → known_next x ≡ known_next v

pub looked : {X : Type 0} (q p : ℕ) (r : Result OptGuard Deny) (v x : View X) → q ≢ p
    → IfOk r (λ g. (g.pid ≡ q) × BeginsReading q g.word g.frame v x)
    → IfErr r (λ d. IsDenied AgainOrNeed NoWord NoneExpected q d v x) → HasLooked p v x
looked q p (Ok g) v x ne ok err =
    record {
      reads = begins-reads q g.word g.frame v x ok.1;
      leaves = begins-leave p q g.word g.frame v x (λ e. ne (sym e)) ok.1;
      same = ok.1.quiet.others p (λ e. ne (sym e));
      next = begun-next q g.word g.frame v x ok.1;
    }
looked q p (Err d) v x ne ok err =
    let reads : ReadsOn v x = denied-reads AgainOrNeed NoWord NoneExpected q d v x err in
    record {
      reads = reads;
      leaves = denied-leave AgainOrNeed NoWord NoneExpected p q d v x (λ e. ne (sym e)) err;
      same = err.quiet.others p (λ e. ne (sym e));
      next = same-next v x reads.0 err.table;
    }

-- its read stays open
pub looked-reading : {X : Type 0} (p word frame : ℕ) (v x : View X) → HasLooked p v x → IsReading p word frame v → IsReading p word frame x
looked-reading p word frame v x l r = reading-kept p word frame v x r l.reads.0.start (l.reads.0.holds p)
    (λ k. (l.reads.0.knows p k).held) l.same.reading

-- and what is known of it too
pub looked-known : {X : Type 0} {shares : ℕ → ℕ} (q p word : ℕ) (r : Result OptGuard Deny) (v x : View X) → q ≢ p
    → IfOk r (λ g. (g.pid ≡ q) × BeginsReading q g.word g.frame v x)
    → IfErr r (λ d. IsDenied AgainOrNeed NoWord NoneExpected q d v x) → IsReadNow shares p word v
    → IsReadNow shares p word x
looked-known q p word (Ok g) v x ne ok err k = known-beside p word q g.word g.frame v x (λ e. ne (sym e)) ok.1 k
looked-known q p word (Err d) v x ne ok err k =
    known-same p word v x (denied-reads AgainOrNeed NoWord NoneExpected q d v x err).0 err.table k

-- a page that is below the next one is readable, as the pass knows it
pub free-below : {S : Type 0} {shares : ℕ → ℕ} (p : ℕ) (v : View S) → KnowsReadable shares v → p < known_next v
    → p < v.start.pages → is_readable (state_of (known_word p v)) ≡ true
free-below {S} {shares} p v k below inside = free-readable (shares p) (known_word p v) (k.each p below inside)

module _ {S : Type 0} (plain : S → Said) (L : Layout) (laws : IsLayout L) where
  -- a page of zeros is no node
  no-node : (n : ℕ) (words : List ℕ) → words ≡ replicate n 0 → IsLeaf L words ⊎ IsInner L words → ⊥
  no-node n words zeros kind =
      let tag : (L.node_of words).tag ≡ 0 = laws.free_tag words (λ i. ap (λ (l : List ℕ). slice_index l i) zeros ∙ zero-at n i) in
      ⊎_elim (λ (leaf : IsLeaf L words). let two : (L.node_of words).tag ≡ 2 = leaf.node.tag in
      omega (arith, tag, two)) (λ (inner : IsInner L words). let three : (L.node_of words).tag ≡ 3 =
      inner.node.tag in omega (arith, tag, three)) kind

  -- page r, which was validated, names a page that was claimed
  pub named-claimed : (r named level low high : ℕ) (w : View S) (k : IsKeptNow (KeepsPlain plain L) r (Unit {0}) w)
      → r < w.start.pages → IsNameIn L (tree_pages w) r (last_of w r).words named level low high → named < k.kept.next
  named-claimed r named level low high w k inside name =
      ⊎_elim
      (λ (l : named < k.kept.next). l)
      (λ (le : k.kept.next ≤ named).
      let below : named < w.start.pages = subst (λ (n : ℕ). named < n) (pages-are plain L r (Unit {0}) w k) name.in_range in
      let tied : IsTied L (tree_pages w) r (page_at k.kept.pages r) named (page_at k.kept.pages named) =
      plain_ties plain L laws (began_of w.start) k.kept r named k.holds
      (subst (λ (n : ℕ). r < n) (sym k.pages) inside) in
      absurd (no-node _ (page_at k.kept.pages named) (k.zero named le below)
      (name.node (page_at k.kept.pages named)
      (subst (λ (l : List ℕ). IsTied L (tree_pages w) r l named (page_at k.kept.pages named)) (k.page tt)
      tied)).kind))
      (cases_lt named k.kept.next)

  -- so was page 0
  pub first-claimed : (free : Type 0) (w : View S) (k : IsKeptNow (KeepsPlain plain L) 0 free w) → 0 < w.start.pages → 0 < k.kept.next
  first-claimed free w k some =
      ⊎_elim
      (λ (l : 0 < k.kept.next). l)
      (λ (le : k.kept.next ≤ 0).
      let none : slice_index (page_at k.kept.pages 0) 0 ≡ 0 = ap (λ (l : List ℕ). slice_index l 0) (k.zero 0 le some)
      ∙ zero-at w.start.size 0 in
      let magic : slice_index (page_at k.kept.pages 0) 0 ≡ L.magic = k.holds.tree.meta.magic in
      let some-magic : 1 ≤ L.magic = laws.some_magic in
      absurd (omega (arith, none, magic, some-magic)))
      (cases_lt 0 k.kept.next)

  -- the page that a validated page names is below the next one, as the pass knew that before it looked at the page
  pub named-below : (r word frame named level low high : ℕ) (v x w : View S) → ReadsOn v x → ReadsAsBefore v x r
      → known_next x ≡ known_next v → IsValid (Tied L) r word frame None x w → w.start.size ≡ L.words
      → IsKeptNow (KeepsPlain plain L) r (Unit {0}) w → NamesNode L v r word named level low high
      → v.start.tells ≡ true → IsAlone v → named < known_next v
  named-below r word frame named level low high v x w reads same next k whole kept names tells a =
      let valid : ReadsOn x w = valid-reads (Tied L) r word frame x w k in
      let start : w.start ≡ v.start = valid.0.start ∙ reads.0.start in
      let there : IsAlone x = still-alone v x reads.0.parts reads.0.alone.current a in
      let here : IsAlone w = still-alone x w valid.0.parts valid.0.alone.current there in
      let name : IsNameIn L (tree_pages v) r (last_of w r).words named level low high =
      names tells (last_of w r).words (k.size ∙ whole) (sees-back r word frame v x w reads same k tells) in
      let claimed : named < kept.kept.next = named-claimed r named level low high w kept k.reads.page
      (subst (λ (o : Origin). IsNameIn L (length o.contents) r (last_of w r).words named level low high)
      (sym start) name) in
      subst (λ (n : ℕ). named < n) (sym (kept.next here) ∙ same-next x w valid.0 k.table there ∙ next) claimed

  -- page 0 is not denied
  pub first-readable : {shares : ℕ → ℕ} (free : Type 0) (deny : Deny) (v x : View S)
      → IsDenied AgainOrNeed NoWord NoneExpected 0 deny v x → IsKeptNow (KeepsPlain plain L) 0 free x
      → 0 < v.start.pages → KnowsReadable shares v → is_readable (state_of (known_word 0 v)) ≡ true
  first-readable free deny v x d kept some k =
      let reads : OnlyReads v x = (denied-reads AgainOrNeed NoWord NoneExpected 0 deny v x d).0 in
      let there : IsAlone x = still-alone v x reads.parts reads.alone.current k.alone in
      let claimed : 0 < kept.kept.next = first-claimed free x kept (subst (λ (o : Origin). 0 < o.pages) (sym reads.start) some) in
      free-below 0 v k (subst (λ (end : ℕ). 0 < end) (sym (kept.next there) ∙ same-next v x reads d.table k.alone) claimed) some

  -- page 0 is read, and two words of it
  pub first-known : {shares : ℕ → ℕ} (free : Type 0) (p word frame : ℕ) (one two : List (ℕ × ℕ)) (v a b y : View S)
      → p ≡ 0 → BeginsReading 0 word frame v a → IsKeptNow (KeepsPlain plain L) 0 free a → Loads p word frame one a b
      → Loads p word frame two b y → KnowsReadable shares v → IsReadNow shares p word y
  first-known {shares} free p word frame one two v a b y first_is begins kept first second k =
      let reads : OnlyReads v a = (begins-reads 0 word frame v a begins).0 in
      let there : IsAlone a = still-alone v a reads.parts reads.alone.current k.alone in
      let claimed : 0 < kept.kept.next = first-claimed free a kept begins.reads.page in
      let known : IsReadNow shares 0 word a =
      known-begun 0 word frame v a begins
      (subst (λ (end : ℕ). 0 < end) (sym (kept.next there) ∙ begun-next 0 word frame v a begins k.alone) claimed)
      k in
      known-same p word b y (loads-reads p word frame two b y second).0 second.table
      (known-same p word a b (loads-reads p word frame one a b first).0 first.table
      (subst (λ (x : ℕ). IsReadNow shares x word a) (sym first_is) known))
