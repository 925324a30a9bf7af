-- Pages that were locked, released as a merge, and whose numbers were given: the pass holds what it held, and has its entry.
use Rattle.std.proofs.Common.{[], ⊎_elim, arith, ◌&&◌, ◌++◌, ◌+◌, ◌<◌, ◌||◌, ◌≤◌, ◌∙◌, ◌∷◌, ◌≡◌, ap, append_assoc}
use Rattle.std.proofs.Common.{Bool, false, if◌then◌else◌, List, refl, slice_index, slice_set, subst, sym, true}
use Rattle.std.proofs.Common.{true≢false, ℕ}
use Rattle.std.proofs.lemmas.Bool.{cases_Bool, cases_eq, ne_eqb}
use Rattle.std.proofs.lemmas.List.{get_or-set_other}
use Rattle.vm_map.specs.declared.call.Said.{Said}
use Rattle.vm_tree_model.specs.{Layout.Layout, Tree.map_of}
use Rattle.vm_event.specs.Prelude.{version_of}
use Rattle.vm_page.specs.Pages.{all_zero}
use Rattle.vm_rule.specs.Prelude.{AreApart, began_of, bundle_count, draft_of, Each, Entry, entry_of, has, index_of}
use Rattle.vm_rule.specs.Prelude.{IsLocking, Seat, seat_of, StartsWith, without_all}
use Rattle.vm_rule.specs.declared.view.WordPlace.TheVariants as places
use Rattle.vm_rule.proofs.Facts.{has-both}
use Rattle.vm_tree_split.specs.from_vm_step.Prelude.{HoldsPage, IsAlone, KnowsAsBefore, Origin, View}
use Rattle.vm_tree_split.proofs.from_vm_step.{Alone.still-alone, Asides.holds-then, Asides.knows-then}
use Rattle.vm_tree_split.proofs.from_vm_step.{Asides.starts-then, Asides.still-locking}
use Rattle.vm_tree_split.specs.from_vm_guard.{declared_exclusive_ExclusiveGuard.ExclusiveGuard, declared_opt_OptGuard.OptGuard}
use Rattle.vm_tree_split.specs.from_vm_guard.{Groups.pids_of, Groups.released_words}
use Rattle.vm_tree_split.specs.from_vm_guard.Sure.{IsKnownFree, IsUnlockedWord, known_next, known_word, words_with}
use Rattle.vm_tree_split.proofs.from_vm_guard.Groups.{lacks}
use Rattle.vm_tree_laws.specs.{History.IsLegal, Plain.KeepsPlain, Plain.plain_history}
use Rattle.vm_tree_split.specs.from_vm_tree_rule.Resident.{KnowsResident}
use Rattle.vm_tree_split.specs.Prepares.{guard_pages}
use Rattle.vm_tree_split.proofs.from_vm_tree_draft.Framing.{entry-same}
use Rattle.vm_tree_split.proofs.Given.{without-each}
use Rattle.vm_tree_split.proofs.from_vm_tree_draft.Splitting.{among-first, among-later}
use Rattle.vm_tree_split.proofs.Under.{KeepsBut, was-on}
use Rattle.vm_tree_join.specs.{Locks.AreAllLocked, Locks.AreNumbersGiven, Made.HoldsAll, Made.IsMergeMade, Merging.IsMerged}
use Rattle.vm_tree_join.proofs.{Giving.Gives, Giving.gives-all, Locking.locks-all, Locking.LocksAll, Locking.locks-but}

-- a number that a group leaves was the pass's before
number-left : (among tells zero held : Bool) → (if among then (tells && zero) && held else held) ≡ true → held ≡ true
number-left true true true held e = e
number-left true true false held e = absurd (true≢false (sym e))
number-left true false zero held e = absurd (true≢false (sym e))
number-left false tells zero held e = e

module _ {S : Type 0} (plain : S → Said) (L : Layout) (gs : List OptGuard) (ls : List ExclusiveGuard) (freed : List ℕ)
    (says : S) (v x y w : View S) (apart : AreApart (guard_pages gs)) (locks : AreAllLocked L gs ls v x)
    (m : IsMerged plain L (guard_pages gs) freed says x y) (given : AreNumbersGiven freed y w) where
  all : LocksAll L gs v x
  all = locks-all L gs ls v x apart locks

  but : KeepsBut (guard_pages gs) v x
  but = locks-but L (guard_pages gs) gs ls v x (λ p e. e) locks

  gives : Gives freed y w
  gives = gives-all freed y w given

  -- the group's pages are these
  here : (q : ℕ) → has q (guard_pages gs) ≡ has q (pids_of (m.first ∷ m.rest))
  here q = ap (has q) (sym m.pids)

  start-held : m.held.start ≡ v.start
  start-held = m.stays.start ∙ but.start

  start-all : w.start ≡ v.start
  start-all = gives.start ∙ m.released.beside.steady.start ∙ start-held

  -- ---- the locks

  holds-else : (q : ℕ) → has q (guard_pages gs) ≡ false → HoldsPage v y q
  holds-else q e = holds-then v x y q (but.holds q e)
      (holds-then x m.held y q (m.stays.holds q) (m.released.beside.holds q (sym (here q) ∙ e)))

  holds-here : (q : ℕ) → has q (guard_pages gs) ≡ true → HoldsPage v y q
  holds-here q e =
      let was = was-on q v x m.held (all.was q e) (m.stays.holds q) in
      let k = m.released.seats q (sym (here q) ∙ e) in
      record {
        shares = ap (λ (s : Seat). s.shares) k ∙ was.shares;
        exclusive = ap (λ (s : Seat). s.exclusive) k ∙ sym was.free;
        writing = ap (λ (s : Seat). s.writing) k ∙ was.writing;
      }

  holds-y : (q : ℕ) → HoldsPage v y q
  holds-y q = ⊎_elim (holds-here q) (holds-else q) (cases_Bool (has q (guard_pages gs)))

  knows-y : (q : ℕ) → IsLocking (seat_of v q) → KnowsAsBefore v y q
  knows-y q l =
      let e = all.unlocked q l in
      let lx = still-locking v x q (but.holds q e) l in
      let lh = still-locking x m.held q (m.stays.holds q) lx in
      let out = sym (here q) ∙ e in
      knows-then v x y q (but.knows q e l) (knows-then x m.held y q (m.stays.knows q out lx) (m.released.beside.knows q out lh))

  -- ---- the numbers

  tells-x : v.start.tells ≡ true → x.start.tells ≡ true
  tells-x t = ap (λ (o : Origin). o.tells) but.start ∙ t

  numbers-y : v.start.tells ≡ true → (q : ℕ) → has q y.numbers ≡ true → has q v.numbers ≡ true
  numbers-y t q e =
      ap (has q) (sym (all.numbers t).0) ∙ ap (has q) (sym (m.stays.numbers (tells-x t)).0)
      ∙ number-left (has q (pids_of (m.first ∷ m.rest))) m.held.start.tells (all_zero (draft_of m.held q))
      (has q m.held.numbers) (sym (m.released.numbers q) ∙ e)

  freed-w : v.start.tells ≡ true → (q : ℕ) → has q w.freed ≡ true → has q v.freed ≡ true
  freed-w t q e =
      let k = gives.freed q e in
      let there : has q (freed ++ x.freed) ≡ true = ap (has q) (sym (m.to_give (tells-x t))) ∙ k.0 in
      ap (has q) (sym (all.numbers t).1) ∙ sym (has-both q freed x.freed ∙ ap (λ b. b || has q x.freed) k.1) ∙ there

  -- ---- all that it holds

  owed-y : y.owed ≡ v.owed
  owed-y =
      m.released.group.1 ∙ ap (λ l. without_all l m.held.owed) m.pids ∙ ap (without_all (guard_pages gs))
      (m.stays.group.1 ∙ all.group.1) ∙ without-each (guard_pages gs) v.owed all.unpaid

  pub merge-holds : HoldsAll v w
  merge-holds = record {
    start = start-all;
    parts = (
      gives.parts.0 ∙ m.released.beside.steady.parts.0 ∙ m.stays.parts.0 ∙ but.parts.0,
      gives.parts.1
          ∙ m.released.beside.steady.parts.1 ∙ m.stays.parts.1 ∙ but.parts.1,
    );
    seen = starts-then v.seen y.seen w.seen
        (starts-then v.seen m.held.seen y.seen (starts-then v.seen x.seen m.held.seen but.seen m.stays.seen)
        m.released.beside.steady.seen) gives.seen;
    releases = starts-then v.releases y.releases w.releases
        (starts-then v.releases m.held.releases y.releases
        (starts-then v.releases x.releases m.held.releases but.releases m.stays.releases)
        m.released.beside.steady.releases) gives.releases;
    log = starts-then v.log y.log w.log
        (starts-then v.log m.held.log y.log (starts-then v.log x.log m.held.log but.log (m.stays.done, m.stays.log))
        (_, m.released.beside.steady.log)) gives.log;
    notes = gives.notes ∙ m.released.beside.steady.notes ∙ m.stays.notes ∙ all.notes;
    out = gives.out ∙ m.released.beside.steady.out ∙ m.stays.out ∙ but.out;
    frames = gives.frames ∙ m.released.beside.steady.frames.0 ∙ m.stays.frames ∙ all.frames;
    group = (gives.group.0 ∙ m.released.group.0 ∙ m.stays.group.0 ∙ all.group.0, gives.group.1 ∙ owed-y);
    numbers = λ t q. ((λ e. numbers-y t q (gives.numbers q e)), freed-w t q);
    holds = λ q. holds-then v y w q (holds-y q) (gives.holds q);
    knows = λ q l. knows-then v y w q (knows-y q l) (gives.knows q (still-locking v y q (holds-y q) l));
    current = gives.current m.released.current;
  }

  -- ---- the entry

  used-held : m.held.used ≡ v.used
  used-held = m.stays.parts.0 ∙ but.parts.0

  mine-held : m.held.mine ≡ v.mine
  mine-held = m.stays.mine ∙ but.mine

  same-entry : entry_of m.held says ≡ entry_of v says
  same-entry = entry-same v m.held says used-held mine-held

  mine-w : w.mine ≡ v.mine ++ entry_of v says ∷ []
  mine-w = gives.mine ∙ m.released.mine ∙ (λ i. mine-held i ++ same-entry i ∷ [])

  -- what it had seen before the entry, and what others said meanwhile
  abbrev front : StartsWith m.held.seen v.seen
  front = starts-then v.seen x.seen m.held.seen but.seen m.stays.seen

  abbrev others : List (Entry S)
  others = front.0 ++ m.released.entry.0

  seen-y : y.seen ≡ (v.seen ++ others) ++ entry_of v says ∷ m.released.entry.1
  seen-y =
      m.released.entry.2
      ∙ (λ i. ((front.1 i ++ m.released.entry.0) ++ same-entry i ∷ []) ++ m.released.entry.1)
      ∙ ap (λ (l : List (Entry S)). (l ++ entry_of v says ∷ []) ++ m.released.entry.1) (append_assoc v.seen front.0 m.released.entry.0)
      ∙ append_assoc (v.seen ++ others) (entry_of v says ∷ []) m.released.entry.1

  seen-w : w.seen ≡ (v.seen ++ others) ++ entry_of v says ∷ (m.released.entry.1 ++ gives.seen.0)
  seen-w = gives.seen.1 ∙ ap (λ (l : List (Entry S)). l ++ gives.seen.0) seen-y ∙ append_assoc (v.seen ++ others)
      (entry_of v says ∷ m.released.entry.1) gives.seen.0

  legal-y : v.start.tells ≡ true
      → IsLegal (map_of L v.start.contents)
      (plain_history plain ((v.seen ++ others) ++ entry_of v says ∷ m.released.entry.1))
  legal-y t =
      let kept = (m.kept (ap (λ (o : Origin). o.tells) start-held ∙ t)).1 in
      let keeps : KeepsPlain plain L (began_of v.start) kept.kept =
      subst (λ (o : Origin). KeepsPlain plain L (began_of o) kept.kept)
      (m.released.beside.steady.start ∙ start-held) kept.holds in
      subst (λ (h : List (Entry S)). IsLegal (map_of L v.start.contents) (plain_history plain h)) (kept.history ∙ seen-y) keeps.legal

  pub merge-made : IsMergeMade plain L gs freed says v w
  merge-made = record {
    guards = ls;
    locked = x;
    locks = locks;
    released = y;
    merged = m;
    given = given;
    holds = merge-holds;
    mine = mine-w;
    more = m.released.entry.1 ++ gives.seen.0;
    entry = (others, seen-w);
    legal = λ t. (m.released.entry.1, gives.seen.0, refl, legal-y t);
  }

  -- ---- a pass that is alone knows the pages to be free again, and all others as before

  module _ (resident : KnowsResident v) where
    alone-x : IsAlone x
    alone-x = all.alone resident.alone

    alone-held : IsAlone m.held
    alone-held = still-alone x m.held m.stays.parts m.stays.alone.current alone-x

    alone-y : IsAlone y
    alone-y = still-alone m.held y m.released.beside.steady.parts (λ _. m.released.current) alone-held

    table-else : (hs : List ExclusiveGuard) (words : List ℕ) (q : ℕ) → has q (pids_of hs) ≡ false
        → slice_index (words_with m.held.start (released_words hs) words) q ≡ slice_index words q
    table-else [] words q none = refl
    table-else (h ∷ hs) words q none =
        let k = lacks q h.pid (pids_of hs) none in table-else hs (slice_set words h.pid (h.version + 1)) q k.1
        ∙ get_or-set_other words h.pid q (h.version + 1) 0 k.0

    word-else : (q : ℕ) → q < v.start.pages → has q (guard_pages gs) ≡ false → known_word q y ≡ known_word q v
    word-else q inside e =
        ap (λ (t : List ℕ). slice_index t q) (m.released.table alone-held) ∙ table-else (m.first ∷ m.rest)
        m.held.snapshot.words q (sym (here q) ∙ e)
        ∙ m.stays.known.states alone-x q (subst (λ (o : Origin). q < o.pages) (sym but.start) inside) ∙ all.words resident.alone q e

    free-of : (hs : List ExclusiveGuard) (q : ℕ) → has q (pids_of hs) ≡ true
        → Each (λ (g : ExclusiveGuard). IsKnownFree g.pid y × (version_of (known_word g.pid y) ≤ g.version + 1)) hs
        → IsKnownFree q y
    free-of [] q e each = absurd (true≢false (sym e))
    free-of (h ∷ hs) q e each =
        ⊎_elim (λ (same : q ≡ h.pid). subst (λ n. IsKnownFree n y) (sym same) each.0.0)
        (λ ne. free-of hs q (sym (ap (λ b. b || has q (pids_of hs)) (ne_eqb q h.pid ne)) ∙ e) each.1)
        (cases_eq q h.pid)

    -- the group's pages are pages of the table, so the next word is none of theirs
    next-else : (hs : List ExclusiveGuard) (words : List ℕ)
        → ((p : ℕ) → has p (pids_of hs) ≡ true → p < m.held.start.pages)
        → slice_index (words_with m.held.start (released_words hs) words) (index_of m.held.start places.Next)
        ≡ slice_index words (index_of m.held.start places.Next)
    next-else [] words inside = refl
    next-else (h ∷ hs) words inside =
        let here' : h.pid < m.held.start.pages = inside h.pid (among-first h.pid (pids_of hs)) in
        next-else hs (slice_set words h.pid (h.version + 1)) (λ p e. inside p (among-later p h.pid (pids_of hs) e))
        ∙ get_or-set_other words h.pid (index_of m.held.start places.Next) (h.version + 1) 0
        (λ e. let more = bundle_count m.held.start in omega (arith, here', e))

    next-y : known_next y ≡ known_next v
    next-y =
        ap (λ (o : Origin). slice_index y.snapshot.words (index_of o places.Next)) m.released.beside.steady.start
        ∙ ap (λ (t : List ℕ). slice_index t (index_of m.held.start places.Next)) (m.released.table alone-held)
        ∙ next-else (m.first ∷ m.rest) m.held.snapshot.words
        (λ p e. subst (λ (o : Origin). p < o.pages) (sym start-held) (all.inside p (here p ∙ e)))
        ∙ m.stays.known.next alone-x ∙ all.next resident.alone

    pub merge-resident : KnowsResident w
    merge-resident = record {
      alone = still-alone y w gives.parts gives.current alone-y;
      each = λ q below inside.
          let there : q < v.start.pages = subst (λ (o : Origin). q < o.pages) start-all inside in
          let there-y : q < y.start.pages = subst (λ (o : Origin). q < o.pages) gives.start inside in
          subst IsUnlockedWord (sym (gives.words alone-y q there-y))
          (⊎_elim
          (λ (e : has q (guard_pages gs) ≡ true). free-of (m.first ∷ m.rest) q (sym (here q) ∙ e) (m.released.free alone-held))
          (λ (e : has q (guard_pages gs) ≡ false).
          subst IsUnlockedWord (sym (word-else q there e))
          (resident.each q (subst (λ (n : ℕ). q < n) (gives.next alone-y ∙ next-y) below) there))
          (cases_Bool (has q (guard_pages gs))));
    }
