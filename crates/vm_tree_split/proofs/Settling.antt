-- A pass that is alone: what a call on a page answers that the pass knows to be free.
use Rattle.std.proofs.Common.{[], ⊎_elim, ◌*◌, ◌+◌, ◌<◌, ◌∙◌, ◌≡◌, ◌≢◌, ◌≤◌, ◌⊎◌, ap, arith, Bool, Err, inl, inr}
use Rattle.std.proofs.Common.{IsOk, List, Result, slice_index, subst, suc, sym, true, zero, ℕ}
use Rattle.std.proofs.lemmas.Bool.{cases_eq, cases_lt, false≢true}
use Rattle.std.proofs.lemmas.List.{get_or-set_other}
use Rattle.vm_event.specs.Words.{bit_count}
use Rattle.vm_event.specs.Prelude.{LOCKED, MAX_VERSION, Version, version_of, word_of}
use Rattle.vm_page.specs.Pages.{all_zero}
use Rattle.vm_rule.specs.Prelude.{bundle_count, HoldsNoPage, index_of}
use Rattle.vm_rule.specs.declared.view.WordPlace.TheVariants as places
use Rattle.vm_rule.proofs.WordFacts.{version-within}
use Rattle.vm_step.specs.Prelude.{Did, IsAlone, KnowsUnheld, LocksNone, Origin, View}
use Rattle.vm_step.proofs.Alone.{still-alone}
use Rattle.vm_tree_read.specs.from_vm_exmap.Frames.{MovesFrames}
use Rattle.vm_tree_read.specs.from_vm_guard.{declared_deny_Deny.Deny, declared_exclusive_ExclusiveGuard.ExclusiveGuard, declared_opt_OptGuard.OptGuard}
use Rattle.vm_tree_read.specs.from_vm_guard.{Denied.AgainOrWorn, Denied.SameOrUnlocked, Guards.IsLocked}
use Rattle.vm_tree_read.specs.from_vm_guard.declared_deny_Deny_TheVariants as denies
use Rattle.vm_tree_read.specs.from_vm_guard.Spares.{known_spare, KnowsFew}
use Rattle.vm_tree_read.specs.from_vm_guard.Sure.{HoldsUsed, IsKnownFree, IsUnlockedWord, known_next, known_word, MayBeTried}
use Rattle.vm_tree_model.specs.Layout.{IsLayout, Layout}
use Rattle.vm_tree_laws.specs.Tied.{Tied}
use Rattle.vm_tree_read.specs.from_vm_tree_rule.{Leaves.ReadsOn, Resident.IsKnownNow, Standing.Awaits}
use Rattle.vm_tree_split.specs.Prepares.{AreLocked, IsInUseAt, KnowsBoth, KnowsToSplit, SaysWorn}
use Rattle.vm_tree_draft.proofs.Splitting.{node-not}
use Rattle.vm_tree_split.proofs.{Ends.meta-not, Under.locked-in-use, Under.use-more}

abbrev pub denied : Deny → Result ExclusiveGuard Deny
denied deny = Err deny

module _ {X : Type 0} where
  -- an upgrade is denied only where the page is at the last version
  pub only-worn : (p word : ℕ) (deny : Deny) (v : View X) → AgainOrWorn deny → IsAlone v → IsUnlockedWord word
      → known_word p v ≡ word → (version_of word ≡ MAX_VERSION → denied deny ≡ denied (denies.Worn p))
      → (IsAlone v → IsKnownFree p v → SameOrUnlocked word (known_word p v) → version_of word < MAX_VERSION
      → IsOk (denied deny)) → SaysWorn deny
  only-worn p word (denies.Again saw) v kind alone free known worn sure =
      ⊎_elim
      (λ (below : version_of word < MAX_VERSION).
      absurd (false≢true (sure alone (subst IsUnlockedWord (sym known) free) (inl known) below)))
      (λ (last : MAX_VERSION ≤ version_of word). let within = version-within word in let no =
      worn (omega (arith, last, within)) in absurd (cc))
      (cases_lt (version_of word) MAX_VERSION)
  only-worn p word (denies.Worn q) v kind alone free known worn sure = tt
  only-worn p word (denies.Need q) v kind alone free known worn sure = absurd kind
  only-worn p word (denies.Crowded q) v kind alone free known worn sure = absurd kind

-- ---- what it knows of pages while frames are moved and pages are locked

module _ {X : Type 0} {L : Layout} (p f version : ℕ) (dirty : Bool) (v x : View X)
    (l : IsLocked (Tied L) p f version dirty v x) (alone : IsAlone v) where
  pub locked-alone : IsAlone x
  locked-alone = still-alone v x l.elsewhere.steady.parts l.alone.current alone

  pub locked-word : (q : ℕ) → q ≢ p → known_word q x ≡ known_word q v
  locked-word q ne = ap (λ (t : List ℕ). slice_index t q) (l.table alone) ∙ get_or-set_other v.snapshot.words p q
      (word_of LOCKED version) 0 ne

  pub locked-next : known_next x ≡ known_next v
  locked-next =
      let start : x.start ≡ v.start = l.elsewhere.steady.start in
      let inside : p < v.start.pages = subst (λ (o : Origin). p < o.pages) start l.holding.page in
      ap (λ (o : Origin). slice_index x.snapshot.words (index_of o places.Next)) start
      ∙ ap (λ (t : List ℕ). slice_index t (index_of v.start places.Next)) (l.table alone)
      ∙ get_or-set_other v.snapshot.words p (index_of v.start places.Next) (word_of LOCKED version) 0
      (λ e. let more = bundle_count v.start in omega (arith, inside, e))

module _ {X : Type 0} where
  -- frames were moved
  pub both-moved : (first second : OptGuard) (done : List Did) (v x : View X) → MovesFrames done v x
      → first.pid < v.start.pages → second.pid < v.start.pages → KnowsBoth first second v → KnowsBoth first second x
  both-moved first second done v x m a b k = record {
    alone = still-alone v x m.parts m.alone.current k.alone;
    free = k.free;
    words = (
      (m.table k.alone).words (places.State first.pid) a (λ e. e) ∙ k.words.0,
      (m.table k.alone).words
          (places.State second.pid) b (λ e. e) ∙ k.words.1,
    );
  }

-- ---- the free-number words

module _ {X : Type 0} where
  -- either each of the first words is known to have fewer than n bits, or not
  pub few-or-not : (n below : ℕ) (v : View X) → KnowsFew n below v ⊎ (KnowsFew n below v → ⊥)
  few-or-not n zero v = inl (λ g l inside. absurd (omega (arith, l)))
  few-or-not n (suc b) v =
      ⊎_elim
      (λ (few : KnowsFew n b v).
      ⊎_elim
      (λ (in-it : b * 64 < v.start.pages).
      ⊎_elim
      (λ (low : bit_count (known_spare b v) < n).
      inl (λ g l inside.
      ⊎_elim (λ (here : g ≡ b). subst (λ (k : ℕ). bit_count (known_spare k v) < n) (sym here) low)
      (λ (ne : g ≢ b). few g (omega (arith, l, ne)) inside) (cases_eq g b)))
      (λ (high : n ≤ bit_count (known_spare b v)). inr (λ all. let low = all b (omega arith) in-it in omega (arith, low, high)))
      (cases_lt (bit_count (known_spare b v)) n))
      (λ (past : v.start.pages ≤ b * 64).
      inl (λ g l inside.
      ⊎_elim (λ (here : g ≡ b). absurd (omega (arith, here, inside, past)))
      (λ (ne : g ≢ b). few g (omega (arith, l, ne)) inside) (cases_eq g b)))
      (cases_lt (b * 64) v.start.pages))
      (λ (no : KnowsFew n b v → ⊥). inr (λ all. no (λ g l inside. all g (omega (arith, l)) inside)))
      (few-or-not n b v)

-- ---- the fresh pages that it asks for

module _ {X : Type 0} {L : Layout} (n : ℕ) (first second : OptGuard) (up low : ExclusiveGuard) (done : List Did)
    (v x y : View X) (m : MovesFrames done v x) (l : AreLocked L first second up low x y)
    (k : KnowsToSplit L first second v) where
  moved-alone : IsAlone x
  moved-alone = still-alone v x m.parts m.alone.current k.both.alone

  between-alone : IsAlone l.between
  between-alone = locked-alone first.pid up.frame up.version up.dirty x l.between l.up_locked moved-alone

  pub both-alone : IsAlone y
  both-alone = locked-alone second.pid low.frame low.version low.dirty l.between y l.low_locked between-alone

  next-then : known_next y ≡ known_next v
  next-then =
      locked-next second.pid low.frame low.version low.dirty l.between y l.low_locked between-alone
      ∙ locked-next first.pid up.frame up.version up.dirty x l.between l.up_locked moved-alone
      ∙ (m.table k.both.alone).words places.Next tt (λ e. e)

  start-there : y.start ≡ v.start
  start-there = l.low_locked.elsewhere.steady.start ∙ l.up_locked.elsewhere.steady.start ∙ m.start

  word-then : (q : ℕ) → q < v.start.pages → q ≢ first.pid → q ≢ second.pid → known_word q y ≡ known_word q v
  word-then q inside a b =
      locked-word second.pid low.frame low.version low.dirty l.between y l.low_locked between-alone q b
      ∙ locked-word first.pid up.frame up.version up.dirty x l.between l.up_locked moved-alone q a
      ∙ (m.table k.both.alone).words (places.State q) inside (λ e. e)

  -- all pages but the two are locked by nobody
  others-none : (q : ℕ) → q < y.start.pages → q ≢ first.pid → q ≢ second.pid → LocksNone (known_word q y)
  others-none q below a b =
      let inside : q < v.start.pages = subst (λ (o : Origin). q < o.pages) start-there below in
      subst LocksNone (sym (word-then q inside a b)) (k.unheld k.both.alone q inside (k.holds.exclusive q) (k.holds.shares q))

  tells-moved : x.start.tells ≡ true
  tells-moved = ap (λ (o : Origin). o.tells) m.start ∙ k.tells

  tells-between : l.between.start.tells ≡ true
  tells-between = ap (λ (o : Origin). o.tells) l.up_locked.elsewhere.steady.start ∙ tells-moved

  -- and the two are in use
  first-used : second.pid ≢ first.pid → HoldsUsed y first.pid
  first-used apart =
      let e = l.low_locked.elsewhere in
      let ne : first.pid ≢ second.pid = λ q. apart (sym q) in
      let owns = l.up_locked.holding.owns in
      let used = locked-in-use first.pid up.frame up.version first.word up.dirty x l.between l.up_locked tells-moved
      l.up_version (use-more L first.pid first.word v x m.start ([], m.reads.1) k.used.0) in (
        ap (λ (o : Origin). o.tells) e.steady.start ∙ tells-between,
        inl ((e.holds first.pid ne).exclusive ∙ owns),
        ap (λ (z : Version). all_zero z.words) (e.knows first.pid ne (inl owns)).last ∙ used,
      )

  second-used : HoldsUsed y second.pid
  second-used =
      let steady = l.up_locked.elsewhere.steady in
      let there = use-more L second.pid second.word x l.between steady.start steady.ties
      (use-more L second.pid second.word v x m.start ([], m.reads.1) k.used.1) in (
        ap (λ (o : Origin). o.tells) l.low_locked.elsewhere.steady.start ∙ tells-between,
        inl l.low_locked.holding.owns,
        locked-in-use second.pid low.frame low.version second.word low.dirty l.between y l.low_locked tells-between l.low_version there,
      )

  -- so each of the n pages that it asks for is locked by nobody, or is one of the two, whose numbers are not free
  pub may-be-tried : second.pid ≢ first.pid → (KnowsFew n y.start.pages y → known_next y + n ≤ y.start.pages) → MayBeTried n y
  may-be-tried apart room = record {
    free = λ g mask inside few enough low q below e.
        ⊎_elim (λ (a : q ≡ first.pid). inr (subst (HoldsUsed y) (sym a) (first-used apart)))
        (λ (na : q ≢ first.pid).
        ⊎_elim (λ (b : q ≡ second.pid). inr (subst (HoldsUsed y) (sym b) second-used))
        (λ (nb : q ≢ second.pid). inl (others-none q below na nb)) (cases_eq q second.pid))
        (cases_eq q first.pid);
    next = λ few. record {
      room = room few;
      each = λ q from below.
          let past : known_next v ≤ q = subst (λ (t : ℕ). t ≤ q) next-then from in
          let a : first.pid < known_next v = k.below.0 in
          let b : second.pid < known_next v = k.below.1 in
          let fits = room few in
          others-none q (omega (arith, below, fits)) (λ e. omega (arith, e, a, past)) (λ e. omega (arith, e, b, past));
    };
  }

-- ---- the search met a full node

module _ {X : Type 0} {L : Layout} where
  pub knows-to-split : (a b : OptGuard) (v w : View X) → ReadsOn v w → HoldsNoPage v → KnowsUnheld w → w.start.tells ≡ true
      → IsInUseAt L a.pid a.word w → IsInUseAt L b.pid b.word w → IsKnownNow a.pid a.word w
      → IsKnownNow b.pid b.word w → KnowsToSplit L a b w
  knows-to-split a b v w r holds unheld tells ua ub ka kb = record {
    both = record { alone = ka.resident.alone; free = (ka.free, kb.free); words = (ka.known, kb.known) };
    below = (ka.below, kb.below);
    tells = tells;
    used = (ua, ub);
    holds = record {
      shares = λ q. (r.0.holds q).shares ∙ holds.shares q;
      exclusive = λ q. (r.0.holds q).exclusive ∙ holds.exclusive q;
      writing = λ q. (r.0.holds q).writing ∙ holds.writing q;
      out = r.0.out ∙ holds.out;
    };
    unheld = unheld;
  }

module _ {X : Type 0} (L : Layout) (laws : IsLayout L) where
  -- a node that a descent awaits is in use
  pub awaited-in-use : (p word level key : ℕ) (v : View X) → v.start.tells ≡ true → Awaits L v p word level key → IsInUseAt L p word v
  awaited-in-use p word level key v tells awaits words meets itself = node-not L laws words (awaits tells words meets).kind

  -- and so is page 0
  pub meta-in-use : (p word : ℕ) (v : View X) → p ≡ 0 → IsInUseAt L p word v
  meta-in-use p word v first words meets itself = meta-not words L.magic (itself.sound.meta first).magic laws.some_magic
