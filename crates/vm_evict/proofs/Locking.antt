-- The locks of a candidate: the first, for write-back, or exclusive where the page was seen to be clean; the one for
-- write-back as it becomes exclusive; or the
-- exchange was lost. Before them what is known of a candidate as long as it is locked, and once the lock is given up.
use Rattle.vm_rule.specs.declared.view.WordPlace.TheVariants as places
use Rattle.vm_evict.specs.declared.candidate.Phase.TheVariants as phases
use Rattle.vm_evict.specs.declared.candidate.Stage.TheVariants as stages
use Rattle.vm_evict.proofs.Evidenced.{has-lost, has-taken, holds-same, lost-one, none-kept, none-stored, rests-on, saved-front, unlocked}
use Rattle.vm_evict.proofs.Evidenced.{unsaved-both, unsaved-one, wrote-taken}
use Rattle.vm_evict.proofs.Moving.{gives-nothing, GivesNothing, Quietly, quietly-then, quietly-to}
use Rattle.vm_evict.proofs.Prelude.{Origin, Version, [], Advances, ap, arith, Bool, Brings, by_share, cases_Bool}
use Rattle.vm_evict.proofs.Prelude.{clean_in, Did, did_exchange, Does, Each, each-both, EVICTED, false, false≢true}
use Rattle.vm_evict.proofs.Prelude.{frame_of, has, HasLockTaken, HasLost, HasNoLockOf, Held, held_at, if◌then◌else◌}
use Rattle.vm_evict.proofs.Prelude.{inl, inr, IsAlone, IsLocking, IsLost, IsMissed, IsOwning, IsSavedFrom}
use Rattle.vm_evict.proofs.Prelude.{IsSeenClean, IsSome, IsToldOf, IsToShare, IsUnderWriteBack, IsUnheld, IsWaiting}
use Rattle.vm_evict.proofs.Prelude.{IsWriting, known_word_at, KnowsKept, KnowsLocked, KnowsOn, KnowsStage, last_of}
use Rattle.vm_evict.proofs.Prelude.{LeavesOthers, LeavesOwn, LeavesRest, length, List, lock-brings, lock-did}
use Rattle.vm_evict.proofs.Prelude.{lock-draft, lock-held, lock-others, lock-own, lock-seat, LOCKED, LocksFrom}
use Rattle.vm_evict.proofs.Prelude.{LockTold, lost-view, Mapping, mapping_at, mapping_of, MARKED, MAX_VERSION, MayEnd}
use Rattle.vm_evict.proofs.Prelude.{MayRaiseLock, MayUnshare, no-fault, no_seat, None, none-some, once, Option}
use Rattle.vm_evict.proofs.Prelude.{others-still, owning_seat, Phase, Raises, refl, rest-of, Rests, rules, RunsAlone}
use Rattle.vm_evict.proofs.Prelude.{same_Some, Seat, seat_of, shares, Some, Stage, stands_dirty, Start, starts-then}
use Rattle.vm_evict.proofs.Prelude.{state_of, still-own, still-works, subst, sym, Translation, true, Unstored}
use Rattle.vm_evict.proofs.Prelude.{unshare-did, unshare-others, unshare-own, unshare-seat, unshared, UnshareTold}
use Rattle.vm_evict.proofs.Prelude.{upgrade-brings, upgrade-did, upgrade-draft, upgrade-held, upgrade-last}
use Rattle.vm_evict.proofs.Prelude.{upgrade-others, upgrade-own, upgrade-seat, upgraded_view, UpgradeTold}
use Rattle.vm_evict.proofs.Prelude.{version-within, version_of, View, word-state, word-version, word_of, Works}
use Rattle.vm_evict.proofs.Prelude.{write_lock-brings, write_lock-did, write_lock-held, write_lock-others}
use Rattle.vm_evict.proofs.Prelude.{write_lock-own, write_lock-seat, WriteLockTold, writing_seat, ℕ, ⊎_elim, ◌++◌}
use Rattle.vm_evict.proofs.Prelude.{◌<◌, ◌==◌, ◌∙◌, ◌∷◌, ◌≡◌, ◌≢◌, ◌≤◌}
use Rattle.vm_evict.proofs.Tables.{found-first, kept-then, silent-page, state-left}

module _ {X : Type 0} {tied : Start → ℕ → List ℕ → ℕ → List ℕ → Type 0} {p expects : ℕ} {v w : View X}
    (t : WriteLockTold tied p expects expects v w) where
  pub lock-now : seat_of w p ≡ writing_seat
  lock-now = write_lock-seat refl t ∙ ap (λ (e : Bool). record {
    shares = 1;
    exclusive = e;
    writing = true;
    reading = None;
  }) {x = (seat_of v p).exclusive} {y = false} (t.unheld refl).exclusive

  pub under-write-back : v.out ≡ None → IsUnderWriteBack p w
  under-write-back home = search (rules, ap, lock-now, write_lock-held refl t, write_lock-brings refl t, t.stands refl)

-- it may be given up, and nothing of the lock is left then
pub may-unshare : {X : Type 0} (p : ℕ) (v : View X) → seat_of v p ≡ writing_seat → IsToldOf v p → v.out ≡ None → MayUnshare v p
may-unshare p v seat told home = grind arith

pub unlocked-seat : {X : Type 0} {p found : ℕ} {v w : View X} → UnshareTold p found v w → seat_of v p ≡ writing_seat → seat_of w p ≡ no_seat
unlocked-seat t seat = unshare-seat t ∙ ap unshared seat

-- ---- A candidate that the pass has locked, as it works on it, and as it gives the lock up.

-- the frame of what a translation word says is the one that it names
pub frame-of-parts : (o : Option ℕ) (dirty : Bool) → frame_of (mapping_at o dirty) ≡ o
frame-of-parts None dirty = refl
frame-of-parts (Some f) dirty = refl

module _ {X : Type 0} (p : ℕ) where
  -- a page that the pass has not locked, and had not at v
  pub was-free : (v x : View X) → Rests p v x → IsUnheld x p → HasNoLockOf v p
  was-free v x r u = record {
    shares = sym r.holds.shares ∙ u.shares;
    exclusive = sym r.holds.exclusive ∙ u.exclusive;
    writing = sym r.holds.writing ∙ u.writing;
  }

  -- it has no lock of it again
  pub free-rests : (v x : View X) → HasNoLockOf v p → seat_of x p ≡ record {
    shares = 0;
    exclusive = false;
    writing = false;
    reading = None;
  } → Rests p v x
  free-rests v x f now = (let none = unlocked (seat_of v p) f.shares f.exclusive in grind (arith, none))

  -- one step that is one of the phase
  pub quiet-one : (phase : Phase) (word : ℕ) {did : Did} {x y : View X} → LeavesOthers (λ q. q ≡ p) (did ∷ []) [] x y
      → LeavesOwn x y → (newer : List Translation) → y.translations ≡ newer ++ x.translations
      → Does phase (p, word) did
      → Quietly phase (p, word) (did ∷ []) x y
  quiet-one phase word f own newer reads does = search (rules, rest-of f own)

  -- so is an exchange that was lost
  pub lost-quiet : (phase : Phase) (word : ℕ) (did : Did) (x y : View X) → Brings did [] [] x x y
      → Does phase (p, word) did → Quietly phase (p, word) (did ∷ []) x y
  lost-quiet phase word did x y b does =
      quiet-one phase word (others-still b) (still-own b) [] (ap (λ (z : View X). z.translations) b.view) does

  -- a page that was locked, after steps that speak of one page, so that the pass has this seat then
  pub taken-on : (r word : ℕ) (seat now : Seat) (more : List Did) (v x y : View X) → HasLockTaken p word seat v x
      → LeavesRest r more x y → last_of y p ≡ last_of x p → seat_of y p ≡ now → IsToldOf y p
      → HasLockTaken p word now v y
  taken-on r word seat now more v x y h leaves same is told =
      let size = ap (λ (k : Version). length k.words) same ∙ h.size ∙ ap (λ (o : Origin). o.size) (sym leaves.start) in
      search (rules, ap, starts-then v.releases x.releases y.releases h.since leaves.releases, size)

  module _ (word : ℕ) (seat : Seat) (locks : IsLocking seat) (v x : View X) (h : HasLockTaken p word seat v x) where
    pub locks-now : IsLocking (seat_of x p)
    locks-now = subst (λ (s : Seat). IsLocking s) (sym h.now) locks

    -- steps on it as it stays locked
    pub taken-works : (more : List Did) (y : View X) → Works p more x y → IsToldOf y p → HasLockTaken p word seat v y
    taken-works more y k told = taken-on p word seat seat more v x y h k.leaves (k.last locks-now) (k.seat ∙ h.now) told

  -- ---- the share is given up

  module _ (word : ℕ) (v x : View X) (h : HasLockTaken p word writing_seat v x) (phase : Phase) (found : ℕ)
      (w : View X) (t : UnshareTold p found x w) where
    pub given-rests : Rests p v w
    given-rests = free-rests v w h.before (unlocked-seat t h.now)

    pub given-quiet : Does phase (p, word) (unshare-did t) → Quietly phase (p, word) (unshare-did t ∷ []) x w
    given-quiet does = quiet-one phase word (unshare-others t (λ q. q ≡ p) refl) (unshare-own t) []
        (ap (λ (z : View X). z.translations) t.brings.view) does

-- a word with a smaller state is not the marked one
pub not-marked : (word state version : ℕ) → state_of word ≡ MARKED → state < MARKED → version ≤ MAX_VERSION → word ≢ word_of state version
not-marked word state version marked low within e = let same : MARKED ≡ state = sym marked ∙ ap state_of e
    ∙ word-state state version within in absurd (omega (arith, low, same))

-- a marked page is not evicted
not-evicted : (word : ℕ) → state_of word ≡ MARKED → state_of word ≢ EVICTED
not-evicted word marked gone = let e : MARKED ≡ EVICTED = sym marked ∙ gone in absurd (omega (arith, e))

-- ---- lost

module _ {X : Type 0} (phase : Phase) (old : Stage) (p word found new : ℕ) (done : List Did) (v x inner y : View X)
    (h : IsWaiting p done v x) (ne : found ≢ word)
    (b : Brings (did_exchange (places.State p) word found new) [] [] x (if found == word then inner else x) y)
    (does : Does phase (p, word) (did_exchange (places.State p) word found new)) where
  abbrev tried : Did
  tried = did_exchange (places.State p) word found new

  still-brings : Brings tried [] [] x x y
  still-brings = lost-view tried word found x inner y ne b

  work : Works p (tried ∷ []) x y
  work = still-works still-brings p

  missed : IsMissed p word false (done ++ tried ∷ [])
  missed =
      let unreleased : Unstored p (done ++ tried ∷ []) =
      each-both (λ (d : Did). d.at ≡ places.State p → d.found ≡ None → d.wrote ≡ None) done (tried ∷ [])
      (none-stored (places.State p) done h.quiet) ((λ here none. absurd (none-some found (sym none))), tt) in
      search (
        rules,
        has-lost done [] (places.State p) word found new ne
            (none-kept done (places.State p) found h.quiet),
        unsaved-both p done (tried ∷ []) h.kept
            (unsaved-one p tried refl refl),
        unreleased,
      )

  -- a pass that is alone lost it only where it knew another word
  lost-known : IsAlone x → p < x.start.pages → KnowsKept p v x → KnowsStage (p, word) (stages.Lost false) v y
  lost-known alone page k =
      let there : found ≡ known_word_at x (places.State p) = found-first tried [] [] x y work.alone alone found refl in (
        refl,
        λ e. ne (there ∙ k.state ∙ e),
        kept-then p v x y k (silent-page (tried ∷ []) [] x y work.leaves.start work.alone alone p page
            ((lost-one (places.State p) word found new ne).left, tt)),
      )

  pub lost-so : MayEnd phase (stages.Lost false) → GivesNothing phase (p, word) x old (stages.Lost false)
      → (KnowsStage (p, word) old v x → KnowsKept p v x) → Advances phase (p, word) old (stages.Lost false) done v x y
  lost-so ends gives from =
      quietly-to phase (p, word) old (stages.Lost false) done (tried ∷ []) v x y (lost-quiet p phase word tried x y still-brings does) (
        missed,
        rests-on p v x y (holds-same p x y work.seat) (λ l. record {
          held = ap (λ (z : View X). held_at z p) still-brings.view;
          draft = work.draft;
          last = work.last l;
        }) h.rests,
      )
      ends gives (λ alone page k. lost-known alone page (from k))

-- ---- taken

module _ {X : Type 0} (p word state : ℕ) (v x y : View X) where
  abbrev exchanged : Did
  exchanged = did_exchange (places.State p) word word (word_of state (version_of word))

  -- a pass that is alone knew the candidate's word, and knows the new one
  exchange-known : LeavesRest p (exchanged ∷ []) x y → RunsAlone (exchanged ∷ []) [] x y → IsAlone x → p < x.start.pages → KnowsKept p v x
      → KnowsLocked (p, word) state (version_of word) v y × KnowsOn (places.Fault p) v y × KnowsOn (places.Translation p) v y
  exchange-known leaves runs alone page k =
      let there : word ≡ known_word_at x (places.State p) = found-first exchanged [] [] x y runs alone word refl in
      let l = state-left exchanged [] x y leaves.start runs alone p page refl (word_of state (version_of word))
      (wrote-taken word (word_of state (version_of word))) in
      (record { before = sym (there ∙ k.state); now = l.0 }, l.1 ∙ k.fault, l.2 ∙ k.translation)

  lock-taken : (seat : Seat) (done : List Did) → IsWaiting p done v x → LeavesRest p (exchanged ∷ []) x y
      → IsUnheld x p → has p x.pending ≡ false → seat_of y p ≡ seat → (last_of y p).version ≡ version_of word
      → length (last_of y p).words ≡ y.start.size → IsToldOf y p → HasLockTaken p word seat v y
  lock-taken seat done h leaves un free now at size told =
      search (
        rules,
        ap,
        was-free p v x h.rests un,
        starts-then v.releases x.releases y.releases h.since
            leaves.releases,
      )

-- ---- for write-back

module _ {X : Type 0} (tied : Start → ℕ → List ℕ → ℕ → List ℕ → Type 0) (p word : ℕ) (marked : state_of word ≡ MARKED)
    (done : List Did) (v x y : View X) (h : IsWaiting p done v x) (t : WriteLockTold tied p word word x y) where
  abbrev share-did : Did
  share-did = write_lock-did refl t

  pub share-quiet : Quietly phases.Save (p, word) (share-did ∷ []) x y
  share-quiet = quiet-one p phases.Save word (write_lock-others refl t (λ q. q ≡ p) refl) (write_lock-own refl t) []
      (ap (λ (z : View X). z.translations) (write_lock-brings refl t).view) (shares word refl)

  pub share-known : IsAlone x → p < x.start.pages → KnowsKept p v x → KnowsStage (p, word) (stages.Shared false) v y
  share-known alone page k = let l = exchange-known p word 1 v x y share-quiet.moves.leaves share-quiet.runs alone
      page k in (l.0, l.1, λ e. l.2)

  pub writing : IsToShare p word done → IsWriting p word false (done ++ share-did ∷ []) v y
  writing why = record {
    taken = lock-taken p word 1 v x y writing_seat done h share-quiet.moves.leaves (t.unheld refl) (t.free refl)
        (lock-now t) t.version t.size
        (subst (λ (k : Held). k.fault ≡ k.block.count) (sym (write_lock-held refl t)) (t.stands refl).told);
    shared = record { taken = has-taken done (places.State p) word (word_of 1 (version_of word)); why = why };
    foreign = λ found ne.
        each-both (λ (d : Did). d.at ≡ places.State p → d.wrote ≢ Some found) done (share-did ∷ [])
        (none-kept done (places.State p) found h.quiet)
        ((λ here is. ne (same_Some found (word_of 1 (version_of word)) (sym is ∙ wrote-taken word (word_of 1 (version_of word))))), tt);
    unreleased = each-both (λ (d : Did). d.at ≡ places.State p → d.found ≡ None → d.wrote ≡ None) done
        (share-did ∷ []) (none-stored (places.State p) done h.quiet)
        ((λ here none. absurd (none-some word (sym none))), tt);
    kept = λ _. unsaved-both p done (share-did ∷ []) h.kept (unsaved-one p share-did refl refl);
    resident = subst (λ (k : Held). IsSome k.mapping) (sym (write_lock-held refl t)) ((t.stands refl).resident (not-evicted word marked));
    cleaned = λ e. absurd (false≢true e);
  }

-- ---- exclusively

-- a page that is resident, and not dirty, stands clean
pub clean-of : (m : Option Mapping) → IsSome m → stands_dirty m ≡ false → (frame : ℕ) × (m ≡ Some (clean_in frame))
clean-of None some clean = absurd (false≢true some)
clean-of (Some m) some clean = (m.frame, ap (λ (b : Bool). Some (record { frame = m.frame; dirty = b })) {x = m.dirty} {y = false} clean)

-- what holds of all holds of the last of them
each-behind : {A : Type 0} (P : A → Type 0) (a b : List A) → Each P (a ++ b) → Each P b
each-behind P [] b e = e
each-behind P (x ∷ xs) b e = each-behind P xs b e.1

module _ {X : Type 0} (tied : Start → ℕ → List ℕ → ℕ → List ℕ → Type 0) (p word : ℕ) (marked : state_of word ≡ MARKED)
    (done : List Did) (v x y : View X) (seen : IsSeenClean p word done v x) (t : LockTold tied p word word x y) where
  abbrev own-did : Did
  own-did = lock-did refl t

  own-now : seat_of y p ≡ owning_seat
  own-now = lock-seat refl t ∙ (λ i. record {
    shares = (t.unheld refl).shares i;
    exclusive = true;
    writing = (t.unheld refl).writing i;
    reading = None;
  })

  -- the translation that was loaded at this version said so
  is-clean : stands_dirty t.held.mapping ≡ false
  is-clean =
      let each = t.clean refl (not-evicted word marked) in
      let first = each-behind (λ (r : Translation). r.page ≡ p → r.version ≡ version_of word
      → stands_dirty t.held.mapping ≡ true → stands_dirty (mapping_of r.word) ≡ true) seen.newer _
      (subst (λ (l : List Translation).
      Each (λ r. r.page ≡ p → r.version ≡ version_of word → stands_dirty t.held.mapping ≡ true
      → stands_dirty (mapping_of r.word) ≡ true) l) seen.loaded each) in
      ⊎_elim (λ (e : stands_dirty t.held.mapping ≡ true). absurd (false≢true (sym seen.clean ∙ first.0 refl refl e)))
      (λ (e : stands_dirty t.held.mapping ≡ false). e) (cases_Bool (stands_dirty t.held.mapping))

  pub clean-frame : (frame : ℕ) × (t.held.mapping ≡ Some (clean_in frame))
  clean-frame = clean-of t.held.mapping ((t.stands refl).resident (not-evicted word marked)) is-clean

  lock-quiet : Quietly phases.Lock (p, word) (own-did ∷ []) x y
  lock-quiet = quiet-one p phases.Lock word (lock-others refl t (λ q. q ≡ p) refl) (lock-own refl t) []
      (ap (λ (z : View X). z.translations) (lock-brings refl t).view) (word, refl)

  owning : IsOwning p word clean-frame.0 false (done ++ own-did ∷ []) v y
  owning = record {
    taken = lock-taken p word LOCKED v x y owning_seat done seen.waits lock-quiet.moves.leaves (t.unheld refl)
        (t.free refl) own-now t.version t.size
        (subst (λ (k : Held). k.fault ≡ k.block.count) (sym (lock-held refl t)) (t.stands refl).told);
    locked = once (has-taken done (places.State p) word (word_of LOCKED (version_of word)));
    foreign =
        each-both (λ (d : Did). d.at ≡ places.State p → d.wrote ≢ Some word) done (own-did ∷ [])
        (none-kept done (places.State p) word seen.waits.quiet) (
          (λ here is. not-marked word LOCKED (version_of word) marked (omega arith) (version-within word)
              (same_Some word (word_of LOCKED (version_of word))
              (sym is ∙ wrote-taken word (word_of LOCKED (version_of word))))),
          tt,
        );
    stands = ap (λ (k : Held). k.mapping) (lock-held refl t) ∙ clean-frame.1;
    draft = lock-draft refl t;
    cleaned = λ e. absurd (false≢true e);
    kept = λ _. unsaved-both p done (own-did ∷ []) seen.waits.kept (unsaved-one p own-did refl refl);
  }

  pub locked-so : Advances phases.Lock (p, word) stages.Clean (stages.Owned false) done v x y
  locked-so =
      quietly-to phases.Lock (p, word) stages.Clean (stages.Owned false) done (own-did ∷ []) v x y lock-quiet
      (clean-frame.0, owning) tt (gives-nothing refl refl refl)
      (λ alone page k. let l = exchange-known p word LOCKED v x y lock-quiet.moves.leaves lock-quiet.runs alone page k in (l.0, l.1))

-- ---- A page under write-back, which is clean, becomes held exclusively; or the exchange is lost, and the share is given up.

module _ {X : Type 0} (tied : Start → ℕ → List ℕ → ℕ → List ℕ → Type 0) (p word : ℕ) (written : Bool)
    (done : List Did) (v x : View X) (h : IsWriting p word written done v x) where
  abbrev version : ℕ
  version = version_of word

  locks : IsLocking (seat_of x p)
  locks = locks-now p word writing_seat (inr (omega arith)) v x h.taken

  pub may-raise : (expects : ℕ) → expects ≡ word_of 1 version → version < MAX_VERSION → MayRaiseLock x p expects
  may-raise expects is below =
      (let state = word-state 1 version (version-within word) in let at =
      word-version 1 version (version-within word) in grind (arith, state, at))

  same-version : (expects : ℕ) → expects ≡ word_of 1 version → version_of expects ≡ version
  same-version expects is = ap version_of is ∙ word-version 1 version (version-within word)

  -- the exchange is one of the phase
  raises-so : (expects found : ℕ) → expects ≡ word_of 1 version
      → Raises (p, word) (did_exchange (places.State p) expects found (word_of LOCKED (version_of expects)))
  raises-so expects found is =
      inl (
        found,
        ap (λ (n : ℕ). did_exchange (places.State p) expects found (word_of LOCKED n)) (same-version expects is)
            ∙ ap (λ (e : ℕ). did_exchange (places.State p) e found (word_of LOCKED version)) is,
      )

  -- ---- it was taken

  module _ (marked : state_of word ≡ MARKED) (frame : ℕ) (stands : (held_at x p).mapping ≡ Some (clean_in frame))
      (expects : ℕ) (is : expects ≡ word_of 1 version) (y : View X) (t : UpgradeTold tied p expects expects x y) where
    abbrev took : Did
    took = upgrade-did refl t

    quiet : Quietly phases.Raise (p, word) (took ∷ []) x y
    quiet = quiet-one p phases.Raise word (upgrade-others refl t (λ q. q ≡ p) refl) (upgrade-own refl t) []
        (ap (λ (z : View X). z.translations) (upgrade-brings refl t).view) (raises-so expects expects is)

    changes : LeavesRest p (took ∷ []) x y
    changes = quiet.moves.leaves

    locked : LocksFrom p word (done ++ took ∷ [])
    locked =
        by_share
        record {
          earlier = done;
          step = took;
          later = [];
          cut = refl;
          is = (
            refl,
            ap (λ (n : ℕ). Some n) is,
            ap (λ (n : ℕ). Some n) is,
            wrote-taken expects
                (word_of LOCKED (version_of expects)) ∙ ap (λ (n : ℕ). Some (word_of LOCKED n))
                (same-version expects is),
          );
        }
        h.shared

    owning-raised : IsOwning p word frame written (done ++ took ∷ []) v y
    owning-raised = record {
      taken = taken-on p p word writing_seat owning_seat (took ∷ []) v x y h.taken changes
          (upgrade-last refl t p locks) (upgrade-seat refl t)
          (subst (λ (k : Held). k.fault ≡ k.block.count) (sym (upgrade-held refl t p)) h.taken.told);
      locked = locked;
      foreign =
          each-both (λ (d : Did). d.at ≡ places.State p → d.wrote ≢ Some word) done (took ∷ [])
          (h.foreign word (not-marked word 1 version marked (omega arith) (version-within word))) (
            (λ here e. not-marked word LOCKED (version_of expects) marked (omega arith) (version-within expects)
                (same_Some word (word_of LOCKED (version_of expects))
                (sym e ∙ wrote-taken expects (word_of LOCKED (version_of expects))))),
            tt,
          );
      stands = ap (λ (k : Held). k.mapping) (upgrade-held refl t p) ∙ stands;
      draft = upgrade-draft refl t;
      cleaned = λ e.
          let there = h.cleaned e in
          let same : there.0 ≡ frame = same_Some there.0 frame (ap frame_of (sym there.1 ∙ stands)) in
          saved-front p word frame done (took ∷ []) (subst (λ (n : ℕ). IsSavedFrom p word n done) same there.2) (no-fault p took refl, tt);
      kept = λ e. unsaved-both p done (took ∷ []) (h.kept e) (unsaved-one p took refl refl);
    }

    raised-known : IsAlone x → p < x.start.pages → KnowsStage (p, word) (stages.Shared written) v x
        → KnowsStage (p, word) (stages.Owned written) v y
    raised-known alone page k =
        let l = state-left took [] x y changes.start quiet.runs alone p page refl
        (word_of LOCKED (version_of expects)) (wrote-taken expects (word_of LOCKED (version_of expects))) in
        (record { before = k.0.before; now = l.0 ∙ ap (word_of LOCKED) (same-version expects is) }, l.1 ∙ k.1)

    pub raised-so : Advances phases.Raise (p, word) (stages.Shared written) (stages.Owned written) done v x y
    raised-so = quietly-to phases.Raise (p, word) (stages.Shared written) (stages.Owned written) done (took ∷ []) v x
        y quiet (frame, owning-raised) tt (gives-nothing refl refl refl)
        raised-known

  -- ---- it was lost

  module _ (expects found : ℕ) (is : expects ≡ word_of 1 version) (ne : found ≢ expects) (y : View X)
      (t : UpgradeTold tied p expects found x y) where
    abbrev raise-tried : Did
    raise-tried = did_exchange (places.State p) expects found (word_of LOCKED (version_of expects))

    raise-brings : Brings raise-tried [] [] x x y
    raise-brings = lost-view raise-tried expects found x (upgraded_view p (last_of y p).words x) y ne t.brings

    raise-work : Works p (raise-tried ∷ []) x y
    raise-work = still-works raise-brings p

    raise-tried-quiet : Quietly phases.Raise (p, word) (raise-tried ∷ []) x y
    raise-tried-quiet = lost-quiet p phases.Raise word raise-tried x y raise-brings (raises-so expects found is)

    held-on : HasLockTaken p word writing_seat v y
    held-on =
        taken-works p word writing_seat (inr (omega arith)) v x h.taken (raise-tried ∷ []) y raise-work
        (subst (λ (k : Held). k.fault ≡ k.block.count) (sym (ap (λ (z : View X). held_at z p) raise-brings.view)) h.taken.told)

    pub may-give : x.out ≡ None → MayUnshare y p
    may-give home = may-unshare p y held-on.now held-on.told (raise-tried-quiet.moves.home home)

    module _ (last : ℕ) (w : View X) (u : UnshareTold p last y w) where
      abbrev end-did : Did
      end-did = unshare-did u

      gone : Quietly phases.Raise (p, word) (end-did ∷ []) y w
      gone = given-quiet p word v y held-on phases.Raise last w u (inr (last, refl))

      abbrev both : List Did
      both = raise-tried ∷ end-did ∷ []

      -- the exchange found another word than that of the pass's share alone, and no step before had left it there
      abbrev lost : HasLost (done ++ both) (places.State p) (word_of 1 version)
      lost = record {
        earlier = done;
        step = raise-tried;
        later = end-did ∷ [];
        cut = refl;
        is = (
          found,
          subst (λ (n : ℕ). IsLost raise-tried (places.State p) n found) is
              (lost-one (places.State p) expects found (word_of LOCKED (version_of expects)) ne),
          h.foreign found (λ e. ne (e ∙ sym is)),
        );
      }

      missed-raise : IsMissed p word written (done ++ both)
      missed-raise = record {
        why = inr (lost, h.shared);
        cleaned = λ e. let there = h.cleaned e in (
          there.0,
          saved-front p word there.0 done both there.2
              (no-fault p raise-tried refl, (no-fault p end-did refl, tt)),
        );
        unwritten = λ e. unsaved-both p done both (h.kept e)
            (unsaved-both p (raise-tried ∷ []) (end-did ∷ []) (unsaved-one p raise-tried refl refl)
            (unsaved-one p end-did refl refl));
        unreleased =
            each-both (λ (d : Did). d.at ≡ places.State p → d.found ≡ None → d.wrote ≡ None) done both h.unreleased
            ((λ here none. absurd (none-some found (sym none))), ((λ here none. absurd (none-some last (sym none))), tt));
      }

      pub raise-lost : Advances phases.Raise (p, word) (stages.Shared written) (stages.Lost written) done v x w
      raise-lost =
          quietly-to phases.Raise (p, word) (stages.Shared written) (stages.Lost written) done both v x w
          (quietly-then phases.Raise (p, word) (raise-tried ∷ []) (end-did ∷ []) x y w raise-tried-quiet gone)
          (missed-raise, given-rests p word v y held-on phases.Raise last w u)
          tt (gives-nothing refl refl refl)
          -- a pass that is alone has the one share that it knows of
          (λ alone page k. absurd (ne (found-first raise-tried [] [] x y raise-work.alone alone found refl ∙ k.0.now ∙ sym is)))
