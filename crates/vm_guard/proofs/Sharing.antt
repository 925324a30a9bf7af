-- A share that is taken at a guard's version: what may be said before the look may be said after it, and what the
-- look and the exchange leave. And a page
-- that is held beside it.
use Rattle.std.specs.Prelude.{IfOk}
use Rattle.vm_event.proofs.PageFacts.{some-is}
use Rattle.vm_owner.specs.Kept.{entries_under}
use Rattle.vm_step.proofs.Asides.{knows-then, still-locking}
use Rattle.vm_step.proofs.steps.Share.{where-said, where-taken}
use Rattle.vm_step.specs.steps.Share.{HasShare, MayTellHeld, MayUnshare, pages_known}
use Rattle.vm_guard.specs.{Guards.IsSharedAt, Guards.IsUnshared, Shares.KeepsShares}
use Rattle.vm_guard.proofs.{Lockings.share-knows, QuietSteps.alone-of, QuietSteps.elsewhere-of, Validating.refused, Validating.stays-open}
use Rattle.vm_guard.proofs.OpenReads.{looked-same, validates-before}
use Rattle.vm_guard.proofs.Prelude.{[], ap, append_assoc, arith, At, began_of, cond-true, Deny, Did, did_load, Each}
use Rattle.vm_guard.proofs.Prelude.{entries_of, Entry, eq-eqb, eqb, Err, false, HasRoom, Held, HoldsPage, IfErr, inl}
use Rattle.vm_guard.proofs.Prelude.{inr, is_readable, IsDenied, IsLocking, IsReading, IsSharing, IsSteady, KeptWord}
use Rattle.vm_guard.proofs.Prelude.{KnowsAsBefore, last_of, LeavesOthers, List, LOCKED, LockValidates, look-holds}
use Rattle.vm_guard.proofs.Prelude.{look-others, look-own, looked-knows, LookTold, Mapping, no_held, None, none-some}
use Rattle.vm_guard.proofs.Prelude.{NoneExpected, NotWorn, Ok, one_share_more, Option, Origin, others-then, WordPlace}
use Rattle.vm_guard.proofs.Prelude.{put_at, refl, Release, Result, Seat, seat_of, set_if, share-brings, share_did}
use Rattle.vm_guard.proofs.Prelude.{share-others, share-seat, ShareTold, slice_index, Some, Start, state_of, subst}
use Rattle.vm_guard.proofs.Prelude.{sym, true, true≢false, version_of, View, word_of, ℕ, ⊎_elim, ◌++◌, ◌+◌, ◌-◌, ◌<◌}
use Rattle.vm_guard.proofs.Prelude.{◌∙◌, ◌∷◌, ◌≡◌, ◌≢◌, ◌≤◌, ◌⊎◌}

module _ {X : Type 0} where
  -- the entry of what is said is the same where the pass's first number and its own entries are
  pub entries-same : (v u : View X) → u.used ≡ v.used → u.mine ≡ v.mine → (said : Option X) → entries_of u said ≡ entries_of v said
  entries-same v u used mine None = refl
  entries-same v u used mine (Some x) = λ i. record {
    number = slice_index (used i) 0;
    count = entries_under (slice_index (used i) 0) (mine i) + 1;
    said = x;
  } ∷ []

  -- pages of which the pass has shares have the last words that they had, where what it knows of its locks is as it was
  pub pages-same : (v u : View X) → ((q : ℕ) → IsLocking (seat_of v q) → KnowsAsBefore v u q) → (qs : List ℕ)
      → Each (HasShare v) qs → pages_known u qs ≡ pages_known v qs
  pages-same v u knows [] has = refl
  pages-same v u knows (q ∷ qs) has = λ i. (q, ((knows q (inr has.0.1)).last i).words) ∷ pages-same v u knows qs has.1 i

  pub shares-same : (v u : View X) → u.start ≡ v.start → ((q : ℕ) → HoldsPage v u q) → (qs : List ℕ)
      → Each (HasShare v) qs → Each (HasShare u) qs
  shares-same v u start holds [] has = tt
  shares-same v u start holds (q ∷ qs) has = (
    (subst (λ (o : Origin). q < o.pages) (sym start) has.0.0, subst (λ n. 1 ≤ n) (sym (holds q).shares) has.0.1),
    shares-same v u start holds qs has.1,
  )

module _ {X : Type 0} (tied : Start → ℕ → List ℕ → ℕ → List ℕ → Type 0) (p word : ℕ) (v u : View X)
    (look : LookTold tied p None word v u) where
  looked : LeavesOthers (λ q. q ≡ p) (did_load (WordPlace.State p) word ∷ []) [] v u
  looked = look-others look (λ q. q ≡ p) refl

  -- what may be said before the look at this version may be said after it
  pub tell-later : (may_hold : Start → List (ℕ × List ℕ) → List (Entry X) → Type 0) (version : ℕ) (said : Option X)
      → version_of word ≡ version → is_readable (state_of word) ≡ true
      → MayTellHeld tied may_hold p version said v → MayTellHeld tied may_hold p (version_of word) said u
  tell-later may_hold version said at open_word may =
      ⊎_elim
      (λ none. inl none)
      (λ m. inr (λ t.
      let k = m (ap (λ (o : Origin). o.tells) (sym looked.start) ∙ t) in (
        k.0,
        shares-same v u looked.start (look-holds look) k.0 k.1,
        λ words size val.
            let one = k.2 words (size ∙ ap (λ (o : Origin). o.size) looked.start)
            (subst (λ n. LockValidates tied p n words v)
            at (validates-before tied p word v u look open_word words val)) in
            subst (λ (o : Origin). may_hold (began_of o) (pages_known u k.0 ++ (p, words) ∷ []) (entries_of u said)) (sym looked.start)
            (subst (λ (ps : List (ℕ × List ℕ)). may_hold (began_of v.start) (ps ++ (p, words) ∷ [])
            (entries_of u said)) (sym (pages-same v u (looked-knows look) k.0 k.1))
            (subst (λ (es : List (Entry X)). may_hold (began_of v.start) (pages_known v k.0 ++ (p, words) ∷ []) es)
            (sym (entries-same v u looked.parts.0 (look-own look).mine said)) one)),
      )))
      may

  module _ (frame guarded : ℕ) (reading : IsReading p guarded frame v) where
    -- a look that finds another version, or the page locked, denies it
    pub share-refused : (version_of word ≢ version_of guarded) ⊎ (state_of word ≡ LOCKED)
        → IsDenied NotWorn (KeptWord guarded) NoneExpected p (Deny.Again (record {
          at = At.Page p;
          first = guarded;
          seen = word;
        })) v u
    share-refused why =
        let d = refused tied p guarded frame None word v u look (inl reading) why in
        record { done = d.done; quiet = d.quiet; evidence = d.evidence; kind = tt; table = d.table; leaves = d.leaves; current = d.current }

    module _ (at : version_of word ≡ version_of guarded) (unlocked : state_of word ≢ LOCKED)
        (small : state_of word < 256) (room : HasRoom word) (said : Option X) (x : View X)
        (t : ShareTold tied p word said word u x) where
      all : LeavesOthers (λ q. q ≡ p) (did_load (WordPlace.State p) word ∷ share_did p word ∷ []) [] v x
      all = others-then looked (share-others refl t (λ q. q ≡ p) refl)

      before : HoldsPage v u p
      before = look-holds look p

      still : (seat_of u p).reading ≡ (seat_of v p).reading
      still = looked-same tied p None word v u look (stays-open tied p guarded frame None word v u look at unlocked small (inl reading))

      seat-then : seat_of x p ≡ record (seat_of v p) { shares = (seat_of v p).shares + 1; reading = None }
      seat-then = share-seat refl t ∙ (λ i. record {
        shares = before.shares i + 1;
        exclusive = before.exclusive i;
        writing = before.writing i;
        reading = None;
      })

      pub shared-at : IsSharedAt tied p frame (version_of guarded) said v x
      shared-at =
          let view = (share-brings refl t).view in
          let es : entries_of u said ≡ entries_of v said = entries-same v u looked.parts.0 (look-own look).mine said in
          let m : (m : Mapping) × ((put_at no_held x.held p).mapping ≡ Some m) =
          some-is (put_at no_held x.held p).mapping (t.resident refl) in
          let framed : m.0.frame ≡ frame = t.reads_from refl (record {
            version = version_of guarded;
            frame = Some frame;
          }) (still ∙ reading.reading) (sym at) frame refl m.0 m.1 in
          let start : x.start ≡ v.start = all.start in
          let sharing : IsSharing p frame x = record {
            page = subst (λ (o : Origin). p < o.pages) (sym start) reading.page;
            frame_is = subst (λ (o : Origin). frame < o.frames) (sym start) reading.frame_is;
            has_share = subst (λ (n : ℕ). 1 ≤ n) (sym (ap (λ (s : Seat). s.shares) seat-then)) (omega arith);
            stands = (m.0, m.1, framed);
          } in
          let mine : x.mine ≡ v.mine ++ entries_of v said =
          ap (λ (y : View X). y.mine) view
          ∙ (where-said u said).1
          ∙ (λ i. (look-own look).mine i ++ (where-taken u said ∙ es) i) in
          let entry : (others : List (Entry X)) × (x.seen ≡ (v.seen ++ others) ++ entries_of v said) = (
            looked.seen.0 ++ (share-brings refl t).others,
            ap (λ (y : View X). y.seen) view
                ∙ (λ i. (looked.seen.1 i ++ (share-brings refl t).others) ++ (where-taken u said ∙ es) i)
                ∙ ap (λ (l : List (Entry X)). l ++ entries_of v said) (append_assoc v.seen looked.seen.0 (share-brings refl t).others),
          ) in
          let own = look-own look in
          let group : (x.pending ≡ v.pending) × (x.owed ≡ v.owed) × (x.next ≡ v.next) = (
            ap (λ (y : View X). y.pending) view ∙ own.group.0,
            ap (λ (y : View X). y.owed) view ∙ own.group.1,
            ap (λ (y : View X). y.next) view ∙ own.group.2,
          ) in
          record {
            done = _;
            elsewhere = elsewhere-of all;
            mine = mine;
            entry = entry;
            group = group;
            numbers = λ tells. (
              ap (λ (y : View X). y.numbers) view ∙ (own.numbers tells).0,
              ap (λ (y : View X). y.freed) view ∙ (own.numbers tells).1,
            );
            alone = alone-of all;
            seat = seat-then;
            knows = λ l. knows-then v u x p (looked-knows look p l) (share-knows t (still-locking v u p before l));
            writes = λ e. subst (λ n. 1 ≤ n) before.shares (t.writes (before.writing ∙ e));
            sharing = sharing;
            takes = record {
              expects = word;
              at = at;
              before = did_load (WordPlace.State p) word ∷ [];
              cut = refl;
              looks = ((refl, refl), tt);
            };
            version_is = t.version ∙ at;
            size = t.size;
            validates = λ tells.
                subst (λ (n : ℕ). LockValidates tied p n (last_of x p).words v) at
                (validates-before tied p word v u look room.open_word (last_of x p).words
                (t.validates (ap (λ (o : Origin). o.tells) looked.start ∙ tells) refl));
            table = λ a.
                let steps = all.runs.words a.0 a.1 in
                steps.1.1
                ∙ ap (λ (o : Option ℕ). set_if o p v.snapshot.words)
                (cond-true (eqb word word) (Some (word_of (one_share_more (state_of word)) (version_of word))) None
                (eq-eqb word word refl)
                ∙ ap (λ (n : ℕ). Some (word_of (one_share_more (state_of n)) (version_of n))) steps.0);
            current = ap (λ (y : View X). y.current) view;
          }

-- ---- a page that is held beside

module _ {X : Type 0} where
  -- what is as it was of page q
  pub as-before : {q : ℕ} {done : List Did} {own : List Release} {v w : View X} → IsSteady done own v w
      → HoldsPage v w q → (IsLocking (seat_of v q) → KnowsAsBefore v w q) → KeepsShares q v w
  as-before steady holds knows = record {
    start = steady.start;
    shares = holds.shares;
    writing = λ reads. holds.writing ∙ reads;
    out = steady.out;
    held = λ has. (knows (inr has)).held;
  }

  -- a share of it is still a share
  pub shares-still : {q frame : ℕ} {v w : View X} → KeepsShares q v w → IsSharing q frame v → IsSharing q frame w
  shares-still {q = q} {frame = frame} keeps h = record {
    page = subst (λ (o : Origin). q < o.pages) (sym keeps.start) h.page;
    frame_is = subst (λ (o : Origin). frame < o.frames) (sym keeps.start) h.frame_is;
    has_share = subst (λ (n : ℕ). 1 ≤ n) (sym keeps.shares) h.has_share;
    stands = (h.stands.0, ap (λ (x : Held). x.mapping) (keeps.held h.has_share) ∙ h.stands.1, h.stands.2);
  }

  -- and can be given up, where the pass does not write the page back and has no block out
  pub can-give : {q : ℕ} {v w : View X} → KeepsShares q v w → 1 ≤ (seat_of v q).shares → (seat_of v q).writing ≡ false
      → v.out ≡ None → MayUnshare w q
  can-give keeps has reads home = record {
    has = subst (λ (n : ℕ). 1 ≤ n) (sym keeps.shares) has;
    told = λ is one. absurd (true≢false (sym is ∙ keeps.writing reads));
    home = λ o is same. absurd (none-some o (sym (keeps.out ∙ home) ∙ is));
  }

  -- whatever the share of another page was answered
  pub beside-shared : {G : Type 0} (r : Result G Deny) (pid frame : G → ℕ) (tied : Start → ℕ → List ℕ → ℕ → List ℕ
      → Type 0) (q p version : ℕ) (said : Option X) (kept : ℕ → Type 0) (v w : View X) → q ≢ p
      → IfOk r (λ g. (pid g ≡ p) × IsSharedAt tied p (frame g) version said v w)
      → IfErr r (λ d. IsDenied NotWorn kept NoneExpected p d v w) → KeepsShares q v w
  beside-shared (Ok g) pid frame tied q p version said kept v w ne ok err =
      as-before ok.1.elsewhere.steady (ok.1.elsewhere.holds q ne) (ok.1.elsewhere.knows q ne)
  beside-shared (Err d) pid frame tied q p version said kept v w ne ok err =
      as-before err.quiet.steady (err.quiet.holds q) (err.quiet.knows q)

  -- the shares of a page after one of them was given up
  pub one-given-up : (q : ℕ) (v u w : View X) → KeepsShares q v u → 1 ≤ (seat_of v q).shares → IsUnshared q u w
      → (seat_of w q).shares + 1 ≡ (seat_of v q).shares
  one-given-up q v u w keeps has gives =
      let less : (seat_of w q).shares ≡ (seat_of u q).shares - 1 = ap (λ (s : Seat). s.shares) gives.seat in
      let same : (seat_of u q).shares ≡ (seat_of v q).shares = keeps.shares in
      omega (arith, less, same, has)
