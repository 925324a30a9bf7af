-- A lock or a share that was taken: the look, the exchange, and the load of the translation word.
use Rattle.vm_guard.proofs.{Leaving.older-read, QuietSteps.alone-of, QuietSteps.elsewhere-of}
use Rattle.vm_guard.proofs.OpenReads.{frame-some, has-lock, validates-before}
use Rattle.vm_guard.proofs.Prelude.{[], LocksBy, share_did, SharesBy, TakesBy, ap, arith, cond-true, Did, did_load}
use Rattle.vm_guard.proofs.Prelude.{draft_of, Each, each-both, each-map, eq-eqb, eqb, frame_of, framed, has, has_lock}
use Rattle.vm_guard.proofs.Prelude.{HasRoom, HasWritten, Held, held_at, HoldsPage, inl, inr, IsAlone, IsHolding}
use Rattle.vm_guard.proofs.Prelude.{IsLocked, IsLocking, IsSeized, IsShared, IsSharing, IsSome, IsToExpect, IsUnheld}
use Rattle.vm_guard.proofs.Prelude.{knows-then, KnowsAsBefore, KnowsSame, last_of, LeavesOthers, LeavesOwn, length}
use Rattle.vm_guard.proofs.Prelude.{List, lock_did, lock-draft, lock-held, lock-others, lock-own, lock-seat, LOCKED}
use Rattle.vm_guard.proofs.Prelude.{LockTold, LockValidates, look-holds, look-others, look-own, looked-knows}
use Rattle.vm_guard.proofs.Prelude.{LookTold, Mapping, mapping_of, MAX_VERSION, no_held, None, none-some}
use Rattle.vm_guard.proofs.Prelude.{one_share_more, Open, Option, or_left, Origin, others-then, own-then, put, put_at}
use Rattle.vm_guard.proofs.Prelude.{refl, rules, Seat, seat_of, set_if, share-brings, WordPlace, share-last}
use Rattle.vm_guard.proofs.Prelude.{share-others, share-own, share-seat, ShareTold, Some, Start, state_of}
use Rattle.vm_guard.proofs.Prelude.{still-alone, still-locking, subst, sym, tload-holds, tload-knows, tload-others}
use Rattle.vm_guard.proofs.Prelude.{tload-own, tload-seat, TranslationTold, true, Version, version_of, View, word_of}
use Rattle.vm_guard.proofs.Prelude.{ℕ, ◌++◌, ◌+◌, ◌<◌, ◌∙◌, ◌∷◌, ◌≡◌, ◌≢◌, ◌≤◌, ◌⊎◌}

-- a page of the table, as the view knows it that looked at the page's word
pub page-looked : {X : Type 0} {tied : Start → ℕ → List ℕ → ℕ → List ℕ → Type 0} {p word n : ℕ} {v u : View X}
    → LookTold tied p None word v u → u.start.pages ≡ n → p < n → p < v.start.pages
page-looked {p = p} look same page = subst (λ (n : ℕ). p < n) (sym same ∙ ap (λ (y : View _). y.start.pages) look.brings.view) page

-- a page of which the pass has no lock after a call that left its locks was so before
pub unheld-same : {X : Type 0} (p : ℕ) (v u : View X) → HoldsPage v u p → u.owed ≡ v.owed → u.next ≡ v.next → IsUnheld u p → IsUnheld v p
unheld-same p v u h owed next un = search (rules, ap (has p) (sym owed), (λ (e : v.next ≡ Some p). un.next (next ∙ e)))

module _ {X : Type 0} {tied : Start → ℕ → List ℕ → ℕ → List ℕ → Type 0} {p expects : ℕ} {u x : View X}
    (t : LockTold tied p expects expects u x) where
  pub lock-owns : (seat_of x p).exclusive ≡ true
  lock-owns = ap (λ (s : Seat). s.exclusive) (lock-seat refl t)

  pub lock-resident : state_of expects ≢ 255 → IsSome (held_at x p).mapping
  lock-resident resident = subst (λ (h : Held). IsSome h.mapping) (sym (lock-held refl t)) ((t.stands refl).resident resident)

-- a page that was locked where it stands in a frame is held
pub seized-holding : {X : Type 0} {p version : ℕ} {m : Mapping} {v : View X} → IsSeized p version (Some m) v
    → IsHolding p m.frame version m.dirty v
seized-holding {m = m} s = record {
  page = s.page;
  frame_is = s.inside m refl;
  below = s.below;
  owns = s.owns;
  stands = s.mapping;
  owned = s.owned m refl;
  told = s.told;
  at = s.at;
  size = ap length s.draft ∙ s.size;
  free = s.free;
}

-- the steps that take a lock are at the page's words
pub takes-places : {p translation : ℕ} {taken : Did} {done : List Did} → taken.at ≡ WordPlace.State p
    → TakesBy p taken translation done
    → Each (λ (d : Did). (d.at ≡ WordPlace.State p) ⊎ (d.at ≡ WordPlace.Translation p)) done
takes-places {p = p} {translation = translation} {taken = taken} at t =
    subst (Each (λ (d : Did). (d.at ≡ WordPlace.State p) ⊎ (d.at ≡ WordPlace.Translation p))) (sym t.cut)
    (each-both _ t.before (taken ∷ did_load (WordPlace.Translation p) translation ∷ [])
    (each-map _ _ (λ (d : Did) k. inl k.0) t.before t.looks) (inl at, (inr refl, tt)))

-- what the exchange and the load of the translation word leave
module _ {X : Type 0} {tied : Start → ℕ → List ℕ → ℕ → List ℕ → Type 0} {p expects found : ℕ} {u x w : View X}
    (word : ℕ) (version : version_of word ≡ version_of expects) (below : version_of expects < MAX_VERSION)
    (t : LockTold tied p expects expects u x)
    (load : TranslationTold p found x w) where
  pub lock-wrote : (lock_did p expects).wrote ≡ Some (word_of LOCKED (version_of word))
  lock-wrote = cond-true (eqb expects expects) (Some (word_of LOCKED (version_of expects))) None
      (eq-eqb expects expects refl) ∙ ap (λ (n : ℕ). Some (word_of LOCKED n)) (sym version)

  lock-known : KnowsAsBefore x w p
  lock-known = tload-knows load p (inl (lock-owns t))

  held-then : held_at w p ≡ t.held
  held-then = lock-known.held ∙ lock-held refl t

  maps-then : (held_at w p).mapping ≡ mapping_of found
  maps-then = ap (λ (h : Held). h.mapping) lock-known.held
      ∙ sym (load.called (or_left (seat_of x p).exclusive (seat_of x p).writing (lock-owns t)))

  lock-steps : LeavesOthers (λ q. q ≡ p) (lock_did p expects ∷ did_load (WordPlace.Translation p) found ∷ []) [] u w
  lock-steps = others-then (lock-others refl t (λ q. q ≡ p) refl) (tload-others load (λ q. q ≡ p) refl)

  pub seat-then : {v : View X} → HoldsPage v u p → seat_of w p ≡ record (seat_of v p) { exclusive = true; reading = None }
  seat-then h =
      tload-seat load
      ∙ ap (λ (s : Seat). record s { reading = framed s.reading (mapping_of found) }) (lock-seat refl t)
      ∙ (λ i. record { shares = h.shares i; exclusive = true; writing = h.writing i; reading = None })

  pub lock-seized : p < u.start.pages → IsSeized p (version_of word) (mapping_of found) w
  lock-seized page =
      let inside = λ (m : Mapping) (e : mapping_of found ≡ Some m). subst (λ (o : Origin). m.frame < o.frames)
      (sym (tload-others load (λ q. q ≡ p) refl).start) (load.inside m e) in
      let owned = λ (m : Mapping) (e : mapping_of found ≡ Some m).
      let stood : t.held.mapping ≡ Some m = ap (λ (h : Held). h.mapping) (sym held-then) ∙ maps-then ∙ e in
      ap (λ (h : Held). h.owner) held-then ∙ (t.stands refl).owned (λ gone. none-some m (sym ((t.stands refl).empty gone) ∙ stood)) in
      let device = λ (tells : w.start.tells ≡ true) (none : mapping_of found ≡ None).
      let empty : t.held.mapping ≡ None = ap (λ (h : Held). h.mapping) (sym held-then) ∙ maps-then ∙ none in
      ap (λ (h : Held). h.block.words) held-then
      ∙ (t.stands refl).device (ap (λ (o : Origin). o.tells) (sym lock-steps.start) ∙ tells) (λ m e. absurd (none-some m (sym empty ∙ e)))
      ∙ ap (λ (y : Version). y.words) (sym lock-known.last) in
      let told = subst (λ (h : Held). h.fault ≡ h.block.count) (sym held-then) (t.stands refl).told in
      let at = ap (λ (y : Version). y.version) lock-known.last ∙ t.version ∙ sym version in
      let free = ap (has p) ((tload-own load).group.0 ∙ (lock-own refl t).group.0) ∙ t.free refl in
      let paid = ap (has p) ((tload-own load).group.1 ∙ (lock-own refl t).group.1) ∙ (t.unheld refl).paid in
      search (
        rules,
        ap,
        subst (λ (o : Origin). p < o.pages) (sym lock-steps.start) page,
        subst (λ (n : ℕ). n < MAX_VERSION) (sym version) below,
        (tload-holds load p).exclusive ∙ lock-owns t,
        maps-then,
        inside,
        owned,
        told,
        at,
        lock-known,
        lock-draft refl t,
        ap (λ (y : Version). length y.words)
            lock-known.last ∙ t.size ∙ ap (λ (o : Origin). o.size) (sym (tload-others load (λ q. q ≡ p) refl).start),
        device,
        free,
        paid,
      )

  -- behind steps that left the locks and the words, and at most another open read of the page
  pub locked-after : {m : Mapping} {pre : List Did} {v : View X} → mapping_of found ≡ Some m
      → LeavesOthers (λ q. q ≡ p) pre [] v u → LeavesOwn v u → HoldsPage v u p → KnowsSame v u → p < v.start.pages
      → ((o : Open) → (seat_of v p).reading ≡ Some o → o.version ≤ version_of word)
      → (v.start.tells ≡ true → LockValidates tied p (version_of word) (last_of x p).words v)
      → Each (λ (d : Did). (d.at ≡ WordPlace.State p) × (d.wrote ≡ None)) pre
      → IsLocked tied p m.frame (version_of word) m.dirty v w
  locked-after {m = m} {pre = pre} {v = v} named before o h same page older validates at =
      let third : Did = did_load (WordPlace.Translation p) found in
      let done : List Did = pre ++ lock_did p expects ∷ third ∷ [] in
      let all = others-then before lock-steps in
      let own : LeavesOwn v w = own-then o (own-then (lock-own refl t) (tload-own load)) in
      let seized = lock-seized (subst (λ (o : Origin). p < o.pages) (sym before.start) page) in
      let wrote : HasWritten done (WordPlace.State p) (word_of LOCKED (version_of word)) = record {
        earlier = pre;
        step = lock_did p expects;
        later = third ∷ [];
        cut = refl;
        place = refl;
        wrote = lock-wrote;
      } in
      let table = λ (a : IsAlone v).
      let b : IsAlone u = still-alone v u before.parts before.runs.current a in
      (lock-steps.runs.words b.0 b.1).1.1 ∙ (λ i. set_if (lock-wrote i) p (same a i)) in
      let takes : LocksBy p (version_of word) (Some m) done = record {
        expects = expects;
        at = sym version;
        translation = found;
        names = named;
        steps = record { before = pre; cut = refl; looks = at };
      } in
      let holding = seized-holding (subst (λ (o : Option Mapping). IsSeized p (version_of word) o w) named seized) in
      let validated = λ (tells : v.start.tells ≡ true).
      subst (λ (y : Version). LockValidates tied p (version_of word) y.words v) (sym lock-known.last)
      (validates tells) in
      search (
        rules,
        elsewhere-of all,
        own,
        alone-of all,
        unheld-same p v u h o.group.1 o.group.2 (t.unheld refl),
        seat-then h,
        holding,
        seized.draft,
        validated,
        older,
        wrote,
        table,
        ap (λ (y : View X). y.current)
            load.brings.view,
        takes-places refl takes.steps,
        takes,
      )

module _ {X : Type 0} (tied : Start → ℕ → List ℕ → ℕ → List ℕ → Type 0) where
  pub locked : (p word expects found : ℕ) (m : Mapping) (v u x w : View X) → LookTold tied p None word v u
      → IsToExpect word expects → LockTold tied p expects expects u x → TranslationTold p found x w
      → mapping_of found ≡ Some m → p < v.start.pages → IsLocked tied p m.frame (version_of word) m.dirty v w
  locked p word expects found m v u x w look to t load named page =
      let before : LeavesOthers (λ q. q ≡ p) (did_load (WordPlace.State p) word ∷ []) [] v u = look-others look (λ q. q ≡ p) refl in
      locked-after word to.version to.may_lock.version t load named before (look-own look) (look-holds look p)
      (λ a. (before.runs.words a.0 a.1).1) page (older-read word (seat_of v p).reading look.older)
      (λ tells. validates-before tied p word v u look to.open_word (last_of x p).words
      (subst (λ (n : ℕ). LockValidates tied p n (last_of x p).words u) (sym to.version)
      (t.validates (ap (λ (o : Origin). o.tells) before.start ∙ tells) refl)))
      ((refl, refl), tt)

-- ---- a share

module _ {X : Type 0} {tied : Start → ℕ → List ℕ → ℕ → List ℕ → Type 0} {p word : ℕ} {u x : View X} {said : Option X}
    (t : ShareTold tied p word said word u x) where
  pub share-locking : IsLocking (seat_of x p)
  share-locking = inr (subst (λ (n : ℕ). 1 ≤ n) (sym (ap (λ (s : Seat). s.shares) (share-seat refl t))) (omega arith))

  -- what the pass knew of the page, under a lock of its own, it still knows
  pub share-knows : IsLocking (seat_of u p) → KnowsAsBefore u x p
  share-knows l =
      let view = (share-brings refl t).view in
      record {
        held = ap (λ (y : View X). put_at no_held y.held p) view ∙ ap (λ h. put_at no_held h p)
            (cond-true (has_lock (seat_of u p)) u.held (put p t.held u.held) (has-lock (seat_of u p) l));
        draft = ap (λ (y : View X). draft_of y p) view;
        last = share-last refl t p l;
      }

module _ {X : Type 0} (tied : Start → ℕ → List ℕ → ℕ → List ℕ → Type 0) where
  pub shared : (p word found : ℕ) (m : Mapping) (v u x w : View X) → LookTold tied p None word v u → HasRoom word
      → ShareTold tied p word None word u x → TranslationTold p found x w → mapping_of found ≡ Some m
      → p < v.start.pages → IsShared tied p m.frame v w
  shared p word found m v u x w look room t load named page =
      let all = others-then (look-others look (λ q. q ≡ p) refl)
      (others-then (share-others refl t (λ q. q ≡ p) refl) (tload-others load (λ q. q ≡ p) refl)) in
      let own : LeavesOwn v w = own-then (look-own look) (own-then (share-own refl t) (tload-own load)) in
      let before : HoldsPage v u p = look-holds look p in
      let locking : IsLocking (seat_of x p) = share-locking t in
      let known : KnowsAsBefore x w p = tload-knows load p locking in
      let seat-w : seat_of w p ≡ record (seat_of v p) { shares = (seat_of v p).shares + 1; reading = None } =
      tload-seat load
      ∙ ap (λ (s : Seat). record s { reading = framed s.reading (mapping_of found) }) (share-seat refl t)
      ∙ (λ i. record { shares = before.shares i + 1; exclusive = before.exclusive i; writing = before.writing i; reading = None }) in
      let framed-w : frame_of (put_at no_held w.held p).mapping ≡ Some m.frame =
      ap (λ (h : Held). frame_of h.mapping) known.held ∙ sym (load.locked locking) ∙ ap frame_of named in
      let frame-is = subst (λ (o : Origin). m.frame < o.frames) (sym (tload-others load (λ q. q ≡ p) refl).start) (load.inside m named) in
      let sharing : IsSharing p m.frame w =
      search (
        rules,
        subst (λ (o : Origin). p < o.pages) (sym all.start) page,
        frame-is,
        subst (λ (n : ℕ). 1 ≤ n)
            (sym (ap (λ (s : Seat). s.shares) seat-w)) (omega arith),
        frame-some (put_at no_held w.held p).mapping
            m.frame framed-w,
      ) in
      let knows = λ (l : IsLocking (seat_of v p)). knows-then v u w p (looked-knows look p l)
      (knows-then u x w p (share-knows t (still-locking v u p before l)) known) in
      let validates = λ (tells : v.start.tells ≡ true).
      subst (λ (y : Version). LockValidates tied p y.version y.words v) (sym known.last)
      (subst (λ (n : ℕ). LockValidates tied p n (last_of x p).words v) (sym t.version)
      (validates-before tied p word v u look room.open_word (last_of x p).words
      (t.validates (ap (λ (o : Origin). o.tells) (look-others look (λ q. q ≡ p) refl).start ∙ tells) refl))) in
      let takes : SharesBy p m.frame
      (did_load (WordPlace.State p) word ∷ share_did p word ∷ did_load (WordPlace.Translation p) found ∷ []) =
      record {
        expects = word;
        translation = found;
        names = ap frame_of named;
        steps = record { before = did_load (WordPlace.State p) word ∷ []; cut = refl; looks = ((refl, refl), tt) };
      } in
      let table = λ (a : IsAlone v).
      let steps = all.runs.words a.0 a.1 in
      steps.1.1.1
      ∙ ap (λ (o : Option ℕ). set_if o p v.snapshot.words)
      (cond-true (eqb word word) (Some (word_of (one_share_more (state_of word)) (version_of word))) None
      (eq-eqb word word refl) ∙ ap (λ (n : ℕ). Some (word_of (one_share_more (state_of n)) (version_of n)))
      steps.0) in
      search (
        rules,
        elsewhere-of all,
        own,
        alone-of all,
        seat-w,
        knows,
        sharing,
        ap (λ (y : Version). length y.words)
            known.last ∙ t.size ∙ ap (λ (o : Origin). o.size) (sym (tload-others load (λ q. q ≡ p) refl).start),
        validates,
        ap (λ (y : View X). y.current) load.brings.view,
        takes,
        table,
      )
