-- What looks and loads leave of the open read of their page, when a look leaves it in place, and which frame a load under a lock reads.
use Rattle.vm_event.proofs.PageFacts.{none-some}
use Rattle.vm_guard.proofs.Prelude.{[], and_from, ap, arith, began_of, Bool, cases_Bool, cases_eq, cond-false}
use Rattle.vm_guard.proofs.Prelude.{cond-true, Each, eq-eqb, eqb, EVICTED, false, frame_in, frame_of, frame_or}
use Rattle.vm_guard.proofs.Prelude.{frame_read_by, framed, has_lock, HoldsPage, if◌then◌else◌, inl, inr, is_dirty}
use Rattle.vm_guard.proofs.Prelude.{is_readable, is_some, IsLocking, kept_loads, left_at, left_open, List, loads_at}
use Rattle.vm_guard.proofs.Prelude.{LoadsAre, LOCKED, LockValidates, look-loads, look-others, look-seat, LookTold}
use Rattle.vm_guard.proofs.Prelude.{Mapping, mapping_at, mapping_of, NamesFrame, nat_lt, nat_tests, ne_eqb, no_held}
use Rattle.vm_guard.proofs.Prelude.{None, Open, open_after, open_frame, Option, or_left, or_right, Origin, put_at}
use Rattle.vm_guard.proofs.Prelude.{ReadIs, refl, Same, Seat, seat_of, Some, some-same, Start, state_of, subst, sym}
use Rattle.vm_guard.proofs.Prelude.{Tie, tload-seat, Translation, translation_of, TranslationTold, true, true≢false}
use Rattle.vm_guard.proofs.Prelude.{version_of, View, ℕ, ⊎_elim, ◌&&◌, ◌++◌, ◌<◌, ◌||◌, ◌∙◌, ◌∷◌, ◌≡◌, ◌≢◌, ◌⊎◌}

-- ---- open reads alone

-- a look at a readable page leaves an open read at its version
opened-at : (o : Option Open) (n : ℕ) → (x : Open) × (open_after (left_open o n) o n ≡ Some x) × (x.version ≡ n)
opened-at None n = (record { version = n; frame = None }, refl, refl)
opened-at (Some o) n =
    ⊎_elim
    (λ (e : o.version ≡ n). (
      o,
      ap (λ l. open_after l (Some o) n)
          (cond-true (eqb o.version n) ReadIs.Same ReadIs.Moved (eq-eqb o.version n e)),
      e,
    ))
    (λ ne. (
      record {
        version = n;
        frame = None;
      },
      ap (λ l. open_after l (Some o) n) (cond-false (eqb o.version n) ReadIs.Same ReadIs.Moved (ne_eqb o.version n ne)),
      refl,
    ))
    (cases_eq o.version n)

-- an open read at the version of the readable word stays
pub left-same : (found : ℕ) (x : Open) → is_readable (state_of found) ≡ true → x.version ≡ version_of found
    → left_at found (Some x) ≡ ReadIs.Same
left-same found x r e =
    cond-true (is_readable (state_of found)) (left_open (Some x) (version_of found)) ReadIs.Closed r
    ∙ cond-true (eqb x.version (version_of found)) ReadIs.Same ReadIs.Moved (eq-eqb x.version (version_of found) e)

-- one at another version does not, and neither does one of a page that can't be read
pub left-other : (found : ℕ) (x : Open) → (x.version ≢ version_of found) ⊎ (is_readable (state_of found) ≡ false)
    → left_at found (Some x) ≢ ReadIs.Same
left-other found x other same =
    ⊎_elim
    (λ t. ⊎_elim
    (λ ne. let moved : ReadIs.Moved ≡ ReadIs.Same =
    sym (cond-false (eqb x.version (version_of found)) ReadIs.Same ReadIs.Moved
    (ne_eqb x.version (version_of found) ne))
    ∙ sym (cond-true (is_readable (state_of found)) (left_open (Some x) (version_of found)) ReadIs.Closed t)
    ∙ same in cc)
    (λ f. true≢false (sym t ∙ f))
    other)
    (λ f. let closed : ReadIs.Closed ≡ ReadIs.Same =
    sym (cond-false (is_readable (state_of found)) (left_open (Some x) (version_of found)) ReadIs.Closed f)
    ∙ same in cc)
    (cases_Bool (is_readable (state_of found)))

-- a state of 8 bits that is neither Locked nor Evicted is readable, and those two are not
pub readable-state : (state : ℕ) → state < 256 → state ≢ LOCKED → state ≢ EVICTED → is_readable state ≡ true
readable-state state l locked evicted = grind (arith, nat_tests)

pub locked-unreadable : (state : ℕ) → state ≡ LOCKED → is_readable state ≡ false
locked-unreadable state e = rw e refl

-- the open read after a translation was loaded has the version that it had, and the frame that it had or was loaded
framed-at : (o : Open) (m : Option Mapping) → (y : Open) × (framed (Some o) m ≡ Some y) × (y.version ≡ o.version)
    × ((k : Mapping) → m ≡ Some k → y.frame ≡ frame_or o.frame k.frame)
framed-at o None = (o, refl, refl, λ k e. absurd (none-some k e))
framed-at o (Some m) = (
  record o { frame = frame_or o.frame m.frame },
  refl,
  refl,
  λ k e.
      ap (λ (j : Mapping). frame_or o.frame j.frame) (some-same m k e),
)

frame-or : (g : Option ℕ) (f : ℕ) → ((h : ℕ) → frame_or g f ≡ Some h → h ≡ f) → frame_or g f ≡ Some f
frame-or None f same = refl
frame-or (Some g) f same = ap (λ (n : ℕ). Some n) (same g refl)

pub mapped-frame : (word : ℕ) → frame_of (mapping_of word) ≡ frame_in word
mapped-frame word = at-frame (frame_in word) (is_dirty word)
  where
    at-frame : (o : Option ℕ) (dirty : Bool) → frame_of (mapping_at o dirty) ≡ o
    at-frame None dirty = refl
    at-frame (Some f) dirty = refl

-- ---- the frame that a load reads

pub locking-by : (s : Seat) → (s.exclusive || nat_lt 0 s.shares) ≡ true → IsLocking s
locking-by s e =
    ⊎_elim (λ t. inl t)
    (λ f. let shares : nat_lt 0 s.shares ≡ true = ap (λ b. b || nat_lt 0 s.shares) (sym f) ∙ e in inr (grind (arith, nat_tests, shares)))
    (cases_Bool s.exclusive)

read-by : (b : Bool) (m : Option Mapping) (r : Option ℕ) (f : ℕ) → (b ≡ true → frame_of m ≡ Some f) → r ≡ Some f
    → (if b && is_some m then frame_of m else r) ≡ Some f
read-by false m r f h e = e
read-by true None r f h e = e
read-by true (Some m) r f h e = h refl

module _ {X : Type 0} where
  -- a load reads the open read's frame, where that is the page's frame too if the pass has the page locked
  pub reads-by : (v : View X) (p f : ℕ)
      → (IsLocking (seat_of v p) → frame_of (put_at no_held v.held p).mapping ≡ Some f)
      → open_frame (seat_of v p).reading ≡ Some f → frame_read_by v p ≡ Some f
  reads-by v p f h e =
      read-by ((seat_of v p).exclusive || nat_lt 0 (seat_of v p).shares) (put_at no_held v.held p).mapping
      (open_frame (seat_of v p).reading) f
      (λ t. h (locking-by (seat_of v p) t)) e

  pub holds-back : (v w : View X) (q : ℕ) → HoldsPage v w q → HoldsPage w v q
  holds-back v w q h = record { shares = sym h.shares; exclusive = sym h.exclusive; writing = sym h.writing }

  -- the frame that a load of page q reads stays, where its locks, what is known of it and its open read stay
  pub still-read : (v w : View X) (q f : ℕ) → HoldsPage v w q
      → (IsLocking (seat_of v q) → put_at no_held w.held q ≡ put_at no_held v.held q)
      → (seat_of w q).reading ≡ (seat_of v q).reading
      → frame_read_by v q ≡ Some f → open_frame (seat_of v q).reading ≡ Some f → frame_read_by w q ≡ Some f
  still-read v w q f holds held reading by frame =
      let same : ((seat_of w q).exclusive || nat_lt 0 (seat_of w q).shares)
      ≡ ((seat_of v q).exclusive || nat_lt 0 (seat_of v q).shares) =
      (λ i. holds.exclusive i || nat_lt 0 (holds.shares i)) in
      ⊎_elim
      (λ t. let e : put_at no_held w.held q ≡ put_at no_held v.held q = held (locking-by (seat_of v q) t) in
      let whole : frame_read_by w q ≡ frame_read_by v q =
      (λ i. if (holds.exclusive i || nat_lt 0 (holds.shares i)) && is_some (e i).mapping then frame_of
      (e i).mapping else open_frame (reading i)) in
      whole ∙ by)
      (λ no. read-by ((seat_of w q).exclusive || nat_lt 0 (seat_of w q).shares) (put_at no_held w.held q).mapping
      (open_frame (seat_of w q).reading) f
      (λ t. absurd (true≢false (sym t ∙ same ∙ no)))
      (ap open_frame reading ∙ frame))
      (cases_Bool ((seat_of v q).exclusive || nat_lt 0 (seat_of v q).shares))

  -- ---- steps

  module _ (tied : Start → ℕ → List ℕ → ℕ → List ℕ → Type 0) (p : ℕ) where
    -- the open read after a look
    looked-reading : (said : Option X) (found : ℕ) (v w : View X) → LookTold tied p said found v w
        → (seat_of w p).reading ≡ open_after (left_at found (seat_of v p).reading) (seat_of v p).reading
        (version_of found)
    looked-reading said found v w t = ap (λ (s : Seat). s.reading) (look-seat t)

    -- a look at a readable page leaves an open read at its version
    pub looked-open : (said : Option X) (found : ℕ) (v w : View X) → LookTold tied p said found v w → is_readable (state_of found) ≡ true
        → (x : Open) × ((seat_of w p).reading ≡ Some x) × (x.version ≡ version_of found)
    looked-open said found v w t r =
        let o : Option Open = (seat_of v p).reading in
        let k = opened-at o (version_of found) in (
          k.0,
          looked-reading said found v w t
              ∙ ap (λ l. open_after l o (version_of found))
              (cond-true (is_readable (state_of found)) (left_open o (version_of found)) ReadIs.Closed r)
              ∙ k.1,
          k.2,
        )

    -- a look that leaves the open read in place leaves it as it was
    pub looked-same : (said : Option X) (found : ℕ) (v w : View X) → LookTold tied p said found v w
        → left_at found (seat_of v p).reading ≡ ReadIs.Same → (seat_of w p).reading ≡ (seat_of v p).reading
    looked-same said found v w t same =
        looked-reading said found v w t ∙ ap (λ l. open_after l (seat_of v p).reading (version_of found)) same

  -- the open read after its page's translation word was loaded, and the frame that a later look at the same version ties it to
  pub translated-reading : (p word : ℕ) (v w : View X) (o : Open) → TranslationTold p word v w → (seat_of v p).reading ≡ Some o
      → (y : Open) × ((seat_of w p).reading ≡ Some y) × (y.version ≡ o.version)
      × ((k : Mapping) → mapping_of word ≡ Some k → y.frame ≡ frame_or o.frame k.frame)
  translated-reading p word v w o t e =
      let k = framed-at o (mapping_of word) in (
        k.0,
        ap (λ (s : Seat). s.reading) (tload-seat t)
            ∙ ap (λ r. framed r (mapping_of word)) e
            ∙ k.1,
        k.2,
        k.3,
      )

  -- a frame that the open read had stays
  pub translated-keeps : (p word : ℕ) (v w : View X) (version frame : ℕ) → TranslationTold p word v w
      → (seat_of v p).reading ≡ Some (record {
        version = version;
        frame = Some frame;
      }) → (seat_of w p).reading ≡ Some (record { version = version; frame = Some frame })
  translated-keeps p word v w version frame t e =
      ap (λ (s : Seat). s.reading) (tload-seat t)
      ∙ ap (λ r. framed r (mapping_of word)) e
      ∙ keeps (mapping_of word)
    where
      keeps : (m : Option Mapping) → framed (Some (record {
        version = version;
        frame = Some frame;
      })) m ≡ Some (record { version = version; frame = Some frame })
      keeps None = refl
      keeps (Some k) = refl

  -- an open read at the version found gets the frame that the translation word names, and a look at that version finds it in place
  pub named : (tied : Start → ℕ → List ℕ → ℕ → List ℕ → Type 0) (p word seen : ℕ) (v w z : View X) (o : Open)
      → (seat_of v p).reading ≡ Some o → TranslationTold p word v w → LookTold tied p None seen w z
      → is_readable (state_of seen) ≡ true → o.version ≡ version_of seen
      → (f : ℕ) × (frame_in word ≡ Some f) × (f < w.start.frames) × ((seat_of z p).reading ≡ Some (record {
        version = version_of seen;
        frame = Some f;
      }))
  named tied p word seen v w z o reading t l readable at =
      let y = translated-reading p word v w o t reading in
      let same : left_at seen (seat_of w p).reading ≡ ReadIs.Same = ap (left_at seen) y.1 ∙ left-same seen y.0 readable (y.2 ∙ at) in
      let all : Each (λ (t : Translation). t.page ≡ p → t.version ≡ version_of seen
      → NamesFrame w.start.frames t.word (seat_of w p).reading) (record {
        page = p;
        version = o.version;
        word = word;
      } ∷ v.translations)
      = subst (λ ts. Each (λ (t : Translation). t.page ≡ p → t.version ≡ version_of seen
      → NamesFrame w.start.frames t.word (seat_of w p).reading) ts)
      (ap (λ (x : View X). x.translations) t.brings.view ∙ ap (λ r. translation_of p word r ++ v.translations)
      reading) (l.frames same) in
      let n : NamesFrame w.start.frames word (seat_of w p).reading = all.0 refl at in
      let is : frame_in word ≡ Some n.frame = sym (mapped-frame word) ∙ n.names in
      let own : (h : ℕ) → y.0.frame ≡ Some h → h ≡ n.frame = λ h e. n.same h (ap open_frame y.1 ∙ e) in
      let got : y.0.frame ≡ frame_or o.frame n.frame = y.3 (record {
        frame = n.frame;
        dirty = is_dirty word;
      }) (ap (λ m. mapping_at m (is_dirty word)) is) in
      let frame : y.0.frame ≡ Some n.frame = got ∙ frame-or o.frame n.frame (λ h e. own h (got ∙ e)) in (
        n.frame,
        is,
        n.inside,
        looked-same tied p None seen w z l same ∙ y.1 ∙ (λ i. Some (record {
          version = (y.2 ∙ at) i;
          frame = frame i;
        })),
      )

-- ---- under a lock

-- what holds of each of both parts
pub each-parts : {A : Type 0} (P : A → Type 0) (l m : List A) → Each P (l ++ m) → Each P l × Each P m
each-parts P [] m h = (tt, h)
each-parts P (x ∷ l) m h = let k = each-parts P l m h.1 in ((h.0, k.0), k.1)

-- a frame is that of a mapping
pub frame-some : (o : Option Mapping) (f : ℕ) → frame_of o ≡ Some f → (m : Mapping) × (o ≡ Some m) × (m.frame ≡ f)
frame-some None f e = cc
frame-some (Some m) f e = (m, refl, cc)

pub has-lock : (s : Seat) → IsLocking s → has_lock s ≡ true
has-lock s l =
    ⊎_elim
    (λ e. or_left s.exclusive (s.writing || nat_lt 0 s.shares) e)
    (λ k. or_right s.exclusive (s.writing || nat_lt 0 s.shares) (or_right s.writing (nat_lt 0 s.shares) (grind (arith, nat_tests))))
    l

module _ {X : Type 0} where
  -- a load of a page that the pass has locked reads the page's frame
  pub frame-read : (v : View X) (p : ℕ) (m : Mapping) → IsLocking (seat_of v p)
      → (put_at no_held v.held p).mapping ≡ Some m → frame_read_by v p ≡ Some m.frame
  frame-read v p m l e =
      cond-true (((seat_of v p).exclusive || nat_lt 0 (seat_of v p).shares) && is_some
      (put_at no_held v.held p).mapping) (frame_of (put_at no_held v.held p).mapping)
      (open_frame (seat_of v p).reading)
      (and_from ((seat_of v p).exclusive || nat_lt 0 (seat_of v p).shares) (is_some (put_at no_held v.held p).mapping)
      (⊎_elim (λ e. or_left (seat_of v p).exclusive (nat_lt 0 (seat_of v p).shares) e)
      (λ k. or_right (seat_of v p).exclusive (nat_lt 0 (seat_of v p).shares) (grind (arith, nat_tests))) l)
      (ap is_some e))
      ∙ ap frame_of e

  module _ (tied : Start → ℕ → List ℕ → ℕ → List ℕ → Type 0) (p found : ℕ) (v w : View X) (t : LookTold tied p None found v w) where
    module _ (open_word : is_readable (state_of found) ≡ true) where
      -- an open read at the version found is as it was
      read-stays : (o : Open) → (seat_of v p).reading ≡ Some o → o.version ≡ version_of found
          → ((seat_of w p).reading ≡ Some o) × (loads_at w p ≡ loads_at v p)
      read-stays o e n =
          let same : left_at found (seat_of v p).reading ≡ Same = ap (left_at found) e ∙ left-same found o open_word n in
          (looked-same tied p None found v w t same ∙ e, look-loads t ∙ ap (λ (r : ReadIs). kept_loads r (loads_at v p)) same)

      -- what is validated after the look was there before it
      pub validates-before : (words : List ℕ) → LockValidates tied p (version_of found) words w
          → LockValidates tied p (version_of found) words v
      validates-before words val =
          let f = look-others t (λ q. q ≡ p) refl in
          record {
            valid = λ o e n. let k : ((seat_of w p).reading ≡ Some o) × (loads_at w p ≡ loads_at v p) =
                read-stays o e n in subst (LoadsAre words) k.1 (val.valid o k.0 n);
            holds =
                subst (λ (o : Origin). Each (λ (d : Tie). d.page ≡ p → d.version ≡ version_of found
                → tied (began_of o) d.of d.words p words) v.ties) f.start
                (each-parts (λ (d : Tie). d.page ≡ p → d.version ≡ version_of found
                → tied (began_of w.start) d.of d.words p words) f.ties.0 v.ties
                (subst (Each (λ (d : Tie). d.page ≡ p → d.version ≡ version_of found
                → tied (began_of w.start) d.of d.words p words)) f.ties.1 val.holds)).1;
            itself = subst (λ (o : Origin). tied (began_of o) p words p words) f.start val.itself;
          }
