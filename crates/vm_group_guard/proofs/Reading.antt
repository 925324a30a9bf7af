-- What the looks and loads of a group's start make of each page: an open read at one version, from the frame that the
-- page's
-- translation word names.
use Rattle.vm_event.specs.FrameActs.{frame_or}
use Rattle.vm_guard.proofs.OpenReads.{frame-some, holds-back, left-same, looked-open, looked-same, reads-by}
use Rattle.vm_guard.proofs.OpenReads.{translated-reading}
use Rattle.vm_guard.proofs.Starting.{each-at}
use Rattle.vm_group_guard.proofs.Pages.{numbers-apart}
use Rattle.vm_group_guard.proofs.Prelude.{[], ap, append_assoc, AreTranslated, arith, Bool, Each}
use Rattle.vm_group_guard.proofs.Prelude.{frame_of, Held, held_at, InTurn, is_readable, IsGroupUnmarked}
use Rattle.vm_group_guard.proofs.Prelude.{IsLocking, IsReading, Kept, left_at, length, List, look-others}
use Rattle.vm_group_guard.proofs.Prelude.{looked-knows, LookTells, Mapping, mapping_of, NamesFrame, None, numbers}
use Rattle.vm_group_guard.proofs.Prelude.{numbers-has, Open, open_frame, Option, Origin, ReadIs, refl, Seat, seat_of}
use Rattle.vm_group_guard.proofs.Prelude.{slice_index, Some, Start, state_of, still-locking, subst, suc, sym}
use Rattle.vm_group_guard.proofs.Prelude.{tload-holds, tload-knows, tload-others, Translation, translation_of}
use Rattle.vm_group_guard.proofs.Prelude.{TranslationTold, true, version_of, View, zero, ℕ, ◌++◌, ◌+◌, ◌<◌, ◌∙◌}
use Rattle.vm_group_guard.proofs.Prelude.{◌∷◌, ◌≡◌, ◌≢◌, ◌≤◌, look-holds}
use Rattle.vm_group_guard.proofs.Turns.{made-at}

-- an open read that a translation word was loaded for has a frame
framed-some : (o : Option ℕ) (f : ℕ) → (g : ℕ) × (frame_or o f ≡ Some g)
framed-some None f = (f, refl)
framed-some (Some g) f = (g, refl)

module _ {X : Type 0} where
  -- the pass has an open read of page p, at the version of this word
  pub record Opened (p first : ℕ) (v : View X) : Type 0 where
    pub is : Open
    pub reading : (seat_of v p).reading ≡ Some is
    pub version : is.version ≡ version_of first

  opened-still : (p first : ℕ) (v w : View X) → seat_of w p ≡ seat_of v p → Opened p first v → Opened p first w
  opened-still p first v w same o =
      record { is = o.is; reading = ap (λ (s : Seat). s.reading) same ∙ o.reading; version = o.version }

  -- and this translation word was loaded for it
  pub record Translated (p first t : ℕ) (v : View X) : Type 0 where
    pub is : Open
    pub reading : (seat_of v p).reading ≡ Some is
    pub version : is.version ≡ version_of first
    pub before : List Translation
    pub behind : List Translation
    pub stands : v.translations ≡ before ++ record { page = p; version = version_of first; word = t } ∷ behind
    pub framed : (m : Mapping) → mapping_of t ≡ Some m → (g : ℕ) × (is.frame ≡ Some g)
    pub locked : IsLocking (seat_of v p) → frame_of (held_at v p).mapping ≡ frame_of (mapping_of t)

  translated-made : (p first t : ℕ) (v w : View X) → Opened p first v → TranslationTold p t v w → Translated p first t w
  translated-made p first t v w o told =
      let y = translated-reading p t v w o.is told o.reading in
      let back = holds-back v w p (tload-holds told p) in
      record {
        is = y.0;
        reading = y.1;
        version = y.2 ∙ o.version;
        before = [];
        behind = v.translations;
        stands = ap (λ (x : View X). x.translations) told.brings.view
            ∙ ap (λ r. translation_of p t r ++ v.translations) o.reading
            ∙ (λ i. record { page = p; version = o.version i; word = t } ∷ v.translations);
        framed = λ m e. let k = framed-some o.is.frame m.frame in (k.0, y.3 m e ∙ k.1);
        locked = λ l. let l' : IsLocking (seat_of v p) = still-locking w v p back l in
            ap (λ (h : Held). frame_of h.mapping) (tload-knows told p l').held ∙ sym (told.locked l');
      }

  translated-still : (p first t : ℕ) (v w : View X) (more : List Translation) → seat_of w p ≡ seat_of v p
      → w.translations ≡ more ++ v.translations → held_at w p ≡ held_at v p → Translated p first t v
      → Translated p first t w
  translated-still p first t v w more same list held o = record {
    is = o.is;
    reading = ap (λ (s : Seat). s.reading) same ∙ o.reading;
    version = o.version;
    before = more ++ o.before;
    behind = o.behind;
    stands = list ∙ ap (λ (ts : List Translation). more ++ ts) o.stands
        ∙ sym (append_assoc more o.before (record { page = p; version = version_of first; word = t } ∷ o.behind));
    framed = o.framed;
    locked = λ l. ap (λ (h : Held). frame_of h.mapping) held ∙ o.locked (subst (λ (s : Seat). IsLocking s) same l);
  }

  -- loads of later pages leave it
  passed-by : (p first t q : ℕ) (ts : List ℕ) (v w : View X) → p < q → AreTranslated q ts v w → Translated p first t v
      → Translated p first t w
  passed-by p first t q [] v w l told o = subst (Translated p first t) (sym told) o
  passed-by p first t q (x ∷ ts) v w l told o =
      let f = tload-others told.1 (λ i. i ≡ q) refl in
      let ne : p ≢ q = λ e. omega (arith, l, e) in
      passed-by p first t (suc q) ts told.0 w (omega (arith, l)) told.2
      (translated-still p first t v told.0 (translation_of q x (seat_of v q).reading) (f.seats p ne)
      (ap (λ (y : View X). y.translations) told.1.brings.view) (f.held p ne) o)

  pub translated-all : (first q : ℕ) (ts : List ℕ) (v w : View X) → AreTranslated q ts v w
      → ((k : ℕ) → k < length ts → Opened (q + k) first v)
      → (k : ℕ) → k < length ts → Translated (q + k) first (slice_index ts k) w
  translated-all first q [] v w told opened k l = absurd (omega (arith, l))
  translated-all first q (t ∷ ts) v w told opened zero l =
      let here : q + 0 ≡ q = omega arith in
      subst (λ p. Translated p first t w) (sym here)
      (passed-by q first t (suc q) ts told.0 w (omega arith) told.2
      (translated-made q first t v told.0 (subst (λ p. Opened p first v) here (opened zero l)) told.1))
  translated-all first q (t ∷ ts) v w told opened (suc k) l =
      let f = tload-others told.1 (λ i. i ≡ q) refl in
      let there : suc q + k ≡ q + suc k = omega arith in
      subst (λ p. Translated p first (slice_index ts k) w) there
      (translated-all first (suc q) ts told.0 w told.2
      (λ j low. let at : q + suc j ≡ suc q + j = omega arith in
      let ne : suc q + j ≢ q = λ e. omega (arith, e) in
      opened-still (suc q + j) first v told.0 (f.seats (suc q + j) ne)
      (subst (λ p. Opened p first v) at (opened (suc j) (omega (arith, low))))) k (omega (arith, l)))

  -- page p is read at this version, from the frame that its translation word names
  pub record Named (p seen t : ℕ) (v : View X) : Type 0 where
    pub frame : ℕ
    pub names : frame_of (mapping_of t) ≡ Some frame
    pub inside : frame < v.start.frames
    pub reading : (seat_of v p).reading ≡ Some (record { version = version_of seen; frame = Some frame })
    pub locked : IsLocking (seat_of v p) → frame_of (held_at v p).mapping ≡ Some frame

  named-still : (p seen t : ℕ) (v w : View X) → seat_of w p ≡ seat_of v p → held_at w p ≡ held_at v p
      → w.start ≡ v.start
      → Named p seen t v → Named p seen t w
  named-still p seen t v w same held start o = record {
    frame = o.frame;
    names = o.names;
    inside = subst (λ (s : Origin). o.frame < s.frames) (sym start) o.inside;
    reading = ap (λ (s : Seat). s.reading) same ∙ o.reading;
    locked = λ l. ap (λ (h : Held). frame_of h.mapping) held ∙ o.locked (subst (λ (s : Seat). IsLocking s) same l);
  }

  pub named-reads : (p seen t : ℕ) (v : View X) → p < v.start.pages → is_readable (state_of seen) ≡ true →
      (n : Named p seen t v)
      → IsReading p seen n.frame v
  named-reads p seen t v page open_word n = record {
    page = page;
    frame_is = n.inside;
    open_word = open_word;
    reading = n.reading;
    reads_from = reads-by v p n.frame n.locked (ap open_frame n.reading);
  }

  module _ (keeps : Start → Kept X → Type 0) (tied : Start → ℕ → List ℕ → ℕ → List ℕ → Type 0) (tells : Bool) where
    -- after looks that found a readable word each page has an open read at its version
    looked-opened : (h size first p : ℕ) (v w : View X)
        → InTurn (λ q. LookTells keeps tied tells q None) (numbers h size) first v w
        → is_readable (state_of first) ≡ true → h ≤ p → p < h + size → Opened p first w
    looked-opened h size first p v w told open_word low high =
        made-at (λ q. LookTells keeps tied tells q None) first p (λ _. Unit {0}) (Opened p first) (λ _ _ _ _ _ _. tt)
        (λ q u x l ne o. opened-still p first u x ((look-others l.0 (λ i. i ≡ q) refl).seats p ne) o)
        (λ u x _ l. let k = looked-open tied p None first u x l.0 open_word in
        record { is = k.0; reading = k.1; version = k.2 })
        (numbers h size) (numbers-apart h size) (numbers-has size h p low high) v w told tt

    -- after looks at that version each page is read from the frame that its translation word names
    looked-named : (h size first seen p t : ℕ) (v w : View X)
        → InTurn (λ q. LookTells keeps tied tells q None) (numbers h size) seen v w
        → is_readable (state_of seen) ≡ true → version_of seen ≡ version_of first → h ≤ p → p < h + size
        → Translated p first t v → Named p seen t w
    looked-named h size first seen p t v w told open_word at low high =
        made-at (λ q. LookTells keeps tied tells q None) seen p (Translated p first t) (Named p seen t)
        (λ q u x l ne o. let f = look-others l.0 (λ i. i ≡ q) refl in
        translated-still p first t u x [] (f.seats p ne) (ap (λ (y : View X). y.translations) l.0.brings.view)
        (f.held p ne) o)
        (λ q u x l ne o. let f = look-others l.0 (λ i. i ≡ q) refl in named-still p seen t u x (f.seats p ne)
        (f.held p ne) f.start o)
        made (numbers h size) (numbers-apart h size) (numbers-has size h p low high) v w told
      where
        made : (u x : View X) → Translated p first t u → LookTells keeps tied tells p None seen u x → Named p seen t x
        made u x o l =
            let look = l.0 in
            let now : o.is.version ≡ version_of seen = o.version ∙ sym at in
            let same : left_at seen (seat_of u p).reading ≡ ReadIs.Same =
            ap (left_at seen) o.reading ∙ left-same seen o.is open_word now in
            let n : NamesFrame u.start.frames t (seat_of u p).reading =
            each-at (λ (k : Translation). k.page ≡ p → k.version ≡ version_of seen
            → NamesFrame u.start.frames k.word (seat_of u p).reading) o.before
            (record { page = p; version = version_of first; word = t }) o.behind
            (subst (Each (λ (k : Translation). k.page ≡ p → k.version ≡ version_of seen
            → NamesFrame u.start.frames k.word (seat_of u p).reading)) o.stands (look.frames same)) refl (sym at) in
            let m = frame-some (mapping_of t) n.frame n.names in
            let g = o.framed m.0 m.1 in
            let frame : o.is.frame ≡ Some n.frame =
            g.1 ∙ ap (λ (f : ℕ). Some f) (n.same g.0 (ap open_frame o.reading ∙ g.1)) in
            record {
              frame = n.frame;
              names = n.names;
              inside = subst (λ (s : Origin). n.frame < s.frames) (sym (look-others look
                  (λ i. i ≡ p) refl).start) n.inside;
              reading = looked-same tied p None seen u x look same ∙ o.reading
                  ∙ (λ i. Some (record { version = now i; frame = frame i }));
              locked = λ k. let k' : IsLocking (seat_of u p) = still-locking x u p (holds-back u x p
                  (look-holds look p)) k in
                  ap (λ (h : Held). frame_of h.mapping) (looked-knows look p k').held ∙ o.locked k' ∙ n.names;
            }

    -- so a group is read whose word was readable twice, at one version
    pub started : (h size first seen : ℕ) (ts : List ℕ) (v0 v1 v2 v3 w : View X)
        → InTurn (λ q. LookTells keeps tied tells q None) (numbers h size) first v0 v1
        → IsGroupUnmarked h size first v1 v2 → AreTranslated h ts v2 v3
        → InTurn (λ q. LookTells keeps tied tells q None) (numbers h size) seen v3 w
        → length ts ≡ size → is_readable (state_of first) ≡ true → is_readable (state_of seen) ≡ true
        → version_of seen ≡ version_of first → (k : ℕ) → k < size → Named (h + k) seen (slice_index ts k) w
    started h size first seen ts v0 v1 v2 v3 w one clear loads two count open_word still at k l =
        let low : h ≤ h + k = omega arith in
        let high : h + k < h + size = omega (arith, l) in
        let opened : (j : ℕ) → j < length ts → Opened (h + j) first v2 = λ j lj.
        let o = looked-opened h size first (h + j) v0 v1 one open_word (omega arith) (let s : j < size = subst
        (λ n. j < n) count lj in omega (arith, s)) in
        record { is = o.is; reading = (clear.reads (h + j)).reading ∙ o.reading; version = o.version } in
        looked-named h size first seen (h + k) (slice_index ts k) v3 w two still at low high
        (translated-all first h ts v2 v3 loads opened k (subst (λ n. k < n) (sym count) l))
