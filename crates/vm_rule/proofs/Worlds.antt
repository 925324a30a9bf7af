-- The world that is read after a step of one pass: it is the world after the event.
use Rattle.std.proofs.Common.{eq-eqb, ne_eqb}
use Rattle.vm_event.specs.{declared.event.Event.TheVariants.Release, History.stored as store_history}
use Rattle.vm_rule.specs.declared.view.WordPlace.TheVariants as places
use Rattle.vm_rule.specs.declared.view.Release.{Release as Released}
use Rattle.vm_rule.proofs.{Found.content-here, Found.loads-here, Found.seat-here}
use Rattle.vm_rule.proofs.{Found.seats-here, Parts.upd-is, Views.block-same}
use Rattle.vm_event.specs.declared.event.PageAct.TheVariants as acts
use Rattle.vm_event.specs.Step.{keeps_number}
use Rattle.vm_owner.specs.Numbers.{has}
use Rattle.vm_rule.specs.Reading.{holdings, numbers_held}
use Rattle.vm_rule.proofs.Alone.{after-act, after-left, after-look, after-releasee, taken-locks, taken-lockw}
use Rattle.vm_rule.proofs.Alone.{taken-lockx, taken-mark, taken-unmark, taken-upgrade, worlds-same}
use Rattle.vm_rule.proofs.Views.{at-there}
use Rattle.vm_rule.proofs.Prelude.{cases_eq, fun_ext, spent, ◌==◌}
use Rattle.vm_rule.proofs.Cores.{core-seat, core-state, core-step, core-word, held-still, loads-put, loads-still}
use Rattle.vm_rule.proofs.Cores.{numbers-put, numbers-still, seats-put, seats-still}
use Rattle.vm_rule.proofs.Prelude.{[], after_releases, ap, appended, at_page, block_of, Bool, cases_Bool, core_from}
use Rattle.vm_rule.proofs.Prelude.{core_shown, Downgrade, drafted, eqb, EVICTED, false, finds, first_history, found}
use Rattle.vm_rule.proofs.Prelude.{framed, frames_held, get_elem?, histories_of, History, if◌then◌else◌, index_of}
use Rattle.vm_rule.proofs.Prelude.{Inv, kept_loads, last_in, left_of, length, length-set, List, Load, load_frame}
use Rattle.vm_rule.proofs.Prelude.{loads_at, loads_more, loads_of, LOCKED, LockS, LockW, LockX, Look, mapped-place}
use Rattle.vm_rule.proofs.Prelude.{Mapping, Mark, MARKED, None, on_page, one_share_more, open_after, open_frame}
use Rattle.vm_rule.proofs.Prelude.{Option, Origin, Page, pushed, put, refl, ReleaseE, Seat, seat_of, seated, seats_of}
use Rattle.vm_rule.proofs.Prelude.{slice_index, slice_set, Some, some, WordPlace}
use Rattle.vm_rule.proofs.Prelude.{stands_in, State, state_of, Store, subst}
use Rattle.vm_rule.proofs.Prelude.{Stored, stored_at, sym, Table, table_words, TLoad, true, UNLOCKED, UnlockS, Unmark}
use Rattle.vm_rule.proofs.Prelude.{unshared, upd, upd-other, upd-same, upd-self, Upgrade, version_of, View, width}
use Rattle.vm_rule.proofs.Prelude.{word_at, World, world_after, world_of, ℕ, ⊎_elim, ◌++◌, ◌+◌, ◌-◌, ◌<◌, ◌∙◌, ◌∷◌}
use Rattle.vm_rule.proofs.Prelude.{◌≡◌, ◌≢◌}

-- ---- histories

-- the draft of one page changes
pub drafts-put : (start : Origin) (releases : List Released) (drafts : ℕ → List ℕ) (p : ℕ) (x : List ℕ)
    → histories_of start releases (upd drafts p x) ≡ upd (histories_of start releases drafts) p
    (record (histories_of start releases drafts p) { draft = x })
unfolding histories_of
drafts-put start releases drafts p x =
    upd-is (histories_of start releases drafts) (histories_of start releases (upd drafts p x)) p
    (record (histories_of start releases drafts p) { draft = x })
    (ap (λ d. record (histories_of start releases drafts p) { draft = d }) (upd-same drafts p x))
    (λ q ne. ap (λ d. record (histories_of start releases drafts q) { draft = d }) (upd-other drafts p x q ne))

pub last-same : (start : Origin) (releases : List Released) (drafts drafts' : ℕ → List ℕ) (p : ℕ)
    → (histories_of start releases drafts p).last ≡ (histories_of start releases drafts' p).last
unfolding histories_of
last-same start releases drafts drafts' p = refl

pub last-is : (start : Origin) (releases : List Released) (drafts : ℕ → List ℕ) (p : ℕ)
    → last_in start releases p ≡ (histories_of start releases drafts p).last
unfolding histories_of
last-is start releases drafts p = refl

pub draft-is : (start : Origin) (releases : List Released) (drafts : ℕ → List ℕ) (p : ℕ)
    → (histories_of start releases drafts p).draft ≡ drafts p
unfolding histories_of
draft-is start releases drafts p = refl

-- a lock that is taken opens the draft, equal to the last words
pub drafts-opened : (start : Origin) (releases : List Released) (drafts : ℕ → List ℕ) (p : ℕ)
    → histories_of start releases (upd drafts p (last_in start releases p).words) ≡ upd
    (histories_of start releases drafts) p (drafted (histories_of start releases drafts p))
drafts-opened start releases drafts p =
    drafts-put start releases drafts p (last_in start releases p).words
    ∙ (λ i. upd (histories_of start releases drafts) p
    (record (histories_of start releases drafts p) { draft = (last-is start releases drafts p i).words }))

-- one release more, of the page and of another
after-snoc : (p : ℕ) (h : History) (rs : List Released) (r : Released)
    → after_releases p h (rs ++ r ∷ []) ≡ (if eqb r.page p then pushed (after_releases p h rs) r else after_releases p
    h rs)
after-snoc p h [] r = refl
after-snoc p h (x ∷ xs) r = after-snoc p (if eqb x.page p then pushed h x else h) xs r

after-here : (p : ℕ) (h : History) (rs : List Released) (r : Released) → r.page ≡ p
    → after_releases p h (rs ++ r ∷ []) ≡ pushed (after_releases p h rs) r
after-here p h rs r e = rw (after-snoc p h rs r, eq-eqb r.page p e) refl

after-else : (q : ℕ) (h : History) (rs : List Released) (r : Released) → q ≢ r.page
    → after_releases q h (rs ++ r ∷ []) ≡ after_releases q h rs
after-else q h rs r ne = rw (after-snoc q h rs r, ne_eqb r.page q (λ e. ne (sym e))) refl

pub last-here : (start : Origin) (releases : List Released) (r : Released) (p : ℕ) → r.page ≡ p
    → (last_in start (releases ++ r ∷ []) p).version ≡ r.version
last-here start releases r p e = ap (λ (h : History). h.last.version) (after-here p (first_history start p) releases r e)

pub last-else : (start : Origin) (releases : List Released) (r : Released) (p : ℕ) → p ≢ r.page
    → last_in start (releases ++ r ∷ []) p ≡ last_in start releases p
last-else start releases r p ne = ap (λ (h : History). h.last) (after-else p (first_history start p) releases r ne)

pub release-here : (start : Origin) (releases : List Released) (drafts : ℕ → List ℕ) (r : Released)
    → histories_of start (releases ++ r ∷ []) drafts r.page ≡ pushed (histories_of start releases drafts r.page) r
unfolding histories_of
release-here start releases drafts r = ap (λ (h : History). record h { draft = drafts r.page })
    (after-here r.page (first_history start r.page) releases r refl)

pub release-else : (start : Origin) (releases : List Released) (drafts : ℕ → List ℕ) (r : Released) (q : ℕ)
    → q ≢ r.page → histories_of start (releases ++ r ∷ []) drafts q ≡ histories_of start releases drafts q
unfolding histories_of
release-else start releases drafts r q ne =
    ap (λ (h : History). record h { draft = drafts q }) (after-else q (first_history start q) releases r ne)

-- the release of a page's draft
abbrev pub release_of : Origin → List Released → (ℕ → List ℕ) → ℕ → Released
release_of start releases drafts p = record { page = p; version = (last_in start releases p).version + 1; words = drafts p }

pub release-appends : (start : Origin) (releases : List Released) (drafts : ℕ → List ℕ) (p : ℕ)
    → histories_of start (releases ++ release_of start releases drafts p ∷ []) drafts ≡ upd
    (histories_of start releases drafts) p (appended (histories_of start releases drafts p))
unfolding histories_of
release-appends start releases drafts p =
    let r : Released = release_of start releases drafts p in
    upd-is (histories_of start releases drafts) (histories_of start (releases ++ r ∷ []) drafts) p _
    (release-here start releases drafts r) (release-else start releases drafts r)

-- ---- where a frame stands

-- a frame that stands in a page stands in no other
pub stands-one : (w : World) (f p q : ℕ) → Inv w → stands_in (w.core.pages p).trans f ≡ true → q ≢ p
    → stands_in (w.core.pages q).trans f ≡ false
stands-one w f p q inv e ne = (inv.frames f).mapped q ∙ ap (λ y. at_page y q)
    (mapped-place (inv.place f) p (sym ((inv.frames f).mapped p) ∙ e)) ∙ ne_eqb q p ne

-- who stores into the frame of its page writes that page's draft, and no other
pub stores-else : (r : Page) (h : History) (a f i x : ℕ) → stands_in r.trans f ≡ false → store_history r h a f i x ≡ h
stores-else r h a f i x e = ⊎_elim (λ t. rw t (rw e refl)) (λ n. rw n refl) (cases_Bool (r.seats a).exclusive)

stores-here : (r : Page) (h : History) (a f i x : ℕ) → (r.seats a).exclusive ≡ true → stands_in r.trans f ≡ true
    → store_history r h a f i x ≡ record h { draft = slice_set h.draft i x }
stores-here r h a f i x owns e = rw (owns, e) refl

-- ---- steps

module _ {X B : Type 0} (stored : B → Stored) (start : Origin) where
  -- the table after one word is written and one view has changed; and after one view has changed
  abbrev pub wrote : Table (Option B) (View X) → ℕ → WordPlace → ℕ → View X → Table (Option B) (View X)
  wrote s id place x w = record { words = slice_set s.words (index_of start place) x; homes = s.homes; views = slice_set s.views id w }

  abbrev pub stayed : Table (Option B) (View X) → ℕ → View X → Table (Option B) (View X)
  stayed s id w = record { words = s.words; homes = s.homes; views = slice_set s.views id w }

  -- a view that tells the same, and no word
  pub core-still : (s : Table (Option B) (View X)) (id : ℕ) (v w : View X) → get_elem? s.views id ≡ some v
      → w.out ≡ v.out → holdings w ≡ holdings v → w.seats ≡ v.seats
      → core_shown stored start (stayed s id w) ≡ core_shown stored start s
  core-still s id v w there out frames seats i =
      core_from start (length-set s.views id w i) (table_words start s.words)
      (block-same stored s.homes s.views id v w there out i) (seats-still s.views id v w there seats i)
      (held-still s.views id v w there (ap (λ (h : List ℕ × List ℕ). h.0) frames) i)
      (numbers-still s.views id v w there (ap (λ (h : List ℕ × List ℕ). h.1) frames) i)

  -- a word is stored into a frame; which drafts it changes is the event's
  pub store-core : (s : Table (Option B) (View X)) (id : ℕ) (v w : View X) (f i x : ℕ) → length s.words ≡ width start
      → f < start.frames → i < start.size → get_elem? s.views id ≡ some v
      → w.out ≡ v.out → holdings w ≡ holdings v → w.seats ≡ v.seats
      → core_shown stored start (wrote s id (places.Content f i) x w) ≡ stored_at (core_shown stored start s) f i x
  store-core s id v w f i x wide lf li there out frames seats =
      core-step stored start s id v w (places.Content f i) x wide (lf, li) there out _ _ _
      (seats-still s.views id v w there seats)
      (held-still s.views id v w there (ap (λ (h : List ℕ × List ℕ). h.0) frames))
      (numbers-still s.views id v w there (ap (λ (h : List ℕ × List ℕ). h.1) frames))
      ∙ core-word start (length s.views) (table_words start s.words) (block_of stored s.homes s.views)
      (seats_of s.views) (frames_held s.views) (numbers_held s.views) f i x li

  module _ (s : Table (Option B) (View X)) (releases : List Released) (drafts : ℕ → List ℕ) (id : ℕ) (v w : View X) where
    abbrev c : State
    c = core_shown stored start s

    abbrev page : ℕ → Page
    page p = c.pages p

    abbrev old : World
    old = world_of stored start releases drafts s

    abbrev histories : ℕ → History
    histories = histories_of start releases drafts

    pub world-still : get_elem? s.views id ≡ some v → w.out ≡ v.out → holdings w ≡ holdings v → w.seats ≡ v.seats
        → w.loads ≡ v.loads → world_of stored start releases drafts (stayed s id w) ≡ old
    world-still there out frames seats loads =
        worlds-same (core-still s id v w there out frames seats) refl (loads-still s.views id v w there loads)

    -- what the pass has of page p becomes g of it
    row-moved : (p : ℕ) (g : Seat → Seat) → p < start.pages → get_elem? s.views id ≡ some v
        → upd (seats_of s.views p) id (g (seat_of v p)) ≡ upd (page p).seats id (g ((page p).seats id))
    row-moved p g l there i = upd (sym (seats-here stored start s p l) i) id (g (sym (seat-here stored start s id p v l there) i))

    -- the core that is read where that changes, and no word
    seat-step : (p : ℕ) (g : Seat → Seat) → p < start.pages → get_elem? s.views id ≡ some v → w.out ≡ v.out
        → holdings w ≡ holdings v → w.seats ≡ put p (g (seat_of v p)) v.seats
        → core_shown stored start (stayed s id w) ≡ on_page c p (seated (page p) id (g ((page p).seats id)))
    seat-step p g l there out frames seats =
        (λ i. core_from start (length-set s.views id w i) (table_words start s.words)
        (block-same stored s.homes s.views id v w there out i)
        (seats-put s.views id p v w (g (seat_of v p)) there seats i)
        (held-still s.views id v w there (ap (λ (h : List ℕ × List ℕ). h.0) frames) i)
        (numbers-still s.views id v w there (ap (λ (h : List ℕ × List ℕ). h.1) frames) i))
        ∙ core-seat start (length s.views) (table_words start s.words) (block_of stored s.homes s.views)
        (seats_of s.views) (frames_held s.views) (numbers_held s.views) p
        (upd (seats_of s.views p) id (g (seat_of v p))) l
        ∙ (λ i. on_page c p (record (page p) { seats = row-moved p g l there i }))

    -- and where a state word is written; the pass may hold other page numbers then
    state-moved : (p x state version : ℕ) (row row' : ℕ → Seat) (numbers' : ℕ → ℕ → Bool)
        → length s.words ≡ width start → p < start.pages → get_elem? s.views id ≡ some v → w.out ≡ v.out
        → w.frames ≡ v.frames
        → numbers_held (slice_set s.views id w) ≡ numbers'
        → seats_of (slice_set s.views id w) ≡ upd (seats_of s.views) p row → row ≡ row' → state_of x ≡ state
        → version_of x ≡ version
        → core_shown stored start (wrote s id (places.State p) x w) ≡ record (on_page c p (record (page p) {
          state = state;
          version = version;
          seats = row';
        })) { numbers = numbers' }
    state-moved p x state version row row' numbers' wide l there out frames numbers seats moved is keeps =
        core-step stored start s id v w (places.State p) x wide l there out _ _ _ seats (held-still s.views id v w there frames) numbers
        ∙ core-state start (length s.views) (table_words start s.words) (block_of stored s.homes s.views)
        (seats_of s.views) (frames_held s.views) numbers' p x row l
        ∙ (λ i. record (on_page c p (record (page p) { state = is i; version = keeps i; seats = moved i })) { numbers = numbers' })

    state-step : (p x state version : ℕ) (row row' : ℕ → Seat) → length s.words ≡ width start → p < start.pages
        → get_elem? s.views id ≡ some v → w.out ≡ v.out → holdings w ≡ holdings v
        → seats_of (slice_set s.views id w) ≡ upd (seats_of s.views) p row → row ≡ row' → state_of x ≡ state
        → version_of x ≡ version
        → core_shown stored start (wrote s id (places.State p) x w) ≡ on_page c p (record (page p) {
          state = state;
          version = version;
          seats = row';
        })
    state-step p x state version row row' wide l there out frames seats moved is keeps =
        state-moved p x state version row row' (numbers_held s.views) wide l there out
        (ap (λ (h : List ℕ × List ℕ). h.0) frames)
        (numbers-still s.views id v w there (ap (λ (h : List ℕ × List ℕ). h.1) frames)) seats moved is keeps

    -- ---- loads

    -- a look; y is any page with the state and the version of the page
    pub look-step : (p : ℕ) (y : Page) → p < start.pages → get_elem? s.views id ≡ some v
        → w.out ≡ v.out → holdings w ≡ holdings v → y.state ≡ (page p).state → y.version ≡ (page p).version
        → w.seats ≡ put p (record
        (seat_of v p) { reading = open_after (left_of y (seat_of v p).reading) (seat_of v p).reading y.version })
        v.seats
        → w.loads ≡ put p (kept_loads (left_of y (seat_of v p).reading) (loads_at v p)) v.loads
        → world_of stored start releases drafts (stayed s id w) ≡ world_after old (Look id p)
    look-step p y l there out frames state version seats loads =
        let r : Page = page p in
        let here : seat_of v p ≡ r.seats id = sym (seat-here stored start s id p v l there) in
        let mine : loads_at v p ≡ loads_of s.views p id = sym (loads-here stored start s id p v there) in
        subst (λ (z : World). world_of stored start releases drafts (stayed s id w) ≡ z)
        (sym (after-look old (λ _. refl) id p))
        (worlds-same
        (seat-step p (λ k. record k { reading = open_after (left_of y k.reading) k.reading y.version }) l there out frames seats
        ∙ (λ j. on_page c p (seated r id (record (r.seats id) {
          reading = open_after (left_of (record r {
            state = state j;
            version = version j;
          }) (r.seats id).reading) (r.seats id).reading (version j);
        }))))
        refl
        (loads-put s.views id p v w (kept_loads (left_of y (seat_of v p).reading) (loads_at v p)) there loads
        ∙ (λ j. upd (loads_of s.views) p (upd (loads_of s.views p) id (kept_loads (left_of (record r {
          state = state j;
          version = version j;
        }) (here j).reading) (mine j))))))

    -- a translation word is loaded
    pub tload-step : (p : ℕ) (t : Option Mapping) → p < start.pages → get_elem? s.views id ≡ some v
        → w.out ≡ v.out → holdings w ≡ holdings v → w.loads ≡ v.loads → (page p).trans ≡ t
        → w.seats ≡ put p (record (seat_of v p) { reading = framed (seat_of v p).reading t }) v.seats
        → world_of stored start releases drafts (stayed s id w) ≡ world_after old (TLoad id p)
    tload-step p t l there out frames loads trans seats =
        let r : Page = page p in
        worlds-same
        (seat-step p (λ k. record k { reading = framed k.reading t }) l there out frames seats
        ∙ (λ j. on_page c p (seated r id (record (r.seats id) { reading = framed (r.seats id).reading (sym trans j) }))))
        refl (loads-still s.views id v w there loads)

    -- a word of a frame is loaded
    pub load-step : (p i f n : ℕ) → p < start.pages → f < start.frames → i < start.size → get_elem? s.views id ≡ some v
        → w.out ≡ v.out → holdings w ≡ holdings v → w.seats ≡ v.seats → load_frame (page p) id ≡ Some f
        → n ≡ slice_index s.words (index_of start (places.Content f i))
        → w.loads ≡ put p (loads_more (open_frame (seat_of v p).reading) (loads_at v p) i n) v.loads
        → world_of stored start releases drafts (stayed s id w) ≡ world_after old (Load id p i)
    load-step p i f n l lf li there out frames seats reads is loads =
        let here : seat_of v p ≡ (page p).seats id = sym (seat-here stored start s id p v l there) in
        let mine : loads_at v p ≡ loads_of s.views p id = sym (loads-here stored start s id p v there) in
        let word : n ≡ word_at c.words (load_frame (page p) id) i = is ∙ sym (content-here stored start s f i lf li)
        ∙ sym (ap (λ o. word_at c.words o i) reads) in
        worlds-same (core-still s id v w there out frames seats) refl
        (loads-put s.views id p v w (loads_more (open_frame (seat_of v p).reading) (loads_at v p) i n) there loads
        ∙ (λ j. upd (loads_of s.views) p (upd (loads_of s.views p) id (loads_more (open_frame (here j).reading) (mine j) i (word j)))))

    -- ---- steps that write a state word

    -- what such a step asks: the views but that of the pass are as they were, and so is this pass's but for its seat
    -- and its loads
    abbrev Writes : ℕ → Type 0 → Type 0
    Writes p T = length s.words ≡ width start → p < start.pages → get_elem? s.views id ≡ some v → w.out ≡ v.out
        → holdings w ≡ holdings v → T

    -- the word x is the page's at this state, and has the version expected, which the page has
    abbrev Exchanges : (p expects x state : ℕ) → Type 0 → Type 0
    Exchanges p expects x state T = state_of x ≡ state → version_of x ≡ version_of expects → finds (page p) expects ≡ true → T

    -- a lock is taken, by which the pass has this seat
    abbrev Takes : (p expects x state : ℕ) → Seat → Type 0 → Type 0
    Takes p expects x state seat T = Writes p (w.seats ≡ put p seat v.seats → w.loads ≡ put p [] v.loads → Exchanges p expects x state T)

    taken : (drafts' : ℕ → List ℕ) (after : ℕ → History) → histories_of start releases drafts' ≡ after
        → (p expects x state : ℕ) (g : Seat → Seat) → Takes p expects x state (g (seat_of v p))
        (world_of stored start releases drafts' (wrote s id (places.State p) x w)
        ≡ record {
          core = on_page c p (record (page p) { state = state; seats = upd (page p).seats id (g ((page p).seats id)) });
          histories = after;
          loads = upd (loads_of s.views) p (upd (loads_of s.views p) id []);
        })
    taken drafts' after drafted p expects x state g wide l there out frames seats loads is keeps finding =
        worlds-same
        (state-step p x state (page p).version _ _ wide l there out frames
        (seats-put s.views id p v w (g (seat_of v p)) there seats) (row-moved p g l there) is
        (keeps ∙ sym (found (page p) expects finding).1))
        drafted (loads-put s.views id p v w [] there loads)

    -- an exclusive lock
    pub lockx-step : (p expects x : ℕ) → Takes p expects x LOCKED (record (seat_of v p) { exclusive = true; reading = None })
        (world_of stored start releases (upd drafts p (last_in start releases p).words)
        (wrote s id (places.State p) x w) ≡ world_after old (LockX id p expects))
    lockx-step p expects x wide l there out frames seats loads is keeps finding =
        taken _ _ (drafts-opened start releases drafts p) p expects x LOCKED (λ k. record k {
          exclusive = true;
          reading = None;
        }) wide l there out frames seats loads is keeps finding
        ∙ sym (taken-lockx old (λ _. refl) id p expects finding)

    -- a share
    pub locks-step : (p expects x : ℕ) → Takes p expects x (one_share_more (state_of expects))
        (record (seat_of v p) { shares = (seat_of v p).shares + 1; reading = None })
        (world_of stored start releases drafts (wrote s id (places.State p) x w) ≡ world_after old (LockS id p expects))
    locks-step p expects x wide l there out frames seats loads is keeps finding =
        taken drafts _ refl p expects x (one_share_more (page p).state) (λ k. record k {
          shares = k.shares + 1;
          reading = None;
        }) wide l there out frames seats loads
        (is ∙ ap one_share_more (sym (found (page p) expects finding).0)) keeps finding
        ∙ sym (taken-locks old (λ _. refl) id p expects finding)

    -- a marked page, for its write-back
    pub lockw-step : (p expects x : ℕ) → Takes p expects x 1 (record (seat_of v p) { shares = 1; writing = true; reading = None })
        (world_of stored start releases drafts (wrote s id (places.State p) x w) ≡ world_after old (LockW id p expects))
    lockw-step p expects x wide l there out frames seats loads is keeps finding =
        taken drafts _ refl p expects x 1 (λ k. record k {
          shares = 1;
          writing = true;
          reading = None;
        }) wide l there out frames seats loads is keeps finding
        ∙ sym (taken-lockw old (λ _. refl) id p expects finding)

    -- a share under write-back that becomes an exclusive lock
    pub upgrade-step : (p expects x : ℕ) → Takes p expects x LOCKED (record {
      shares = 0;
      exclusive = true;
      writing = false;
      reading = None;
    })
        (world_of stored start releases (upd drafts p (last_in start releases p).words)
        (wrote s id (places.State p) x w) ≡ world_after old (Upgrade id p expects))
    upgrade-step p expects x wide l there out frames seats loads is keeps finding =
        taken _ _ (drafts-opened start releases drafts p) p expects x LOCKED (λ k. record {
          shares = 0;
          exclusive = true;
          writing = false;
          reading = None;
        }) wide l there out frames seats loads is keeps finding
        ∙ sym (taken-upgrade old (λ _. refl) id p expects finding)

    -- an exchange of the state alone
    abbrev Marks : (p expects x state : ℕ) → World → Type 0
    Marks p expects x state new =
        Writes p (w.seats ≡ v.seats → w.loads ≡ v.loads
        → Exchanges p expects x state (world_of stored start releases drafts (wrote s id (places.State p) x w) ≡ new))

    marked : (p expects x state : ℕ) → Marks p expects x state (record old { core = on_page c p (record (page p) { state = state }) })
    marked p expects x state wide l there out frames seats loads is keeps finding =
        worlds-same
        (state-step p x state (page p).version _ _ wide l there out frames
        (seats-still s.views id v w there seats ∙ sym (upd-self (seats_of s.views) p))
        (sym (seats-here stored start s p l)) is (keeps ∙ sym (found (page p) expects finding).1))
        refl (loads-still s.views id v w there loads)

    -- an unlocked page is marked, and its mark taken away
    pub mark-step : (p expects x : ℕ) → Marks p expects x MARKED (world_after old (Mark id p expects))
    mark-step p expects x wide l there out frames seats loads is keeps finding =
        marked p expects x MARKED wide l there out frames seats loads is keeps finding
        ∙ sym (taken-mark old (λ _. refl) id p expects finding)

    pub unmark-step : (p expects x : ℕ) → Marks p expects x UNLOCKED (world_after old (Unmark id p expects))
    unmark-step p expects x wide l there out frames seats loads is keeps finding =
        marked p expects x UNLOCKED wide l there out frames seats loads is keeps finding
        ∙ sym (taken-unmark old (λ _. refl) id p expects finding)

    -- a share is given up
    pub unlocks-step : (p x : ℕ) → Writes p (w.loads ≡ v.loads → w.seats ≡ put p (unshared (seat_of v p)) v.seats
        → state_of x ≡ (page p).state - 1 → version_of x ≡ (page p).version
        → world_of stored start releases drafts (wrote s id (places.State p) x w) ≡ world_after old (UnlockS id p))
    unlocks-step p x wide l there out frames loads seats is keeps =
        worlds-same
        (state-step p x ((page p).state - 1) (page p).version _ _ wide l there out frames
        (seats-put s.views id p v w (unshared (seat_of v p)) there seats) (row-moved p unshared l there) is keeps)
        refl (loads-still s.views id v w there loads)
        ∙ sym (after-act old (λ _. refl) id p acts.UnlockS)

    -- an exclusive lock is given up for this seat, at the next version: the draft is the release
    abbrev Releases : (p x state : ℕ) → Seat → World → Type 0
    Releases p x state seat new = Writes p (w.loads ≡ v.loads → w.seats ≡ put p seat v.seats → state_of x ≡ state
        → version_of x ≡ (page p).version + 1
        → world_of stored start (releases ++ release_of start releases drafts p ∷ []) drafts (wrote s id (places.State p) x w) ≡ new)

    released : (p x state : ℕ) (g : Seat → Seat) → Releases p x state (g (seat_of v p)) (record {
      core = on_page c p (record (page p) {
        state = state;
        version = (page p).version + 1;
        seats = upd (page p).seats id (g ((page p).seats id));
      });
      histories = upd histories p (appended (histories p));
      loads = loads_of s.views;
    })
    released p x state g wide l there out frames loads seats is next =
        worlds-same
        (state-step p x state ((page p).version + 1) _ _ wide l there out frames
        (seats-put s.views id p v w (g (seat_of v p)) there seats) (row-moved p g l there) is next)
        (release-appends start releases drafts p) (loads-still s.views id v w there loads)

    -- it is evicted
    pub releasee-step : (p x : ℕ) → Releases p x EVICTED (record (seat_of v p) { exclusive = false }) (world_after old (ReleaseE id p))
    releasee-step p x wide l there out frames loads seats is next =
        released p x EVICTED (λ k. record k { exclusive = false }) wide l there out frames loads seats is next
        ∙ sym (after-releasee old (λ _. refl) id p)

    -- the page stays in its frame, and the pass may hold its number no more
    abbrev Leaves : (p x state : ℕ) → Seat → World → Type 0
    Leaves p x state seat new = length s.words ≡ width start → p < start.pages → get_elem? s.views id ≡ some v
        → w.out ≡ v.out → w.frames ≡ v.frames
        → ((h : ℕ) → has h w.numbers ≡ (if keeps_number c p then has h v.numbers else (if h == p then false else has h v.numbers)))
        → w.loads ≡ v.loads → w.seats ≡ put p seat v.seats → state_of x ≡ state → version_of x ≡ (page p).version + 1
        → world_of stored start (releases ++ release_of start releases drafts p ∷ []) drafts (wrote s id (places.State p) x w) ≡ new

    -- the numbers that the passes hold afterwards
    abbrev numbers_after : ℕ → ℕ → ℕ → Bool
    numbers_after p =
        if keeps_number c p then numbers_held s.views else upd (numbers_held s.views) id (upd (numbers_held s.views id) p false)

    numbers-now : (p : ℕ) → get_elem? s.views id ≡ some v
        → ((h : ℕ) → has h w.numbers
        ≡ (if keeps_number c p then has h v.numbers else (if h == p then false else has h v.numbers)))
        → numbers_held (slice_set s.views id w) ≡ numbers_after p
    numbers-now p there is =
        numbers-put s.views id v w there
        ∙ ⊎_elim
        (λ t. rw t (ap (upd (numbers_held s.views) id) (fun_ext (λ h. is h ∙ rw t (own h))) ∙ upd-self (numbers_held s.views) id))
        (λ f. rw f (ap (upd (numbers_held s.views) id) (fun_ext (λ h. is h ∙ rw f (⊎_elim
        (λ e. rw (eq-eqb h p e) (sym (ap (upd (numbers_held s.views id) p false) e ∙ upd-same (numbers_held s.views id) p false)))
        (λ ne. rw (ne_eqb h p ne) (own h ∙ sym (upd-other (numbers_held s.views id) p false h ne)))
        (cases_eq h p))))))
        (cases_Bool (keeps_number c p))
      where
        own : (h : ℕ) → has h v.numbers ≡ numbers_held s.views id h
        own h = ap (λ (y : View X). has h y.numbers) (sym (at-there spent s.views id v there))

    left-in-frame : (p x state : ℕ) (g : Seat → Seat) → Leaves p x state (g (seat_of v p)) (record {
      core = record (on_page c p (record (page p) {
        state = state;
        version = (page p).version + 1;
        seats = upd (page p).seats id (g ((page p).seats id));
      })) { numbers = numbers_after p };
      histories = upd histories p (appended (histories p));
      loads = loads_of s.views;
    })
    left-in-frame p x state g wide l there out frames numbers loads seats is next =
        worlds-same
        (state-moved p x state ((page p).version + 1) _ _ _ wide l there out frames (numbers-now p there numbers)
        (seats-put s.views id p v w (g (seat_of v p)) there seats) (row-moved p g l there) is next)
        (release-appends start releases drafts p) (loads-still s.views id v w there loads)

    pub release-step : (p x : ℕ) → Leaves p x UNLOCKED (record (seat_of v p) { exclusive = false }) (world_after old (Release id p))
    release-step p x wide l there out frames numbers loads seats is next =
        left-in-frame p x UNLOCKED (λ k. record k { exclusive = false }) wide l there out frames numbers loads seats is next
        ∙ sym (after-left old (λ _. refl) id p acts.Release)

    pub downgrade-step : (p x : ℕ) → Leaves p x 1 (record (seat_of v p) {
      shares = 1;
      exclusive = false;
    }) (world_after old (Downgrade id p))
    downgrade-step p x wide l there out frames numbers loads seats is next =
        left-in-frame p x 1 (λ k. record k { shares = 1; exclusive = false }) wide l there out frames numbers loads seats is next
        ∙ sym (after-left old (λ _. refl) id p acts.Downgrade)

    -- a word is stored into the frame of a page that the pass holds exclusively
    pub store-step : (p f i x : ℕ) (dirty : Bool) → Inv old → length s.words ≡ width start → p < start.pages
        → f < start.frames → i < start.size → get_elem? s.views id ≡ some v
        → w.out ≡ v.out → holdings w ≡ holdings v → w.seats ≡ v.seats → w.loads ≡ v.loads
        → (seat_of v p).exclusive ≡ true → (page p).trans ≡ Some (record { frame = f; dirty = dirty })
        → world_of stored start releases (upd drafts p (slice_set (drafts p) i x))
        (wrote s id (places.Content f i) x w) ≡ world_after old (Store id f i x)
    store-step p f i x dirty inv wide l lf li there out frames seats loads owns stands =
        let h : ℕ → History = histories in
        let holds : ((page p).seats id).exclusive ≡ true =
        ap (λ (y : Seat). y.exclusive) (seat-here stored start s id p v l there) ∙ owns in
        let at-p : stands_in (page p).trans f ≡ true = ap (λ t. stands_in t f) stands ∙ eq-eqb f f refl in
        let here : store_history (page p) (h p) id f i x ≡ record (h p) { draft = slice_set (drafts p) i x } =
        stores-here (page p) (h p) id f i x holds at-p ∙ ap (λ l'. record (h p) { draft = slice_set l' i x })
        (draft-is start releases drafts p) in
        worlds-same (store-core s id v w f i x wide lf li there out frames seats)
        (drafts-put start releases drafts p (slice_set (drafts p) i x)
        ∙ sym (upd-is h (λ q. store_history (page q) (h q) id f i x) p
        (record (h p) { draft = slice_set (drafts p) i x }) here
        (λ q ne. stores-else (page q) (h q) id f i x (stands-one old f p q inv at-p ne))))
        (loads-still s.views id v w there loads)
