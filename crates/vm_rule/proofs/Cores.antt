-- A step of one pass on one word of the table: the core that is read changes as by the event.
use Rattle.vm_rule.specs.declared.view.WordPlace.TheVariants as places
use Rattle.vm_rule.specs.Reading.{numbers_held}
use Rattle.vm_rule.proofs.{Parts.frame-written, Parts.words-written, Views.at-there}
use Rattle.vm_rule.proofs.{Views.block-same, Views.field-still, Views.views-set}
use Rattle.vm_rule.proofs.Pages.{page-changed, page-in, put-column}
use Rattle.vm_rule.proofs.Prelude.{refl, [], ap, at, block_of, Bool, core_from, core_shown, frames_held, fun_ext}
use Rattle.vm_rule.proofs.Prelude.{get_elem?, has, index_of, length, length-set, List, loads_at, loads_of, mapping_of}
use Rattle.vm_rule.proofs.Prelude.{no_seat, on_page, Option, Origin, page_from, pages_from, put, put_at, Seat}
use Rattle.vm_rule.proofs.Prelude.{seat_of, WordPlace, seats_of, slice_set, some, spent, State, state_of, Stored}
use Rattle.vm_rule.proofs.Prelude.{stored_at, sym, Table, table_words, upd, upd-map, upd-other, upd-same, version_of}
use Rattle.vm_rule.proofs.Prelude.{View, width, with_word, Within, Words, ℕ, ◌<◌, ◌∙◌, ◌≡◌}

module _ {X : Type 0} where
  -- what the pass has of page p changes
  pub seats-put : (views : List (View X)) (id p : ℕ) (v w : View X) (seat : Seat) → get_elem? views id ≡ some v
      → w.seats ≡ put p seat v.seats → seats_of (slice_set views id w) ≡ upd (seats_of views) p
      (upd (seats_of views p) id seat)
  seats-put views id p v w seat there e =
      ap {B = ℕ → ℕ → Seat} (λ (f : ℕ → View X) q b. put_at no_seat (f b).seats q) (views-set views id v w there)
      ∙ put-column no_seat (λ (y : View X). y.seats) (at spent views) id p seat w
      (e ∙ ap (λ (y : View X). put p seat y.seats) (sym (at-there spent views id v there)))

  pub seats-still : (views : List (View X)) (id : ℕ) (v w : View X) → get_elem? views id ≡ some v → w.seats ≡ v.seats
      → seats_of (slice_set views id w) ≡ seats_of views
  seats-still views id v w there e =
      fun_ext (λ p. fun_ext (field-still (λ y. seat_of y p) views id v w there (ap (λ l. put_at no_seat l p) e)))

  pub loads-put : (views : List (View X)) (id p : ℕ) (v w : View X) (l : List (ℕ × ℕ)) → get_elem? views id ≡ some v
      → w.loads ≡ put p l v.loads → loads_of (slice_set views id w) ≡ upd (loads_of views) p
      (upd (loads_of views p) id l)
  loads-put views id p v w l there e =
      ap {B = ℕ → ℕ → List (ℕ × ℕ)} (λ (f : ℕ → View X) q b. put_at [] (f b).loads q) (views-set views id v w there)
      ∙ put-column [] (λ (y : View X). y.loads) (at spent views) id p l w
      (e ∙ ap (λ (y : View X). put p l y.loads) (sym (at-there spent views id v there)))

  pub loads-still : (views : List (View X)) (id : ℕ) (v w : View X) → get_elem? views id ≡ some v → w.loads ≡ v.loads
      → loads_of (slice_set views id w) ≡ loads_of views
  loads-still views id v w there e = fun_ext (λ p. fun_ext (field-still (λ y. loads_at y p) views id v w there (ap (λ l. put_at [] l p) e)))

  -- the frames that the passes hold
  pub held-put : (views : List (View X)) (id : ℕ) (v w : View X) → get_elem? views id ≡ some v
      → frames_held (slice_set views id w) ≡ upd (frames_held views) id (λ f. has f w.frames)
  held-put views id v w there =
      fun_ext (λ b. ap (λ (f : ℕ → View X). λ n. has n (f b).frames) (views-set views id v w there)
      ∙ upd-map (λ (y : View X). λ n. has n y.frames) (at spent views) id w b)

  pub held-still : (views : List (View X)) (id : ℕ) (v w : View X) → get_elem? views id ≡ some v → w.frames ≡ v.frames
      → frames_held (slice_set views id w) ≡ frames_held views
  held-still views id v w there e = fun_ext (field-still (λ y f. has f y.frames) views id v w there (ap (λ l f. has f l) e))

  -- the page numbers that they hold
  pub numbers-put : (views : List (View X)) (id : ℕ) (v w : View X) → get_elem? views id ≡ some v
      → numbers_held (slice_set views id w) ≡ upd (numbers_held views) id (λ p. has p w.numbers)
  numbers-put views id v w there =
      fun_ext (λ b. ap (λ (f : ℕ → View X). λ n. has n (f b).numbers) (views-set views id v w there)
      ∙ upd-map (λ (y : View X). λ n. has n y.numbers) (at spent views) id w b)

  pub numbers-still : (views : List (View X)) (id : ℕ) (v w : View X) → get_elem? views id ≡ some v
      → w.numbers ≡ v.numbers → numbers_held (slice_set views id w) ≡ numbers_held views
  numbers-still views id v w there e = fun_ext (field-still (λ y p. has p y.numbers) views id v w there (ap (λ l p. has p l) e))

module _ (start : Origin) (actors : ℕ) (r : Words) (blocks : ℕ → Stored) (seats : ℕ → ℕ → Seat) (held numbers : ℕ → ℕ → Bool) where
  abbrev core : State
  core = core_from start actors r blocks seats held numbers

  -- a state word, and one row of seats
  pub core-state : (p x : ℕ) (row : ℕ → Seat) → p < start.pages
      → core_from start actors (with_word r (places.State p) x) blocks (upd seats p row) held numbers ≡ on_page core p
      (record (core.pages p) { state = state_of x; version = version_of x; seats = row })
  core-state p x row l =
      ap (λ pages. record core {
        pages = pages;
      }) (page-changed start.pages r (with_word r (places.State p) x) blocks blocks seats (upd seats p row) p
      (record (core.pages p) { state = state_of x; version = version_of x; seats = row }) l refl
      (rw (page-in start.pages r blocks seats p l) (λ i. record (page_from r blocks seats p) {
        state = state_of (upd-same r.states p x i);
        version = version_of (upd-same r.states p x i);
        seats = upd-same seats p row i;
      }))
      (λ q ne i. record (page_from r blocks seats q) {
        state = state_of (upd-other r.states p x q ne i);
        version = version_of (upd-other r.states p x q ne i);
        seats = upd-other seats p row q ne i;
      }))

  -- a translation word
  pub core-translation : (p x : ℕ) → p < start.pages → core_from start actors (with_word r (places.Translation p) x)
      blocks seats held numbers ≡ on_page core p (record (core.pages p) { trans = mapping_of x })
  core-translation p x l =
      ap (λ pages. record core { pages = pages })
      (page-changed start.pages r (with_word r (places.Translation p) x) blocks blocks seats seats p
      (record (core.pages p) { trans = mapping_of x }) l refl
      (rw (page-in start.pages r blocks seats p l)
      (λ i. record (page_from r blocks seats p) { trans = mapping_of (upd-same r.translations p x i) }))
      (λ q ne i. record (page_from r blocks seats q) { trans = mapping_of (upd-other r.translations p x q ne i) }))

  -- a fault word
  pub core-fault : (p x : ℕ) → p < start.pages → core_from start actors (with_word r (places.Fault p) x) blocks seats
      held numbers ≡ on_page core p (record (core.pages p) { fault = x })
  core-fault p x l =
      ap (λ pages. record core { pages = pages })
      (page-changed start.pages r (with_word r (places.Fault p) x) blocks blocks seats seats p
      (record (core.pages p) { fault = x }) l refl
      (rw (page-in start.pages r blocks seats p l) (λ i. record (page_from r blocks seats p) { fault = upd-same r.faults p x i }))
      (λ q ne i. record (page_from r blocks seats q) { fault = upd-other r.faults p x q ne i }))

  -- what one pass has of a page, and no word
  pub core-seat : (p : ℕ) (row : ℕ → Seat) → p < start.pages → core_from start actors r blocks (upd seats p row) held
      numbers ≡ on_page core p (record (core.pages p) { seats = row })
  core-seat p row l =
      ap (λ pages. record core { pages = pages })
      (page-changed start.pages r r blocks blocks seats (upd seats p row) p
      (record (core.pages p) { seats = row }) l refl
      (rw (page-in start.pages r blocks seats p l) (λ i. record (page_from r blocks seats p) { seats = upd-same seats p row i }))
      (λ q ne i. record (page_from r blocks seats q) { seats = upd-other seats p row q ne i }))

  -- a block came home
  pub core-block : (p : ℕ) (b : Stored) → p < start.pages → core_from start actors r (upd blocks p b) seats held
      numbers ≡ on_page core p (record (core.pages p) { count = b.count; block = b.words })
  core-block p b l =
      ap (λ pages. record core {
        pages = pages;
      }) (page-changed start.pages r r blocks (upd blocks p b) seats seats p (record (core.pages p) {
        count = b.count;
        block = b.words;
      }) l refl
      (rw (page-in start.pages r blocks seats p l) (λ i. record (page_from r blocks seats p) {
        count = (upd-same blocks p b i).count;
        block = (upd-same blocks p b i).words;
      }))
      (λ q ne i. record (page_from r blocks seats q) {
        count = (upd-other blocks p b q ne i).count;
        block = (upd-other blocks p b q ne i).words;
      }))

  -- a word of a frame
  pub core-word : (f i x : ℕ) → i < r.size → core_from start actors (with_word r (places.Content f i) x) blocks seats
      held numbers ≡ stored_at core f i x
  unfolding pages_from
  core-word f i x l = ap (λ words. record core { words = words }) (frame-written r.size r.contents f i x l)

module _ {X B : Type 0} (stored : B → Stored) (start : Origin) where
  -- the one word that a step writes, and the one view that it changes
  pub core-step : (s : Table (Option B) (View X)) (id : ℕ) (v w : View X) (word : WordPlace) (x : ℕ)
      → length s.words ≡ width start → Within start word → get_elem? s.views id ≡ some v → w.out ≡ v.out
      → (seats : ℕ → ℕ → Seat) (held numbers : ℕ → ℕ → Bool) → seats_of (slice_set s.views id w) ≡ seats
      → frames_held (slice_set s.views id w) ≡ held → numbers_held (slice_set s.views id w) ≡ numbers
      → core_shown stored start (record {
        words = slice_set s.words (index_of start word) x;
        homes = s.homes;
        views = slice_set s.views id w;
      })
      ≡ core_from start (length s.views) (with_word (table_words start s.words) word x) (block_of stored s.homes s.views) seats held numbers
  core-step s id v w word x wide within there out seats held numbers es eh en i =
      core_from start (length-set s.views id w i) (words-written start s.words word x wide within i)
      (block-same stored s.homes s.views id v w there out i) (es i) (eh i) (en i)
