-- A load of a page's translation word: an open read without a frame gets the one that it names; that the table allows
-- it, and that it is its event.
--
-- What a load of a translation word leaves: it speaks of the open read of one page. Under a lock of the page nothing
-- changes.
use Rattle.vm_event.specs.declared.event.Seen.TheVariants as sights
use Rattle.vm_rule.specs.declared.view.WordPlace.TheVariants as places
use Rattle.vm_step.proofs.{Asides.alone-silent, Asides.OnlyReads, Fit.fit}
use Rattle.vm_step.proofs.{Here.frame-inside, Quiet.quiet-shows, Standing.allows-load}
use Rattle.vm_step.proofs.{steps.Content.frame-known, Written.word-loaded}
use Rattle.vm_step.proofs.Prelude.{holdings, [], AllowsStep, ap, at-bound, Bool, core_shown, Did, did_load, draft-is}
use Rattle.vm_step.proofs.Prelude.{draft_of, Each, each-upd2, frame_of, frame_read, framed, HoldsPage, IsLocking}
use Rattle.vm_step.proofs.Prelude.{IsPlacedAt, Kept, KnowsAsBefore, KnowsPage, length, List, loads_at, mapping_of}
use Rattle.vm_step.proofs.Prelude.{may_call, no_held, no_seat, None, Open, Option, Origin, Page, part-found, put_at}
use Rattle.vm_step.proofs.Prelude.{refl, Seat, seat-here, seat_of, slice_index, TableShape, Some, Stands}
use Rattle.vm_step.proofs.Prelude.{stands_dirty, Start, steps, Stored, subst, sym, TLoad, tload-step, tloaded_view}
use Rattle.vm_step.proofs.Prelude.{TloadIsItsEvent, told_of, trans_word, translation-here, translation_of}
use Rattle.vm_step.proofs.Prelude.{TranslationHolds, TranslationTold, true, upd, upd-keeps, upd-other, upd-same, View}
use Rattle.vm_step.proofs.Prelude.{Works, ℕ, ◌+◌, ◌<◌, ◌∙◌, ◌∷◌, ◌≡◌, ◌≤◌}
use Rattle.vm_step.proofs.steps.Event.{is-event}
use Rattle.vm_step.proofs.steps.Leaving.{apart, knows-still, LeavesOthers, LeavesOwn}
use Rattle.vm_step.proofs.steps.Leaving.{only-of, others-tied, own-from, works-of}

-- the translation that an open read got holds: the word is the page's now
translation-now : (pages : ℕ → Page) (p found : ℕ) (o : Option Open)
    → ((x : Open) → o ≡ Some x → x.version ≤ (pages p).version) → mapping_of found ≡ (pages p).trans
    → Each (TranslationHolds pages) (translation_of p found o)
translation-now pages p found None old same = tt
translation-now pages p found (Some x) old same = ((old x refl, λ _ _ _. ap frame_of same, λ _ _ _ d. ap stands_dirty same ∙ d), tt)

module _ {X B : Type 0} (stored : B → Stored) (keeps : Start → Kept X → Type 0)
    (tied : Start → ℕ → List ℕ → ℕ → List ℕ → Type 0) (tells : Bool) where
  -- it keeps the rule of every table and tells what it is to tell
  pub tload-allows : (shape : TableShape) (slots id : ℕ) (v : View X) (i : ℕ) (p : ℕ) → v.live ≡ true
      → 0 < length v.used → p < shape.pages → IsPlacedAt shape (places.Translation p) i
      → AllowsStep (Stands stored keeps tied shape tells) slots id v i (λ n. n) (told_of shape tells (TranslationTold p))
  tload-allows shape slots id v i p live number l' is =
      allows-load stored keeps tied shape tells slots id v i (places.Translation p) (TranslationTold p) live is (λ _ _. tt)
      (λ n w t. fit t.brings live number)
      (λ start has s r there.
      let l : p < start.pages = subst (λ n. p < n) (sym has.pages) l' in
      let pages : ℕ → Page = (core_shown stored start s).pages in
      let found : ℕ = slice_index s.words (start.pages + p) in
      let did : Did = did_load (places.Translation p) found in
      let inner : View X = tloaded_view p found v in
      let known = r.known id v there live in
      let trans : (pages p).trans ≡ mapping_of found = translation-here stored start s p l in
      let seat : Seat = record (seat_of v p) { reading = framed (seat_of v p).reading (mapping_of found) } in
      let page : Page = frame_read (pages p) id in
      let owns : (q : ℕ) → (seat_of inner q).exclusive ≡ (seat_of v q).exclusive =
      upd-keeps (λ (y : Seat). y.exclusive) (seat_of v) p seat refl in
      let k = steps stored keeps tied start tells s r id v s.words r.drafts [] [] did inner (TLoad id p) there live number refl refl
      (quiet-shows stored keeps tied start tells s r id v s.words r.drafts did inner (TLoad id p) there live
      (record {
        word = word-loaded start s.words (places.Translation p) r.wide.0 r.spelled l;
        legal = (record { actor = at-bound s.views id v there; page = l }, tt);
        world = tload-step stored start s r.releases r.drafts id v _ p (mapping_of found) l there refl refl refl trans refl;
        leaves = refl;
        calls = λ o x. upd-keeps may_call (seat_of v) p seat refl o.page ∙ (r.blocks.away id v o there x).1;
        holds = λ q x. owns q ∙ x;
        members = λ q _. refl;
        next = refl;
        spares = refl;
        knows = each-upd2 (λ q (y : Seat) (z : Page). KnowsPage y (put_at no_held v.held q) z) (seat_of v) pages p
            seat page (record {
              calls = (known.knows p).calls;
              shares = (known.knows p).shares;
            }) (λ q _. known.knows q);
        owners = λ q m x. known.owners q m (sym (upd-keeps may_call (seat_of v) p seat refl q) ∙ x);
        contents = known.contents;
        drafted = λ q x. known.drafts q (sym (owns q) ∙ x) ∙ draft-is start r.releases r.drafts q;
        loaded = (
          translation_of p found (seat_of v p).reading,
          refl,
          translation-now (upd pages p page) p found (seat_of v p).reading
              (λ x e. subst (λ n. x.version ≤ n) (sym (upd-keeps (λ (y : Page). y.version) pages p page refl p))
              (((r.inv.pages p).reads id).old x
              (ap (λ (y : Seat). y.reading) (seat-here stored start s id p v l there) ∙ e)))
              (sym (upd-keeps (λ (y : Page). y.trans) pages p page refl p ∙ trans)),
        );
      })) in (
        _,
        k.0,
        record {
          brings = k.1;
          inside = λ m e. subst (λ (o : Origin). m.frame < o.frames) (sym (r.heard id v there live).same_start)
              (frame-inside stored keeps tied start tells s r p m (trans ∙ e));
          locked = λ x. ap frame_of (sym trans) ∙ sym (frame-known (seat_of v p) (put_at no_held v.held p) (pages p) (known.knows p) x);
          called = λ x. sym trans ∙ sym ((known.knows p).calls x).0;
        },
      ))

  pub tload-event : TloadIsItsEvent stored keeps tied tells
  tload-event start s id p found v w pass finds told =
      let l : p < start.pages = finds.0 in
      let view = told.brings.view in
      let spelled : slice_index s.words (start.pages + p) ≡ trans_word (mapping_of (slice_index s.words (start.pages + p))) =
      subst (λ n. n ≡ trans_word (mapping_of n))
      (part-found start.pages start.pages s.words p (start.pages + p) l refl) (pass.rule.spelled p l) in
      is-event (record { actor = at-bound s.views id v pass.there; page = l }, tt)
      (tload-step stored start s [] (λ _. []) id v w p (mapping_of found) l pass.there
      (ap (λ (y : View X). y.out) view) (ap (λ (y : View X). holdings y) view) (ap (λ (y : View X). y.loads) view)
      (translation-here stored start s p l ∙ ap mapping_of (sym finds.1)) (ap (λ (y : View X). y.seats) view))
      (ap sights.Word (ap trans_word (translation-here stored start s p l) ∙ sym spelled ∙ sym finds.1))

module _ {X : Type 0} {p found : ℕ} {v w : View X} (t : TranslationTold p found v w) where
  pub tload-others : (touched : ℕ → Type 0) → touched p
      → LeavesOthers touched (did_load (places.Translation p) found ∷ []) [] v w
  tload-others touched at =
      others-tied t.brings ([], refl) tt (λ q ne. upd-other (put_at no_seat v.seats) p _ q (apart touched at q ne))
      (λ q ne. refl) (λ q ne. refl) (λ q ne. refl)

  pub tload-own : LeavesOwn v w
  tload-own = own-from t.brings refl (refl, refl, refl) (refl, λ _. (refl, refl))

  -- an open read without a frame gets the frame that the word names
  pub tload-seat : seat_of w p ≡ record (seat_of v p) { reading = framed (seat_of v p).reading (mapping_of found) }
  tload-seat = ap (λ (x : View X). seat_of x p) t.brings.view ∙ upd-same (put_at no_seat v.seats) p _

  pub tload-loads : (q : ℕ) → loads_at w q ≡ loads_at v q
  tload-loads q = ap (λ (x : View X). loads_at x q) t.brings.view

  -- the locks of every page stay, and what is known under them
  pub tload-holds : (q : ℕ) → HoldsPage v w q
  tload-holds q = record {
    shares = ap (λ (x : View X). (seat_of x q).shares) t.brings.view ∙ upd-keeps (λ (s : Seat). s.shares)
        (put_at no_seat v.seats) p _ refl q;
    exclusive = ap (λ (x : View X). (seat_of x q).exclusive) t.brings.view ∙ upd-keeps (λ (s : Seat). s.exclusive)
        (put_at no_seat v.seats) p _ refl q;
    writing = ap (λ (x : View X). (seat_of x q).writing) t.brings.view ∙ upd-keeps (λ (s : Seat). s.writing)
        (put_at no_seat v.seats) p _ refl q;
  }

  pub tload-knows : (q : ℕ) → IsLocking (seat_of v q) → KnowsAsBefore v w q
  tload-knows = knows-still t.brings refl refl refl

  -- of a page without an open read it changes nothing
  pub tload-works : (seat_of v p).reading ≡ None → Works p (did_load (places.Translation p) found ∷ []) v w
  tload-works closed =
      works-of (tload-others (λ q. q ≡ p) refl) tload-own
      (tload-seat ∙ (λ i. record (seat_of v p) { reading = framed (closed i) (mapping_of found) })
      ∙ sym (λ i. record (seat_of v p) { reading = closed i }))
      (tload-loads p)
      (ap (λ (x : View X). draft_of x p) t.brings.view) (λ l. (tload-knows p l).last)

-- it changes no more than an open read
pub translation-only : {X : Type 0} (touched : ℕ → Type 0) (p found : ℕ) (v w : View X) → touched p
    → TranslationTold p found v w → OnlyReads touched (did_load (places.Translation p) found ∷ []) v w
translation-only touched p found v w at t = only-of (tload-others t touched at) (tload-own t) (tload-holds t)
    (tload-knows t) (alone-silent _ None _ v _ w t.brings refl)
