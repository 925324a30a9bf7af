-- What a pass knows of pages stays true after an event of another pass; and so does what any pass knows of
-- translations and ties.
use Rattle.vm_event.specs.declared.event.Event.TheVariants.{Release}
use Rattle.vm_rule.specs.declared.view.Release.{Release as Released}
use Rattle.vm_event.proofs.Upd.{upd_over-other}
use Rattle.vm_rule.proofs.{Entries.each-map, Facts.any-here, Facts.any-true}
use Rattle.vm_rule.proofs.{Prelude.◌≤◌, Views.at-bound, Were.were-moves}
use Rattle.vm_rule.proofs.Prelude.{[], any, ap, arith, began_of, Bool, cases_eq, cases_lt, Did, Downgrade, Each}
use Rattle.vm_rule.proofs.Prelude.{Entry, Event, EVICTED, false, false_from_ne_true, get_elem?, has, histories_after}
use Rattle.vm_rule.proofs.Prelude.{History, IsLocking, KnowsPage, KnowsPages, last_in, Leaves, LeavesActor, Legal}
use Rattle.vm_rule.proofs.Prelude.{List, LockX, may_call, no_held, None, none-some, Note, Origin, Page, PageMoves}
use Rattle.vm_rule.proofs.Prelude.{Put, put_at, refl, ReleaseE, Seat, seat_of, set_else, set_here, slice_set, Some}
use Rattle.vm_rule.proofs.Prelude.{some, some-injective, Start, Store, subst, sym, Tie, TieHolds, Translation}
use Rattle.vm_rule.proofs.Prelude.{TranslationHolds, true, true≢false, Upgrade, Version, View, view_from}
use Rattle.vm_rule.proofs.Prelude.{WereWords, World, ℕ, ⊎_elim, ◌<◌, ◌∙◌, ◌≡◌, ◌≢◌}

-- a page past the last one stands under the word of no page before
past-other : (w : World) (p q : ℕ) → ((q : ℕ) → w.core.head q ≡ q) → w.core.shape.pages ≤ p → q < w.core.shape.pages
    → w.core.head p ≢ q
past-other w p q own le inside e = let mine : w.core.head p ≡ p = own p in absurd (omega arith)

-- the versions and drafts of a page past the last one, which nobody holds, stay
pub histories-outside : (w : World) (e : Event) → ((q : ℕ) → w.core.head q ≡ q) → Legal w.core e → (p : ℕ)
    → w.core.shape.pages ≤ p → ((a : ℕ) → ((w.core.pages p).seats a).exclusive ≡ false)
    → histories_after w e p ≡ w.histories p
histories-outside w (LockX a q expects) own m p le none =
    upd_over-other w.core.head q w.histories _ p (past-other w p q own le m.names.page)
histories-outside w (Upgrade a q expects) own m p le none =
    upd_over-other w.core.head q w.histories _ p (past-other w p q own le m.names.page)
histories-outside w (Release a q) own m p le none =
    upd_over-other w.core.head q w.histories _ p (past-other w p q own le m.may.names.page)
histories-outside w (ReleaseE a q) own m p le none =
    upd_over-other w.core.head q w.histories _ p (past-other w p q own le m.names.page)
histories-outside w (Downgrade a q) own m p le none =
    upd_over-other w.core.head q w.histories _ p (past-other w p q own le m.may.names.page)
histories-outside w (Store a f i x) own m p le none = rw (none a) refl
histories-outside w e own m p le none = refl

pub translation-moves : (pages pages' : ℕ → Page) → ((p : ℕ) → PageMoves (pages p) (pages' p)) → (t : Translation)
    → TranslationHolds pages t → TranslationHolds pages' t
translation-moves pages pages' moves t h =
    let up : (pages t.page).version ≤ (pages' t.page).version = (moves t.page).version in
    let old : t.version ≤ (pages t.page).version = h.0 in (
      omega arith,
      λ e locked evicted.
          let same : (pages' t.page).version ≡ (pages t.page).version = omega arith in
          let k = (moves t.page).still same locked evicted in
          h.1 (e ∙ same) k.0 k.1 ∙ sym k.2,
      λ e locked evicted dirty.
          let same : (pages' t.page).version ≡ (pages t.page).version = omega arith in
          let k = (moves t.page).still same locked evicted in
          h.2 (e ∙ same) k.0 k.1 ((moves t.page).cleaner same locked evicted dirty),
    )

pub tie-moves : (tied : Start → ℕ → List ℕ → ℕ → List ℕ → Type 0) (began : Start) (w w' : World)
    (pending pending' : ℕ → Bool) → w'.core.shape.pages ≡ w.core.shape.pages
    → ((p : ℕ) → PageMoves (w.core.pages p) (w'.core.pages p))
    → ((p : ℕ) → (w'.core.pages p).version ≡ (w.core.pages p).version → (w'.histories p).last ≡ (w.histories p).last)
    → ((p : ℕ) → (w'.core.pages p).version ≡ (w.core.pages p).version → pending' p ≡ false → pending p ≡ false)
    → (t : Tie) → TieHolds tied began w pending t → TieHolds tied began w' pending' t
tie-moves tied began w w' pending pending' shape moves last members t h =
    let up : (w.core.pages t.page).version ≤ (w'.core.pages t.page).version = (moves t.page).version in
    let old : t.version ≤ (w.core.pages t.page).version = h.1 in (
      subst (λ n. t.page < n) (sym shape) h.0,
      omega arith,
      λ e free.
          let still : (w'.core.pages t.page).version ≡ (w.core.pages t.page).version = omega arith in
          subst (λ (y : Version). tied began t.of t.words t.page y.words) (sym (last t.page still))
          (h.2 (e ∙ still) (members t.page still free)),
    )

module _ {X : Type 0} (tied : Start → ℕ → List ℕ → ℕ → List ℕ → Type 0) (start : Origin) (w : World) (unreleased : ℕ → Bool) where
  -- what a view knows of pages stays true of it with other lists, parts and notes, and with other frames and steps
  -- where that is shown of these
  pub known-with : (v : View X) {frames numbers freed : List ℕ} {contents : List (Put (List ℕ))} {notes : List Note}
      {releases told_releases : List Released} {seen mine told : List (Entry X)} {used fresh told_used : List ℕ}
      {current : Bool} {log : List Did}
      → KnowsPages tied start w unreleased v
      → ((f : ℕ) → has f frames ≡ true → put_at [] contents f ≡ w.core.words f)
      → ((p : ℕ) → IsLocking (seat_of v p) → last_in v.start releases p ≡ (w.histories p).last)
      → Each (WereWords w) log
      → KnowsPages tied start w unreleased (record v {
        frames = frames;
        numbers = numbers;
        freed = freed;
        contents = contents;
        notes = notes;
        releases = releases;
        told_releases = told_releases;
        seen = seen;
        mine = mine;
        told = told;
        used = used;
        fresh = fresh;
        told_used = told_used;
        current = current;
        log = log;
      })
  known-with v k contents latest words = record {
    knows = k.knows;
    contents = contents;
    owners = k.owners;
    drafts = k.drafts;
    latest = latest;
    pending = k.pending;
    owed = k.owed;
    next = k.next;
    translations = k.translations;
    words = words;
    ties = k.ties;
  }

  -- a view that holds nothing and has read nothing knows nothing of pages
  pub known-nothing : (live : Bool) (began : Origin) (used fresh : List ℕ) (releases : List Released)
      (seen : List (Entry X)) → KnowsPages tied start w unreleased (record (view_from live began used fresh) {
        releases = releases;
        seen = seen;
      })
  known-nothing live began used fresh releases seen = record {
    knows = λ p. record { calls = λ e. absurd (true≢false (sym e)); shares = λ l. absurd (omega (arith, l)) };
    contents = λ f e. absurd (true≢false (sym e));
    owners = λ p m e. absurd (true≢false (sym e));
    drafts = λ p e. absurd (true≢false (sym e));
    latest = λ p. ⊎_elim (λ e. absurd (true≢false (sym e))) (λ l. absurd (omega (arith, l)));
    pending = λ p e. absurd (true≢false (sym e));
    owed = λ p e. absurd (true≢false (sym e));
    next = λ x e. absurd cc;
    translations = tt;
    words = tt;
    ties = λ _. tt;
  }

module _ {X : Type 0} where
  -- where some view said so, and none does after one of them changed, it was that one
  pub any-gone : (f : View X → Bool) (views : List (View X)) (id : ℕ) (v w : View X) → get_elem? views id ≡ some v
      → any f views ≡ true → any f (slice_set views id w) ≡ false → (f v ≡ true) × (f w ≡ false)
  any-gone f views id v w there was gone =
      let k = any-true f views was in
      let none : (j : ℕ) (u : View X) → get_elem? (slice_set views id w) j ≡ some u → f u ≡ true → ⊥ = λ j u e t.
      true≢false (sym (any-here f (slice_set views id w) j u e t) ∙ gone) in (
        ⊎_elim
            (λ e. ap f (some-injective v k.1 (sym there ∙ ap (get_elem? views) (sym e) ∙ k.2)) ∙ k.3)
            (λ ne. absurd (none k.0 k.1 (set_else views id k.0 w ne ∙ k.2) k.3))
            (cases_eq k.0 id),
        false_from_ne_true (f w) (none id w (set_here views id w (at-bound views id v there))),
      )

  module _ (tied : Start → ℕ → List ℕ → ℕ → List ℕ → Type 0) (start : Origin) where
    -- what the pass j knows, after an event of the pass a
    pub known-else : (w w' : World) (unreleased unreleased' : ℕ → Bool) (a j : ℕ) (u : View X) → Leaves a w w'
        → LeavesActor j w w'
        → ((p : ℕ) → p < w.core.shape.pages → (w.core.pages p).seats j ≡ seat_of u p)
        → ((p : ℕ) → w.core.shape.pages ≤ p → (w'.core.pages p ≡ w.core.pages p) × (w'.histories p ≡ w.histories p))
        → ((p : ℕ) → w.core.shape.pages ≤ p → (w.core.pages p).trans ≡ None)
        → ((f : ℕ) → w.core.held j f ≡ has f u.frames)
        → ((p : ℕ) → (w.core.pages p).state ≤ EVICTED)
        → w'.core.next ≤ w.core.shape.pages
        → ((t : Tie) → TieHolds tied (began_of start) w unreleased t → TieHolds tied (began_of start) w' unreleased' t)
        → KnowsPages tied start w unreleased u → KnowsPages tied start w' unreleased' u
    known-else w w' unreleased unreleased' a j u left mine seats outside empty held known inside ties g =
        let owns : (p : ℕ) → p < w.core.shape.pages → (seat_of u p).exclusive ≡ true
        → ((w.core.pages p).seats j).exclusive ≡ true = λ p l x. ap (λ (y : Seat). y.exclusive) (seats p l) ∙ x in
        let shares : (p : ℕ) → p < w.core.shape.pages → 1 ≤ (seat_of u p).shares
        → 1 ≤ ((w.core.pages p).seats j).shares = λ p l x. subst (λ (y : Seat). 1 ≤ y.shares) (sym (seats p l))
        x in
        let histories : (p : ℕ) → (seat_of u p).exclusive ≡ true → w'.histories p ≡ w.histories p =
        λ p x. ⊎_elim (λ l. mine.owned p (owns p l x)) (λ le. (outside p le).1) (cases_lt p w.core.shape.pages) in
        let more : w.core.next ≤ w'.core.next = left.next in
        record {
          knows = λ p. ⊎_elim
              (λ l. record {
                calls = λ x.
                    let k = (mine.untouched p).calls (ap may_call (seats p l) ∙ x) in
                    let b = (g.knows p).calls x in
                    (b.0 ∙ sym k.0, b.1 ∙ sym k.1, b.2 ∙ sym k.2, b.3 ∙ sym k.3);
                shares = λ x. (g.knows p).shares x ∙ sym ((mine.untouched p).shares (shares p l x));
              })
              (λ le. subst (KnowsPage (seat_of u p) (put_at no_held u.held p)) (sym (outside p le).0) (g.knows p))
              (cases_lt p w.core.shape.pages);
          owners = λ p m x at.
              let there : (w.core.pages p).trans ≡ Some m = sym ((g.knows p).calls x).0 ∙ at in
              ⊎_elim
              (λ l. g.owners p m x at ∙ sym (mine.owners p m (ap may_call (seats p l) ∙ x) there))
              (λ le. absurd (none-some m (sym (empty p le) ∙ there)))
              (cases_lt p w.core.shape.pages);
          contents = λ f x. g.contents f x ∙ sym (mine.words f (held f ∙ x));
          drafts = λ p x. g.drafts p x ∙ ap (λ (h : History). h.draft) (sym (histories p x));
          latest = λ p x. g.latest p x ∙ sym (⊎_elim
              (λ l. ⊎_elim (λ e. ap (λ (h : History). h.last) (mine.owned p (owns p l e))) (λ e. mine.shared p (shares p l e)) x)
              (λ le. ap (λ (h : History). h.last) (outside p le).1)
              (cases_lt p w.core.shape.pages));
          pending = λ p x.
              let k = g.pending p x in (
                k.0,
                λ t past.
                    let same : w'.histories p ≡ w.histories p = histories p k.0 in
                    ap (λ (h : History). h.draft) same ∙ k.1 t (omega arith) ∙ ap (λ (h : History). h.last.words) (sym same),
              );
          owed = λ p x. let k = g.owed p x in let below : p < w.core.next = k.2 in (k.0, k.1, omega arith, k.3);
          next = λ x e.
              let k = g.next x e in
              let is : w.core.next ≡ x = k.1 in (
                k.0,
                ⊎_elim
                    (λ l. mine.next (ap (λ n. ((w.core.pages n).seats j).exclusive) is ∙ owns x l k.0) ∙ is)
                    (λ (le : w.core.shape.pages ≤ x). omega arith)
                    (cases_lt x w.core.shape.pages),
              );
          translations = each-map _ _ (translation-moves w.core.pages w'.core.pages left.pages) u.translations g.translations;
          words = each-map _ _ (were-moves w w' left.pages known more) u.log g.words;
          ties = λ tells. each-map _ _ ties u.ties (g.ties tells);
        }
