-- Passes that are split, joined, or told by one another: that the table allows it, what the load behind it tells, and
-- that it is no event; and that this load is its event.
use Rattle.vm_owner.proofs.NumberLemmas.{has-both}
use Rattle.vm_step.specs.from_vm_rule.declared_view_WordPlace_TheVariants as places
use Rattle.vm_step.proofs.Prelude.{[], AllowsStep, ap, append-none, arith, at, at-first, at-neither, at-past}
use Rattle.vm_step.proofs.Prelude.{at-second, at-there, block-same, block_of, Bool, cases_Bool, cases_lt, CaughtUp}
use Rattle.vm_step.proofs.Prelude.{core_shown, did_load, each-upd, entries-both, entries-within, entries_by, false}
use Rattle.vm_step.proofs.Prelude.{FollowIsItsEvent, holdings}
use Rattle.vm_step.proofs.Prelude.{follower, follows-ruled, frames_held, fun_ext, get_elem?, giver, has, has-left}
use Rattle.vm_step.proofs.Prelude.{has-right, HasNone, hearer, Hears, hears-past, hears-ruled, histories_of}
use Rattle.vm_step.proofs.Prelude.{HoldsNoPage, HoldsNothing, if◌then◌else◌, index_of, inl, IsPassOf, IsPlacedAt}
use Rattle.vm_step.proofs.Prelude.{IsSplitOff, IsTakenIn, joined, Joins, joins-past, joins-ruled, JoinTold, Kept}
use Rattle.vm_step.proofs.Prelude.{knows_more, length, length-append, length-set, List, loads_at, loads_of, newcomer}
use Rattle.vm_step.proofs.Prelude.{no_seat, None, numbers_held, once-second, OnlyKnows, Option, or-false, Origin}
use Rattle.vm_step.proofs.Prelude.{outside_page, Page, page-in, page-out, page_from, pages_from, refl, Ruled}
use Rattle.vm_step.proofs.Prelude.{same-field, seat_of, seats_of, set_else, settled-blocks, slice_index, slice_set}
use Rattle.vm_step.proofs.Prelude.{TableShape, some, spent, split-resettles, split-views, Splits, splits-past}
use Rattle.vm_step.proofs.Prelude.{splits-ruled, Stands, Start, StartsWith, Stored, subst, sym, Table, table_heard}
use Rattle.vm_step.proofs.Prelude.{table_joined, table_split, table_words, taken_in, TakesOver, told_of, true, twice}
use Rattle.vm_step.proofs.Prelude.{upd, upd-self, View, with_actor, World, world_of, ℕ, ⊎_elim, ◌++◌, ◌+◌, ◌<◌, ◌||◌}
use Rattle.vm_step.proofs.Prelude.{◌∙◌, ◌≡◌, ◌≢◌}
use Rattle.vm_rule.specs.Prelude.{spread_table}
use Rattle.vm_step.proofs.Standing.{allows-load, born}
use Rattle.vm_step.proofs.steps.Next.{load-event}

module _ {X B : Type 0} (stored : B → Stored) (keeps : Start → Kept X → Type 0)
    (tied : Start → ℕ → List ℕ → ℕ → List ℕ → Type 0) (shape : TableShape) (tells : Bool) where
  -- what a live pass does to every table that meets the rule it does to every table that stands
  by-rule : (id : ℕ) (v : View X) (s t : Table (Option B) (View X)) → v.live ≡ true
      → Stands stored keeps tied shape tells s → get_elem? s.views id ≡ some v
      → ((start : Origin) → Ruled stored keeps tied start tells (spread_table start s)
      → Ruled stored keeps tied start tells (spread_table start t))
      → Stands stored keeps tied shape tells t
  by-rule id v s t live stands at moves =
      ⊎_elim
      (λ r. record {
        start = stands.start;
        is_shape = stands.is_shape;
        fit = stands.fit;
        rule = inl (moves stands.start r);
      })
      (λ u. absurd (born shape id v (subst (λ views. get_elem? views id ≡ some v) u.0 at) live))
      stands.rule

  pub splits-any : (id : ℕ) (part : Bool) (v : View X) → v.live ≡ true → 0 < length v.used
      → Splits (Stands stored keeps tied shape tells) id v (giver part v) (newcomer part v)
  splits-any id part v live number s stands at =
      by-rule id v s _ live stands at (λ start r. splits-ruled stored keeps tied start tells (spread_table start s) r id part v at live
      number)

  pub joins-any : (id : ℕ) (v : View X) (other : ℕ) (w : View X) → v.live ≡ true → w.live ≡ true
      → (v.told_releases ≡ []) × (v.told ≡ []) → (w.told_releases ≡ []) × (w.told ≡ []) → HoldsNoPage w
      → Joins (Stands stored keeps tied shape tells) id v other w (joined v w) spent
  joins-any id v other w live live' here there nothing s stands at apart at' =
      by-rule id v s _ live stands at (λ start r. joins-ruled stored keeps tied start tells (spread_table start s) r id other v w at apart
      (sym (set_else s.views id other (joined v w) apart) ∙ at') live live' here there nothing)

  pub hears-any : (id : ℕ) (v : View X) (other : ℕ) (w : View X) → v.live ≡ true → w.live ≡ true
      → (v.told_releases ≡ []) × (v.told ≡ []) → (w.told_releases ≡ []) × (w.told ≡ []) → OnlyKnows w
      → Joins (Stands stored keeps tied shape tells) id v other w (hearer v w) spent
  hears-any id v other w live live' here there only s stands at apart at' =
      by-rule id v s _ live stands at (λ start r. hears-ruled stored keeps tied start tells (spread_table start s) r id other v w at apart
      (sym (set_else s.views id other (hearer v w) apart) ∙ at') live live' here there only)

  pub follow-allows : (slots id : ℕ) (v : View X) (i : ℕ) → v.live ≡ true → 0 < length v.used
      → StartsWith v.told_releases v.releases → StartsWith v.told v.seen → IsPlacedAt shape places.Next i
      → AllowsStep (Stands stored keeps tied shape tells) slots id v i (λ n. n) (told_of shape tells (λ n. TakesOver))
  follow-allows slots id v i live number on-releases on-seen is =
      allows-load stored keeps tied shape tells slots id v i places.Next (λ n. TakesOver) live is (λ _ _. tt)
      (λ n w t. record {
        live = ap (λ y. y.live) t.view ∙ live;
        learned = (ap (λ y. y.told_releases) t.view, ap (λ y. y.told) t.view);
        number = subst (λ (ns : List ℕ). 0 < length ns) (sym (ap (λ (y : View X). y.used) t.view)) number;
        sound = t.sound;
      })
      (λ start has s r there. let k = follows-ruled stored keeps tied start tells s r id v there live on-releases
      on-seen in (follower v (did_load places.Next (slice_index s.words (index_of start places.Next))), k.0, k.1))

module _ {X : Type 0} where
  pub more-used : (v w : View X) → 0 < length v.used → 0 < length (joined v w).used
  more-used v w l = let both : length (v.used ++ w.used) ≡ length v.used + length w.used =
      length-append v.used w.used in omega (arith, l, both)

  pub join-told : (v w x : View X) → CaughtUp (joined v w) x → JoinTold v w x
  join-told v w x c =
      let b = c.brings in
      let seen : x.seen ≡ (joined v w).seen ++ b.others = ap (λ (y : View X). y.seen) b.view
      ∙ append-none ((joined v w).seen ++ b.others) in
      let releases : x.releases ≡ v.releases ++ b.between = ap (λ (y : View X). y.releases) b.view
      ∙ append-none (v.releases ++ b.between) in
      let mine-within : (k : ℕ) → has k v.used ≡ true → has k (v.used ++ w.used) ≡ true = λ k. has-left k v.used w.used in
      let theirs-within : (k : ℕ) → has k w.used ≡ true → has k (v.used ++ w.used) ≡ true = λ k. has-right k v.used w.used in
      record {
        caught = c;
        heard = ⊎_elim
            (λ t.
            let longer : (joined v w).seen ≡ w.seen = ap (λ q. if q then w.seen else v.seen) t in
            let told : Hears ((joined v w).seen ++ b.others) v.used v.seen =
            subst (λ q. Hears ((joined v w).seen ++ b.others) (if q then v.used else w.used)
            (if q then v.seen else w.seen)) t b.told.1 in (
              subst (λ l. Hears l v.used v.seen) (sym seen) told,
              (b.others, seen ∙ ap (λ l. l ++ b.others) longer, entries-within w.used (v.used ++ w.used) b.others theirs-within b.foreign),
            ))
            (λ t.
            let longer : (joined v w).seen ≡ v.seen = ap (λ q. if q then w.seen else v.seen) t in
            let told : Hears ((joined v w).seen ++ b.others) w.used w.seen =
            subst (λ q. Hears ((joined v w).seen ++ b.others) (if q then v.used else w.used)
            (if q then v.seen else w.seen)) t b.told.1 in (
              (b.others, seen ∙ ap (λ l. l ++ b.others) longer, entries-within v.used (v.used ++ w.used) b.others mine-within b.foreign),
              subst (λ l. Hears l w.used w.seen) (sym seen) told,
            ))
            (cases_Bool (knows_more v w));
        saw = (
          (b.between, releases),
          subst (λ l. StartsWith l w.releases) (sym releases) b.told.0,
        );
        mine = ap (λ (y : View X). y.mine) b.view
            ∙ sym (ap (entries_by (v.used ++ w.used)) seen ∙ entries-both (v.used ++ w.used) (joined v w).seen
            b.others ∙ (λ i. entries_by (v.used ++ w.used) (joined v w).seen ++ b.foreign i)
            ∙ append-none (entries_by (v.used ++ w.used) (joined v w).seen));
      }

module _ {X B : Type 0} (stored : B → Stored) (keeps : Start → Kept X → Type 0)
    (tied : Start → ℕ → List ℕ → ℕ → List ℕ → Type 0) (start : Origin) (tells : Bool) (s : Table (Option B) (View X))
    (id : ℕ) (v : View X) (is : IsPassOf stored start keeps tied tells s id v) where
  abbrev r : Ruled stored keeps tied start tells s
  r = is.rule

  abbrev before : World
  before = world_of stored start r.releases r.drafts s

  -- ---- split

  module _ (part : Bool) (number : 0 < length v.used) where
    abbrev views' : List (View X)
    views' = split-views s.views id part v is.there

    split-world : world_of stored start r.releases r.drafts (table_split s id part v) ≡ with_actor before
    split-world =
        let one-more : length views' ≡ length s.views + 1 =
        (let n = (split-resettles s.views id part v is.there).count in omega (arith, n)) in
        let seats-same : seats_of views' ≡ seats_of s.views =
        fun_ext (λ p. fun_ext (λ a. same-field s.views id part v is.there (λ y. seat_of y p) refl refl a)) in
        let held-same : frames_held views' ≡ frames_held s.views =
        fun_ext (λ a. fun_ext (λ f. same-field s.views id part v is.there (λ y. has f y.frames) refl refl a)) in
        let numbers-same : numbers_held views' ≡ numbers_held s.views =
        fun_ext (λ a. fun_ext (λ p. same-field s.views id part v is.there (λ y. has p y.numbers) refl refl a)) in
        let loads-same : loads_of views' ≡ loads_of s.views =
        fun_ext (λ p. fun_ext (λ a. same-field s.views id part v is.there (λ y. loads_at y p) refl refl a)) in
        (λ i. record {
          core = record (core_shown stored start s) {
            shape = record { pages = start.pages; frames = start.frames; actors = one-more i; next = start.next };
            pages = pages_from start.pages (table_words start s.words)
                ((settled-blocks stored start r.releases r.drafts s views' 1 (length s.views) id
                (split-resettles s.views id part v is.there)) i) (seats-same i);
            held = held-same i;
            numbers = numbers-same i;
          };
          histories = histories_of start r.releases r.drafts;
          loads = loads-same i;
        })

    -- past the last actor nobody has anything
    none-past : HasNone (with_actor before) (length s.views)
    none-past = record {
      seats = λ p. ⊎_elim
          (λ l. ap (λ (y : Page). y.seats (length s.views))
          (page-in start.pages (table_words start s.words) (block_of stored s.homes s.views) (seats_of s.views) p
          l) ∙ ap (λ (y : View X). seat_of y p) (at-past spent s.views (length s.views) (omega arith)))
          (λ le. ap (λ (y : Page). y.seats (length s.views))
          (page-out start.pages (table_words start s.words) (block_of stored s.homes s.views) (seats_of s.views) p
          le))
          (cases_lt p start.pages);
      held = λ f. ap (λ (y : View X). has f y.frames) (at-past spent s.views (length s.views) (omega arith));
      numbers = λ p. ap (λ (y : View X). has p y.numbers) (at-past spent s.views (length s.views) (omega arith));
      loads = λ p. ap (λ (y : View X). loads_at y p) (at-past spent s.views (length s.views) (omega arith));
    }

    pub split-no-event : IsSplitOff stored keeps tied start tells s r (table_split s id part v)
    split-no-event =
        let past = splits-past stored keeps tied start tells s r id part v is.there is.live number in
        record {
          goes = record {
            rule = splits-ruled stored keeps tied start tells s r id part v is.there is.live number;
            releases = past.0;
            history = past.1;
            drafts = past.2;
          };
          core = split-world;
          new = subst (λ y. HasNone y (length s.views)) (sym split-world) none-past;
        }

  -- ---- the pass takes in another, and has the view `took` then

  module _ (other : ℕ) (w took : View X) (apart : other ≢ id) (at-other : get_elem? s.views other ≡ some w)
      (goes : w.out ≡ None) (stays : took.out ≡ v.out)
      (seats : (p : ℕ) → seat_of took p ≡ seat_of v p) (loads : (p : ℕ) → loads_at took p ≡ loads_at v p)
      (frames : (f : ℕ) → has f took.frames ≡ (has f w.frames || has f v.frames))
      (numbers : (p : ℕ) → has p took.numbers ≡ (has p v.numbers || has p w.numbers)) where
    abbrev both' : List (View X)
    both' = twice s.views id other v w took spent is.there apart at-other

    here : at spent both' id ≡ took
    here = at-first s.views id other v w took spent is.there apart at-other

    -- a field of the views, of which a spent one has `none`, and the one that takes in another has `own`
    field-taken : {A : Type 0} (f : View X → A) (none own : A) → f spent ≡ none → f took ≡ own
        → (λ a. f (at spent both' a)) ≡ upd (upd (λ a. f (at spent s.views a)) id own) other none
    field-taken f none own nothing same =
        fun_ext (each-upd (λ a y. f (at spent both' a) ≡ y) (upd (λ a. f (at spent s.views a)) id own) other none
        (ap f (at-second s.views id other v w took spent is.there apart at-other) ∙ nothing)
        (λ a. each-upd (λ b y. b ≢ other → f (at spent both' b) ≡ y) (λ b. f (at spent s.views b)) id own
        (λ _. ap f here ∙ same)
        (λ b n m. ap f (at-neither s.views id other v w took spent is.there apart at-other b n m)) a))

    -- one of which it has what it had
    field-kept : {A : Type 0} (f : View X → A) (none : A) → f spent ≡ none → f took ≡ f v
        → (λ a. f (at spent both' a)) ≡ upd (λ a. f (at spent s.views a)) other none
    field-kept f none nothing same =
        field-taken f none (f (at spent s.views id)) nothing (same ∙ ap f (sym (at-there spent s.views id v is.there)))
        ∙ ap (λ g. upd g other none) (upd-self (λ a. f (at spent s.views a)) id)

    blocks-stay : block_of stored s.homes both' ≡ block_of stored s.homes s.views
    blocks-stay =
        block-same stored s.homes (slice_set s.views id took) other w spent
        (once-second s.views id other v w took spent is.there apart at-other) (sym goes)
        ∙ block-same stored s.homes s.views id v took is.there stays

    pages-taken : pages_from start.pages (table_words start s.words) (block_of stored s.homes both')
        (seats_of both') ≡ (λ p.
        record (before.core.pages p) { seats = upd (before.core.pages p).seats other no_seat })
    pages-taken = fun_ext (λ p. ⊎_elim
        (λ l.
        page-in start.pages (table_words start s.words) (block_of stored s.homes both') (seats_of both') p l
        ∙ (λ i. record (page_from (table_words start s.words) (blocks-stay i) (seats_of s.views) p) {
          seats =
              field-kept (λ y. seat_of y p) no_seat refl (seats p) i;
        })
        ∙ sym (ap (λ (y : Page). record y { seats = upd y.seats other no_seat })
        (page-in start.pages (table_words start s.words) (block_of stored s.homes s.views) (seats_of s.views) p
        l)))
        (λ le.
        page-out start.pages (table_words start s.words) (block_of stored s.homes both') (seats_of both') p le
        ∙ sym (ap (λ (y : Page). record y { seats = upd y.seats other no_seat })
        (page-out start.pages (table_words start s.words) (block_of stored s.homes s.views) (seats_of s.views) p
        le) ∙ (λ i. record (outside_page start.size) { seats = (upd-self (λ (_ : ℕ). no_seat) other) i })))
        (cases_lt p start.pages))

    held-taken : frames_held both' ≡ upd
        (upd (frames_held s.views) id (λ f. frames_held s.views other f || frames_held s.views id f)) other
        (λ f. false)
    held-taken =
        field-taken (λ y f. has f y.frames) (λ f. false) (λ f. frames_held s.views other f || frames_held s.views id f) refl
        (fun_ext (λ f. frames f
        ∙ (λ i. has f (sym (at-there spent s.views other w at-other) i).frames || has f
        (sym (at-there spent s.views id v is.there) i).frames)))

    numbers-taken : numbers_held both' ≡ upd
        (upd (numbers_held s.views) id (λ p. numbers_held s.views id p || numbers_held s.views other p)) other
        (λ p. false)
    numbers-taken =
        field-taken (λ y p. has p y.numbers) (λ p. false) (λ p. numbers_held s.views id p || numbers_held s.views other p) refl
        (fun_ext (λ p. numbers p
        ∙ (λ i. has p (sym (at-there spent s.views id v is.there) i).numbers || has p
        (sym (at-there spent s.views other w at-other) i).numbers)))

    loads-taken : loads_of both' ≡ (λ p. upd (loads_of s.views p) other [])
    loads-taken = fun_ext (λ p. field-kept (λ y. loads_at y p) [] refl (loads p))

    taken-world : world_of stored start r.releases r.drafts (record {
      words = s.words;
      homes = s.homes;
      views = both';
    }) ≡ taken_in id other before
    taken-world i = record {
      core = record (core_shown stored start s) {
        shape = record {
          pages = start.pages;
          frames = start.frames;
          actors = (length-set (slice_set s.views id took) other spent ∙ length-set s.views id took) i;
          next = start.next;
        };
        pages = pages-taken i;
        held = held-taken i;
        numbers = numbers-taken i;
      };
      histories = histories_of start r.releases r.drafts;
      loads = loads-taken i;
    }

  module _ (other : ℕ) (w : View X) (apart : other ≢ id) (at-other : get_elem? s.views other ≡ some w)
      (live' : w.live ≡ true) (settled-here : (v.told_releases ≡ []) × (v.told ≡ []))
      (settled-other : (w.told_releases ≡ []) × (w.told ≡ [])) where
    -- ---- join

    pub join-no-event : HoldsNoPage w → IsTakenIn stored keeps tied start tells s r id other (table_joined s id other v w)
    join-no-event nothing =
        let past = joins-past stored keeps tied start tells s r id other v w is.there apart at-other is.live live'
        settled-here settled-other nothing in
        record {
          goes = record {
            rule = joins-ruled stored keeps tied start tells s r id other v w is.there apart at-other is.live live'
                settled-here settled-other nothing;
            releases = past.0;
            history = past.1;
            drafts = past.2;
          };
          core = taken-world other w (joined v w) apart at-other nothing.out refl (λ p. refl) (λ p. refl)
              (λ f. has-both f w.frames v.frames) (λ p. has-both p v.numbers w.numbers);
        }

    -- ---- hearing

    pub hearing-no-event : OnlyKnows w → IsTakenIn stored keeps tied start tells s r id other (table_heard s id other v w)
    hearing-no-event only =
        let nothing : HoldsNothing w = (r.heard other w at-other live').idle only.used only.fresh in
        let past = hears-past stored keeps tied start tells s r id other v w is.there apart at-other is.live live'
        settled-here settled-other only in
        record {
          goes = record {
            rule = hears-ruled stored keeps tied start tells s r id other v w is.there apart at-other is.live live'
                settled-here settled-other only;
            releases = past.0;
            history = past.1;
            drafts = past.2;
          };
          core = taken-world other w (hearer v w) apart at-other nothing.out refl (λ p. refl) (λ p. refl)
              (λ f. ap (λ l. has f l || has f v.frames) (sym nothing.frames))
              (λ p. sym (or-false (has p v.numbers)) ∙ ap (λ l. has p v.numbers || has p l) (sym nothing.numbers.0));
        }

module _ {X B : Type 0} (stored : B → Stored) (keeps : Start → Kept X → Type 0)
    (tied : Start → ℕ → List ℕ → ℕ → List ℕ → Type 0) (tells : Bool) where
  pub follow-event : FollowIsItsEvent stored keeps tied tells
  follow-event start s id v w f pass at =
      load-event stored keeps tied tells start s id f.found v w pass at
      (ap (λ (y : View X). y.out) f.view) (ap (λ (y : View X). holdings y) f.view) (ap (λ (y : View X). y.seats) f.view)
