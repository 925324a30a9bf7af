-- A pass takes in another that only knows the two lists, and then takes over what it was told: the table meets the
-- rule.
use Rattle.vm_rule.specs.declared.view.WordPlace.TheVariants as places
use Rattle.vm_rule.proofs.Numbered.{hands-still, numbers-as}
use Rattle.vm_rule.proofs.{Found.next-here, Heard.each-both, Known.known-with, Sound.is-sound, Sound.never-falls}
use Rattle.vm_rule.proofs.{Sound.next-front, Views.any-same, Views.at-bound, Views.field-still, Views.out-same}
use Rattle.vm_rule.proofs.{Views.set-each, Worlds.last-else, Worlds.last-here, Worlds.last-is}
use Rattle.vm_rule.proofs.Entries.{append-none, entries-both, entries-none, none-each, total-same}
use Rattle.vm_rule.proofs.Joining.{Absorbs, absorbs-ruled}
use Rattle.vm_rule.proofs.Prelude.{[], ap, append_assoc, append_cancel_left, AreNext, arith, Bool, cases_eq, did_load}
use Rattle.vm_rule.proofs.Prelude.{entries_by, follower, get_elem?, has, hearer, Hears, HoldsNothing, index_of, inl}
use Rattle.vm_rule.proofs.Prelude.{is_pending, IsLocking, Kept, KnowsLists, KnowsPages, last_in, length, length-set}
use Rattle.vm_rule.proofs.Prelude.{List, loads_at, OnlyKnows, Option, Origin, owns, refl, Release, Ruled, Seat}
use Rattle.vm_rule.proofs.Prelude.{seat_of, set_here, slice_index, slice_set, some, spent, Start, StartsWith, Stored}
use Rattle.vm_rule.proofs.Prelude.{subst, sym, Table, TakesOver, times, times_noted, true, true≢false, Version, View}
use Rattle.vm_rule.proofs.Prelude.{WereWords, world_of, ℕ, ⊎_elim, ◌++◌, ◌+◌, ◌||◌, ◌∙◌, ◌∷◌, ◌≡◌, ◌≢◌, ◌≤◌}
use Rattle.vm_rule.proofs.Resettling.{all-told, fit-now, IsFit, keeps-resettles, KnowsHistory, KnowsReleases}
use Rattle.vm_rule.proofs.Resettling.{Resettles, set-some, settled-ruled, Settles}

-- ---- lists

-- a page that has one and the same version before and after some releases has it after the first of them too
stays-between : (start : Origin) (before m q : List Release) (p : ℕ) → AreNext start before (m ++ q)
    → (last_in start (before ++ (m ++ q)) p).version ≡ (last_in start before p).version
    → last_in start (before ++ m) p ≡ last_in start before p
stays-between start before [] q p a e = ap (λ l. last_in start l p) (append-none before)
stays-between start before (r ∷ rs) q p a e =
    let all : (last_in start ((before ++ r ∷ []) ++ (rs ++ q)) p).version ≡ (last_in start before p).version =
    ap (λ l. (last_in start l p).version) (append_assoc before (r ∷ []) (rs ++ q)) ∙ e in
    ⊎_elim
    (λ (t : p ≡ r.page).
    let is : (last_in start (before ++ r ∷ []) p).version ≡ r.version = last-here start before r p (sym t) in
    let next : r.version ≡ (last_in start before p).version + 1 = a.0 ∙ ap (λ k. (last_in start before k).version + 1) (sym t) in
    let later : (last_in start (before ++ r ∷ []) p).version
    ≤ (last_in start ((before ++ r ∷ []) ++ (rs ++ q)) p).version = never-falls start (before ++ r ∷ []) (rs ++ q)
    p a.1 in
    absurd (omega (arith, all, is, next, later)))
    (λ (ne : p ≢ r.page).
    let here : last_in start (before ++ r ∷ []) p ≡ last_in start before p = last-else start before r p ne in
    ap (λ l. last_in start l p) (sym (append_assoc before (r ∷ []) rs))
    ∙ stays-between start (before ++ r ∷ []) rs q p a.1 (all ∙ ap (λ (v : Version). v.version) (sym here))
    ∙ here)
    (cases_eq p r.page)

module _ {X B : Type 0} (stored : B → Stored) (keeps : Start → Kept X → Type 0)
    (tied : Start → ℕ → List ℕ → ℕ → List ℕ → Type 0) (start : Origin) (tells : Bool) where
  -- ---- a pass is told

  module _ (s : Table (Option B) (View X)) (r : Ruled stored keeps tied start tells s) (id other : ℕ) (v w : View X)
      (there : get_elem? s.views id ≡ some v) (apart : other ≢ id) (at-other : get_elem? s.views other ≡ some w)
      (live : v.live ≡ true) (live' : w.live ≡ true) (settled-here : (v.told_releases ≡ []) × (v.told ≡ []))
      (settled-other : (w.told_releases ≡ []) × (w.told ≡ [])) (only : OnlyKnows w) where
    mine : KnowsLists start r.releases r.history v
    mine = r.heard id v there live

    theirs : KnowsLists start r.releases r.history w
    theirs = r.heard other w at-other live'

    -- the one that told it held nothing
    nothing : HoldsNothing w
    nothing = theirs.idle only.used only.fresh

    hearer-absorbs : Absorbs v w (hearer v w)
    hearer-absorbs = record {
      seats = refl;
      loads = refl;
      frames = λ f. ap (λ l. has f l || has f v.frames) (sym nothing.frames);
      numbers = sym (append-none v.numbers) ∙ ap (λ (l : List ℕ). v.numbers ++ l) (sym nothing.numbers.0);
      freed = sym (append-none v.freed) ∙ ap (λ (l : List ℕ). v.freed ++ l) (sym nothing.numbers.1);
      out = refl;
      pending = refl;
      owed = refl;
      notes = λ p n. (let none : times_noted p n w.notes ≡ 0 = ap (times_noted p n) only.notes in omega arith);
      parts = λ k. (let none : times k w.used ≡ 0 = ap (times k) only.used in let none' : times k w.fresh ≡ 0 =
          ap (times k) only.fresh in omega arith);
      releases = (refl, refl);
      history = λ h e. e;
    }

    hearer-fit : IsFit stored keeps tied start tells s r (hearer v w)
    hearer-fit =
        let c = fit-now stored keeps tied start tells s r id v there in
        let k = c.known live in
        record {
          away = c.away;
          noted = c.noted;
          gone = λ off. absurd (true≢false (sym live ∙ off));
          heard = λ _. record {
            same_start = mine.same_start;
            saw = mine.saw;
            heard = mine.heard;
            told = (theirs.saw, (theirs.heard.0, theirs.heard.1, entries-none theirs.heard.0), λ k e. absurd (true≢false (sym e)));
            mine = mine.mine;
            fresh = mine.fresh;
            idle = λ a b. let h = mine.idle a b in record {
              shares = h.shares;
              exclusive = h.exclusive;
              writing = h.writing;
              frames = h.frames;
              numbers = h.numbers;
              out = h.out;
            };
          };
          known = λ _. known-with tied start _ _ v k k.contents k.latest k.words;
          whole = c.whole;
        }

    pub hears-ruled : Ruled stored keeps tied start tells (record {
      words = s.words;
      homes = s.homes;
      views = slice_set (slice_set s.views id (hearer v w)) other spent;
    })
    hears-ruled = absorbs-ruled stored keeps tied start tells s r id other v w there apart at-other live live'
        settled-here settled-other (record {
          shares = nothing.shares;
          exclusive = nothing.exclusive;
          writing = nothing.writing;
          out = nothing.out;
        }) (hearer v w) hearer-absorbs hearer-fit

    -- the lists and the drafts are as they were
    pub hears-past : (hears-ruled.releases ≡ r.releases) × (hears-ruled.history ≡ r.history) × (hears-ruled.drafts ≡ r.drafts)
    unfolding hears-ruled absorbs-ruled settled-ruled
    hears-past = (refl, refl, refl)

  -- ---- it takes over what it was told

  module _ (s : Table (Option B) (View X)) (r : Ruled stored keeps tied start tells s) (id : ℕ) (v : View X)
      (there : get_elem? s.views id ≡ some v) (live : v.live ≡ true)
      (on-releases : StartsWith v.told_releases v.releases) (on-seen : StartsWith v.told v.seen) where
    own-lists : KnowsLists start r.releases r.history v
    own-lists = r.heard id v there live

    own-pages : KnowsPages tied start (world_of stored start r.releases r.drafts s) (is_pending s.views) v
    own-pages = r.known id v there live

    abbrev found : ℕ
    found = slice_index s.words (index_of start places.Next)

    abbrev after : View X
    after = follower v (did_load places.Next found)

    abbrev views' : List (View X)
    views' = slice_set s.views id after

    resettles : Resettles s.views views' 0 (length s.views) id
    resettles =
        keeps-resettles s.views views' 0 id (let same : length views' ≡ length s.views =
        length-set s.views id after in omega arith) (at-bound s.views id v there)
        (λ p a. field-still {A = Seat × List (ℕ × ℕ)} (λ y. (seat_of y p, loads_at y p)) s.views id v after there refl a)
        (λ f a. field-still (λ y. has f y.frames) s.views id v after there refl a)
        (λ p. out-same s.views id v after p there refl)
        (λ p. any-same (λ y. has p y.pending) s.views id v after there refl)
        (λ p. any-same (λ y. has p y.owed) s.views id v after there refl)

    -- what the history has behind what the pass had seen, and behind what it was told
    none-further : entries_by v.used (on-seen.0 ++ own-lists.told.1.0) ≡ []
    none-further = ap (entries_by v.used)
        (sym (append_cancel_left v.seen own-lists.heard.0 (on-seen.0 ++ own-lists.told.1.0)
        (sym own-lists.heard.1 ∙ own-lists.told.1.1 ∙ ap (λ l. l ++ own-lists.told.1.0) on-seen.1
        ∙ append_assoc v.seen on-seen.0 own-lists.told.1.0))) ∙ own-lists.heard.2

    heard-told : Hears v.told v.used v.seen
    heard-told = (on-seen.0, on-seen.1, (none-each v.used on-seen.0 own-lists.told.1.0 none-further).0)

    -- a page that it has locked was not released between what it had seen and what it was told
    kept-since : (p : ℕ) → IsLocking (seat_of v p) → last_in v.start v.told_releases p ≡ last_in v.start v.releases p
    kept-since p locks =
        let rest : List Release = on-releases.0 ++ own-lists.told.0.0 in
        let cut : r.releases ≡ v.releases ++ rest = own-lists.told.0.1 ∙ ap (λ l. l ++ own-lists.told.0.0)
        on-releases.1 ∙ append_assoc v.releases on-releases.0 own-lists.told.0.0 in
        let latest : last_in start v.releases p ≡ last_in start r.releases p =
        ap (λ (o : Origin). last_in o v.releases p) (sym own-lists.same_start) ∙ own-pages.latest p locks
        ∙ sym (last-is start r.releases r.drafts p) in
        (λ i. last_in (own-lists.same_start i) (on-releases.1 i) p)
        ∙ stays-between start v.releases on-releases.0 own-lists.told.0.0 p
        (next-front start [] v.releases rest (subst (AreNext start []) cut r.lists.rises)).1
        (ap (λ l. (last_in start l p).version) (sym cut) ∙ ap (λ (v : Version). v.version) (sym latest))
        ∙ ap (λ (o : Origin). last_in o v.releases p) (sym own-lists.same_start)

    follower-fit : IsFit stored keeps tied start tells s r after
    follower-fit =
        let c = fit-now stored keeps tied start tells s r id v there in
        record {
          away = c.away;
          noted = c.noted;
          gone = λ off. absurd (true≢false (sym live ∙ off));
          heard = λ _. record {
            same_start = own-lists.same_start;
            saw = own-lists.told.0;
            heard = (own-lists.told.1.0, own-lists.told.1.1, (none-each v.used on-seen.0 own-lists.told.1.0 none-further).1);
            told = ((r.releases, refl), (r.history, refl, entries-none r.history), λ k e. absurd (true≢false (sym e)));
            mine = own-lists.mine ∙ sym (ap (entries_by v.used) heard-told.1 ∙ entries-both v.used v.seen heard-told.0
                ∙ (λ i. entries_by v.used v.seen ++ heard-told.2 i) ∙ append-none (entries_by v.used v.seen));
            fresh = own-lists.fresh;
            idle = λ a b. let h = own-lists.idle a b in record {
              shares = h.shares;
              exclusive = h.exclusive;
              writing = h.writing;
              frames = h.frames;
              numbers = h.numbers;
              out = h.out;
            };
          };
          known = λ _. known-with tied start _ _ v own-pages own-pages.contents
              (λ p locks. kept-since p locks ∙ own-pages.latest p locks)
              (each-both (WereWords (world_of stored start r.releases r.drafts s)) v.log
              (did_load places.Next found ∷ []) own-pages.words
              ((tt, ((let is = next-here stored start s in omega (arith, is)), tt)), tt));
          whole = λ _ whole current.
              let same = c.whole live whole current in (
                all-told r.releases v.told_releases v.releases own-lists.told.0 on-releases same.0,
                all-told r.history v.told v.seen (own-lists.told.1.0, own-lists.told.1.1) on-seen same.1,
                same.2,
              );
        }

    settles : Settles stored keeps tied start tells s r views' 0 (length s.views) id resettles
    settles = record {
      fit = set-each (IsFit stored keeps tied start tells s r) s.views id after follower-fit
          (λ j u _. fit-now stored keeps tied start tells s r j u);
      notes = λ p n. total-same (λ y. times_noted p n y.notes) s.views id v after there refl;
      parts = λ k. total-same (owns k) s.views id v after there refl;
      numbers = λ t. numbers-as refl refl refl refl (sym (hands-still s.views id v after there refl)) (r.numbers t);
      holding = λ t p. any-same (λ y. has p y.numbers) s.views id v after there refl;
      giving = λ t p. any-same (λ y. has p y.freed) s.views id v after there refl;
      releases = set-some (KnowsReleases stored keeps tied start tells s r) s.views id v after there
          (⊎_elim (λ q. inl (all-told r.releases v.told_releases v.releases own-lists.told.0 on-releases q)) inl) r.lists.longest_releases;
      history = set-some (KnowsHistory stored keeps tied start tells s r) s.views id v after there
          (⊎_elim (λ q. inl (all-told r.history v.told v.seen (own-lists.told.1.0, own-lists.told.1.1) on-seen q)) inl) r.lists.longest;
    }

    pub follows-ruled : Ruled stored keeps tied start tells (record {
      words = s.words;
      homes = s.homes;
      views = views';
    }) × TakesOver v after
    follows-ruled =
        let ruled = settled-ruled stored keeps tied start tells s r views' 0 (length s.views) id resettles settles in (
          ruled,
          record {
            found = found;
            view = refl;
            heard = heard-told;
            kept = kept-since;
            sound = is-sound stored keeps tied start tells (record {
              words = s.words;
              homes = s.homes;
              views = views';
            }) ruled id after (set_here s.views id after (at-bound s.views id v there)) live;
          },
        )
