-- A pass takes over all that another one has, which holds no page and is spent then: the table meets the rule. So it
-- does where a pass takes in
-- another.
use Rattle.std.specs.Prelude.{map}
use Rattle.vm_numbers.specs.Hands.{joined_hands, no_hands}
use Rattle.vm_numbers.proofs.Passes.{join_keeps}
use Rattle.vm_rule.proofs.Numbered.{hands-set, hands-there, numbers-as}
use Rattle.vm_rule.specs.Rule.{hands_of}
use Rattle.vm_rule.proofs.Facts.{any-here, any-true}
use Rattle.std.proofs.lemmas.Bool.{false_from_ne_true, or_cases}
use Rattle.vm_rule.proofs.{Bundled.with_contents-at, Facts.either-way, Gathering.ReadsLess}
use Rattle.vm_rule.proofs.{Heard.each-both, Known.known-with}
use Rattle.vm_rule.proofs.Entries.{entries-union, has-joined, none-each, none-left}
use Rattle.vm_rule.proofs.Prelude.{[], any, ap, arith, at, at_set, Bool, cases_Bool, cases_eq, cases_lt, entries_by}
use Rattle.vm_rule.proofs.Prelude.{Entry, false, false≢true, get_elem?, has, Hears, HoldsNoPage, if◌then◌else◌, inl}
use Rattle.vm_rule.proofs.Prelude.{inr, is_pending, joined, Kept, knows_more, KnowsLists, KnowsPages, length}
use Rattle.vm_rule.proofs.Prelude.{length-set, List, loads_at, lt-ltb, ltb-true, no_seat, Note, Option, or-true}
use Rattle.vm_rule.proofs.Prelude.{Origin, owns, put_at, refl, Ruled, Seat, seat_of, set_else, set_here, slice_set}
use Rattle.vm_rule.proofs.Prelude.{some, some-injective, spent, Start, Stored, subst, sym, Table, times_noted, total}
use Rattle.vm_rule.proofs.Prelude.{true, true≢false, upd-other, View, world_of, ℕ, ⊎_elim, ◌++◌, ◌+◌, ◌<◌, ◌||◌, ◌∙◌}
use Rattle.vm_rule.proofs.Prelude.{◌∷◌, ◌≡◌, ◌≢◌, ◌≤◌, ◌⊎◌}
use Rattle.vm_rule.proofs.Resettling.{fit-now, fit-spent, HasSome, IsFit, KnowsHistory}
use Rattle.vm_rule.proofs.Resettling.{KnowsReleases, replaced-less, Resettles, seen-all}
use Rattle.vm_rule.proofs.Resettling.{settled-ruled, Settles}
use Rattle.vm_rule.proofs.Views.{any-same, at-bound, at-there, field-still, out-same, total-set, views-set}
pub use Rattle.vm_rule.proofs.Heard.{times-joined}

module _ {X : Type 0} where
  -- ---- two views of a list are set

  module _ (views : List (View X)) (i j : ℕ) (u v x y : View X) (at-i : get_elem? views i ≡ some u) (apart : j ≢ i)
      (at-j : get_elem? views j ≡ some v) where
    abbrev once : List (View X)
    once = slice_set views i x

    abbrev pub twice : List (View X)
    twice = slice_set once j y

    pub once-second : get_elem? once j ≡ some v
    once-second = set_else views i j x apart ∙ at-j

    twice-first : get_elem? twice i ≡ some x
    twice-first = set_else once j i y (λ e. apart (sym e)) ∙ set_here views i x (at-bound views i u at-i)

    pub at-first : at spent twice i ≡ x
    at-first = at-there spent twice i x twice-first

    pub at-second : at spent twice j ≡ y
    at-second = at-there spent twice j y (set_here once j y (at-bound once j v once-second))

    pub at-neither : (a : ℕ) → a ≢ i → a ≢ j → at spent twice a ≡ at spent views a
    at-neither a n m =
        ap (λ f. f a) (views-set once j v y once-second) ∙ upd-other (at spent once) j y a m
        ∙ ap (λ f. f a) (views-set views i u x at-i) ∙ upd-other (at spent views) i x a n

    -- a view is one of the two, or as it was
    twice-at : (a : ℕ) (z : View X) → get_elem? twice a ≡ some z → (y ≡ z) ⊎ ((x ≡ z) ⊎ (get_elem? views a ≡ some z))
    twice-at a z e = ⊎_elim (λ t. inl t.1)
        (λ t. inr (⊎_elim (λ q. inl q.1) (λ q. inr q.1) (at_set views i a x z t.1))) (at_set once j a y z e)

    -- what is summed, and what any view says, where the two together say as much as both
    twice-total : (f : View X → ℕ) → f x + f y ≡ f u + f v → total f twice ≡ total f views
    twice-total f e =
        let a : total f once + f u ≡ total f views + f x = total-set f views i u x at-i in
        let b : total f twice + f v ≡ total f once + f y = total-set f once j v y once-second in
        omega (arith, a, b, e)

    twice-any : (f : View X → Bool) → f x ≡ f u → f y ≡ f v → any f twice ≡ any f views
    twice-any f e e' = any-same f once j v y once-second e' ∙ any-same f views i u x at-i e

    -- what some view says, where the first of the two says what either did
    twice-some : (P : View X → Type 0) → (P u → P x) → (P v → P x) → HasSome P views → HasSome P twice
    twice-some P f g l =
        ⊎_elim
        (λ e. (i, x, twice-first, f (subst P (some-injective l.1 u (sym l.2 ∙ ap (get_elem? views) e ∙ at-i)) l.3)))
        (λ n. ⊎_elim
        (λ e. (i, x, twice-first, g (subst P (some-injective l.1 v (sym l.2 ∙ ap (get_elem? views) e ∙ at-j)) l.3)))
        (λ m. (l.0, l.1, set_else once j l.0 y m ∙ set_else views i l.0 x n ∙ l.2, l.3))
        (cases_eq l.0 j))
        (cases_eq l.0 i)

    -- what any says, where the first of the two says it where either did, and the second does not
    twice-or : (f : View X → Bool) → f x ≡ (f u || f v) → f y ≡ false → any f twice ≡ any f views
    twice-or f e none =
        ⊎_elim
        (λ t. let k = any-true f views t in
        let l = twice-some (λ z. f z ≡ true) (λ a. e ∙ ap (λ b. b || f v) a) (λ a. e ∙ ap (λ b. f u || b) a ∙ or-true (f u)) k in
        any-here f twice l.0 l.1 l.2 l.3 ∙ sym t)
        (λ n. false_from_ne_true (any f twice) (λ t.
        let k = any-true f twice t in
        true≢false (sym (⊎_elim
        (λ q. absurd (true≢false (sym k.3 ∙ sym (ap f q) ∙ none)))
        (λ r. ⊎_elim
        (λ q. ⊎_elim (λ a. any-here f views i u at-i a) (λ a. any-here f views j v at-j a) (or_cases (f u) (f v) (sym e ∙ ap f q ∙ k.3)))
        (λ q. any-here f views k.0 k.1 q k.3)
        r)
        (twice-at k.0 k.1 k.2)) ∙ n)) ∙ sym n)
        (cases_Bool (any f views))

  -- the view x has what v holds, and frames, notes and parts of w as well; it was told what w had seen
  pub record Absorbs (v w x : View X) : Type 0 where
    pub seats : x.seats ≡ v.seats
    pub loads : x.loads ≡ v.loads
    pub frames : (f : ℕ) → has f x.frames ≡ (has f w.frames || has f v.frames)
    pub numbers : x.numbers ≡ v.numbers ++ w.numbers
    pub freed : x.freed ≡ v.freed ++ w.freed
    pub out : x.out ≡ v.out
    pub pending : x.pending ≡ v.pending
    pub owed : x.owed ≡ v.owed
    pub notes : (p n : ℕ) → times_noted p n x.notes ≡ times_noted p n v.notes + times_noted p n w.notes
    pub parts : (k : ℕ) → owns k x ≡ owns k v + owns k w
    pub releases : (x.releases ≡ v.releases) × (x.told_releases ≡ w.releases)
    pub history : (h : List (Entry X)) → (v.seen ≡ h) ⊎ (w.seen ≡ h) → (x.seen ≡ h) ⊎ (x.told ≡ h)

-- ---- lists

noted-joined : (p n : ℕ) (a b : List Note) → times_noted p n (a ++ b) ≡ times_noted p n a + times_noted p n b
noted-joined p n [] b = omega arith
noted-joined p n (x ∷ a) b = let h : times_noted p n (a ++ b) ≡ times_noted p n a + times_noted p n b = noted-joined p n a b in omega arith

pub has-either : (n : ℕ) (a b : List ℕ) → has n (a ++ b) ≡ true → (has n a ≡ true) ⊎ (has n b ≡ true)
has-either n a b e = ⊎_elim inl (λ f. inr (sym (has-joined n a b ∙ ap (λ c. c || has n b) f) ∙ e)) (cases_Bool (has n a))

pub has-left : (n : ℕ) (a b : List ℕ) → has n a ≡ true → has n (a ++ b) ≡ true
has-left n a b e = has-joined n a b ∙ rw e refl

pub has-right : (n : ℕ) (a b : List ℕ) → has n b ≡ true → has n (a ++ b) ≡ true
has-right n a b e = has-joined n a b ∙ ap (λ c. has n a || c) e ∙ or-true (has n a)

-- of two beginnings, what follows the shorter ends with what follows the longer
follows : {A : Type 0} (a b r q : List A) → a ++ r ≡ b ++ q → length b ≤ length a → (m : List A) × (q ≡ m ++ r)
follows a [] r q e h = (a, sym e)
follows [] (y ∷ b) r q e h = absurd (omega arith)
follows (x ∷ a) (y ∷ b) r q e h = follows a b r q (cc) (omega arith)

module _ {X : Type 0} where
  -- who heard the shorter history has no entry behind the longer
  hears-longer : (h a b : List (Entry X)) (ns ms : List ℕ) (f : Hears h ns a) → Hears h ms b → length b ≤ length a
      → entries_by ms f.0 ≡ []
  hears-longer h a b ns ms f g le =
      let m = follows a b f.0 g.0 (sym f.1 ∙ g.1) le in
      (none-each ms m.0 f.0 (ap (entries_by ms) (sym m.1) ∙ g.2)).1

  -- what both heard, with the numbers of both; what the other heard; and which of the two has the whole history
  module _ (h : List (Entry X)) (v w : View X) where
    hears-joined : Hears h v.used v.seen → Hears h w.used w.seen → Hears h (joined v w).used (joined v w).seen
    hears-joined f g = longer (knows_more v w) refl
      where
        longer : (b : Bool) → knows_more v w ≡ b → Hears h (v.used ++ w.used) (if b then w.seen else v.seen)
        longer true t =
            let l : length v.seen < length w.seen = ltb-true (length v.seen) (length w.seen) t in
            (g.0, g.1, entries-union v.used w.used g.0 (hears-longer h w.seen v.seen w.used v.used g f (omega arith)) g.2)
        longer false t =
            let le : length w.seen ≤ length v.seen =
            ⊎_elim (λ l. absurd (true≢false (sym (lt-ltb (length v.seen) (length w.seen) l) ∙ t))) (λ le. le)
            (cases_lt (length v.seen) (length w.seen)) in
            (f.0, f.1, entries-union v.used w.used f.0 f.2 (hears-longer h v.seen w.seen v.used w.used f g le))

    told-joined : (b : Bool) → Hears h v.used v.seen → Hears h w.used w.seen → Hears h (if b then v.used else w.used)
        (if b then v.seen else w.seen)
    told-joined true f g = f
    told-joined false f g = g

    told-within : (b : Bool) (k : ℕ) → has k (if b then v.used else w.used) ≡ true → has k (v.used ++ w.used) ≡ true
    told-within true k e = has-left k v.used w.used e
    told-within false k e = has-right k v.used w.used e

    longest-joined : (b : Bool) → (v.seen ≡ h) ⊎ (w.seen ≡ h)
        → ((if b then w.seen else v.seen) ≡ h) ⊎ ((if b then v.seen else w.seen) ≡ h)
    longest-joined true (inl e) = inr e
    longest-joined true (inr e) = inl e
    longest-joined false e = e

  -- the frames of both, with their words
  gathered-contents : (v w : View X) (words : ℕ → List ℕ)
      → ((f : ℕ) → has f v.frames ≡ true → put_at [] v.contents f ≡ words f)
      → ((f : ℕ) → has f w.frames ≡ true → put_at [] w.contents f ≡ words f)
      → (f : ℕ) → has f (joined v w).frames ≡ true → put_at [] (joined v w).contents f ≡ words f
  gathered-contents v w words mine theirs f e = with_contents-at (put_at [] w.contents) w.frames v.contents f ∙ either (has f w.frames) refl
    where
      either : (b : Bool) → has f w.frames ≡ b
          → (if b then put_at [] w.contents f else put_at [] v.contents f) ≡ words f
      either true t = theirs f t
      either false n = mine f (sym (has-joined f w.frames v.frames ∙ ap (λ b. b || has f v.frames) n) ∙ e)

  joined-absorbs : (v w : View X) → Absorbs v w (joined v w)
  joined-absorbs v w = record {
    seats = refl;
    loads = refl;
    frames = λ f. has-joined f w.frames v.frames;
    numbers = refl;
    freed = refl;
    out = refl;
    pending = refl;
    owed = refl;
    notes = λ p n. noted-joined p n v.notes w.notes;
    parts = λ k. (let a = times-joined k v.used w.used in let b = times-joined k v.fresh w.fresh in omega (arith, a, b));
    releases = (refl, refl);
    history = λ h. longest-joined h v w (knows_more v w);
  }

-- ---- the rule

module _ {X B : Type 0} (stored : B → Stored) (keeps : Start → Kept X → Type 0)
    (tied : Start → ℕ → List ℕ → ℕ → List ℕ → Type 0) (start : Origin) (tells : Bool) (s : Table (Option B) (View X))
    (r : Ruled stored keeps tied start tells s)
    (id other : ℕ) (v w : View X) (there : get_elem? s.views id ≡ some v) (apart : other ≢ id)
    (at-other : get_elem? s.views other ≡ some w) (live : v.live ≡ true) (live' : w.live ≡ true)
    (settled-here : (v.told_releases ≡ []) × (v.told ≡ [])) (settled-other : (w.told_releases ≡ []) × (w.told ≡ []))
    (nothing : HoldsNoPage w) where
  -- the pass takes all over in its view x, and the other is spent
  module _ (x : View X) (ab : Absorbs v w x) (fit : IsFit stored keeps tied start tells s r x) where
    abbrev after : List (View X)
    after = twice s.views id other v w x spent there apart at-other

    gone : get_elem? (slice_set s.views id x) other ≡ some w
    gone = once-second s.views id other v w x spent there apart at-other

    pages : KnowsPages tied start (world_of stored start r.releases r.drafts s) (is_pending s.views) w
    pages = r.known other w at-other live'

    not-held : (p : ℕ) (b : Bool) → (b ≡ true → (seat_of w p).exclusive ≡ true) → false ≡ b
    not-held p b f = ⊎_elim (λ t. absurd (true≢false (sym (f t) ∙ nothing.exclusive p))) (λ n. sym n) (cases_Bool b)

    pub resettles : Resettles s.views after 0 other id
    resettles = record {
      count = (let same : length after ≡ length s.views = length-set (slice_set s.views id x) other spent
          ∙ length-set s.views id x in omega (arith, same));
      apart = λ e. apart (sym e);
      named = at-bound s.views id v there;
      less = λ p a. subst (λ (q : Seat × List (ℕ × ℕ)). ReadsLess q.0 (seat_of (at spent after a) p) q.1 (loads_at (at spent after a) p))
          (field-still {A = Seat × List (ℕ × ℕ)} (λ y. (seat_of y p, loads_at y p)) s.views id v x there
          (λ i. (put_at no_seat (ab.seats i) p, put_at [] (ab.loads i) p)) a)
          (replaced-less (slice_set s.views id x) other w spent gone (λ q. record {
            shares = sym (nothing.shares q);
            exclusive = sym (nothing.exclusive q);
            writing = sym (nothing.writing q);
            reading = inl refl;
          }) p a);
      gets = λ f. ap (λ (y : View X). has f y.frames) (at-first s.views id other v w x spent there apart at-other)
          ∙ ab.frames f ∙ either-way (has f w.frames) (has f v.frames)
          ∙ (λ i. if has f (sym (at-there spent s.views other w at-other) i).frames then true else has f
          (sym (at-there spent s.views id v there) i).frames);
      gives = λ f. ap (λ (y : View X). has f y.frames) (at-second s.views id other v w x spent there apart at-other);
      keeps = λ a f n m. ap (λ (y : View X). has f y.frames) (at-neither s.views id other v w x spent there apart at-other a m n);
      out = λ p. out-same (slice_set s.views id x) other w spent p gone (sym nothing.out) ∙ out-same s.views id v x p there ab.out;
      pending = λ p. twice-any s.views id other v w x spent there apart at-other (λ y. has p y.pending)
          (ap (has p) ab.pending) (not-held p (has p w.pending) (λ t. (pages.pending p t).0));
      owed = λ p. twice-any s.views id other v w x spent there apart at-other (λ y. has p y.owed) (ap (has p) ab.owed)
          (not-held p (has p w.owed) (λ t. (pages.owed p t).0));
    }

    pub settles : Settles stored keeps tied start tells s r after 0 other id resettles
    settles =
        let mine = seen-all stored keeps tied start tells s r v (r.heard id v there live) settled-here in
        let theirs = seen-all stored keeps tied start tells s r w (r.heard other w at-other live') settled-other in
        record {
          fit = λ j u e. ⊎_elim
              (λ t. subst (IsFit stored keeps tied start tells s r) t (fit-spent stored keeps tied start tells s r))
              (λ t. ⊎_elim (λ q. subst (IsFit stored keeps tied start tells s r) q fit)
              (λ q. fit-now stored keeps tied start tells s r j u q) t)
              (twice-at s.views id other v w x spent there apart at-other j u e);
          notes = λ p n. twice-total s.views id other v w x spent there apart at-other (λ y. times_noted p n y.notes)
              (omega (arith, ab.notes p n));
          parts = λ k. twice-total s.views id other v w x spent there apart at-other (owns k) (omega (arith, ab.parts k));
          numbers = λ t.
              let same : hands_of x ≡ joined_hands (hands_of v) (hands_of w) = (λ i. record {
                numbers = ab.numbers i;
                freed = ab.freed i;
                owed = ab.owed i;
                pending = ab.pending i;
              }) in
              numbers-as refl refl refl refl
              (ap (λ h. slice_set (slice_set (map hands_of s.views) id h) other no_hands) (sym same)
              ∙ ap (λ l. slice_set l other no_hands) (sym (hands-set s.views id x))
              ∙ sym (hands-set (slice_set s.views id x) other spent))
              (join_keeps _ _ _ _ (map hands_of s.views) (r.numbers t) id other (hands_of v) (hands_of w) apart
              (hands-there s.views id v there) (hands-there s.views other w at-other)
              (λ p. sym (not-held p (has p w.owed) (λ o. (pages.owed p o).0)))
              (λ p. sym (not-held p (has p w.pending) (λ o. (pages.pending p o).0))));
          holding = λ t p. twice-or s.views id other v w x spent there apart at-other (λ y. has p y.numbers)
              (ap (has p) ab.numbers ∙ has-joined p v.numbers w.numbers) refl;
          giving = λ t p. twice-or s.views id other v w x spent there apart at-other (λ y. has p y.freed)
              (ap (has p) ab.freed ∙ has-joined p v.freed w.freed) refl;
          releases = twice-some s.views id other v w x spent there apart at-other
              (KnowsReleases stored keeps tied start tells s r) (λ a. inl (ab.releases.0 ∙ mine.0 a))
              (λ a. inr (ab.releases.1 ∙ theirs.0 a)) r.lists.longest_releases;
          history = twice-some s.views id other v w x spent there apart at-other
              (KnowsHistory stored keeps tied start tells s r) (λ a. ab.history r.history (inl (mine.1 a)))
              (λ a. ab.history r.history (inr (theirs.1 a))) r.lists.longest;
        }

    unfoldable pub absorbs-ruled : Ruled stored keeps tied start tells (record { words = s.words; homes = s.homes; views = after })
    absorbs-ruled = settled-ruled stored keeps tied start tells s r after 0 other id resettles settles

  joined-lists : KnowsLists start r.releases r.history (joined v w)
  joined-lists =
      let mine = r.heard id v there live in
      let theirs = r.heard other w at-other live' in
      record {
        same_start = mine.same_start;
        saw = mine.saw;
        heard = hears-joined r.history v w mine.heard theirs.heard;
        told = (theirs.saw, told-joined r.history v w (knows_more v w) mine.heard theirs.heard, told-within r.history v w (knows_more v w));
        mine = refl;
        fresh = λ k e. ⊎_elim (mine.fresh k) (theirs.fresh k) (has-either k v.fresh w.fresh e);
        idle = λ a b.
            let n = none-left v.used w.used a in
            let m = none-left v.fresh w.fresh b in
            let h = mine.idle n.0 m.0 in
            record {
              shares = h.shares;
              exclusive = h.exclusive;
              writing = h.writing;
              frames = λ i. (theirs.idle n.1 m.1).frames i ++ h.frames i;
              numbers = (λ i. h.numbers.0 i ++ (theirs.idle n.1 m.1).numbers.0 i, λ i. h.numbers.1 i ++ (theirs.idle n.1 m.1).numbers.1 i);
              out = h.out;
            };
      }

  joined-fit : IsFit stored keeps tied start tells s r (joined v w)
  joined-fit =
      let c = fit-now stored keeps tied start tells s r id v there in
      let held-mine = r.known id v there live in
      let held-theirs = r.known other w at-other live' in
      record {
        away = c.away;
        noted = λ p n m.
            let both : times_noted p n (v.notes ++ w.notes) ≡ times_noted p n v.notes + times_noted p n w.notes =
            noted-joined p n v.notes w.notes in
            ⊎_elim (λ l. c.noted p n l) (λ none. r.faults.noted other w at-other p n (omega (arith, m, both, none)))
            (cases_lt 0 (times_noted p n v.notes));
        gone = λ off. absurd (true≢false (sym live ∙ off));
        heard = λ _. joined-lists;
        known = λ _. known-with tied start _ _ v held-mine
            (gathered-contents v w _ held-mine.contents held-theirs.contents) held-mine.latest
            (each-both _ v.log w.log held-mine.words held-theirs.words);
        whole = λ _ _ current. absurd (false≢true current);
      }

  pub joins-ruled : Ruled stored keeps tied start tells (record {
    words = s.words;
    homes = s.homes;
    views = twice s.views id other v w (joined v w) spent there apart at-other;
  })
  joins-ruled = absorbs-ruled (joined v w) (joined-absorbs v w) joined-fit

  -- the lists and the drafts are as they were
  pub joins-past : (joins-ruled.releases ≡ r.releases) × (joins-ruled.history ≡ r.history) × (joins-ruled.drafts ≡ r.drafts)
  unfolding joins-ruled absorbs-ruled settled-ruled
  joins-past = (refl, refl, refl)
