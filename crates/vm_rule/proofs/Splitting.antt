-- A pass is split: the table meets the rule with the view of the new pass, which has one of its fresh parts or none.
use Rattle.std.specs.Prelude.{map}
use Rattle.vm_numbers.specs.Hands.{Hands, no_hands}
use Rattle.vm_numbers.proofs.Passes.{split_keeps}
use Rattle.vm_rule.proofs.Numbered.{hands-snoc, hands-still, numbers-as}
use Rattle.vm_rule.specs.Rule.{hands_of}
use Rattle.vm_rule.proofs.{Entries.entries-none, Entries.none-each, Known.known-nothing, Known.known-with}
use Rattle.vm_rule.proofs.Prelude.{[], any, ap, arith, at, at_longer, at_set, at_snoc, Bool, entries_by, Entry}
use Rattle.vm_rule.proofs.Prelude.{eq-eqb, eqb, false, false≢true, first_part, get_elem?, given_part, giver, has, inl}
use Rattle.vm_rule.proofs.Prelude.{inr, is_pending, Kept, KnowsLists, KnowsPages, length, length-append, length-set}
use Rattle.vm_rule.proofs.Prelude.{List, loads_at, newcomer, None, Option, or-true, Origin, other_parts, out_of}
use Rattle.vm_rule.proofs.Prelude.{out_or, owns, refl, Ruled, Seat, seat_of, slice_set, some, spent, Start, Stored}
use Rattle.vm_rule.proofs.Prelude.{subst, suc, sym, Table, times, times_noted, total, true, true≢false, View}
use Rattle.vm_rule.proofs.Prelude.{world_of, zero, ℕ, ⊎_elim, ◌++◌, ◌+◌, ◌<◌, ◌||◌, ◌∙◌, ◌∷◌, ◌≡◌, ◌≤◌, ◌⊎◌}
use Rattle.vm_rule.proofs.Resettling.{fit-now, HasSome, IsFit, keeps-resettles, KnowsHistory, KnowsReleases}
use Rattle.vm_rule.proofs.Resettling.{Resettles, set-some, settled-ruled, Settles}
use Rattle.vm_rule.proofs.Views.{any-same, at-bound, field-still, out-same, total-set}

-- ---- parts

cut-times : (k : ℕ) (l : List ℕ) → times k (first_part l) + times k (other_parts l) ≡ times k l
cut-times k [] = refl
cut-times k (n ∷ l) = omega arith

pub cut-has : (k : ℕ) (l : List ℕ) → has k (other_parts l) ≡ true → has k l ≡ true
cut-has k [] e = e
cut-has k (n ∷ l) e = ap (λ c. eqb k n || c) e ∙ or-true (eqb k n)

-- ---- one more at the end

snoc-past : {A : Type 0} (d x : A) (l : List A) (a : ℕ)
    → (at d (l ++ x ∷ []) a ≡ at d l a) ⊎ ((at d (l ++ x ∷ []) a ≡ x) × (at d l a ≡ d))
unfolding at
snoc-past d x [] zero = inr (refl, refl)
snoc-past d x [] (suc a) = inl refl
snoc-past d x (y ∷ l) zero = inl refl
snoc-past d x (y ∷ l) (suc a) = snoc-past d x l a

module _ {X : Type 0} where
  total-snoc : (f : View X → ℕ) (l : List (View X)) (w : View X) → total f (l ++ w ∷ []) ≡ total f l + f w
  total-snoc f [] w = omega arith
  total-snoc f (x ∷ l) w = let h : total f (l ++ w ∷ []) ≡ total f l + f w = total-snoc f l w in omega arith

  any-snoc : (f : View X → Bool) (l : List (View X)) (w : View X) → f w ≡ false → any f (l ++ w ∷ []) ≡ any f l
  any-snoc f [] w e = rw e refl
  any-snoc f (x ∷ l) w e = ap (λ b. f x || b) (any-snoc f l w e)

  out-snoc : (l : List (View X)) (w : View X) (p : ℕ) → w.out ≡ None → out_of (l ++ w ∷ []) p ≡ out_of l p
  out-snoc [] w p e = ap (λ o. out_or o p None) e
  out-snoc (x ∷ l) w p e = ap (out_or x.out p) (out-snoc l w p e)

  module _ (views : List (View X)) (id : ℕ) (part : Bool) (v : View X) (there : get_elem? views id ≡ some v) where
    abbrev given : List (View X)
    given = slice_set views id (giver part v)

    abbrev pub split-views : List (View X)
    split-views = given ++ newcomer part v ∷ []

    -- what is the same of the pass before and after, and of the new pass and a spent one, is the same of any
    pub same-field : {A : Type 0} (f : View X → A) → f (giver part v) ≡ f v → f (newcomer part v) ≡ f spent → (a : ℕ)
        → f (at spent split-views a) ≡ f (at spent views a)
    same-field f mine new a =
        ⊎_elim (λ e. ap f e) (λ e. ap f e.0 ∙ new ∙ sym (ap f e.1)) (snoc-past spent (newcomer part v) given a)
        ∙ field-still f views id v (giver part v) there mine a

    split-at : (j : ℕ) (u : View X) → get_elem? split-views j ≡ some u → (newcomer part v ≡ u)
        ⊎ ((giver part v ≡ u) ⊎ (get_elem? views j ≡ some u))
    split-at j u e = ⊎_elim (λ t. inr (⊎_elim (λ q. inl q.1) (λ q. inr q.1) (at_set views id j (giver part v) u t)))
        (λ t. inl t) (at_snoc given (newcomer part v) u j e)

    -- what some view says, the giver still says
    split-some : (P : View X → Type 0) → (P v → P (giver part v)) → HasSome P views → HasSome P split-views
    split-some P f l = let k = set-some P views id v (giver part v) there f l in
        (k.0, k.1, at_longer given (newcomer part v ∷ []) k.0 k.1 k.2, k.3)

    split-total : (f : View X → ℕ) → f (giver part v) + f (newcomer part v) ≡ f v → total f split-views ≡ total f views
    split-total f e =
        let a : total f split-views ≡ total f given + f (newcomer part v) = total-snoc f given (newcomer part v) in
        let b : total f given + f v ≡ total f views + f (giver part v) = total-set f views id v (giver part v) there in
        omega (arith, a, b, e)

    pub split-resettles : Resettles views split-views 1 (length views) id
    split-resettles =
        keeps-resettles views split-views 1 id
        (let a : length split-views ≡ length given + 1 = length-append given (newcomer part v ∷ []) in
        let b : length given ≡ length views = length-set views id (giver part v) in omega (arith, a, b))
        (at-bound views id v there)
        (λ p a. same-field {A = Seat × List (ℕ × ℕ)} (λ y. (seat_of y p, loads_at y p)) refl refl a)
        (λ f a. same-field (λ y. has f y.frames) refl refl a)
        (λ p. out-snoc given (newcomer part v) p refl ∙ out-same views id v (giver part v) p there refl)
        (λ p. any-snoc (λ y. has p y.pending) given (newcomer part v) refl ∙ any-same (λ y. has p y.pending) views id
        v (giver part v) there refl)
        (λ p. any-snoc (λ y. has p y.owed) given (newcomer part v) refl ∙ any-same (λ y. has p y.owed) views id v (giver part v) there refl)

  -- the parts of both are those that the pass had
  pub parts-cut : (part : Bool) (v : View X) (k : ℕ) → owns k (giver part v) + owns k (newcomer part v) ≡ owns k v
  parts-cut true v k = let cut : times k (first_part v.fresh) + times k (other_parts v.fresh) ≡ times k v.fresh =
      cut-times k v.fresh in omega (arith, cut)
  parts-cut false v k = omega arith

  pub fresh-cut : (part : Bool) (v : View X) (k : ℕ) → has k (giver part v).fresh ≡ true → has k v.fresh ≡ true
  fresh-cut true v k e = cut-has k v.fresh e
  fresh-cut false v k e = e

  -- the part that goes over has no entry
  pub none-given : (part : Bool) (v : View X) (h : List (Entry X))
      → ((k : ℕ) → has k v.fresh ≡ true → entries_by (k ∷ []) h ≡ []) → entries_by (given_part part v) h ≡ []
  none-given true v h f = first v.fresh f
    where
      first : (l : List ℕ) → ((k : ℕ) → has k l ≡ true → entries_by (k ∷ []) h ≡ []) → entries_by (first_part l) h ≡ []
      first [] g = entries-none h
      first (n ∷ l) g = g n (rw (eq-eqb n n refl) refl)
  none-given false v h f = entries-none h

-- ---- the rule

module _ {X B : Type 0} (stored : B → Stored) (keeps : Start → Kept X → Type 0)
    (tied : Start → ℕ → List ℕ → ℕ → List ℕ → Type 0) (start : Origin) (tells : Bool) (s : Table (Option B) (View X))
    (r : Ruled stored keeps tied start tells s)
    (id : ℕ) (part : Bool) (v : View X) (there : get_elem? s.views id ≡ some v) (live : v.live ≡ true) (number : 0 < length v.used) where
  abbrev after : List (View X)
  after = split-views s.views id part v there

  abbrev mine : KnowsLists start r.releases r.history v
  mine = r.heard id v there live

  abbrev held : KnowsPages tied start (world_of stored start r.releases r.drafts s) (is_pending s.views) v
  held = r.known id v there live

  resettles : Resettles s.views after 1 (length s.views) id
  resettles = split-resettles s.views id part v there

  giver-fit : IsFit stored keeps tied start tells s r (giver part v)
  giver-fit =
      let c = fit-now stored keeps tied start tells s r id v there in
      record {
        away = c.away;
        noted = c.noted;
        gone = λ off. absurd (true≢false (sym live ∙ off));
        heard = λ _. record {
          same_start = mine.same_start;
          saw = mine.saw;
          heard = mine.heard;
          told = mine.told;
          mine = mine.mine;
          fresh = λ k e. mine.fresh k (fresh-cut part v k e);
          idle = λ none _. absurd (let no : length v.used ≡ 0 = ap length none in omega arith);
        };
        known = λ _. known-with tied start _ _ v held held.contents held.latest held.words;
        whole = λ _ all. c.whole live (λ k l. let cut : owns k (giver part v) + owns k (newcomer part v) ≡ owns k v =
            parts-cut part v k in let has' : 1 ≤ owns k (giver part v) = all k l in omega (arith, cut, has'));
      }

  newcomer-fit : IsFit stored keeps tied start tells s r (newcomer part v)
  newcomer-fit =
      let none : entries_by (given_part part v) r.history ≡ [] = none-given part v r.history mine.fresh in
      let cut : entries_by (given_part part v) (v.seen ++ mine.heard.0) ≡ [] =
      subst (λ h. entries_by (given_part part v) h ≡ []) mine.heard.1 none in
      record {
        away = λ o e. absurd cc;
        noted = λ p n m. absurd (omega arith);
        gone = λ off. absurd (true≢false off);
        heard = λ _. record {
          same_start = mine.same_start;
          saw = mine.saw;
          heard = (mine.heard.0, mine.heard.1, (none-each (given_part part v) v.seen mine.heard.0 cut).1);
          told = ((r.releases, refl), (r.history, refl, entries-none r.history), λ k e. absurd (true≢false (sym e)));
          mine = sym (none-each (given_part part v) v.seen mine.heard.0 cut).0;
          fresh = λ k e. absurd (true≢false (sym e));
          idle = λ _ _. record {
            shares = λ p. refl;
            exclusive = λ p. refl;
            writing = λ p. refl;
            frames = refl;
            numbers = (refl, refl);
            out = refl;
          };
        };
        known = λ _. known-nothing tied start _ _ true v.start (given_part part v) [] v.releases v.seen;
        whole = λ _ _ current. absurd (false≢true current);
      }

  settles : Settles stored keeps tied start tells s r after 1 (length s.views) id resettles
  settles = record {
    fit = λ j u e. ⊎_elim
        (λ t. subst (IsFit stored keeps tied start tells s r) t newcomer-fit)
        (λ t. ⊎_elim (λ q. subst (IsFit stored keeps tied start tells s r) q giver-fit)
        (λ q. fit-now stored keeps tied start tells s r j u q) t)
        (split-at s.views id part v there j u e);
    notes = λ p n. split-total s.views id part v there (λ y. times_noted p n y.notes) (omega arith);
    parts = λ k. split-total s.views id part v there (owns k) (parts-cut part v k);
    numbers = λ t. numbers-as refl refl refl refl
        (ap (λ (l : List Hands). l ++ no_hands ∷ []) (sym (hands-still s.views id v (giver part v) there refl))
        ∙ sym (hands-snoc (slice_set s.views id (giver part v)) (newcomer part v)))
        (split_keeps _ _ _ _ (map hands_of s.views) (r.numbers t));
    holding = λ t p. any-snoc (λ y. has p y.numbers) (slice_set s.views id (giver part v)) (newcomer part v) refl
        ∙ any-same (λ y. has p y.numbers) s.views id v (giver part v) there refl;
    giving = λ t p. any-snoc (λ y. has p y.freed) (slice_set s.views id (giver part v)) (newcomer part v) refl
        ∙ any-same (λ y. has p y.freed) s.views id v (giver part v) there refl;
    releases = split-some s.views id part v there (KnowsReleases stored keeps tied start tells s r) (λ z. z) r.lists.longest_releases;
    history = split-some s.views id part v there (KnowsHistory stored keeps tied start tells s r) (λ z. z) r.lists.longest;
  }

  pub splits-ruled : Ruled stored keeps tied start tells (record { words = s.words; homes = s.homes; views = after })
  splits-ruled = settled-ruled stored keeps tied start tells s r after 1 (length s.views) id resettles settles

  -- the lists and the drafts are as they were
  pub splits-past : (splits-ruled.releases ≡ r.releases) × (splits-ruled.history ≡ r.history) × (splits-ruled.drafts ≡ r.drafts)
  unfolding splits-ruled settled-ruled
  splits-past = (refl, refl, refl)
