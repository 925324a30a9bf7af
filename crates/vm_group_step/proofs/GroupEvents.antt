-- A step on a group's word is one event of the machine with groups, where at each page of the group it is that event
-- of the page alone.
use Rattle.std.proofs.lemmas.Bool.{cases_Bool, cases_eq, cond-false, cond-true, eqb-true, false≢true, ne_eqb}
use Rattle.vm_event.specs.{declared.event.PageAct.PageAct, Fn.upd, Groups.GroupsFit, Groups.head_in}
use Rattle.vm_event.specs.{PageStep.page_after, Step.acted_over, Step.MayActOver}
use Rattle.vm_event.proofs.{Groups.head-below, Upd.upd-map}
use Rattle.vm_owner.specs.Numbers.{AreApart}
use Rattle.vm_rule.proofs.Cores.{core-step, held-still, numbers-put}
use Rattle.vm_rule.proofs.GroupWords.{group-apart, group-has, group-hasn't, spread-group}
use Rattle.vm_rule.proofs.Spreading.{length-spread, spread-reads}
use Rattle.vm_rule.proofs.Views.{field-still, views-set}
use Rattle.vm_rule.specs.{declared.view.Origin.Origin, declared.view.View.View, Spread.all_set, Spread.group_of}
use Rattle.vm_rule.specs.{Reading.numbers_held, Spread.spread, Spread.spread_table}
use Rattle.vm_rule.specs.declared.view.WordPlace.TheVariants as places
use Rattle.vm_step.proofs.Over.{has-head, has-tail}
use Rattle.vm_step.proofs.steps.Mark.{same-either}
use Rattle.vm_step.proofs.Prelude.{[], after_event, ap, arith, at, block-same, block_of, Bool, Brings, BringsWith, core_from, core_shown}
use Rattle.vm_step.proofs.Prelude.{at-there, Did, Entry, eq-eqb, eqb, Event, false, FindsAt, frames_held, fun_ext, get_elem?}
use Rattle.vm_step.proofs.Prelude.{has, if◌then◌else◌, IsPassOf, Kept, Legal, length, length-set, le-ltb, List, upd-self}
use Rattle.vm_step.proofs.Prelude.{Option, outside_page, Page, page-in, page-out, page_from, put, put_at, refl, Release}
use Rattle.vm_step.proofs.Prelude.{no_seat, Seat, seat_of, seats_of, Seen, seen, slice_index, slice_set, some, spent}
use Rattle.vm_step.proofs.Prelude.{Start, State, Stored, subst, sym, Table, table_words, true, upd-other, upd-same}
use Rattle.vm_step.proofs.Prelude.{cases_lt, lt-ltb, width, Words, words-written, ℕ, ⊎_elim, ◌&&◌, ◌<◌, ◌==◌, ◌^◌, ◌||◌, ◌∙◌, ◌∷◌, ◌≡◌, ◌≢◌}
use Rattle.vm_step.specs.Prelude.{IsEvent, table_after}
use Rattle.vm_step.specs.Over.{InTurn}
use Rattle.vm_group_step.specs.Events.{AreEventsOver, core_over, IsEventOver, MayStepOver, owner_over}
unfoldable use Rattle.vm_event.specs.Fn.{upd_over}
unfoldable use Rattle.vm_rule.specs.Reading.{pages_from}

has-not : (q p : ℕ) (qs : List ℕ) → p ≢ q → has p (q ∷ qs) ≡ has p qs
has-not q p qs ne = ap (λ b. b || has p qs) (ne_eqb p q ne)

-- the numbers of all pages are kept
abbrev pub all : ℕ → Bool
all q = true

-- ---- what a step moves of its pass

module _ {X : Type 0} where
  -- A step at page q makes this of the pass's seat there, and leaves it with the page's number where it kept it; it moves
  -- nothing else that the machine shows.
  pub record Moves (keep : ℕ → Bool) (f : Seat → Seat) (q : ℕ) (u w : View X) : Type 0 where
    pub here : seat_of w q ≡ f (seat_of u q)
    pub there : (p : ℕ) → p ≢ q → seat_of w p ≡ seat_of u p
    pub out : w.out ≡ u.out
    pub frames : w.frames ≡ u.frames
    pub numbers : (p : ℕ) → has p w.numbers ≡ (if p == q then keep q && has p u.numbers else has p u.numbers)

  -- the same of steps at several pages
  pub record MovesAll (keep : ℕ → Bool) (f : Seat → Seat) (qs : List ℕ) (u w : View X) : Type 0 where
    pub among : (q : ℕ) → has q qs ≡ true → seat_of w q ≡ f (seat_of u q)
    pub apart : (q : ℕ) → has q qs ≡ false → seat_of w q ≡ seat_of u q
    pub out : w.out ≡ u.out
    pub frames : w.frames ≡ u.frames
    pub numbers : (p : ℕ) → has p w.numbers ≡ (if has p qs then keep p && has p u.numbers else has p u.numbers)

  -- where something stays that each step asks for
  pub moves-all : (T : ℕ → ℕ → View X → View X → Type 0) (n : ℕ) (keep : ℕ → Bool) (f : Seat → Seat) (Stays : View X → Type 0)
      → ((q : ℕ) (u w : View X) → Stays u → T q n u w → Moves keep f q u w × Stays w)
      → (qs : List ℕ) → AreApart qs → (v w : View X) → Stays v → InTurn T qs n v w → MovesAll keep f qs v w
  moves-all T n keep f Stays each [] apart v w stays told =
      record {
        among = λ q is. absurd (false≢true is);
        apart = λ q _. ap (λ (y : View X). seat_of y q) told;
        out = ap (λ (y : View X). y.out) told;
        frames = ap (λ (y : View X). y.frames) told;
        numbers = λ p. ap (λ (y : View X). has p y.numbers) told;
      }
  moves-all T n keep f Stays each (q ∷ qs) apart v w stays told =
      let m = each q v told.0 stays told.1 in
      let k = moves-all T n keep f Stays each qs apart.1 told.0 w m.1 told.2 in
      record {
        among = λ p is. ⊎_elim
            (λ here. subst (λ j. seat_of w j ≡ f (seat_of v j)) (sym here) (k.apart q apart.0 ∙ m.0.here))
            (λ ne. k.among p (sym (has-not q p qs ne) ∙ is) ∙ ap f (m.0.there p ne))
            (cases_eq p q);
        apart = λ p none.
            let ne : p ≢ q = λ e. false≢true (sym none ∙ subst (λ j. has j (q ∷ qs) ≡ true) (sym e) (has-head q qs)) in
            k.apart p (sym (has-not q p qs ne) ∙ none) ∙ m.0.there p ne;
        out = k.out ∙ m.0.out;
        frames = k.frames ∙ m.0.frames;
        numbers = λ p. k.numbers p ∙ ⊎_elim
            (λ here. subst (λ j. (if has j qs then keep j && has j told.0.numbers else has j told.0.numbers)
            ≡ (if has j (q ∷ qs) then keep j && has j v.numbers else has j v.numbers)) (sym here)
            (rw (apart.0, eq-eqb q q refl) (m.0.numbers q ∙ rw (eq-eqb q q refl) refl)))
            (λ ne. let same : has p told.0.numbers ≡ has p v.numbers = m.0.numbers p ∙ rw (ne_eqb p q ne) refl in
            rw (ne_eqb p q ne) (ap (λ b. if has p qs then keep p && b else b) same))
            (cases_eq p q);
      }

  -- so of a step that brings its view up to date
  pub moves-from : {did : Did} {block : Option (ℕ × Stored)} {own : List Release} {es : List (Entry X)}
      {u inner w : View X} → (keep : ℕ → Bool) (f : Seat → Seat) (q : ℕ) → BringsWith did block own es u inner w
      → Moves keep f q u inner → Moves keep f q u w
  moves-from keep f q b m =
      record {
        here = ap (λ (y : View X). seat_of y q) b.view ∙ m.here;
        there = λ p ne. ap (λ (y : View X). seat_of y p) b.view ∙ m.there p ne;
        out = ap (λ (y : View X). y.out) b.view ∙ m.out;
        frames = ap (λ (y : View X). y.frames) b.view ∙ m.frames;
        numbers = λ p. ap (λ (y : View X). has p y.numbers) b.view ∙ m.numbers p;
      }

  -- the view whose seat at one page alone was put
  pub moves-put : (f : Seat → Seat) (q : ℕ) (u inner : View X) → inner.seats ≡ put q (f (seat_of u q)) u.seats
      → inner.out ≡ u.out → inner.frames ≡ u.frames → inner.numbers ≡ u.numbers → Moves all f q u inner
  moves-put f q u inner seats out frames numbers =
      record {
        here = ap (λ l. put_at no_seat l q) seats ∙ upd-same (put_at no_seat u.seats) q (f (seat_of u q));
        there = λ p ne. ap (λ l. put_at no_seat l p) seats ∙ upd-other (put_at no_seat u.seats) q (f (seat_of u q)) p ne;
        out = out;
        frames = frames;
        numbers = λ p. ap (has p) numbers ∙ sym (same-either (has p u.numbers) (eqb p q));
      }

  -- the view itself
  pub moves-none : (q : ℕ) (u : View X) → Moves all (λ y. y) q u u
  moves-none q u =
      record {
        here = refl;
        there = λ p ne. refl;
        out = refl;
        frames = refl;
        numbers = λ p. sym (same-either (has p u.numbers) (eqb p q));
      }

  -- an exchange moves the seat where it is taken
  pub moves-either : (b : Bool) (f : Seat → Seat) (q : ℕ) (u inner : View X) → Moves all f q u inner
      → Moves all (λ y. if b then f y else y) q u (if b then inner else u)
  moves-either true f q u inner m = m
  moves-either false f q u inner m = moves-none q u

-- ---- the state words of a group are set

abbrev all-upd : List ℕ → ℕ → (ℕ → ℕ) → ℕ → ℕ
all-upd [] x f = f
all-upd (q ∷ qs) x f = all-upd qs x (upd f q x)

all-upd-out : (qs : List ℕ) (x : ℕ) (f : ℕ → ℕ) (p : ℕ) → has p qs ≡ false → all-upd qs x f p ≡ f p
all-upd-out [] x f p none = refl
all-upd-out (q ∷ qs) x f p none =
    let ne : p ≢ q = λ e. false≢true (sym none ∙ subst (λ j. has j (q ∷ qs) ≡ true) (sym e) (has-head q qs)) in
    all-upd-out qs x (upd f q x) p (sym (has-not q p qs ne) ∙ none) ∙ upd-other f q x p ne

all-upd-in : (qs : List ℕ) (x : ℕ) (f : ℕ → ℕ) (p : ℕ) → has p qs ≡ true → all-upd qs x f p ≡ x
all-upd-in [] x f p is = absurd (false≢true is)
all-upd-in (q ∷ qs) x f p is =
    ⊎_elim (λ t. all-upd-in qs x (upd f q x) p t)
    (λ none. all-upd-out qs x (upd f q x) p none
    ∙ ⊎_elim (λ here. subst (λ j. upd f q x j ≡ x) (sym here) (upd-same f q x))
    (λ ne. absurd (false≢true (sym none ∙ sym (has-not q p qs ne) ∙ is)))
    (cases_eq p q))
    (cases_Bool (has p qs))

all-written : (start : Origin) (qs : List ℕ) (x : ℕ) (words : List ℕ) → length words ≡ width start
    → ((q : ℕ) → has q qs ≡ true → q < start.pages)
    → table_words start (all_set qs x words)
    ≡ record (table_words start words) { states = all-upd qs x (table_words start words).states }
all-written start [] x words wide low = refl
all-written start (q ∷ qs) x words wide low =
    all-written start qs x (slice_set words q x) (length-set words q x ∙ wide) (λ p is. low p (has-tail q qs p is))
    ∙ ap (λ (r : Words). record r { states = all-upd qs x r.states })
    (words-written start words (places.State q) x wide (low q (has-head q qs)))

-- ---- the pages of the group

module _ (start : Origin) (r : Words) (blocks : ℕ → Stored) (seats seats' : ℕ → ℕ → Seat) (h x : ℕ) (act : ℕ → Page)
    (qs : List ℕ) (own : (q : ℕ) → head_in start.groups q ≡ h → has q qs ≡ true)
    (other : (q : ℕ) → head_in start.groups q ≢ h → has q qs ≡ false) (low : (q : ℕ) → has q qs ≡ true → q < start.pages)
    (made : (q : ℕ) → has q qs ≡ true → page_from (record r { states = upd r.states q x }) blocks seats' q ≡ act q)
    (same : (q : ℕ) → has q qs ≡ false → seats' q ≡ seats q) where
  abbrev set : Words
  set = record r { states = all-upd qs x r.states }

  group-pages : pages_from start.pages set blocks seats'
      ≡ upd_over (head_in start.groups) h (pages_from start.pages r blocks seats) act
  unfolding upd_over
  group-pages =
      fun_ext (λ q. ⊎_elim
      (λ e. let is = own q e in
      page-in start.pages set blocks seats' q (low q is)
      ∙ ap (λ n. page_from (record r { states = λ _. n }) blocks seats' q)
      (all-upd-in qs x r.states q is ∙ sym (upd-same r.states q x))
      ∙ made q is
      ∙ sym (cond-true (eqb (head_in start.groups q) h) (act q) (pages_from start.pages r blocks seats q)
      (eq-eqb (head_in start.groups q) h e)))
      (λ ne. let none = other q ne in
      ⊎_elim
      (λ lt. page-in start.pages set blocks seats' q lt
      ∙ (λ i. page_from (record r { states = λ _. all-upd-out qs x r.states q none i }) blocks (λ _. same q none i) q)
      ∙ sym (page-in start.pages r blocks seats q lt))
      (λ le. page-out start.pages set blocks seats' q le ∙ sym (page-out start.pages r blocks seats q le))
      (cases_lt q start.pages)
      ∙ sym (cond-false (eqb (head_in start.groups q) h) (act q) (pages_from start.pages r blocks seats q)
      (ne_eqb (head_in start.groups q) h ne)))
      (cases_eq (head_in start.groups q) h))

-- ---- the event

module _ {X B : Type 0} (stored : B → Stored) (start : Origin) (keeps : Start → Kept X → Type 0)
    (tied : Start → ℕ → List ℕ → ℕ → List ℕ → Type 0) (tells : Bool) where
  -- what the step is at page q of a table that meets the rule: an act there alone, by which the pass's seat moves so
  pub record ActsAt (s : Table (Option B) (View X)) (id q x : ℕ) (act : PageAct) (f : Seat → Seat) (v : View X) : Type 0 where
    pub later : View X
    pub here : seat_of later q ≡ f (seat_of v q)
    pub out : later.out ≡ v.out
    pub legal : MayActOver (core_shown stored start s) id q act
    pub page : (core_shown stored start (table_after s (slice_set s.words q x) id later)).pages q
        ≡ page_after (core_shown stored start s).words ((core_shown stored start s).pages q) id act

  -- it is, where the core shown afterwards is that after the act
  pub acts-at : (s : Table (Option B) (View X)) (id q x : ℕ) (act : PageAct) (keep : ℕ → Bool) (f : Seat → Seat)
      (v later : View X) → Moves keep f q v later → MayActOver (core_shown stored start s) id q act
      → (core_shown stored start (table_after s (slice_set s.words q x) id later)).pages
      ≡ (acted_over (core_shown stored start s) id q act).pages
      → ActsAt s id q x act f v
  unfolding upd_over
  acts-at s id q x act keep f v later moves legal pages =
      record {
        later = later;
        here = moves.here;
        out = moves.out;
        legal = legal;
        page = ap (λ (g : ℕ → Page). g q) pages
            ∙ cond-true (eqb q q) (page_after (core_shown stored start s).words ((core_shown stored start s).pages q) id act)
            ((core_shown stored start s).pages q) (eq-eqb q q refl);
      }

  module _ (s : Table (Option B) (View X)) (id h x : ℕ) (act : PageAct) (keep : ℕ → Bool)
      (f : Seat → Seat) (v w : View X)
      (may : MayStepOver stored start keeps tied tells s id v) (own : head_in start.groups h ≡ h) (inside : h < start.pages)
      (moved : MovesAll keep f (group_of start.groups h) v w)
      (acts : (q : ℕ) → has q (group_of start.groups h) ≡ true → ActsAt (spread_table start s) id q x act f v) where
    abbrev qs : List ℕ
    qs = group_of start.groups h

    abbrev s' : Table (Option B) (View X)
    s' = spread_table start s

    abbrev c : State
    c = core_shown stored start s'

    wide : length s'.words ≡ width start
    wide = may.pass.rule.wide.0

    wide-own : length s.words ≡ width start
    wide-own = sym (length-spread start.groups s.words) ∙ wide

    among : (q : ℕ) → head_in start.groups q ≡ h → has q qs ≡ true
    among q e = group-has start.pages h start.groups may.fit own q e

    apart : (q : ℕ) → head_in start.groups q ≢ h → has q qs ≡ false
    apart q ne = group-hasn't start.pages h start.groups may.fit own q ne

    head-of : (q : ℕ) → has q qs ≡ true → head_in start.groups q ≡ h
    head-of q is = ⊎_elim (λ e. e) (λ ne. absurd (false≢true (sym (apart q ne) ∙ is))) (cases_eq (head_in start.groups q) h)

    low : (q : ℕ) → has q qs ≡ true → q < start.pages
    low q is = head-below start.pages start.groups may.fit q (subst (λ k. k < start.pages) (sym (head-of q is)) inside)

    -- the column of page q, for views that have the same seat there
    column : (y : View X) (q : ℕ) → seat_of y q ≡ seat_of w q
        → seats_of (slice_set s.views id y) q ≡ seats_of (slice_set s.views id w) q
    column y q e =
        fun_ext (λ a. ap (λ (g : ℕ → View X). seat_of (g a) q) (views-set s.views id v y may.pass.there)
        ∙ upd-map (λ (z : View X). seat_of z q) (at spent s.views) id y a
        ∙ ap (λ z. upd (λ b. seat_of (at spent s.views b) q) id z a) e
        ∙ sym (upd-map (λ (z : View X). seat_of z q) (at spent s.views) id w a)
        ∙ sym (ap (λ (g : ℕ → View X). seat_of (g a) q) (views-set s.views id v w may.pass.there)))

    made : (q : ℕ) → has q qs ≡ true
        → page_from (record (table_words start s'.words) { states = upd (table_words start s'.words).states q x })
        (block_of stored s.homes s.views) (seats_of (slice_set s.views id w)) q
        ≡ page_after c.words (c.pages q) id act
    unfolding upd_over
    made q is =
        let k = acts q is in
        ap (λ column. page_from (record (table_words start s'.words) { states = upd (table_words start s'.words).states q x })
        (block_of stored s.homes s.views) (λ _. column) q)
        (sym (column k.later q (k.here ∙ sym (moved.among q is))))
        ∙ sym (page-in start.pages (record (table_words start s'.words) { states = upd (table_words start s'.words).states q x })
        (block_of stored s.homes s.views) (seats_of (slice_set s.views id k.later)) q (low q is))
        ∙ sym (ap (λ (y : State). y.pages q) (core-step stored start s' id v k.later (places.State q) x wide (low q is)
        may.pass.there k.out (seats_of (slice_set s.views id k.later)) (frames_held (slice_set s.views id k.later))
        (numbers_held (slice_set s.views id k.later)) refl refl refl))
        ∙ k.page

    same : (q : ℕ) → has q qs ≡ false → seats_of (slice_set s.views id w) q ≡ seats_of s.views q
    same q none = fun_ext (field-still (λ (y : View X). seat_of y q) s.views id v w may.pass.there (moved.apart q none))

    abbrev with-heads : State → State
    with-heads y = record y { head = head_in start.groups; owners = λ o. owner_over start.groups (y.owners o) }

    inside-words : h < length s.words
    inside-words = omega (arith, inside, wide-own)

    -- the act is legal at the group, and leads to the machine shown afterwards, but for the numbers that are held
    pub group-acts : MayActOver (core_over stored start s) id h act
        × (core_over stored start (table_after s (slice_set s.words h x) id w)
        ≡ record (acted_over (core_over stored start s) id h act) { numbers = numbers_held (slice_set s.views id w) })
    group-acts = (
      record {
        names = (let n = (acts h (among h own)).legal.names in record { actor = n.actor; page = n.page });
        head = own;
        pages = λ q e. (acts q (among q e)).legal.pages q refl;
      },
      ap with-heads
          (λ i. core_from start (length-set s.views id w i)
          ((ap (table_words start) (spread-group start.pages start.groups may.fit h own s.words inside-words x)
          ∙ all-written start qs x s'.words wide low) i)
          (block-same stored s.homes s.views id v w may.pass.there moved.out i) (seats_of (slice_set s.views id w))
          (held-still s.views id v w may.pass.there moved.frames i) (numbers_held (slice_set s.views id w)))
          ∙ ap (λ pages. record (core_over stored start s) { pages = pages; numbers = numbers_held (slice_set s.views id w) })
          (group-pages start (table_words start s'.words) (block_of stored s.homes s.views) (seats_of s.views)
          (seats_of (slice_set s.views id w)) h x (λ q. page_after c.words (c.pages q) id act) qs among apart low made same),
    )

    -- the numbers that are held: those of the group's pages where it kept them
    pub group-numbers : numbers_held (slice_set s.views id w) ≡ upd (numbers_held s.views) id
        (upd_over (head_in start.groups) h (numbers_held s.views id) (λ q. keep q && numbers_held s.views id q))
    unfolding upd_over
    group-numbers =
        numbers-put s.views id v w may.pass.there
        ∙ ap (upd (numbers_held s.views) id) (fun_ext (λ p.
        let mine : has p v.numbers ≡ numbers_held s.views id p =
        ap (λ (y : View X). has p y.numbers) (sym (at-there spent s.views id v may.pass.there)) in
        moved.numbers p ∙ ⊎_elim
        (λ e. rw (among p e, eq-eqb (head_in start.groups p) h e) (ap (λ b. keep p && b) mine))
        (λ ne. rw (apart p ne, ne_eqb (head_in start.groups p) h ne) mine)
        (cases_eq (head_in start.groups p) h)))

  all-kept : (heads : ℕ → ℕ) (h : ℕ) (f : ℕ → ℕ → Bool) (id : ℕ)
      → upd f id (upd_over heads h (f id) (λ q. all q && f id q)) ≡ f
  unfolding upd_over
  all-kept heads h f id =
      ap (upd f id) (fun_ext (λ p. same-either (f id p) (eqb (heads p) h))) ∙ upd-self f id

  -- a step that is this event at each page alone is it at the group
  pub are-events : (May : ℕ → View X → Type 0) (Told : ℕ → ℕ → View X → View X → Type 0) (left : ℕ → ℕ)
      (event : ℕ → ℕ → Event) (sees : View X → ℕ → ℕ → Seen) (act : PageAct) (f : ℕ → Seat → Seat)
      → ((q n : ℕ) (u w : View X) → Told q n u w → Moves all (f n) q u w)
      → ((s : Table (Option B) (View X)) (id q found : ℕ) (v : View X) → IsPassOf stored start keeps tied tells s id v
      → 0 < length v.used → q < start.pages → found ≡ slice_index s.words q → found < 2 ^ 64 → May q v
      → ActsAt s id q (left found) act (f found) v × (seen (core_shown stored start s) (event id q) ≡ sees v q found))
      → ((y : State) (id h : ℕ) → MayActOver y id h act → Legal y (event id h))
      → ((y : State) (id h : ℕ) → acted_over y id h act ≡ after_event y (event id h))
      → ((y : State) (heads owners : ℕ → ℕ) (id h : ℕ)
      → seen (record y { head = heads; owners = owners }) (event id h) ≡ seen y (event id h))
      → AreEventsOver stored start keeps tied tells May Told left event sees
  are-events May Told left event sees act f moves single is_legal is_after is_seen s id h found v w may there own pages told =
      let s' : Table (Option B) (View X) = spread_table start s in
      let qs : List ℕ = group_of start.groups h in
      let wide : length s.words ≡ width start = sym (length-spread start.groups s.words) ∙ may.pass.rule.wide.0 in
      let among : (q : ℕ) → head_in start.groups q ≡ h → has q qs ≡ true = group-has start.pages h start.groups may.fit own in
      let head-of : (q : ℕ) → has q qs ≡ true → head_in start.groups q ≡ h =
      λ q is. ⊎_elim (λ e. e)
      (λ ne. absurd (false≢true (sym (group-hasn't start.pages h start.groups may.fit own q ne) ∙ is)))
      (cases_eq (head_in start.groups q) h) in
      let low : (q : ℕ) → has q qs ≡ true → q < start.pages =
      λ q is. head-below start.pages start.groups may.fit q (subst (λ k. k < start.pages) (sym (head-of q is)) there.0) in
      let here : (q : ℕ) → has q qs ≡ true → found ≡ slice_index s'.words q =
      λ q is. let lt = low q is in
      there.1 ∙ ap (slice_index s.words) (sym (head-of q is))
      ∙ sym (spread-reads start.pages start.groups may.fit s.words q (omega (arith, lt, wide))) in
      let acts : (q : ℕ) → has q qs ≡ true → ActsAt s' id q (left found) act (f found) v
      × (seen (core_shown stored start s') (event id q) ≡ sees v q found) =
      λ q is. single s' id q found v may.pass may.number (low q is) (here q is)
      (subst (λ n. n < 2 ^ 64) (sym there.1) (may.words h)) (pages q is) in
      let moved = moves-all Told found all (f found) (λ _. Unit {0}) (λ q u y _ t. (moves q found u y t, tt)) qs
      (group-apart start.groups h) v w tt told in
      let k = group-acts s id h (left found) act all (f found) v w may own there.0 moved (λ q is. (acts q is).0) in
      record {
        legal = is_legal (core_over stored start s) id h k.0;
        core = k.1
            ∙ ap (λ numbers. record (acted_over (core_over stored start s) id h act) { numbers = numbers })
            (group-numbers s id h (left found) act all (f found) v w may own there.0 moved (λ q is. (acts q is).0)
            ∙ all-kept (head_in start.groups) h (numbers_held s.views) id)
            ∙ is_after (core_over stored start s) id h;
        sees = is_seen (core_shown stored start s') (head_in start.groups)
            (λ o. owner_over start.groups ((core_shown stored start s').owners o)) id h
            ∙ (acts h (among h own)).1;
      }
