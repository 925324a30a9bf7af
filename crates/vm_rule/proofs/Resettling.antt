-- The views of a table change, and none of its words and slots: passes that come have nothing, those that go hold no
-- page, and a pass gets the frames of one that goes. What the table shows meets the invariant, and what is known of
-- its pages is as it was; the table meets the rule where each view that came is shown to be fit.
use mathlib.Core.Option as maybe
use Rattle.vm_rule.proofs.{Entries.append-none, Pages.page-in, Pages.page-out}
use Rattle.vm_rule.proofs.{Views.at-bound, Views.at-there, Views.views-set}
use Rattle.std.specs.Prelude.{map}
use Rattle.vm_event.specs.Prelude.{has_free_bit}
use Rattle.vm_numbers.specs.Hands.{NumbersFit}
use Rattle.vm_rule.proofs.Numbered.{numbers-as}
use Rattle.vm_rule.specs.{Reading.numbers_held, Rule.hands_of, Views.any}
use Rattle.vm_rule.proofs.Gathering.{ReadsLess, regathered, regathered-inv, Regathers}
use Rattle.vm_rule.proofs.Prelude.{[], ap, arith, at, began_of, block_of, Bool, cases_eq, cases_lt, chosen}
use Rattle.vm_rule.proofs.Prelude.{core_shown, each-upd, false, FaultsFit, frames_held, fun_ext, get_elem?, has}
use Rattle.vm_rule.proofs.Prelude.{histories_of, home, if◌then◌else◌, inl, inr, Inv, is_owed, is_pending, IsWhole}
use Rattle.vm_rule.proofs.Prelude.{Kept, known, KnowsLists, KnowsPages, length, length-append, List, listed, loads_at}
use Rattle.vm_rule.proofs.Prelude.{loads_of, logical, may_call, nil_from_length, Option, Origin, Out, out_of, owns}
use Rattle.vm_rule.proofs.Prelude.{pages_from, PartsFit, refl, Release, Ruled, Seat, seat_of, seats_of, set_else}
use Rattle.vm_rule.proofs.Prelude.{set_here, slice_set, slot_of, snapshot_of, Some, some, some-injective, spent}
use Rattle.vm_rule.proofs.Prelude.{Start, StartsWith, Stored, subst, sym, Table, table_words, times_noted, total}
use Rattle.vm_rule.proofs.Prelude.{true, View, Words, World, world_of, ℕ, ⊎_elim, ◌++◌, ◌+◌, ◌<◌, ◌∙◌, ◌≡◌, ◌≢◌, ◌≤◌}
use Rattle.vm_rule.proofs.Prelude.{◌⊎◌}
pub use Rattle.vm_rule.proofs.ListFacts.{at-past}

pub same-reads : (s : Seat) (l : List (ℕ × ℕ)) → ReadsLess s s l l
same-reads s l = record { shares = refl; exclusive = refl; writing = refl; reading = inr (refl, refl) }

module _ {X : Type 0} where
  -- what the views say of shares, reads, frames, blocks and groups
  pub record Resettles (views views' : List (View X)) (k from to : ℕ) : Type 0 where
    pub count : length views' ≡ k + length views
    pub apart : to ≢ from
    pub named : to < length views
    pub less : (p a : ℕ) → ReadsLess (seat_of (at spent views a) p) (seat_of (at spent views' a) p)
        (loads_at (at spent views a) p) (loads_at (at spent views' a) p)
    pub gets : (f : ℕ) → has f (at spent views' to).frames ≡ (if has f (at spent views from).frames then true else has
        f (at spent views to).frames)
    pub gives : (f : ℕ) → has f (at spent views' from).frames ≡ false
    pub keeps : (a f : ℕ) → a ≢ from → a ≢ to → has f (at spent views' a).frames ≡ has f (at spent views a).frames
    pub out : (p : ℕ) → out_of views' p ≡ out_of views p
    pub pending : (p : ℕ) → is_pending views' p ≡ is_pending views p
    pub owed : (p : ℕ) → is_owed views' p ≡ is_owed views p

  -- where one view holds what the old one held, and its reads are those or closed, so it is of each
  pub replaced-less : (views : List (View X)) (id : ℕ) (v w : View X) → get_elem? views id ≡ some v
      → ((p : ℕ) → ReadsLess (seat_of v p) (seat_of w p) (loads_at v p) (loads_at w p))
      → (p a : ℕ) → ReadsLess (seat_of (at spent views a) p) (seat_of (at spent (slice_set views id w) a) p)
      (loads_at (at spent views a) p) (loads_at (at spent (slice_set views id w) a) p)
  replaced-less views id v w there less p a =
      let R : ℕ → View X → Type 0 = λ b y. ReadsLess (seat_of (at spent views b) p) (seat_of y p)
      (loads_at (at spent views b) p) (loads_at y p) in
      subst (λ (f : ℕ → View X). R a (f a)) (sym (views-set views id v w there))
      (each-upd R (at spent views) id w
      (subst (λ (y : View X). ReadsLess (seat_of y p) (seat_of w p) (loads_at y p) (loads_at w p))
      (sym (at-there spent views id v there)) (less p))
      (λ b _. same-reads (seat_of (at spent views b) p) (loads_at (at spent views b) p)) a)

  -- each view holds what it held, and those that come hold nothing
  pub keeps-resettles : (views views' : List (View X)) (k to : ℕ) → length views' ≡ k + length views → to < length views
      → ((p a : ℕ) → ◌≡◌ {A = Seat × List (ℕ × ℕ)} (seat_of (at spent views' a) p, loads_at (at spent views' a) p)
      (seat_of (at spent views a) p, loads_at (at spent views a) p))
      → ((f a : ℕ) → has f (at spent views' a).frames ≡ has f (at spent views a).frames)
      → ((p : ℕ) → out_of views' p ≡ out_of views p) → ((p : ℕ) → is_pending views' p ≡ is_pending views p)
      → ((p : ℕ) → is_owed views' p ≡ is_owed views p)
      → Resettles views views' k (length views) to
  keeps-resettles views views' k to count named reads frames out pending owed = record {
    count = count;
    apart = λ e. absurd (omega arith);
    named = named;
    less = λ p a. subst (λ (q : Seat × List (ℕ × ℕ)). ReadsLess (seat_of (at spent views a) p) q.0
        (loads_at (at spent views a) p) q.1) (sym (reads p a))
        (same-reads (seat_of (at spent views a) p) (loads_at (at spent views a) p));
    gets = λ f. frames f to
        ∙ sym (ap (λ (y : View X). if has f y.frames then true else has f (at spent views to).frames)
        (at-past spent views (length views) (omega arith)));
    gives = λ f. frames f (length views) ∙ ap (λ (y : View X). has f y.frames) (at-past spent views (length views) (omega arith));
    keeps = λ a f _ _. frames f a;
    out = out;
    pending = pending;
    owed = owed;
  }

-- the pages with other seats
reseated : (n : ℕ) (r : Words) (blocks : ℕ → Stored) (seats seats' : ℕ → ℕ → Seat)
    → pages_from n r blocks
    seats' ≡ (λ p. record (pages_from n r blocks seats p) { seats = (pages_from n r blocks seats' p).seats })
reseated n r blocks seats seats' =
    fun_ext (λ p. ⊎_elim
    (λ l. rw (page-in n r blocks seats' p l, page-in n r blocks seats p l) refl)
    (λ le. rw (page-out n r blocks seats' p le, page-out n r blocks seats p le) refl)
    (cases_lt p n))

module _ {X B : Type 0} (stored : B → Stored) (start : Origin) (releases : List Release) (drafts : ℕ → List ℕ)
    (s : Table (Option B) (View X)) (views' : List (View X)) (k from to : ℕ)
    (g : Resettles s.views views' k from to) where
  abbrev pub settled : Table (Option B) (View X)
  settled = record { words = s.words; homes = s.homes; views = views' }

  abbrev old : World
  old = world_of stored start releases drafts s

  pub settled-blocks : block_of stored s.homes views' ≡ block_of stored s.homes s.views
  unfolding block_of
  settled-blocks = fun_ext (λ p. ap (known stored (home s.homes p)) (g.out p))

  abbrev rows : ℕ → ℕ → Seat
  rows p = (pages_from start.pages (table_words start s.words) (block_of stored s.homes s.views) (seats_of views') p).seats

  pub settled-world : world_of stored start releases drafts settled ≡ regathered old k rows (frames_held views')
      (numbers_held views') (loads_of views')
  settled-world i = record {
    core = record (core_shown stored start s) {
      shape = record { pages = start.pages; frames = start.frames; actors = g.count i; next = start.next };
      pages = (ap (λ b. pages_from start.pages (table_words start s.words) b (seats_of views')) settled-blocks
          ∙ reseated start.pages (table_words start s.words) (block_of stored s.homes s.views) (seats_of s.views)
          (seats_of views')) i;
      held = frames_held views';
      numbers = numbers_held views';
    };
    histories = histories_of start releases drafts;
    loads = loads_of views';
  }

  row-less : (p a : ℕ) → ReadsLess
      ((pages_from start.pages (table_words start s.words) (block_of stored s.homes s.views) (seats_of s.views)
      p).seats a) ((pages_from start.pages (table_words start s.words) (block_of stored s.homes s.views)
      (seats_of views') p).seats a) (loads_of s.views p a) (loads_of views' p a)
  row-less p a =
      ⊎_elim
      (λ l. rw (
        page-in start.pages (table_words start s.words) (block_of stored s.homes s.views) (seats_of s.views) p
            l,
        page-in start.pages (table_words start s.words) (block_of stored s.homes s.views) (seats_of views') p l,
      )
      (g.less p a))
      (λ le. rw (
        page-out start.pages (table_words start s.words) (block_of stored s.homes s.views) (seats_of s.views)
            p le,
        page-out start.pages (table_words start s.words) (block_of stored s.homes s.views) (seats_of views') p
            le,
      )
      (record { shares = refl; exclusive = refl; writing = refl; reading = inl refl }))
      (cases_lt p start.pages)

  pub regathers : Regathers old k from to rows (frames_held views') (loads_of views')
  regathers = record {
    apart = g.apart;
    named = g.named;
    less = row-less;
    past = λ p a le. ⊎_elim
        (λ l. rw (page-in start.pages (table_words start s.words) (block_of stored s.homes s.views) (seats_of s.views)
        p l) (ap (λ (y : View X). (seat_of y p).shares) (at-past spent s.views a le)))
        (λ ge. rw (page-out start.pages (table_words start s.words) (block_of stored s.homes s.views) (seats_of s.views) p ge) refl)
        (cases_lt p start.pages);
    gets = g.gets;
    gives = g.gives;
    keeps = g.keeps;
  }

  -- what a pass knows of pages
  pub settled-known : (tied : Start → ℕ → List ℕ → ℕ → List ℕ → Type 0) (u : View X)
      → KnowsPages tied start old (is_pending s.views) u
      → KnowsPages tied start (world_of stored start releases drafts settled) (is_pending views') u
  settled-known tied u q =
      subst (λ (y : ℕ → Bool). KnowsPages tied start (world_of stored start releases drafts settled) y u) (sym (fun_ext g.pending))
      (subst (λ (y : World). KnowsPages tied start y (is_pending s.views) u) (sym settled-world)
      (record {
        knows = λ p. let h = q.knows p in record { calls = h.calls; shares = h.shares };
        owners = q.owners;
        contents = q.contents;
        drafts = q.drafts;
        latest = q.latest;
        pending = q.pending;
        owed = q.owed;
        next = q.next;
        translations = q.translations;
        words = q.words;
        ties = q.ties;
      }))

-- the list has an element of which this holds
abbrev pub HasSome : {A : Type 0} → (A → Type 0) → List A → Type 0
HasSome {A} P l = (j : ℕ) × (a : A) × (get_elem? l j ≡ some a) × P a

-- what some element says, where one is replaced by one that says it too
pub set-some : {A : Type 0} (P : A → Type 0) (l : List A) (i : ℕ) (a b : A) → get_elem? l i ≡ some a → (P a → P b)
    → HasSome P l → HasSome P (slice_set l i b)
set-some P l i a b there f h =
    ⊎_elim
    (λ e. (i, b, set_here l i b (at-bound l i a there), f (subst P (some-injective h.1 a (sym h.2 ∙ ap (get_elem? l) e ∙ there)) h.3)))
    (λ n. (h.0, h.1, set_else l i h.0 b n ∙ h.2, h.3))
    (cases_eq h.0 i)

-- who has seen all has nothing more to be told
pub all-told : {A : Type 0} (all told seen : List A) → StartsWith all told → StartsWith told seen → seen ≡ all
    → told ≡ all
all-told all told seen s t e =
    let a : length all ≡ length told + length s.0 = ap length s.1 ∙ length-append told s.0 in
    let b : length told ≡ length seen + length t.0 = ap length t.1 ∙ length-append seen t.0 in
    let c : length seen ≡ length all = ap length e in
    sym (s.1 ∙ ap (λ l. told ++ l) (nil_from_length s.0 (omega (arith, a, b, c))) ∙ append-none told)

-- of a list that a pass has seen or was told whole, and of which it was told nothing, it has seen all
seen-whole : {A : Type 0} (all seen told : List A) → StartsWith all seen → told ≡ [] → (seen ≡ all) ⊎ (told ≡ all)
    → seen ≡ all
seen-whole all seen told s none = ⊎_elim (λ e. e) (λ e. all-told all seen [] s (seen, refl) (sym none ∙ e))

module _ {X B : Type 0} (stored : B → Stored) (keeps : Start → Kept X → Type 0)
    (tied : Start → ℕ → List ℕ → ℕ → List ℕ → Type 0) (start : Origin) (tells : Bool) (s : Table (Option B) (View X))
    (r : Ruled stored keeps tied start tells s) where
  -- the view has seen all releases, or was told them; and so of the history
  abbrev pub KnowsReleases : View X → Type 0
  KnowsReleases u = (u.releases ≡ r.releases) ⊎ (u.told_releases ≡ r.releases)

  abbrev pub KnowsHistory : View X → Type 0
  KnowsHistory u = (u.seen ≡ r.history) ⊎ (u.told ≡ r.history)

  -- a pass that was told nothing since its last step has seen all that it knows
  pub seen-all : (u : View X) → KnowsLists start r.releases r.history u → (u.told_releases ≡ []) × (u.told ≡ [])
      → (KnowsReleases u → u.releases ≡ r.releases) × (KnowsHistory u → u.seen ≡ r.history)
  seen-all u g none = (
    seen-whole r.releases u.releases u.told_releases g.saw none.0,
    seen-whole r.history u.seen
        u.told (g.heard.0, g.heard.1) none.1,
  )

  -- what the rule asks of one view beside the other views of the table
  pub record IsFit (u : View X) : Type 0 where
    pub away : (o : Out) → u.out ≡ Some o → (o.page < start.pages) × (may_call (seat_of u o.page) ≡ true)
        × (at maybe.none s.homes o.page ≡ slot_of o)
    pub noted : (p n : ℕ) → 1 ≤ times_noted p n u.notes → (1 ≤ n) × (n ≤ ((core_shown stored start s).pages p).fault)
    pub gone : u.live ≡ false → u ≡ spent
    pub heard : u.live ≡ true → KnowsLists start r.releases r.history u
    pub known : u.live ≡ true → KnowsPages tied start (world_of stored start r.releases r.drafts s) (is_pending s.views) u
    pub whole : u.live ≡ true → IsWhole u → u.current ≡ true → (u.releases ≡ r.releases) × (u.seen ≡ r.history)
        × (u.snapshot ≡ snapshot_of stored start s)

  pub fit-now : (j : ℕ) (u : View X) → get_elem? s.views j ≡ some u → IsFit u
  fit-now j u there = record {
    away = λ o. r.blocks.away j u o there;
    noted = r.faults.noted j u there;
    gone = r.parts.spent j u there;
    heard = r.heard j u there;
    known = r.known j u there;
    whole = r.parts.whole j u there;
  }

  pub fit-spent : IsFit spent
  fit-spent = record {
    away = λ o e. absurd cc;
    noted = λ p n m. absurd (omega arith);
    gone = λ _. refl;
    heard = λ on. absurd cc;
    known = λ on. absurd cc;
    whole = λ on. absurd cc;
  }

  module _ (views' : List (View X)) (k from to : ℕ) (g : Resettles s.views views' k from to) where
    -- each view is fit, together they have the notes and the parts of those before, and some view knows each of the
    -- two lists
    pub record Settles : Type 0 where
      pub fit : (j : ℕ) (u : View X) → get_elem? views' j ≡ some u → IsFit u
      pub notes : (p n : ℕ) → total (λ y. times_noted p n y.notes) views' ≡ total (λ y. times_noted p n y.notes) s.views
      pub parts : (n : ℕ) → total (owns n) views' ≡ total (owns n) s.views
      -- page numbers
      pub numbers : start.tells ≡ true → NumbersFit (has_free_bit (core_shown stored start s).spares)
          (core_shown stored start s).next (λ p. (histories_of start r.releases r.drafts p).last.words)
          (logical (histories_of start r.releases r.drafts) (is_pending s.views)) (map hands_of views')
      pub holding : start.tells ≡ true → (p : ℕ)
          → any (λ y. has p y.numbers) views' ≡ any (λ y. has p y.numbers) s.views
      pub giving : start.tells ≡ true → (p : ℕ) → any (λ y. has p y.freed) views' ≡ any (λ y. has p y.freed) s.views
      pub releases : HasSome KnowsReleases views'
      pub history : HasSome KnowsHistory views'

    module _ (f : Settles) where
      unfoldable pub settled-ruled : Ruled stored keeps tied start tells (settled stored start r.releases r.drafts s views' k from to g)
      settled-ruled =
          let world = settled-world stored start r.releases r.drafts s views' k from to g in
          let blocks = settled-blocks stored start r.releases r.drafts s views' k from to g in
          record {
            releases = r.releases;
            history = r.history;
            drafts = r.drafts;
            telling = r.telling;
            wide = r.wide;
            sized = r.sized;
            spelled = r.spelled;
            inv = subst Inv (sym world)
                (regathered-inv _ k from to _ _ _ _ (regathers stored start r.releases r.drafts s views' k from to g)
                r.inv (λ _. refl));
            risen = r.risen;
            zero = r.zero;
            numbers = λ t. numbers-as refl refl refl
                (ap (logical (histories_of start r.releases r.drafts)) (sym (fun_ext g.pending))) refl (f.numbers t);
            spares = r.spares;
            blocks = record {
              away = λ j u o there. (f.fit j u there).away o;
              home = λ p l e. r.blocks.home p l (sym (g.out p) ∙ e);
              bounds = λ p l. ap (λ b. (b p).bound) blocks ∙ r.blocks.bounds p l;
            };
            faults = subst (λ (y : World). FaultsFit y.core.pages views') (sym world) (record {
              below = r.faults.below;
              capped = r.faults.capped;
              noted = λ j u there. (f.fit j u there).noted;
              once = λ p n ne. subst (λ m. m ≤ 1) (sym (f.notes p n)) (r.faults.once p n ne);
            });
            lists = record {
              longest_releases = f.releases;
              longest = f.history;
              numbered = r.lists.numbered;
              counted = r.lists.counted;
              rises = r.lists.rises;
            };
            parts = subst (λ y. PartsFit r.releases r.history y views') (λ i. record {
              words = s.words;
              blocks = listed start.pages (sym blocks i);
            }) (record {
              parts = λ n. f.parts n ∙ r.parts.parts n;
              spent = λ j u there. (f.fit j u there).gone;
              whole = λ j u there. (f.fit j u there).whole;
            });
            heard = λ j u there. (f.fit j u there).heard;
            known = λ j u there on. settled-known stored start r.releases r.drafts s views' k from to g tied u ((f.fit j u there).known on);
            owner = λ t. subst (keeps (began_of start))
                (λ i. record {
                  pages = listed start.pages (logical (histories_of start r.releases r.drafts) (λ p. sym (g.pending p) i));
                  next = (core_shown stored start s).next;
                  owed = chosen start.pages (λ p. sym (g.owed p) i);
                  free = has_free_bit (core_shown stored start s).spares;
                  held = λ p. sym (f.holding t p) i;
                  freed = λ p. sym (f.giving t p) i;
                  history = r.history;
                })
                (r.owner t);
          }
