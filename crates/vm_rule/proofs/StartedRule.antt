-- A pool's table opens under the rule: all blocks are at home, all pages evicted, all frames free. The core meets the
-- invariant; the first pass
-- has all parts and knows nothing yet, and the lists are empty.
use mathlib.Core.Option as maybe
use Rattle.vm_event.specs.Prelude.{start as start_of}
use Rattle.vm_event.specs.Prelude.{has_free_bit}
use Rattle.vm_numbers.specs.Hands.{all_zero, Hands, no_hands, unit_if}
use Rattle.vm_rule.proofs.FreeWords.{free_words-bits}
use Rattle.vm_rule.proofs.StartedWords.{started-spare}
use Rattle.vm_rule.proofs.{Known.known-nothing, Pages.page-in, Pages.page-out, Parted.opened, Parts.listed-same}
use Rattle.vm_event.specs.Prelude.{GroupsFit, word_of}
use Rattle.vm_rule.proofs.{Found.part-found, Spreading.spread-alike, Starts.evicted-inv, Starts.start-frames}
use Rattle.vm_rule.specs.Spread.{spread}
use Rattle.vm_rule.proofs.ListFacts.{at-any, at-map, length-mapped, listed-long}
use Rattle.vm_rule.proofs.Prelude.{[], ap, AreClaimed, AreWhole, arith, at, began_of, block_of, block_words, Bool}
use Rattle.vm_event.proofs.Alone.{heads-alone}
use Rattle.vm_rule.proofs.Prelude.{cases_Bool, cases_lt, chosen, cond, contents_of, core_shown, CoreStart, counts_of}
use Rattle.vm_rule.proofs.Prelude.{EVICTED, evicted_page, false, first_view, FrameIsAt, Free, fun_ext, get_elem?, has}
use Rattle.vm_rule.proofs.Prelude.{has_free_bit, histories_of, home, if◌then◌else◌, inl, inr, Inv, is_owed}
use Rattle.vm_rule.proofs.Prelude.{is_pending, IsSome, IsStarted, IsWhole, Kept, known, KnowsLists, KnowsPages}
use Rattle.vm_rule.proofs.Prelude.{le-ltb, length, length-replicate, List, loads_at, logical, lt-ltb, ltb, map}
use Rattle.vm_rule.proofs.Prelude.{mapping_of, MAX_COUNT, MayBegin, no_block, None, none-some, Nowhere, numbers}
use Rattle.vm_rule.proofs.Prelude.{opening, Option, Origin, Page, PageInv, refl, replicate, Ruled, seat_of, seats_of}
use Rattle.vm_rule.proofs.Prelude.{snapshot_of, Some, some, some-injective, spent, Stands, stands_in, Start}
use Rattle.vm_rule.proofs.Prelude.{started_origin, started_shape, TableShape, started_words, State, state_of, Stored}
use Rattle.vm_rule.proofs.Prelude.{subst, subst₃, suc, sym, Table, table_words, times_noted, trans_word, true}
use Rattle.vm_rule.proofs.Prelude.{true≢false, unborn, version_of, View, width_of, world_of, zero, ℕ, ⊎_elim, ◌++◌}
use Rattle.vm_rule.proofs.Prelude.{◌-◌, ◌<◌, ◌^◌, ◌∙◌, ◌∷◌, ◌≡◌, ◌≤◌}
use Rattle.vm_rule.proofs.StartedWords.{started-bundle, started-fault, started-frame, started-next, started-owner}
use Rattle.vm_rule.proofs.StartedWords.{started-state, started-translation, started-wide}
use Rattle.vm_rule.proofs.WordFacts.{mapping-none, word-state, word-version}

-- what the first view has as a spent one has it, each has
lone : {A X : Type 0} (f : View X → A) (start : Origin) → f (first_view start) ≡ f spent → (a : ℕ)
    → f (at spent (first_view start ∷ []) a) ≡ f spent
unfolding at
lone f start e zero = e
lone f start e (suc a) = refl

-- a page has a block, which is at home
item-there : {B : Type 0} (stored : B → Stored) (items : List B) (p : ℕ) → p < length (map stored items)
    → (b : B) × (at no_block (map stored items) p ≡ stored b) × (home (map maybe.some (map Some items)) p ≡ Some b)
unfolding at
item-there stored [] p l = absurd (omega arith)
item-there stored (x ∷ xs) zero l = (x, refl, refl)
item-there stored (x ∷ xs) (suc p) l = item-there stored xs p (omega arith)

chosen-none : (n : ℕ) (f : ℕ → Bool) → ((p : ℕ) → f p ≡ false) → chosen n f ≡ []
unfolding chosen
chosen-none zero f e = refl
chosen-none (suc n) f e = rw (e n) (ap (λ (l : List ℕ). l ++ []) (chosen-none n f e))

-- the only one of a list
pub only-one : {A : Type 0} (x : A) (j : ℕ) (y : A) → get_elem? (x ∷ []) j ≡ some y → (j ≡ 0) × (y ≡ x)
only-one x zero y e = (refl, sym (some-injective x y e))
only-one x (suc j) y e = absurd (maybe.some-ne-none y (sym e))

module _ (X : Type 0) {B : Type 0} (stored : B → Stored) (size : ℕ) (tells : Bool)
    (version next : ℕ) (free : List ℕ) (groups : List (ℕ × ℕ)) (frames : ℕ) (items : List B)
    (whole : tells ≡ true → AreWhole size (map stored items))
    (ok : IsStarted version next frames (length items)) where
  abbrev blocks : List Stored
  blocks = map stored items

  abbrev start : Origin
  start = started_origin size tells version next free groups frames blocks

  abbrev words : List ℕ
  words = started_words size (length blocks) frames version next free (counts_of blocks)

  abbrev table : Table (Option B) (View X)
  table = opening words (map Some items) (first_view start)

  many : length items ≡ length blocks
  many = sym (length-mapped stored items)

  first-block : (p : ℕ) → p < length blocks → block_of stored table.homes table.views p ≡ at no_block blocks p
  unfolding block_of
  first-block p l = let k = item-there stored items p l in ap (λ o. known stored o None) k.2 ∙ sym k.1

  page-evicted : (p : ℕ) → p < length blocks → (core_shown stored start table).pages p ≡ evicted_page version
      (at no_block blocks p).words (at no_block blocks p).count
  page-evicted p l =
      page-in (length blocks) (table_words start words) (block_of stored table.homes table.views) (seats_of table.views) p l
      ∙ (λ i. record {
        state = (ap state_of (started-state size tells version next free groups frames blocks p l) ∙ word-state EVICTED version ok.in_range) i;
        version = (ap version_of (started-state size tells version next free groups frames blocks p l) ∙ word-version EVICTED
            version ok.in_range) i;
        trans = (ap mapping_of (started-translation size tells version next free groups frames blocks p l) ∙ mapping-none) i;
        fault = started-fault size tells version next free groups frames blocks no_block p l i;
        count = (first-block p l i).count;
        block = (first-block p l i).words;
        seats = λ a. lone {X = X} (λ y. seat_of y p) start refl a i;
      })

  contents-at : (p : ℕ) → p < length blocks → at (replicate size 0) (contents_of size tells blocks)
      p ≡ (if tells then (at no_block blocks p).words else replicate size 0)
  contents-at p l = at-map (λ (b : Stored). if tells then b.words else replicate size 0) (replicate size 0) no_block blocks p l

  contents-told : (p : ℕ) → p < length blocks → tells ≡ true → (at no_block blocks p).words ≡ at (replicate size 0)
      (contents_of size tells blocks) p
  contents-told p l t = sym (contents-at p l ∙ ap (λ y. if y then (at no_block blocks p).words else replicate size 0) t)

  contents-long : (p : ℕ) → p < length blocks → length (at (replicate size 0) (contents_of size tells blocks) p) ≡ size
  contents-long p l =
      ⊎_elim
      (λ t. ap length (sym (contents-told p l t)) ∙ whole t p l)
      (λ f. ap length (contents-at p l ∙ ap (λ y. if y then (at no_block blocks p).words else replicate size 0) f)
      ∙ length-replicate {A = ℕ} size 0)
      (cases_Bool tells)

  page-inv : (p : ℕ) → PageInv 1 size tells (core_shown stored start table).words
      ((core_shown stored start table).pages p) (histories_of start [] (λ q. []) p) (λ a. [])
  unfolding histories_of
  page-inv p =
      ⊎_elim
      (λ l. rw (lt-ltb p (length blocks) l, page-evicted p l)
      (evicted-inv 1 size tells (core_shown stored start table).words version (at no_block blocks p).words
      (at (replicate size 0) (contents_of size tells blocks) p) (at no_block blocks p).count ok.in_range
      (contents-long p l) (contents-told p l)))
      (λ le. rw (
        le-ltb p (length blocks) le,
        page-out (length blocks) (table_words start words)
            (block_of stored table.homes table.views) (seats_of table.views) p le,
      )
      (evicted-inv 1 size tells (core_shown stored start table).words 0 (replicate size 0) (replicate size 0) 0
      (omega arith) (length-replicate {A = ℕ} size 0) (λ _. refl)))
      (cases_lt p (length blocks))

  -- no page stands in a frame
  empty : (p : ℕ) → ((core_shown stored start table).pages p).trans ≡ None
  empty p =
      ⊎_elim
      (λ l. ap (λ (r : Page). r.trans) (page-evicted p l))
      (λ le. ap (λ (r : Page). r.trans)
      (page-out (length blocks) (table_words start words) (block_of stored table.homes table.views)
      (seats_of table.views) p le))
      (cases_lt p (length blocks))

  -- the frames stand as in a core's start
  frame-free : (f : ℕ) → FrameIsAt (core_shown stored start table) f (cond (ltb f frames) Free Nowhere)
  frame-free f =
      let c : CoreStart = record {
        shape = record { pages = length blocks; frames = frames; actors = 1; next = next };
        size = size;
        first = version;
        tells = tells;
        blocks = λ p. [];
        counts = λ p. 0;
        groups = [];
      } in
      let s : FrameIsAt (start_of c) f (cond (ltb f frames) Free Nowhere) = start-frames c f in
      record {
        inside = s.inside;
        outside = s.outside;
        free = ap (λ b. has_free_bit b f) (fun_ext (started-bundle size tells version next free groups frames blocks)) ∙ s.free;
        holds = λ a. lone {X = X} (λ y. has f y.frames) start refl a ∙ s.holds a;
        mapped = λ p. ap (λ t. stands_in t f) (empty p) ∙ s.mapped p;
      }

  started-inv : Inv (world_of stored start [] (λ p. []) table)
  started-inv = record {
    place = λ f. cond (ltb f frames) Free Nowhere;
    frames = frame-free;
    words = λ f. ap length (started-frame size tells version next free groups frames blocks f) ∙ length-replicate {A = ℕ} size 0;
    next = (let is : (table_words start words).next ≡ next = started-next size tells version next free groups frames
        blocks in let le : next ≤ length items = ok.claimed in omega (arith, is, le, many));
    pages = λ p. subst (PageInv 1 size tells (core_shown stored start table).words
        ((core_shown stored start table).pages p) (histories_of start [] (λ q. []) p))
        (sym (fun_ext (lone {X = X} (λ y. loads_at y p) start refl))) (page-inv p);
    owners = record {
      named = λ f p e. let none : (table_words start words).owners f ≡ 0 = started-owner size tells version next free groups
          frames blocks f in absurd (omega (arith, none, e));
      owned = λ p free m at. absurd (none-some m (sym (empty p) ∙ at));
    };
    heads = heads-alone _ (λ _. refl);
  }

  -- ---- the rule

  module _ (keeps : Start → Kept X → Type 0) (tied : Start → ℕ → List ℕ → ℕ → List ℕ → Type 0)
      (bounded : (b : B) → (stored b).count ≤ (stored b).bound) (capped : (b : B) → (stored b).bound ≤ 2 ^ 64 - 1)
      (fit : GroupsFit (length items) groups)
      (claimed : AreClaimed next free) (may : tells ≡ true → MayBegin keeps next free (block_words blocks)) where
    abbrev shape : TableShape
    shape = started_shape size tells version next free groups frames blocks

    abbrev c : State
    c = core_shown stored start table

    next-is : c.next ≡ next
    next-is = started-next size tells version next free groups frames blocks

    begins : tells ≡ true → MayBegin keeps next free start.contents
    begins t = subst (MayBegin keeps next free) (sym (ap (λ y. contents_of size y blocks) t)) (may t)

    many-contents : length start.contents ≡ length blocks
    many-contents = length-mapped (λ (b : Stored). if tells then b.words else replicate size 0) blocks

    only : (P : View X → Type 0) → P (first_view start) → (j : ℕ) (u : View X) → get_elem? table.views j ≡ some u → P u
    only P p j u there = subst P (sym (only-one (first_view start) j u there).1) p

    last-words : (p : ℕ) → p < start.pages
        → (histories_of start [] (λ p. []) p).last.words ≡ at (replicate size 0) start.contents p
    unfolding histories_of
    last-words p l = rw (lt-ltb p start.pages l) refl

    -- a page's fault word is its block's count, which is within its bound
    counted : (p : ℕ) → ((c.pages p).fault ≤ (c.pages p).count) × ((c.pages p).count ≤ MAX_COUNT)
    counted p =
        ⊎_elim
        (λ l.
        let k = item-there stored items p l in
        let within : (at no_block blocks p).count ≤ MAX_COUNT = subst (λ (b : Stored). b.count ≤ MAX_COUNT) (sym k.1)
        (let a = bounded k.0 in let b = capped k.0 in omega (arith, a, b)) in
        rw (page-evicted p l) (omega arith, within))
        (λ le. rw (page-out start.pages (table_words start words) (block_of stored table.homes table.views)
        (seats_of table.views) p le) (omega arith, omega arith))
        (cases_lt p start.pages)

    -- the numbers that are free are those handed in, of pages; no pass has one
    of-pages : (p : ℕ) → has p free ≡ true → p < length blocks
    of-pages p e = let low : p < next = claimed p e in let le : next ≤ length items = ok.claimed in omega (arith, low, le, many)

    spares-are : (p : ℕ) → has_free_bit c.spares p ≡ has p free
    spares-are p = ap (λ w. has_free_bit w p)
        (fun_ext (started-spare size tells version next free groups frames blocks of-pages)) ∙ free_words-bits free p

    set-there : (p : ℕ) → has_free_bit c.spares p ≡ true → has p free ≡ true
    set-there p e = sym (spares-are p) ∙ e

    -- their pages are zero
    spare-zero : tells ≡ true → (p : ℕ) → has_free_bit c.spares p ≡ true
        → all_zero (histories_of start [] (λ q. []) p).last.words ≡ true
    unfolding at
    spare-zero t p e =
        let low : p < length blocks = of-pages p (set-there p e) in
        ap all_zero (last-words p low ∙ at-any (replicate size 0) [] start.contents p
        (omega (arith, many-contents, low))) ∙ (begins t).spare p (set-there p e)

    few-set : (p : ℕ) → unit_if (has_free_bit c.spares p) ≤ 1
    few-set p =
        ⊎_elim
        (λ t. let one : unit_if (has_free_bit c.spares p) ≡ 1 = ap unit_if t in omega (arith, one))
        (λ f. let none : unit_if (has_free_bit c.spares p) ≡ 0 = ap unit_if f in omega (arith, none))
        (cases_Bool (has_free_bit c.spares p))

    some-set : (p : ℕ) → 1 ≤ unit_if (has_free_bit c.spares p) → has_free_bit c.spares p ≡ true
    some-set p some' =
        ⊎_elim
        (λ t. t)
        (λ f. absurd (let none : unit_if (has_free_bit c.spares p) ≡ 0 = ap unit_if f in omega (arith, none, some')))
        (cases_Bool (has_free_bit c.spares p))

    only-none : (j : ℕ) (h : Hands) → get_elem? (no_hands ∷ []) j ≡ some h → h ≡ no_hands
    only-none zero h e = sym (maybe.some-injective no_hands h e)
    only-none (suc j) h e = absurd (maybe.some-ne-none h (sym e))

    first-ruled : Ruled stored keeps tied start tells table
    unfolding at logical
    first-ruled = record {
      releases = [];
      history = [];
      drafts = λ p. [];
      telling = refl;
      wide = (
        started-wide size tells version next free groups frames blocks,
        length-mapped maybe.some (map Some items)
            ∙ length-mapped Some items ∙ many,
      );
      sized = (many-contents, length-mapped (λ (b : Stored). b.bound) blocks);
      spelled = λ p l. let is = started-translation size tells version next free groups frames blocks p l in
          is ∙ sym (ap (λ w. trans_word (mapping_of w)) is ∙ ap trans_word mapping-none);
      inv = started-inv;
      risen = omega (arith, next-is);
      zero = λ t p le l.
          let any = at-any (replicate size 0) [] start.contents p (omega (arith, many-contents, l)) in
          last-words p l ∙ any ∙ (begins t).zero p (omega (arith, next-is, le)) (omega (arith, many-contents, l))
          ∙ ap (λ n. replicate n 0) (ap length (sym any) ∙ contents-long p l);
      numbers = λ t. record {
        once = λ p. let few = few-set p in omega (arith, few);
        below = λ p e. let low : p < next = claimed p (set-there p (some-set p (omega (arith, e)))) in omega (arith, low, next-is);
        free = λ p e. (spare-zero t p e, spare-zero t p e);
        held = λ j h at p e. absurd (true≢false (sym e ∙ ap (λ (y : Hands). has p y.numbers) (only-none j h at)));
        freed = λ j h at p e. absurd (true≢false (sym e ∙ ap (λ (y : Hands). has p y.freed) (only-none j h at)));
      };
      spares = λ p e. of-pages p (set-there p e);
      blocks = record {
        away = λ j v o there e. absurd (let none : None ≡ Some o = only (λ y. None ≡ y.out) refl j v there ∙ e in cc);
        home = λ p l _. subst IsSome (sym (item-there stored items p l).2) refl;
        bounds = λ p l. ap (λ (b : Stored). b.bound) (first-block p l) ∙ sym (at-map (λ (b : Stored). b.bound) 0 no_block blocks p l);
      };
      faults = record {
        below = λ p. (counted p).0;
        capped = λ p. (counted p).1;
        noted = λ j v there p n m.
            absurd (let none : times_noted p n v.notes ≡ 0 = only (λ y. times_noted p n y.notes ≡ 0) refl j v there in
            omega arith);
        once = λ p n ne. omega arith;
      };
      lists = record {
        longest_releases = (0, first_view start, refl, inl refl);
        longest = (0, first_view start, refl, inl refl);
        numbered = tt;
        counted = tt;
        rises = tt;
      };
      parts = record {
        parts = opened X start;
        spent = only (λ y. y.live ≡ false → y ≡ spent) (λ off. absurd (true≢false off));
        whole = only (λ y. y.live ≡ true → IsWhole y → y.current ≡ true → (y.releases ≡ []) × (y.seen ≡ [])
            × (y.snapshot ≡ snapshot_of stored start table)) (λ _ _ current. absurd (true≢false (sym current)));
      };
      heard = only (λ y. y.live ≡ true → KnowsLists start [] [] y) (λ _. record {
        same_start = refl;
        saw = ([], refl);
        heard = ([], refl, refl);
        told = (([], refl), ([], refl, refl), λ k e. absurd (true≢false (sym e)));
        mine = refl;
        fresh = λ k _. refl;
        idle = λ none _. absurd (let e : 1 ≡ 0 = ap length none in omega arith);
      });
      known = only (λ y. y.live ≡ true → KnowsPages tied start (world_of stored start [] (λ p. []) table)
          (is_pending table.views) y) (λ _. known-nothing tied start _ _ true start (0 ∷ []) (numbers 1 4294967295) []
          []);
      owner = λ t. subst (keeps (began_of start))
          (sym (λ i. record {
            pages = (listed-same start.pages (logical (histories_of start [] (λ p. [])) (is_pending table.views))
                (at (replicate size 0) start.contents) last-words ∙ listed-long (replicate size 0) start.pages
                start.contents many-contents) i;
            next = next-is i;
            owed = chosen-none start.pages (is_owed table.views) (λ p. refl) i;
            free = fun_ext spares-are i;
            held = λ p. false;
            freed = λ p. false;
            history = [];
          }))
          (begins t).kept;
    }

    grouped : GroupsFit (length blocks) groups
    grouped = subst (λ n. GroupsFit n groups) many fit

    -- all pages are evicted at one version: so each page of a group has the word of its first page
    read-alike : spread groups words ≡ words
    read-alike =
        spread-alike (length blocks) groups grouped words (word_of EVICTED version)
        (λ p l. sym (part-found 0 (length blocks) words p p l (omega arith)) ∙ started-state size tells version next free groups frames blocks p l)

    first-stands : Stands stored keeps tied shape tells (opening words (map Some items) (unborn shape))
    unfolding block_of
    first-stands =
        let same = listed-same start.pages (block_of stored table.homes table.views) (at no_block blocks) first-block
        ∙ listed-long no_block start.pages blocks refl in
        record {
          start = start;
          is_shape = record { same = refl; size = refl; pages = refl; frames = refl; version = refl; next = refl };
          fit = grouped;
          rule = inr (
            refl,
            subst (λ ws. Ruled stored keeps tied start tells (record table { words = ws })) (sym read-alike) first-ruled,
            λ i. record { words = read-alike i; blocks = same i },
          );
        }

    -- the table meets its rule when it is made with the shape, the words and the slots that were made of these
    -- blocks; these are as many as the
    -- shape says
    pub opens : (xs ys : List B) → xs ≡ items → ys ≡ items
        → (shape' : TableShape) (row : List ℕ) (slots : List (Option B))
        → shape' ≡ record {
          size = size;
          pages = length xs;
          frames = frames;
          version = version;
          next = next;
          began = (started_shape size tells version next free groups frames (map stored xs)).began;
        }
        → row ≡ started_words size (length ys) frames version next free (counts_of (map stored ys))
        → slots ≡ map Some items
        → Stands stored keeps tied shape' tells (opening row slots (unborn shape'))
        × ((length row ≡ width_of shape'.size shape'.pages shape'.frames) × (length slots ≡ shape'.pages))
    opens xs ys same same' shape' row slots e f h =
        subst₃ (λ (y : TableShape) (l : List ℕ) (m : List (Option B)). Stands stored keeps tied y tells
        (opening l m (unborn y)) × ((length l ≡ width_of y.size y.pages y.frames) × (length m ≡ y.pages)))
        (sym (e ∙ (λ i. record {
          size = size;
          pages = sym (length-mapped stored xs) i;
          frames = frames;
          version = version;
          next = next;
          began = (started_shape size tells version next free groups frames (map stored xs)).began;
        }) ∙ ap (λ l. started_shape size tells version next free groups frames (map stored l)) same))
        (sym (f ∙ ap (λ n. started_words size n frames version next free (counts_of (map stored ys)))
        (sym (length-mapped stored ys))
        ∙ ap (λ l. started_words size (length (map stored l)) frames version next free (counts_of (map stored l)))
        same'))
        (sym h)
        (first-stands, (started-wide size tells version next free groups frames blocks, length-mapped Some items ∙ many))
