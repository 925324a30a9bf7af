-- The steps on free-number words that change them: numbers that are taken, and numbers that are given, keep the rule
-- and tell what they are to tell. Of the layer
-- above they ask its law of numbers; of the table's words after the step, what any word that is no translation leaves
-- (vm_step/proofs/Written).
use Rattle.std.proofs.Common.{eq-eqb}
use Rattle.std.specs.Prelude.{map}
use Rattle.vm_event.specs.declared.event.Event.TheVariants.{PGive, PTake}
use Rattle.vm_event.specs.Prelude.{has_free_bit}
use Rattle.vm_laws_frame.proofs.Bits.{given-free}
use Rattle.vm_numbers.specs.Hands.{all_zero, in_hand, IsGivable, NumbersFit}
use Rattle.vm_numbers.proofs.{Steps.give_keeps, Steps.take_keeps, Sums.hands-at, Sums.hands-two, Sums.one-true}
use Rattle.vm_owner.specs.Kept.{MayMove, moved, NumberMove}
use Rattle.vm_owner.specs.Kept.NumberMove.{Given, Taken}
use Rattle.vm_page.specs.Pages.{page_at}
use Rattle.vm_rule.specs.declared.view.WordPlace.TheVariants as places
use Rattle.vm_rule.specs.FreeNumbers.{GiveNumbersTold, IsGivenBy, numbered_view, TakeNumbersTold, unnumbered_view}
use Rattle.vm_rule.specs.Log.{did_change, did_exchange}
use Rattle.vm_rule.specs.Reading.{numbers_held}
use Rattle.vm_rule.specs.Rule.{hands_of}
use Rattle.vm_rule.proofs.NumberReleases.{logical-draft}
use Rattle.vm_rule.proofs.{Bringing.steps, Bundled.has-frames_in, Bundled.has-without_all, Entries.append-none}
use Rattle.vm_rule.proofs.{Facts.any-here, Facts.any-true, Facts.either-way, Facts.has-both, Found.spare-here}
use Rattle.vm_rule.proofs.{FrameWorlds.give_numbers-step, FrameWorlds.take_numbers-step, ListFacts.at-listed}
use Rattle.vm_rule.proofs.{Numbered.hands-set, Numbered.hands-there, Numbered.numbers-as, Views.any-same}
use Rattle.vm_rule.proofs.{Views.at-bound, Views.set-each, Worlds.draft-is}
use Rattle.vm_rule.proofs.Adding.{after_step, became}
use Rattle.vm_rule.proofs.Prelude.{[], actor_of, and_from, any, ap, ArePlain, arith, at, began_of, bit_and, bit_at}
use Rattle.vm_rule.proofs.Prelude.{bit_at-lt, bit_at-zero, bit_at_above, bit_at_and, bit_or, bit_xor, Bool, Brings}
use Rattle.vm_rule.proofs.Prelude.{cases_Bool, cases_eq, cases_lt, chosen, core_shown, Did, draft_of, eqb, Event}
use Rattle.vm_rule.proofs.Prelude.{false, frames_in, fun_ext, get_elem?, has, histories_of, if◌then◌else◌, in_mask}
use Rattle.vm_rule.proofs.Prelude.{index_of, inl, inr, is_owed, is_pending, IsFoundAt, Kept, kept_of, KnowsOwners}
use Rattle.vm_rule.proofs.Prelude.{KnowsPage, KnowsPages, Legal, length, List, listed, logical, min, no_held, None}
use Rattle.vm_rule.proofs.Prelude.{Option, Origin, Page, put_at, refl, Ruled, same_from_bits, seat_of, set_here}
use Rattle.vm_rule.proofs.Prelude.{set_if, slice_index, slice_set, some, Some, spent, Start, State, Stored, subst}
use Rattle.vm_rule.proofs.Prelude.{suc, sym, Table, taken-free, true, true≢false, upd, Version, View, width, Within}
use Rattle.vm_rule.proofs.Prelude.{without_all, World, world_after, world_of, zero, ℕ, ⊎_elim, ◌%◌, ◌&&◌, ◌*◌, ◌++◌}
use Rattle.vm_rule.proofs.Prelude.{◌+◌, ◌/◌, ◌<◌, ◌==◌, ◌^◌, ◌||◌, ◌∙◌, ◌∷◌, ◌≡◌, ◌≢◌, ◌≤◌, ◌⊎◌}

-- ---- what some view says, after one of them gained or lost it

module _ {X : Type 0} where
  any-gains : (f : View X → Bool) (views : List (View X)) (id : ℕ) (v w : View X) (b : Bool)
      → get_elem? views id ≡ some v → f w ≡ (if b then true else f v)
      → any f (slice_set views id w) ≡ (if b then true else any f views)
  any-gains f views id v w true there e = any-here f (slice_set views id w) id w (set_here views id w (at-bound views id v there)) e
  any-gains f views id v w false there e = any-same f views id v w there e

  any-none : (f : View X → Bool) (views : List (View X))
      → ((j : ℕ) (u : View X) → get_elem? views j ≡ some u → f u ≡ false) → any f views ≡ false
  any-none f views none = ⊎_elim (λ t. let k = any-true f views t in absurd (true≢false (sym k.3 ∙ none k.0 k.1 k.2)))
      (λ n. n) (cases_Bool (any f views))

  any-loses : (f : View X → Bool) (views : List (View X)) (id : ℕ) (v w : View X) (b : Bool)
      → get_elem? views id ≡ some v → f w ≡ (if b then false else f v)
      → (b ≡ true → (j : ℕ) (u : View X) → j ≢ id → get_elem? views j ≡ some u → f u ≡ false)
      → any f (slice_set views id w) ≡ (if b then false else any f views)
  any-loses f views id v w true there e others = any-none f (slice_set views id w) (set-each (λ y. f y ≡ false) views id w e (others refl))
  any-loses f views id v w false there e others = any-same f views id v w there e

-- a page that is listed
page-listed : (n : ℕ) (f : ℕ → List ℕ) (p : ℕ) → p < n → page_at (listed n f) p ≡ f p
unfolding at
page-listed n f p l = at-listed [] n f p l

-- the bits of a mask of which none is set
unset-bits : (words : ℕ → ℕ) (g mask : ℕ) → mask < 2 ^ 64
    → ((f : ℕ) → in_mask g mask f ≡ true → has_free_bit words f ≡ false) → bit_and (words g) mask ≡ 0
unfolding in_mask has_free_bit
unset-bits words g mask small none =
    same_from_bits (bit_and (words g) mask) 0
    (λ i. bit_at_and (words g) mask i ∙ ⊎_elim (λ low. inside i low) (λ high. past i high) (cases_lt i 64) ∙ sym (bit_at-zero i))
  where
    past : (i : ℕ) → 64 ≤ i → min (bit_at (words g) i) (bit_at mask i) ≡ 0
    past i high = let none : bit_at mask i ≡ 0 = bit_at_above mask 64 i small high in omega (arith, none)

    inside : (i : ℕ) → i < 64 → min (bit_at (words g) i) (bit_at mask i) ≡ 0
    inside i low =
        let bit : bit_at mask i < 2 = bit_at-lt mask i in
        let word : bit_at (words g) i < 2 = bit_at-lt (words g) i in
        ⊎_elim
        (λ (one : bit_at mask i ≡ 1).
        let q : (64 * g + i) / 64 ≡ g = omega (arith, low) in
        let m : (64 * g + i) % 64 ≡ i = omega (arith, low) in
        let in-it : in_mask g mask (64 * g + i) ≡ true = and_from _ _ (eq-eqb _ _ q) (eq-eqb _ _ (ap (bit_at mask) m ∙ one)) in
        let here : eqb (bit_at (words g) i) 1 ≡ false = sym (λ j. eqb (bit_at (words (q j)) (m j)) 1) ∙ none (64 * g + i) in-it in
        let ne : bit_at (words g) i ≢ 1 = λ set. true≢false (sym (eq-eqb _ _ set) ∙ here) in
        omega (arith, word, ne))
        (λ (ne : bit_at mask i ≢ 1). omega (arith, bit, ne))
        (cases_eq (bit_at mask i) 1)

-- the page numbers after a take and after a give
pub numbers-with : (g mask : ℕ) (l : List ℕ) (p : ℕ)
    → has p (frames_in g mask ++ l) ≡ (if in_mask g mask p then true else has p l)
numbers-with g mask l p = has-both p (frames_in g mask) l ∙ ap (λ b. b || has p l) (has-frames_in g mask p)
    ∙ either-way (in_mask g mask p) (has p l)

pub numbers-without : (g mask : ℕ) (l : List ℕ) (p : ℕ)
    → has p (without_all (frames_in g mask) l) ≡ (if in_mask g mask p then false else has p l)
numbers-without g mask l p = has-without_all p (frames_in g mask) l ∙ ap (λ b. if b then false else has p l) (has-frames_in g mask p)

module _ {X B : Type 0} (stored : B → Stored) (keeps : Start → Kept X → Type 0)
    (tied : Start → ℕ → List ℕ → ℕ → List ℕ → Type 0) (start : Origin) (tells : Bool)
    (s : Table (Option B) (View X)) (r : Ruled stored keeps tied start tells s) (id : ℕ) (v : View X)
    (there : get_elem? s.views id ≡ some v) (live : v.live ≡ true) where
  abbrev old : World
  old = world_of stored start r.releases r.drafts s

  abbrev c : State
  c = core_shown stored start s

  abbrev last_words : ℕ → List ℕ
  last_words p = (histories_of start r.releases r.drafts p).last.words

  abbrev logical_words : ℕ → List ℕ
  logical_words = logical (histories_of start r.releases r.drafts) (is_pending s.views)

  abbrev Fits : Type 0
  Fits = NumbersFit (has_free_bit c.spares) c.next last_words logical_words (map hands_of s.views)

  -- ---- a step on a free-number word, after which the pass has these numbers, and has freed these pages

  module _ (g x : ℕ) (numbers' freed' : List ℕ) (rows : ℕ → ℕ → Bool) (did : Did) (e : Event) where
    abbrev inner : View X
    inner = record v { numbers = numbers'; freed = freed' }

    abbrev words : List ℕ
    words = slice_set s.words (index_of start (places.Spare g)) x

    abbrev w : View X
    w = after_step stored keeps tied start tells s r words [] [] did inner

    abbrev new : Table (Option B) (View X)
    new = became stored keeps tied start tells s words id w

    abbrev later : World
    later = record old { core = record c { spares = upd c.spares g x; numbers = rows } }

    record Moves : Type 0 where
      pub actor : actor_of e ≡ id
      pub legal : Legal c e
      pub inside : Within start did.at
      pub found : IsFoundAt did.found (index_of start did.at) s.words
      pub wrote : IsFoundAt did.wrote (index_of start did.at) words
      pub left : words ≡ set_if did.wrote (index_of start did.at) s.words
      pub wide : length words ≡ width start
      pub spelled : ArePlain start words
      pub world : world_of stored start r.releases r.drafts new ≡ later
      pub event : later ≡ world_after old e
      pub fit : start.tells ≡ true → NumbersFit (has_free_bit (upd c.spares g x)) c.next last_words logical_words
          (slice_set (map hands_of s.views) id (hands_of inner))
      pub owner : start.tells ≡ true → keeps (began_of start) (kept_of old r.history s.views)
          → keeps (began_of start) (record (kept_of old r.history s.views) {
            free = has_free_bit (upd c.spares g x);
            held = λ p. any (λ (y : View X). has p y.numbers) (slice_set s.views id w);
            freed = λ p. any (λ (y : View X). has p y.freed) (slice_set s.views id w);
          })

    number-moves : 0 < length v.used → Moves → Ruled stored keeps tied start tells new × Brings did [] [] v inner w
    number-moves number m =
        let k : KnowsPages tied start old (is_pending s.views) v = r.known id v there live in
        let releases : r.releases ++ [] ≡ r.releases = append-none r.releases in
        let history : r.history ++ [] ≡ r.history = append-none r.history in
        let core : core_shown stored start new ≡ later.core = ap (λ (y : World). y.core) m.world in
        let world : world_of stored start (r.releases ++ []) r.drafts new ≡ later =
        ap (λ l. world_of stored start l r.drafts new) releases ∙ m.world in
        let pending : is_pending (slice_set s.views id w) ≡ is_pending s.views =
        fun_ext (λ p. any-same (λ y. has p y.pending) s.views id v w there refl) in
        let owed : is_owed (slice_set s.views id w) ≡ is_owed s.views =
        fun_ext (λ p. any-same (λ y. has p y.owed) s.views id v w there refl) in
        steps stored keeps tied start tells s r id v words r.drafts [] [] did inner e there live number m.actor m.left
        (record {
          wide = m.wide;
          spelled = m.spelled;
          legal = m.legal;
          at = m.inside;
          found = m.found;
          wrote = m.wrote;
          world = world ∙ m.event;
          live = refl;
          same_start = refl;
          used = refl;
          fresh = refl;
          notes = refl;
          log = refl;
          out = refl;
          calls = λ o x. (r.blocks.away id v o there x).1;
          entry = inl refl;
          mine = sym (append-none v.mine);
          next_versions = tt;
          zero = λ t p le l. ap (λ y. (histories_of start y r.drafts p).last.words) releases
              ∙ r.zero t p (subst (λ n. n ≤ p) (ap (λ (y : State). y.next) core) le) l;
          numbers = λ t. numbers-as (ap (λ (y : State). has_free_bit y.spares) (sym core))
              (ap (λ (y : State). y.next) (sym core))
              (ap (λ l p. (histories_of start l r.drafts p).last.words) (sym releases))
              (λ i. logical (histories_of start (sym releases i) r.drafts) (sym pending i)) (sym (hands-set s.views id w)) (m.fit t);
          knows = λ p. subst (λ (y : ℕ → Page). KnowsPage (seat_of v p) (put_at no_held v.held p) (y p))
              (sym (ap (λ (y : State). y.pages) core)) (k.knows p);
          owners = subst (λ (f : ℕ → ℕ). KnowsOwners f (seat_of v) (put_at no_held v.held))
              (sym (ap (λ (y : State). y.owners) core)) k.owners;
          contents = λ f x. k.contents f x ∙ sym (ap (λ (y : State). y.words f) core);
          drafted = λ p x. k.drafts p x ∙ draft-is start r.releases r.drafts p;
          pending = λ p x. let q = k.pending p x in (
            q.0,
            λ t past. sym (draft-is start r.releases r.drafts p)
                ∙ q.1 t (subst (λ n. n ≤ p) (ap (λ (y : State). y.next) core) past)
                ∙ sym (ap (λ y. (histories_of start y r.drafts p).last.words) releases),
          );
          owed = λ p x. let q = k.owed p x in (q.0, q.1, subst (λ n. p < n) (sym (ap (λ (y : State). y.next) core)) q.2, q.3);
          next = λ y is. let q = k.next y is in (q.0, ap (λ (z : State). z.next) core ∙ q.1);
          loaded = ([], refl, tt);
          tying = ([], refl, λ _. tt);
          members = λ p was gone. absurd (true≢false (sym was ∙ gone));
          owner = λ t kept. subst (keeps (began_of start)) (λ i. record {
            pages = listed start.pages (logical (sym world i).histories (sym pending i));
            next = (sym world i).core.next;
            owed = chosen start.pages (sym owed i);
            free = has_free_bit (sym world i).core.spares;
            held = λ p. any (λ (y : View X). has p y.numbers) (slice_set s.views id w);
            freed = λ p. any (λ (y : View X). has p y.freed) (slice_set s.views id w);
            history = sym history i;
          }) (m.owner t kept);
        })

  -- a number of the pass is in no other place
  module _ (fit : Fits) (p : ℕ) (mine : (has p v.numbers ≡ true) ⊎ (has p v.freed ≡ true)) where
    some' : 1 ≤ in_hand p (hands_of v)
    some' = ⊎_elim (λ n. let one = one-true (has p v.numbers) n in omega (arith, one))
        (λ n. let one = one-true (has p v.freed) n in omega (arith, one)) mine

    not-set : has_free_bit c.spares p ≡ false
    not-set =
        ⊎_elim
        (λ t. absurd (let one = one-true (has_free_bit c.spares p) t in let two = some' in
        omega (
          arith,
          fit.once p,
          hands-at p (map hands_of s.views) id (hands_of v)
              (hands-there s.views id v there),
          one,
          two,
        )))
        (λ n. n)
        (cases_Bool (has_free_bit c.spares p))

    module _ (j : ℕ) (u : View X) (ne : j ≢ id) (on : get_elem? s.views j ≡ some u) where
      none : in_hand p (hands_of u) ≡ 0
      none = let two = some' in
          omega (
            arith,
            fit.once p,
            hands-two p (map hands_of s.views) j id (hands_of u) (hands_of v) ne
                (hands-there s.views j u on) (hands-there s.views id v there),
            two,
          )

      not-numbered : has p u.numbers ≡ false
      not-numbered = ⊎_elim (λ t. absurd (let one = one-true (has p u.numbers) t in let zero' = none in
          omega (arith, one, zero'))) (λ n. n) (cases_Bool (has p u.numbers))

      not-freed : has p u.freed ≡ false
      not-freed = ⊎_elim (λ t.
          absurd (let one = one-true (has p u.freed) t in let zero' = none in omega (arith, one, zero'))) (λ n. n)
          (cases_Bool (has p u.freed))

  -- the logical words of a member of the pass still to be released are its draft
  member-words : (p : ℕ) → has p v.pending ≡ true → ((seat_of v p).exclusive ≡ true) × (logical_words p ≡ draft_of v p)
  member-words p member =
      let k : KnowsPages tied start old (is_pending s.views) v = r.known id v there live in
      let owns = (k.pending p member).0 in (
        owns,
        logical-draft (histories_of start r.releases r.drafts) (is_pending s.views) p
            (any-here (λ (y : View X). has p y.pending) s.views id v there member) ∙ sym (k.drafts p owns),
      )

  logical-page : (p : ℕ) → p < start.pages → all_zero (logical_words p) ≡ true
      → all_zero (page_at (kept_of old r.history s.views).pages p) ≡ true
  logical-page p l z = ap all_zero (page-listed start.pages logical_words p l) ∙ z

  -- ---- the two steps, with the law of the layer above

  abbrev pub LetsNumbersMove : Type 0
  LetsNumbersMove = (kept : Kept X) (move : NumberMove) → keeps (began_of start) kept → MayMove kept move
      → keeps (began_of start) (moved move kept)

  module _ (g : ℕ) (within : Within start (places.Spare g)) where
    abbrev found : ℕ
    found = slice_index s.words (index_of start (places.Spare g))

    -- what the word that is written leaves of the table's
    pub record Left (x : ℕ) : Type 0 where
      pub wide : length (slice_set s.words (index_of start (places.Spare g)) x) ≡ width start
      pub spelled : ArePlain start (slice_set s.words (index_of start (places.Spare g)) x)
      pub wrote : x ≡ slice_index (slice_set s.words (index_of start (places.Spare g)) x) (index_of start (places.Spare g))

    -- numbers are taken
    module _ (expects mask : ℕ) (some'' : mask ≢ 0) (among : bit_and mask expects ≡ mask) (hit : found ≡ expects) where
      abbrev taking : Did
      taking = did_exchange (places.Spare g) expects found (bit_xor expects mask)

      abbrev taker : View X
      taker = after_step stored keeps tied start tells s r
          (slice_set s.words (index_of start (places.Spare g)) (bit_xor expects mask)) [] [] taking
          (numbered_view g mask v)

      finds : c.spares g ≡ expects
      finds = spare-here stored start s g within ∙ hit

      bits : (p : ℕ) → ((in_mask g mask p ≡ true) × (has_free_bit c.spares p ≡ true)
          × (has_free_bit (upd c.spares g (bit_xor expects mask)) p ≡ false))
          ⊎ ((in_mask g mask p ≡ false)
          × (has_free_bit (upd c.spares g (bit_xor expects mask)) p ≡ has_free_bit c.spares p))
      bits p = taken-free c.spares g expects mask p finds among

      was-set : (p : ℕ) → in_mask g mask p ≡ true → (has_free_bit c.spares p ≡ true)
          × (has_free_bit (upd c.spares g (bit_xor expects mask)) p ≡ false)
      was-set p t = ⊎_elim (λ k. (k.1, k.2)) (λ k. absurd (true≢false (sym t ∙ k.0))) (bits p)

      still : (p : ℕ) → in_mask g mask p ≡ false
          → has_free_bit (upd c.spares g (bit_xor expects mask)) p ≡ has_free_bit c.spares p
      still p n = ⊎_elim (λ k. absurd (true≢false (sym k.0 ∙ n))) (λ k. k.1) (bits p)

      is-written : taking.wrote ≡ Some (bit_xor expects mask)
      is-written = ap {B = Option ℕ} (λ b. if b then Some (bit_xor expects mask) else None) (eq-eqb found expects hit)

      may-take : Fits → MayMove (kept_of old r.history s.views) (Taken (in_mask g mask))
      may-take fit p t =
          let set = (was-set p t).0 in
          (set, logical-page p (r.spares p set) (fit.free p set).1)

      pub numbers-taken : LetsNumbersMove → 0 < length v.used → Left (bit_xor expects mask)
          → Ruled stored keeps tied start tells
          (became stored keeps tied start tells s
          (slice_set s.words (index_of start (places.Spare g)) (bit_xor expects mask)) id taker) × TakeNumbersTold g
          expects mask found v taker
      numbers-taken law number left =
          let k = number-moves g (bit_xor expects mask) (numbered_view g mask v).numbers v.freed
          (λ b f. if (b == id) && in_mask g mask f then true else numbers_held s.views b f) taking
          (PTake id g expects mask) number (record {
            actor = refl;
            legal = record {
              names = record { actor = at-bound s.views id v there; word = omega (arith, within) };
              some = some'';
              among = among;
            };
            inside = within;
            found = refl;
            wrote = subst (λ o. IsFoundAt o (index_of start (places.Spare g))
                (slice_set s.words (index_of start (places.Spare g)) (bit_xor expects mask))) (sym is-written)
                left.wrote;
            left = sym (ap (λ o. set_if o (index_of start (places.Spare g)) s.words) is-written);
            wide = left.wide;
            spelled = left.spelled;
            world = take_numbers-step stored start s r.releases r.drafts id v taker g expects mask r.wide.0 within
                there refl refl refl refl (numbers-with g mask v.numbers) finds
                ∙ rw (eq-eqb (c.spares g) expects finds) refl;
            event = rw (eq-eqb (c.spares g) expects finds) refl;
            fit = λ t. take_keeps (has_free_bit c.spares) c.next last_words logical_words (map hands_of s.views) id
                (hands_of v) (hands-there s.views id v there) (r.numbers t)
                (has_free_bit (upd c.spares g (bit_xor expects mask))) (in_mask g mask) (frames_in g mask) was-set
                still (has-frames_in g mask);
            owner = λ t kept. subst (keeps (began_of start))
                (λ i. record (kept_of old r.history s.views) {
                  free = fun_ext {f = λ p. if in_mask g mask p then false else has_free_bit c.spares p}
                      {g = has_free_bit (upd c.spares g (bit_xor expects mask))}
                      (λ p. ⊎_elim (λ y. ap (λ b. if b then false else has_free_bit c.spares p) y
                      ∙ sym (was-set p y).1) (λ n. ap (λ b. if b then false else has_free_bit c.spares p) n
                      ∙ sym (still p n)) (cases_Bool (in_mask g mask p))) i;
                  held = fun_ext (λ p. sym
                      (any-gains (λ y. has p y.numbers) s.views id v taker (in_mask g mask p) there
                      (numbers-with g mask v.numbers p))) i;
                  freed = fun_ext (λ p. sym (any-same (λ y. has p y.freed) s.views id v taker there refl)) i;
                })
                (law (kept_of old r.history s.views) (Taken (in_mask g mask)) kept (may-take (r.numbers t)));
          }) in (
            k.0,
            record {
              brings = subst (λ (y : View X). Brings taking [] [] v y taker)
                  (sym (ap (λ b. if b then numbered_view g mask v else v) (eq-eqb found expects hit))) k.1;
              inside = λ _ p y. subst (λ (o : Origin). p < o.pages) (sym (r.heard id v there live).same_start) (r.spares p (was-set p y).0);
              new = λ t _ p y. let fit = r.numbers (sym (ap (λ (o : Origin). o.tells) (r.heard id v there live).same_start) ∙ t) in
                  let none = λ (mine : (has p v.numbers ≡ true) ⊎ (has p v.freed ≡ true)).
                  true≢false (sym (was-set p y).0 ∙ not-set fit p mine) in (
                    ⊎_elim (λ mine. absurd (none (inl mine))) (λ n. n) (cases_Bool (has p v.numbers)),
                    ⊎_elim (λ mine. absurd (none (inr mine))) (λ n. n) (cases_Bool (has p v.freed)),
                  );
              members = λ t _ p y member.
                  let fit = r.numbers (sym (ap (λ (o : Origin). o.tells) (r.heard id v there live).same_start) ∙ t) in
                  let k = member-words p member in
                  (k.0, ap all_zero (sym k.1) ∙ (fit.free p (was-set p y).0).1);
              zero = λ t _ p y locking.
                  let fit = r.numbers (sym (ap (λ (o : Origin). o.tells) (r.heard id v there live).same_start) ∙ t) in
                  ap (λ (x : Version). all_zero x.words) ((r.known id v there live).latest p locking) ∙ (fit.free p (was-set p y).0).0;
            },
          )

    -- numbers are given that the pass holds, or of pages that it freed
    module _ (mask : ℕ) (some'' : mask ≢ 0) (inside : (p : ℕ) → in_mask g mask p ≡ true → p < start.pages)
        (mine : start.tells ≡ true → (p : ℕ) → in_mask g mask p ≡ true → IsGivenBy v p) where
      abbrev giving : Did
      giving = did_change (places.Spare g) found (bit_or found mask)

      abbrev giver : View X
      giver = after_step stored keeps tied start tells s r
          (slice_set s.words (index_of start (places.Spare g)) (bit_or found mask)) [] [] giving
          (unnumbered_view g mask v)

      is-or : bit_or found mask ≡ bit_or (c.spares g) mask
      is-or = ap (λ n. bit_or n mask) (sym (spare-here stored start s g within))

      given : (p : ℕ) → ((in_mask g mask p ≡ true) × (has_free_bit (upd c.spares g (bit_or found mask)) p ≡ true))
          ⊎ ((in_mask g mask p ≡ false)
          × (has_free_bit (upd c.spares g (bit_or found mask)) p ≡ has_free_bit c.spares p))
      given p = subst (λ n. ((in_mask g mask p ≡ true) × (has_free_bit (upd c.spares g n) p ≡ true))
          ⊎ ((in_mask g mask p ≡ false) × (has_free_bit (upd c.spares g n) p ≡ has_free_bit c.spares p))) (sym is-or)
          (given-free c.spares g mask p)

      now-set : (p : ℕ) → in_mask g mask p ≡ true → has_free_bit (upd c.spares g (bit_or found mask)) p ≡ true
      now-set p t = ⊎_elim (λ k. k.1) (λ k. absurd (true≢false (sym t ∙ k.0))) (given p)

      as-before : (p : ℕ) → in_mask g mask p ≡ false
          → has_free_bit (upd c.spares g (bit_or found mask)) p ≡ has_free_bit c.spares p
      as-before p n = ⊎_elim (λ k. absurd (true≢false (sym k.0 ∙ n))) (λ k. k.1) (given p)

      -- so its page, where it is a member still to be released, has logical words of zeros
      givable : start.tells ≡ true → (p : ℕ) → in_mask g mask p ≡ true
          → ((has p v.numbers ≡ true) ⊎ (has p v.freed ≡ true)) × IsGivable (hands_of v) (logical_words p) p
      givable t p y =
          let ok = mine t p y in (
            ok.0,
            ⊎_elim
                (λ member. inr (⊎_elim (λ none. absurd (true≢false (sym member ∙ none)))
                (λ k. (k.0, ap all_zero (member-words p member).1 ∙ k.1)) ok.1))
                (λ none. inl none)
                (cases_Bool (has p v.pending)),
          )

      zero-words : start.tells ≡ true → (p : ℕ) → in_mask g mask p ≡ true → all_zero (logical_words p) ≡ true
      zero-words t p y =
          let fit = r.numbers t in
          let hands = hands-there s.views id v there in
          let ok = givable t p y in
          ⊎_elim (λ none. ⊎_elim (λ n. (fit.held id (hands_of v) hands p n).1 none)
          (λ n. (fit.freed id (hands_of v) hands p n).0) ok.0) (λ k. k.1) ok.1

      may-give : (t : start.tells ≡ true) → MayMove (kept_of old r.history s.views) (Given (in_mask g mask))
      may-give t p y =
          let ok = mine t p y in (
            ⊎_elim (λ n. inl (any-here (λ (z : View X). has p z.numbers) s.views id v there n))
                (λ n. inr (any-here (λ (z : View X). has p z.freed) s.views id v there n)) ok.0,
            logical-page p (inside p y) (zero-words t p y),
          )

      others : start.tells ≡ true → (b p : ℕ) → b ≢ id → in_mask g mask p ≡ true → numbers_held s.views b p ≡ false
      unfolding at
      others t b p ne y = by-views s.views b (λ u on. not-numbered (r.numbers t) p (mine t p y).0 b u ne on)
        where
          by-views : (views : List (View X)) (b : ℕ)
              → ((u : View X) → get_elem? views b ≡ some u → has p u.numbers ≡ false)
              → has p (at spent views b).numbers ≡ false
          by-views [] b f = refl
          by-views (u ∷ us) zero f = f u refl
          by-views (u ∷ us) (suc b) f = by-views us b f

      pub may-be-given : Legal c (PGive id g mask)
      may-be-given = record {
        names = record { actor = at-bound s.views id v there; word = omega (arith, within) };
        some = some'';
        inside = inside;
        unset = λ t p y. not-set (r.numbers t) p (mine t p y).0;
        unheld = others;
      }

      pub numbers-given : mask < 2 ^ 64 → LetsNumbersMove → 0 < length v.used → Left (bit_or found mask)
          → Ruled stored keeps tied start tells
          (became stored keeps tied start tells s
          (slice_set s.words (index_of start (places.Spare g)) (bit_or found mask)) id giver) × GiveNumbersTold g mask
          found v giver
      numbers-given small law number left =
          let k = number-moves g (bit_or found mask) (unnumbered_view g mask v).numbers
          (unnumbered_view g mask v).freed
          (λ b f. if (b == id) && in_mask g mask f then false else numbers_held s.views b f) giving
          (PGive id g mask) number (record {
            actor = refl;
            legal = may-be-given;
            inside = within;
            found = refl;
            wrote = left.wrote;
            left = refl;
            wide = left.wide;
            spelled = left.spelled;
            world = give_numbers-step stored start s r.releases r.drafts id v giver g mask (bit_or found mask)
                r.wide.0 within there refl refl refl refl (numbers-without g mask v.numbers) is-or
                ∙ (λ i. record old {
                  core = record c {
                    spares = upd c.spares g (sym is-or i);
                    numbers = λ b f. if (b == id) && in_mask g mask f then false else numbers_held s.views b f;
                  };
                });
            event = λ i. record old {
              core = record c {
                spares = upd c.spares g (is-or i);
                numbers = λ b f. if (b == id) && in_mask g mask f then false else numbers_held s.views b f;
              };
            };
            fit = λ t. give_keeps (has_free_bit c.spares) c.next last_words logical_words (map hands_of s.views) id
                (hands_of v) (hands-there s.views id v there) (r.numbers t)
                (has_free_bit (upd c.spares g (bit_or found mask))) (in_mask g mask)
                (unnumbered_view g mask v).numbers (unnumbered_view g mask v).freed now-set as-before (givable t)
                (numbers-without g mask v.numbers) (numbers-without g mask v.freed);
            owner = λ t kept. subst (keeps (began_of start))
                (λ i. record (kept_of old r.history s.views) {
                  free = fun_ext {f = λ p. if in_mask g mask p then true else has_free_bit c.spares p}
                      {g = has_free_bit (upd c.spares g (bit_or found mask))}
                      (λ p. ⊎_elim (λ y. ap (λ b. if b then true else has_free_bit c.spares p) y ∙ sym (now-set p y))
                      (λ n. ap (λ b. if b then true else has_free_bit c.spares p) n ∙ sym (as-before p n))
                      (cases_Bool (in_mask g mask p))) i;
                  held = fun_ext (λ p. sym
                      (any-loses (λ y. has p y.numbers) s.views id v giver (in_mask g mask p) there
                      (numbers-without g mask v.numbers p) (λ y. not-numbered (r.numbers t) p (mine t p y).0))) i;
                  freed = fun_ext (λ p. sym
                      (any-loses (λ y. has p y.freed) s.views id v giver (in_mask g mask p) there
                      (numbers-without g mask v.freed p) (λ y. not-freed (r.numbers t) p (mine t p y).0))) i;
                })
                (law (kept_of old r.history s.views) (Given (in_mask g mask)) kept (may-give t));
          }) in (
            k.0,
            record {
              brings = k.1;
              unset = λ t. let tells' = sym (ap (λ (o : Origin). o.tells) (r.heard id v there live).same_start) ∙ t in
                  ap (λ n. bit_and n mask) (sym (spare-here stored start s g within)) ∙ unset-bits c.spares g mask
                  small (λ p y. not-set (r.numbers tells') p (mine tells' p y).0);
            },
          )
