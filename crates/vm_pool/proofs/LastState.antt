-- The last state of a table that was closed with a pass that has all parts and holds no page: every block is at home, and the words and
-- blocks are those of the pass's snapshot. The blocks are taken out of their slots one after another.
use mathlib.Core.Option as maybe
use Rattle.vm_rule.specs.declared.view.WordPlace.TheVariants as places
use Rattle.vm_rule.specs.Prelude.{spread}
use Rattle.vm_pool.proofs.Prelude.{[], all-seen, ap, arith, at, at-any, at-bound, at-listed, at-map, at-there}
use Rattle.vm_pool.proofs.Prelude.{at_home, at_index, began_of, begun-ruled, block_in, block_of, Bool, bounds_of}
use Rattle.vm_pool.proofs.Prelude.{bundles_of, cases_eq, clean-of, common_steps, core_shown, EVICTED, false, Filled}
use Rattle.vm_pool.proofs.Prelude.{Final, found-below, get_elem?, get_or, get_or-set_other, HasShape, HasStepped}
use Rattle.vm_pool.proofs.Prelude.{HoldsNoPage, if◌then◌else◌, index_of, IsClosed, IsSome, IsStored, IsWhole, Kept}
use Rattle.vm_pool.proofs.Prelude.{kept_by, known, last_of, length, length-listed, length-mapped, List, listed}
use Rattle.vm_pool.proofs.Prelude.{listed-long, listed-same, LOCKED, lt-ltb, map, map-append, mapping_in, no_block}
use Rattle.vm_pool.proofs.Prelude.{None, notes-stand, NotesStand, Option, Origin, others-have-nothing, Out, out_of}
use Rattle.vm_pool.proofs.Prelude.{out_or, pages_from, PageStands, refl, Ruled, seat_of, Seen, slice_set, TableShape}
use Rattle.vm_pool.proofs.Prelude.{Snapshot, snapshot_of, Some, some, some-injective, Stands, stands-known, Start}
use Rattle.vm_pool.proofs.Prelude.{state_in, Stored, subst, suc, sym, Table, table-known, table_words, take, take-suc}
use Rattle.vm_pool.proofs.Prelude.{true, true≢false, version-below, version_in, version_of, View, what-is-kept}
use Rattle.vm_pool.proofs.Prelude.{without-locks, world_of, zero, ℕ, ⊎_elim, ◌*◌, ◌++◌, ◌+◌, ◌<◌, ◌∙◌, ◌∷◌, ◌≡◌, ◌≢◌}
use Rattle.vm_pool.proofs.Prelude.{◌≤◌}

module _ {B : Type 0} where
  -- one block more
  pub taken-more : (before after : List B) (block : B) (pushed : Bool) (xs : List (Option B)) (p q : ℕ) → q ≡ suc p
      → map Some before ≡ take p xs → get_elem? xs p ≡ some (Some block)
      → after ≡ (if pushed then before ++ block ∷ [] else before) → pushed ≡ true → map Some after ≡ take q xs
  unfolding at
  taken-more before after block pushed xs p q next was here grown done =
      ap (map Some) (grown ∙ ap (λ y. if y then before ++ block ∷ [] else before) done)
      ∙ map-append Some before (block ∷ [])
      ∙ ap (λ (l : List (Option B)). l ++ Some block ∷ []) was
      ∙ ap (λ (o : Option B). take p xs ++ o ∷ []) (sym (at-there (Some block) xs p (Some block) here))
      ∙ sym (ap (λ k. take k xs) next ∙ take-suc xs p (Some block) (at-bound xs p (Some block) here))

  none-at : (items : List B) (k : ℕ) → get_elem? (map Some items) k ≡ some None → ⊥
  none-at [] k e = absurd (maybe.some-ne-none None (sym e))
  none-at (x ∷ xs) zero e = let bad : Some x ≡ None = some-injective (Some x) None e in cc
  none-at (x ∷ xs) (suc k) e = none-at xs k e

  -- no slot is empty
  pub never-none : (xs : List (Option B)) → (items : List B) × (map Some items ≡ xs) → (k : ℕ) (slot : Option B)
      → get_elem? xs k ≡ some slot → slot ≡ None → ⊥
  never-none xs home k slot e none = none-at home.0 k (ap (λ l. get_elem? l k) home.1 ∙ e ∙ ap some none)

  -- where each slot has a block, these are the blocks
  pub all-home : (xs : List (Option B)) → ((k : ℕ) → k < length xs → (b : B) × (get_elem? xs k ≡ some (Some b)))
      → (items : List B) × (map Some items ≡ xs)
  all-home [] each = ([], refl)
  all-home (x ∷ xs) each =
      let b = each 0 (omega arith) in
      let rest = all-home xs (λ k l. each (suc k) (omega arith)) in
      (b.0 ∷ rest.0, λ i. sym (some-injective x (Some b.0) b.1) i ∷ rest.1 i)

-- the place p is emptied
pub filled-next : (fs : List Bool) (p n : ℕ) → Filled fs p n → Filled (slice_set fs p false) (p + 1) n
filled-next fs p n full k le l = get_or-set_other fs p k false false (λ e. omega arith) ∙ full k (omega arith) l

pub emptied-next : (fs : List Bool) (p : ℕ) → ((k : ℕ) → k < p → get_or fs k false ≡ false) → (k : ℕ) → k < p + 1
    → get_or (slice_set fs p false) k false ≡ false
emptied-next fs p before k l = grind (arith, common_steps, before k)

-- ---- lists

there-at : {A : Type 0} (d : A) (l : List A) (i : ℕ) → i < length l → get_elem? l i ≡ some (at d l i)
unfolding at
there-at d l i inside = at_index l i (at d l i) inside (at-any d (at d l i) l i inside)

-- two lists of one length that agree at each place
same-lists : {A : Type 0} (d : A) (xs ys : List A) (n : ℕ) → length xs ≡ n → length ys ≡ n
    → ((p : ℕ) → p < n → at d xs p ≡ at d ys p) → xs ≡ ys
same-lists d xs ys n a b each = sym (listed-long d n xs a) ∙ listed-same n (at d xs) (at d ys) each ∙ listed-long d n ys b

-- the block in a slot
at-slot : {B : Type 0} (stored : B → Stored) (items : List B) (k : ℕ) (b : B)
    → get_elem? (map Some items) k ≡ some (Some b) → at no_block (map stored items) k ≡ stored b
unfolding at
at-slot stored [] k b e = absurd (maybe.some-ne-none (Some b) (sym e))
at-slot stored (x ∷ xs) zero b e = let same : Some x ≡ Some b = some-injective (Some x) (Some b) e in ap stored cc
at-slot stored (x ∷ xs) (suc k) b e = at-slot stored xs k b e

-- a slot that is at home with a block in it
home-some : {B : Type 0} (h : maybe.Option (Option B)) → IsSome (at_home h) → (b : B) × (h ≡ some (Some b)) × (at_home h ≡ Some b)
home-some maybe.none is = absurd (true≢false (sym is))
home-some (maybe.some None) is = absurd (true≢false (sym is))
home-some (maybe.some (Some b)) is = (b, refl, refl)

-- the version of a page of the table is its state word's
version-there : {X B : Type 0} (stored : B → Stored) (start : Origin) (s : Table (Option B) (View X)) (p : ℕ)
    → p < start.pages → ((core_shown stored start s).pages p).version ≡ version_of
    ((table_words start s.words).states p)
unfolding pages_from
version-there stored start s p l = rw (lt-ltb p start.pages l) refl

-- ---- no block is out

module _ {X : Type 0} where
  none-out : (views : List (View X)) → ((j : ℕ) (u : View X) → get_elem? views j ≡ some u → u.out ≡ None) → (p : ℕ) → out_of views p ≡ None
  none-out [] none p = refl
  none-out (v ∷ vs) none p = ap (λ (o : Option Out). out_or o p (out_of vs p)) (none 0 v refl) ∙ none-out vs (λ j u e. none (suc j) u e) p

module _ {X B : Type 0} (stored : B → Stored) (keeps : Start → Kept X → Type 0)
    (tied : Start → ℕ → List ℕ → ℕ → List ℕ → Type 0) (start : Origin) (tells : Bool) (s : Table (Option B) (View X))
    (r : Ruled stored keeps tied start tells s)
    (id : ℕ) (v : View X) (stepped : HasStepped s.views id v) (holds : HoldsNoPage v) where
  nothing-out : (p : ℕ) → out_of s.views p ≡ None
  nothing-out =
      none-out s.views
      (λ j u there. ⊎_elim
      (λ (e : j ≡ id). ap (λ (y : View X). y.out)
      (some-injective u v (sym there ∙ ap (get_elem? s.views) e ∙ stepped.pass.there)) ∙ holds.out)
      (λ ne. (others-have-nothing stored keeps tied start tells s r id v stepped.pass j u ne there).holds.out)
      (cases_eq j id))

  -- each block is at home
  home-at : (p : ℕ) → p < start.pages → (b : B) × (get_elem? s.homes p ≡ some (some (Some b)))
      × (block_of stored s.homes s.views p ≡ stored b)
  unfolding block_of
  home-at p l =
      let long : length s.homes ≡ start.pages = r.wide.1 in
      let h = home-some (at maybe.none s.homes p) (r.blocks.home p l (nothing-out p)) in
      (h.0, there-at maybe.none s.homes p (omega arith) ∙ ap some h.1, ap (λ (o : Option B). known stored o (out_of s.views p)) h.2)

-- ---- the last state

module _ {X B : Type 0} (stored : B → Stored) (keeps : Start → Kept X → Type 0)
    (tied : Start → ℕ → List ℕ → ℕ → List ℕ → Type 0) (shape : TableShape) (tells : Bool) (id : ℕ) (v : View X)
    (live : v.live ≡ true) (whole : IsWhole v) (current : v.current ≡ true) (holds : HoldsNoPage v)
    (ws : List ℕ) (xs : List (Option B)) (last : Final (Seen (Stands stored keeps tied shape tells) id v) ws xs)
    (alone : shape.began.origin.groups ≡ []) where
  abbrev s : Table (Option B) (View X)
  s = last.0

  abbrev start : Origin
  start = shape.began.origin

  is-ruled : HasShape shape start × Ruled stored keeps tied start tells s
  is-ruled =
      subst (λ (gs : List (ℕ × ℕ)). HasShape shape start × Ruled stored keeps tied start tells (record s { words = spread gs s.words }))
      alone (begun-ruled stored keeps tied shape tells s last.1.0 id v last.1.1 live)

  abbrev rule : Ruled stored keeps tied start tells s
  rule = is-ruled.1

  stepped : HasStepped s.views id v
  stepped = record { pass = record { there = last.1.1; whole = whole }; current = current }

  pub same-start : v.start ≡ start
  same-start = (table-known stored keeps tied start tells s rule id v stepped).start_known

  same-snapshot : v.snapshot ≡ snapshot_of stored start s
  same-snapshot = (rule.parts.whole id v last.1.1 live whole current).2

  slots-long : length xs ≡ start.pages
  slots-long = sym last.3 ∙ rule.wide.1

  -- the slots have their blocks
  pub slots-home : (items : List B) × (map Some items ≡ xs)
  slots-home =
      all-home xs
      (λ k l. let long : length xs ≡ start.pages = slots-long in
      let h = home-at stored keeps tied start tells s rule id v stepped holds k (omega arith) in
      (h.0, last.4 k (Some h.0) h.1))

  -- the next word
  next-there : (size pages frames : ℕ) → size ≡ shape.size → pages ≡ shape.pages → frames ≡ shape.frames
      → at 0 ws (3 * pages + size * frames + bundles_of frames) ≡ (table_words start s.words).next
  next-there size pages frames z p f =
      (λ i. at 0 ws (3 * (p ∙ sym is-ruled.0.pages) i + (z ∙ sym is-ruled.0.size) i * (f ∙ sym is-ruled.0.frames)
      i + bundles_of ((f ∙ sym is-ruled.0.frames) i)))
      ∙ sym (ap (λ l. at 0 l (index_of start places.Next)) last.2)

  -- it is at most the number of pages
  pub next-small : (size pages frames : ℕ) → size ≡ shape.size → pages ≡ shape.pages → frames ≡ shape.frames
      → pages ≤ 65536 → at 0 ws (3 * pages + size * frames + bundles_of frames) ≤ 65536
  next-small size pages frames z p f few =
      let here : at 0 ws (3 * pages + size * frames + bundles_of frames) ≡ (table_words start s.words).next =
      next-there size pages frames z p f in
      let low : (table_words start s.words).next ≤ start.pages = rule.inv.next in
      let same : start.pages ≡ shape.pages = is-ruled.0.pages in
      omega arith

  module _ (items : List B) (are : map Some items ≡ xs) where
    abbrev blocks : List Stored
    blocks = map stored items

    blocks-long : length blocks ≡ start.pages
    blocks-long = length-mapped stored items ∙ sym (length-mapped Some items) ∙ ap length are ∙ slots-long

    -- each is the block that the last state has
    item-at : (p : ℕ) → p < start.pages → at no_block blocks p ≡ block_of stored s.homes s.views p
    item-at p l =
        let h = home-at stored keeps tied start tells s rule id v stepped holds p l in
        at-slot stored items p h.0 (ap (λ k. get_elem? k p) are ∙ last.4 p (Some h.0) h.1) ∙ sym h.2

    all-shown : blocks ≡ v.snapshot.blocks
    all-shown =
        same-lists no_block blocks (listed start.pages (block_of stored s.homes s.views)) start.pages blocks-long
        (length-listed start.pages (block_of stored s.homes s.views))
        (λ p l. item-at p l ∙ sym (at-listed no_block start.pages (block_of stored s.homes s.views) p l))
        ∙ sym (ap (λ (n : Snapshot). n.blocks) same-snapshot)

    all-bounds : bounds_of blocks ≡ start.bounds
    all-bounds =
        same-lists 0 (bounds_of blocks) start.bounds start.pages (length-mapped (λ (b : Stored). b.bound) blocks ∙ blocks-long) rule.sized.1
        (λ p l. let long : length blocks ≡ start.pages = blocks-long in
        at-map (λ (b : Stored). b.bound) 0 no_block blocks p (omega arith) ∙ ap (λ (b : Stored). b.bound)
        (item-at p l) ∙ rule.blocks.bounds p l)

    page-stands : (p : ℕ) → p < v.start.pages → PageStands v.start v.releases v.snapshot (seat_of v p) p
    page-stands p l =
        let many : v.start.pages ≡ start.pages = ap (λ (o : Origin). o.pages) same-start in
        subst (λ (o : Origin). PageStands o v.releases v.snapshot (seat_of v p) p) (sym same-start)
        (stands-known stored keeps tied start tells s rule id v stepped p (omega arith))

    -- the block of a page that is evicted, or not dirty, has its last words: nobody has locked the page
    words-stored : v.start.tells ≡ true → (p : ℕ) → p < v.start.pages → IsStored v p → (block_in v.snapshot p).words ≡ (last_of v p).words
    words-stored t p l is =
        let page = page-stands p l in
        let free : state_in v.start v.snapshot p ≢ LOCKED = page.unlocked (holds.exclusive p) in
        ⊎_elim
        (λ (gone : state_in v.start v.snapshot p ≡ EVICTED). page.device t gone)
        (λ here.
        let in_frame = clean-of (mapping_in v.start v.snapshot p) (page.resident free here)
        (⊎_elim (λ gone. absurd (here gone)) (λ clean. clean) is) in
        page.clean t free _ in_frame.1 refl)
        (cases_eq (state_in v.start v.snapshot p) EVICTED)

    notes : NotesStand v.snapshot v.notes
    notes = notes-stand stored keeps tied start tells s rule id v stepped

    none-left : (v.pending ≡ []) × (v.owed ≡ [])
    none-left = without-locks stored keeps tied start tells s rule id v last.1.1 live holds.exclusive

    pub closes : (size pages frames next : ℕ) → size ≡ shape.size → pages ≡ shape.pages → frames ≡ shape.frames
        → next ≡ at 0 ws (3 * pages + size * frames + bundles_of frames) → IsClosed tells keeps v blocks next
    closes size pages frames next z p f n =
        record {
          count = blocks-long ∙ sym (ap (λ (o : Origin). o.pages) same-start);
          shown = all-shown;
          bounds = all-bounds ∙ sym (ap (λ (o : Origin). o.bounds) same-start);
          faults = λ q l. ap (λ k. (at no_block k q).count) all-shown ∙ sym ((page-stands q l).fault (holds.exclusive q) (holds.writing q));
          noted = λ q count some. subst (λ (k : List Stored). (1 ≤ count) × (count ≤ (at no_block k q).count))
              (sym all-shown) (notes.noted q count some);
          once = notes.once;
          words = λ t q l is. ap (λ k. (at no_block k q).words) all-shown
              ∙ words-stored (ap (λ (o : Origin). o.tells) same-start ∙ rule.telling ∙ t) q l is;
          next_is = n ∙ next-there size pages frames z p f
              ∙ (λ i. (table_words (sym same-start i) (sym (ap (λ (y : Snapshot). y.words) same-snapshot) i)).next);
          released = none-left.0;
          paid = none-left.1;
          kept = λ t. subst (λ (o : Origin). keeps (began_of o) (kept_by v)) (sym same-start)
              (what-is-kept stored keeps tied start tells s rule id v stepped none-left.0 (rule.telling ∙ t));
          own = (let h = all-seen stored keeps tied start tells s rule id v stepped.pass in h.1 ∙ sym h.0);
          found = λ x h. let most : x ≤ (table_words start s.words).next =
              found-below (world_of stored start rule.releases rule.drafts s) v.log x
              (rule.known id v last.1.1 live).words h in
              subst (λ k. x ≤ k) (sym (n ∙ next-there size pages frames z p f)) most;
          versions = λ q word l h.
              let inside : q < start.pages = subst (λ (o : Origin). q < o.pages) same-start l in
              let most : version_of word ≤ ((world_of stored start rule.releases rule.drafts s).core.pages
              q).version = version-below (world_of stored start rule.releases rule.drafts s) v.log q word
              (rule.known id v last.1.1 live).words h in
              let there : ((world_of stored start rule.releases rule.drafts s).core.pages q).version ≡ version_of
              ((table_words start s.words).states q) = version-there stored start s q inside in
              let stands : version_of ((table_words start s.words).states q) ≡ version_in v.start v.snapshot q =
              (λ i. version_of ((table_words (sym same-start i)
              (sym (ap (λ (y : Snapshot). y.words) same-snapshot) i)).states q)) in
              let is : version_in v.start v.snapshot q ≡ (last_of v q).version = (page-stands q l).version in
              omega arith;
        }
