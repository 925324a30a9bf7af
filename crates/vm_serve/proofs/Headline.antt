-- What serving comes to, from what was driven, what was flushed and what was closed.
use Rattle.std.proofs.Common.{[], ⊎_elim, ◌++◌, ◌+◌, ◌-◌, ◌<◌, ◌==◌, ◌∙◌, ◌∷◌, ◌≡◌, ◌≤◌, ◌⊎◌, ap, arith, Bool, false}
use Rattle.std.proofs.Common.{inl, inr, length, List, map, None, refl, replicate, Result, slice_index}
use Rattle.std.proofs.Common.{Some, subst, suc, sym, true, true≢false, zero, ℕ}
use Rattle.std.specs.List.{Contains}
use Rattle.std.proofs.lemmas.Bool.{cases_lt, eqb-true, ne_eqb, or_cases}
use Rattle.vm_map.specs.{declared.call.Said.Said, History.after_all}
use Rattle.vm_tree_model.specs.{Fixed.fixed, Layout.IsLayout, Layout.Layout, Page.IsFree, Tree.IsTree, Tree.map_of}
use Rattle.vm_tree_model.proofs.WordTests.{all_zero-from}
use Rattle.vm_image.specs.{declared.blocks.PlannedFault.PlannedFault, File.AreFreePages, File.IsNextPage}
use Rattle.vm_image.specs.Blocks.{AreBlocksOf, pages_of_blocks}
use Rattle.vm_event.specs.Prelude.{at, MAX_COUNT, MAX_VERSION, page_at}
use Rattle.vm_rule.specs.Prelude.{AreClaimed, began_of, block_words, bounds_of, Entry, has, last_of, listed}
use Rattle.vm_rule.specs.Prelude.{IsStarted, MayBegin, MemBlock, no_block, numbers, started_origin, started_shape}
use Rattle.vm_rule.specs.Prelude.{Stored, stored_of, unborn, words_of}
use Rattle.vm_rule.specs.{Begun.begun, Started.contents_of}
use Rattle.vm_rule.proofs.ListFacts.{at-map, length-mapped, listed-long}
use Rattle.vm_rule.proofs.Parts.{listed-same}
use Rattle.vm_rule_laws.specs.Known.{kept_by}
use Rattle.vm_rule_laws.proofs.Knowing.{owes-nothing}
use Rattle.vm_drive.specs.from_vm_step.Prelude.{Note, Origin, View}
use Rattle.vm_drive.specs.from_vm_evict.declared_flushing_Flushed.{Flushed}
use Rattle.vm_drive.specs.from_vm_evict.Flushes.{first_noted, HasNoLock, IsFlushed, noted_pages, RisesFrom}
use Rattle.vm_drive.specs.from_vm_pool.Closing.{AreSums, IsClosed, IsStored, view_at_end}
use Rattle.vm_drive.specs.from_vm_pool.declared_ended_Ended.{Ended}
use Rattle.vm_tree_laws.specs.{History.IsLegal, History.saids, Keeps.KeepsTree, Plain.KeepsPlain, Plain.plain_kept}
use Rattle.vm_tree_laws.proofs.Starts.{start_keeps}
use Rattle.vm_drive.specs.from_vm_tree_rule.declared_fault_TreeFault.{TreeFault}
use Rattle.vm_drive.specs.Prelude.{IsUntold, notes_about}
use Rattle.vm_drive.specs.{Drives.IsAtLastVersion, Drives.IsDriven, Holds.HoldsCalls, Lists.all_faults_of, Lists.AllShown}
use Rattle.vm_drive.specs.Parts.{logs_of, noted_by}
use Rattle.vm_drive.proofs.Prelude.{FoundFull, FoundWorn, notes-both}
use Rattle.vm_drive.proofs.Prelude.{found-later, max-later}
use Rattle.vm_drive.proofs.Tracing.{lists-caused, used-up, worn-out}
use Rattle.vm_drive.proofs.{Parted.parts-later, Parted.traced, Parts.behind-in, Showing.all-shown-more}
use Rattle.vm_serve.specs.Served.{is_first, IsFilled, IsServedAs, MayServeOn}
use Rattle.vm_serve.specs.Serving.{IsServing, Serving}
use Rattle.vm_serve.proofs.Counting.{few-notes}

-- where blocks tell, their words are the start's
contents-held : (size : ℕ) (tells : Bool) (blocks : List Stored) → tells ≡ true → contents_of size tells blocks ≡ block_words blocks
contents-held size tells blocks t = subst (λ (told : Bool). contents_of size told blocks ≡ block_words blocks) (sym t) refl

-- the words that blocks in memory hold
pub words-held : {size : ℕ} (blocks : List (MemBlock size)) → block_words (map stored_of blocks) ≡ pages_of_blocks blocks
words-held [] = refl
words-held (b ∷ bs) = ap (λ (l : List (List ℕ)). words_of b ∷ l) (words-held bs)

all-zero : (n : ℕ) (ws : List ℕ) → length ws ≡ n → ((i : ℕ) → slice_index ws i ≡ 0) → ws ≡ replicate n 0
all-zero zero [] e z = refl
all-zero zero (x ∷ xs) e z = absurd (omega arith)
all-zero (suc n) [] e z = absurd (omega arith)
all-zero (suc n) (x ∷ xs) e z =
    let first : x ≡ 0 = z 0 in let rest : xs ≡ replicate n 0 = all-zero n xs (omega arith) (λ i. z (suc i)) in cc

-- a number that is in a list stands in it
there : (p : ℕ) (free : List ℕ) → has p free ≡ true → Contains free p
there p [] is = absurd (true≢false (sym is))
there p (q ∷ free) is = elim (or_cases (p == q) (has p free) is) [
  | inl same ↦ (0, omega arith, sym (eqb-true p q same))
  | inr later ↦ let (k, inside, at) = there p free later in (suc k, omega (arith, inside), at)
]

-- the numbers of free pages are of pages below the next one
pub claimed-free : (size : ℕ) (pages : List (List ℕ)) (next : ℕ) (free : List ℕ) → AreFreePages size pages next free → AreClaimed next free
claimed-free size pages next free spare p is = (spare.each p (there p free is)).1

-- pages without a meaning are the same in any layout of so many words
free-in : (L : Layout) (words : List ℕ) → IsFree (fixed L.words) words → IsFree L words
free-in L words f = record { length = f.length; zero = f.zero }

module _ {S : Type 0} (plain : S → Said) (L : Layout) (laws : IsLayout L) where
  -- the tree may begin with pages that are one, and with numbers of free pages
  begins-with : (next : ℕ) (free : List ℕ) (pages : List (List ℕ)) → IsTree L pages → IsNextPage L.words pages next
      → ((p : ℕ) → has p free ≡ true → IsFree (fixed L.words) (page_at pages p)) → MayBegin (KeepsPlain plain L) next free pages
  begins-with next free pages tree after spare = record {
    zero = λ p l m. let f = after.free p l m in all-zero (length (page_at pages p)) (page_at pages p) refl f.zero;
    spare = λ p e. let f = spare p e in all_zero-from (page_at pages p) f.zero;
    kept = start_keeps L laws (record { pages = pages; next = next; free = free }) tree after.within;
  }

  -- so it may with what blocks hold on which calls may be served, where they tell
  pub begins-held : (tells : Bool) (pages : List (List ℕ)) (blocks : List Stored) (next : ℕ) (free : List ℕ)
      → MayServeOn L tells pages blocks next free → tells ≡ true → MayBegin (KeepsPlain plain L) next free (block_words blocks)
  begins-held tells pages blocks next free may t =
      subst (λ (l : List (List ℕ)). MayBegin (KeepsPlain plain L) next free l) (sym (may.held t))
      (begins-with next free pages may.tree may.next_page (λ p is. (may.free_pages.each p (there p free is)).2))

  -- so it may with the pages of an image that is one, and with no number
  pub begins : (pages : List (List ℕ)) (plan : List PlannedFault) (next : ℕ) (blocks : List (MemBlock L.words))
      → IsTree L pages → IsNextPage L.words pages next → AreBlocksOf pages plan blocks
      → MayBegin (KeepsPlain plain L) next [] (block_words (map stored_of blocks))
  begins pages plan next blocks tree after held =
      subst (λ (l : List (List ℕ)). MayBegin (KeepsPlain plain L) next [] l) (sym (words-held blocks ∙ held.held))
      (begins-with next [] pages tree after (λ p e. absurd (true≢false (sym e))))

-- the numbers that a pool over such blocks is started with fit
pub has-started : (L : Layout) (tells : Bool) (pages : List (List ℕ)) (blocks : List Stored) (next : ℕ) (free : List ℕ)
    (version frames count : ℕ) → MayServeOn L tells pages blocks next free → length blocks ≡ count
    → version ≤ MAX_VERSION → 64 ≤ frames → frames ≤ 65536 → count ≤ 65536 → IsStarted version next frames count
has-started L tells pages blocks next free version frames count may long in-range some few-frames few =
    let low = may.tree.meta.root_low in
    let high = may.tree.meta.root_high in
    let within = may.next_page.within in
    record {
      some_pages = omega (arith, may.count, long, low, high);
      few_pages = few;
      some_frames = omega (arith, some);
      few_frames = few-frames;
      claimed = omega (arith, may.count, long, within);
      in_range = in-range;
    }

numbers-long : (a n : ℕ) → length (numbers a n) ≡ n
unfolding numbers
numbers-long a zero = refl
numbers-long a (suc n) = ap suc (numbers-long (suc a) n)

-- the first pass has fresh parts enough
pub fresh-enough : {X : Type 0} (size : ℕ) (tells : Bool) (version next : ℕ) (free : List ℕ) (frames count : ℕ)
    (blocks : List Stored) (v : View X)
    → v ≡ begun (unborn (started_shape size tells version next free [] frames blocks)) → count ≤ 64
    → count ≤ length v.fresh
fresh-enough {X = X} size tells version next free frames count blocks v is few =
    let long : length v.fresh ≡ 4294967295 = ap (λ (x : View X). length x.fresh) is ∙ numbers-long 1 4294967295 in
    omega arith

-- the page of the first note has one
first-noted : (p : ℕ) (notes : List Note) → is_first (first_noted notes) p ≤ notes_about p notes
first-noted p [] = omega arith
first-noted p (n ∷ ns) = omega arith

none-noted : (notes : List Note) → length notes ≡ 0 → first_noted notes ≡ None
none-noted [] e = refl
none-noted (n ∷ ns) e = absurd (omega arith)

none-first : (notes : List Note) → first_noted notes ≡ None → length notes ≡ 0
none-first [] e = refl
none-first (n ∷ ns) e = absurd cc

-- no note is of a page below the first one
none-below : (q low high : ℕ) (notes : List Note) → RisesFrom low high notes → q < low → has q (noted_pages notes) ≡ false
none-below q low high [] rises l = refl
none-below q low high (n ∷ ns) rises l =
    let first : low ≤ n.page = rises.0 in
    let rest : has q (noted_pages ns) ≡ false = none-below q (n.page + 1) high ns rises.2 (omega arith) in
    rw (ne_eqb q n.page (λ e. absurd (omega arith))) rest

first-least : (p q high : ℕ) (notes : List Note) → RisesFrom 0 high notes → first_noted notes ≡ Some p → q < p
    → (p < high) × (has q (noted_pages notes) ≡ false)
first-least p q high [] rises e l = absurd cc
first-least p q high (n ∷ ns) rises e l =
    let is : n.page ≡ p = cc in
    let rest : has q (noted_pages ns) ≡ false = none-below q (n.page + 1) high ns rises.2 (omega arith) in
    let below : n.page < high = rises.1 in
    (omega arith, rw (ne_eqb q n.page (λ e. absurd (omega arith))) rest)

-- the blocks hold the pages that these words are
blocks-hold : (blocks : List Stored) (n : ℕ) (words : ℕ → List ℕ) → length blocks ≡ n
    → ((p : ℕ) → p < n → (at no_block blocks p).words ≡ words p) → block_words blocks ≡ listed n words
blocks-hold blocks n words long each =
    sym (listed-long [] n (block_words blocks) (length-mapped (λ (b : Stored). b.words) blocks ∙ long))
    ∙ listed-same n (at [] (block_words blocks)) words
    (λ p l. at-map (λ (b : Stored). b.words) [] no_block blocks p (subst (λ k. p < k) (sym long) l) ∙ each p l)

module _ {X C R : Type 0} (s : Serving X C R) (serving : IsServing s) {U : Type 0} (tells : Bool) (pages : List (List ℕ))
    (version next : ℕ) (free : List ℕ) (frames : ℕ) (before after : List Stored) (lists : List (List C))
    (replies : List (List (Result R TreeFault))) (report : Flushed) (end : Ended U X) (v w : View X)
    (may : MayServeOn s.layout tells pages before next free)
    (is : v ≡ begun (unborn (started_shape s.layout.words tells version next free [] frames before)))
    (driven : IsDriven s.calls tells lists replies v w) (flushed : IsFlushed report w (view_at_end end)) (last : ℕ)
    (closed : IsClosed tells (KeepsPlain s.calls.plain s.layout) (view_at_end end) after last) where
  abbrev e : View X
  e = view_at_end end

  start-is : e.start ≡ started_origin s.layout.words tells version next free [] frames before
  start-is = flushed.aside.start ∙ driven.start ∙ ap (λ (x : View X). x.start) is

  began : tells ≡ true → e.start.contents ≡ pages
  began t = ap (λ (o : Origin). o.contents) start-is ∙ contents-held s.layout.words tells before t ∙ may.held t

  many : e.start.pages ≡ length pages
  many = ap (λ (o : Origin). o.pages) start-is ∙ may.count

  -- the history of the end is what the workers added
  grew-all : e.seen ≡ driven.grew
  grew-all = sym closed.own ∙ flushed.aside.mine ∙ driven.mine ∙ ap (λ (x : View X). x.mine ++ driven.grew) is

  -- what the tree keeps, with the history as it reads
  keeps : tells ≡ true → KeepsTree s.layout (began_of e.start) (record (plain_kept s.calls.plain (kept_by e)) { history = s.reads e.seen })
  keeps t = subst (λ (h : List (Entry Said)). KeepsTree s.layout (began_of e.start) (record (plain_kept s.calls.plain (kept_by e)) { history = h }))
      (serving.reading e.seen) (closed.kept t)

  legal : tells ≡ true → IsLegal (map_of s.layout pages) (s.reads e.seen)
  legal t = subst (λ (l : List (List ℕ)). IsLegal (map_of s.layout l) (s.reads e.seen)) (began t) (keeps t).legal

  -- the next word leaves no room, and what the tree keeps accounts for it
  filled-up : tells ≡ true → length e.start.contents ≤ (kept_by e).next + 1 → s.pays pages e.start.next (s.reads e.seen)
  filled-up t high = subst (λ (l : List (List ℕ)). s.pays l e.start.next (s.reads e.seen)) (began t)
      (serving.paid (began_of e.start) (kept_by e) (closed.kept t) (owes-nothing e closed.paid) high)

  filled : (n : ℕ) → FoundFull w n → IsFilled s tells pages end n
  filled n f =
      let here : FoundFull e n = found-later w e n flushed.aside.start (flushed.done, flushed.aside.log) f in
      let up = used-up e n last closed.found here in
      let high : n ≤ (kept_by e).next + 1 = subst (λ (k : ℕ). n ≤ k + 1) closed.next_is up.1 in
      record {
        up = (up.0, high);
        cause = λ t.
            let starts : length e.start.contents ≡ length pages = ap (λ (l : List (List ℕ)). length l) (began t) in
            let all : n ≡ length pages = up.0 ∙ many in
            filled-up t (omega (arith, starts, all, high));
      }

  -- from the next word at the start on the pages are free
  begun_next : IsNextPage s.layout.words pages e.start.next
  begun_next = subst (λ n. IsNextPage s.layout.words pages n) (sym (ap (λ (o : Origin). o.next) start-is)) may.next_page

  -- the free ones below it are those that the pool began with
  begun_free : AreFreePages s.layout.words pages e.start.next e.start.free
  begun_free = subst (λ (o : Origin). AreFreePages s.layout.words pages o.next o.free) (sym start-is) may.free_pages

  telling : e.start.tells ≡ tells
  telling = ap (λ (o : Origin). o.tells) start-is

  shown : AllShown s.calls e lists replies
  shown = all-shown-more s.calls serving.laws w e flushed.aside.start flushed.aside.seen flushed.aside.releases lists replies driven.shown

  saved : tells ≡ true → ((p : ℕ) → p < length before → (at no_block after p).words ≡ (last_of w p).words)
      → IsTree s.layout (block_words after)
      × (map_of s.layout (block_words after) ≡ after_all (map_of s.layout pages) (saids (s.reads e.seen)))
  saved t words =
      let same : (p : ℕ) → (last_of e p).words ≡ (last_of w p).words = flushed.aside.alone.words driven.alone.0 driven.alone.1 in
      let hold : block_words after ≡ (kept_by e).pages =
      blocks-hold after e.start.pages (λ p. (last_of e p).words) closed.count
      (λ p l. words p (subst (λ (o : Origin). p < o.pages) start-is l) ∙ sym (same p)) in (
        subst (λ (l : List (List ℕ)). IsTree s.layout l) (sym hold) (keeps t).tree,
        ap (λ (l : List (List ℕ)). map_of s.layout l) hold ∙ (keeps t).contents
            ∙ ap (λ (l : List (List ℕ)). after_all (map_of s.layout l) (saids (s.reads e.seen))) (began t),
      )

  -- each lesser page than the first whose write failed is saved, so its block has its last words, where blocks tell
  least : (p q : ℕ) → report.first ≡ Some p → q < p → IsStored e q
      × (tells ≡ true → (at no_block after q).words ≡ (last_of e q).words)
  least p q first l =
      let inside = first-least p q w.start.pages flushed.noted.notes flushed.noted.rises (sym flushed.noted.first ∙ first) l in
      let free : (k : ℕ) → k < w.start.pages → HasNoLock w k = λ k m. (driven.holds.exclusive k, driven.holds.shares k) in
      let page : q < w.start.pages = omega (arith, inside.0) in
      let here : q < e.start.pages = subst (λ (o : Origin). q < o.pages) (sym flushed.aside.start) page in
      let stored : IsStored e q =
      ⊎_elim (λ saved. ⊎_elim (λ gone. inl gone) (λ clean. inr clean.1) saved) (λ noted. absurd (true≢false (sym noted ∙ inside.1)))
      ((flushed.alone driven.alone free).pages q page) in
      (stored, λ t. closed.words t q here stored)

  -- where no write failed each block has its page's last words
  whole : ((p : ℕ) → p < length before → (at no_block after p).words ≡ (last_of w p).words) → (p : ℕ) → p < length pages
      → (at no_block after p).words ≡ (last_of e p).words
  whole words p l =
      let same : (last_of e p).words ≡ (last_of w p).words = flushed.aside.alone.words driven.alone.0 driven.alone.1 p in
      words p (subst (λ n. p < n) (sym may.count) l) ∙ sym same

  earlier : (p : ℕ) → all_faults_of p replies ≤ notes_about p w.notes
  earlier p = let calls : notes_about p v.notes + all_faults_of p replies ≤ notes_about p w.notes = driven.faults p in omega arith

  -- no entry was made behind the calls
  all-seen : e.seen ≡ w.seen
  all-seen = sym closed.own ∙ flushed.aside.mine ∙ driven.all

  noted : (p : ℕ) → all_faults_of p replies + is_first report.first p ≤ notes_about p e.notes
  noted p =
      let first : is_first report.first p ≤ notes_about p flushed.noted.notes =
      subst (λ o. is_first o p ≤ notes_about p flushed.noted.notes) (sym flushed.noted.first)
      (first-noted p flushed.noted.notes) in
      let all : notes_about p e.notes ≡ notes_about p w.notes + notes_about p flushed.noted.notes =
      ap (notes_about p) flushed.noted.after ∙ notes-both p w.notes flushed.noted.notes in
      let calls : notes_about p v.notes + all_faults_of p replies ≤ notes_about p w.notes = driven.faults p in
      omega arith

  bounds : bounds_of after ≡ bounds_of before
  bounds = closed.bounds ∙ ap (λ (o : Origin). o.bounds) start-is

  counted : (p : ℕ) → (notes_about p e.notes ≤ (at no_block after p).count) ⊎ (MAX_COUNT ≤ (at no_block after p).count)
  counted p =
      ⊎_elim
      (λ (l : (at no_block after p).count < MAX_COUNT).
      inl (few-notes p (at no_block after p).count e.notes l (λ c some. closed.noted p c some) (λ c ne. closed.once p c ne)))
      (λ (last : MAX_COUNT ≤ (at no_block after p).count). inr last)
      (cases_lt (at no_block after p).count MAX_COUNT)

  pub served : AreSums after end → (tells ≡ true → report.failed ≡ 0 → (p : ℕ) → p < length before
      → (at no_block after p).words ≡ (last_of w p).words) → IsServedAs s tells pages before lists replies report after end
  served sums words = record {
    count = closed.count ∙ many;
    many = many;
    closed = closed.shown;
    telling = telling;
    began = began;
    next = begun_next;
    free = begun_free;
    bounds = bounds;
    legal = legal;
    calls = subst (λ (l : List (Entry X)). HoldsCalls s.calls.plain s.calls.said l lists replies) (sym grew-all) driven.calls;
    noted = noted;
    counted = counted;
    worked = w;
    last_flush = flushed;
    earlier = earlier;
    all_made = sym all-seen;
    caused = lists-caused s.calls (FoundFull w) (FoundWorn w) (IsUntold w) (IsFilled s tells pages end) (IsAtLastVersion e) (IsUntold e) filled
        (λ p m. worn-out e p closed.versions
        (max-later w e p flushed.aside.start (flushed.done, flushed.aside.log) m))
        (λ p u. subst (λ (o : Origin). (o.tells ≡ false) × (p < o.pages)) (sym flushed.aside.start) u) lists replies
        (traced s.calls serving.laws v.log w lists replies driven.passes driven.parts driven.logs);
    besides = serving.beside tells pages e w may.tree begun_next telling began lists replies driven.passes shown driven.parts;
    shown = shown;
    passes = driven.passes;
    parts = parts-later s.calls w e flushed.aside.start all-seen flushed.aside.releases lists replies driven.passes driven.parts;
    logs = behind-in v.log (logs_of driven.passes) w.log flushed.done e.log driven.logs flushed.aside.log;
    noted_in = behind-in v.notes (noted_by driven.passes) w.notes flushed.noted.notes e.notes driven.noted flushed.noted.after;
    unflushed = λ none. flushed.noted.first ∙ none-noted flushed.noted.notes (flushed.noted.each ∙ none);
    flushed = λ none. sym flushed.noted.each ∙ none-first flushed.noted.notes (sym flushed.noted.first ∙ none);
    least = least;
    whole = λ t none. whole (words t none);
    saved = λ t none. saved t (words t none);
    sums = sums;
  }
