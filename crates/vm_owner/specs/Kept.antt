-- What a layer above a page store keeps a relation of, as plain data, and the steps that change it.
use Rattle.std.specs.Prelude.{◌≡◌, ◌&&◌, ◌||◌, ◌⊎◌, ℕ, zero, suc, ◌+◌, ◌<◌, ◌≤◌, ◌==◌, Bool, true, false, List, []}
use Rattle.std.specs.Prelude.{◌∷◌, ◌++◌, length, slice_index, slice_set, if◌then◌else◌}
use Rattle.vm_page.specs.Pages.{all_zero, page_at}
use Rattle.vm_owner.specs.Numbers.{has, without, AreApart}
use Rattle.vm_owner.specs.declared.Entry.{Entry}

-- The pages, the next page and the free page numbers with which the table began
pub record Start : Type 0 where
  pub pages : List (List ℕ)
  pub next : ℕ
  pub free : List ℕ

-- The logical pages, the next page, the pages that were claimed for a group still to be released, the page numbers
-- whose bits are set, those
-- that are held, those of freed pages still to be given, and the history
pub record Kept (S : Type 0) : Type 0 where
  pub pages : List (List ℕ)
  pub next : ℕ
  pub owed : List ℕ
  pub free : ℕ → Bool
  pub held : ℕ → Bool
  pub freed : ℕ → Bool
  pub history : List (Entry S)

-- A page's words before and after a release
pub record Change : Type 0 where
  pub page : ℕ
  pub old : List ℕ
  pub new : List ℕ

abbrev pub changed_pages : List Change → List ℕ
changed_pages [] = []
changed_pages (c ∷ cs) = c.page ∷ changed_pages cs

-- each change has the page's words before
abbrev pub Agrees : List (List ℕ) → List Change → Type 0
Agrees pages [] = Unit {0}
Agrees pages (c ∷ cs) = (c.page < length pages) × (page_at pages c.page ≡ c.old) × Agrees pages cs

-- each of these pages has these words
abbrev pub PagesHave : List (List ℕ) → List (ℕ × List ℕ) → Type 0
PagesHave pages [] = Unit {0}
PagesHave pages (q ∷ qs) = (q.0 < length pages) × (page_at pages q.0 ≡ q.1) × PagesHave pages qs

-- the pages after all changes
abbrev pub changed : List Change → List (List ℕ) → List (List ℕ)
changed [] pages = pages
changed (c ∷ cs) pages = changed cs (slice_set pages c.page c.new)

-- the pages still owed after a release of these
abbrev pub owed_after : List Change → List ℕ → List ℕ
owed_after [] owed = owed
owed_after (c ∷ cs) owed = owed_after cs (without c.page owed)

-- the changes free page p: its words were not all 0, and are
abbrev pub frees : List Change → ℕ → Bool
frees [] p = false
frees (c ∷ cs) p = ((c.page == p) && (if all_zero c.old then false else all_zero c.new)) || frees cs p

-- no word changes, and no page is among those that are owed to the pass
abbrev pub AreUnchanged : List ℕ → List Change → Type 0
AreUnchanged due [] = Unit {0}
AreUnchanged due (c ∷ cs) = (c.new ≡ c.old) × (has c.page due ≡ false) × AreUnchanged due cs

-- each page has as many words after as before
abbrev pub AreSized : List Change → Type 0
AreSized [] = Unit {0}
AreSized (c ∷ cs) = (length c.new ≡ length c.old) × AreSized cs

-- what becomes of page numbers: numbers whose bits are set are taken; numbers are given; the hold of one ends
pub data NumberMove : Type 0 where
  Taken : (mask : ℕ → Bool) → NumberMove
  Given : (mask : ℕ → Bool) → NumberMove
  Ended : (p : ℕ) → NumberMove

-- how many entries a number has
abbrev pub entries_under : {S : Type 0} → ℕ → List (Entry S) → ℕ
entries_under number [] = 0
entries_under number (e ∷ h) = (if e.number == number then 1 else 0) + entries_under number h

-- each entry's count is one more than its number has entries before it, where `before` is how many it has before the list
abbrev pub AreCounted : {S : Type 0} → (ℕ → ℕ) → List (Entry S) → Type 0
AreCounted before [] = Unit {0}
AreCounted before (e ∷ h) = (e.count ≡ before e.number + 1) × AreCounted (λ n. (if e.number == n then 1 else 0) + before n) h

-- there is no entry, or one, which is its number's next
abbrev pub IsTurn : {S : Type 0} → List (Entry S) → List (Entry S) → Type 0
IsTurn history [] = Unit {0}
IsTurn history (e ∷ es) = (e.count ≡ entries_under e.number history + 1) × (es ≡ [])

module _ {S : Type 0} where
  -- The changes of a pass to which the pages `due` are owed fit what stands: one to 32 pages, each another one
  pub record Fits (kept : Kept S) (due : List ℕ) (changes : List Change) : Type 0 where
    pub agrees : Agrees kept.pages changes
    pub apart : AreApart (changed_pages changes)
    pub sized : AreSized changes
    pub few : length changes ≤ 32
    pub owed : (p : ℕ) → has p due ≡ true → has p kept.owed ≡ true

  -- after pages were released together, at the group's first release
  abbrev pub after_release : List Change → List (Entry S) → Kept S → Kept S
  after_release changes entries kept = record kept {
    pages = changed changes kept.pages;
    owed = owed_after changes kept.owed;
    freed = λ p. frees changes p || kept.freed p;
    history = kept.history ++ entries;
  }

  -- after a validated read
  abbrev pub told : List (Entry S) → Kept S → Kept S
  told entries kept = record kept { history = kept.history ++ entries }

  -- after a claim of n pages, which are owed behind those that were
  abbrev pub claimed : ℕ → Kept S → Kept S
  claimed zero kept = kept
  claimed (suc n) kept = claimed n (record kept { next = kept.next + 1; owed = kept.owed ++ kept.next ∷ [] })

  -- the next n pages are there, and all their words are 0
  pub record AreZero (kept : Kept S) (n : ℕ) : Type 0 where
    pub there : kept.next + n ≤ length kept.pages
    pub zero : (p i : ℕ) → kept.next ≤ p → p < kept.next + n → slice_index (page_at kept.pages p) i ≡ 0

  -- what stands at the start
  abbrev pub first_kept : Start → Kept S
  first_kept start = record {
    pages = start.pages;
    next = start.next;
    owed = [];
    free = λ p. has p start.free;
    held = λ p. false;
    freed = λ p. false;
    history = [];
  }

  -- the number of page p is free, held or still to be given
  abbrev pub is_spare : Kept S → ℕ → Bool
  is_spare kept p = kept.free p || kept.held p || kept.freed p

  -- When numbers may move: those that are taken have their bits set, those that are given are held or of freed pages,
  -- and all have zero pages; a hold that ends
  -- is of a page that is not zero
  abbrev pub MayMove : Kept S → NumberMove → Type 0
  MayMove kept (Taken mask) = (p : ℕ) → mask p ≡ true → (kept.free p ≡ true) × (all_zero (page_at kept.pages p) ≡ true)
  MayMove kept (Given mask) = (p : ℕ) → mask p ≡ true → ((kept.held p ≡ true) ⊎ (kept.freed p ≡ true))
      × (all_zero (page_at kept.pages p) ≡ true)
  MayMove kept (Ended p) = all_zero (page_at kept.pages p) ≡ false

  -- after it
  abbrev pub moved : NumberMove → Kept S → Kept S
  moved (Taken mask) kept = record kept {
    free = λ p. if mask p then false else kept.free p;
    held = λ p. if mask p then true else kept.held p;
  }
  moved (Given mask) kept =
      record kept {
        free = λ p. if mask p then true else kept.free p;
        held = λ p. if mask p then false else kept.held p;
        freed = λ p. if mask p then false else kept.freed p;
      }
  moved (Ended q) kept = record kept { held = λ p. if p == q then false else kept.held p }
