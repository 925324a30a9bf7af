-- What serving workers' calls comes to, on blocks of any kind and on an image's: the headline, read from what the pool's
-- end keeps. It is stated over any kind of calls, and named for calls with words as keys.
use Rattle.std.specs.Prelude.{◌&&◌, ◌+◌, ◌<◌, ◌==◌, ◌≡◌, ◌≤◌, ◌⊎◌, Bool, if◌then◌else◌, length, List, map, None}
use Rattle.std.specs.Prelude.{Option, Result, Some, true, ℕ}
use Rattle.std.specs.Set.{distinct_count}
use Rattle.vm_map.specs.{declared.call.Call.Call, declared.call.Reply.Reply, declared.call.Said.Said, History.after_all}
use Rattle.vm_tree_model.specs.{Fixed.fixed, Layout.Layout, Tree.IsTree, Tree.map_of}
use Rattle.vm_image.specs.{Blocks.AreBlocksOf, Blocks.numbers_for, declared.blocks.PlannedFault.PlannedFault}
use Rattle.vm_image.specs.{File.AreFreePages, File.IsNextPage}
use Rattle.vm_event.specs.Prelude.{at, MAX_COUNT}
use Rattle.vm_rule.specs.Prelude.{block_words, bounds_of, last_of, MemBlock, most_faults, no_block, Stored, stored_of}
use Rattle.vm_drive.specs.from_vm_step.Prelude.{View}
use Rattle.vm_drive.specs.from_vm_evict.declared_flushing_Flushed.{Flushed}
use Rattle.vm_drive.specs.from_vm_evict.Flushes.{IsFlushed}
use Rattle.vm_drive.specs.from_vm_pool.Closing.{AreSums, IsStored, view_at_end}
use Rattle.vm_drive.specs.from_vm_pool.declared_ended_Ended.{Ended}
use Rattle.vm_tree_laws.specs.History.{IsLegal, saids}
use Rattle.vm_drive.specs.from_vm_kind.{declared_tree_TreeOf.TreeOf, declared_word_keys_Sizes.Sizes, declared_word_keys_WordKeys.WordKeys}
use Rattle.vm_drive.specs.from_vm_tree_rule.declared_fault_TreeFault.{TreeFault}
use Rattle.vm_drive.specs.Prelude.{IsUntold, notes_about}
use Rattle.vm_drive.specs.Lists.{all_faults_of, AllCausedBy, AllShown, AreKept}
use Rattle.vm_drive.specs.Parts.{HaveParts, logs_of, noted_by, StandIn}
use Rattle.vm_drive.specs.{Drives.IsAtLastVersion, Drives.IsUsedUp, Holds.HoldsCalls}
use Rattle.vm_serve.specs.Serving.{Serving, word_serving}

-- the end of a pool with a tree of pages of n words
abbrev pub TreeEnd : ℕ → Type 0
TreeEnd n = Ended (TreeOf (WordKeys Sizes n)) Said

-- Calls may be served on these blocks, by a pool with this next word and these free numbers: the pages, read in this
-- layout, are a tree, one for each block, and they are what the blocks hold, where blocks tell; the next word is that of
-- the pages, the numbers are those of their free pages below it. Where blocks do not tell, that they hold these pages is
-- the caller's word alone
pub record MayServeOn (L : Layout) (tells : Bool) (pages : List (List ℕ)) (blocks : List Stored) (next : ℕ)
    (free : List ℕ) : Type 0 where
  pub tree : IsTree L pages
  pub count : length blocks ≡ length pages
  pub held : tells ≡ true → block_words blocks ≡ pages
  pub next_page : IsNextPage L.words pages next
  pub free_pages : AreFreePages L.words pages next free

-- so calls with words as keys may, on pages of n words
abbrev pub MayBeServed : ℕ → (tells : Bool) (pages : List (List ℕ)) (blocks : List Stored) (next : ℕ) (free : List ℕ) → Type 0
MayBeServed n = MayServeOn (fixed n)

-- pages that were used up: the next word that the end keeps leaves no room for a split; and where blocks tell, the
-- history accounts for it, from the next word at the start on
pub record IsFilled {X C R : Type 0} (s : Serving X C R) (tells : Bool) {U : Type 0} (pages : List (List ℕ))
    (end : Ended U X) (count : ℕ) : Type 0 where
  pub up : IsUsedUp (view_at_end end) count
  pub cause : tells ≡ true → s.pays pages (view_at_end end).start.next (s.reads (view_at_end end).seen)

-- whether two entries of a plan name the same call of the same page's block
abbrev pub same_entry : PlannedFault → PlannedFault → Bool
same_entry a b = a.page == b.page && a.number == b.number

-- how many different entries a plan has
abbrev pub distinct_entries : List PlannedFault → ℕ
distinct_entries plan = distinct_count same_entry plan

-- 1 for the page whose write failed first
abbrev pub is_first : Option ℕ → ℕ → ℕ
is_first None p = 0
is_first (Some q) p = if q == p then 1 else 0

-- The calls of the lists were made on the tree of these pages, over blocks of one kind, of which `tells`
-- says whether they tell their words, and which held and had counted `before` when the pool began. The pages from the
-- next one on were to be claimed, and the
-- free ones below it could be used anew, each of them. The history is the one that `end` keeps, which the end of the
-- pool alone makes: it holds each worker's calls once, in order, with these replies. Each fault of a device, and the
-- first write of the last flush that failed, has its own note. Each other fault has its cause: `damaged` comes only
-- where blocks do not tell. Each worker made its calls one after another, and what each was answered comes of the
-- steps and notes of that very call. The report is that of the flush which came behind all calls, and was the last
-- thing that was done; each page below the first whose write failed is stored. The blocks are those that the end shows.
-- Each has the bound that it had; and it has counted as many faults as there are notes of its page, at least, or its
-- count stands at the last value. So where a block had counted none when the pool began, a fault or a failed write of
-- its page has raised its count.
-- Where blocks tell, the pool began with the pages, and the history is legal from their map on; each window is a leaf's,
-- the table's page as it stood, and each range that of leaves held together; and of words as keys, each range that was
-- too wide has its cause. Then, where no write of the flush failed, each block has its page's last words, and the blocks hold a tree
-- whose map is the history's last one; and each page that is stored below the first whose write failed has its last
-- words in its block.
pub record IsServedAs {X C R : Type 0} (s : Serving X C R) (tells : Bool) {U : Type 0} (pages : List (List ℕ))
    (before : List Stored) (lists : List (List C)) (replies : List (List (Result R TreeFault))) (report : Flushed)
    (blocks : List Stored) (end : Ended U X) : Type 0 where
  pub count : length blocks ≡ length pages
  pub many : (view_at_end end).start.pages ≡ length pages
  pub closed : blocks ≡ (view_at_end end).snapshot.blocks
  pub telling : (view_at_end end).start.tells ≡ tells
  pub began : tells ≡ true → (view_at_end end).start.contents ≡ pages
  pub next : IsNextPage s.layout.words pages (view_at_end end).start.next
  pub free : AreFreePages s.layout.words pages (view_at_end end).start.next (view_at_end end).start.free
  pub bounds : bounds_of blocks ≡ bounds_of before
  pub legal : tells ≡ true → IsLegal (map_of s.layout pages) (s.reads (view_at_end end).seen)
  pub calls : HoldsCalls s.calls.plain s.calls.said (view_at_end end).seen lists replies
  pub noted : (p : ℕ) → all_faults_of p replies + is_first report.first p ≤ notes_about p (view_at_end end).notes
  pub counted : (p : ℕ) → (notes_about p (view_at_end end).notes ≤ (at no_block blocks p).count) ⊎ (MAX_COUNT ≤ (at no_block blocks p).count)
  -- what the pass knew once all calls were made: the flush came next, and the notes of the replies that are faults stood already
  pub worked : View X
  pub last_flush : IsFlushed report worked (view_at_end end)
  pub earlier : (p : ℕ) → all_faults_of p replies ≤ notes_about p worked.notes
  pub all_made : worked.seen ≡ (view_at_end end).seen
  pub caused : AllCausedBy s.calls (IsFilled s tells pages end) (IsAtLastVersion (view_at_end end)) (IsUntold (view_at_end end)) lists replies
  pub besides : s.besides tells pages (view_at_end end) lists replies
  pub shown : AllShown s.calls (view_at_end end) lists replies
  -- what each worker's pass knew behind its last call; its steps and notes stand in those of the end, one worker's behind another's
  pub passes : List (View X)
  pub parts : HaveParts s.calls (view_at_end end) lists replies passes
  pub logs : StandIn (logs_of passes) (view_at_end end).log
  pub noted_in : StandIn (noted_by passes) (view_at_end end).notes
  pub unflushed : report.failed ≡ 0 → report.first ≡ None
  pub flushed : report.first ≡ None → report.failed ≡ 0
  pub least : (p q : ℕ) → report.first ≡ Some p → q < p → IsStored (view_at_end end) q
      × (tells ≡ true → (at no_block blocks q).words ≡ (last_of (view_at_end end) q).words)
  pub whole : tells ≡ true → report.failed ≡ 0 → (p : ℕ) → p < length pages
      → (at no_block blocks p).words ≡ (last_of (view_at_end end) p).words
  pub saved : tells ≡ true → report.failed ≡ 0 → IsTree s.layout (block_words blocks)
      × (map_of s.layout (block_words blocks) ≡ after_all (map_of s.layout pages) (saids (s.reads (view_at_end end).seen)))
  pub sums : AreSums blocks end

-- The same of an image, whose blocks in memory, which tell their words, were made of it: each may
-- fail as often as the plan says; which of their calls fail is not said. There are no more notes of a page than
-- entries for it in the plan, and no more faults are counted than the plan has different entries
pub record IsServedFrom {X C R : Type 0} (s : Serving X C R) {U : Type 0} (pages : List (List ℕ)) (plan : List PlannedFault)
    (lists : List (List C)) (replies : List (List (Result R TreeFault))) (report : Flushed)
    (blocks : List (MemBlock s.layout.words)) (end : Ended U X) : Type 0 where
  pub before : List (MemBlock s.layout.words)
  pub made : AreBlocksOf pages plan before
  pub on : IsServedAs s true pages (map stored_of before) lists replies report (map stored_of blocks) end
  pub bounds : (p : ℕ) → p < length pages → (at no_block (map stored_of blocks) p).bound ≡ most_faults (numbers_for plan p)
  pub planned : (p : ℕ) → notes_about p (view_at_end end).notes ≤ most_faults (numbers_for plan p)
  pub few : end.faults ≤ distinct_entries plan

-- both with words as keys, on pages of n words
abbrev pub IsServedOn : ℕ → Bool → {U : Type 0} → (pages : List (List ℕ)) (before : List Stored) (lists : List (List Call))
    (replies : List (List (Result Reply TreeFault))) (report : Flushed) (blocks : List Stored) (end : Ended U Said) → Type 0
IsServedOn n tells pages before lists replies report blocks end =
    IsServedAs (word_serving n) tells pages before lists replies report blocks end

abbrev pub IsServed : (n : ℕ) {U : Type 0} (pages : List (List ℕ)) (plan : List PlannedFault) (lists : List (List Call))
    (replies : List (List (Result Reply TreeFault))) (report : Flushed) (blocks : List (MemBlock n)) (end : Ended U Said) → Type 0
IsServed n pages plan lists replies report blocks end = IsServedFrom (word_serving n) pages plan lists replies report blocks end

-- what was kept stands for answers of which this holds
pub record StandForSome {A R : Type 0} (keeps : A → List (Result R TreeFault) → Type 0) (kept : List A)
    (holds : List (List (Result R TreeFault)) → Type 0) : Type 0 where
  pub told : List (List (Result R TreeFault))
  pub stand : AreKept keeps kept told
  pub served : holds told

-- both, where what was kept of the replies stands for them
abbrev pub IsServedOnInto : (n : ℕ) (tells : Bool) {U A : Type 0} (keeps : A → List (Result Reply TreeFault) → Type 0)
    (pages : List (List ℕ)) (before : List Stored) (lists : List (List Call)) (kept : List A) (report : Flushed)
    (blocks : List Stored) (end : Ended U Said) → Type 0
IsServedOnInto n tells keeps pages before lists kept report blocks end =
    StandForSome keeps kept (λ told. IsServedOn n tells pages before lists told report blocks end)

abbrev pub IsServedInto : (n : ℕ) {U A : Type 0} (keeps : A → List (Result Reply TreeFault) → Type 0)
    (pages : List (List ℕ)) (plan : List PlannedFault) (lists : List (List Call)) (kept : List A) (report : Flushed)
    (blocks : List (MemBlock n)) (end : Ended U Said) → Type 0
IsServedInto n keeps pages plan lists kept report blocks end =
    StandForSome keeps kept (λ told. IsServed n pages plan lists told report blocks end)
