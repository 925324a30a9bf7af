-- A kind of calls that are served on the pages of a tree: beside what is said of the calls themselves, how the pages'
-- words mean nodes, how a history reads, and what it accounts for. Serving is stated over any kind.
use Rattle.std.specs.Prelude.{[], ◌*◌, ◌+◌, ◌-◌, ◌≡◌, ◌≤◌, Bool, length, List, Result, true, ℕ}
use Rattle.vm_map.specs.{declared.call.Call.Call, declared.call.Reply.Reply, declared.call.Said.Said}
use Rattle.vm_tree_model.specs.{Count.node_count, Fixed.fixed, Layout.IsLayout, Layout.Layout, Tree.IsTree}
use Rattle.vm_node.specs.Halves.{half_of}
use Rattle.vm_image.specs.File.{IsNextPage}
use Rattle.vm_rule.specs.Prelude.{Entry, Kept, Start}
use Rattle.vm_drive.specs.from_vm_step.Prelude.{View}
use Rattle.vm_tree_laws.specs.{History.gones, History.news, Keeps.merge_weight, Plain.KeepsPlain, Plain.plain_history}
use Rattle.vm_drive.specs.from_vm_tree_rule.declared_fault_TreeFault.{TreeFault}
use Rattle.vm_drive.specs.Prelude.{AreCalls, Calling, word_calls}
use Rattle.vm_drive.specs.{Lists.AllShown, Parts.HaveParts}
use Rattle.vm_serve.specs.Wide.{AllWidenedBy, IsWidened}

-- Of calls C with replies R, whose entries in the history are X
pub record Serving (X C R : Type 0) : Type 1 where
  pub calls : Calling X C R Said
  -- how the words of pages mean nodes
  pub layout : Layout
  -- the history, as it reads with numbers for keys
  pub reads : List (Entry X) → List (Entry Said)
  -- where pages were used up, what such a history accounts for, from the next page at the start on
  pub pays : (pages : List (List ℕ)) (next : ℕ) (history : List (Entry Said)) → Type 0
  -- what is said of the answers to calls of this kind beside what is said of all kinds
  pub besides : (tells : Bool) (pages : List (List ℕ)) (end : View X) (lists : List (List C))
      (replies : List (List (Result R TreeFault))) → Type 0

-- What is asked of a kind of calls that are served
pub record IsServing {X C R : Type 0} (s : Serving X C R) : Type 0 where
  pub laws : AreCalls s.calls (KeepsPlain s.calls.plain s.layout)
  pub layout_laws : IsLayout s.layout
  pub reading : (history : List (Entry X)) → plain_history s.calls.plain history ≡ s.reads history
  -- where no page is owed, and at most one was never claimed
  pub paid : (start : Start) (kept : Kept X) → KeepsPlain s.calls.plain s.layout start kept → kept.owed ≡ []
      → length start.pages ≤ kept.next + 1 → s.pays start.pages start.next (s.reads kept.history)
  pub beside : (tells : Bool) (pages : List (List ℕ)) (end w : View X) → IsTree s.layout pages
      → IsNextPage s.layout.words pages end.start.next → end.start.tells ≡ tells
      → (tells ≡ true → end.start.contents ≡ pages) → (lists : List (List C)) (replies : List (List (Result R TreeFault)))
      (passes : List (View X)) → AllShown s.calls end lists replies → HaveParts s.calls w lists replies passes
      → s.besides tells pages end lists replies

-- With P pages of n words, of which X stood below the next one, N of them nodes, and with G puts of new keys and D dels
-- that gave a value, 13 * P is at most 28 * N + 2 * G + 12 * D + 13 * (X + 1) where a page has 64 words, and 125 * P at
-- most 252 * N + 2 * G + 108 * D + 125 * (X + 1) where it has 512
abbrev pub word_pays : ℕ → (pages : List (List ℕ)) (next : ℕ) (history : List (Entry Said)) → Type 0
word_pays n pages next history = (half_of n - 1) * length pages ≤ 2 * half_of n * node_count (fixed n) pages + 2 * news
    history + merge_weight (fixed n) * gones history + (half_of n - 1) * (next + 1)

-- each range that was too wide has its cause, where blocks tell
abbrev pub AreWide : ℕ → (tells : Bool) (pages : List (List ℕ)) (end : View Said) (lists : List (List Call))
    (replies : List (List (Result Reply TreeFault))) → Type 0
AreWide n tells pages end lists replies = AllWidenedBy (tells ≡ true → IsWidened n pages end) lists replies

-- words as keys, on pages of n words: the history reads as it is
abbrev pub word_serving : ℕ → Serving Said Call Reply
word_serving n = record {
  calls = word_calls n;
  layout = fixed n;
  reads = λ history. history;
  pays = word_pays n;
  besides = AreWide n;
}
