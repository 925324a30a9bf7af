-- The relation and its steps for a history that speaks of keys in its own way, as it reads with a number for each key.
use Rattle.std.specs.Prelude.{ℕ, List, map}
use Rattle.vm_map.specs.declared.call.Said.{Said}
use Rattle.vm_owner.specs.declared.Entry.{Entry}
use Rattle.vm_owner.specs.Kept.{Start, Kept, Change}
use Rattle.vm_tree_model.specs.Layout.{Layout}
use Rattle.vm_tree_laws.specs.Keeps.{KeepsTree}
use Rattle.vm_tree_laws.specs.May.{MayHold, MayRelease, MayRead}

module _ {S : Type 0} (plain : S → Said) where
  -- an entry, a history and what is kept, with numbers for keys
  abbrev pub plain_entry : Entry S → Entry Said
  plain_entry e = record { number = e.number; count = e.count; said = plain e.said }

  abbrev pub plain_history : List (Entry S) → List (Entry Said)
  plain_history h = map plain_entry h

  abbrev pub plain_kept : Kept S → Kept Said
  plain_kept kept = record {
    pages = kept.pages;
    next = kept.next;
    owed = kept.owed;
    free = kept.free;
    held = kept.held;
    freed = kept.freed;
    history = plain_history kept.history;
  }

  -- what the tree keeps, what may be released, what may be read and what pages held together prove, as the history reads so
  abbrev pub KeepsPlain : Layout → Start → Kept S → Type 0
  KeepsPlain L start kept = KeepsTree L start (plain_kept kept)

  abbrev pub ReleasesPlain : Layout → Start → List ℕ → List Change → List (Entry S) → Type 0
  ReleasesPlain L start due changes entries = MayRelease L start due changes (plain_history entries)

  abbrev pub ReadsPlain : Layout → Start → ℕ → List ℕ → List (Entry S) → Type 0
  ReadsPlain L start page words entries = MayRead L start page words (plain_history entries)

  abbrev pub ProvesHeld : Layout → Start → List (ℕ × List ℕ) → List (Entry S) → Type 0
  ProvesHeld L start pages entries = MayHold L start pages (plain_history entries)
