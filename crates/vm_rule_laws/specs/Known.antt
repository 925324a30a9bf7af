-- What a pass with all parts of a table knows of it once it has made a step, read off its view alone.
use Rattle.std.specs.Prelude.{◌≡◌, length, List, Option, true, ℕ}
use Rattle.vm_rule.specs.from_vm_event.Prelude.{at, get_elem?, has_free_bit, some, State}
use Rattle.vm_rule.specs.Prelude.{chosen, core_from, core_shown, Entry, frames_held, has, numbers_held, IsWhole, Kept}
use Rattle.vm_rule.specs.Prelude.{last_of, listed, no_block, seats_of, Stored, Table, table_words}
use Rattle.vm_rule.specs.{declared.view.Origin.Origin, declared.view.Release.Release, declared.view.Snapshot.Snapshot}
use Rattle.vm_rule.specs.{declared.view.View.View}

module _ {X : Type 0} where
  -- the pass id of these has this view, with all parts
  pub record IsWholePass (views : List (View X)) (id : ℕ) (v : View X) : Type 0 where
    pub there : get_elem? views id ≡ some v
    pub whole : IsWhole v

  -- and it has made a step since it was split or joined
  pub record HasStepped (views : List (View X)) (id : ℕ) (v : View X) : Type 0 where
    pub pass : IsWholePass views id v
    pub current : v.current ≡ true

  -- the core, from the words and blocks of a snapshot
  abbrev pub core_in : Origin → Snapshot → List (View X) → State
  core_in start snapshot views = core_from start (length views) (table_words start snapshot.words)
      (at no_block snapshot.blocks) (seats_of views) (frames_held views) (numbers_held views)

  -- what the layer above keeps, as the pass knows it: the pages with their last words, the next word, the pages that
  -- the pass owes, the page numbers that are free, that it holds and has still to give, and the history that it has
  -- seen
  abbrev pub kept_by : View X → Kept X
  kept_by v =
      record {
        pages = listed v.start.pages (λ p. (last_of v p).words);
        next = (table_words v.start v.snapshot.words).next;
        owed = chosen v.start.pages (λ p. has p v.owed);
        free = has_free_bit (table_words v.start v.snapshot.words).spares;
        held = λ p. has p v.numbers;
        freed = λ p. has p v.freed;
        history = v.seen;
      }

  -- the pass knows how the table began, all its releases and entries, and the core that it shows
  pub record KnowsTable {B : Type 0} (stored : B → Stored) (start : Origin) (releases : List Release)
      (history : List (Entry X)) (s : Table (Option B) (View X)) (v : View X) : Type 0 where
    pub start_known : v.start ≡ start
    pub releases_known : v.releases ≡ releases
    pub history_known : v.seen ≡ history
    pub words_known : v.snapshot.words ≡ s.words
    pub core_known : core_shown stored start s ≡ core_in v.start v.snapshot s.views
