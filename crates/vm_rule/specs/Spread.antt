-- The state words as the pages read them: each page of a group reads that of the group's first page.
use Rattle.std.specs.Prelude.{[], ◌==◌, ◌∷◌, if◌then◌else◌, List, slice_index, slice_set, suc, zero, ℕ}
use Rattle.atomic_table.specs.Table.{State as Table}
use Rattle.vm_rule.specs.{declared.view.Origin.Origin, Views.numbers}

-- n words from a place on become x
abbrev pub copied : ℕ → ℕ → ℕ → List ℕ → List ℕ
copied zero place x words = words
copied (suc n) place x words = copied n (suc place) x (slice_set words place x)

-- every page of each group has the word of the group's first page
abbrev pub spread : List (ℕ × ℕ) → List ℕ → List ℕ
spread [] words = words
spread (g ∷ gs) words = spread gs (copied g.1 g.0 (slice_index words g.0) words)

-- the table, as its pages read it
abbrev pub spread_table : {S V : Type 0} → Origin → Table S V → Table S V
spread_table start s = record s { words = spread start.groups s.words }

-- the pages of the group whose first page this is; a page of no group is alone
abbrev pub group_of : List (ℕ × ℕ) → ℕ → List ℕ
group_of [] h = h ∷ []
group_of (g ∷ gs) h = if g.0 == h then numbers g.0 g.1 else group_of gs h

-- the words at these places become x
abbrev pub all_set : List ℕ → ℕ → List ℕ → List ℕ
all_set [] x words = words
all_set (q ∷ qs) x words = all_set qs x (slice_set words q x)
