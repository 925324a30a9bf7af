-- A finite map whose keys are byte strings: its pairs by rising key, as dictionaries order them.
use Rattle.std.specs.Prelude.{ℕ, List, [], ◌∷◌, map, Option, Some, None, if◌then◌else◌}
use Rattle.vm_map.specs.Map.{Pairs}
use Rattle.vm_bytes_form.specs.Forms.{KeyEntry}
use Rattle.vm_bytes_form.specs.Bytes.{same_words, ranked_entry}
use Rattle.vm_bytes_form.specs.Strings.{before}

-- the value of the first pair that has the key
abbrev pub lookup_key : List KeyEntry → List ℕ → Option ℕ
lookup_key [] s = None
lookup_key (e ∷ es) s = if same_words s e.0 then Some e.1 else lookup_key es s

-- with the value v at the key: at its place in the order, or over the pair that has it
abbrev pub put_key : List KeyEntry → List ℕ → ℕ → List KeyEntry
put_key [] s v = (s, v) ∷ []
put_key (e ∷ es) s v = if before s e.0 then (s, v) ∷ e ∷ es else (if same_words s e.0 then (s, v) ∷ es else e ∷ put_key es s v)

-- without the first pair that has the key
abbrev pub del_key : List KeyEntry → List ℕ → List KeyEntry
del_key [] s = []
del_key (e ∷ es) s = if same_words s e.0 then es else e ∷ del_key es s

-- the same map with the ranks of its keys
abbrev pub ranks_of : List KeyEntry → Pairs
ranks_of es = map ranked_entry es
