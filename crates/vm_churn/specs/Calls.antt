-- The calls of a churn over n pairs: what each place asks for, and how the places are shared out among the workers.
-- Places are counted from 1.
use Rattle.std.specs.List.{flat_map, range_with_len}
use Rattle.std.specs.Prelude.{[], ◌%◌, ◌*◌, ◌+◌, ◌-◌, ◌/◌, ◌==◌, ◌∷◌, filter, if◌then◌else◌, List, map, ℕ}
use Rattle.vm_map.specs.declared.call.Call.{Call}
use Rattle.vm_map.specs.declared.call.Call.TheVariants.{Del, Get, Put}
use Rattle.vm_build.specs.Numbers.{number_at}

-- the key of a place
abbrev pub key_at : (seed place : ℕ) → ℕ
key_at seed place = number_at seed (place - 1)

-- what a place asks for, whose key this is: the value at the key; a new key with the place as its value; and an even
-- place, that its own key is
-- taken out
abbrev pub calls_for : (place key new : ℕ) → List Call
calls_for place key new = Get key ∷ Put new place ∷ (if place % 2 == 0 then Del key ∷ [] else [])

-- the calls of a place: its new key is that of the place n further on
abbrev pub place_calls : (n seed place : ℕ) → List Call
place_calls n seed place = calls_for place (key_at seed place) (key_at seed (n + place))

-- the places among the first n that are worker w's, rising: the places go to the workers in turn
abbrev pub places_of : (n workers w : ℕ) → List ℕ
places_of n workers w = filter (λ place. (place - 1) % workers == w) (range_with_len 1 n)

-- the calls of worker w, place after place
abbrev pub worker_calls : (n seed workers w : ℕ) → List Call
worker_calls n seed workers w = flat_map (place_calls n seed) (places_of n workers w)

-- the calls of each worker
abbrev pub churn_lists : (n seed workers : ℕ) → List (List Call)
churn_lists n seed workers = map (worker_calls n seed workers) (range_with_len 0 workers)

-- how many calls there are in all: a get and a put a place, and a del for every second one
abbrev pub churn_count : ℕ → ℕ
churn_count n = 2 * n + n / 2
