-- The lines of what calls were answered, of rows, of counters, of a tree's size, and of what was made, migrated and churned.
use Rattle.std.specs.Fmt.{decimal}
use Rattle.std.specs.List.{flat_map}
use Rattle.std.specs.Prelude.{[], ◌++◌, ◌+◌, ◌∷◌, codes, length, List, None, Option, Some, ℕ}
use Rattle.vm_map.specs.{declared.call.Call.Call, declared.call.Reply.Reply, declared.window.Bound.Bound}
use Rattle.vm_map.specs.{declared.window.Bound.TheVariants.End, declared.window.Bound.TheVariants.Key}
use Rattle.vm_map.specs.{declared.window.Window.Window, Map.Pairs}
use Rattle.vm_map.specs.declared.call.Call.TheVariants.{Del, Get, Put, Range, Swap, Window as Asked}
use Rattle.vm_map.specs.declared.call.Reply.TheVariants.{Gone, Got, Many, Swapped, Was, Wide, Win}
use Rattle.vm_map.specs.declared.call.Swap.{Swap as Outcome}
use Rattle.vm_map.specs.declared.call.Swap.TheVariants as swaps
use Rattle.vm_script.specs.declared.text.Line.{Line}
use Rattle.vm_script.specs.declared.text.Line.TheVariants as lines

-- the key of a window's bound, or `end`
abbrev pub bound_text : Bound → List ℕ
bound_text (Key key) = decimal key
bound_text End = codes "end"

-- ` k=v` for each pair
abbrev pub shown_text : Pairs → List ℕ
shown_text = flat_map (λ pair. 32 ∷ decimal pair.0 ++ 61 ∷ decimal pair.1)

-- `window K B` and the pairs, of a window from K on
abbrev pub window_text : ℕ → Window → List ℕ
window_text start window = codes "window " ++ decimal start ++ 32 ∷ bound_text window.bound ++ shown_text window.pairs

-- a value behind its word, or the word for none
abbrev pub value_text : List ℕ → List ℕ → Option ℕ → List ℕ
value_text word none (Some value) = word ++ 32 ∷ decimal value
value_text word none None = none

-- what a swap did
abbrev pub swap_text : Outcome → List ℕ
swap_text swaps.Done = codes "swapped"
swap_text (swaps.Kept value) = codes "kept " ++ decimal value
swap_text swaps.Missing = codes "none"

-- `range COUNT` and the pairs, of all pairs of a range
abbrev pub range_text : Pairs → List ℕ
range_text pairs = codes "range " ++ decimal (length pairs) ++ shown_text pairs

-- `wide R`, of a range that has too many leaves, which cover it up to R
abbrev pub wide_text : ℕ → List ℕ
wide_text reach = codes "wide " ++ decimal reach

-- to a get `some V` or `none`, to a put `was V` or `new`, to a del `gone V` or `none`, to a window `window K B` and
-- the pairs, to a swap `swapped`, `kept V` or `none`,
-- to a range `range COUNT` and the pairs, or `wide R`; a reply that is not of the call's kind has no text
abbrev pub answer_text : Call → Reply → List ℕ
answer_text (Get key) (Got found) = value_text (codes "some") (codes "none") found
answer_text (Get key) _ = []
answer_text (Put key value) (Was old) = value_text (codes "was") (codes "new") old
answer_text (Put key value) _ = []
answer_text (Del key) (Gone old) = value_text (codes "gone") (codes "none") old
answer_text (Del key) _ = []
answer_text (Asked start most) (Win window) = window_text start window
answer_text (Asked start most) _ = []
answer_text (Swap key want value) (Swapped outcome) = swap_text outcome
answer_text (Swap key want value) _ = []
answer_text (Range low bound) (Many span) = range_text span.0
answer_text (Range low bound) (Wide reach) = wide_text reach
answer_text (Range low bound) _ = []

-- the reply, or why there is none
abbrev pub outcome_text : Line → List ℕ
outcome_text (lines.Said said) = answer_text said.call said.reply
outcome_text (lines.Fault page) = codes "fault " ++ decimal page
outcome_text lines.Full = codes "full"
outcome_text (lines.Worn page) = codes "worn " ++ decimal page
outcome_text (lines.Damaged page) = codes "damaged " ++ decimal page

-- `WORKER NUMBER TOLD`, whatever is told
abbrev pub told_line : ℕ → ℕ → List ℕ → List ℕ
told_line worker number told = decimal worker ++ 32 ∷ decimal number ++ 32 ∷ told ++ 10 ∷ []

-- `WORKER NUMBER REPLY`
abbrev pub reply_line : ℕ → ℕ → Line → List ℕ
reply_line worker number line = told_line worker number (outcome_text line)

-- `row K V`
abbrev pub row_line : ℕ × ℕ → List ℕ
row_line row = codes "row " ++ decimal row.0 ++ 32 ∷ decimal row.1 ++ 10 ∷ []

-- a worker's lines, numbered on from `number`
abbrev pub replies_text : ℕ → ℕ → List Line → List ℕ
replies_text worker number [] = []
replies_text worker number (line ∷ more) = reply_line worker number line ++ replies_text worker (number + 1) more

-- the lines of workers, worker after worker from `worker` on, each worker's numbered from 1
abbrev pub worker_replies : ℕ → List (List Line) → List ℕ
worker_replies worker [] = []
worker_replies worker (told ∷ more) = replies_text worker 1 told ++ worker_replies (worker + 1) more

-- the lines of a map's pairs
abbrev pub rows_text : Pairs → List ℕ
rows_text = flat_map row_line

-- `counters reads R writes X faults N evicted E`
abbrev pub counters_line : ℕ → ℕ → ℕ → ℕ → List ℕ
counters_line reads writes faults evicted =
    codes "counters reads " ++ decimal reads ++ codes " writes " ++ decimal writes ++ codes " faults " ++ decimal
    faults ++ codes " evicted " ++ decimal evicted ++ 10 ∷ []

-- `unflushed P`
abbrev pub unflushed_line : ℕ → List ℕ
unflushed_line page = codes "unflushed " ++ decimal page ++ 10 ∷ []

-- `tree height H used U rows N`
abbrev pub tree_line : ℕ → ℕ → ℕ → List ℕ
tree_line height used rows = codes "tree height " ++ decimal height ++ codes " used " ++ decimal used ++ codes
    " rows " ++ decimal rows ++ 10 ∷ []

-- the rows of a tree, and the line of its size
abbrev pub check_text : Pairs → ℕ → ℕ → List ℕ
check_text rows height used = rows_text rows ++ tree_line height used (length rows)

-- `made P used U height H`
abbrev pub made_line : ℕ → ℕ → ℕ → List ℕ
made_line pages used height =
    codes "made " ++ decimal pages ++ codes " used " ++ decimal used ++ codes " height " ++ decimal height ++ 10 ∷ []

-- `migrated P used U height H rows N`
abbrev pub migrated_line : (pages used height rows : ℕ) → List ℕ
migrated_line pages used height rows =
    codes "migrated " ++ decimal pages ++ codes " used " ++ decimal used ++ codes " height " ++ decimal
    height ++ codes " rows " ++ decimal rows ++ 10 ∷ []

-- `churn N calls C some A new B gone G rows R sum S`
abbrev pub churn_line : (pairs calls some new gone rows sum : ℕ) → List ℕ
churn_line pairs calls some new gone rows sum =
    codes "churn " ++ decimal pairs ++ codes " calls " ++ decimal calls
    ++ codes " some " ++ decimal some ++ codes " new " ++ decimal new ++ codes " gone " ++ decimal gone
    ++ codes " rows " ++ decimal rows ++ codes " sum " ++ decimal sum ++ 10 ∷ []
