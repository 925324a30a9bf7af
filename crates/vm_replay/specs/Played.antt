-- Event lines, played one after another.
use Rattle.std.specs.Fmt.{decimal}
use Rattle.std.specs.List.{range_with_len}
use Rattle.std.specs.Prelude.{[], ◌++◌, ◌+◌, ◌∷◌, ◌≡◌, ◌⊎◌, Bool, codes, false, length, List, map, slice_index, true, ℕ}
use Rattle.vm_event.specs.Prelude.{AllLegal, core_start, run, sees, start, State, WORDS}
use Rattle.vm_event.specs.declared.event.Event.TheVariants.{Load, Store}
use Rattle.vm_rule.specs.Prelude.{CoreShape, Event}
use Rattle.vm_script.specs.{declared.event_line.EventLine.EventLine, SeenTexts.seen_line}
use Rattle.vm_script.specs.declared.event_line.EventLine.TheVariants.{Fill, Loads, One}

-- the 64 stores of these words
abbrev pub stores : ℕ → ℕ → List ℕ → List Event
stores a f words = map (λ i. Store a f i (slice_index words i)) (range_with_len 0 WORDS)

-- the 64 loads of a page's words
abbrev pub loads : ℕ → ℕ → List Event
loads a p = map (λ i. Load a p i) (range_with_len 0 WORDS)

-- the events of a line where the core is in this state: `fill` stores the words that the page's block has then
abbrev pub events_of : State → EventLine → List Event
events_of c (One event) = event ∷ []
events_of c (Fill a p f) = stores a f (c.pages p).block
events_of c (Loads a p) = loads a p

-- `end COUNT`
abbrev pub end_line : ℕ → List ℕ
end_line count = codes "end " ++ decimal count ++ 10 ∷ []

-- `illegal NUMBER`
abbrev pub illegal_line : ℕ → List ℕ
illegal_line number = codes "illegal " ++ decimal number ++ 10 ∷ []

-- The lines are played from this state on, the first under this number, so many events before. Where a line's events are all legal, what
-- they see is told and the lines behind go on from where they lead; the first line of which one is illegal ends the text. This is the
-- text, and whether all lines were legal.
abbrev pub Played : State → ℕ → ℕ → List EventLine → List ℕ → Bool → Type 0
Played c number count [] text is_legal = (text ≡ end_line count) × (is_legal ≡ true)
Played c number count (line ∷ lines) text is_legal =
    (AllLegal c (events_of c line)
    × ((rest : List ℕ)
    × ((text ≡ seen_line number line (sees c (events_of c line)) ++ rest)
    × Played (run c (events_of c line)) (number + 1) (count + length (events_of c line)) lines rest is_legal)))
    ⊎ ((AllLegal c (events_of c line) → ⊥) × ((text ≡ illegal_line number) × (is_legal ≡ false)))

-- played on a core of this shape and these groups from its start; line 1 is the shape's, and each group has one behind it
abbrev pub PlayedFromStart : CoreShape → List (ℕ × ℕ) → List EventLine → List ℕ → Bool → Type 0
PlayedFromStart shape groups lines text is_legal = Played (start (core_start shape groups)) (length groups + 2) 0 lines text is_legal
