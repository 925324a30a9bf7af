-- Lines played in part, and one line on.
use Rattle.std.proofs.Common.{◌++◌, ◌+◌, ◌<◌, ◌∙◌, ◌∷◌, ◌≡◌, ap, append_assoc, arith, Bool, drop, get_or, inl, length, List, refl}
use Rattle.std.proofs.Common.{subst, suc, sym, ℕ}
use Rattle.std.proofs.Math.Seq.{drop-cons}
use Rattle.vm_event.specs.Prelude.{run, sees, State}
use Rattle.vm_rule.specs.Prelude.{CoreShape}
use Rattle.vm_script.specs.{declared.event_line.EventLine.EventLine, SeenTexts.seen_line}
use Rattle.vm_replay.specs.{declared.line.LineTurn.LineTurn, declared.line.LineTurn.TheVariants.Done, Turns.IsLinePlayed, Turns.Turned}
use Rattle.vm_replay.specs.Played.{events_of, Played, PlayedFromStart}
use Rattle.vm_replay.proofs.Shapes.{run_shape}

-- whatever the lines left give from here, told behind the text so far, is what all lines give
abbrev pub GoesOn : CoreShape → List (ℕ × ℕ) → List EventLine → List ℕ → State → ℕ → ℕ → List EventLine → Type 0
GoesOn shape groups lines text c number count left =
    (rest : List ℕ) (is_legal : Bool) → Played c number count left rest is_legal
    → PlayedFromStart shape groups lines (text ++ rest) is_legal

-- a line that was done
line_done : (shape : CoreShape) (groups : List (ℕ × ℕ)) (lines : List EventLine) (text : List ℕ) (c : State) (number count : ℕ)
    (line : EventLine) (left : List EventLine) (events : ℕ) (new : State) (more : List ℕ)
    → GoesOn shape groups lines text c number count (line ∷ left) → IsLinePlayed c number line text events new more
    → GoesOn shape groups lines more new (number + 1) (count + events) left
line_done shape groups lines text c number count line left events new more goes done = λ rest is_legal played.
    subst (λ t. PlayedFromStart shape groups lines t is_legal)
    (sym (append_assoc text (seen_line number line (sees c (events_of c line))) rest) ∙ ap (λ t. t ++ rest)
    (sym done.told))
    (goes (seen_line number line (sees c (events_of c line)) ++ rest) is_legal
    (inl (
      done.legal,
      (
        rest,
        (
          refl,
          subst (λ n. Played (run c (events_of c line)) (number + 1) (count + n) left rest is_legal) done.counted
              (subst (λ s. Played s (number + 1) (count + events) left rest is_legal) done.state played),
        ),
      ),
    )))

pub done_of : (old new : State) (number : ℕ) (line : EventLine) (before text : List ℕ) (turn : LineTurn) (events : ℕ)
    → turn ≡ Done events → Turned old number line before turn new text → IsLinePlayed old number line before events
    new text
done_of old new number line before text turn events is turned = subst (λ t. Turned old number line before t new text) is turned

-- the line at this place was done
pub place_done : (shape : CoreShape) (groups : List (ℕ × ℕ)) (lines : List EventLine) (text : List ℕ) (c : State) (number count place : ℕ)
    (default : EventLine) (events : ℕ) (new : State) (more : List ℕ) → place < length lines
    → GoesOn shape groups lines text c number count (drop place lines) → IsLinePlayed c number (get_or lines place default)
    text events new more → GoesOn shape groups lines more new (number + 1) (count + events) (drop (place + 1) lines)
place_done shape groups lines text c number count place default events new more inside goes done =
    let next : suc place ≡ place + 1 = omega arith in
    subst (λ n. GoesOn shape groups lines more new (number + 1) (count + events) (drop n lines)) next
    (line_done shape groups lines text c number count (get_or lines place default) (drop (suc place) lines) events new more
    (subst (λ l. GoesOn shape groups lines text c number count l) (drop-cons lines place default inside) goes) done)

-- the core keeps its shape
pub shape_done : (old new : State) (number : ℕ) (line : EventLine) (before text : List ℕ) (events : ℕ)
    (shape : CoreShape) → IsLinePlayed old number line before events new text → old.shape ≡ shape → new.shape ≡ shape
shape_done old new number line before text events shape done is = ap (λ s. s.shape) done.state ∙ run_shape old (events_of old line) ∙ is
