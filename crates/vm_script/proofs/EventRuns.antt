-- An event list that is read in part, and the first bad line of one.
use Rattle.std.specs.List.{AllByRecursion, flat_map}
use Rattle.std.proofs.Common.{[], ◌++◌, ◌+◌, ◌<◌, ◌∙◌, ◌∷◌, ◌≡◌, ◌≤◌, ◌⊎◌, ap, append_assoc, arith, inl, inr}
use Rattle.std.proofs.Common.{length, List, None, sym, ℕ}
use Rattle.std.proofs.lemmas.Grind.{flat_map-append}
use Rattle.std.proofs.lemmas.List.{append-nil}
use Rattle.vm_event.specs.Groups.{GroupsFit}
use Rattle.vm_event.specs.declared.event.CoreShape.{CoreShape}
use Rattle.vm_script.specs.{Cuts.IsLine, declared.event_line.EventLine.EventLine, EventWords.ReadsAs}
use Rattle.vm_script.specs.{declared.list_line.ListLine.ListLine, ListLines.IsNextLine, ListLines.list_line_text}
use Rattle.vm_script.specs.declared.list_line.ListLine.TheVariants.{Event, Group}
use Rattle.vm_script.specs.EventLines.{event_line_text, group_text, IsEventLine, IsShape, shape_text}
use Rattle.vm_script.specs.Events.{events_text, IsFirstBadEvent, LacksShape, lines_text, most_event_lines}
use Rattle.vm_script.proofs.{EventTexts.lacks_shape, GroupLines.fit_last, GroupLines.IsListLine}
use Rattle.vm_script.proofs.{GroupLines.lacks_list_line, Lines.first_line}

-- this shape, these groups and these lines are read, and the rest is still to be read
pub record IsEventsRead (bytes : List ℕ) (shape : CoreShape) (groups : List (ℕ × ℕ)) (lines : List EventLine)
    (rest : List ℕ) : Type 0 where
  pub limits : IsShape shape
  pub fit : GroupsFit shape.pages groups
  pub each : AllByRecursion (IsEventLine shape) lines
  pub front : (bytes ≡ events_text shape groups lines ++ rest)
      ⊎ ((rest ≡ []) × (bytes ++ 10 ∷ [] ≡ events_text shape groups lines))

pub no_shape : (bytes line behind : List ℕ) → IsLine bytes line behind → ReadsAs IsShape shape_text line None → LacksShape bytes
no_shape bytes line behind l none =
    λ shape s begins. none shape s (first_line bytes line behind (shape_text shape) l (lacks_shape shape s) begins)

whole : (bytes rest : List ℕ) (shape : CoreShape) (groups : List (ℕ × ℕ)) (lines : List EventLine)
    → IsEventsRead bytes shape groups lines rest → 0 < length rest → bytes ≡ events_text shape groups lines ++ rest
whole bytes rest shape groups lines r more = elim r.front [ inl e ↦ e | inr e ↦ absurd (omega (arith, ap length e.0)) ]

-- ---- one line more

-- behind a text the bytes go on with a line
front_more : (bytes rest line behind old new : List ℕ) → bytes ≡ old ++ rest → IsLine rest line behind
    → new ≡ old ++ (line ++ 10 ∷ []) → (bytes ≡ new ++ behind) ⊎ ((behind ≡ []) × (bytes ++ 10 ∷ [] ≡ new))
front_more bytes rest line behind old new e l is = elim l.whole [
  | inl w ↦ inl (e ∙ ap (λ x. old ++ x) (w ∙ sym (append_assoc line (10 ∷ []) behind))
      ∙ sym (append_assoc old (line ++ 10 ∷ []) behind) ∙ ap (λ x. x ++ behind) (sym is))
  | inr w ↦ inr (
    w.1,
    ap (λ x. x ++ 10 ∷ []) (e ∙ ap (λ x. old ++ x) w.0) ∙ append_assoc old line (10 ∷ []) ∙ sym is,
  )
]

-- the shape line stays in front
shape_more : (shape : CoreShape) (old new more : List ℕ) → new ≡ old ++ more
    → shape_text shape ++ 10 ∷ new ≡ (shape_text shape ++ 10 ∷ old) ++ more
shape_more shape old new more e =
    ap (λ x. shape_text shape ++ 10 ∷ x) e ∙ sym (append_assoc (shape_text shape) (10 ∷ old) more)

flat_more : {X : Type 0} (text : X → List ℕ) (xs : List X) (x : X)
    → flat_map (λ y. text y ++ 10 ∷ []) (xs ++ x ∷ []) ≡ flat_map (λ y. text y ++ 10 ∷ []) xs ++ (text x ++ 10 ∷ [])
flat_more text xs x =
    flat_map-append (λ y. text y ++ 10 ∷ []) xs (x ∷ [])
    ∙ ap (λ l. flat_map (λ y. text y ++ 10 ∷ []) xs ++ l) (append-nil (text x ++ 10 ∷ []))

-- a group behind groups alone
pub group_more : (bytes rest line behind : List ℕ) (shape : CoreShape) (groups : List (ℕ × ℕ))
    (lines : List EventLine) (group : ℕ × ℕ) → IsEventsRead bytes shape groups lines rest → 0 < length rest → IsLine rest line behind
    → IsNextLine shape groups lines (Group group) → line ≡ group_text group
    → IsEventsRead bytes shape (groups ++ group ∷ []) lines behind
group_more bytes rest line behind shape groups lines group r more l is same = record {
  limits = r.limits;
  fit = is.1;
  each = r.each;
  front = front_more bytes rest line behind (events_text shape groups lines)
      (events_text shape (groups ++ group ∷ []) lines) (whole bytes rest shape groups lines r more) l
      (shape_more shape (lines_text groups lines) (lines_text (groups ++ group ∷ []) lines) (line ++ 10 ∷ []) text);
}
  where
    before : List ℕ
    before = flat_map (λ g. group_text g ++ 10 ∷ []) groups

    none : flat_map (λ e. event_line_text e ++ 10 ∷ []) lines ≡ []
    none = ap (flat_map (λ e. event_line_text e ++ 10 ∷ [])) is.0

    text : lines_text (groups ++ group ∷ []) lines ≡ lines_text groups lines ++ (line ++ 10 ∷ [])
    text = rw none (
        append-nil (flat_map (λ g. group_text g ++ 10 ∷ []) (groups ++ group ∷ [])) ∙ flat_more group_text groups group
        ∙ ap (λ l. before ++ (l ++ 10 ∷ [])) (sym same) ∙ ap (λ l. l ++ (line ++ 10 ∷ [])) (sym (append-nil before))
        )

-- ---- a bad line

next_is : (shape : CoreShape) (groups : List (ℕ × ℕ)) (lines : List EventLine) (line : ListLine)
    → IsNextLine shape groups lines line → IsListLine shape line
next_is shape groups lines (Group group) is = (fit_last shape.pages groups group is.1).is
next_is shape groups lines (Event line) is = is

-- a bad line behind good ones is the first bad one
pub bad_event : (bytes rest line behind : List ℕ) (shape : CoreShape) (groups : List (ℕ × ℕ))
    (lines : List EventLine) (n : ℕ) → IsEventsRead bytes shape groups lines rest → 0 < length rest → length groups + length lines + 2 ≡ n
    → length groups + length lines + 1 ≤ most_event_lines → IsLine rest line behind
    → ReadsAs (IsNextLine shape groups lines) list_line_text line None → IsFirstBadEvent bytes n
bad_event bytes rest line behind shape groups lines n r more count few l none = inr record {
  shape = shape;
  groups = groups;
  good = lines;
  rest = rest;
  limits = r.limits;
  fit = r.fit;
  each = r.each;
  front = whole bytes rest shape groups lines r more;
  more = more;
  count = count;
  few = few;
  bad = inr (λ event is begins.
      none event is (first_line rest line behind (list_line_text event) l
      (lacks_list_line shape r.limits event (next_is shape groups lines event is)) begins));
}
