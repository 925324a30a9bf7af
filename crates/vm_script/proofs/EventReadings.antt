-- Bytes have one reading as an event list.
use Rattle.std.specs.List.{AllByRecursion}
use Rattle.std.proofs.Common.{[], ◌++◌, ◌+◌, ◌∙◌, ◌∷◌, ◌≡◌, ◌≤◌, ◌⊎◌, ap, append_assoc, arith, codes, drop, inl, inr}
use Rattle.std.proofs.Common.{length, length-append, List, subst, sym, ℕ}
use Rattle.std.proofs.lemmas.List.{append-nil}
use Rattle.vm_event.specs.Groups.{GroupsFit}
use Rattle.vm_event.specs.declared.event.CoreShape.{CoreShape}
use Rattle.vm_script.specs.{declared.event_line.EventLine.EventLine, declared.list_line.ListLine.ListLine}
use Rattle.vm_script.specs.{ListLines.list_line_text, Scripts.BeginsWith, Verbs.kinds_of, Verbs.verb_name}
use Rattle.vm_script.specs.declared.list_line.ListLine.TheVariants.{Event, Group}
use Rattle.vm_script.specs.EventLines.{fields_text, form, IsEventLine, IsShape, shape_text}
use Rattle.vm_script.specs.Events.{events_text, IsFirstBadEvent, IsFirstBadLine, LacksShape, lines_text}
use Rattle.vm_script.specs.Events.{most_event_lines, SpellsEvents}
use Rattle.vm_script.proofs.{Words.one_cut}
use Rattle.vm_script.proofs.EventTexts.{are_counts, lacks_shape, largest, one_shape}
use Rattle.vm_script.proofs.GroupLines.{counts as pair, IsListLine, lacks_list_line, length_lines, lines_are}
use Rattle.vm_script.proofs.GroupLines.{lines_ended, list_lines, next_line, numbers as sizes, one_list_line, same_lines}
use Rattle.vm_script.proofs.LineLists.{begins_of, Compared, compared as compared_lines, first_stopped, fewer, GoesOn, same, second_stopped}

whole : (shape : CoreShape) (groups : List (ℕ × ℕ)) (lines : List EventLine) (rest : List ℕ)
    → events_text shape groups lines ++ rest ≡ shape_text shape ++ 10 ∷ (lines_text groups lines ++ rest)
whole shape groups lines rest = append_assoc (shape_text shape) (10 ∷ lines_text groups lines) rest

-- lists of two shapes that leave the same bytes: the shapes are one, and so are the bytes behind them
shapes : (s t : CoreShape) (gs hs : List (ℕ × ℕ)) (a b : List EventLine) (rest rest' : List ℕ) → IsShape s → IsShape t
    → events_text s gs a ++ rest ≡ events_text t hs b ++ rest'
    → (s ≡ t) × (lines_text gs a ++ rest ≡ lines_text hs b ++ rest')
shapes s t gs hs a b rest rest' is is' e =
    let parts = one_cut 10 (shape_text s) (lines_text gs a ++ rest) (shape_text t) (lines_text hs b ++ rest')
    (lacks_shape s is) (lacks_shape t is') (sym (whole s gs a rest) ∙ e ∙ whole t hs b rest') in
    (one_shape s t (are_counts largest s is) is' (ap (λ (l : List ℕ). drop 6 l) parts.0), parts.1)

-- the lines behind a shape
abbrev IsBehind : CoreShape → List (ℕ × ℕ) → List EventLine → Type 0
IsBehind shape groups lines = GroupsFit shape.pages groups × AllByRecursion (IsEventLine shape) lines

-- two ways to read lines of a shape
compared : (shape : CoreShape) (gs hs : List (ℕ × ℕ)) (a b : List EventLine) (rest rest' : List ℕ) → IsShape shape
    → IsBehind shape gs a → IsBehind shape hs b → lines_text gs a ++ rest ≡ lines_text hs b ++ rest'
    → Compared (IsListLine shape) list_line_text (list_lines gs a) (list_lines hs b) rest rest'
compared shape gs hs a b rest rest' s is is' e =
    compared_lines (IsListLine shape) list_line_text (lacks_list_line shape s) (one_list_line shape s) (list_lines gs a)
    (list_lines hs b) rest rest' (lines_are shape gs a is.0 is.1) (lines_are shape hs b is'.0 is'.1)
    (ap (λ (l : List ℕ). l ++ rest) (lines_ended gs a) ∙ e ∙ sym (ap (λ (l : List ℕ). l ++ rest') (lines_ended hs b)))

-- a line is longer than a line feed
long_line : (line : ListLine) → 1 ≤ length (list_line_text line)
long_line (Group group) = omega (arith, length-append (codes "group") (32 ∷ fields_text pair (sizes group)))
long_line (Event line) =
    omega (arith, length-append (verb_name (form line).0) (32 ∷ fields_text (kinds_of (form line).0) (form line).1))

no_line : (shape : CoreShape) (a b : List ListLine) (rest : List ℕ) → length rest ≤ 1
    → GoesOn (IsListLine shape) list_line_text a b rest → ⊥
no_line shape a b rest few g =
    let long = ap length g.whole ∙ length-append (list_line_text g.line) (10 ∷ g.behind) in
    omega (arith, long, few, long_line g.line)

spelled : (bytes : List ℕ) (shape : CoreShape) (groups : List (ℕ × ℕ)) (lines : List EventLine)
    → SpellsEvents bytes shape groups lines
    → (bytes ≡ events_text shape groups lines ++ []) ⊎ (bytes ++ 10 ∷ [] ≡ events_text shape groups lines ++ [])
spelled bytes shape groups lines s = elim s.spelling [
  | inl e ↦ inl (e ∙ sym (append-nil (events_text shape groups lines)))
  | inr e ↦
      inr (e ∙ sym (append-nil (events_text shape groups lines)))
]

-- the same lines behind another name of the shape
behind_of : (s t : CoreShape) (groups : List (ℕ × ℕ)) (lines : List EventLine) → s ≡ t → IsBehind t groups lines
    → IsBehind s groups lines
behind_of s t groups lines e is = subst (λ (x : CoreShape). IsBehind x groups lines) (sym e) is

-- two readings that leave at most a line feed are one
one_of : (s t : CoreShape) (gs hs : List (ℕ × ℕ)) (a b : List EventLine) (rest rest' : List ℕ) → IsShape s → IsShape t
    → IsBehind s gs a → IsBehind t hs b → length rest ≤ 1 → length rest' ≤ 1
    → events_text s gs a ++ rest ≡ events_text t hs b ++ rest' → (s ≡ t) × (gs ≡ hs) × (a ≡ b)
one_of s t gs hs a b rest rest' limits limits' is is' few few' e =
    let first = shapes s t gs hs a b rest rest' limits limits' e in
    elim (compared s gs hs a b rest rest' limits is (behind_of s t hs b first.0 is') first.1) [
      | same all rests ↦ let both = same_lines gs hs a b all in (first.0, both.0, both.1)
      | first_stopped g ↦ absurd (no_line s (list_lines gs a) (list_lines hs b) rest few g)
      | second_stopped g ↦ absurd (no_line s (list_lines hs b) (list_lines gs a) rest' few' g)
    ]

pub one_list : (bytes : List ℕ) (s t : CoreShape) (gs hs : List (ℕ × ℕ)) (a b : List EventLine)
    → SpellsEvents bytes s gs a → SpellsEvents bytes t hs b → (s ≡ t) × (gs ≡ hs) × (a ≡ b)
one_list bytes s t gs hs a b x y = elim (spelled bytes s gs a x) [
  | inl e ↦ elim (spelled bytes t hs b y) [
    | inl k ↦ one [] [] (omega arith) (omega arith) (sym e ∙ k)
    | inr k ↦ one (10 ∷ []) [] (omega arith) (omega arith)
        (ap (λ (l : List ℕ). l ++ 10 ∷ []) (sym (append-nil (events_text s gs a)) ∙ sym e) ∙ k)
  ]
  | inr e ↦ elim (spelled bytes t hs b y) [
    | inl k ↦ one [] (10 ∷ []) (omega arith) (omega arith)
        (sym e ∙ ap (λ (l : List ℕ). l ++ 10 ∷ []) (k ∙ append-nil (events_text t hs b)))
    | inr k ↦ one [] [] (omega arith) (omega arith) (sym e ∙ k)
  ]
]
  where
    one : (rest rest' : List ℕ) → length rest ≤ 1 → length rest' ≤ 1
        → events_text s gs a ++ rest ≡ events_text t hs b ++ rest' → (s ≡ t) × (gs ≡ hs) × (a ≡ b)
    one rest rest' = one_of s t gs hs a b rest rest' x.limits y.limits (x.fit, x.each) (y.fit, y.each)

-- ---- the first bad line

-- a reading that stopped before a line, and is no first bad line for that
stops : (bytes : List ℕ) (n : ℕ) (bad : IsFirstBadLine bytes n) (groups : List (ℕ × ℕ)) (lines : List EventLine)
    → GroupsFit bad.shape.pages groups → length groups + length lines + 1 ≤ most_event_lines → (rest : List ℕ)
    → (g : GoesOn (IsListLine bad.shape) list_line_text (list_lines bad.groups bad.good) (list_lines groups lines) rest)
    → BeginsWith bad.rest (list_line_text g.line) → ⊥
stops bytes n bad groups lines fit most rest g begins = elim bad.bad [
  | inl full ↦ omega (
    arith,
    full,
    most,
    fewer (IsListLine bad.shape) list_line_text (list_lines bad.groups bad.good) (list_lines groups lines) rest g,
    length_lines bad.groups bad.good,
    length_lines groups lines,
  )
  | inr none ↦ none g.line (next_line bad.shape bad.groups groups bad.good lines g.line g.more fit g.is g.longer) begins
]

has_shape : (bytes : List ℕ) (n : ℕ) → IsFirstBadLine bytes n → LacksShape bytes → ⊥
has_shape bytes n bad lacks =
    lacks bad.shape bad.limits
    (inr (lines_text bad.groups bad.good ++ bad.rest, bad.front ∙ whole bad.shape bad.groups bad.good bad.rest))

one_line : (bytes : List ℕ) (m n : ℕ) → IsFirstBadLine bytes m → IsFirstBadLine bytes n → m ≡ n
one_line bytes m n a b =
    let first = shapes a.shape b.shape a.groups b.groups a.good b.good a.rest b.rest a.limits b.limits
    (sym a.front ∙ b.front) in
    elim (compared a.shape a.groups b.groups a.good b.good a.rest b.rest a.limits (a.fit, a.each)
    (behind_of a.shape b.shape b.groups b.good first.0 (b.fit, b.each)) first.1) [
      | same all rests ↦ let both = same_lines a.groups b.groups a.good b.good all in
          omega (arith, ap length both.0, ap length both.1, a.count, b.count)
      | first_stopped g ↦
          absurd (stops bytes m a b.groups b.good (fit_of first.0) b.few a.rest g (inr (g.behind, g.whole)))
      | second_stopped g ↦ absurd (other first.0 g)
    ]
  where
    fit_of : a.shape ≡ b.shape → GroupsFit a.shape.pages b.groups
    fit_of e = subst (λ (x : CoreShape). GroupsFit x.pages b.groups) (sym e) b.fit

    other : a.shape ≡ b.shape
        → GoesOn (IsListLine a.shape) list_line_text (list_lines b.groups b.good) (list_lines a.groups a.good) b.rest → ⊥
    other e g =
        let h = subst (λ (x : CoreShape). GoesOn (IsListLine x) list_line_text (list_lines b.groups b.good)
        (list_lines a.groups a.good) b.rest) e g in
        stops bytes n b a.groups a.good (subst (λ (x : CoreShape). GroupsFit x.pages a.groups) e a.fit) a.few b.rest h
        (inr (h.behind, h.whole))

pub one_bad_line : (bytes : List ℕ) (m n : ℕ) → IsFirstBadEvent bytes m → IsFirstBadEvent bytes n → m ≡ n
one_bad_line bytes m n (inl a) (inl b) = a.0 ∙ sym b.0
one_bad_line bytes m n (inl a) (inr b) = absurd (has_shape bytes n b a.1)
one_bad_line bytes m n (inr a) (inl b) = absurd (has_shape bytes m a b.1)
one_bad_line bytes m n (inr a) (inr b) = one_line bytes m n a b

-- ---- never both

no_lacks : (bytes : List ℕ) (shape : CoreShape) (groups : List (ℕ × ℕ)) (lines : List EventLine)
    → SpellsEvents bytes shape groups lines → LacksShape bytes → ⊥
no_lacks bytes shape groups lines s lacks = elim s.spelling [
  | inl e ↦ lacks shape s.limits (inr (lines_text groups lines, e))
  | inr e ↦ lacks shape s.limits (begins_of bytes (shape_text shape) (lines_text groups lines) e)
]

-- a bad line's list is spelled, or would be with a line feed
no_bad_at : (bytes : List ℕ) (shape : CoreShape) (groups : List (ℕ × ℕ)) (lines : List EventLine) (n : ℕ) (end : List ℕ)
    → SpellsEvents bytes shape groups lines → (bad : IsFirstBadLine bytes n)
    → events_text bad.shape bad.groups bad.good ++ (bad.rest ++ end) ≡ events_text shape groups lines ++ []
    → ((line : ListLine) (behind : List ℕ) → bad.rest ++ end ≡ list_line_text line ++ 10 ∷ behind
    → BeginsWith bad.rest (list_line_text line)) → ⊥
no_bad_at bytes shape groups lines n end s bad e begins =
    let first = shapes bad.shape shape bad.groups groups bad.good lines (bad.rest ++ end) [] bad.limits s.limits e in
    let is = behind_of bad.shape shape groups lines first.0 (s.fit, s.each) in
    elim (compared bad.shape bad.groups groups bad.good lines (bad.rest ++ end) [] bad.limits (bad.fit, bad.each) is
    first.1) [
      | same all rests ↦ omega (arith, ap length rests, length-append bad.rest end, bad.more)
      | first_stopped g ↦ stops bytes n bad groups lines is.0 s.few (bad.rest ++ end) g (begins g.line g.behind g.whole)
      | second_stopped g ↦
          no_line bad.shape (list_lines groups lines) (list_lines bad.groups bad.good) [] (omega arith) g
    ]

no_bad : (bytes : List ℕ) (shape : CoreShape) (groups : List (ℕ × ℕ)) (lines : List EventLine) (n : ℕ)
    → SpellsEvents bytes shape groups lines → IsFirstBadLine bytes n → ⊥
no_bad bytes shape groups lines n s bad = elim (spelled bytes shape groups lines s) [
  | inl e ↦ no_bad_at bytes shape groups lines n [] s bad
      (ap (λ (l : List ℕ). events_text bad.shape bad.groups bad.good ++ l) (append-nil bad.rest) ∙ sym bad.front ∙ e)
      (λ line behind there. inr (behind, sym (append-nil bad.rest) ∙ there))
  | inr e ↦ no_bad_at bytes shape groups lines n (10 ∷ []) s bad
      (sym (append_assoc (events_text bad.shape bad.groups bad.good) bad.rest (10 ∷ []))
      ∙ ap (λ (l : List ℕ). l ++ 10 ∷ []) (sym bad.front) ∙ e)
      (λ line behind there. begins_of bad.rest (list_line_text line) behind there)
]

pub not_both : (bytes : List ℕ) (shape : CoreShape) (groups : List (ℕ × ℕ)) (lines : List EventLine) (n : ℕ)
    → SpellsEvents bytes shape groups lines → IsFirstBadEvent bytes n → ⊥
not_both bytes shape groups lines n s (inl bad) = no_lacks bytes shape groups lines s bad.1
not_both bytes shape groups lines n s (inr bad) = no_bad bytes shape groups lines n s bad
