-- The text of one line: where it is cut, and that it is the line's alone.
use Rattle.std.proofs.Common.{[], ◌++◌, ◌∙◌, ◌∷◌, ◌≡◌, ◌≢◌, ap₂, arith, codes, List, lit<, lit≤, subst, sym, ℕ}
use Rattle.vm_event.specs.declared.event.CoreShape.{CoreShape}
use Rattle.vm_script.specs.{Cuts.IsCut, Cuts.Lacks, declared.event_line.EventLine.EventLine, declared.event_line.FieldKind.FieldKind}
use Rattle.vm_script.specs.{declared.event_line.FieldKind.TheVariants.Count, declared.event_line.Verb.Verb, Verbs.kinds_of, Verbs.verb_name}
use Rattle.vm_script.specs.EventLines.{AreFields, event_line_text, fields_text, form, form_text, IsEventLine, IsShape, shape_text}
use Rattle.vm_script.proofs.{FieldLists.lacks_fields, FieldLists.one_list, VerbNames.lacks_verb, VerbNames.one_verb, Words.cut_here}
use Rattle.vm_script.proofs.{Words.each_append}

-- a line's text is cut behind the verb
pub cut_line : (bytes word rest : List ℕ) (line : EventLine) → IsCut bytes 32 word rest → bytes ≡ event_line_text line
    → (word ≡ verb_name (form line).0) × (rest ≡ fields_text (kinds_of (form line).0) (form line).1)
cut_line bytes word rest line cut e = cut_here bytes 32 word rest (verb_name (form line).0)
    (fields_text (kinds_of (form line).0) (form line).1) cut (lacks_verb 32 (form line).0 (lit< tt)) e

-- the line of a verb and numbers has their text
pub made_line : (shape : CoreShape) (line : EventLine) (bytes word rest : List ℕ) (verb : Verb) (values : List ℕ)
    → form line ≡ (verb, values) → AreFields shape (kinds_of verb) values → IsCut bytes 32 word rest
    → word ≡ verb_name verb → rest ≡ fields_text (kinds_of verb) values
    → IsEventLine shape line × (bytes ≡ event_line_text line)
made_line shape line bytes word rest verb values made are cut word_is rest_is =
    subst (λ (f : Verb × List ℕ). AreFields shape (kinds_of f.0) f.1 × (bytes ≡ form_text f)) (sym made)
    (are, cut.whole ∙ ap₂ (λ (a b : List ℕ). a ++ 32 ∷ b) word_is rest_is)

-- where the verb is the same, so are the kinds
pub other_rest : (verb : Verb) (line : EventLine) (word : List ℕ) → word ≡ verb_name verb
    → word ≡ verb_name (form line).0 → (form line).0 ≡ verb
other_rest verb line word e k = one_verb (form line).0 verb (sym k ∙ e)

pub lacks_line : (shape : CoreShape) (line : EventLine) → IsShape shape → IsEventLine shape line → Lacks 10 (event_line_text line)
lacks_line shape line s is = each_append (λ b. b ≢ 10) (verb_name (form line).0)
    (32 ∷ fields_text (kinds_of (form line).0) (form line).1) (lacks_verb 10 (form line).0 (lit< tt))
    (λ e. omega arith, lacks_fields shape (kinds_of (form line).0) (form line).1 s is)

-- ---- the shape line

abbrev pub counts : List FieldKind
counts = Count ∷ Count ∷ Count ∷ Count ∷ []

abbrev pub numbers : CoreShape → List ℕ
numbers shape = shape.pages ∷ shape.frames ∷ shape.actors ∷ shape.next ∷ []

pub are_counts : (any shape : CoreShape) → IsShape shape → AreFields any counts (numbers shape)
are_counts any shape s = (
  omega (arith, s.pages),
  (omega (arith, s.frames), (omega (arith, s.actors), (omega (arith, s.pages, s.next), tt))),
)

shape_word : Lacks 32 (codes "shape")
shape_word = (λ e. omega arith, (λ e. omega arith, (λ e. omega arith, (λ e. omega arith, (λ e. omega arith, tt)))))

pub cut_shape : (bytes word rest : List ℕ) (shape : CoreShape) → IsCut bytes 32 word rest → bytes ≡ shape_text shape
    → (word ≡ codes "shape") × (rest ≡ fields_text counts (numbers shape))
cut_shape bytes word rest shape cut e = cut_here bytes 32 word rest (codes "shape") (fields_text counts (numbers shape)) cut shape_word e

pub lacks_shape : (shape : CoreShape) → IsShape shape → Lacks 10 (shape_text shape)
lacks_shape shape s = (
  λ e. omega arith,
  (
    λ e. omega arith,
    (
      λ e. omega arith,
      (
        λ e. omega arith,
        (
          λ e. omega arith,
          (λ e. omega arith, lacks_fields shape counts (numbers shape) s (are_counts shape shape s)),
        ),
      ),
    ),
  ),
)

-- a shape whose numbers may be counts
abbrev pub largest : CoreShape
largest = record { pages = 64; frames = 256; actors = 64; next = 64 }

pub largest_is : IsShape largest
largest_is = record { pages = (lit≤ tt, lit≤ tt); frames = (lit≤ tt, lit≤ tt); actors = (lit≤ tt, lit≤ tt); next = (lit≤ tt, lit≤ tt) }

same_shape : (one other : CoreShape) → numbers one ≡ numbers other → one ≡ other
same_shape one other e =
    let p : one.pages ≡ other.pages = cc in
    let f : one.frames ≡ other.frames = cc in
    let a : one.actors ≡ other.actors = cc in
    let n : one.next ≡ other.next = cc in
    λ i. record { pages = p i; frames = f i; actors = a i; next = n i }

-- one shape is spelled by one list
pub one_shape : (one other : CoreShape) → AreFields largest counts (numbers one) → IsShape other
    → fields_text counts (numbers one) ≡ fields_text counts (numbers other) → one ≡ other
one_shape one other are s e =
    same_shape one other (one_list largest counts (numbers one) (numbers other) largest_is are
    (are_counts largest other s) e)
