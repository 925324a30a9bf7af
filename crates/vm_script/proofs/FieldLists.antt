-- Lists of numbers with single spaces between them.
use Rattle.std.specs.Fmt.{decimal}
use Rattle.std.proofs.Common.{[], ◌++◌, ◌<◌, ◌^◌, ◌∙◌, ◌∷◌, ◌≡◌, ◌≢◌, ◌≤◌, ap, arith, length, List, lit<, refl, subst}
use Rattle.std.proofs.Common.{suc, sym, take, zero, ℕ}
use Rattle.std.proofs.lemmas.Fmt.{decimal_injective}
use Rattle.vm_event.specs.declared.event.CoreShape.{CoreShape}
use Rattle.vm_script.specs.{Cuts.IsCut, Cuts.Lacks, declared.event_line.FieldKind.FieldKind}
use Rattle.vm_script.specs.declared.event_line.FieldKind.TheVariants.{Actor, Bundle, Count, Frame, Page, Place, Spare, State, Word}
use Rattle.vm_script.specs.EventLines.{AreFields, field_text, fields_text, IsField, IsShape}
use Rattle.vm_script.specs.EventWords.{AreNarrow, IsNarrow, used}
use Rattle.vm_script.proofs.StateWords.{lacks_state, one_state}
use Rattle.vm_script.proofs.Words.{cut_here, each_append, lacks_decimal, no_cut, one_cut}

pub field_small : (shape : CoreShape) (kind : FieldKind) (value : ℕ) → IsShape shape → IsField shape kind value → value < 2 ^ 64
field_small shape Actor value s is = omega (arith, s.actors)
field_small shape Page value s is = omega (arith, s.pages)
field_small shape Frame value s is = omega (arith, s.frames)
field_small shape Place value s is = omega arith
field_small shape Bundle value s is = omega (arith, s.frames)
field_small shape Spare value s is = omega (arith, s.pages)
field_small shape Word value s is = is
field_small shape State value s is = is
field_small shape Count value s is = omega arith

field_narrow : (shape : CoreShape) (kind : FieldKind) (value : ℕ) → IsShape shape → IsField shape kind value → IsNarrow kind value
field_narrow shape Actor value s is = omega (arith, s.actors)
field_narrow shape Page value s is = omega (arith, s.pages)
field_narrow shape Frame value s is = omega (arith, s.frames)
field_narrow shape Place value s is = omega arith
field_narrow shape Bundle value s is = omega (arith, s.frames)
field_narrow shape Spare value s is = omega (arith, s.pages)
field_narrow shape Word value s is = tt
field_narrow shape State value s is = tt
field_narrow shape Count value s is = is

pub fields_narrow : (shape : CoreShape) (kinds : List FieldKind) (values : List ℕ) → IsShape shape
    → AreFields shape kinds values → AreNarrow kinds values
fields_narrow shape [] [] s is = tt
fields_narrow shape [] (value ∷ values) s is = absurd is
fields_narrow shape (kind ∷ kinds) [] s is = absurd is
fields_narrow shape (kind ∷ kinds) (value ∷ values) s is = (field_narrow shape kind value s is.0, fields_narrow shape kinds values s is.1)

-- all but a state word is written in decimal
pub plain_text : (kind : FieldKind) (value : ℕ) → kind ≢ State → field_text kind value ≡ decimal value
plain_text State value other = absurd (other refl)
plain_text _ value other = refl

pub lacks_field : (at : ℕ) (shape : CoreShape) (kind : FieldKind) (value : ℕ) → at < 48 → IsShape shape
    → IsField shape kind value → Lacks at (field_text kind value)
lacks_field at shape State value low s is = lacks_state at value low is
lacks_field at shape kind value low s is = lacks_decimal at value low (field_small shape kind value s is)

pub joined : (kind : FieldKind) (more : List FieldKind) (value : ℕ) (values : List ℕ) → 0 < length more
    → fields_text (kind ∷ more) (value ∷ values) ≡ field_text kind value ++ 32 ∷ fields_text more values
joined kind [] value values some = absurd (omega arith)
joined kind (next ∷ more) value values some = refl

-- the numbers are a first one and others, and the text is cut between them
pub record IsSplit (shape : CoreShape) (kind : FieldKind) (more : List FieldKind) (values word rest : List ℕ) : Type 0 where
  pub first : ℕ
  pub others : List ℕ
  pub whole : values ≡ first ∷ others
  pub is_first : IsField shape kind first
  pub are_others : AreFields shape more others
  pub word_is : word ≡ field_text kind first
  pub rest_is : rest ≡ fields_text more others

pub split_fields : (shape : CoreShape) (kind : FieldKind) (more : List FieldKind) (values text word rest : List ℕ)
    → IsShape shape → 0 < length more → IsCut text 32 word rest → AreFields shape (kind ∷ more) values
    → text ≡ fields_text (kind ∷ more) values → IsSplit shape kind more values word rest
split_fields shape kind more [] text word rest s some cut is e = absurd is
split_fields shape kind more (value ∷ values) text word rest s some cut is e =
    let h = cut_here text 32 word rest (field_text kind value) (fields_text more values) cut
    (lacks_field 32 shape kind value (lit< tt) s is.0) (e ∙ joined kind more value values some) in
    record { first = value; others = values; whole = refl; is_first = is.0; are_others = is.1; word_is = h.0; rest_is = h.1 }

pub no_split : (shape : CoreShape) (kind : FieldKind) (more : List FieldKind) (values text : List ℕ) → 0 < length more
    → Lacks 32 text → AreFields shape (kind ∷ more) values → text ≡ fields_text (kind ∷ more) values → ⊥
no_split shape kind more [] text some l is e = is
no_split shape kind more (value ∷ values) text some l is e =
    no_cut 32 text (field_text kind value) (fields_text more values) l (e ∙ joined kind more value values some)

short_take : (n a b c d : ℕ) → n ≤ 3 → take n (a ∷ b ∷ c ∷ []) ≡ take n (a ∷ b ∷ c ∷ d ∷ [])
short_take zero a b c d few = refl
short_take (suc zero) a b c d few = refl
short_take (suc (suc zero)) a b c d few = refl
short_take (suc (suc (suc zero))) a b c d few = refl
short_take (suc (suc (suc (suc n)))) a b c d few = absurd (omega arith)

more_read : (shape : CoreShape) (kind : FieldKind) (more : List FieldKind) (first : ℕ)
    (others text word rest : List ℕ) → 0 < length more → IsCut text 32 word rest → IsField shape kind first
    → word ≡ field_text kind first
    → AreFields shape more others → rest ≡ fields_text more others → AreFields shape (kind ∷ more) (first ∷ others)
    × (text ≡ fields_text (kind ∷ more) (first ∷ others))
more_read shape kind more first others text word rest some cut is_first word_is are rest_is = (
  (is_first, are),
  cut.whole ∙ ap (λ (l : List ℕ). l ++ 32 ∷ rest) word_is
      ∙ ap (λ (l : List ℕ). field_text kind first ++ 32 ∷ l) rest_is ∙ sym (joined kind more first others some),
)

-- a first number and those of the others make one list
pub read_more : (shape : CoreShape) (kind : FieldKind) (more : List FieldKind) (a b c d e : ℕ)
    (text word rest : List ℕ) → 0 < length more → length more ≤ 3 → IsCut text 32 word rest
    → IsField shape kind a → word ≡ field_text kind a → AreFields shape more (used more (b, c, d, e))
    → rest ≡ fields_text more (used more (b, c, d, e))
    → AreFields shape (kind ∷ more) (used (kind ∷ more) (a, b, c, d)) × (text ≡ fields_text (kind ∷ more) (used (kind ∷ more) (a, b, c, d)))
read_more shape kind more a b c d e text word rest some few cut is_a word_is are rest_is =
    subst (λ (l : List ℕ). AreFields shape (kind ∷ more) l × (text ≡ fields_text (kind ∷ more) l))
    (ap (λ (l : List ℕ). a ∷ l) (sym (short_take (length more) b c d e few)))
    (more_read shape kind more a (used more (b, c, d, e)) text word rest some cut is_a word_is are rest_is)

-- ---- one list is spelled by one text

pub one_field : (shape : CoreShape) (kind : FieldKind) (one other : ℕ) → IsShape shape → IsField shape kind one
    → IsField shape kind other → field_text kind one ≡ field_text kind other → one ≡ other
one_field shape State one other s i j e = one_state one other i j e
one_field shape kind one other s i j e = decimal_injective one other (field_small shape kind one s i) (field_small shape kind other s j) e

pub one_list : (shape : CoreShape) (kinds : List FieldKind) (one other : List ℕ) → IsShape shape
    → AreFields shape kinds one → AreFields shape kinds other → fields_text kinds one ≡ fields_text kinds other
    → one ≡ other
one_list shape [] [] [] s i j e = refl
one_list shape [] [] (x ∷ xs) s i j e = absurd j
one_list shape [] (x ∷ xs) other s i j e = absurd i
one_list shape (kind ∷ kinds) [] other s i j e = absurd i
one_list shape (kind ∷ kinds) (x ∷ xs) [] s i j e = absurd j
one_list shape (kind ∷ []) (x ∷ []) (y ∷ []) s i j e = ap (λ (v : ℕ). v ∷ []) (one_field shape kind x y s i.0 j.0 e)
one_list shape (kind ∷ []) (x ∷ []) (y ∷ z ∷ ys) s i j e = absurd j.1
one_list shape (kind ∷ []) (x ∷ w ∷ xs) (y ∷ ys) s i j e = absurd i.1
one_list shape (kind ∷ next ∷ kinds) (x ∷ xs) (y ∷ ys) s i j e =
    let h = one_cut 32 (field_text kind x) (fields_text (next ∷ kinds) xs) (field_text kind y)
    (fields_text (next ∷ kinds) ys) (lacks_field 32 shape kind x (lit< tt) s i.0)
    (lacks_field 32 shape kind y (lit< tt) s j.0) e in
    let head : x ≡ y = one_field shape kind x y s i.0 j.0 h.0 in
    let tail : xs ≡ ys = one_list shape (next ∷ kinds) xs ys s i.1 j.1 h.1 in
    cc

-- no line feed stands in a list
pub lacks_fields : (shape : CoreShape) (kinds : List FieldKind) (values : List ℕ) → IsShape shape
    → AreFields shape kinds values → Lacks 10 (fields_text kinds values)
lacks_fields shape [] [] s is = tt
lacks_fields shape [] (x ∷ xs) s is = absurd is
lacks_fields shape (kind ∷ kinds) [] s is = absurd is
lacks_fields shape (kind ∷ []) (x ∷ []) s is = lacks_field 10 shape kind x (lit< tt) s is.0
lacks_fields shape (kind ∷ []) (x ∷ y ∷ ys) s is = absurd is.1
lacks_fields shape (kind ∷ next ∷ kinds) (x ∷ xs) s is =
    each_append (λ b. b ≢ 10) (field_text kind x) (32 ∷ fields_text (next ∷ kinds) xs)
    (lacks_field 10 shape kind x (lit< tt) s is.0) (λ e. omega arith, lacks_fields shape (next ∷ kinds) xs s is.1)
