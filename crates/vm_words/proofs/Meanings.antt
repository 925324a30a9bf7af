-- What words say: each text says one thing, and what the slots say is of their kinds.
use Rattle.std.proofs.Common.{◌≡◌, ◌<◌, ◌+◌, ◌∙◌, ℕ, zero, suc, Bool, true, false, refl, sym, ap, ap₂, subst, arith}
use Rattle.std.proofs.Common.{List, [], ◌∷◌, ◌++◌, length, take, get_or, slice_index_or, Option, Some, None}
use Rattle.std.specs.List.{AllByRecursion}
use Rattle.std.proofs.lemmas.Fmt.{decimal_injective}
use Rattle.std.proofs.lemmas.List.{map-append}
use Rattle.clap.specs.Walk.{Row, Text, first_of}
use Rattle.vm_image.specs.declared.blocks.PlannedFault.{PlannedFault}
use Rattle.vm_script.proofs.Plans.{one_plan}
use Rattle.vm_words.specs.declared.form.FormKind.{FormKind}
use Rattle.vm_words.specs.declared.form.FormKind.TheVariants.{Name, Number, Faults}
use Rattle.vm_words.specs.declared.form.FormSlot.{FormSlot}
use Rattle.vm_words.specs.declared.value.Value.{Value}
use Rattle.vm_words.specs.Forms.{is_needed, kind_in, place_in, slot_text}
use Rattle.vm_words.specs.Values.{AreFilled, AreMeant, IsSlotFilled, IsGiven, IsMeant, IsOdd, IsRead, Meaning}
use Rattle.vm_words.specs.Values.{counted, planned, given, left_out, meaning_of, meanings_of}

-- ---- one meaning

one_meaning : (kind : FormKind) (text : Text) (a b : Meaning) → IsRead kind text a → IsRead kind text b → a ≡ b
one_meaning Name text a b p q = p ∙ sym q
one_meaning Number text a b p q = p.3 ∙ ap (λ (n : ℕ). counted n) (decimal_injective p.0 q.0 p.1 q.1 (sym p.2 ∙ q.2)) ∙ sym q.3
one_meaning Faults text a b p q = p.3 ∙ ap (λ (plan : List PlannedFault). planned plan) (one_plan p.0 q.0 p.1 q.1 (sym p.2 ∙ q.2)) ∙ sym q.3

-- a word that is none of a kind is not read as one
pub not_odd : (kind : FormKind) (text : Text) (meaning : Meaning) → IsOdd kind text → IsRead kind text meaning → ⊥
not_odd Name text meaning odd is = odd
not_odd Number text meaning odd is = odd is.0 is.1 is.2
not_odd Faults text meaning odd is = odd is.0 is.1 is.2

one_filled : (slot : FormSlot) (found : Option Text) (a b : Meaning) → IsSlotFilled slot found a → IsSlotFilled slot found b → a ≡ b
one_filled slot (Some text) a b p q = one_meaning (kind_in slot) text a b p q
one_filled slot None a b p q = p.1 ∙ sym q.1

pub one_list : (slots : List FormSlot) (rows : List Row) (a b : List Meaning) → AreFilled slots rows a → AreFilled slots rows b → a ≡ b
one_list [] rows [] [] p q = refl
one_list [] rows [] (b ∷ others) p q = absurd q
one_list [] rows (a ∷ more) b p q = absurd p
one_list (slot ∷ slots) rows [] b p q = absurd p
one_list (slot ∷ slots) rows (a ∷ more) [] p q = absurd q
one_list (slot ∷ slots) rows (a ∷ more) (b ∷ others) p q =
    ap₂ (λ (x : Meaning) (xs : List Meaning). x ∷ xs) (one_filled slot (first_of (slot_text slot) rows) a b p.0 q.0)
    (one_list slots rows more others p.1 q.1)

-- ---- one of the slots

pub filled_at : (slots : List FormSlot) (rows : List Row) (meanings : List Meaning) (slot : FormSlot) (k : ℕ)
    → k < length slots → slice_index_or slots k slot ≡ slot → AreFilled slots rows meanings
    → (meaning : Meaning) × IsSlotFilled slot (first_of (slot_text slot) rows) meaning
filled_at [] rows meanings slot k h e f = absurd (omega arith)
filled_at (x ∷ xs) rows [] slot k h e f = absurd f
filled_at (x ∷ xs) rows (m ∷ ms) slot zero h e f = (m, subst (λ (y : FormSlot). IsSlotFilled y (first_of (slot_text y) rows) m) e f.0)
filled_at (x ∷ xs) rows (m ∷ ms) slot (suc k) h e f = filled_at xs rows ms slot k (omega arith) e f.1

-- what holds of all elements holds of one of them
pub each_at : {X : Type 0} (P : X → Type 0) (xs : List X) (x : X) (k : ℕ) → k < length xs → slice_index_or xs k x ≡ x
    → AllByRecursion P xs → P x
each_at P [] x k h e all = absurd (omega arith)
each_at P (y ∷ ys) x zero h e all = subst P e all.0
each_at P (y ∷ ys) x (suc k) h e all = each_at P ys x k (omega arith) e all.1

-- ---- slots that are read one after another

next_filled : (slots : List FormSlot) (i : ℕ) (d : FormSlot) (rows : List Row) (meanings : List Meaning)
    (meaning : Meaning) → i < length slots → AreFilled (take i slots) rows meanings
    → IsSlotFilled (get_or slots i d) (first_of (slot_text (get_or slots i d)) rows) meaning
    → AreFilled (take (i + 1) slots) rows (meanings ++ meaning ∷ [])
next_filled [] i d rows ms m h f g = absurd (omega arith)
next_filled (s ∷ ss) zero d rows [] m h f g = (g, tt)
next_filled (s ∷ ss) zero d rows (n ∷ ms) m h f g = absurd f
next_filled (s ∷ ss) (suc i) d rows [] m h f g = absurd f
next_filled (s ∷ ss) (suc i) d rows (n ∷ ms) m h f g =
    let e : suc i + 1 ≡ suc (i + 1) = omega arith in rw e (f.0, next_filled ss i d rows ms m (omega arith) f.1 g)

pub filled_more : (slots : List FormSlot) (i : ℕ) (d : FormSlot) (rows : List Row) (values news : List Value)
    (value : Value) → i < length slots → news ≡ values ++ value ∷ []
    → AreFilled (take i slots) rows (meanings_of values)
    → IsSlotFilled (get_or slots i d) (first_of (slot_text (get_or slots i d)) rows) (meaning_of value)
    → AreFilled (take (i + 1) slots) rows (meanings_of news)
filled_more slots i d rows values news value h e f g =
    let more : meanings_of news ≡ meanings_of values ++ meaning_of value ∷ [] =
    ap meanings_of e ∙ map-append meaning_of values (value ∷ []) in
    subst (λ (ms : List Meaning). AreFilled (take (i + 1) slots) rows ms) (sym more)
    (next_filled slots i d rows (meanings_of values) (meaning_of value) h f g)

-- ---- what the slots say is of their kinds

given_of : (kind : FormKind) (text : Text) (meaning : Meaning) → IsRead kind text meaning → IsGiven kind meaning
given_of Name text meaning is = (text, is)
given_of Number text meaning is = (is.0, is.3)
given_of Faults text meaning is = (is.0, is.1.some, is.3)

meant_so : (needed : Bool) (kind : FormKind) (meaning : Meaning) → IsGiven kind meaning → IsMeant needed kind meaning
meant_so true kind meaning is = is
meant_so false kind meaning is = given is

meant : (slot : FormSlot) (found : Option Text) (meaning : Meaning) → IsSlotFilled slot found meaning
    → IsMeant (is_needed (place_in slot)) (kind_in slot) meaning
meant slot (Some text) meaning is = meant_so (is_needed (place_in slot)) (kind_in slot) meaning (given_of (kind_in slot) text meaning is)
meant slot None meaning is = subst (λ (b : Bool). IsMeant b (kind_in slot) meaning) (sym is.0) (left_out is.1)

pub are_meant : (slots : List FormSlot) (rows : List Row) (meanings : List Meaning) → AreFilled slots rows meanings
    → AreMeant slots meanings
are_meant [] rows [] f = refl
are_meant [] rows (m ∷ ms) f = absurd f
are_meant (s ∷ ss) rows [] f = absurd f
are_meant (s ∷ ss) rows (m ∷ ms) f = (meant s (first_of (slot_text s) rows) m f.0, are_meant ss rows ms f.1)
