-- What the words of a form say, one for each slot.
use Rattle.std.specs.Prelude.{◌≡◌, ◌<◌, ◌≤◌, ◌^◌, ℕ, Bool, true, false, List, [], ◌∷◌, length, map, Option, Some, None}
use Rattle.std.specs.Fmt.{decimal}
use Rattle.std.specs.List.{Contains}
use Rattle.clap.specs.Words.{Row, Text, first_of}
use Rattle.vm_image.specs.declared.blocks.PlannedFault.{PlannedFault}
use Rattle.vm_script.specs.Decimals.{ReadsNumber}
use Rattle.vm_script.specs.EventWords.{ReadsAs}
use Rattle.vm_script.specs.Faults.{IsPlan, plan_text}
use Rattle.vm_words.specs.declared.form.FormSlot.{FormSlot}
use Rattle.vm_words.specs.declared.form.FormKind.{FormKind}
use Rattle.vm_words.specs.declared.form.FormKind.TheVariants.{Name, Number, Faults}
use Rattle.vm_words.specs.declared.value.Value.{Value}
use Rattle.vm_words.specs.declared.value.Value.TheVariants.{Named, Counted, Planned, Absent}
use Rattle.vm_words.specs.Forms.{is_needed, kind_in, place_in, slot_text}

-- a name, a number, a plan of failures, or that there is no word
pub data Meaning : Type 0 where
  named : Text → Meaning
  counted : ℕ → Meaning
  planned : List PlannedFault → Meaning
  absent : Meaning

abbrev pub meaning_of : Value → Meaning
meaning_of (Named text) = named text.now
meaning_of (Counted n) = counted n
meaning_of (Planned plan) = planned plan.items
meaning_of Absent = absent

abbrev pub meanings_of : List Value → List Meaning
meanings_of values = map meaning_of values

-- the text is read as this: a name as it is, a number from its canonical decimal, a plan from its entries
abbrev pub IsRead : FormKind → Text → Meaning → Type 0
IsRead Name text meaning = meaning ≡ named text
IsRead Number text meaning = (n : ℕ) × (n < 2 ^ 64) × (text ≡ decimal n) × (meaning ≡ counted n)
IsRead Faults text meaning = (plan : List PlannedFault) × IsPlan plan × (text ≡ plan_text plan) × (meaning ≡ planned plan)

-- the text is none of this kind: of no number below 2 ^ 64 the canonical decimal, of no plan the entries
abbrev pub IsOdd : FormKind → Text → Type 0
IsOdd Name text = ⊥
IsOdd Number text = ReadsNumber text None
IsOdd Faults text = ReadsAs IsPlan plan_text text None

-- what the reader of a text answers
abbrev pub ReadsText : FormKind → Text → Option Meaning → Type 0
ReadsText kind text (Some meaning) = IsRead kind text meaning
ReadsText kind text None = IsOdd kind text

-- what was found for a slot says this; a word that may be left out may say nothing
abbrev pub IsSlotFilled : FormSlot → Option Text → Meaning → Type 0
IsSlotFilled slot (Some text) meaning = IsRead (kind_in slot) text meaning
IsSlotFilled slot None meaning = (is_needed (place_in slot) ≡ false) × (meaning ≡ absent)

-- what was found for a slot says nothing: a word that has to be there is not, or it is none of the slot's kind
abbrev pub IsUnfilled : FormSlot → Option Text → Type 0
IsUnfilled slot (Some text) = IsOdd (kind_in slot) text
IsUnfilled slot None = is_needed (place_in slot) ≡ true

abbrev pub ReadsSlot : FormSlot → Option Text → Option Meaning → Type 0
ReadsSlot slot found (Some meaning) = IsSlotFilled slot found meaning
ReadsSlot slot found None = IsUnfilled slot found

-- what clap found for the slots says this, slot by slot
abbrev pub AreFilled : List FormSlot → List Row → List Meaning → Type 0
AreFilled [] rows [] = Unit {0}
AreFilled [] rows (meaning ∷ meanings) = ⊥
AreFilled (slot ∷ slots) rows [] = ⊥
AreFilled (slot ∷ slots) rows (meaning ∷ meanings) =
    IsSlotFilled slot (first_of (slot_text slot) rows) meaning × AreFilled slots rows meanings

-- one of the slots says nothing
pub record HasUnfilled (slots : List FormSlot) (rows : List Row) : Type 0 where
  pub slot : FormSlot
  pub among : Contains slots slot
  pub unfilled : IsUnfilled slot (first_of (slot_text slot) rows)

abbrev pub ReadsSlots : List FormSlot → List Row → Option (List Meaning) → Type 0
ReadsSlots slots rows (Some meanings) = AreFilled slots rows meanings
ReadsSlots slots rows None = HasUnfilled slots rows

-- what a value of this kind may be, where it has to be there
abbrev pub IsGiven : FormKind → Meaning → Type 0
IsGiven Name meaning = (text : Text) × (meaning ≡ named text)
IsGiven Number meaning = (n : ℕ) × (meaning ≡ counted n)
IsGiven Faults meaning = (plan : List PlannedFault) × (1 ≤ length plan) × (meaning ≡ planned plan)

-- and where it may be left out
pub data IsGivenOrLeftOut (kind : FormKind) (meaning : Meaning) : Type 0 where
  given : IsGiven kind meaning → IsGivenOrLeftOut kind meaning
  left_out : meaning ≡ absent → IsGivenOrLeftOut kind meaning

abbrev pub IsMeant : Bool → FormKind → Meaning → Type 0
IsMeant true kind meaning = IsGiven kind meaning
IsMeant false kind meaning = IsGivenOrLeftOut kind meaning

-- the first of these values is of this kind
abbrev pub FirstIsMeant : Bool → FormKind → List Meaning → Type 0
FirstIsMeant needed kind [] = ⊥
FirstIsMeant needed kind (meaning ∷ meanings) = IsMeant needed kind meaning

abbrev pub behind : List Meaning → List Meaning
behind [] = []
behind (meaning ∷ meanings) = meanings

-- the values are of the slots' kinds, slot by slot
abbrev pub AreMeant : List FormSlot → List Meaning → Type 0
AreMeant [] meanings = meanings ≡ []
AreMeant (slot ∷ slots) meanings = FirstIsMeant (is_needed (place_in slot)) (kind_in slot) meanings × AreMeant slots (behind meanings)
