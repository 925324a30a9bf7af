-- The text of one thing seen.
use Rattle.std.specs.Fmt.{decimal}
use Rattle.std.specs.Prelude.{◌++◌, ◌-◌, ◌==◌, ◌^◌, ◌∷◌, codes, if◌then◌else◌, List, nat_lt, ℕ}
use Rattle.vm_event.specs.{declared.event.ReadIs.ReadIs, declared.event.Seen.Seen}
use Rattle.vm_event.specs.declared.event.ReadIs.TheVariants.{Closed, Moved, Opened, Same}
use Rattle.vm_event.specs.declared.event.Seen.TheVariants as seens
use Rattle.vm_script.specs.{declared.seen.Sight.Sight, EventLines.state_text}
use Rattle.vm_script.specs.declared.seen.Sight.TheVariants.{Bits, Done, Exchange, Failed, Loaded, Look, Next}
use Rattle.vm_script.specs.declared.seen.Sight.TheVariants.{NumberExchange, Owner, Place, State, Translation}

-- what became of the open read
abbrev pub left_name : ReadIs → List ℕ
left_name Opened = codes "opened"
left_name Same = codes "same"
left_name Moved = codes "moved"
left_name Closed = codes "closed"

-- `empty`, `frame F clean` or `frame F dirty`; no core has the word 2 ^ 63, which names no frame
abbrev pub translation_text : ℕ → List ℕ
translation_text word =
    if word == 0 then codes "empty" else if nat_lt word (2 ^ 63) then codes "frame " ++ decimal (word - 1) ++ codes
    " clean" else codes "frame " ++ decimal (word - 2 ^ 63 - 1) ++ codes " dirty"

-- `owner P` where a frame's owner word is P + 1, `owner none` where it is 0
abbrev pub owner_text : ℕ → List ℕ
owner_text word = if word == 0 then codes "owner none" else codes "owner " ++ decimal (word - 1)

-- a word that was seen
abbrev pub word_text : Sight → ℕ → List ℕ
word_text Translation word = translation_text word
word_text Loaded word = codes "word " ++ decimal word
word_text Bits word = codes "bits " ++ decimal word
word_text Next word = codes "next " ++ decimal word
word_text Place word = codes "place " ++ decimal word
word_text Owner word = owner_text word
word_text State word = state_text word
word_text Failed word = codes "failed " ++ decimal word
word_text Look word = decimal word
word_text Exchange word = decimal word
word_text NumberExchange word = decimal word
word_text Done word = decimal word

-- the word that an exchange found in place of the one that it expected
abbrev pub found_text : Sight → ℕ → List ℕ
found_text Exchange word = state_text word
found_text NumberExchange word = decimal word
found_text Look word = decimal word
found_text Translation word = decimal word
found_text Loaded word = decimal word
found_text Bits word = decimal word
found_text Next word = decimal word
found_text Place word = decimal word
found_text Owner word = decimal word
found_text State word = decimal word
found_text Failed word = decimal word
found_text Done word = decimal word

-- the text of what an event saw, told in this way
abbrev pub sight_text : Sight → Seen → List ℕ
sight_text sight seens.Done = codes "done"
sight_text sight (seens.Word word) = word_text sight word
sight_text sight (seens.Look word left) = state_text word ++ 32 ∷ left_name left
sight_text sight seens.Taken = codes "taken"
sight_text sight (seens.Lost word) = codes "lost " ++ found_text sight word

-- a word is seen
abbrev pub IsWord : Seen → Type 0
IsWord seens.Done = ⊥
IsWord (seens.Word word) = Unit {0}
IsWord (seens.Look word left) = ⊥
IsWord seens.Taken = ⊥
IsWord (seens.Lost word) = ⊥

-- an exchange was taken or lost
abbrev pub IsExchanged : Seen → Type 0
IsExchanged seens.Done = ⊥
IsExchanged (seens.Word word) = ⊥
IsExchanged (seens.Look word left) = ⊥
IsExchanged seens.Taken = Unit {0}
IsExchanged (seens.Lost word) = Unit {0}

-- a state word is seen, and what became of the open read
abbrev pub IsLook : Seen → Type 0
IsLook seens.Done = ⊥
IsLook (seens.Word word) = ⊥
IsLook (seens.Look word left) = Unit {0}
IsLook seens.Taken = ⊥
IsLook (seens.Lost word) = ⊥

-- nothing is seen
abbrev pub SeesNothing : Seen → Type 0
SeesNothing seens.Done = Unit {0}
SeesNothing (seens.Word word) = ⊥
SeesNothing (seens.Look word left) = ⊥
SeesNothing seens.Taken = ⊥
SeesNothing (seens.Lost word) = ⊥

-- what was seen is of the kind that is told in this way
abbrev pub FitsSight : Sight → Seen → Type 0
FitsSight Look seen = IsLook seen
FitsSight Exchange seen = IsExchanged seen
FitsSight NumberExchange seen = IsExchanged seen
FitsSight Done seen = SeesNothing seen
FitsSight Translation seen = IsWord seen
FitsSight Loaded seen = IsWord seen
FitsSight Bits seen = IsWord seen
FitsSight Next seen = IsWord seen
FitsSight Place seen = IsWord seen
FitsSight Owner seen = IsWord seen
FitsSight State seen = IsWord seen
FitsSight Failed seen = IsWord seen

-- the word that is seen, and 0 where none is
abbrev pub seen_word : Seen → ℕ
seen_word (seens.Word word) = word
seen_word seens.Done = 0
seen_word (seens.Look word left) = 0
seen_word seens.Taken = 0
seen_word (seens.Lost word) = 0

abbrev pub no_sight : Seen
no_sight = seens.Done
