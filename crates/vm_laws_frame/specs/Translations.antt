-- What a translation word says.
use Rattle.std.specs.Prelude.{◌%◌, ◌<◌, ◌^◌, ◌≡◌, None, Option, Some, ℕ}
use Rattle.vm_event.specs.Prelude.{mapping_of, trans_word}
use Rattle.vm_event.specs.declared.event.Mapping.{Mapping}

-- the frame's number has 32 bits
abbrev pub FitsWord : Option Mapping → Type 0
FitsWord None = Unit {0}
FitsWord (Some m) = m.frame < 2 ^ 32

-- a word says the translation that it was written from, and a word whose low 63 bits are 0 says none, also where its dirty bit is set
pub record TranslationsRead : Type 0 where
  pub back : (t : Option Mapping) → FitsWord t → mapping_of (trans_word t) ≡ t
  pub empty : (word : ℕ) → word % 2 ^ 63 ≡ 0 → mapping_of word ≡ None
