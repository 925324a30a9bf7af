-- The words of the machine.
use Rattle.std.specs.Int.{bit_at}
use Rattle.std.specs.Prelude.{◌%◌, ◌&&◌, ◌*◌, ◌+◌, ◌-◌, ◌/◌, ◌<◌, ◌==◌, ◌^◌, ◌||◌, ◌≡◌, bit_and, Bool, if◌then◌else◌}
use Rattle.std.specs.Prelude.{min, nat_lt, None, Option, Some, ℕ}
unfoldable pub use Rattle.vm_page.specs.Counts.{count_more}
use Rattle.vm_event.specs.{declared.words.TheConstants.FRAMES, declared.words.TheConstants.STRIDE, Fn.sum_below}

-- a state word has its state in the top 8 bits, and its version below
unfoldable pub word_of : ℕ → ℕ → ℕ
word_of state version = state * 2 ^ 56 + version

unfoldable pub state_of : ℕ → ℕ
state_of word = word / 2 ^ 56

unfoldable pub version_of : ℕ → ℕ
version_of word = word % 2 ^ 56

abbrev pub UNLOCKED : ℕ
UNLOCKED = 0

abbrev pub LOCKED : ℕ
LOCKED = 253

abbrev pub MARKED : ℕ
MARKED = 254

abbrev pub EVICTED : ℕ
EVICTED = 255

-- the last version
abbrev pub MAX_VERSION : ℕ
MAX_VERSION = 72057594037927935

-- the clock's next place: 64 further, wrapping
unfoldable pub hand_more : ℕ → ℕ
hand_more hand = (hand + STRIDE) % 2 ^ 64

-- the bit of frame f is set in the mask over bundle g
unfoldable pub in_mask : ℕ → ℕ → ℕ → Bool
in_mask g mask f = (f / FRAMES == g) && (bit_at mask (f % FRAMES) == 1)

-- the bit of frame f is set in its bundle
unfoldable pub has_free_bit : (ℕ → ℕ) → ℕ → Bool
has_free_bit bundles f = bit_at (bundles (f / FRAMES)) (f % FRAMES) == 1

-- the frame that a translation word names: the number in its low 63 bits less 1, where that number is not 0 and the frame has 32 bits
unfoldable pub frame_in : ℕ → Option ℕ
frame_in word = if (word % 2 ^ 63 == 0) || nat_lt (2 ^ 32) (word % 2 ^ 63) then None else Some (word % 2 ^ 63 - 1)

-- the top bit of a translation word of 64 bits is set
unfoldable pub is_dirty : ℕ → Bool
is_dirty word = word / 2 ^ 63 == 1

-- how many of the 64 bits of a word are set
abbrev pub bit_count : ℕ → ℕ
bit_count word = sum_below 64 (bit_at word)

-- the bits taken are the n lowest ones of the word, or all where there are fewer: they are bits of the word, as many as that, and each
-- bit of the word that is left out is above each one taken
pub record AreLowest (word n taken : ℕ) : Type 0 where
  pub among : bit_and taken word ≡ taken
  pub count : bit_count taken ≡ min n (bit_count word)
  pub lowest : (i j : ℕ) → bit_at taken i ≡ 1 → bit_at word j ≡ 1 → bit_at taken j ≡ 0 → i < j
