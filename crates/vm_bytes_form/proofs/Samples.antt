-- The words of nodes that were worked out apart from these definitions.
use Rattle.std.proofs.Common.{◌≡◌, ℕ, suc, zero, ◌+◌, List, [], ◌∷◌, ◌++◌, length, get_or, replicate, true, Some, None, refl}
use Rattle.vm_bytes_form.specs.Forms.{KeyEntry, form_of, node_in, string_at}
use Rattle.vm_bytes_form.specs.Bytes.{bytes_clean}

-- a leaf of three keys: none, 00, 0000
abbrev three : List ℕ
three = form_of 512 (record { tag = 4; level = 0; low = []; high = None; entries = ([], 1) ∷ (0 ∷ [], 2) ∷ (0 ∷ 0 ∷ [], 3) ∷ [] })

three_slots : (get_or three 8 0 ≡ 130816) × (get_or three 9 0 ≡ 130305) × (get_or three 10 0 ≡ 129794) × (get_or three 11 0 ≡ 0)
unfolding form_of node_in string_at
three_slots = (refl, refl, refl, refl)

three_heap : (get_or three 507 0 ≡ 0) × (get_or three 508 0 ≡ 3) × (get_or three 509 0 ≡ 0) × (get_or three 510 0 ≡ 2)
    × (get_or three 511 0 ≡ 1) × (length three ≡ 512)
unfolding form_of node_in string_at
three_heap = (refl, refl, refl, refl, refl, refl)

three_clean : bytes_clean three ≡ true
unfolding form_of node_in string_at
three_clean = refl

-- 63 zero bytes and one more
abbrev long_key : ℕ → List ℕ
long_key b = replicate 63 0 ++ b ∷ []

-- the leaf of such keys from 1 on, and the right half of 51 of them, split at the 26th
abbrev keys_from : ℕ → ℕ → List KeyEntry
keys_from zero b = []
keys_from (suc n) b = (long_key b, b) ∷ keys_from n (b + 1)

abbrev left : List ℕ
left = form_of 512 (record { tag = 4; level = 0; low = []; high = Some (long_key 26); entries = keys_from 25 1 })

left_words : (get_or left 1 0 ≡ 25) × (get_or left 3 0 ≡ 0) × (get_or left 4 0 ≡ 129088) × (get_or left 8 0 ≡ 126784)
    × (get_or left 9 0 ≡ 124480) × (get_or left 511 0 ≡ 26)
unfolding form_of node_in string_at
left_words = (refl, refl, refl, refl, refl, refl)

abbrev right : List ℕ
right = form_of 512 (record { tag = 4; level = 0; low = long_key 26; high = None; entries = keys_from 26 26 })

right_words : (get_or right 1 0 ≡ 26) × (get_or right 3 0 ≡ 129088) × (get_or right 4 0 ≡ 0) × (get_or right 8 0 ≡ 126784)
    × (length right ≡ 512)
unfolding form_of node_in string_at
right_words = (refl, refl, refl, refl, refl)
