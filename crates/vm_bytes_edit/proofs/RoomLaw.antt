-- Of a clean page the room that is left and the node's size are the whole room.
use Rattle.std.proofs.Common.{◌≡◌, ◌≢◌, ℕ, zero, suc, ◌+◌, ◌-◌, ◌*◌, ◌/◌, ◌<◌, ◌≤◌, List, [], ◌∷◌, ◌++◌, length, get_or, replicate, Option}
use Rattle.std.proofs.Common.{Some, None, refl, sym, ap, ◌∙◌, arith, length-append}
use Rattle.std.proofs.lemmas.Bool.{ne_eqb}
use Rattle.std.proofs.lemmas.List.{get_or-drop, get_or_append_left, nil_from_length}
use Rattle.std.proofs.lemmas.Nat.{div-mul-add}
use Rattle.vm_tree_model.specs.Layout.{IsClean, size}
use Rattle.vm_tree_model.specs.Page.{node_of}
use Rattle.vm_bytes_form.specs.Bytes.{bytes}
use Rattle.vm_bytes_form.specs.Forms.{AreKeys, ByteNode, KeyEntry, IsFitting, entry_block, fence_block, fence_blocks, fence_slot, form_of}
use Rattle.vm_bytes_form.specs.Forms.{heap, high_slot, key_block, node_in, slots, room_taken}
use Rattle.vm_bytes_form.specs.Strings.{IsString}
use Rattle.vm_bytes_form.proofs.BytesLaws.{size-taken}
use Rattle.vm_bytes_form.proofs.EditLaws.{clean_fitting, clean_is_form}
use Rattle.vm_bytes_node.specs.Room.{count_shown, lowest_slot, place_of_slot, spare_words}
use Rattle.vm_bytes_edit.proofs.DraftForms.{form-is, length-block, length-slots}

-- the slot of the last of the entries
slots-last : (end : ℕ) (es : List KeyEntry) (i : ℕ) → length es ≡ suc i
    → get_or (slots end es) i 0 ≡ (end - length (heap es)) * 256 + length (get_or es i ([], 0)).0
slots-last end [] i long = absurd (omega (arith, long))
slots-last end (e ∷ []) zero long = refl
slots-last end (e ∷ []) (suc i) long = absurd (omega (arith, long))
slots-last end (e ∷ (d ∷ es)) zero long = absurd (omega (arith, long))
slots-last end (e ∷ (d ∷ es)) (suc i) long =
    let place : end - length (entry_block e) - length (heap (d ∷ es)) ≡ end - length (heap (e ∷ (d ∷ es))) = omega
    (arith, length-append (heap (d ∷ es)) (entry_block e)) in
    slots-last (end - length (entry_block e)) (d ∷ es) i (omega (arith, long))
    ∙ ap (λ (p : ℕ). p * 256 + length (get_or (d ∷ es) i ([], 0)).0) place

-- the place of a slot
place_is : (slot place long : ℕ) → slot ≡ place * 256 + long → long < 256 → 1 ≤ place → place ≤ 512 → place_of_slot slot ≡ place
place_is slot place long is short some fits =
    let there : slot / 256 ≡ place = ap (λ (s : ℕ). s / 256) is ∙ div-mul-add place 256 long short in
    rw (ne_eqb slot 0 (λ none. omega (arith, is, none, some))) (omega (arith, there, fits))

key_short : (es : List KeyEntry) (i : ℕ) → AreKeys es → length (get_or es i ([], 0)).0 < 256
key_short [] i keys = omega arith
key_short (e ∷ es) zero keys = let fits = keys.0.fits in omega (arith, fits)
key_short (e ∷ es) (suc i) keys = key_short es i keys.1

-- the place of a fence that is not empty
fence-place : (end : ℕ) (s : List ℕ) → IsString 64 s → 1 ≤ length s → 100 ≤ end → end ≤ 512
    → (fence_slot end s ≢ 0) × (place_of_slot (fence_slot end s) ≡ end - length (key_block s))
fence-place end [] is some above below = absurd (omega (arith, some))
fence-place end (b ∷ s) is some above below =
    let fits = is.fits in
    let few : length (key_block (b ∷ s)) ≤ 8 = omega (arith, length-block (b ∷ s), fits) in (
      λ none. omega (arith, none),
      place_is (fence_slot end (b ∷ s)) (end - length (key_block (b ∷ s))) (length (b ∷ s)) refl (omega (arith, fits))
          (omega (arith, few, above)) (omega (arith, below)),
    )

module _ (words : List ℕ) (n : ByteNode) (fits : IsFitting 512 n) (is : words ≡ form_of 512 n) where
  abbrev base : ℕ
  base = 512 - length (fence_blocks n)

  abbrev tail : List ℕ
  tail = replicate (504 - room_taken n) 0 ++ (heap n.entries ++ fence_blocks n)

  shown : words ≡ n.tag ∷ length n.entries ∷ n.level ∷ fence_slot 512 n.low ∷ high_slot (512 - length (key_block n.low)) n.high ∷ 0 ∷ 0 ∷ 0
      ∷ (slots base n.entries ++ tail)
  shown = is ∙ form-is n

  count : count_shown words ≡ length n.entries
  count = ap count_shown shown ∙ (let room = fits.room in omega (arith, room))

  third : get_or words 3 0 ≡ fence_slot 512 n.low
  third = ap (λ (w : List ℕ). get_or w 3 0) shown

  fourth : get_or words 4 0 ≡ high_slot (512 - length (key_block n.low)) n.high
  fourth = ap (λ (w : List ℕ). get_or w 4 0) shown

  -- with a pair
  last_slot : (i : ℕ) → length n.entries ≡ suc i → get_or words (8 + i) 0 ≡ (base - length (heap n.entries)) * 256 + length
      (get_or n.entries i ([], 0)).0
  last_slot i long = ap (λ (w : List ℕ). get_or w (8 + i) 0) shown
      ∙ sym (get_or-drop 8 (n.tag ∷ length n.entries ∷ n.level ∷ fence_slot 512 n.low ∷ high_slot (512 - length (key_block n.low)) n.high
      ∷ 0 ∷ 0 ∷ 0 ∷ (slots base n.entries ++ tail)) i 0)
      ∙ get_or_append_left (slots base n.entries) tail 0 i (omega (arith, long, length-slots base n.entries))
      ∙ slots-last base n.entries i long

  -- the place of what stands lowest
  lowest : (m : ℕ) → length n.entries ≡ m → place_of_slot (lowest_slot words) ≡ base - length (heap n.entries)
  lowest zero none = without n.high refl n.low refl
    where
      nothing : count_shown words ≡ 0
      nothing = count ∙ none

      no_heap : length (heap n.entries) ≡ 0
      no_heap = ap (λ (l : List KeyEntry). length (heap l)) (nil_from_length n.entries none)

      without : (high : Option (List ℕ)) → n.high ≡ high → (low : List ℕ) → n.low ≡ low
          → place_of_slot (lowest_slot words) ≡ base - length (heap n.entries)
      without None no_high [] no_low =
          let high_word : get_or words 4 0 ≡ 0 = fourth ∙ ap (high_slot (512 - length (key_block n.low))) no_high in
          let low_word : get_or words 3 0 ≡ 0 = third ∙ ap (fence_slot 512) no_low in
          let blocks : length (fence_blocks n) ≡ 0 = length-append (fence_block n.high) (key_block n.low)
          ∙ (let a = ap (λ (h : Option (List ℕ)). length (fence_block h)) no_high in
          let b = ap (λ (l : List ℕ). length (key_block l)) no_low in omega (arith, a, b)) in
          let slot : lowest_slot words ≡ 0 = rw (nothing, high_word, low_word) refl in
          ap place_of_slot slot ∙ omega (arith, blocks, no_heap)
      without None no_high (b ∷ low) low_is =
          let high_word : get_or words 4 0 ≡ 0 = fourth ∙ ap (high_slot (512 - length (key_block n.low))) no_high in
          let there = fence-place 512 n.low fits.low (let long = ap length low_is in omega (arith, long)) (omega arith) (omega arith) in
          let blocks : length (fence_blocks n) ≡ length (key_block n.low) = length-append (fence_block n.high) (key_block n.low)
          ∙ (let a = ap (λ (h : Option (List ℕ)). length (fence_block h)) no_high in omega (arith, a)) in
          let slot : lowest_slot words ≡ fence_slot 512 n.low = rw (nothing, high_word) third in
          ap place_of_slot slot ∙ there.1 ∙ omega (arith, blocks, no_heap)
      without (Some s) high_is low low_is =
          let of = fits.high s high_is in
          let few : length (key_block n.low) ≤ 8 = (let low_fits = fits.low.fits in omega (arith, length-block n.low, low_fits)) in
          let there = fence-place (512 - length (key_block n.low)) s of.0 of.1 (omega (arith, few)) (omega arith) in
          let high_word : get_or words 4 0 ≡ fence_slot (512 - length (key_block n.low)) s = fourth
          ∙ ap (high_slot (512 - length (key_block n.low))) high_is in
          let blocks : length (fence_blocks n) ≡ length (key_block s) + length (key_block n.low) = length-append (fence_block n.high)
          (key_block n.low)
          ∙ (let a = ap (λ (h : Option (List ℕ)). length (fence_block h)) high_is in omega (arith, a)) in
          let slot : lowest_slot words ≡ fence_slot (512 - length (key_block n.low)) s =
          rw (nothing, ne_eqb (get_or words 4 0) 0 (λ e. there.0 (sym high_word ∙ e))) high_word in
          ap place_of_slot slot ∙ there.1 ∙ omega (arith, blocks, no_heap)
  lowest (suc i) long =
      let some : count_shown words ≢ 0 = λ e. omega (arith, count, long, e) in
      let at : 7 + count_shown words ≡ 8 + i = omega (arith, count, long) in
      let slot : lowest_slot words ≡ (base - length (heap n.entries)) * 256 + length (get_or n.entries i ([], 0)).0 =
      rw (ne_eqb (count_shown words) 0 some) (ap (λ (k : ℕ). get_or words k 0) at ∙ last_slot i long) in
      let room = fits.room in
      place_is (lowest_slot words) (base - length (heap n.entries)) (length (get_or n.entries i ([], 0)).0) slot
      (key_short n.entries i fits.keys) (omega (arith, room, long)) (omega arith)

  spare : spare_words words ≡ 504 - room_taken n
  spare = let place = lowest (length n.entries) refl in let room = fits.room in omega (arith, place, count, room)

pub spare_is : (words : List ℕ) → IsClean bytes words → spare_words words + size bytes (node_of bytes words) ≡ 504
spare_is words clean =
    let fits = clean_fitting words clean in
    let room = fits.room in
    omega (
      arith,
      spare words (node_in words) fits (clean_is_form words clean),
      size-taken (node_in words) fits.low fits.high fits.keys,
      room,
    )
