-- What is read of any words has strings of at most 64 bytes, so its size and its high fence tell whether it fits.
use Rattle.std.proofs.Common.{◌≡◌, ℕ, ◌+◌, ◌≤◌, List, [], length, take, map}
use Rattle.std.proofs.Common.{Option, None, Some, Bool, true, false, leb, refl, sym, ap, subst, ◌∙◌, arith, length-append}
use Rattle.std.proofs.lemmas.Bool.{leb-true, le-leb}
use Rattle.std.proofs.lemmas.List.{take_all}
use Rattle.vm_node.specs.Loads.{IsAnswer}
use Rattle.vm_tree_model.specs.Layout.{pairs_size}
use Rattle.vm_tree_model.specs.Page.{pairs_of}
use Rattle.vm_bytes_form.specs.Strings.{IsString}
use Rattle.vm_bytes_form.specs.Cuts.{pair_size, words_for}
use Rattle.vm_bytes_form.specs.Forms.{AreKeys, ByteNode, IsFitting, fence_block, form_of, heap, key_block, node_in}
use Rattle.vm_bytes_form.specs.Forms.{room_taken}
use Rattle.vm_bytes_form.specs.Bytes.{bytes, bytes_clean, ranked_entry}
use Rattle.vm_bytes_form.proofs.BytesLaws.{size-taken}
use Rattle.vm_bytes_form.proofs.EditLaws.{clean_fitting, clean_is_form, form_clean}
use Rattle.vm_bytes_edit.specs.Drafts.{entries_between, with_more}
use Rattle.vm_bytes_edit.proofs.DraftForms.{length-block}
use Rattle.vm_bytes_node.proofs.KeySearch.{length-pairs}
use Rattle.vm_bytes_node.proofs.ReadKeys.{entries_read, high_read, low_read}

-- what the pairs take of the room
pairs_taken : (n : ByteNode) → IsString 64 n.low → AreKeys n.entries
    → pairs_size pair_size (map ranked_entry n.entries) ≡ length n.entries + length (heap n.entries)
pairs_taken n low keys = omega (
  arith,
  size-taken (record n { high = None }) low (λ s some. absurd (cc)) keys,
  size-taken (record n { high = None; entries = [] }) low (λ s some. absurd (cc)) tt,
)

never : (b : Bool) → (b ≡ true → ⊥) → false ≡ b
never true not = absurd (not refl)
never false not = refl

module _ (words : List ℕ) where
  abbrev n : ByteNode
  n = node_in words

  -- the answer by what is taken, if the high fence is not empty
  by_room : (taken : ℕ) → taken ≡ 8 + room_taken n → ((s : List ℕ) → n.high ≡ Some s → 1 ≤ length s)
      → IsAnswer (leb taken 512) (IsFitting 512 n)
  by_room taken is long = (
    λ t. record {
      room = (let le = leb-true taken 512 t in omega (arith, le, is));
      low = low_read words;
      high = λ s some. (high_read words s some, long s some);
      keys = entries_read words;
    },
    λ f fits. let room = fits.room in let t = le-leb taken 512 (omega (arith, room, is)) in absurd (cc),
  )

  module _ (low_words sizes count : ℕ) (low_is : low_words ≡ words_for (length n.low)) (all : count ≡ length n.entries)
      (sum : sizes ≡ pairs_size pair_size (take count (pairs_of bytes words))) where
    taken_is : (high_words : ℕ) → high_words ≡ length (fence_block n.high) → 8 + low_words + sizes + high_words ≡ 8 + room_taken n
    taken_is high_words high_is =
        let whole = sum ∙ ap (pairs_size pair_size) (take_all count (pairs_of bytes words) (omega (arith, all, length-pairs words))) in
        let pairs = pairs_taken n (low_read words) (entries_read words) in
        let fences = length-append (fence_block n.high) (key_block n.low) in
        omega (arith, whole, pairs, fences, low_is, length-block n.low, high_is)

    pub fits_closed : (high : List ℕ) (high_words : ℕ) → Some high ≡ n.high → high_words ≡ words_for (length high) → 1 ≤ length high
        → IsAnswer (leb (8 + low_words + sizes + high_words) 512) (IsFitting 512 n)
    fits_closed high high_words there is some = by_room _
        (taken_is high_words (is ∙ sym (length-block high) ∙ ap (λ (h : Option (List ℕ)). length (fence_block h)) there))
        (λ s here. let same : high ≡ s = cc in subst (λ (t : List ℕ). 1 ≤ length t) same some)

    pub fits_open : None ≡ n.high → IsAnswer (leb (8 + low_words + sizes) 512) (IsFitting 512 n)
    fits_open none = by_room _
        (let taken = taken_is 0 (ap (λ (h : Option (List ℕ)). length (fence_block h)) none) in omega (arith, taken))
        (λ s here. absurd (cc))

  -- all pairs of the page behind none
  pub copied_all : (count : ℕ) → count ≡ length n.entries → with_more (record n { entries = [] }) (entries_between 0 count n.entries) ≡ n
  copied_all count all = let whole = take_all count n.entries (omega (arith, all)) in λ i. record n { entries = whole i }

  pub unfit : (fits : Bool) → IsAnswer fits (IsFitting 512 n) → fits ≡ false → false ≡ bytes_clean words
  unfit fits told is = never (bytes_clean words) (λ clean. told.1 is (clean_fitting words clean))

  -- the page is clean where its words are those of its node
  pub clean_answer : (same : Bool) (form : List ℕ) → IsFitting 512 n → form ≡ form_of 512 n → IsAnswer same (words ≡ form)
      → same ≡ bytes_clean words
  clean_answer true form fits is told =
      let formed : words ≡ form_of 512 n = told.0 refl ∙ is in
      sym (subst (λ (w : List ℕ). bytes_clean w ≡ true) (sym formed) (form_clean n fits))
  clean_answer false form fits is told = never (bytes_clean words) (λ clean. told.1 refl (clean_is_form words clean ∙ sym is))
