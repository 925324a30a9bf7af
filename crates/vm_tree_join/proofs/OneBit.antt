-- The mask of one page's bit, over the free-number word of the page.
use Rattle.std.proofs.Common.{⊎_elim, ◌%◌, ◌/◌, ◌^◌, ◌≡◌, ◌≢◌, arith, refl, true, ℕ}
use Rattle.std.proofs.lemmas.Bool.{cases_eq}
use Rattle.std.proofs.lemmas.Nat.Bits.{bit_at-pow_other, bit_at-pow_same}
use Rattle.vm_event.specs.Prelude.{in_mask}
use Rattle.vm_tree_split.proofs.from_vm_guard.FreeBits.{mask-from, mask-parts}

pub bit-here : (p : ℕ) → in_mask (p / 64) (2 ^ (p % 64)) p ≡ true
bit-here p = mask-from (p / 64) (2 ^ (p % 64)) p refl (bit_at-pow_same (p % 64))

pub bit-only : (p q : ℕ) → in_mask (p / 64) (2 ^ (p % 64)) q ≡ true → q ≡ p
bit-only p q e =
    let parts = mask-parts (p / 64) (2 ^ (p % 64)) q e in
    let word = parts.0 in
    let one = parts.1 in
    ⊎_elim
    (λ (same : q % 64 ≡ p % 64). omega (arith, word, same))
    (λ (ne : q % 64 ≢ p % 64). let none = bit_at-pow_other (p % 64) (q % 64) ne in absurd (omega (arith, one, none)))
    (cases_eq (q % 64) (p % 64))
