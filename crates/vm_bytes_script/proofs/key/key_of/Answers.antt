use Rattle.std.proofs.Common.{[], ◌*◌, ◌∷◌, ◌≡◌, ◌∙◌, ap, arith, eqb-true, length, List, sym, ℕ}
use Rattle.std.proofs.Common.{length-take}
use Rattle.hex.specs.Hex.{encode_lower}
use Rattle.vm_bytes_form.specs.Strings.{IsString}
use Rattle.vm_bytes_text.specs.KeyTexts.{key_text}
use Rattle.vm_bytes_script.proofs.Keys.{apart, bytes_are, decoded_is, length_text, not_refused}
use Rattle.vm_bytes_script.proofs.key.key_of.Goals.{then-is_empty-via-else-is_empty+then-text, then-is_empty-via-then-is_empty}
use Rattle.vm_bytes_script.proofs.key.key_of.Goals as goal

pub returns-then-is_empty : goal.returns-then-is_empty
returns-then-is_empty c = none
  where
    none : (key : List ℕ) → IsString 64 key → c.args.text.now ≡ key_text key → ⊥
    none [] is e = apart (rw (e, c.as_slice.ensures) at c.if-eq.ensures)
    none (b ∷ s) is e =
        let long : length c.args.text.now ≡ 2 * length (b ∷ s) = rw e (length_text b s) in
        elim c.then-is_empty.branch [
          | then-is_empty-via-then-is_empty w ↦ omega (arith, long, eqb-true _ _ (sym w.if-is_empty.ensures))
          | then-is_empty-via-else-is_empty+then-text w ↦ omega (arith, long, is.fits, w.if-text.true)
        ]

pub returns-then-is_err : goal.returns-then-is_err
returns-then-is_err c = none
  where
    none : (key : List ℕ) → IsString 64 key → c.args.text.now ≡ key_text key → ⊥
    none [] is e = apart (rw (e, c.as_slice.ensures) at c.if-eq.ensures)
    none (b ∷ s) is e =
        let long : length c.args.text.now ≡ 2 * length (b ∷ s) = rw e (length_text b s) in
        let told = decoded_is c.args.text.now _ c.decode_to_slice.new.out (b ∷ s) c.decode_to_slice.result c.decode_to_slice.ensures.value
        (simp length-take (omega (arith, long, is.fits))) (bytes_are (b ∷ s) is.bytes) e in
        not_refused c.decode_to_slice.result told.0 c.if-is_err.ensures.value

pub returns-else-is_spelled : goal.returns-else-is_spelled
returns-else-is_spelled c = none
  where
    none : (key : List ℕ) → IsString 64 key → c.args.text.now ≡ key_text key → ⊥
    none [] is e = apart (rw (e, c.as_slice.ensures) at c.if-eq.ensures)
    none (b ∷ s) is e =
        let long : length c.args.text.now ≡ 2 * length (b ∷ s) = rw e (length_text b s) in
        let told = decoded_is c.args.text.now _ c.decode_to_slice.new.out (b ∷ s) c.decode_to_slice.result c.decode_to_slice.ensures.value
        (simp length-take (omega (arith, long, is.fits))) (bytes_are (b ∷ s) is.bytes) e in
        let same : encode_lower c.in_ok-key.key ≡ c.args.text.now = ap encode_lower (c.in_ok-key.ensures.0 ∙ told.1) ∙ sym e in
        cc (c.if-is_spelled.ensures.1 same)
