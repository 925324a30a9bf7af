-- What a translation word says, and that it says what was written.
use Rattle.std.proofs.Common.{◌%◌, ◌<◌, ◌^◌, ◌∙◌, ◌≡◌, ap, arith, Bool, false, None, Option, refl, Some, true, ℕ}
use Rattle.vm_event.specs.Prelude.{frame_in, is_dirty, mapping_at, mapping_of, trans_word}
use Rattle.vm_event.specs.declared.event.Mapping.{Mapping}
use Rattle.vm_event.proofs.WordBits.{frame-of, top-clear, top-set}
use Rattle.vm_laws_frame.specs.Translations.{FitsWord, TranslationsRead}

no-frame : (word : ℕ) → word % 2 ^ 63 ≡ 0 → frame_in word ≡ None
unfolding frame_in
no-frame word e = rw e refl

top-of : (f : ℕ) (dirty : Bool) → f < 2 ^ 32 → is_dirty (trans_word (Some (record { frame = f; dirty = dirty }))) ≡ dirty
top-of f true lt = top-set _ (omega arith)
top-of f false lt = top-clear _ (omega arith)

low-of : (f : ℕ) (dirty : Bool) → f < 2 ^ 32 → frame_in (trans_word (Some (record { frame = f; dirty = dirty }))) ≡ Some f
low-of f true lt = frame-of _ f lt (omega arith)
low-of f false lt = frame-of _ f lt (omega arith)

read-back : (t : Option Mapping) → FitsWord t → mapping_of (trans_word t) ≡ t
read-back None fits = ap (λ q. mapping_at q (is_dirty 0)) (no-frame 0 refl)
read-back (Some m) fits = ap (λ q. mapping_at q (is_dirty (trans_word (Some m)))) (low-of m.frame m.dirty fits)
    ∙ ap (mapping_at (Some m.frame)) (top-of m.frame m.dirty fits)

pub translations_read : TranslationsRead
translations_read = record { back = read-back; empty = λ word e. ap (λ q. mapping_at q (is_dirty word)) (no-frame word e) }
