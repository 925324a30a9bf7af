-- What is so where the blocks of a file's pages were taken out, and where they were not.
use Rattle.std.proofs.Common.{◌≡◌, ◌*◌, ◌/◌, ◌∙◌, ◌++◌, All, ap, arith, Bool, inl, inr, length, List, Option, Some, subst, sym, true, ℕ}
use Rattle.std.proofs.lemmas.Bool.{cases_lt}
use Rattle.std.specs.Borrow.{Bor}
use Rattle.vm_io.specs.Shown.{Shown}
use Rattle.vm_page.specs.Counts.{count_more, MAX_COUNT}
use Rattle.vm_block.specs.declared.stored.Stored.{Stored}
use Rattle.vm_device.specs.Devices.{count_out, DeviceState, OutPage, size_of, StoredFile, words_at}
use Rattle.vm_device.specs.Whole.{AllAreOut, outs_of, RoseOrLast}
use Rattle.vm_reading.specs.from_vm_endings.Held.{IsServedLength}
use Rattle.vm_reading.specs.from_vm_endings.Outside.{outside_of, remains_of}
use Rattle.vm_reading.specs.from_vm_endings.declared_stop_Stop_TheVariants.{Unread}
use Rattle.vm_reading.specs.from_vm_endings.declared_undone_Undone_TheVariants.{Stopped}
use Rattle.vm_file_serve.specs.Serving.{TakesPages, StopsTaking}
use Rattle.vm_file_serve.proofs.Words.{held_pages, IsWhole}

-- a fault more is one that rose, or the last
pub one_fault : (count : ℕ) → RoseOrLast count (count_more count)
unfolding count_more
one_fault count = elim (cases_lt count MAX_COUNT) [
  | inl low ↦ inl (omega (arith, low))
  | inr high ↦ inr (omega (arith, high))
]

-- the devices before the length was asked for, behind that, and behind the last call
module _ (tells : Bool) (old mid : DeviceState) (name : List ℕ) (outs : mid.outs ≡ old.outs)
    (files : tells ≡ true → mid.files ≡ old.files) where
  pub is_taken : (new : DeviceState) (size : ℕ) (blocks : List Stored) → (tells ≡ true → All IsWhole old.files)
      → (tells ≡ true → size_of old.files name ≡ Some size) → mid.count ≡ old.count → IsServedLength size
      → AllAreOut tells mid new name (size / 512) blocks → TakesPages tells old new name blocks
  is_taken new size blocks whole told count good out =
      let pages : size / 512 ≡ good.0 = omega (arith, good.3) in
      let many : length blocks ≡ good.0 = out.many ∙ pages in
      let bytes : size ≡ 512 * length blocks = omega (arith, many, good.3) in
      record {
        some = omega (arith, many, good.1);
        most = omega (arith, many, good.2);
        home = λ p low. ap (λ (l : List OutPage). count_out l name p) (sym outs) ∙ out.home p (omega (arith, low, out.many));
        outs = out.outs ∙ ap (λ (l : List OutPage). l ++ outs_of name 0 blocks) outs;
        size = λ t. told t ∙ ap (λ (n : ℕ). Some n) bytes;
        held = λ t. held_pages old.files name size blocks (whole t) (told t) out.many
            (λ p d low. ap (λ (fs : List StoredFile). words_at fs name p) (sym (files t)) ∙ out.told t p d (omega (arith, low, out.many)));
        count = out.count ∙ count;
        files = λ t. out.files t ∙ files t;
      }

  -- it was not
  pub no_answer : (shown : Option Shown) (unread : List ℕ) (given : Bor (List ℕ)) → given.now ≡ name
      → mid.count ≡ count_more old.count
      → StopsTaking (outside_of shown tells old) (remains_of unread mid) name (Stopped (Unread given))
  no_answer shown unread given is count = record {
    home = outs;
    kept = files;
    why = (is, subst (λ (n : ℕ). RoseOrLast old.count n) (sym count) (one_fault old.count));
  }
