-- Blocks taken out one by one, and what is left where one cannot be taken out.
use Rattle.std.proofs.Common.{◌≡◌, ℕ, ◌+◌, ◌≤◌, List, [], ◌∷◌, ◌++◌, length, length-append, min, Bool, true, Some, None, slice_index_or}
use Rattle.std.proofs.Common.{refl, sym, ap, ◌∙◌, subst, arith, inl, inr}
use Rattle.std.proofs.lemmas.Bool.{cases_lt}
use Rattle.std.proofs.lemmas.List.{append_assoc, get_or_append_left}
use Rattle.std.proofs.Math.Seq.{get_or-append_seam}
use Rattle.vm_page.specs.Counts.{count_more, MAX_COUNT}
use Rattle.vm_block.specs.declared.stored.Stored.{Stored}
use Rattle.vm_device.specs.Devices.{DeviceState, count_out, words_at}
use Rattle.vm_device.specs.Whole.{AllAreOut, AllComeHome, BringsAll, NoneIsOut, how_many_faulty, outs_of}
use Rattle.vm_device.proofs.Entries.{entry, front_home, one_more}
use Rattle.vm_device.proofs.Homecoming.{raised}
use Rattle.vm_device.proofs.Written.{all_own}

counted : (first last many : ℕ) → first ≤ MAX_COUNT → last ≡ min (count_more first + many) MAX_COUNT
    → last ≡ min (first + (1 + many)) MAX_COUNT
unfolding count_more
counted first last many low is = omega (arith, low, is)

module _ (tells : Bool) (old : DeviceState) (name : List ℕ) where
  -- one block more is taken out
  pub one_out : (now new : DeviceState) (page : ℕ) (blocks : List Stored) (block : Stored) → AllAreOut tells old now name page blocks
      → (tells ≡ true → words_at now.files name page ≡ Some block.words) → count_out now.outs name page ≡ None
      → new.outs ≡ now.outs ++ entry name page block ∷ [] → new.count ≡ now.count → new.answered ≡ now.answered
      → (tells ≡ true → new.files ≡ now.files) → AllAreOut tells old new name (page + 1) (blocks ++ block ∷ [])
  one_out now new page blocks block out words home outs count answered files = record {
    many = omega (arith, length-append blocks (block ∷ []), out.many);
    home = λ p low. elim (cases_lt p page) [
      | inl less ↦ out.home p less
      | inr last ↦
          let here : page ≡ p = omega (arith, low, last) in
          subst (λ q. count_out old.outs name q ≡ None) here
          (front_home name page old.outs (outs_of name 0 blocks) (sym (ap (λ l. count_out l name page) out.outs) ∙ home))
    ];
    outs = outs ∙ ap (λ l. l ++ entry name page block ∷ []) out.outs
        ∙ append_assoc old.outs (outs_of name 0 blocks) (entry name page block ∷ [])
        ∙ ap (λ l. old.outs ++ l) (sym (one_more name 0 blocks block page (omega (arith, out.many))));
    told = λ t p d low. elim (cases_lt p page) [
      | inl less ↦ out.told t p d less
          ∙ ap (λ (b : Stored). Some b.words) (sym (get_or_append_left blocks (block ∷ []) d p (omega (arith, less, out.many))))
      | inr last ↦
          let here : page ≡ p = omega (arith, low, last) in
          let at : length blocks ≡ p = omega (arith, here, out.many) in
          ap (λ q. words_at old.files name q) (sym here) ∙ ap (λ files. words_at files name page) (sym (out.files t)) ∙ words t
          ∙ ap (λ (b : Stored). Some b.words) (sym (get_or-append_seam blocks block [] d))
          ∙ ap (λ q. Some (slice_index_or (blocks ++ block ∷ []) q d).words) at
    ];
    count = count ∙ out.count;
    answered = answered ∙ out.answered;
    files = λ t. files t ∙ out.files t;
  }

  -- a block cannot be taken out, and those that were taken are brought home
  pub none_left : (now failed new : DeviceState) (page : ℕ) (blocks : List Stored) → AllAreOut tells old now name page blocks
      → old.count ≤ MAX_COUNT → failed.outs ≡ now.outs → failed.count ≡ count_more now.count → failed.answered ≡ now.answered
      → (tells ≡ true → failed.files ≡ now.files) → BringsAll tells blocks failed new name → new.answered ≡ failed.answered
      → NoneIsOut tells old new
  none_left now failed new page blocks out most outs count answered files brings kept =
      let home : AllComeHome tells old.outs blocks blocks failed new name =
      brings old.outs blocks (outs ∙ out.outs) refl (λ p low. out.home p (omega (arith, low, out.many))) in
      let sum = counted old.count new.count (how_many_faulty blocks blocks) most
      (home.count.sum ∙ ap (λ n. min (n + how_many_faulty blocks blocks) MAX_COUNT) (count ∙ ap count_more out.count)) in
      record {
        outs = home.outs;
        count = raised old.count new.count (1 + how_many_faulty blocks blocks) (omega arith) sum;
        grown = omega (arith, sum, most);
        answered = kept ∙ answered ∙ out.answered;
        files = λ t. (home.files t).all
            ∙ all_own name failed.files 0 blocks
            (λ p d low. ap (λ l. words_at l name (0 + p)) (files t ∙ out.files t) ∙ ap (λ q. words_at old.files name q) (omega arith)
            ∙ out.told t p d (omega (arith, low, out.many)))
            ∙ files t ∙ out.files t;
      }
