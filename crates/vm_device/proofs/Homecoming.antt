-- Blocks brought home one by one: who is still out, what was counted, and what the files have.
use Rattle.std.proofs.Common.{◌≡◌, ℕ, zero, suc, ◌+◌, ◌<◌, ◌≤◌, List, [], ◌∷◌, ◌++◌, length, drop, drop_of_length-le}
use Rattle.std.proofs.Common.{get_or, min, Bool, true, false, Some, None}
use Rattle.std.proofs.Common.{refl, sym, ap, ◌∙◌, arith, if◌then◌else◌, inl, inr, slice_index_or}
use Rattle.std.proofs.lemmas.Bool.{cases_lt}
use Rattle.std.proofs.lemmas.List.{append-nil, drop_more, length-append}
use Rattle.vm_page.specs.Counts.{count_more, MAX_COUNT}
use Rattle.vm_block.specs.declared.stored.Stored.{Stored}
use Rattle.vm_device.specs.Devices.{BringsHome, DeviceState, OutPage, count_home, count_out, files_home, is_faulty, outs_without}
use Rattle.vm_device.specs.Devices.{size_of, with_words, words_at}
use Rattle.vm_device.specs.Whole.{AllComeHome, CountsHome, RoseOrLast, how_many_faulty, outs_of, with_all_words}
use Rattle.vm_device.proofs.Entries.{count_there, entry, without_there}
use Rattle.vm_device.proofs.Written.{all_others, all_past, all_sizes, all_words, one_written}

-- one more of those that come home
faulty_more : (before blocks : List Stored) (block d : Stored) → length blocks < length before
    → how_many_faulty before (blocks ++ block ∷ [])
    ≡ how_many_faulty before blocks + (if is_faulty (slice_index_or before (length blocks) d).count block.count then 1 else 0)
faulty_more [] blocks block d low = absurd (omega (arith, low))
faulty_more (out ∷ before) [] block d low = omega arith
faulty_more (out ∷ before) (other ∷ blocks) block d low =
    let rest = faulty_more before blocks block d (omega (arith, low)) in omega (arith, rest)

some_faulty : (before blocks : List Stored) (p : ℕ) (d : Stored) → length before ≡ length blocks → p < length blocks
    → is_faulty (slice_index_or before p d).count (slice_index_or blocks p d).count ≡ true → 1 ≤ how_many_faulty before blocks
some_faulty before [] p d many low is = absurd (omega (arith, low))
some_faulty [] (block ∷ blocks) p d many low is = absurd (omega (arith, many))
some_faulty (out ∷ before) (block ∷ blocks) zero d many low is =
    let one = ap {B = ℕ} (λ (b : Bool). if b then 1 else 0) is in omega (arith, one)
some_faulty (out ∷ before) (block ∷ blocks) (suc p) d many low is =
    let rest = some_faulty before blocks p d (omega (arith, many)) (omega (arith, low)) is in omega (arith, rest)

none_faulty : (before blocks : List Stored) → length before ≡ length blocks
    → ((p : ℕ) (d : Stored) → p < length blocks
    → is_faulty (slice_index_or before p d).count (slice_index_or blocks p d).count ≡ false)
    → how_many_faulty before blocks ≡ 0
none_faulty before [] many all = refl
none_faulty [] (block ∷ blocks) many all = refl
none_faulty (out ∷ before) (block ∷ blocks) many all =
    let here = ap {B = ℕ} (λ (b : Bool). if b then 1 else 0) (all 0 block (omega arith)) in
    let rest = none_faulty before blocks (omega (arith, many)) (λ p d low. all (suc p) d (omega (arith, low))) in
    omega (arith, here, rest)

counts_more : (faulty : Bool) (first count many : ℕ) → count ≡ min (first + many) MAX_COUNT
    → (if faulty then count_more count else count) ≡ min (first + (many + (if faulty then 1 else 0))) MAX_COUNT
unfolding count_more
counts_more true first count many is = omega (arith, is)
counts_more false first count many is = omega (arith, is)

-- a count that is raised by some number
pub raised : (old new many : ℕ) → 1 ≤ many → new ≡ min (old + many) MAX_COUNT → RoseOrLast old new
raised old new many some is = elim (cases_lt old MAX_COUNT) [
  | inl less ↦ inl (omega (arith, less, some, is))
  | inr last ↦ inr (omega (arith, last, is))
]

pub counts_home : (before blocks : List Stored) (old new : ℕ) → length before ≡ length blocks → old ≤ MAX_COUNT
    → new ≡ min (old + how_many_faulty before blocks) MAX_COUNT → CountsHome before blocks old new
counts_home before blocks old new many most is = record {
  sum = is;
  rose = λ p d low faulty. raised old new (how_many_faulty before blocks) (some_faulty before blocks p d many low faulty) is;
  kept = λ none. let no = none_faulty before blocks many none in omega (arith, is, no, most);
  grown = omega (arith, is, most);
}

-- these first blocks are home
pub record AreHomeTo (tells : Bool) (base : List OutPage) (before : List Stored) (old now : DeviceState) (name : List ℕ) (done : List Stored)
    : Type 0 where
  pub outs : now.outs ≡ base ++ outs_of name (length done) (drop (length done) before)
  pub count : now.count ≡ min (old.count + how_many_faulty before done) MAX_COUNT
  pub files : tells ≡ true → now.files ≡ with_all_words old.files name 0 done

module _ (tells : Bool) (base : List OutPage) (before : List Stored) (old : DeviceState) (name : List ℕ) where
  pub one_home : (now new : DeviceState) (done : List Stored) (block : Stored) (page : ℕ) → AreHomeTo tells base before old now name done
      → page ≡ length done → length done < length before → count_out base name page ≡ None → BringsHome tells block now new name page
      → AreHomeTo tells base before old new name (done ++ block ∷ [])
  one_home now new done block page to at low none brings = record {
    outs = brings.outs ∙ ap (λ outs. outs_without outs name page) here ∙ without_there name page base rest out none ∙ sym left;
    count = brings.count ∙ ap (λ was. count_home was block.count now.count) was
        ∙ counts_more (is_faulty out.count block.count) old.count now.count (how_many_faulty before done) to.count
        ∙ ap (λ many. min (old.count + many) MAX_COUNT) (sym counted);
    files = λ t. brings.files t ∙ ap (λ was. files_home was now.files name page block.words) was
        ∙ ap (λ files. with_words files name page block.words) (to.files t) ∙ sym (one_written name old.files 0 done block page (omega (arith, at)));
  }
    where
      out : Stored
      out = get_or before page block

      rest : List OutPage
      rest = outs_of name (page + 1) (drop (page + 1) before)

      here : now.outs ≡ base ++ entry name page out ∷ rest
      here = to.outs ∙ ap (λ n. base ++ outs_of name n (drop n before)) (sym at)
          ∙ ap (λ blocks. base ++ outs_of name page blocks) (drop_more before page block (omega (arith, low, at)))

      left : base ++ outs_of name (length (done ++ block ∷ [])) (drop (length (done ++ block ∷ [])) before) ≡ base ++ rest
      left = ap (λ n. base ++ outs_of name n (drop n before)) (length-append done (block ∷ []) ∙ omega (arith, at))

      was : count_out now.outs name page ≡ Some out.count
      was = ap (λ outs. count_out outs name page) here ∙ count_there name page base rest out none

      counted : how_many_faulty before (done ++ block ∷ [])
          ≡ how_many_faulty before done + (if is_faulty out.count block.count then 1 else 0)
      counted = faulty_more before done block block low
          ∙ ap (λ n. how_many_faulty before done + (if is_faulty (get_or before n block).count block.count then 1 else 0)) (sym at)

  pub all_home : (now : DeviceState) (blocks : List Stored) → AreHomeTo tells base before old now name blocks
      → length before ≡ length blocks → old.count ≤ MAX_COUNT → AllComeHome tells base before blocks old now name
  all_home now blocks to many most = record {
    outs = to.outs ∙ ap (λ left. base ++ outs_of name (length blocks) left) none ∙ append-nil base;
    count = counts_home before blocks old.count now.count many most to.count;
    files = λ t. record {
      all = to.files t;
      words = λ p d low some. ap (λ files. words_at files name p) (to.files t)
          ∙ all_words name old.files 0 blocks p p d low (omega arith) some;
      past = λ p high. ap (λ files. words_at files name p) (to.files t) ∙ all_past name old.files 0 blocks p (omega (arith, high));
      others = λ other p apart. ap (λ files. words_at files other p) (to.files t) ∙ all_others name old.files 0 blocks other p apart;
      sizes = λ other. ap (λ files. size_of files other) (to.files t) ∙ all_sizes name old.files 0 blocks other;
    };
  }
    where
      none : drop (length blocks) before ≡ []
      none = drop_of_length-le before (omega (arith, many))
