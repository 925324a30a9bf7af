-- The entries of blocks that are out: one more behind the others, and the first of them brought home.
use Rattle.std.proofs.Common.{◌≡◌, ℕ, ◌+◌, List, [], ◌∷◌, ◌++◌, length, Bool, true, false, cond, Option, Some, None, ◌&&◌, nat_eq}
use Rattle.std.proofs.Common.{refl, sym, ap, ◌∙◌, arith, bytes_eq}
use Rattle.std.proofs.lemmas.Grind.{common_steps}
use Rattle.std.proofs.lemmas.Slice.Eq.{bytes_eq-Decides}
use Rattle.vm_block.specs.declared.stored.Stored.{Stored}
use Rattle.vm_device.specs.Devices.{OutPage, count_out, is_page, outs_without}
use Rattle.vm_device.specs.Whole.{outs_of}

module _ (name : List ℕ) where
  -- a block's entry
  abbrev pub entry : ℕ → Stored → OutPage
  entry page block = record { name = name; page = page; count = block.count }

  pub one_more : (first : ℕ) (blocks : List Stored) (block : Stored) (page : ℕ) → page ≡ first + length blocks
      → outs_of name first (blocks ++ block ∷ []) ≡ outs_of name first blocks ++ entry page block ∷ []
  one_more first [] block page at = ap (λ p. entry p block ∷ []) (omega (arith, at))
  one_more first (other ∷ blocks) block page at =
      ap (λ l. entry first other ∷ l) (one_more (first + 1) blocks block page (omega (arith, at)))

  pub its_own : (page : ℕ) (block : Stored) → is_page name page (entry page block) ≡ true
  its_own page block =
      let number : nat_eq page page ≡ true = grind (arith, common_steps) in
      let text : bytes_eq name name ≡ true = (bytes_eq-Decides name name).1 refl in
      ap (λ same. same && bytes_eq name name) number ∙ text

module _ (name : List ℕ) (page : ℕ) where
  still_none : (b : Bool) (long short : Option ℕ) (count : ℕ) → cond b (Some count) long ≡ None → (long ≡ None → short ≡ None)
      → cond b (Some count) short ≡ None
  still_none true long short count h others = h
  still_none false long short count h others = others h

  -- a page that is not out among more is not among the first of them
  pub front_home : (base rest : List OutPage) → count_out (base ++ rest) name page ≡ None → count_out base name page ≡ None
  front_home [] rest h = refl
  front_home (out ∷ base) rest h =
      still_none (is_page name page out) (count_out (base ++ rest) name page) (count_out base name page) out.count h
      (front_home base rest)

  none_of : (b : Bool) (others : Option ℕ) (count : ℕ) → cond b (Some count) others ≡ None → b ≡ false
  none_of true others count h = absurd (none_Some count (sym h))
    where
      none_Some : (n : ℕ) → None ≡ Some n → ⊥
      none_Some n e = grind (arith, e)
  none_of false others count h = refl

  -- the block's entry is found behind others
  pub count_there : (base rest : List OutPage) (block : Stored) → count_out base name page ≡ None
      → count_out (base ++ entry name page block ∷ rest) name page ≡ Some block.count
  count_there [] rest block h = ap (λ same. cond same (Some block.count) (count_out rest name page)) (its_own name page block)
  count_there (out ∷ base) rest block h =
      let other : is_page name page out ≡ false = none_of (is_page name page out) (count_out base name page) out.count h in
      ap (λ same. cond same (Some out.count) (count_out (base ++ entry name page block ∷ rest) name page)) other
      ∙ count_there base rest block (sym (ap (λ same. cond same (Some out.count) (count_out base name page)) other) ∙ h)

  -- and leaves the others as it comes home
  pub without_there : (base rest : List OutPage) (block : Stored) → count_out base name page ≡ None
      → outs_without (base ++ entry name page block ∷ rest) name page ≡ base ++ rest
  without_there [] rest block h =
      ap (λ same. cond same rest (entry name page block ∷ outs_without rest name page)) (its_own name page block)
  without_there (out ∷ base) rest block h =
      let other : is_page name page out ≡ false = none_of (is_page name page out) (count_out base name page) out.count h in
      ap (λ same. cond same (base ++ entry name page block ∷ rest)
      (out ∷ outs_without (base ++ entry name page block ∷ rest) name page)) other
      ∙ ap (λ l. out ∷ l)
      (without_there base rest block (sym (ap (λ same. cond same (Some out.count) (count_out base name page)) other) ∙ h))
