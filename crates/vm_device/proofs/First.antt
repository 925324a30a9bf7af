-- What the place of the first that passes tells of the pages out.
use Rattle.std.proofs.Common.{◌≡◌, ℕ, zero, suc, ◌<◌, List, [], ◌∷◌, length, Bool, true, false, cond, Some, None}
use Rattle.std.proofs.Common.{refl, sym, ap, ◌∙◌, slice_get, slice_index_or, ◌≤◌, arith}
use Rattle.std.specs.List.{remove}
use Rattle.vm_device.specs.Devices.{count_out, is_page, outs_without}
use Rattle.vm_device.specs.Held.{StandsFirst, out_page, outs_in}
use Rattle.vm_device.specs.declared.outs.OutBlock.{OutBlock}

pub behind : {X : Type 0} (test : X → Bool) (item : X) (items : List X) (i : ℕ) → StandsFirst test (item ∷ items) (suc i)
    → StandsFirst test items i
behind test item items i p = record {
  within = omega (arith, p.within);
  here = p.here;
  first = λ k d low. p.first (suc k) d (omega arith);
}

pub nowhere : {X : Type 0} {P : Type 0} (test : X → Bool) (i : ℕ) → StandsFirst test [] i → P
nowhere test i p = let never : ⊥ = omega (arith, p.within) in absurd never

-- an element looked up by its place, and none past the end
pub got : {X : Type 0} (items : List X) (i : ℕ) (item : X) → i < length items → item ≡ slice_index_or items i item
    → Some item ≡ slice_get items i
got [] i item low e = absurd (omega (arith, low))
got (x ∷ items) zero item low e = ap (λ y. Some y) e
got (x ∷ items) (suc i) item low e = got items i item (omega (arith, low)) e

pub got_none : {X : Type 0} (items : List X) (i : ℕ) → length items ≤ i → None ≡ slice_get items i
got_none [] i past = refl
got_none (x ∷ items) zero past = absurd (omega (arith, past))
got_none (x ∷ items) (suc i) past = got_none items i (omega (arith, past))

module _ (name : List ℕ) (page : ℕ) where
  abbrev passes : OutBlock → Bool
  passes out = is_page name page (out_page out)

  pub none_out : (blocks : List OutBlock) → ((k : ℕ) (d : OutBlock) → k < length blocks → passes (slice_index_or blocks k d) ≡ false)
      → count_out (outs_in blocks) name page ≡ None
  none_out [] h = refl
  none_out (block ∷ blocks) h =
      ap (λ same. cond same (Some block.count) (count_out (outs_in blocks) name page)) (h 0 block (omega arith))
      ∙ none_out blocks (λ k d low. h (suc k) d (omega arith))

  pub none_without : (blocks : List OutBlock) → count_out (outs_in blocks) name page ≡ None
      → outs_without (outs_in blocks) name page ≡ outs_in blocks
  none_without [] h = refl
  none_without (block ∷ blocks) h = split (none_without blocks) (passes block) refl
    where
      split : (count_out (outs_in blocks) name page ≡ None → outs_without (outs_in blocks) name page ≡ outs_in blocks)
          → (b : Bool) → passes block ≡ b → outs_without (outs_in (block ∷ blocks)) name page ≡ outs_in (block ∷ blocks)
      split others true is =
          let some : Some block.count ≡ None =
          sym (ap (λ same. cond same (Some block.count) (count_out (outs_in blocks) name page)) is) ∙ h in grind (arith, some)
      split others false is =
          let rest : count_out (outs_in blocks) name page ≡ None =
          sym (ap (λ same. cond same (Some block.count) (count_out (outs_in blocks) name page)) is) ∙ h in
          ap (λ same. cond same (outs_in blocks) (out_page block ∷ outs_without (outs_in blocks) name page)) is
          ∙ ap (λ l. out_page block ∷ l) (others rest)

  pub found_out : (blocks : List OutBlock) (i : ℕ) (d : OutBlock) → StandsFirst passes blocks i
      → count_out (outs_in blocks) name page ≡ Some (slice_index_or blocks i d).count
  found_out [] i d p = nowhere passes i p
  found_out (block ∷ blocks) zero d p =
      ap (λ same. cond same (Some block.count) (count_out (outs_in blocks) name page)) (p.here d)
  found_out (block ∷ blocks) (suc i) d p =
      ap (λ same. cond same (Some block.count) (count_out (outs_in blocks) name page)) (p.first 0 d (omega arith))
      ∙ found_out blocks i d (behind passes block blocks i p)

  pub removed_out : (blocks : List OutBlock) (i : ℕ) → StandsFirst passes blocks i
      → outs_in (remove blocks i) ≡ outs_without (outs_in blocks) name page
  removed_out [] i p = nowhere passes i p
  removed_out (block ∷ blocks) zero p =
      sym (ap (λ same. cond same (outs_in blocks) (out_page block ∷ outs_without (outs_in blocks) name page)) (p.here block))
  removed_out (block ∷ blocks) (suc i) p =
      ap (λ l. out_page block ∷ l) (removed_out blocks i (behind passes block blocks i p))
      ∙ sym (ap (λ same. cond same (outs_in blocks) (out_page block ∷ outs_without (outs_in blocks) name page))
      (p.first 0 block (omega arith)))

  -- the count of the page that was found
  pub found_count : (blocks : List OutBlock) (i : ℕ) (block : OutBlock) → StandsFirst passes blocks i
      → block ≡ slice_index_or blocks i block → count_out (outs_in blocks) name page ≡ Some block.count
  found_count blocks i block p e = found_out blocks i block p ∙ ap (λ b. Some b.count) (sym e)
