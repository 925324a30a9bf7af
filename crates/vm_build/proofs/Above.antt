-- The entries of the level above: the low fences of a level's nodes, with their pages. They rise from 0 on.
use Rattle.std.proofs.Common.{◌≡◌, ℕ, zero, suc, ◌+◌, ◌*◌, ◌<◌, ◌≤◌, [], ◌∷◌, length, refl, sym, ap, ◌∙◌, arith, inl, inr}
use Rattle.std.proofs.lemmas.Bool.{cases_lt}
use Rattle.std.proofs.Math.Seq.{get_or-append_seam}
use Rattle.std.proofs.lemmas.List.{get_or_append_left}
use Rattle.vm_map.specs.Keys.{KEY_END}
use Rattle.vm_map.specs.Map.{Pairs, Rises}
use Rattle.vm_map.proofs.MapLemmas.{Rises-join}
use Rattle.vm_build.specs.Levels.{nodes_for, low_of, entries_above}
use Rattle.vm_build.proofs.Sizes.{length-entries_above}
use Rattle.vm_build.proofs.Rising.{entry_at, key_below, keys_rise}
use Rattle.vm_build.proofs.Runs.{has_entry}
use Rattle.vm_page.specs.Sizes.{IsSize}
use Rattle.vm_build.specs.Levels.{fill_of}
use Rattle.vm_build.proofs.Fill.{fill_some, fill_first, fill_next, fill_rise}

module _ (z : ℕ) (size : IsSize z) where
  module _ (page : ℕ) (below : Pairs) where
    pub above_at : (n i : ℕ) → i < n → entry_at (entries_above z page below n) i ≡ (low_of z below i, page + i)
    above_at zero i lt = absurd (omega (arith, lt))
    above_at (suc n) i lt =
        let before = above_at n i in
        elim (cases_lt i n) [
          | inl less ↦ get_or_append_left (entries_above z page below n) ((low_of z below n, page + n) ∷ []) (0, 0) i
              (omega (arith, less, length-entries_above z size page below n)) ∙ before less
          | inr last ↦
              let same : i ≡ n = omega (arith, lt, last) in
              let end : i ≡ length (entries_above z page below n) = omega (arith, same, length-entries_above z size page below n) in
              ap (entry_at (entries_above z page below (suc n))) end ∙ get_or-append_seam
              (entries_above z page below n) (low_of z below n, page + n) [] (0, 0)
              ∙ ap (λ j. (low_of z below j, page + j)) (sym same)
        ]

    -- where the entry has the low fence of a node, that is so of the first too
    pub above_low : (nodes n : ℕ) → 1 ≤ nodes → low_of z (entries_above z page below nodes)
        n ≡ (entry_at (entries_above z page below nodes) (fill_of z * n)).0
    above_low nodes zero some =
        sym (ap (λ (i : ℕ). (entry_at (entries_above z page below nodes) i).0) (fill_first z size)
        ∙ ap (λ (e : ℕ × ℕ). e.0) (above_at nodes 0 some))
    above_low nodes (suc n) some = refl

    module _ (rises : Rises 0 KEY_END below) where
      pub lows_rise : (i j : ℕ) → i < j → j < nodes_for z (length below) → low_of z below i < low_of z below j
      lows_rise i zero less lt = absurd (omega (arith, less))
      lows_rise zero (suc j) less lt =
          omega (
            arith,
            keys_rise below 0 KEY_END 0 (fill_of z * suc j) rises
                (omega (arith, fill_some z size, fill_next z size j)) (has_entry z size (length below) j lt),
          )
      lows_rise (suc i) (suc j) less lt = keys_rise below 0 KEY_END (fill_of z * suc i) (fill_of z * suc j) rises
          (fill_rise z size (suc i) (suc j) less) (has_entry z size (length below) j lt)

      pub low_below : (j : ℕ) → j < nodes_for z (length below) → low_of z below j < KEY_END
      low_below zero lt = omega arith
      low_below (suc j) lt = key_below below 0 KEY_END (fill_of z * suc j) rises (has_entry z size (length below) j lt)

      rises_to : (n to : ℕ) → n ≤ nodes_for z (length below) → ((i : ℕ) → i < n → low_of z below i < to)
          → Rises 0 to (entries_above z page below n)
      rises_to zero to le each = tt
      rises_to (suc n) to le each =
          let before = rises_to n (low_of z below n) (omega (arith, le)) (λ i lt. lows_rise i n lt le) in
          let here = each n (omega arith) in
          Rises-join (entries_above z page below n) ((low_of z below n, page + n) ∷ []) 0 (low_of z below n) to before
          (omega arith) (omega arith, here, tt) (omega (arith, here))

      pub above_rises : Rises 0 KEY_END (entries_above z page below (nodes_for z (length below)))
      above_rises = rises_to (nodes_for z (length below)) KEY_END (omega arith) low_below
