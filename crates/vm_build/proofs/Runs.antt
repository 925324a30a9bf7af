-- The runs of a level's entries, by place, and the fences of its nodes.
use Rattle.std.proofs.Common.{◌≡◌, ℕ, zero, suc, ◌+◌, ◌-◌, ◌*◌, ◌<◌, ◌≤◌, length, drop, min, true, false, ltb, Some}
use Rattle.std.proofs.Common.{unwrap_or, refl, ap, ◌∙◌, add-one, arith, inl, inr, length-take, length-drop}
use Rattle.std.proofs.lemmas.Bool.{cases_lt}
use Rattle.std.proofs.lemmas.Bool.Decides.{nat_tests}
use Rattle.std.proofs.lemmas.List.{get_or-take, get_or-drop}
use Rattle.vm_map.specs.Keys.{KEY_END}
use Rattle.vm_map.specs.Map.{Pairs, lookup_at, Rises, StartsAt, next_key}
use Rattle.vm_build.specs.Levels.{nodes_for, run_of, low_of, high_fence_of}
use Rattle.vm_build.proofs.Rising.{entry_at, key_below, keys_rise, stands, finds, next_stands, none_next, Rises-drop, Rises-take, starts}
use Rattle.vm_page.specs.Sizes.{IsSize}
use Rattle.vm_build.specs.Levels.{fill_of}
use Rattle.vm_build.proofs.Fill.{fill_some, fill_next, fill_has, fill_more, fill_last}

module _ (z : ℕ) where
  -- the high fence of node n as a number, 2 ^ 64 for none
  abbrev pub fence_of : Pairs → ℕ → ℕ
  fence_of entries n = unwrap_or (high_fence_of z entries n) KEY_END

module _ (z : ℕ) (size : IsSize z) where
  -- each node but the first has an entry
  pub has_entry : (entries n : ℕ) → suc n < nodes_for z entries → fill_of z * suc n < entries
  has_entry entries n lt = fill_has z size entries n lt

  pub low_le : (entries : Pairs) (n : ℕ) → low_of z entries n ≤ (entry_at entries (fill_of z * n)).0
  low_le entries zero = omega arith
  low_le entries (suc n) = omega arith

  module _ (entries : Pairs) (n : ℕ) where
    pub fence_next : suc n < nodes_for z (length entries) → fence_of z entries n ≡ low_of z entries (suc n)
    fence_next more = let test : ltb (n + 1) (nodes_for z (length entries)) ≡ true = grind (arith, nat_tests, more) in
        rw (test, add-one n) refl

    pub fence_last : nodes_for z (length entries) ≤ suc n → fence_of z entries n ≡ KEY_END
    fence_last last = let test : ltb (n + 1) (nodes_for z (length entries)) ≡ false = grind (arith, nat_tests, last) in rw test refl

    length-run : length (run_of z entries n) ≡ min (fill_of z) (length entries - fill_of z * n)
    length-run = omega (arith, length-take (fill_of z) (drop (fill_of z * n) entries), length-drop (fill_of z * n) entries)

    run_at : (i : ℕ) → i < fill_of z → entry_at (run_of z entries n) i ≡ entry_at entries (fill_of z * n + i)
    run_at i lt = get_or-take (fill_of z) (drop (fill_of z * n) entries) i (0, 0) lt ∙ get_or-drop (fill_of z * n) entries i (0, 0)

    pub run_starts : fill_of z * n < length entries → low_of z entries n ≡ (entry_at entries (fill_of z * n)).0
        → StartsAt (low_of z entries n) (run_of z entries n)
    run_starts some low = starts (run_of z entries n) (low_of z entries n)
        (omega (arith, length-run, some, fill_some z size))
        (rw (run_at 0 (omega (arith, fill_some z size)), low) (ap (λ i. (entry_at entries i).0) (omega arith)))

    pub run_found : (k v : ℕ) → lookup_at (run_of z entries n) k ≡ Some v → (j : ℕ) × (fill_of z * n ≤ j)
        × (j < fill_of z * n + fill_of z) × (j < length entries) × (entry_at entries j ≡ (k, v))
    run_found k v found =
        let (i, within, is) = stands (run_of z entries n) k v found in (
          fill_of z * n + i,
          omega arith,
          omega (arith, within, length-run),
          omega (arith, within, length-run),
          rw (run_at i (omega (arith, within, length-run))) at is,
        )

    module _ (rises : Rises 0 KEY_END entries) where
      pub run_rises : Rises (low_of z entries n) (fence_of z entries n) (run_of z entries n)
      run_rises =
          let dropped = Rises-drop entries (fill_of z * n) 0 (low_of z entries n) KEY_END rises (λ _. low_le entries n) in
          Rises-take (drop (fill_of z * n) entries) (fill_of z) (low_of z entries n) KEY_END (fence_of z entries n) dropped below
        where
          below : (i : ℕ) → i < fill_of z → i < length (drop (fill_of z * n) entries)
              → (entry_at (drop (fill_of z * n) entries) i).0 < fence_of z entries n
          below i lt within = rw (get_or-drop (fill_of z * n) entries i (0, 0)) (elim (cases_lt (suc n) (nodes_for z (length entries))) [
            | inl more ↦ rw (fence_next more)
                (keys_rise entries 0 KEY_END (fill_of z * n + i) (fill_of z * suc n) rises
                (omega (arith, lt, fill_next z size n)) (has_entry (length entries) n more))
            | inr last ↦ rw (fence_last last)
                (key_below entries 0 KEY_END (fill_of z * n + i) rises
                (omega (arith, within, length-drop (fill_of z * n) entries)))
          ])

      -- the entry in place j is one of node n's
      module _ (j : ℕ) (from : fill_of z * n ≤ j) (to : j < fill_of z * n + fill_of z) where
        place : fill_of z * n + (j - fill_of z * n) ≡ j
        place = omega (arith, from)

        at_place : entry_at (run_of z entries n) (j - fill_of z * n) ≡ entry_at entries j
        at_place = run_at (j - fill_of z * n) (omega (arith, from, to)) ∙ ap (entry_at entries) place

        pub run_finds : j < length entries → lookup_at (run_of z entries n) (entry_at entries j).0 ≡ Some (entry_at entries j).1
        run_finds lt = rw at_place
            at (finds (run_of z entries n) (low_of z entries n) (fence_of z entries n) (j - fill_of z * n) run_rises
            (omega (arith, length-run, from, to, lt)))

        -- the next key in the node is the next entry's, be it in the node or the first of the node to the right
        pub run_next : suc j < length entries → next_key (run_of z entries n) (fence_of z entries n)
            (entry_at entries j).0 ≡ (entry_at entries (suc j)).0
        run_next more = elim (cases_lt (suc j) (fill_of z * n + fill_of z)) [
          | inl inside ↦
              let next = next_stands (run_of z entries n) (low_of z entries n) (fence_of z entries n)
              (j - fill_of z * n) run_rises (omega (arith, length-run, from, inside, more)) in
              rw at_place at next ∙ ap (λ (e : ℕ × ℕ). e.0)
              (run_at (suc (j - fill_of z * n)) (omega (arith, from, inside)) ∙ ap (entry_at entries)
              (omega (arith, from)))
          | inr end ↦
              let next = none_next (run_of z entries n) (low_of z entries n) (fence_of z entries n)
              (j - fill_of z * n) run_rises (omega (arith, length-run, from, to, more, end)) in
              rw at_place at next ∙ fence_next (fill_more z size (length entries) n (omega (arith, to, more, end)))
              ∙ ap (λ i. (entry_at entries i).0) (omega (arith, to, end, fill_next z size n))
        ]

        pub run_last : suc j ≡ length entries → next_key (run_of z entries n) (fence_of z entries n) (entry_at entries j).0 ≡ KEY_END
        run_last last =
            let next = none_next (run_of z entries n) (low_of z entries n) (fence_of z entries n) (j - fill_of z * n)
            run_rises (omega (arith, length-run, from, to, last)) in
            rw at_place at next ∙ fence_last (fill_last z size (length entries) n (omega (arith, to, last)))
