-- Where a key stands among entries, a put and a del change the list there.
use Rattle.std.proofs.Common.{◌≡◌, ◌≢◌, inl, inr, ℕ, zero, suc, ◌+◌, List, [], ◌∷◌, ◌++◌, get_or, take, drop, None, true, false, ltb}
use Rattle.std.proofs.Common.{refl, sym, ap, ◌∙◌, arith}
use Rattle.std.proofs.lemmas.Bool.{cases_eq, cases_lt, eq-eqb, ne_eqb, lt-ltb}
use Rattle.std.proofs.lemmas.Bool.Decides.{nat_tests}
use Rattle.vm_map.specs.Map.{lookup_at, Rises}
use Rattle.vm_node.specs.Places.{place_of}
use Rattle.vm_bytes_form.specs.Forms.{AreKeys, KeyEntry}
use Rattle.vm_bytes_form.specs.KeyMap.{del_key, put_key, ranks_of}
use Rattle.vm_bytes_form.specs.Strings.{IsString, rank}
use Rattle.vm_bytes_form.proofs.KeyMaps.{before_test, same_test}
use Rattle.vm_bytes_node.proofs.WindowSteps.{none_lower}

module _ (s : List ℕ) (v : ℕ) (is : IsString 64 s) where
  -- no entry has the key
  pub put_new : (es : List KeyEntry) (at : ℕ) → AreKeys es → lookup_at (ranks_of es) (rank s) ≡ None
      → at ≡ place_of (ranks_of es) (rank s + 1)
      → put_key es s v ≡ take at es ++ ((s, v) ∷ drop at es)
  put_new [] at keys none place = rw place refl
  put_new (e ∷ es) at keys none place = elim (cases_eq (rank s) (rank e.0)) [
    | inl same ↦ absurd (let found = rw (eq-eqb (rank s) (rank e.0) same) at none in cc)
    | inr other ↦
        let none' : lookup_at (ranks_of es) (rank s) ≡ None = (rw (ne_eqb (rank s) (rank e.0) other) at none) in
        elim (cases_lt (rank s) (rank e.0)) [
          | inl above ↦
              let stops : ltb (rank e.0) (rank s + 1) ≡ false = grind (arith, nat_tests, above) in
              let first : at ≡ 0 = place ∙ rw stops refl in
              rw (before_test s e.0 is keys.0, lt-ltb (rank s) (rank e.0) above, first) refl
          | inr upto ↦
              let goes : ltb (rank e.0) (rank s + 1) ≡ true = grind (arith, nat_tests, upto) in
              let not_above : ltb (rank s) (rank e.0) ≡ false = grind (arith, nat_tests, upto) in
              let next : at ≡ suc (place_of (ranks_of es) (rank s + 1)) = place ∙ rw goes refl in
              rw (before_test s e.0 is keys.0, not_above, same_test s e.0 is keys.0, ne_eqb (rank s) (rank e.0) other, next)
              (ap (λ (l : List KeyEntry). e ∷ l) (put_new es (place_of (ranks_of es) (rank s + 1)) keys.1 none' refl))
        ]
  ]

module _ (s : List ℕ) (v : ℕ) (is : IsString 64 s) where
  -- an entry has the key: it stands before the place where the keys begin to be above
  pub edits_there : (es : List KeyEntry) (at low high : ℕ) → AreKeys es → Rises low high (ranks_of es)
      → suc at ≡ place_of (ranks_of es) (rank s + 1)
      → (get_or (ranks_of es) at (0, 0)).0 ≡ rank s
      → (put_key es s v ≡ take at es ++ ((s, v) ∷ drop (suc at) es)) × (del_key es s ≡ take at es ++ drop (suc at) es)
  edits_there [] at low high keys rises place has = absurd (omega (arith, place))
  edits_there (e ∷ es) at low high keys rises place has = elim (cases_eq (rank s) (rank e.0)) [
    | inl same ↦
        let goes : ltb (rank e.0) (rank s + 1) ≡ true = grind (arith, nat_tests, same) in
        let rest : place_of (ranks_of es) (rank s + 1) ≡ 0 = none_lower (ranks_of es) (rank e.0 + 1) high (rank s + 1) rises.2
        (omega (arith, same)) in
        let is_place : suc at ≡ suc (place_of (ranks_of es) (rank s + 1)) = place ∙ rw goes refl in
        let first : at ≡ 0 = omega (arith, is_place, rest) in
        let not_above : ltb (rank s) (rank e.0) ≡ false = grind (arith, nat_tests, same) in
        rw (before_test s e.0 is keys.0, not_above, same_test s e.0 is keys.0, eq-eqb (rank s) (rank e.0) same, first) (refl, refl)
    | inr other ↦ elim (cases_lt (rank s) (rank e.0)) [
      | inl above ↦
          let stops : ltb (rank e.0) (rank s + 1) ≡ false = grind (arith, nat_tests, above) in
          absurd (let none : suc at ≡ 0 = place ∙ rw stops refl in omega (arith, none))
      | inr upto ↦
          let goes : ltb (rank e.0) (rank s + 1) ≡ true = grind (arith, nat_tests, upto) in
          let not_above : ltb (rank s) (rank e.0) ≡ false = grind (arith, nat_tests, upto) in
          let next : suc at ≡ suc (place_of (ranks_of es) (rank s + 1)) = place ∙ rw goes refl in
          rw (before_test s e.0 is keys.0, not_above, same_test s e.0 is keys.0, ne_eqb (rank s) (rank e.0) other)
          (go at (omega (arith, next)) has (λ e. other (sym e))
          (λ i place has. edits_there es i (rank e.0 + 1) high keys.1 rises.2 place has))
    ]
  ]
    where
      go : (at : ℕ) → at ≡ place_of (ranks_of es) (rank s + 1) → (get_or (ranks_of (e ∷ es)) at (0, 0)).0 ≡ rank s → rank e.0 ≢ rank s
          → ((i : ℕ) → suc i ≡ place_of (ranks_of es) (rank s + 1) → (get_or (ranks_of es) i (0, 0)).0 ≡ rank s
          → (put_key es s v ≡ take i es ++ ((s, v) ∷ drop (suc i) es)) × (del_key es s ≡ take i es ++ drop (suc i) es))
          → (e ∷ put_key es s v ≡ take at (e ∷ es) ++ ((s, v) ∷ drop (suc at) (e ∷ es)))
          × (e ∷ del_key es s ≡ take at (e ∷ es) ++ drop (suc at) (e ∷ es))
      go zero place has differs rest = absurd (differs has)
      go (suc i) place has differs rest = let both = rest i place has in (
        ap (λ (l : List KeyEntry). e ∷ l) both.0,
        ap (λ (l : List KeyEntry). e ∷ l) both.1,
      )
