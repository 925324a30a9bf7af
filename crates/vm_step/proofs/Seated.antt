-- The seat that is taken out of a pass's badge for one operation: what the table allows the pass it allows the seat.
use Rattle.vm_step.proofs.Prelude.{[], Allows, AllowsStep, IsFit, Me, subst, sym, Table, View, ℕ, ◌≡◌}

module _ {X : Type 0} where
  abbrev play : {S : Type 0} → (ℕ → View X → View X → Type 0) → Me S (View X) → ℕ → Me S (View X) → Type 0
  play told m n m' = told n m.0 m'.0 × IsFit m'.0 × (m'.1 ≡ m.1)

  pub seat-allows : {S : Type 0} (holds : Table S (View X) → Type 0) (slots id seat at : ℕ) (v : View X)
      (m : Me S (View X)) (f : ℕ → ℕ) (told : ℕ → View X → View X → Type 0)
      → seat ≡ id → v ≡ m.0 → m.1 ≡ [] → AllowsStep holds slots id v at f told
      → Allows holds slots seat m at f (play told m)
  seat-allows holds slots id seat at v m f told same is none a =
      subst (λ k. Allows holds slots k m at f (play told m)) (sym same)
      (subst (λ u. Allows holds slots id (u, m.1) at f (play told (u, m.1))) is
      (subst (λ l. Allows holds slots id (v, l) at f (play told (v, l))) (sym none) a))
