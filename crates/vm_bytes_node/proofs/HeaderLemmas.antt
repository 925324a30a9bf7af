-- What the header of any words says.
use Rattle.std.proofs.Common.{◌≡◌, ◌≢◌, ℕ, ◌<◌, ◌≤◌, List, get_or, Option, Some, None, Bool, eqb, true, false, inl, inr, if◌then◌else◌}
use Rattle.std.proofs.Common.{refl, arith, sym, ap, ◌∙◌, unwrap_or}
use Rattle.std.proofs.lemmas.Bool.{eq-eqb, ne_eqb, cases_eq, cases_lt}
use Rattle.std.specs.Option.{option_map}
use Rattle.vm_node.specs.Loads.{IsAnswer}
use Rattle.vm_tree_model.specs.{Node.Covers, Page.node_of}
use Rattle.vm_bytes_form.specs.Bytes.{bytes, high_rank, kind_of}
use Rattle.vm_bytes_form.specs.Forms.{node_in, string_at}
use Rattle.vm_bytes_form.specs.Strings.{RANK_END, rank}

module _ (words : List ℕ) where
  pub tag_is : (node_in words).tag ≡ get_or words 0 0
  unfolding node_in
  tag_is = refl

  pub level_is : (node_in words).level ≡ get_or words 2 0
  unfolding node_in
  level_is = refl

  pub low_is : (node_in words).low ≡ string_at words (get_or words 3 0)
  unfolding node_in
  low_is = refl

  pub high_none : get_or words 4 0 ≡ 0 → (node_in words).high ≡ None
  unfolding node_in
  high_none none = rw none refl

  pub high_some : get_or words 4 0 ≢ 0 → (node_in words).high ≡ Some (string_at words (get_or words 4 0))
  unfolding node_in
  high_some some = rw (ne_eqb (get_or words 4 0) 0 some) refl

-- a leaf's tag is 4
pub leaf_tag : (tag word : ℕ) (r : Bool) → tag ≡ word → r ≡ eqb word 4 → IsAnswer r (kind_of tag ≡ 2)
leaf_tag tag word r is e = elim (cases_eq word 4) [
  | inl four ↦ rw (is, e, eq-eqb word 4 four) (λ _. refl, λ f _. absurd (cc))
  | inr other ↦ rw (is, e, ne_eqb word 4 other) (λ t. absurd (cc), λ _ k. absurd (go (eqb word 5) k))
]
  where
    kind : Bool → ℕ
    kind five = if five then 3 else 0

    go : (five : Bool) → kind five ≡ 2 → ⊥
    go true k = omega (arith, k)
    go false k = omega (arith, k)

pub same_level : (level word wanted : ℕ) (r : Bool) → level ≡ word → r ≡ eqb word wanted → IsAnswer r (level ≡ wanted)
same_level level word wanted r is e = elim (cases_eq word wanted) [
  | inl same ↦ rw (e, eq-eqb word wanted same) (λ _. is ∙ same, λ f _. absurd (cc))
  | inr other ↦ rw (e, ne_eqb word wanted other) (λ t. absurd (cc), λ _ k. absurd (other (sym is ∙ k)))
]

-- whether a key is covered
module _ (words : List ℕ) (key low : List ℕ) (low_read : low ≡ (node_in words).low) (from : rank key < rank low → ⊥) where
  low_le : (node_of bytes words).low ≤ rank key
  low_le = let not_below = not_lt (rank key) (rank low) from in omega (arith, not_below, ap rank low_read)
    where
      not_lt : (a b : ℕ) → (a < b → ⊥) → b ≤ a
      not_lt a b never = elim (cases_lt a b) [ inl lt ↦ absurd (never lt) | inr le ↦ le ]

  pub covers_below : (high : List ℕ) (r : Bool) → Some high ≡ (node_in words).high → IsAnswer r (rank key < rank high)
      → IsAnswer r (Covers (node_of bytes words) (rank key))
  covers_below high r high_read is =
      let same : rank high ≡ high_rank (node_in words).high = ap high_rank high_read in
      (λ t. (low_le, (let lt = is.0 t in omega (arith, lt, same))), λ f covers. is.1 f (let lt = covers.1 in omega (arith, lt, same)))

  pub covers_endless : None ≡ (node_in words).high → rank key < RANK_END → IsAnswer true (Covers (node_of bytes words) (rank key))
  covers_endless high_read below =
      let same : RANK_END ≡ high_rank (node_in words).high = ap high_rank high_read in
      (λ t. (low_le, omega (arith, below, same)), λ f _. absurd (cc))

pub high_or_end : (high : Option (List ℕ)) → high_rank high ≡ unwrap_or (option_map rank high) RANK_END
high_or_end None = refl
high_or_end (Some s) = refl
