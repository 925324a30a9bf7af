-- The checker's tests of a node with byte keys.
use Rattle.std.proofs.Common.{[], ◌≡◌, ◌≢◌, ℕ, ◌<◌, List, eqb, false, if◌then◌else◌, length, ltb, refl, true, arith}
use Rattle.std.proofs.lemmas.Bool.{eq-eqb, ne_eqb}
use Rattle.std.proofs.lemmas.Bool.Decides.{nat_tests}
use Rattle.vm_tree_model.specs.Page.{pairs_of}
use Rattle.vm_bytes_form.specs.Bytes.{bytes, bytes_clean, bytes_has_form, kind_of}
use Rattle.vm_bytes_form.specs.Forms.{node_in}
use Rattle.vm_bytes_form.specs.Strings.{rank, rank_in}
use Rattle.vm_bytes_node.proofs.KeySearch.{length-pairs}
use Rattle.vm_bytes_node.proofs.SlotLemmas.{count_is}

-- the empty string has the lowest rank
pub lowest : rank [] ≡ 0
unfolding rank_in
lowest = refl

-- a page has place for 504 pairs
pub few_pairs : (words : List ℕ) (i : ℕ) → length words ≡ 512 → i < length (pairs_of bytes words) → i < 504
few_pairs words i size lt = omega (arith, lt, length-pairs words, count_is words size)

-- a leaf's tag, or an inner node's
pub tag_test : (tag wanted level : ℕ) → wanted ≡ (if eqb level 0 then 4 else 5) → eqb tag wanted ≡ eqb (kind_of tag) (if eqb level 0 then 2 else 3)
tag_test tag wanted level is = rw is (grind (arith, nat_tests))

module _ (words : List ℕ) (level : ℕ) where
  pub no_form : bytes_clean words ≡ false → false ≡ bytes_has_form level words
  no_form none = rw none refl

  pub other_level : bytes_clean words ≡ true → (node_in words).level ≢ level → false ≡ bytes_has_form level words
  other_level clean other = rw (clean, ne_eqb (node_in words).level level other) refl

  pub leaf_form : bytes_clean words ≡ true → (node_in words).level ≡ level → level ≡ 0 → true ≡ bytes_has_form level words
  leaf_form clean is bottom = rw (clean, eq-eqb (node_in words).level level is, eq-eqb level 0 bottom) refl

  pub inner_form : (count : ℕ) → bytes_clean words ≡ true → (node_in words).level ≡ level → level ≢ 0
      → count ≡ length (node_in words).entries → ltb 0 count ≡ bytes_has_form level words
  inner_form count clean is above counted =
      rw (clean, eq-eqb (node_in words).level level is, ne_eqb level 0 above, ← counted) (grind (arith, nat_tests))
