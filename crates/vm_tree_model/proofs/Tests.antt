-- A page passes the tests of its slot exactly where it is the node that the slot asks for.
use Rattle.std.proofs.Common.{◌≡◌, ℕ, ◌<◌, ◌≤◌, ◌≢◌, ◌⊎◌, inl, inr, List, Option, Some, None, Bool, true, false, not}
use Rattle.std.proofs.Common.{eqb, ◌==◌, if◌then◌else◌, refl, arith, ◌∙◌}
use Rattle.std.proofs.lemmas.Bool.{cases_eq, and_parts, and_from, eqb-true, eq-eqb, ne_eqb, or_left, or_right}
use Rattle.std.proofs.lemmas.Bool.Decides.{nat_tests}
use Rattle.vm_map.specs.Map.{lookup_at, Rises}
use Rattle.vm_tree_model.specs.Layout.{Layout, IsLayout, IsClean}
use Rattle.vm_tree_model.specs.Page.{IsLeaf, IsInner}
use Rattle.vm_tree_model.specs.Walk.{Slot, starts_at, has_tag, has_fences, has_form, rises, has_keys, names_pages, has_children, slot_fault}
use Rattle.vm_tree_model.proofs.WordTests.{rises-tells, rises-from, names_pages-tells, names_pages-from, starts_tells}
use Rattle.vm_tree_model.proofs.WordTests.{starts_from, starts_some}

-- The page is what its slot asks for
pub record Fills (L : Layout) (pages : ℕ) (slot : Slot) (words : List ℕ) : Type 0 where
  pub level : (L.node_of words).level ≡ slot.level
  pub low : (L.node_of words).low ≡ slot.low
  pub high : (L.node_of words).high ≡ slot.high
  pub kind : ((slot.level ≡ 0) × IsLeaf L words)
      ⊎ ((1 ≤ slot.level) × IsInner L words × ((k c : ℕ) → lookup_at (L.node_of words).pairs k ≡ Some c
      → (1 ≤ c) × (c < pages)))

pub chain_tells : (test : Bool) (why : ℕ) (rest : Option ℕ) → (if not test then Some why else rest) ≡ None → (test ≡ true) × (rest ≡ None)
chain_tells true why rest none = (refl, none)
chain_tells false why rest none = absurd (cc)

pub chain_from : (test : Bool) (why : ℕ) (rest : Option ℕ) → test ≡ true → rest ≡ None → (if not test then Some why else rest) ≡ None
chain_from true why rest is none = none
chain_from false why rest is none = absurd (cc)

-- what a page that passes has passed
pub unseen_tells : (L : Layout) (pages : ℕ) (slot : Slot) (words : List ℕ) (v : Bool)
    → slot_fault L pages v slot words ≡ None → (v ≡ false) × (slot_fault L pages false slot words ≡ None)
unseen_tells L pages slot words true e = absurd (cc)
unseen_tells L pages slot words false e = (refl, e)

pub tests_tell : (L : Layout) (pages : ℕ) (visited : Bool) (slot : Slot) (words : List ℕ) → slot_fault L pages visited slot words ≡ None
    → (has_tag L slot words ≡ true) × (has_fences L slot words ≡ true) × (has_form L slot words ≡ true)
    × (has_keys L slot words ≡ true) × (has_children L pages slot words ≡ true)
tests_tell L pages visited slot words none =
    let (tag, four) = chain_tells (has_tag L slot words) 4 _ (unseen_tells L pages slot words visited none).1 in
    let (fences, five) = chain_tells (has_fences L slot words) 5 _ four in
    let (form, six) = chain_tells (has_form L slot words) 6 _ five in
    let (keys, seven) = chain_tells (has_keys L slot words) 7 _ six in
    let (names, eight) = chain_tells (has_children L pages slot words) 8 _ seven in
    (tag, fences, form, keys, names)

leaf_tag : (tag level : ℕ) → tag ≡ (if level == 0 then 2 else 3) → level ≡ 0 → tag ≡ 2
leaf_tag tag level is at = grind (arith, nat_tests, is, at)

inner_tag : (tag level : ℕ) → tag ≡ (if level == 0 then 2 else 3) → level ≢ 0 → tag ≡ 3
inner_tag tag level is at = grind (arith, nat_tests, is, at)

from_leaf : (tag level : ℕ) → tag ≡ 2 → level ≡ 0 → tag ≡ (if level == 0 then 2 else 3)
from_leaf tag level is at = grind (arith, nat_tests, is, at)

from_inner : (tag level : ℕ) → tag ≡ 3 → 1 ≤ level → tag ≡ (if level == 0 then 2 else 3)
from_inner tag level is at = grind (arith, nat_tests, is, at)

module _ (L : Layout) (laws : IsLayout L) (pages : ℕ) (visited : Bool) (slot : Slot) (words : List ℕ) where
  -- a page that passes the tests of its slot fills it
  pub fills : slot.high ≤ L.key_end → slot_fault L pages visited slot words ≡ None → (visited ≡ false) × Fills L pages slot words
  fills upto none = ((unseen_tells L pages slot words visited none).0, at_level (cases_eq slot.level 0))
    where
      tests : (has_tag L slot words ≡ true) × (has_fences L slot words ≡ true) × (has_form L slot words ≡ true)
          × (has_keys L slot words ≡ true) × (has_children L pages slot words ≡ true)
      tests = tests_tell L pages visited slot words none

      tag_is : (L.node_of words).tag ≡ (if slot.level == 0 then 2 else 3)
      tag_is = eqb-true _ _ tests.0

      told : IsClean L words × ((L.node_of words).level ≡ slot.level) × ((L.node_of words).low ≡ slot.low)
          × ((L.node_of words).high ≡ slot.high)
      told = laws.passed words slot.level slot.low slot.high upto tag_is tests.1 tests.2

      keys_tell : Rises slot.low slot.high (L.node_of words).pairs
      keys_tell = rises-tells (L.node_of words).pairs slot.low slot.high
          (and_parts (rises slot.low slot.high (L.node_of words).pairs) _ tests.3).0

      at_level : (slot.level ≡ 0) ⊎ (slot.level ≢ 0) → Fills L pages slot words
      at_level (inl zero_level) = record {
        level = told.1;
        low = told.2;
        high = told.3;
        kind = inl (
          zero_level,
          record {
            clean = told.0;
            node = record {
              tag = leaf_tag _ slot.level tag_is zero_level;
              level = told.1 ∙ zero_level;
              rises = rw (told.2, told.3) keys_tell;
            };
          },
        );
      }
      at_level (inr above) =
          let no_zero : eqb slot.level 0 ≡ false = ne_eqb slot.level 0 above in
          let first : starts_at slot.low (L.node_of words).pairs ≡ true =
          rw no_zero at (and_parts (rises slot.low slot.high (L.node_of words).pairs) _ tests.3).1 in
          let names : names_pages pages (L.node_of words).pairs ≡ true = rw no_zero at tests.4 in
          record {
            level = told.1;
            low = told.2;
            high = told.3;
            kind = inr (
              omega arith,
              record {
                clean = told.0;
                node = record {
                  tag = inner_tag _ slot.level tag_is above;
                  level = omega (arith, told.1, above);
                  rises = rw (told.2, told.3) keys_tell;
                  starts = rw told.2 (starts_tells (L.node_of words).pairs slot.low first);
                };
              },
              names_pages-tells (L.node_of words).pairs pages names,
            );
          }

  -- a page that fills its slot, and was not visited, passes
  pub no_fault : visited ≡ false → Fills L pages slot words → slot_fault L pages visited slot words ≡ None
  no_fault unseen f = rw unseen
      (chain_from (has_tag L slot words) 4 _ tag
      (chain_from (has_fences L slot words) 5 _ form.0
      (chain_from (has_form L slot words) 6 _ form.1
      (chain_from (has_keys L slot words) 7 _ keys
      (chain_from (has_children L pages slot words) 8 None names refl)))))
    where
      tag_is : (L.node_of words).tag ≡ (if slot.level == 0 then 2 else 3)
      tag_is = elim f.kind [
        | inl leaf ↦ from_leaf _ slot.level leaf.1.node.tag leaf.0
        | inr inner ↦ from_inner _ slot.level inner.1.node.tag inner.0
      ]

      tag : has_tag L slot words ≡ true
      tag = eq-eqb _ _ tag_is

      form : (has_fences L slot words ≡ true) × (has_form L slot words ≡ true)
      form = elim f.kind [
        | inl leaf ↦ laws.passes words slot.level slot.low slot.high tag_is leaf.1.clean f.level f.low f.high (inl leaf.0)
        | inr inner ↦ laws.passes words slot.level slot.low slot.high tag_is inner.1.clean f.level f.low f.high
            (inr (starts_some _ _ inner.1.node.starts))
      ]

      keys_rise : Rises slot.low slot.high (L.node_of words).pairs
      keys_rise = elim f.kind [
        | inl leaf ↦ rw (← f.low, ← f.high) leaf.1.node.rises
        | inr inner ↦ rw (← f.low, ← f.high) inner.1.node.rises
      ]

      keys : has_keys L slot words ≡ true
      keys = and_from _ _ (rises-from (L.node_of words).pairs slot.low slot.high keys_rise) (elim f.kind [
        | inl leaf ↦ or_left _ _ (eq-eqb _ _ leaf.0)
        | inr inner ↦ or_right (eqb slot.level 0) _ (starts_from (L.node_of words).pairs slot.low (rw (← f.low) inner.1.node.starts))
      ])

      names : has_children L pages slot words ≡ true
      names = elim f.kind [
        | inl leaf ↦ or_left _ _ (eq-eqb _ _ leaf.0)
        | inr inner ↦ or_right (eqb slot.level 0) _ (names_pages-from (L.node_of words).pairs slot.low slot.high pages keys_rise inner.2)
      ]
