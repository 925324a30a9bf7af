-- A claim of zero pages keeps what the tree keeps.
use Rattle.std.proofs.Common.{◌≡◌, ◌⊎◌, inl, inr, ℕ, zero, suc, ◌+◌, ◌<◌, ◌≤◌, Bool, true, false, [], ◌∷◌, ◌++◌}
use Rattle.std.proofs.Common.{length, slice_index, refl, sym, ap, ◌∙◌, arith, length-append}
use Rattle.std.proofs.lemmas.Bool.{cases_eq}
use Rattle.vm_page.specs.Pages.{all_zero}
use Rattle.vm_tree_model.specs.Layout.{Layout, IsLayout}
use Rattle.vm_tree_model.specs.Page.{IsFree}
use Rattle.vm_tree_model.specs.Tree.{page_at}
use Rattle.vm_owner.specs.Numbers.{has}
use Rattle.vm_owner.specs.Kept.{Start, Kept, claimed, AreZero, is_spare}
use Rattle.vm_owner.proofs.NumberLemmas.{has-end, has-last, apart-end}
use Rattle.vm_map.specs.declared.call.Said.{Said}
use Rattle.vm_tree_laws.specs.Keeps.{KeepsTree}
use Rattle.vm_tree_laws.proofs.Payments.{paid_more}

module _ (L : Layout) (laws : IsLayout L) (start : Start) (kept : Kept Said) (keeps : KeepsTree L start kept) where
  next_not_owed : has kept.next kept.owed ≡ false
  next_not_owed = go (has kept.next kept.owed) refl
    where
      go : (b : Bool) → has kept.next kept.owed ≡ b → b ≡ false
      go true some = absurd (omega (arith, (keeps.owed.range kept.next some).1))
      go false none = refl

  -- a page owed after the claim is the page claimed, or was owed
  owed_before : (x : ℕ) → has x (kept.owed ++ kept.next ∷ []) ≡ true → (x ≡ kept.next) ⊎ (has x kept.owed ≡ true)
  owed_before x some = elim (cases_eq x kept.next) [
    | inl same ↦ inl same
    | inr other ↦ inr (sym (has-end kept.owed kept.next x other) ∙ some)
  ]

  -- a page of zeros is free: in a tree each page has 64 words, and page 0 has its magic word
  free_at : (p : ℕ) → p < length kept.pages → ((i : ℕ) → slice_index (page_at kept.pages p) i ≡ 0) → IsFree L (page_at kept.pages p)
  free_at zero lt zeros = absurd (omega (arith, zeros 0, keeps.tree.meta.magic, laws.some_magic))
  free_at (suc p) lt zeros = elim (keeps.tree.kind (suc p) (omega arith) lt) [
    | inl free ↦ free
    | inr kind ↦ elim kind [
      | inl leaf ↦ absurd (omega (arith, laws.free_tag _ zeros, leaf.node.tag))
      | inr inner ↦ absurd (omega (arith, laws.free_tag _ zeros, inner.node.tag))
    ]
  ]

  claim_keeps : kept.next < length kept.pages → IsFree L (page_at kept.pages kept.next)
      → KeepsTree L start (record kept { next = kept.next + 1; owed = kept.owed ++ kept.next ∷ [] })
  claim_keeps there free = record {
    same_count = keeps.same_count;
    tree = keeps.tree;
    parted = keeps.parted;
    contents = keeps.contents;
    legal = keeps.legal;
    risen = omega (arith, keeps.risen);
    bounded = omega arith;
    claimed = claimed_or_owed;
    owed = record {
      apart = apart-end kept.owed kept.next keeps.owed.apart next_not_owed;
      range = λ x some. elim (owed_before x some) [
        | inl same ↦ (omega (arith, keeps.risen), omega arith)
        | inr before ↦ let range = keeps.owed.range x before in (range.0, omega (arith, range.1))
      ];
      free = λ x some. elim (owed_before x some) [
        | inl same ↦ rw same free
        | inr before ↦ keeps.owed.free x before
      ];
    };
    room = keeps.room;
    paid = paid_more L.node_weight kept.next _ _ start.next (length kept.owed) (length (kept.owed ++ kept.next ∷ []))
        (length-append kept.owed (kept.next ∷ [])) keeps.paid;
  }
    where
      claimed_or_owed : (x : ℕ) → start.next ≤ x → x < kept.next + 1 → (all_zero (page_at kept.pages x) ≡ false)
          ⊎ (has x (kept.owed ++ kept.next ∷ []) ≡ true) ⊎ (is_spare kept x ≡ true)
      claimed_or_owed x ge lt = elim (cases_eq x kept.next) [
        | inl same ↦ inr (inl (ap (λ y. has y (kept.owed ++ kept.next ∷ [])) same ∙ has-last kept.owed kept.next))
        | inr other ↦ elim (keeps.claimed x ge (omega arith)) [
          | inl is ↦ inl is
          | inr rest ↦ elim rest [
            | inl some ↦ inr (inl (has-end kept.owed kept.next x other ∙ some))
            | inr spare ↦ inr (inr spare)
          ]
        ]
      ]

pub claims_keep : (L : Layout) (laws : IsLayout L) (start : Start) (kept : Kept Said) (n : ℕ) → KeepsTree L start kept
    → AreZero kept n → KeepsTree L start (claimed n kept)
claims_keep L laws start kept zero keeps zeros = keeps
claims_keep L laws start kept (suc n) keeps zeros =
    claims_keep L laws start (record kept { next = kept.next + 1; owed = kept.owed ++ kept.next ∷ [] }) n
    (claim_keeps L laws start kept keeps (omega (arith, zeros.there))
    (free_at L laws start kept keeps kept.next (omega (arith, zeros.there))
    (λ i. zeros.zero kept.next i (omega arith) (omega arith))))
    (record { there = omega (arith, zeros.there); zero = λ p i ge lt. zeros.zero p i (omega (arith, ge)) (omega (arith, lt)) })
