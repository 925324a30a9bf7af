-- Blocks synced one by one, and the first whose sync failed.
use Rattle.std.proofs.Common.{◌≡◌, ◌≢◌, ℕ, ◌+◌, ◌<◌, ◌≤◌, List, length, length-set, get_or, set, Bool, true, false, Option, Some, None}
use Rattle.std.proofs.Common.{refl, sym, ap, ◌∙◌, subst, arith, inl, inr}
use Rattle.std.proofs.lemmas.Bool.{cases_lt}
use Rattle.std.proofs.lemmas.List.{get_or-set_other, get_or-set_same, get_or_default}
use Rattle.vm_page.specs.Counts.{count_more}
use Rattle.vm_block.specs.declared.stored.Stored.{Stored}
use Rattle.vm_device.specs.Whole.{IsAfterSync, SyncsAll, first_unsynced}

-- of the first so many blocks this one's sync failed first, or none did
abbrev pub IsFirst : Bool → List Stored → List Stored → ℕ → Option ℕ → Type 0
IsFirst tells old now n None = (p : ℕ) (d : Stored) → p < n → IsAfterSync tells true (get_or old p d) (get_or now p d)
IsFirst tells old now n (Some page) = (page < n)
    × ((p : ℕ) (d : Stored) → p < page → IsAfterSync tells true (get_or old p d) (get_or now p d))
    × ((d : Stored) → IsAfterSync tells false (get_or old page d) (get_or now page d))

-- the first so many blocks were synced, and the others were not touched
pub record AreSyncedTo (tells : Bool) (old now : List Stored) (n : ℕ) (first : Option ℕ) : Type 0 where
  pub many : length now ≡ length old
  pub behind : (p : ℕ) (d : Stored) → n ≤ p → get_or now p d ≡ get_or old p d
  pub each : (p : ℕ) (d : Stored) → p < n → (answered : Bool) × IsAfterSync tells answered (get_or old p d) (get_or now p d)
  pub failed : IsFirst tells old now n first

module _ (tells : Bool) (old now : List Stored) (i : ℕ) (first : Option ℕ) (a : AreSyncedTo tells old now i first)
    (lt : i < length old) (b : Stored) (is : b ≡ get_or now i b) (new : Stored) where
  within : i < length now
  within = omega (arith, a.many, lt)

  was : (d : Stored) → get_or old i d ≡ b
  was d = sym (a.behind i d (omega arith)) ∙ get_or_default now i d b within ∙ sym is

  becomes : (d : Stored) → get_or (set now i new) i d ≡ new
  becomes d = get_or-set_same now i new d within

  stays : (p : ℕ) (d : Stored) → p ≢ i → get_or (set now i new) p d ≡ get_or now p d
  stays p d apart = get_or-set_other now i p new d apart

  before : (answered : Bool) (p : ℕ) (d : Stored) → p < i → IsAfterSync tells answered (get_or old p d) (get_or now p d)
      → IsAfterSync tells answered (get_or old p d) (get_or (set now i new) p d)
  before answered p d less synced = subst (λ x. IsAfterSync tells answered (get_or old p d) x)
      (sym (stays p d (λ e. omega (arith, e, less)))) synced

  here : (answered : Bool) → IsAfterSync tells answered b new → (p : ℕ) (d : Stored) → i ≡ p
      → IsAfterSync tells answered (get_or old p d) (get_or (set now i new) p d)
  here answered synced p d same =
      let at : IsAfterSync tells answered (get_or old i d) (get_or (set now i new) i d) = rw (was d, becomes d) synced in
      subst (λ q. IsAfterSync tells answered (get_or old q d) (get_or (set now i new) q d)) same at

  firsts : (was : Option ℕ) (answered : Bool) → IsFirst tells old now i was → IsAfterSync tells answered b new
      → IsFirst tells old (set now i new) (i + 1) (first_unsynced was i answered)
  firsts None true is synced = λ p d low. elim (cases_lt p i) [
    | inl less ↦ before true p d less (is p d less)
    | inr last ↦ here true synced p d (omega (arith, low, last))
  ]
  firsts None false is synced = (omega arith, (λ p d less. before true p d less (is p d less)), λ d. here false synced i d refl)
  firsts (Some page) answered is synced = (
    omega (arith, is.0),
    (λ p d less. before true p d (omega (arith, less, is.0)) (is.1 p d less)),
    λ d. before false page d is.0 (is.2 d),
  )

  pub one_synced : (answered : Bool) → IsAfterSync tells answered b new
      → AreSyncedTo tells old (set now i new) (i + 1) (first_unsynced first i answered)
  one_synced answered synced = record {
    many = length-set now i new ∙ a.many;
    behind = λ p d more. stays p d (λ e. omega (arith, e, more)) ∙ a.behind p d (omega (arith, more));
    each = λ p d low. elim (cases_lt p i) [
      | inl less ↦ let each = a.each p d less in (each.0, before each.0 p d less each.1)
      | inr last ↦ (answered, here answered synced p d (omega (arith, low, last)))
    ];
    failed = firsts first answered a.failed synced;
  }

pub all_synced : (tells : Bool) (old now : List Stored) (n : ℕ) (first : Option ℕ) → AreSyncedTo tells old now n first
    → n ≡ length old → SyncsAll tells old now first
all_synced tells old now n None a all = record { many = a.many; each = λ p d low. a.failed p d (omega (arith, low, all)) }
all_synced tells old now n (Some page) a all = record {
  many = a.many;
  within = omega (arith, a.failed.0, all);
  before = a.failed.1;
  here = a.failed.2;
  behind = λ p d more low. a.each p d (omega (arith, low, all));
}

-- one sync more was asked of the first so many blocks
pub record AreAskedTo (old now : List ℕ) (n : ℕ) : Type 0 where
  pub many : length now ≡ length old
  pub behind : (p d : ℕ) → n ≤ p → get_or now p d ≡ get_or old p d
  pub each : (p d : ℕ) → p < n → get_or now p d ≡ count_more (get_or old p d)

pub one_asked : (old now : List ℕ) (i was new : ℕ) → AreAskedTo old now i → i < length old → was ≡ get_or now i was → new ≡ count_more was
    → AreAskedTo old (set now i new) (i + 1)
one_asked old now i was new a lt is more = record {
  many = length-set now i new ∙ a.many;
  behind = λ p d past. get_or-set_other now i p new d (λ e. omega (arith, e, past)) ∙ a.behind p d (omega (arith, past));
  each = λ p d low. elim (cases_lt p i) [
    | inl less ↦ get_or-set_other now i p new d (λ e. omega (arith, e, less)) ∙ a.each p d less
    | inr last ↦
        let here : i ≡ p = omega (arith, low, last) in
        let within : i < length now = omega (arith, a.many, lt) in
        let at : get_or (set now i new) i d ≡ count_more (get_or old i d) =
        get_or-set_same now i new d within ∙ more
        ∙ ap count_more (is ∙ sym (get_or_default now i d was within) ∙ a.behind i d (omega arith)) in
        subst (λ q. get_or (set now i new) q d ≡ count_more (get_or old q d)) here at
  ];
}
