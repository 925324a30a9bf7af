-- One block more is read, and the first read that fails.
use Rattle.std.proofs.Common.{◌≡◌, ◌≢◌, ℕ, ◌+◌, ◌<◌, ◌≤◌, List, [], ◌∷◌, ◌++◌, length, map, take, get_or, set, Bool, inl, inr}
use Rattle.std.proofs.Common.{sym, ap, ◌∙◌, subst, arith}
use Rattle.std.proofs.lemmas.Bool.{cases_lt}
use Rattle.std.proofs.lemmas.List.{get_or-map, get_or-set_other, get_or-set_same, get_or_default, length-map, length-set, take_more}
use Rattle.std.proofs.Math.ListN.{get_or-eq_default}
use Rattle.vm_block.specs.declared.stored.Stored.{Stored}
use Rattle.vm_image.specs.Reading.{AreRead, IsFailedAt, IsFailedRead, IsBlockRead, held_words}

-- the first so many blocks were read, and the others were not touched
pub record AreReadTo {B : Type 0} (tells : Bool) (stored : B → Stored) (old now : List B) (n : ℕ) : Type 0 where
  pub count : length now ≡ length old
  pub read : (p : ℕ) (d : B) → p < n → IsBlockRead tells (stored (get_or old p d)) (stored (get_or now p d))
  pub behind : (p : ℕ) (d : B) → n ≤ p → get_or now p d ≡ get_or old p d

module _ {B : Type 0} (tells : Bool) (stored : B → Stored) (old now : List B) (i : ℕ) (a : AreReadTo tells stored old now i)
    (lt : i < length old) (b : B) (is : b ≡ get_or now i b) (new : B) where
  within : i < length now
  within = omega (arith, a.count, lt)

  was : (d : B) → get_or old i d ≡ b
  was d = sym (a.behind i d (omega arith)) ∙ get_or_default now i d b within ∙ sym is

  becomes : (d : B) → get_or (set now i new) i d ≡ new
  becomes d = get_or-set_same now i new d within

  stays : (p : ℕ) (d : B) → p ≢ i → get_or (set now i new) p d ≡ get_or now p d
  stays p d apart = get_or-set_other now i p new d apart

  before : (p : ℕ) (d : B) → p < i → IsBlockRead tells (stored (get_or old p d)) (stored (get_or (set now i new) p d))
  before p d less = subst (λ x. IsBlockRead tells (stored (get_or old p d)) (stored x))
      (sym (stays p d (λ e. omega (arith, e, less)))) (a.read p d less)

  after : (p : ℕ) (d : B) → i < p → get_or (set now i new) p d ≡ get_or old p d
  after p d more = stays p d (λ e. omega (arith, e, more)) ∙ a.behind p d (omega (arith, more))

  pub one_more : IsBlockRead tells (stored b) (stored new) → AreReadTo tells stored old (set now i new) (i + 1)
  one_more read = record {
    count = length-set now i new ∙ a.count;
    read = λ p d low. elim (cases_lt p i) [
      | inl less ↦ before p d less
      | inr last ↦
          let same : i ≡ p = omega (arith, low, last) in
          let here : IsBlockRead tells (stored (get_or old i d)) (stored (get_or (set now i new) i d)) = rw (was d, becomes d) read in
          subst (λ q. IsBlockRead tells (stored (get_or old q d)) (stored (get_or (set now i new) q d))) same here
    ];
    behind = λ p d more. after p d (omega (arith, more));
  }

  -- the words of one more
  pub one_page : (pages : List (List ℕ)) (page : List ℕ) → pages ≡ take i (held_words (map stored old)) → page ≡ (stored b).words
      → pages ++ page ∷ [] ≡ take (i + 1) (held_words (map stored old))
  one_page pages page held words =
      let long : length (map stored old) ≡ length old = length-map old stored in
      let all : length (held_words (map stored old)) ≡ length old = length-map (map stored old) (λ (block : Stored). block.words) ∙ long in
      let at : get_or (held_words (map stored old)) i [] ≡ page =
      get_or-map (λ (block : Stored). block.words) (map stored old) i (stored b) [] (omega (arith, long, lt))
      ∙ ap (λ (block : Stored). block.words) (get_or-map stored old i b (stored b) lt ∙ ap stored (was b)) ∙ sym words in
      rw (held, ← at) (sym (take_more (held_words (map stored old)) i [] (omega (arith, all, lt))))

  pub one_failed : IsFailedRead tells (stored b) (stored new) → IsFailedAt tells (map stored old) (map stored (set now i new)) i
  one_failed failed = record {
    within = omega (arith, length-map old stored, lt);
    count = length-map (set now i new) stored ∙ length-set now i new ∙ a.count ∙ sym (length-map old stored);
    before = λ p d less.
        rw (
          get_or-map stored old p b d (omega (arith, less, lt)),
          get_or-map stored (set now i new) p b d (omega (arith, less, lt, a.count, length-set now i new)),
        ) (before p b less);
    here = λ d.
        rw (
          get_or-map stored old i b d lt,
          get_or-map stored (set now i new) i b d (omega (arith, within, length-set now i new)),
          was b,
          becomes b,
        )
        failed;
    behind = λ p d more. elim (cases_lt p (length old)) [
      | inl low ↦
          get_or-map stored (set now i new) p b d (omega (arith, low, a.count, length-set now i new)) ∙ ap stored (after p b more)
          ∙ sym (get_or-map stored old p b d low)
      | inr past ↦
          get_or-eq_default (map stored (set now i new)) d
          (omega (arith, past, a.count, length-set now i new, length-map (set now i new) stored))
          ∙ sym (get_or-eq_default (map stored old) d (omega (arith, past, length-map old stored)))
    ];
  }

-- all were read
pub all_read : {B : Type 0} (tells : Bool) (stored : B → Stored) (old now : List B) (i : ℕ) → AreReadTo tells stored old now i
    → length old ≤ i → AreRead tells (map stored old) (map stored now)
all_read tells stored [] now i a all = record {
  count = length-map now stored ∙ a.count;
  each = λ p d low. absurd (omega (arith, low));
}
all_read tells stored (b ∷ old) now i a all = record {
  count = length-map now stored ∙ a.count ∙ sym (length-map (b ∷ old) stored);
  each = λ p d low.
      rw (
        get_or-map stored (b ∷ old) p b d (omega (arith, low, length-map (b ∷ old) stored)),
        get_or-map stored now p b d (omega (arith, low, a.count, length-map (b ∷ old) stored)),
      )
      (a.read p b (omega (arith, low, all, length-map (b ∷ old) stored)));
}
