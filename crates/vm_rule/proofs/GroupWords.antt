-- A group's state word is set: then each page of the group reads it, and no other page reads another word than before.
use Rattle.std.proofs.Common.{[], ⊎_elim, ◌+◌, ◌<◌, ◌∙◌, ◌∷◌, ◌≡◌, ◌≢◌, ◌≤◌, ◌⊎◌}
use Rattle.std.proofs.Common.{◌||◌, ap, arith, Bool, eq-eqb, eqb, false, inl, inr}
use Rattle.std.proofs.Common.{length, List, refl, subst, suc, sym, true, zero, ℕ}
use Rattle.std.proofs.lemmas.Bool.{cases_Bool, cases_eq, cases_lt, cond-false, cond-true, eqb-true, false≢true, ne_eqb}
use Rattle.std.proofs.lemmas.List.{ext_get_or, get_or-set_other, get_or-set_same}
use Rattle.std.specs.Prelude.{slice_index, slice_set}
use Rattle.vm_event.specs.Groups.{in_group}
use Rattle.vm_event.specs.Prelude.{GroupsFit, head_in}
use Rattle.vm_event.proofs.Groups.{group-outside, group-size, head-among, head-apart}
use Rattle.vm_event.proofs.Groups.{inside-group, of-group, outside-group}
use Rattle.vm_owner.specs.Numbers.{AreApart, has}
use Rattle.vm_rule.proofs.Prelude.{length-set}
use Rattle.vm_rule.proofs.Spreading.{length-spread, spread-reads}
use Rattle.vm_rule.specs.{Spread.all_set, Spread.group_of, Spread.spread}
unfoldable use Rattle.vm_rule.specs.Views.{numbers}

-- ---- lists of numbers that rise

has-numbers : (a n p : ℕ) → a ≤ p → p < a + n → has p (numbers a n) ≡ true
unfolding numbers
has-numbers a zero p le lt = absurd (omega (arith, le, lt))
has-numbers a (suc n) p le lt =
    ⊎_elim (λ e. ap (λ b. b || has p (numbers (suc a) n)) (eq-eqb p a e))
    (λ ne. rw (ne_eqb p a ne) (has-numbers (suc a) n p (⊎_elim (λ l. omega (arith, l)) (λ g. absurd (ne (omega (arith, le, g)))) (cases_lt a p))
    (omega (arith, lt))))
    (cases_eq p a)

hasn't-numbers : (a n p : ℕ) → (p < a) ⊎ (a + n ≤ p) → has p (numbers a n) ≡ false
unfolding numbers
hasn't-numbers a zero p out = refl
hasn't-numbers a (suc n) p out =
    let ne : p ≢ a = λ e. ⊎_elim (λ l. absurd (omega (arith, l, e))) (λ g. absurd (omega (arith, g, e))) out in
    rw (ne_eqb p a ne) (hasn't-numbers (suc a) n p (⊎_elim (λ l. inl (omega (arith, l))) (λ g. inr (omega (arith, g))) out))

apart-numbers : (a n : ℕ) → AreApart (numbers a n)
unfolding numbers
apart-numbers a zero = tt
apart-numbers a (suc n) = (hasn't-numbers (suc a) n a (inl (omega arith)), apart-numbers (suc a) n)

numbers-first : (a n : ℕ) → 1 ≤ n → (rest : List ℕ) × (numbers a n ≡ a ∷ rest)
unfolding numbers
numbers-first a zero some = absurd (omega (arith, some))
numbers-first a (suc n) some = (numbers (suc a) n, refl)

-- ---- a group as a list

pub group-apart : (gs : List (ℕ × ℕ)) (h : ℕ) → AreApart (group_of gs h)
group-apart [] h = (refl, tt)
group-apart (g ∷ gs) h =
    ⊎_elim (λ t. subst AreApart (sym (cond-true (eqb g.0 h) (numbers g.0 g.1) (group_of gs h) t)) (apart-numbers g.0 g.1))
    (λ f. subst AreApart (sym (cond-false (eqb g.0 h) (numbers g.0 g.1) (group_of gs h) f)) (group-apart gs h))
    (cases_Bool (eqb g.0 h))

-- it begins with its first page
pub group-first : (pages h : ℕ) (gs : List (ℕ × ℕ)) → GroupsFit pages gs
    → (rest : List ℕ) × (group_of gs h ≡ h ∷ rest)
group-first pages h [] fit = ([], refl)
group-first pages h (g ∷ gs) fit =
    ⊎_elim
    (λ t. let some : 2 ≤ g.1 = (group-size pages g fit.0).0 in
    let k = numbers-first g.0 g.1 (omega (arith, some)) in
    (k.0, cond-true (eqb g.0 h) (numbers g.0 g.1) (group_of gs h) t ∙ k.1 ∙ ap (λ x. x ∷ k.0) (eqb-true g.0 h t)))
    (λ f. let k = group-first pages h gs fit.2 in
    (k.0, cond-false (eqb g.0 h) (numbers g.0 g.1) (group_of gs h) f ∙ k.1))
    (cases_Bool (eqb g.0 h))

-- it has just the pages whose head this is
module _ (pages : ℕ) (h : ℕ) where
  pub group-has : (gs : List (ℕ × ℕ)) → GroupsFit pages gs → head_in gs h ≡ h → (p : ℕ) → head_in gs p ≡ h
      → has p (group_of gs h) ≡ true
  group-has [] fit own p e = ap (λ b. b || false) (eq-eqb p h e)
  group-has (g ∷ gs) fit own p e =
      ⊎_elim
      (λ t. let here : g.0 ≡ h = eqb-true g.0 h t in
      ap (has p) (cond-true (eqb g.0 h) (numbers g.0 g.1) (group_of gs h) t)
      ∙ ⊎_elim
      (λ inside. let k = inside-group g p inside in has-numbers g.0 g.1 p k.0 k.1)
      (λ out. let some : 2 ≤ g.1 = (group-size pages g fit.0).0 in
      let there : in_group g h ≡ true = subst (λ k. in_group g k ≡ true) here (of-group g g.0 (omega arith) (omega (arith, some))) in
      let away : in_group g h ≡ false =
      ap (in_group g) (sym e ∙ cond-false (in_group g p) g.0 (head_in gs p) out) ∙ head-apart pages g gs fit.1 fit.2 p out in
      absurd (false≢true (sym away ∙ there)))
      (cases_Bool (in_group g p)))
      (λ f. let other : in_group g h ≡ false = head-out g gs own f in
      ap (has p) (cond-false (eqb g.0 h) (numbers g.0 g.1) (group_of gs h) f)
      ∙ group-has gs fit.2 (sym (cond-false (in_group g h) g.0 (head_in gs h) other) ∙ own) p
      (⊎_elim
      (λ inside. absurd (false≢true (sym f ∙ eq-eqb g.0 h (sym (cond-true (in_group g p) g.0 (head_in gs p) inside) ∙ e))))
      (λ out. sym (cond-false (in_group g p) g.0 (head_in gs p) out) ∙ e)
      (cases_Bool (in_group g p))))
      (cases_Bool (eqb g.0 h))
    where
      head-out : (g : ℕ × ℕ) (gs : List (ℕ × ℕ)) → head_in (g ∷ gs) h ≡ h → eqb g.0 h ≡ false → in_group g h ≡ false
      head-out g gs own f =
          ⊎_elim (λ t. absurd (false≢true (sym f ∙ eq-eqb g.0 h (sym (cond-true (in_group g h) g.0 (head_in gs h) t) ∙ own))))
          (λ out. out) (cases_Bool (in_group g h))

  pub group-hasn't : (gs : List (ℕ × ℕ)) → GroupsFit pages gs → head_in gs h ≡ h → (p : ℕ) → head_in gs p ≢ h
      → has p (group_of gs h) ≡ false
  group-hasn't [] fit own p ne = ap (λ b. b || false) (ne_eqb p h ne)
  group-hasn't (g ∷ gs) fit own p ne =
      ⊎_elim
      (λ t. let here : g.0 ≡ h = eqb-true g.0 h t in
      ap (has p) (cond-true (eqb g.0 h) (numbers g.0 g.1) (group_of gs h) t)
      ∙ hasn't-numbers g.0 g.1 p (group-outside g p
      (⊎_elim (λ inside. absurd (ne (cond-true (in_group g p) g.0 (head_in gs p) inside ∙ here))) (λ out. out)
      (cases_Bool (in_group g p)))))
      (λ f. let other : in_group g h ≡ false = ⊎_elim
      (λ t. absurd (false≢true (sym f ∙ eq-eqb g.0 h (sym (cond-true (in_group g h) g.0 (head_in gs h) t) ∙ own))))
      (λ out. out) (cases_Bool (in_group g h)) in
      let own' : head_in gs h ≡ h = sym (cond-false (in_group g h) g.0 (head_in gs h) other) ∙ own in
      ap (has p) (cond-false (eqb g.0 h) (numbers g.0 g.1) (group_of gs h) f)
      ∙ group-hasn't gs fit.2 own' p
      (λ e. ⊎_elim
      (λ inside. let same : p ≡ h = sym (head-among pages g gs fit.1 fit.2 p inside) ∙ e in
      absurd (false≢true (sym other ∙ subst (λ k. in_group g k ≡ true) same inside)))
      (λ out. ne (cond-false (in_group g p) g.0 (head_in gs p) out ∙ e))
      (cases_Bool (in_group g p))))
      (cases_Bool (eqb g.0 h))

-- ---- the words after a step on the group's word

length-all_set : (qs : List ℕ) (x : ℕ) (words : List ℕ) → length (all_set qs x words) ≡ length words
length-all_set [] x words = refl
length-all_set (q ∷ qs) x words = length-all_set qs x (slice_set words q x) ∙ length-set words q x

all_set-other : (qs : List ℕ) (x : ℕ) (words : List ℕ) (p : ℕ) → has p qs ≡ false
    → slice_index (all_set qs x words) p ≡ slice_index words p
all_set-other [] x words p none = refl
all_set-other (q ∷ qs) x words p none =
    ⊎_elim (λ e. absurd (false≢true (sym none ∙ ap (λ b. b || has p qs) (eq-eqb p q e))))
    (λ ne. all_set-other qs x (slice_set words q x) p (ap (λ b. b || has p qs) (sym (ne_eqb p q ne)) ∙ none)
    ∙ get_or-set_other words q p x 0 ne)
    (cases_eq p q)

all_set-same : (qs : List ℕ) (x : ℕ) (words : List ℕ) (p : ℕ) → p < length words → has p qs ≡ true
    → slice_index (all_set qs x words) p ≡ x
all_set-same [] x words p inside some = absurd (false≢true some)
all_set-same (q ∷ qs) x words p inside some =
    ⊎_elim
    (λ t. all_set-same qs x (slice_set words q x) p (subst (λ n. p < n) (sym (length-set words q x)) inside) t)
    (λ f. all_set-other qs x (slice_set words q x) p f
    ∙ ⊎_elim (λ e. ap (slice_index (slice_set words q x)) e ∙ get_or-set_same words q x 0 (subst (λ k. k < length words) e inside))
    (λ ne. absurd (false≢true (sym f ∙ ap (λ b. b || has p qs) (sym (ne_eqb p q ne)) ∙ some)))
    (cases_eq p q))
    (cases_Bool (has p qs))

pub spread-group : (pages : ℕ) (gs : List (ℕ × ℕ)) → GroupsFit pages gs → (h : ℕ) → head_in gs h ≡ h → (words : List ℕ)
    → h < length words → (x : ℕ) → spread gs (slice_set words h x) ≡ all_set (group_of gs h) x (spread gs words)
spread-group pages gs fit h own words inside x =
    let set : List ℕ = slice_set words h x in
    let all : List ℕ = all_set (group_of gs h) x (spread gs words) in
    let long : length set ≡ length words = length-set words h x in
    let long' : length (spread gs set) ≡ length words = length-spread gs set ∙ long in
    ext_get_or 0 (spread gs set) all
    (long' ∙ sym (length-spread gs words) ∙ sym (length-all_set (group_of gs h) x (spread gs words)))
    (λ p lt. let low : p < length words = subst (λ n. p < n) long' lt in
    spread-reads pages gs fit set p (subst (λ n. p < n) (sym long) low)
    ∙ ⊎_elim
    (λ here. ap (slice_index set) here ∙ get_or-set_same words h x 0 inside
    ∙ sym (all_set-same (group_of gs h) x (spread gs words) p (subst (λ n. p < n) (sym (length-spread gs words)) low)
    (group-has pages h gs fit own p here)))
    (λ ne. get_or-set_other words h (head_in gs p) x 0 ne
    ∙ sym (spread-reads pages gs fit words p low)
    ∙ sym (all_set-other (group_of gs h) x (spread gs words) p (group-hasn't pages h gs fit own p ne)))
    (cases_eq (head_in gs p) h))
