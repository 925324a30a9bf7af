-- Lists by places: the candidates of a list are apart, and what the first of them give together, as one stage comes
-- in the place of another.
use Rattle.vm_evict.specs.declared.candidate.Stage.TheVariants as stages
use Rattle.vm_evict.proofs.Prelude.{[], ap, append_assoc, AreApart, arith, candidate_at, candidate_pages, cases_eq}
use Rattle.vm_evict.proofs.Prelude.{cases_lt, Each, each-both, eq-eqb, false, false≢true, gathered, get_or-set_other}
use Rattle.vm_evict.proofs.Prelude.{get_or-set_same, has, has-both, inl, inr, length, length-append, List, nat_tests}
use Rattle.vm_evict.proofs.Prelude.{or_left, or_right, refl, slice_set, Stage, stage_at, subst, suc, sym, true, zero}
use Rattle.vm_evict.proofs.Prelude.{ℕ, ⊎_elim, ◌++◌, ◌<◌, ◌==◌, ◌||◌, ◌∙◌, ◌∷◌, ◌≡◌, ◌≢◌, ◌≤◌}

-- ---- the candidates

-- what holds of each holds of the one at a place
pub each-at : (P : ℕ × ℕ → Type 0) (list : List (ℕ × ℕ)) (n : ℕ) → n < length list → Each P list → P (candidate_at list n)
each-at P [] n below all = absurd (omega (arith, below))
each-at P (x ∷ xs) zero below all = all.0
each-at P (x ∷ xs) (suc n) below all = each-at P xs n (omega (arith, below)) all.1

-- the page of a candidate is one of those of the list
pub has-page : (list : List (ℕ × ℕ)) (n : ℕ) → n < length list → has (candidate_at list n).0 (candidate_pages list) ≡ true
has-page [] n below = absurd (omega (arith, below))
has-page (x ∷ xs) zero below = or_left (x.0 == x.0) (has x.0 (candidate_pages xs)) (eq-eqb x.0 x.0 refl)
has-page (x ∷ xs) (suc n) below = or_right ((candidate_at xs n).0 == x.0)
    (has (candidate_at xs n).0 (candidate_pages xs)) (has-page xs n (omega (arith, below)))

-- and each of those pages is a candidate's
pub page-at : (list : List (ℕ × ℕ)) (q : ℕ) → has q (candidate_pages list) ≡ true → (n : ℕ) × (n < length list)
    × ((candidate_at list n).0 ≡ q)
page-at [] q e = absurd (false≢true e)
page-at (x ∷ xs) q e =
    ⊎_elim
    (λ (is : q ≡ x.0). (0, omega arith, sym is))
    (λ (ne : q ≢ x.0). let r = page-at xs q (grind (arith, nat_tests, ne, e)) in (suc r.0, (let b = r.1 in omega (arith, b)), r.2))
    (cases_eq q x.0)

-- two places, two pages
apart-up : (list : List (ℕ × ℕ)) (i j : ℕ) → i < j → j < length list → AreApart (candidate_pages list)
    → (candidate_at list i).0 ≢ (candidate_at list j).0
apart-up [] i j up below apart e = absurd (omega (arith, below))
apart-up (x ∷ xs) zero zero up below apart e = absurd (omega (arith, up))
apart-up (x ∷ xs) zero (suc j) up below apart e =
    false≢true (sym apart.0 ∙ subst (λ (p : ℕ). has p (candidate_pages xs) ≡ true) (sym e)
    (has-page xs j (omega (arith, below))))
apart-up (x ∷ xs) (suc i) zero up below apart e = absurd (omega (arith, up))
apart-up (x ∷ xs) (suc i) (suc j) up below apart e = apart-up xs i j (omega (arith, up)) (omega (arith, below)) apart.1 e

pub apart-at : (list : List (ℕ × ℕ)) (i j : ℕ) → i ≢ j → i < length list → j < length list
    → AreApart (candidate_pages list) → (candidate_at list i).0 ≢ (candidate_at list j).0
apart-at list i j ne bi bj apart =
    ⊎_elim (λ (up : i < j). apart-up list i j up bj apart)
    (λ (down : j < i). λ e. apart-up list j i down bi apart (sym e))
    (⊎_elim (λ (l : i < j). inl l) (λ (l : j ≤ i). inr (omega (arith, l, ne))) (cases_lt i j))

-- what is apart, and not in the one where it is in the other
pub apart-join : (l m : List ℕ) → AreApart l → AreApart m → ((f : ℕ) → has f l ≡ true → has f m ≡ false) → AreApart (l ++ m)
apart-join [] m a b none = b
apart-join (x ∷ xs) m a b none = (
  has-both x xs m ∙ (λ i. a.0 i || none x (or_left (x == x) (has x xs) (eq-eqb x x refl)) i),
  apart-join xs m a.1 b (λ f e. none f (or_right (f == x) (has f xs) e)),
)

-- ---- what the first of them give

module _ {A : Type 0} (give : ℕ × ℕ → Stage → List A) (list : List (ℕ × ℕ)) where
  -- a stage behind them does not count
  pub gathered-else : (n : ℕ) (ends : List Stage) (i : ℕ) (s : Stage) → n ≤ i
      → gathered give n list (slice_set ends i s) ≡ gathered give n list ends
  gathered-else zero ends i s le = refl
  gathered-else (suc n) ends i s le =
      let ne : n ≢ i = λ e. absurd (omega (arith, le, e)) in
      ap (λ (l : List A). l ++ give (candidate_at list n) (stage_at (slice_set ends i s) n)) (gathered-else n ends i s (omega (arith, le)))
      ∙ ap (λ (t : Stage). gathered give n list ends ++ give (candidate_at list n) t) (get_or-set_other ends i n s stages.Waiting ne)

  -- one stage that gives more, where what the later ones give does not come before it
  pub gathered-set : (n : ℕ) (ends : List Stage) (i : ℕ) (s : Stage) (more : List A) → i < n → i < length ends
      → give (candidate_at list i) s ≡ give (candidate_at list i) (stage_at ends i) ++ more
      → ((j : ℕ) → i < j → j < n → more ++ give (candidate_at list j) (stage_at ends j) ≡ give (candidate_at list j)
      (stage_at ends j) ++ more)
      → gathered give n list (slice_set ends i s) ≡ gathered give n list ends ++ more
  gathered-set zero ends i s more below long is later = absurd (omega (arith, below))
  gathered-set (suc n) ends i s more below long is later =
      ⊎_elim
      (λ (e : i ≡ n).
      let one : give (candidate_at list n) (stage_at (slice_set ends i s) n) ≡ give (candidate_at list n) (stage_at ends n) ++ more
      = subst (λ (k : ℕ). give (candidate_at list k) (stage_at (slice_set ends i s) k) ≡ give (candidate_at list k)
      (stage_at ends k) ++ more) e
      (ap (λ (t : Stage). give (candidate_at list i) t) (get_or-set_same ends i s stages.Waiting long) ∙ is) in
      ap (λ (l : List A). l ++ give (candidate_at list n) (stage_at (slice_set ends i s) n)) (gathered-else n ends i s (omega (arith, e)))
      ∙ ap (λ (l : List A). gathered give n list ends ++ l) one
      ∙ sym (append_assoc (gathered give n list ends) (give (candidate_at list n) (stage_at ends n)) more))
      (λ (ne : i ≢ n).
      let up : i < n = omega (arith, below, ne) in
      let rest : gathered give n list (slice_set ends i s) ≡ gathered give n list ends ++ more =
      gathered-set n ends i s more up long is (λ j a b. later j a (omega (arith, b))) in
      let g : List A = give (candidate_at list n) (stage_at ends n) in
      ap (λ (l : List A). l ++ give (candidate_at list n) (stage_at (slice_set ends i s) n)) rest
      ∙ ap (λ (t : Stage). (gathered give n list ends ++ more) ++ give (candidate_at list n) t)
      (get_or-set_other ends i n s stages.Waiting (λ e. ne (sym e)))
      ∙ append_assoc (gathered give n list ends) more g
      ∙ ap (λ (l : List A). gathered give n list ends ++ l) (later n up (omega arith))
      ∙ sym (append_assoc (gathered give n list ends) g more))
      (cases_eq i n)

  -- each gives one at most
  pub gathered-few : ((c : ℕ × ℕ) (s : Stage) → length (give c s) ≤ 1) → (n : ℕ) (ends : List Stage)
      → length (gathered give n list ends) ≤ n
  gathered-few few zero ends = omega arith
  gathered-few few (suc n) ends =
      let rest = gathered-few few n ends in
      let last = few (candidate_at list n) (stage_at ends n) in
      let both = length-append (gathered give n list ends) (give (candidate_at list n) (stage_at ends n)) in
      omega (arith, rest, last, both)

  -- what holds of what each gives
  pub gathered-each : (P : A → Type 0) (n : ℕ) (ends : List Stage)
      → ((j : ℕ) → j < n → Each P (give (candidate_at list j) (stage_at ends j))) → Each P (gathered give n list ends)
  gathered-each P zero ends all = tt
  gathered-each P (suc n) ends all = each-both P (gathered give n list ends)
      (give (candidate_at list n) (stage_at ends n)) (gathered-each P n ends (λ j b. all j (omega (arith, b))))
      (all n (omega arith))

  -- nothing where none gives
  pub gathered-none : (n : ℕ) (ends : List Stage)
      → ((j : ℕ) → j < n → give (candidate_at list j) (stage_at ends j) ≡ []) → gathered give n list ends ≡ []
  gathered-none zero ends all = refl
  gathered-none (suc n) ends all =
      ap (λ (l : List A). l ++ give (candidate_at list n) (stage_at ends n)) (gathered-none n ends (λ j b. all j (omega (arith, b))))
      ∙ all n (omega arith)
