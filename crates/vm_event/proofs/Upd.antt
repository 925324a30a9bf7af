-- Laws of a function with one place changed, or each place under a head.
use Rattle.std.proofs.Common.{⊎_elim, ◌+◌, ◌<◌, ◌∙◌, ◌≡◌, ◌≢◌, ◌⊎◌, ap, arith, eqb, inl, inr, refl, subst, suc, sym, zero, ℕ}
use Rattle.std.proofs.lemmas.Bool.{cases_eq, cond-false, cond-true, eq-eqb, ne_eqb}
use mathlib.Core.Path.{fun_ext}
use Rattle.vm_event.specs.Prelude.{sum_below, upd, upd_over}

pub upd-same : {A : Type 0} (f : ℕ → A) (k : ℕ) (x : A) → upd f k x k ≡ x
unfolding upd
upd-same f k x = cond-true (eqb k k) x (f k) (eq-eqb k k refl)

pub upd-other : {A : Type 0} (f : ℕ → A) (k : ℕ) (x : A) (j : ℕ) → j ≢ k → upd f k x j ≡ f j
unfolding upd
upd-other f k x j ne = cond-false (eqb j k) x (f j) (ne_eqb j k ne)

-- a fact at each place, after a change at one
pub each-upd : {A : Type 0} (P : ℕ → A → Type 0) (f : ℕ → A) (k : ℕ) (x : A) → P k x → ((j : ℕ) → j ≢ k → P j (f j))
    → (j : ℕ) → P j (upd f k x j)
each-upd P f k x here there j =
    ⊎_elim (λ e. subst (λ i. P i (upd f k x i)) (sym e) (subst (P k) (sym (upd-same f k x)) here))
    (λ ne. subst (P j) (sym (upd-other f k x j ne)) (there j ne))
    (cases_eq j k)

pub upd-self : {A : Type 0} (f : ℕ → A) (k : ℕ) → upd f k (f k) ≡ f
upd-self f k = fun_ext (each-upd (λ j y. y ≡ f j) f k (f k) refl (λ j _. refl))

-- the sum below n, after a change at or past n, and below it
pub sum_below-past : (n : ℕ) (f g : ℕ → ℕ) → ((j : ℕ) → j < n → f j ≡ g j) → sum_below n f ≡ sum_below n g
unfolding sum_below
sum_below-past zero f g e = refl
sum_below-past (suc n) f g e =
    let here : f n ≡ g n = e n (omega arith) in
    let below : sum_below n f ≡ sum_below n g = sum_below-past n f g (λ j l. e j (omega arith)) in
    omega arith

-- one place of the sum is changed
pub sum_below-change : (n : ℕ) (f g : ℕ → ℕ) (k : ℕ) → k < n → ((j : ℕ) → j ≢ k → f j ≡ g j) → sum_below n f + g k ≡ sum_below n g + f k
unfolding sum_below
sum_below-change zero f g k l e = absurd (omega arith)
sum_below-change (suc n) f g k l e =
    ⊎_elim
    (λ here. let below : sum_below n f ≡ sum_below n g = sum_below-past n f g (λ j lt. e j (omega arith)) in
    let same : g k ≡ g n = ap g here in
    let same' : f k ≡ f n = ap f here in
    omega arith)
    (λ ne. let below : sum_below n f + g k ≡ sum_below n g + f k = sum_below-change n f g k (omega arith) e in
    let last : f n ≡ g n = e n (λ h. ne (sym h)) in
    omega arith)
    (cases_eq k n)

-- the two cases of a changed function, in the form that `grind` finds
pub upd-tells : {A : Type 0} (f : ℕ → A) (k : ℕ) (x : A) (j : ℕ) → (upd f k x j ≡ upd f k x j)
    × (((j ≡ k) × (upd f k x j ≡ x)) ⊎ ((j ≢ k) × (upd f k x j ≡ f j)))
upd-tells f k x j = (
  refl,
  ⊎_elim (λ e. inl (e, subst (λ i. upd f k x i ≡ x) (sym e) (upd-same f k x)))
      (λ ne. inr (ne, upd-other f k x j ne)) (cases_eq j k),
)

-- what a change leaves alone stays at each place
pub upd-keeps : {A : Type 0} → {B : Type 0} (g : A → B) (f : ℕ → A) (k : ℕ) (x : A) → g x ≡ g (f k) → (j : ℕ) → g (upd f k x j) ≡ g (f j)
upd-keeps g f k x e = each-upd (λ j y. g y ≡ g (f j)) f k x e (λ j _. refl)

-- two functions, changed at one place
pub each-upd2 : {A : Type 0} → {B : Type 0} (P : ℕ → A → B → Type 0) (f : ℕ → A) (g : ℕ → B) (k : ℕ) (x : A) (y : B)
    → P k x y → ((j : ℕ) → j ≢ k → P j (f j) (g j)) → (j : ℕ) → P j (upd f k x j) (upd g k y j)
each-upd2 P f g k x y here there =
    each-upd (λ j z. P j z (upd g k y j)) f k x (subst (P k x) (sym (upd-same g k y)) here)
    (λ j ne. subst (P j (f j)) (sym (upd-other g k y j ne)) (there j ne))

-- a change, seen through a function
pub upd-map : {A : Type 0} → {B : Type 0} (g : A → B) (f : ℕ → A) (k : ℕ) (x : A) (j : ℕ) → g (upd f k x j) ≡ upd (λ i. g (f i)) k (g x) j
upd-map g f k x j =
    ⊎_elim (λ e. subst (λ i. g (upd f k x i) ≡ upd (λ i'. g (f i')) k (g x) i) (sym e)
    (ap g (upd-same f k x) ∙ sym (upd-same (λ i. g (f i)) k (g x))))
    (λ ne. ap g (upd-other f k x j ne) ∙ sym (upd-other (λ i. g (f i)) k (g x) j ne))
    (cases_eq j k)

-- ---- each place whose head is k

pub upd_over-here : {A : Type 0} (head : ℕ → ℕ) (k : ℕ) (f g : ℕ → A) (j : ℕ) → head j ≡ k → upd_over head k f g j ≡ g j
unfolding upd_over
upd_over-here head k f g j e = cond-true (eqb (head j) k) (g j) (f j) (eq-eqb (head j) k e)

pub upd_over-other : {A : Type 0} (head : ℕ → ℕ) (k : ℕ) (f g : ℕ → A) (j : ℕ) → head j ≢ k
    → upd_over head k f g j ≡ f j
unfolding upd_over
upd_over-other head k f g j ne = cond-false (eqb (head j) k) (g j) (f j) (ne_eqb (head j) k ne)

-- a fact at each place, after a change over a head
pub each-upd_over : {A : Type 0} (P : ℕ → A → Type 0) (head : ℕ → ℕ) (k : ℕ) (f g : ℕ → A)
    → ((j : ℕ) → head j ≡ k → P j (g j)) → ((j : ℕ) → head j ≢ k → P j (f j)) → (j : ℕ) → P j (upd_over head k f g j)
each-upd_over P head k f g here there j =
    ⊎_elim (λ e. subst (P j) (sym (upd_over-here head k f g j e)) (here j e))
    (λ ne. subst (P j) (sym (upd_over-other head k f g j ne)) (there j ne))
    (cases_eq (head j) k)

-- two functions, changed over one head
pub each-upd_over2 : {A : Type 0} → {B : Type 0} (P : ℕ → A → B → Type 0) (head : ℕ → ℕ) (k : ℕ) (f f' : ℕ → A)
    (g g' : ℕ → B) → ((j : ℕ) → head j ≡ k → P j (f' j) (g' j)) → ((j : ℕ) → head j ≢ k → P j (f j) (g j)) → (j : ℕ)
    → P j (upd_over head k f f' j) (upd_over head k g g' j)
each-upd_over2 P head k f f' g g' here there =
    each-upd_over (λ j z. P j z (upd_over head k g g' j)) head k f f'
    (λ j e. subst (P j (f' j)) (sym (upd_over-here head k g g' j e)) (here j e))
    (λ j ne. subst (P j (f j)) (sym (upd_over-other head k g g' j ne)) (there j ne))

pub upd_over-self : {A : Type 0} (head : ℕ → ℕ) (k : ℕ) (f : ℕ → A) → upd_over head k f f ≡ f
upd_over-self head k f = fun_ext (each-upd_over (λ j y. y ≡ f j) head k f f (λ j _. refl) (λ j _. refl))

-- what a change over a head leaves alone stays at each place
pub upd_over-keeps : {A : Type 0} → {B : Type 0} (t : A → B) (head : ℕ → ℕ) (k : ℕ) (f g : ℕ → A)
    → ((j : ℕ) → head j ≡ k → t (g j) ≡ t (f j)) → (j : ℕ) → t (upd_over head k f g j) ≡ t (f j)
upd_over-keeps t head k f g e = each-upd_over (λ j y. t y ≡ t (f j)) head k f g e (λ j _. refl)

-- where each place is its own head, one place changes
pub upd_over-alone : {A : Type 0} (head : ℕ → ℕ) (k : ℕ) (f g : ℕ → A) → ((j : ℕ) → head j ≡ j)
    → upd_over head k f g ≡ upd f k (g k)
upd_over-alone head k f g own =
    fun_ext (each-upd_over (λ j y. y ≡ upd f k (g k) j) head k f g
    (λ j e. let same : j ≡ k = sym (own j) ∙ e in ap g same ∙ sym (ap (upd f k (g k)) same ∙ upd-same f k (g k)))
    (λ j ne. sym (upd-other f k (g k) j (λ e. ne (own j ∙ e)))))
