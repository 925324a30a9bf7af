-- Lists read as functions: one behind another, and the values of a function.
use Rattle.vm_rule.proofs.Prelude.{[], ap, append-nil, append_assoc, arith, at, cases_lt, get_or, get_or-append_right}
use Rattle.vm_rule.proofs.Prelude.{get_or-map, get_or_append_left, get_or_default, get_or_past, length, length-map}
use Rattle.vm_rule.proofs.Prelude.{List, listed, map, refl, suc, sym, zero, ℕ, ⊎_elim, ◌++◌, ◌+◌, ◌-◌, ◌<◌, ◌∙◌, ◌∷◌}
use Rattle.vm_rule.proofs.Prelude.{◌≡◌, ◌≤◌}

-- behind the first list, and in it
pub at-right : {A : Type 0} (d : A) (xs ys : List A) (i k : ℕ) → i ≡ length xs + k → at d (xs ++ ys) i ≡ at d ys k
unfolding at
at-right d xs ys i k e = let rest : i - length xs ≡ k = omega arith in get_or-append_right xs ys (length xs) i d refl
    (omega arith) ∙ ap (λ n. get_or ys n d) rest

pub at-left : {A : Type 0} (d : A) (xs ys : List A) (k : ℕ) → k < length xs → at d (xs ++ ys) k ≡ at d xs k
unfolding at
at-left d xs ys k l = get_or_append_left xs ys d k l

-- what stands past the end does not matter
pub at-any : {A : Type 0} (d e : A) (xs : List A) (k : ℕ) → k < length xs → at d xs k ≡ at e xs k
unfolding at
at-any d e xs k l = get_or_default xs k d e l

pub at-past : {A : Type 0} (d : A) (xs : List A) (k : ℕ) → length xs ≤ k → at d xs k ≡ d
unfolding at
at-past d xs k l = get_or_past xs k d l

pub at-map : {A B : Type 0} (f : A → B) (d : B) (e : A) (xs : List A) (k : ℕ) → k < length xs
    → at d (map f xs) k ≡ f (at e xs k)
unfolding at
at-map f d e xs k l = get_or-map f xs k e d l

pub length-mapped : {A B : Type 0} (f : A → B) (xs : List A) → length (map f xs) ≡ length xs
length-mapped f xs = length-map xs f

pub length-listed : {A : Type 0} (n : ℕ) (f : ℕ → A) → length (listed n f) ≡ n
unfolding listed
length-listed zero f = refl
length-listed (suc n) f = ap suc (length-listed n (λ k. f (suc k)))

pub at-listed : {A : Type 0} (d : A) (n : ℕ) (f : ℕ → A) (k : ℕ) → k < n → at d (listed n f) k ≡ f k
unfolding listed at
at-listed d zero f k l = absurd (omega arith)
at-listed d (suc n) f zero l = refl
at-listed d (suc n) f (suc k) l = at-listed d n (λ j. f (suc j)) k (omega arith)

-- a list of zeros
pub at-zeros : (n k : ℕ) → at 0 (listed {A = ℕ} n (λ i. 0)) k ≡ 0
at-zeros n k =
    let long : length (listed {A = ℕ} n (λ i. 0)) ≡ n = length-listed {A = ℕ} n (λ i. 0) in
    ⊎_elim (at-listed 0 n (λ i. 0) k) (λ le. at-past 0 (listed {A = ℕ} n (λ i. 0)) k (omega arith)) (cases_lt k n)

-- one value more
listed-more : {A : Type 0} (n : ℕ) (f : ℕ → A) → listed (suc n) f ≡ listed n f ++ f n ∷ []
unfolding listed
listed-more zero f = refl
listed-more (suc n) f = ap (λ (l : List _). f 0 ∷ l) (listed-more n (λ k. f (suc k)))

pub pushed-listed : (before items after : List ℕ) (n : ℕ) (f : ℕ → ℕ) (x : ℕ) → items ≡ before ++ listed n f
    → after ≡ items ++ x ∷ [] → x ≡ f n → after ≡ before ++ listed (n + 1) f
pushed-listed before items after n f x was grown is =
    let next : n + 1 ≡ suc n = omega arith in
    grown
    ∙ ap (λ l. l ++ x ∷ []) was
    ∙ append_assoc before (listed n f) (x ∷ [])
    ∙ ap (λ y. before ++ (listed n f ++ y ∷ [])) is
    ∙ sym (ap (λ l. before ++ l) (ap (λ k. listed k f) next ∙ listed-more n f))

pub listed-none : (items : List ℕ) (f : ℕ → ℕ) → items ≡ items ++ listed 0 f
unfolding listed
listed-none items f = sym (append-nil items)

-- the list of a list's elements is the list
pub listed-all : {A : Type 0} (d : A) (xs : List A) → listed (length xs) (at d xs) ≡ xs
unfolding listed at
listed-all d [] = refl
listed-all d (x ∷ xs) = ap (λ (l : List _). x ∷ l) (listed-all d xs)

pub listed-long : {A : Type 0} (d : A) (n : ℕ) (xs : List A) → length xs ≡ n → listed n (at d xs) ≡ xs
listed-long d n xs e = ap (λ k. listed k (at d xs)) (sym e) ∙ listed-all d xs
