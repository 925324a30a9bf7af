-- Lists one behind another, numbers apart, and the entries of some numbers.
use Rattle.std.proofs.Common.{[], ⊎_elim, ◌++◌, ◌+◌, ◌<◌, ◌∙◌, ◌∷◌, ◌≡◌, ◌≤◌, ap, arith, false}
use Rattle.std.proofs.Common.{if◌then◌else◌, length, List, refl, slice_index, suc, sym, true, true≢false, zero, ℕ}
use Rattle.std.proofs.lemmas.Bool.{cases_Bool, cases_eq, eq-eqb, ne_eqb}
use Rattle.vm_rule.specs.Prelude.{AreApart, Each, entries_by, Entry, has, times}
use Rattle.vm_rule.proofs.Entries.{entries-both}

pub each-right : {A : Type 0} (P : A → Type 0) (l m : List A) → Each P (l ++ m) → Each P m
each-right P [] m e = e
each-right P (x ∷ xs) m e = each-right P xs m e.1

pub each-snoc : {A : Type 0} (P : A → Type 0) (l : List A) (x : A) → Each P l → P x → Each P (l ++ x ∷ [])
each-snoc P [] x e p = (p, tt)
each-snoc P (y ∷ ys) x e p = (e.0, each-snoc P ys x e.1 p)

pub each-both-of : {A : Type 0} (P Q R : A → Type 0) → ((a : A) → P a → Q a → R a) → (l : List A) → Each P l → Each Q l → Each R l
each-both-of P Q R f [] p q = tt
each-both-of P Q R f (x ∷ xs) p q = (f x p.0 q.0, each-both-of P Q R f xs p.1 q.1)

-- a list that is the front of itself and another has nothing behind it
pub nothing-behind : {A : Type 0} (a b : List A) → a ++ b ≡ a → b ≡ []
nothing-behind [] b e = e
nothing-behind (x ∷ xs) b e = nothing-behind xs b (let h : (x ∷ xs) ++ b ≡ x ∷ xs = e in cc)

pub first-none : {A : Type 0} (a b : List A) → a ++ b ≡ [] → a ≡ []
first-none [] b e = refl
first-none (x ∷ xs) b e = absurd cc

-- ---- numbers

pub has-both : (n : ℕ) (a b : List ℕ) → has n a ≡ false → has n (a ++ b) ≡ has n b
has-both n [] b f = refl
has-both n (m ∷ ms) b f =
    ⊎_elim
    (λ here. absurd (true≢false (let t : has n (m ∷ ms) ≡ true = rw (eq-eqb n m here) refl in sym t ∙ f)))
    (λ ne. let rest : has n ms ≡ false = (let d : has n (m ∷ ms) ≡ has n ms = rw (ne_eqb n m ne) refl in sym d ∙ f) in
    rw (ne_eqb n m ne) (has-both n ms b rest))
    (cases_eq n m)

pub has-left : (n : ℕ) (a b : List ℕ) → has n a ≡ true → has n (a ++ b) ≡ true
has-left n [] b t = absurd (true≢false (sym t))
has-left n (m ∷ ms) b t =
    ⊎_elim
    (λ here. rw (eq-eqb n m here) refl)
    (λ ne. let rest : has n ms ≡ true = (let d : has n (m ∷ ms) ≡ has n ms = rw (ne_eqb n m ne) refl in sym d ∙ t) in
    rw (ne_eqb n m ne) (has-left n ms b rest))
    (cases_eq n m)

pub has-last : (n : ℕ) (a : List ℕ) → has n (a ++ n ∷ []) ≡ true
has-last n [] = rw (eq-eqb n n refl) refl
has-last n (m ∷ ms) =
    ⊎_elim
    (λ here. rw (eq-eqb n m here) refl)
    (λ ne. rw (ne_eqb n m ne) (has-last n ms))
    (cases_eq n m)

-- where a number stands
pub place-of : (n : ℕ) (ns : List ℕ) → has n ns ≡ true → (w : ℕ) × (w < length ns) × (n ≡ slice_index ns w)
place-of n [] t = absurd (true≢false (sym t))
place-of n (m ∷ ms) t =
    ⊎_elim
    (λ here. (0, omega arith, here))
    (λ ne. let d : has n (m ∷ ms) ≡ has n ms = rw (ne_eqb n m ne) refl in let h : (w : ℕ) × (w < length ms)
    × (n ≡ slice_index ms w) = place-of n ms (sym d ∙ t) in (suc h.0, (let l = h.1 in omega arith), h.2))
    (cases_eq n m)

-- what stands at a place stands in the list
pub has-at : (ns : List ℕ) (w : ℕ) → w < length ns → has (slice_index ns w) ns ≡ true
has-at [] w l = absurd (omega arith)
has-at (m ∷ ms) zero l = rw (eq-eqb m m refl) refl
has-at (m ∷ ms) (suc w) l =
    ⊎_elim
    (λ here. rw (eq-eqb (slice_index ms w) m here) refl)
    (λ ne. rw (ne_eqb (slice_index ms w) m ne) (has-at ms w (omega arith)))
    (cases_eq (slice_index ms w) m)

-- numbers that are apart stand at one place each
pub one-place : (ns : List ℕ) (v w : ℕ) → AreApart ns → v < length ns → w < length ns → slice_index ns v ≡ slice_index ns w → v ≡ w
one-place [] v w a l m e = absurd (omega arith)
one-place (n ∷ ns) zero zero a l m e = refl
one-place (n ∷ ns) zero (suc w) a l m e = absurd (true≢false (sym (has-at ns w (omega arith)) ∙ ap (λ k. has k ns) (sym e) ∙ a.0))
one-place (n ∷ ns) (suc v) zero a l m e = absurd (true≢false (sym (has-at ns v (omega arith)) ∙ ap (λ k. has k ns) e ∙ a.0))
one-place (n ∷ ns) (suc v) (suc w) a l m e = ap suc (one-place ns v w a.1 (omega arith) (omega arith) e)

pub apart-snoc : (ns : List ℕ) (n : ℕ) → AreApart ns → has n ns ≡ false → AreApart (ns ++ n ∷ [])
apart-snoc [] n a f = (refl, tt)
apart-snoc (m ∷ ms) n a f =
    ⊎_elim
    (λ here. absurd (true≢false (let t : has n (m ∷ ms) ≡ true = rw (eq-eqb n m here) refl in sym t ∙ f)))
    (λ ne.
    let d : has n (m ∷ ms) ≡ has n ms = rw (ne_eqb n m ne) refl in
    let other : has m (n ∷ []) ≡ false = rw (ne_eqb m n (λ q. ne (sym q))) refl in
    (has-both m ms (n ∷ []) a.0 ∙ other, apart-snoc ms n a.1 (sym d ∙ f)))
    (cases_eq n m)

pub times-both : (k : ℕ) (a b : List ℕ) → times k (a ++ b) ≡ times k a + times k b
times-both k [] b = omega arith
times-both k (m ∷ ms) b = let h : times k (ms ++ b) ≡ times k ms + times k b = times-both k ms b in omega arith

-- ---- entries

module _ {X : Type 0} where
  -- the entries of some numbers, among those of more
  pub nested : (ms ns : List ℕ) (h : List (Entry X)) → ((k : ℕ) → has k ms ≡ true → has k ns ≡ true)
      → entries_by ms (entries_by ns h) ≡ entries_by ms h
  nested ms ns [] more = refl
  nested ms ns (e ∷ es) more =
      let rest : entries_by ms (entries_by ns es) ≡ entries_by ms es = nested ms ns es more in
      ⊎_elim
      (λ t. rw t (ap (λ (l : List (Entry X)). if has e.number ms then e ∷ l else l) rest))
      (λ f.
      let none : has e.number ms ≡ false = ⊎_elim (λ t. absurd (true≢false (sym (more e.number t) ∙ f))) (λ g. g)
      (cases_Bool (has e.number ms)) in
      rw (f, none) rest)
      (cases_Bool (has e.number ns))

  pub nested-one : (n : ℕ) (ns : List ℕ) (h : List (Entry X)) → has n ns ≡ true
      → entries_by (n ∷ []) (entries_by ns h) ≡ entries_by (n ∷ []) h
  nested-one n ns h t =
      nested (n ∷ []) ns h
      (λ k one. ⊎_elim (λ here. ap (λ m. has m ns) here ∙ t)
      (λ ne. absurd (true≢false (sym one ∙ (let f : has k (n ∷ []) ≡ false = rw (ne_eqb k n ne) refl in f))))
      (cases_eq k n))

  pub fewer : (ns : List ℕ) (h : List (Entry X)) → length (entries_by ns h) ≤ length h
  fewer ns [] = omega arith
  fewer ns (e ∷ es) =
      let rest : length (entries_by ns es) ≤ length es = fewer ns es in
      ⊎_elim (λ t. rw t (omega arith)) (λ f. rw f (omega arith)) (cases_Bool (has e.number ns))

  -- where all entries are of these numbers, each is
  pub all-in : (ns : List ℕ) (h : List (Entry X)) → entries_by ns h ≡ h → Each (λ e. has e.number ns ≡ true) h
  all-in ns [] q = tt
  all-in ns (e ∷ es) q =
      ⊎_elim
      (λ t. let both : e ∷ entries_by ns es ≡ e ∷ es = rw t at q in (t, all-in ns es cc))
      (λ f. let short : entries_by ns es ≡ e ∷ es = rw f at q in let less : length (entries_by ns es) ≤ length es =
      fewer ns es in let long : length (entries_by ns es) ≡ length (e ∷ es) = ap length short in
      absurd (omega arith))
      (cases_Bool (has e.number ns))

  -- where none is, each is not
  pub none-in : (ns : List ℕ) (h : List (Entry X)) → entries_by ns h ≡ [] → Each (λ e. has e.number ns ≡ false) h
  none-in ns [] q = tt
  none-in ns (e ∷ es) q =
      ⊎_elim
      (λ t. let both : e ∷ entries_by ns es ≡ [] = rw t at q in absurd cc)
      (λ f. (f, none-in ns es (rw f at q)))
      (cases_Bool (has e.number ns))

  -- what others of a list are the entries of some numbers, where its front is all that the list has of them
  pub others-only : (us : List ℕ) (front rest : List (Entry X)) → entries_by us (front ++ rest) ≡ front → entries_by us rest ≡ []
  others-only us front rest q =
      let own : entries_by us front ≡ front = ap (entries_by us) (sym q) ∙ nested us us (front ++ rest) (λ k t. t) ∙ q in
      nothing-behind front (entries_by us rest) (ap (λ (l : List (Entry X)). l ++ entries_by us rest) (sym own)
      ∙ sym (entries-both us front rest) ∙ q)

  -- the number's entries all stand behind a front that has none
  pub behind : (ns : List ℕ) (front rest mine : List (Entry X)) → entries_by ns front ≡ []
      → entries_by ns (front ++ rest) ≡ mine → entries_by ns rest ≡ mine
  behind ns front rest mine none q = ap (λ (l : List (Entry X)). l ++ entries_by ns rest) (sym none) ∙ sym (entries-both ns front rest) ∙ q

  -- a front of a list without entries of a number has none
  pub front-none : (ns : List ℕ) (front rest : List (Entry X)) → entries_by ns (front ++ rest) ≡ [] → entries_by ns front ≡ []
  front-none ns front rest q = first-none (entries_by ns front) (entries_by ns rest) (sym (entries-both ns front rest) ∙ q)
