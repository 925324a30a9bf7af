-- What a step adds to the lists: an entry is the pass's own, with the next count of one of its numbers, which no
-- other pass has; the releases have the next versions.
use Rattle.vm_rule.proofs.Entries.{append-none, total-at, total-two}
use Rattle.vm_rule.proofs.Prelude.{[], ap, append_assoc, AreCounted, AreNext, arith, cases_Bool, cases_eq, cases_lt}
use Rattle.vm_rule.proofs.Prelude.{counted-more, Each, entries_by, entries_under, Entry, entry_of, eq-eqb, false}
use Rattle.vm_rule.proofs.Prelude.{false_from_ne_true, get_elem?, has, if◌then◌else◌, inl, inr, le-ltb, length, List}
use Rattle.vm_rule.proofs.Prelude.{lt-ltb, ne_eqb, one_part, Origin, owns, PARTS, refl, Release, slice_index, some}
use Rattle.vm_rule.proofs.Prelude.{StartsWith, subst, sym, times, total, true, true≢false, View, ℕ, ⊎_elim, ◌++◌, ◌+◌}
use Rattle.vm_rule.proofs.Prelude.{◌<◌, ◌==◌, ◌∙◌, ◌∷◌, ◌≡◌, ◌≢◌, ◌≤◌, ◌⊎◌}

pub each-both : {A : Type 0} (P : A → Type 0) (l m : List A) → Each P l → Each P m → Each P (l ++ m)
each-both P [] m e f = f
each-both P (x ∷ xs) m e f = (e.0, each-both P xs m e.1 f)

pub starts-more : {A : Type 0} (l m n : List A) → StartsWith l m → StartsWith (l ++ n) m
starts-more l m n s = (s.0 ++ n, ap (λ (y : List _). y ++ n) s.1 ∙ append_assoc m s.0 n)

pub times-joined : (k : ℕ) (a b : List ℕ) → times k (a ++ b) ≡ times k a + times k b
times-joined k [] b = omega arith
times-joined k (n ∷ a) b = let h : times k (a ++ b) ≡ times k a + times k b = times-joined k a b in omega arith

pub times-has : (k : ℕ) (ns : List ℕ) → has k ns ≡ true → 1 ≤ times k ns
times-has k [] e = absurd (true≢false (sym e))
times-has k (n ∷ ns) e =
    ⊎_elim
    (λ here. rw (eq-eqb n k (sym here)) (omega arith))
    (λ ne. let drop : has k (n ∷ ns) ≡ has k ns = rw (ne_eqb k n ne) refl in let rest : 1 ≤ times k ns =
    times-has k ns (sym drop ∙ e) in omega arith)
    (cases_eq k n)

-- the pass's first number
pub has-first : (ns : List ℕ) → 0 < length ns → has (slice_index ns 0) ns ≡ true
has-first [] l = absurd (omega arith)
has-first (n ∷ ns) l = rw (eq-eqb n n refl) refl

pub one-most : (k : ℕ) → one_part k ≤ 1
one-most k = ⊎_elim (λ l. rw (lt-ltb k PARTS l) (omega arith)) (λ le. rw (le-ltb k PARTS le) (omega arith)) (cases_lt k PARTS)

-- the releases that come have the next versions
pub next-both : (start : Origin) (before done own : List Release) → AreNext start before done
    → AreNext start (before ++ done) own → AreNext start before (done ++ own)
next-both start before [] own a b = subst (λ l. AreNext start l own) (append-none before) b
next-both start before (x ∷ xs) own a b = (
  a.0,
  next-both start (before ++ x ∷ []) xs own a.1
      (subst (λ l. AreNext start l own) (sym (append_assoc before (x ∷ []) xs)) b),
)

module _ {X : Type 0} where
  -- a part stands in one view
  pub one-owner : (views : List (View X)) (i j : ℕ) (u v : View X) (k : ℕ) → total (owns k) views ≡ one_part k → i ≢ j
      → get_elem? views i ≡ some u → get_elem? views j ≡ some v → 1 ≤ owns k u → 1 ≤ owns k v → ⊥
  one-owner views i j u v k all ne e e' a b =
      let both : owns k u + owns k v ≤ total (owns k) views = total-two (owns k) views i j u v ne e e' in
      let most : one_part k ≤ 1 = one-most k in
      omega arith

  -- the entries of a number are counted among those of a pass that has it
  pub calls-by : (n : ℕ) (ns : List ℕ) (h : List (Entry X)) → has n ns ≡ true
      → entries_under n (entries_by ns h) ≡ entries_under n h
  calls-by n ns [] e = refl
  calls-by n ns (x ∷ xs) e =
      ⊎_elim
      (λ t. rw t (ap (λ k. (if x.number == n then 1 else 0) + k) (calls-by n ns xs e)))
      (λ f. let rest : entries_under n (entries_by ns xs) ≡ entries_under n xs = calls-by n ns xs e in
      rw f (rw (ne_eqb x.number n (λ q. true≢false (sym e ∙ ap (λ k. has k ns) (sym q) ∙ f))) (omega arith)))
      (cases_Bool (has x.number ns))

  -- what the entries es, which the pass id adds, mean to the passes
  pub record Added (views : List (View X)) (id : ℕ) (v : View X) (history es : List (Entry X)) : Type 0 where
    pub own : entries_by v.used es ≡ es
    pub own_fresh : (k : ℕ) → has k v.fresh ≡ true → entries_by (k ∷ []) es ≡ []
    pub others : (j : ℕ) (u : View X) → j ≢ id → get_elem? views j ≡ some u → entries_by u.used es ≡ []
    pub others_fresh : (j : ℕ) (u : View X) → j ≢ id → get_elem? views j ≡ some u → (k : ℕ) → has k u.fresh ≡ true
        → entries_by (k ∷ []) es ≡ []
    pub numbered : Each (λ e. e.number < PARTS) es
    pub counted : AreCounted (λ _. 0) history → AreCounted (λ _. 0) (history ++ es)

  -- a step adds no entry, or one
  pub added : (views : List (View X)) (id : ℕ) (v : View X) (history entries : List (Entry X))
      → (entries ≡ []) ⊎ ((x : X) × (entries ≡ entry_of v x ∷ [])) → get_elem? views id ≡ some v
      → ((k : ℕ) → total (owns k) views ≡ one_part k) → 0 < length v.used → v.mine ≡ entries_by v.used history
      → Added views id v history entries
  added views id v history entries (inl none) there parts number mine = subst (Added views id v history) (sym none) (record {
    own = refl;
    own_fresh = λ k _. refl;
    others = λ j u _ _. refl;
    others_fresh = λ j u _ _ k _. refl;
    numbered = tt;
    counted = subst (AreCounted (λ _. 0)) (sym (append-none history));
  })
  added views id v history entries (inr one) there parts number mine =
      let n : ℕ = slice_index v.used 0 in
      let in_used : has n v.used ≡ true = has-first v.used number in
      let first : 1 ≤ times n v.used = times-has n v.used in_used in
      let single : (k : ℕ) → k ≢ n → has n (k ∷ []) ≡ false = λ k ne. rw (ne_eqb n k (λ e. ne (sym e))) refl in
      let all : total (owns n) views ≡ one_part n = parts n in
      let at : owns n v ≤ total (owns n) views = total-at (owns n) views id v there in
      subst (Added views id v history) (sym one.1) (record {
        own = rw in_used refl;
        own_fresh = λ k e. rw (single k (λ i. let fresh : 1 ≤ times n v.fresh =
            times-has n v.fresh (ap (λ m. has m v.fresh) (sym i) ∙ e) in let most : one_part n ≤ 1 = one-most n in
            absurd (omega arith))) refl;
        others = λ j u ne e. rw (false_from_ne_true (has n u.used) (λ t. let theirs : 1 ≤ times n u.used =
            times-has n u.used t in one-owner views j id u v n all ne e there (omega arith) (omega arith))) refl;
        others_fresh = λ j u ne e k t.
            rw (single k (λ i. let theirs : 1 ≤ times n u.fresh =
            times-has n u.fresh (ap (λ m. has m u.fresh) (sym i) ∙ t) in one-owner views j id u v n all ne e there
            (omega arith) (omega arith))) refl;
        numbered = (
          ⊎_elim (λ l. l) (λ le. let none : one_part n ≡ 0 = rw (le-ltb n PARTS le) refl in
              absurd (omega arith)) (cases_lt n PARTS),
          tt,
        );
        counted = λ c. counted-more (λ _. 0) history (entry_of v one.0) c
            (let same : entries_under n v.mine ≡ entries_under n history = ap (entries_under n) mine
            ∙ calls-by n v.used history in_used in omega arith);
      })
