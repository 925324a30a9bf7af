-- The history, the numbers of the passes, and what is noted.
use mathlib.Core.Option as maybe
use Rattle.vm_rule.proofs.Prelude.{[], ap, arith, cases_Bool, cases_lt, Each, entries_by, Entry, false, get_elem?}
use Rattle.vm_rule.proofs.Prelude.{has, IsWhole, le-ltb, length, List, lt-ltb, one_part, owns, PARTS, refl, slice_set}
use Rattle.vm_rule.proofs.Prelude.{some, some-injective, StartsWith, suc, sym, total, true, true≢false, View, zero}
use Rattle.vm_rule.proofs.Prelude.{if◌then◌else◌, ℕ, ⊎_elim, ◌++◌, ◌+◌, ◌||◌, ◌∙◌, ◌∷◌, ◌≡◌, ◌≢◌, ◌≤◌}
use Rattle.vm_rule.proofs.Views.{total-set}
pub use Rattle.std.proofs.lemmas.List.{append-nil as append-none}
pub use Rattle.vm_owner.proofs.NumberLemmas.{has-both as has-joined}

pub each-map : {A : Type 0} (P Q : A → Type 0) → ((a : A) → P a → Q a) → (l : List A) → Each P l → Each Q l
each-map P Q f [] e = tt
each-map P Q f (x ∷ xs) e = (f x e.0, each-map P Q f xs e.1)

pub starts-self : {A : Type 0} (l : List A) → StartsWith l l
starts-self l = ([], sym (append-none l))

-- a list that is empty when it is joined to another
pub none-left : {A : Type 0} (a b : List A) → a ++ b ≡ [] → (a ≡ []) × (b ≡ [])
none-left [] b e = (refl, e)
none-left (x ∷ a) b e = absurd (let none : length (x ∷ (a ++ b)) ≡ 0 = ap length e in omega arith)

module _ {X : Type 0} where
  pub entries-both : (ns : List ℕ) (a b : List (Entry X)) → entries_by ns (a ++ b) ≡ entries_by ns a ++ entries_by ns b
  entries-both ns [] b = refl
  entries-both ns (e ∷ es) b =
      ⊎_elim (λ t. rw t (ap (λ (l : List (Entry X)). e ∷ l) (entries-both ns es b)))
      (λ f. rw f (entries-both ns es b)) (cases_Bool (has e.number ns))

  -- numbers that have no entry have none in either part
  pub none-each : (ns : List ℕ) (m r : List (Entry X)) → entries_by ns (m ++ r) ≡ []
      → (entries_by ns m ≡ []) × (entries_by ns r ≡ [])
  none-each ns m r e = none-left (entries_by ns m) (entries_by ns r) (sym (entries-both ns m r) ∙ e)

  -- no number, no entry
  pub entries-none : (l : List (Entry X)) → entries_by [] l ≡ []
  entries-none [] = refl
  entries-none (x ∷ xs) = entries-none xs

  -- an entry with one of the numbers stands first, or none does
  none-first : (ns : List ℕ) (x : Entry X) (xs : List (Entry X)) → entries_by ns (x ∷ xs) ≡ []
      → (has x.number ns ≡ false) × (entries_by ns xs ≡ [])
  none-first ns x xs e =
      ⊎_elim
      (λ t. absurd (let long : length (entries_by ns (x ∷ xs)) ≡ suc (length (entries_by ns xs)) = rw t refl in
      let none : length (entries_by ns (x ∷ xs)) ≡ 0 = ap length e in omega arith))
      (λ f. (f, sym (ap (λ b. if b then x ∷ entries_by ns xs else entries_by ns xs) f) ∙ e))
      (cases_Bool (has x.number ns))

  -- where none of the numbers has an entry, none of some of them has
  pub entries-within : (ns ms : List ℕ) (l : List (Entry X)) → ((k : ℕ) → has k ns ≡ true → has k ms ≡ true)
      → entries_by ms l ≡ [] → entries_by ns l ≡ []
  entries-within ns ms [] within e = refl
  entries-within ns ms (x ∷ xs) within e =
      let k = none-first ms x xs e in
      let out : has x.number ns ≡ false = ⊎_elim (λ t. absurd (true≢false (sym (within x.number t) ∙ k.0))) (λ f. f)
      (cases_Bool (has x.number ns)) in
      rw out (entries-within ns ms xs within k.1)

  -- where neither numbers have an entry, both together have none
  pub entries-union : (ns ms : List ℕ) (l : List (Entry X)) → entries_by ns l ≡ [] → entries_by ms l ≡ []
      → entries_by (ns ++ ms) l ≡ []
  entries-union ns ms [] e f = refl
  entries-union ns ms (x ∷ xs) e f =
      let k = none-first ns x xs e in
      let m = none-first ms x xs f in
      let out : has x.number (ns ++ ms) ≡ false = has-joined x.number ns ms ∙ (λ i. k.0 i || m.0 i) in
      rw out (entries-union ns ms xs k.1 m.1)

  -- the pass's own entries are those of the whole history
  pub mine-in : (ns : List ℕ) (history seen mine : List (Entry X)) → mine ≡ entries_by ns seen
      → (rest : List (Entry X)) × (history ≡ seen ++ rest) × (entries_by ns rest ≡ []) → mine ≡ entries_by ns history
  mine-in ns history seen mine e h =
      e ∙ sym (ap (entries_by ns) h.1 ∙ entries-both ns seen h.0
      ∙ ap (λ (l : List (Entry X)). entries_by ns seen ++ l) h.2 ∙ append-none (entries_by ns seen))

  pub total-at : (f : View X → ℕ) (views : List (View X)) (j : ℕ) (u : View X) → get_elem? views j ≡ some u
      → f u ≤ total f views
  total-at f [] j u e = absurd (maybe.some-ne-none u (sym e))
  total-at f (x ∷ xs) zero u e = let same : f x ≡ f u = ap f (some-injective x u e) in omega arith
  total-at f (x ∷ xs) (suc j) u e = let h : f u ≤ total f xs = total-at f xs j u e in omega arith

  pub total-two : (f : View X → ℕ) (views : List (View X)) (i j : ℕ) (u v : View X) → i ≢ j
      → get_elem? views i ≡ some u → get_elem? views j ≡ some v → f u + f v ≤ total f views
  total-two f [] i j u v ne e e' = absurd (maybe.some-ne-none u (sym e))
  total-two f (x ∷ xs) zero zero u v ne e e' = absurd (ne refl)
  total-two f (x ∷ xs) zero (suc j) u v ne e e' = let same : f x ≡ f u = ap f (some-injective x u e) in
      let h : f v ≤ total f xs = total-at f xs j v e' in omega arith
  total-two f (x ∷ xs) (suc i) zero u v ne e e' = let same : f x ≡ f v = ap f (some-injective x v e') in
      let h : f u ≤ total f xs = total-at f xs i u e in omega arith
  total-two f (x ∷ xs) (suc i) (suc j) u v ne e e' =
      let h : f u + f v ≤ total f xs = total-two f xs i j u v (λ q. ne (ap suc q)) e e' in omega arith

  -- where another pass has a part, no pass is whole
  pub not-whole : (views : List (View X)) (i j : ℕ) (u v : View X) → ((k : ℕ) → total (owns k) views ≡ one_part k)
      → i ≢ j → get_elem? views i ≡ some u → get_elem? views j ≡ some v → (k : ℕ) × (1 ≤ owns k v) → IsWhole u → ⊥
  not-whole views i j u v parts ne e e' k whole =
      let both : owns k.0 u + owns k.0 v ≤ total (owns k.0) views = total-two (owns k.0) views i j u v ne e e' in
      let all : total (owns k.0) views ≡ one_part k.0 = parts k.0 in
      let some' : 1 ≤ owns k.0 v = k.1 in
      ⊎_elim
      (λ l. let mine : 1 ≤ owns k.0 u = whole k.0 l in let is : one_part k.0 ≡ 1 = rw (lt-ltb k.0 PARTS l) refl in omega arith)
      (λ le. let is : one_part k.0 ≡ 0 = rw (le-ltb k.0 PARTS le) refl in omega arith)
      (cases_lt k.0 PARTS)

  pub total-same : (f : View X → ℕ) (views : List (View X)) (id : ℕ) (v w : View X) → get_elem? views id ≡ some v
      → f w ≡ f v → total f (slice_set views id w) ≡ total f views
  total-same f views id v w e s =
      let h : total f (slice_set views id w) + f v ≡ total f views + f w = total-set f views id v w e in omega arith
