-- Three entries, one after another.
use Rattle.std.proofs.Common.{[], ◌++◌, ◌+◌, ◌==◌, ◌∙◌, ◌∷◌, ◌≡◌, ap, append_assoc, arith, if◌then◌else◌, List, refl, slice_index, Some, ℕ}
use Rattle.std.proofs.lemmas.Bool.{eq-eqb}
use Rattle.vm_rule.specs.Prelude.{entries_of, entries_under, Entry}
use Rattle.vm_step.specs.Prelude.{View}
use Rattle.vm_workers.specs.Entries.{HasThree, SaysThree, three_of}

-- one entry more of a number counts
counts-more : (n count said : ℕ) (h : List (Entry ℕ)) → entries_under n (h ++ record {
  number = n;
  count = count;
  said = said;
} ∷ []) ≡ entries_under n h + 1
counts-more n count said [] = let one : ◌≡◌ {A = ℕ} (if n == n then 1 else 0) 1 = rw (eq-eqb n n refl) refl in omega (arith, one)
counts-more n count said (e ∷ h) =
    let rest : entries_under n (h ++ record {
      number = n;
      count = count;
      said = said;
    } ∷ []) ≡ entries_under n h + 1 = counts-more n count said h in
    omega (arith, rest)

-- a pass whose first number is n makes that number's next entry
said-next : (v w : View ℕ) (said n : ℕ) → slice_index v.used 0 ≡ n → w.mine ≡ v.mine ++ entries_of v (Some said)
    → w.mine ≡ v.mine ++ record { number = n; count = entries_under n v.mine + 1; said = said } ∷ []
said-next v w said n used more =
    more ∙ (λ i. v.mine ++ record { number = used i; count = entries_under (used i) v.mine + 1; said = said } ∷ [])

pub says-three : (v a b c d : View ℕ) (said : ℕ) → (a.used ≡ v.used) → (b.used ≡ a.used) → (c.used ≡ b.used) → (d.used ≡ c.used)
    → a.mine ≡ v.mine → b.mine ≡ a.mine ++ entries_of a (Some said) → c.mine ≡ b.mine ++ entries_of b (Some said)
    → d.mine ≡ c.mine ++ entries_of c (Some said) → SaysThree said v d
says-three v a b c d said ua ub uc ud ma mb mc md =
    let n : ℕ = slice_index v.used 0 in
    let k : ℕ = entries_under n v.mine in
    let entry : ℕ → Entry ℕ = λ count. record { number = n; count = count; said = said } in
    let at-a : slice_index a.used 0 ≡ n = ap (λ l. slice_index l 0) ua in
    let at-b : slice_index b.used 0 ≡ n = ap (λ l. slice_index l 0) ub ∙ at-a in
    let at-c : slice_index c.used 0 ≡ n = ap (λ l. slice_index l 0) uc ∙ at-b in
    let one : b.mine ≡ v.mine ++ entry (k + 1) ∷ [] = said-next a b said n at-a mb ∙ ap (λ l. l ++ entry (entries_under n l + 1) ∷ []) ma in
    let so-one : entries_under n b.mine ≡ k + 1 = ap (entries_under n) one ∙ counts-more n (k + 1) said v.mine in
    let next-two : entries_under n b.mine + 1 ≡ k + 2 = omega (arith, so-one) in
    let two : c.mine ≡ b.mine ++ entry (k + 2) ∷ [] = said-next b c said n at-b mc ∙ ap (λ x. b.mine ++ entry x ∷ []) next-two in
    let so-two : entries_under n c.mine ≡ entries_under n b.mine + 1 = ap (entries_under n) two ∙ counts-more n (k + 2) said b.mine in
    let next-three : entries_under n c.mine + 1 ≡ k + 3 = omega (arith, so-two, so-one) in
    let three : d.mine ≡ c.mine ++ entry (k + 3) ∷ [] = said-next c d said n at-c md ∙ ap (λ x. c.mine ++ entry x ∷ []) next-three in
    record {
      used = ud ∙ uc ∙ ub ∙ ua;
      mine = three
          ∙ ap (λ l. l ++ entry (k + 3) ∷ [])
          (two ∙ ap (λ l. l ++ entry (k + 2) ∷ []) one ∙ append_assoc v.mine (entry (k + 1) ∷ [])
          (entry (k + 2) ∷ []))
          ∙ append_assoc v.mine (entry (k + 1) ∷ entry (k + 2) ∷ []) (entry (k + 3) ∷ []);
    }

-- a pass with the number 0 alone that had no entry has these three then
pub has-three : (said : ℕ) (v w : View ℕ) → v.used ≡ 0 ∷ [] → v.mine ≡ [] → SaysThree said v w → HasThree said w
has-three said v w used none s = record {
  used = s.used ∙ used;
  mine = s.mine ∙ (λ i. none i ++ three_of (slice_index (used i) 0) (entries_under (slice_index (used i) 0) (none i)) said);
}
