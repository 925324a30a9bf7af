-- Which parts a store's pass misses, as hands are given and come back.
use Rattle.std.proofs.Common.{[], ⊎_elim, ◌++◌, ◌+◌, ◌-◌, ◌<◌, ◌==◌, ◌∙◌, ◌∷◌, ◌≡◌, ◌≢◌, ◌≤◌, ◌⊎◌, ap, arith, false}
use Rattle.std.proofs.Common.{if◌then◌else◌, inl, inr, length, List, refl, subst, suc, sym, true, true≢false, ℕ}
use Rattle.std.proofs.lemmas.Bool.{cases_Bool, cases_eq, eq-eqb, ne_eqb}
use Rattle.std.proofs.lemmas.List.{nil_from_length}
use Rattle.vm_rule.specs.Prelude.{AreApart, Each, entries_by, Entry, has, IsWhole, owns, PARTS, Sound, times}
use Rattle.vm_rule.proofs.Heard.{times-joined}
use Rattle.vm_step.specs.Prelude.{View}
use Rattle.vm_serve.specs.from_vm_pool.Parting.{Splits}
use Rattle.vm_serve.proofs.from_vm_drive.Hiring.{split-keeps}
use Rattle.vm_face.specs.Passes.{hand_number, IsHandView, MissesFew}

-- how often k stands at n
abbrev one_if : ℕ → ℕ → ℕ
one_if n k = if n == k then 1 else 0

-- a list with one number less
without-one : (n : ℕ) (ns : List ℕ) → has n ns ≡ true
    → (rest : List ℕ) × (length ns ≡ length rest + 1) × ((k : ℕ) → has k ns ≡ true → (k ≡ n) ⊎ (has k rest ≡ true))
without-one n [] t = absurd (true≢false (sym t))
without-one n (m ∷ ms) t =
    ⊎_elim
    (λ here. (
      ms,
      omega arith,
      λ k among. ⊎_elim (λ e. inl (e ∙ sym here))
          (λ ne. inr (let d : has k (m ∷ ms) ≡ has k ms = rw (ne_eqb k m ne) refl in sym d ∙ among)) (cases_eq k m),
    ))
    (λ other.
    let later : has n ms ≡ true = (let d : has n (m ∷ ms) ≡ has n ms = rw (ne_eqb n m other) refl in sym d ∙ t) in
    let (rest, long, others) = without-one n ms later in (
      m ∷ rest,
      omega (arith, long),
      λ k among. ⊎_elim (λ e. inr (rw (eq-eqb k m e) refl))
          (λ ne. let d : has k (m ∷ ms) ≡ has k ms = rw (ne_eqb k m ne) refl in
          ⊎_elim (λ e. inl e) (λ r. inr (rw (ne_eqb k m ne) r)) (others k (sym d ∙ among))) (cases_eq k m),
    ))
    (cases_eq n m)

pub times-none : (k : ℕ) (ns : List ℕ) → has k ns ≡ false → times k ns ≡ 0
times-none k [] f = refl
times-none k (n ∷ ns) f =
    ⊎_elim
    (λ here. absurd (true≢false (let t : has k (n ∷ ns) ≡ true = rw (eq-eqb k n here) refl in sym t ∙ f)))
    (λ ne.
    let rest : times k ns ≡ 0 = times-none k ns (let d : has k (n ∷ ns) ≡ has k ns = rw (ne_eqb k n ne) refl in sym d ∙ f) in
    let not : one_if n k ≡ 0 = rw (ne_eqb n k (λ e. ne (sym e))) refl in omega (arith, rest, not))
    (cases_eq k n)

-- no number stands twice in a list of numbers apart
apart-once : (k : ℕ) (ns : List ℕ) → AreApart ns → times k ns ≤ 1
apart-once k [] a = omega arith
apart-once k (n ∷ ns) a =
    let rest : times k ns ≤ 1 = apart-once k ns a.1 in
    ⊎_elim
    (λ here.
    let none : times k ns ≡ 0 = times-none k ns (subst (λ (m : ℕ). has m ns ≡ false) here a.0) in
    let one : one_if n k ≡ 1 = rw (eq-eqb n k here) refl in omega (arith, none, one))
    (λ ne. let not : one_if n k ≡ 0 = rw (ne_eqb n k ne) refl in omega (arith, rest, not))
    (cases_eq n k)

module _ {X : Type 0} where
  -- a pass that misses none has all
  pub whole-of : (v : View X) → MissesFew 0 v → IsWhole v
  whole-of v m k l =
      let short : length m.away ≤ 0 = m.few in
      let none : m.away ≡ [] = nil_from_length m.away (omega (arith, short)) in
      ⊎_elim (λ some. some) (λ gone. absurd (true≢false (sym gone ∙ ap (has k) none))) (m.others k l)

  pub misses-none : (v : View X) → IsWhole v → MissesFew 0 v
  misses-none v w = record { away = []; few = omega arith; others = λ k l. inl (w k l) }

  -- a part is given
  pub misses-more : (n : ℕ) (v u w : View X) → MissesFew n v → Splits v u w → MissesFew (n + 1) w
  misses-more n v u w m s =
      let used = (split-keeps v u w s).used in record {
        away = s.number ∷ m.away;
        few = (let short = m.few in omega (arith, short));
        others = λ k l.
            let old : times k v.fresh ≡ one_if s.number k + times k w.fresh = ap (times k) s.given in
            let same : times k w.used ≡ times k v.used = ap (times k) used in
            ⊎_elim
            (λ here. inr (rw (eq-eqb k s.number here) refl))
            (λ ne. ⊎_elim
            (λ some.
            let not : one_if s.number k ≡ 0 = rw (ne_eqb s.number k (λ e. ne (sym e))) refl in
            inl (omega (arith, some, old, same, not)))
            (λ gone. inr (rw (ne_eqb k s.number ne) gone))
            (m.others k l))
            (cases_eq k s.number);
      }

  -- a hand's part comes back: it was none of the pass's, since no part stands twice, so it was missing
  pub misses-less : (n : ℕ) (v u w : View X) → MissesFew n v → IsHandView u → AreApart (w.used ++ w.fresh)
      → ((k : ℕ) → owns k w ≡ owns k v + owns k u) → MissesFew (n - 1) w
  misses-less n v u w m h apart parts =
      let b = hand_number u in
      let both : times b (w.used ++ w.fresh) ≡ times b w.used + times b w.fresh = times-joined b w.used w.fresh in
      let once : times b (w.used ++ w.fresh) ≤ 1 = apart-once b (w.used ++ w.fresh) apart in
      let self : one_if b b ≡ 1 = rw (eq-eqb b b refl) refl in
      let own : times b u.used ≡ one_if b b + 0 = ap (times b) h.parts.0 in
      let more : times b u.fresh ≡ 0 = ap (times b) h.parts.1 in
      let sum : owns b w ≡ owns b v + owns b u = parts b in
      ⊎_elim
      (λ some. absurd (omega (arith, both, once, self, own, more, sum, some)))
      (λ gone. let (rest, long, others) = without-one b m.away gone in record {
        away = rest;
        few = (let short = m.few in omega (arith, short, long));
        others = λ k l. ⊎_elim
            (λ some. inl (let now : owns k w ≡ owns k v + owns k u = parts k in omega (arith, now, some)))
            (λ among. ⊎_elim
            (λ e. inl (subst (λ (j : ℕ). 1 ≤ owns j w) (sym e) (omega (arith, self, own, sum))))
            (λ r. inr r)
            (others k among))
            (m.others k l);
      })
      (m.others b h.inside)

  -- ---- each entry of the history is the pass's own where it has all parts

  -- a number whose entries are none is that of no entry
  none-behind : (k : ℕ) (e : Entry X) (es : List (Entry X)) → entries_by (k ∷ []) (e ∷ es) ≡ [] → (e.number ≢ k) × (entries_by (k ∷ []) es ≡ [])
  none-behind k e es none =
      ⊎_elim
      (λ here.
      let more : entries_by (k ∷ []) (e ∷ es) ≡ e ∷ entries_by (k ∷ []) es = rw (eq-eqb e.number k here) refl in
      absurd (let n : suc (length (entries_by (k ∷ []) es)) ≡ 0 = ap (λ (l : List (Entry X)). length l) (sym more ∙ none) in omega (arith, n)))
      (λ ne. let same : entries_by (k ∷ []) (e ∷ es) ≡ entries_by (k ∷ []) es = rw (ne_eqb e.number k ne) refl in (ne, sym same ∙ none))
      (cases_eq e.number k)

  all-used : (used fresh : List ℕ) (seen : List (Entry X)) → Each (λ e. e.number < PARTS) seen
      → ((k : ℕ) → k < PARTS → 1 ≤ times k used + times k fresh) → ((k : ℕ) → has k fresh ≡ true → entries_by (k ∷ []) seen ≡ [])
      → entries_by used seen ≡ seen
  all-used used fresh [] numbered whole none = refl
  all-used used fresh (e ∷ es) numbered whole none =
      let rest : entries_by used es ≡ es =
      all-used used fresh es numbered.1 whole (λ k t. (none-behind k e es (none k t)).1) in
      let given : has e.number fresh ≡ false =
      ⊎_elim (λ t. absurd ((none-behind e.number e es (none e.number t)).0 refl)) (λ f. f) (cases_Bool (has e.number fresh)) in
      let not : times e.number fresh ≡ 0 = times-none e.number fresh given in
      let one : 1 ≤ times e.number used + times e.number fresh = whole e.number numbered.0 in
      ⊎_elim
      (λ t. let with : entries_by used (e ∷ es) ≡ e ∷ entries_by used es = rw t refl in with ∙ ap (λ (l : List (Entry X)). e ∷ l) rest)
      (λ f. let zero : times e.number used ≡ 0 = times-none e.number used f in absurd (omega (arith, one, not, zero)))
      (cases_Bool (has e.number used))

  pub all-own : (v : View X) → Sound v → IsWhole v → v.mine ≡ v.seen
  all-own v sound whole = sound.mine ∙ all-used v.used v.fresh v.seen sound.numbered whole sound.fresh
