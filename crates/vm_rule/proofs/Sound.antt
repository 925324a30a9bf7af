-- The rule keeps of each live view what is read off that view alone.
use Rattle.vm_rule.proofs.{Heard.one-most, Heard.times-has, Heard.times-joined}
use Rattle.vm_rule.proofs.{Worlds.last-else, Worlds.last-here, Worlds.last-is}
use Rattle.vm_rule.proofs.Entries.{append-none, none-each, total-at}
use Rattle.vm_rule.proofs.Prelude.{[], ap, append_assoc, AreApart, AreCounted, AreNext, arith, Bool, cases_Bool}
use Rattle.vm_rule.proofs.Prelude.{cases_eq, Each, entries_by, Entry, eq-eqb, get_elem?, has, if◌then◌else◌, Kept}
use Rattle.vm_rule.proofs.Prelude.{KnowsLists, last_in, List, one_part, Option, Origin, owns, PARTS, refl, Release}
use Rattle.vm_rule.proofs.Prelude.{Ruled, some, Sound, Start, Stored, subst, sym, Table, times, total, true, Version}
use Rattle.vm_rule.proofs.Prelude.{View, ℕ, ⊎_elim, ◌++◌, ◌+◌, ◌<◌, ◌==◌, ◌∙◌, ◌∷◌, ◌≡◌, ◌≢◌, ◌≤◌}

-- the last version never falls
pub never-falls : (start : Origin) (before more : List Release) (p : ℕ) → AreNext start before more
    → (last_in start before p).version ≤ (last_in start (before ++ more) p).version
never-falls start before [] p a =
    let e : (last_in start (before ++ []) p).version ≡ (last_in start before p).version =
    ap (λ l. (last_in start l p).version) (append-none before) in omega (arith, e)
never-falls start before (r ∷ rs) p a =
    let later : (last_in start (before ++ r ∷ []) p).version ≤ (last_in start ((before ++ r ∷ []) ++ rs) p).version =
    never-falls start (before ++ r ∷ []) rs p a.1 in
    let same : (last_in start ((before ++ r ∷ []) ++ rs) p).version ≡ (last_in start (before ++ r ∷ rs) p).version =
    ap (λ l. (last_in start l p).version) (append_assoc before (r ∷ []) rs) in
    let now : (last_in start before p).version ≤ (last_in start (before ++ r ∷ []) p).version = ⊎_elim
    (λ (t : r.page ≡ p).
    let is : (last_in start (before ++ r ∷ []) p).version ≡ r.version = last-here start before r p t in
    let next : r.version ≡ (last_in start before p).version + 1 = a.0 ∙ ap (λ q. (last_in start before q).version + 1) t in
    omega (arith, is, next))
    (λ (ne : r.page ≢ p).
    let is : (last_in start (before ++ r ∷ []) p).version ≡ (last_in start before p).version =
    ap (λ (v : Version). v.version) (last-else start before r p (λ e. ne (sym e))) in
    omega (arith, is))
    (cases_eq r.page p) in
    omega (arith, later, same, now)

-- numbers that stand once at most are apart
once-apart : (l : List ℕ) → ((k : ℕ) → times k l ≤ 1) → AreApart l
once-apart [] once = tt
once-apart (q ∷ qs) once = (
  ⊎_elim (λ t. absurd (let a : 1 ≤ times q qs = times-has q qs t in let b : times q (q ∷ qs) ≤ 1 = once q in
      let c : times q (q ∷ qs) ≡ 1 + times q qs = rw (eq-eqb q q refl) refl in omega arith)) (λ f. f)
      (cases_Bool (has q qs)),
  once-apart qs (λ k. let a : times k (q ∷ qs) ≤ 1 = once k in omega (arith, a)),
)

each-front : {A : Type 0} (P : A → Type 0) (l m : List A) → Each P (l ++ m) → Each P l
each-front P [] m e = tt
each-front P (x ∷ xs) m e = (e.0, each-front P xs m e.1)

-- of releases that have the next versions, the first ones and those behind them
pub next-front : (start : Origin) (before l m : List Release) → AreNext start before (l ++ m) → AreNext start before l
    × AreNext start (before ++ l) m
next-front start before [] m a = (tt, subst (λ b. AreNext start b m) (sym (append-none before)) a)
next-front start before (r ∷ rs) m a =
    let k = next-front start (before ++ r ∷ []) rs m a.1 in
    ((a.0, k.0), subst (λ b. AreNext start b m) (append_assoc before (r ∷ []) rs) k.1)

module _ {X : Type 0} where
  counted-front : (before : ℕ → ℕ) (l m : List (Entry X)) → AreCounted before (l ++ m) → AreCounted before l
  counted-front before [] m a = tt
  counted-front before (e ∷ es) m a = (a.0, counted-front (λ n. (if e.number == n then 1 else 0) + before n) es m a.1)

module _ {X B : Type 0} (stored : B → Stored) (keeps : Start → Kept X → Type 0)
    (tied : Start → ℕ → List ℕ → ℕ → List ℕ → Type 0) (start : Origin) (tells : Bool) where
  pub is-sound : (s : Table (Option B) (View X)) (r : Ruled stored keeps tied start tells s) (id : ℕ) (v : View X)
      → get_elem? s.views id ≡ some v → v.live ≡ true → Sound v
  is-sound s r id v there live =
      let g : KnowsLists start r.releases r.history v = r.heard id v there live in
      let rises : AreNext start [] v.releases × AreNext start v.releases g.saw.0 =
      next-front start [] v.releases g.saw.0 (subst (AreNext start []) g.saw.1 r.lists.rises) in
      record {
        mine = g.mine;
        fresh = λ k x. (none-each (k ∷ []) v.seen g.heard.0 (ap (entries_by (k ∷ [])) (sym g.heard.1) ∙ g.fresh k x)).0;
        apart = once-apart (v.used ++ v.fresh) (λ k.
            let both : times k (v.used ++ v.fresh) ≡ times k v.used + times k v.fresh = times-joined k v.used v.fresh in
            let one : owns k v ≤ total (owns k) s.views = total-at (owns k) s.views id v there in
            let all : total (owns k) s.views ≡ one_part k = r.parts.parts k in
            let most : one_part k ≤ 1 = one-most k in
            omega (arith, both, one, all, most));
        numbered = each-front (λ e. e.number < PARTS) v.seen g.heard.0 (subst (Each (λ e. e.number < PARTS)) g.heard.1 r.lists.numbered);
        counted = counted-front (λ _. 0) v.seen g.heard.0 (subst (AreCounted (λ _. 0)) g.heard.1 r.lists.counted);
        rises = subst (λ (o : Origin). AreNext o [] v.releases) (sym g.same_start) rises.0;
        capped = λ p.
            let up : (last_in start v.releases p).version ≤ (last_in start (v.releases ++ g.saw.0) p).version =
            never-falls start v.releases g.saw.0 p rises.1 in
            let whole : (last_in start (v.releases ++ g.saw.0) p).version ≡ (last_in start r.releases p).version =
            ap (λ l. (last_in start l p).version) (sym g.saw.1) in
            let is = ap (λ (y : _). y.version) (last-is start r.releases r.drafts p) ∙ (r.inv.pages p).stands.last in
            let most = (r.inv.pages p).locks.in_range in
            let here : (last_in v.start v.releases p).version ≡ (last_in start v.releases p).version =
            ap (λ (o : Origin). (last_in o v.releases p).version) g.same_start in
            omega (arith, up, whole, is, most, here);
      }
