-- Every entry has the number of a part, and a pass that has all parts has used each number that an entry has: all
-- entries are its own.
use Rattle.std.proofs.Common.{[], ⊎_elim, ◌++◌, ◌+◌, ◌<◌, ◌∙◌, ◌∷◌, ◌≡◌, ◌≤◌, ap, arith, Bool, false, length, List}
use Rattle.std.proofs.Common.{Option, refl, subst, suc, sym, true, true≢false, ℕ}
use Rattle.std.proofs.lemmas.Bool.{cases_Bool, cases_eq, cases_lt, eq-eqb, ne_eqb}
use Rattle.std.proofs.lemmas.List.{append-nil}
use Rattle.vm_rule.specs.Prelude.{Each, entries_by, Entry, has, IsWhole, Kept, KnowsLists}
use Rattle.vm_rule.specs.Prelude.{PARTS, Ruled, Start, Stored, Table, times}
use Rattle.vm_rule.specs.{declared.view.Origin.Origin, declared.view.View.View}
use Rattle.vm_rule.proofs.Entries.{mine-in}
use Rattle.vm_rule_laws.specs.Known.{IsWholePass}
use Rattle.vm_rule_laws.proofs.Alone.{whole-lives}

times-in : (k : ℕ) (ns : List ℕ) → 1 ≤ times k ns → has k ns ≡ true
times-in k [] l = absurd (omega arith)
times-in k (n ∷ ns) l =
    ⊎_elim
    (λ (e : k ≡ n). rw (eq-eqb k n e) refl)
    (λ ne. let drop : times k (n ∷ ns) ≡ times k ns = rw (ne_eqb n k (λ e. ne (sym e))) (omega arith) in
    rw (ne_eqb k n ne) (times-in k ns (subst (λ m. 1 ≤ m) drop l)))
    (cases_eq k n)

-- the number stands in one of the two lists
in-either : (a b : ℕ) → 1 ≤ a + b → (1 ≤ b → ⊥) → 1 ≤ a
in-either a b l none = ⊎_elim (λ (x : b < 1). omega arith) (λ x. absurd (none x)) (cases_lt b 1)

module _ {X : Type 0} where
  -- a list of entries whose numbers all are among these
  all-own : (ns : List ℕ) (es : List (Entry X)) → Each (λ e. has e.number ns ≡ true) es → entries_by ns es ≡ es
  all-own ns [] all = refl
  all-own ns (e ∷ es) all = rw all.0 (ap (λ (l : List (Entry X)). e ∷ l) (all-own ns es all.1))

  cons-some : (e : Entry X) (es : List (Entry X)) → e ∷ es ≡ [] → ⊥
  cons-some e es q = let n : suc (length es) ≡ 0 = ap length q in absurd (omega arith)

  -- an entry less
  none-behind : (ns : List ℕ) (e : Entry X) (es : List (Entry X)) → entries_by ns (e ∷ es) ≡ []
      → (has e.number ns ≡ false) × (entries_by ns es ≡ [])
  none-behind ns e es none =
      ⊎_elim
      (λ t. absurd (cons-some e (entries_by ns es) (sym (rw t refl) ∙ none)))
      (λ f. (f, sym (rw f refl) ∙ none))
      (cases_Bool (has e.number ns))

  -- the numbers of entries are used where they are parts of the pass and not fresh
  numbers-used : (v : View X) → IsWhole v → (es : List (Entry X)) → Each (λ e. e.number < PARTS) es
      → ((k : ℕ) → has k v.fresh ≡ true → entries_by (k ∷ []) es ≡ []) → Each (λ e. has e.number v.used ≡ true) es
  numbers-used v whole [] numbered fresh = tt
  numbers-used v whole (e ∷ es) numbered fresh =
      let n : ℕ = e.number in
      let not_fresh : 1 ≤ times n v.fresh → ⊥ =
      λ l. true≢false (sym (rw (eq-eqb n n refl) refl) ∙ (none-behind (n ∷ []) e es (fresh n (times-in n v.fresh l))).0) in (
        times-in n v.used (in-either (times n v.used) (times n v.fresh) (whole n numbered.0) not_fresh),
        numbers-used v whole es numbered.1 (λ k x. (none-behind (k ∷ []) e es (fresh k x)).1),
      )

  each-behind : (P : Entry X → Type 0) (l m : List (Entry X)) → Each P (l ++ m) → Each P m
  each-behind P [] m all = all
  each-behind P (e ∷ es) m all = each-behind P es m all.1

module _ {X B : Type 0} (stored : B → Stored) (keeps : Start → Kept X → Type 0)
    (tied : Start → ℕ → List ℕ → ℕ → List ℕ → Type 0) (start : Origin) (tells : Bool) (s : Table (Option B) (View X))
    (r : Ruled stored keeps tied start tells s) where
  pub all-seen : (id : ℕ) (v : View X) → IsWholePass s.views id v → (v.seen ≡ r.history) × (v.mine ≡ r.history)
  all-seen id v pass =
      let g : KnowsLists start r.releases r.history v = r.heard id v pass.there (whole-lives stored keeps tied start tells s r id v pass) in
      let used : Each (λ e. has e.number v.used ≡ true) r.history = numbers-used v pass.whole r.history r.lists.numbered g.fresh in
      let rest : List (Entry X) = g.heard.0 in
      let behind : Each (λ e. has e.number v.used ≡ true) rest = each-behind (λ e. has e.number v.used ≡ true) v.seen
      rest (subst (Each (λ e. has e.number v.used ≡ true)) g.heard.1 used) in
      let none : rest ≡ [] = sym (all-own v.used rest behind) ∙ g.heard.2 in (
        sym (g.heard.1 ∙ ap (λ (l : List (Entry X)). v.seen ++ l) none ∙ append-nil v.seen),
        mine-in v.used r.history v.seen v.mine g.mine g.heard ∙ all-own v.used r.history used,
      )
