-- A function that has what another has at the places under one head, and the heads that a list of groups gives.
use Rattle.std.specs.List.{AllByRecursion}
use Rattle.std.proofs.Common.{[], ⊎_elim, ◌&&◌, ◌+◌, ◌<◌, ◌∙◌, ◌∷◌, ◌≡◌, ◌≢◌, ◌≤◌, ap, arith, cond, eqb, leb, List}
use Rattle.std.proofs.Common.{ltb, refl, subst, sym, true, ℕ}
use Rattle.std.proofs.lemmas.Bool.{and_from, and_left, and_parts, and_right, cases_Bool, cases_eq, cases_lt, cond-false}
use Rattle.std.proofs.lemmas.Bool.{cond-true, eq-eqb, le-ltb, leb-true, lt-ltb, ltb-true, ne_eqb}
use mathlib.Core.Path.{fun_ext}
use Rattle.vm_event.specs.Prelude.{GroupsFit, head_in, IsGroup, upd, upd_over}
use Rattle.vm_event.specs.Groups.{in_group}
use Rattle.vm_event.proofs.Upd.{upd-other, upd-same}

-- ---- under one head

-- f with what g has at the places before n whose head is h
unfoldable pub over_until : {A : Type 0} → (ℕ → ℕ) → ℕ → (ℕ → A) → (ℕ → A) → ℕ → ℕ → A
over_until head h f g n q = cond (ltb q n && eqb (head q) h) (g q) (f q)

over-in : {A : Type 0} (head : ℕ → ℕ) (h : ℕ) (f g : ℕ → A) (n q : ℕ) → q < n → head q ≡ h
    → over_until head h f g n q ≡ g q
unfolding over_until
over-in head h f g n q lt e = cond-true _ (g q) (f q) (and_from _ _ (lt-ltb q n lt) (eq-eqb (head q) h e))

pub over-past : {A : Type 0} (head : ℕ → ℕ) (h : ℕ) (f g : ℕ → A) (n q : ℕ) → n ≤ q → over_until head h f g n q ≡ f q
unfolding over_until
over-past head h f g n q le = cond-false _ (g q) (f q) (and_left _ _ (le-ltb q n le))

over-other : {A : Type 0} (head : ℕ → ℕ) (h : ℕ) (f g : ℕ → A) (n q : ℕ) → head q ≢ h → over_until head h f g n q ≡ f q
unfolding over_until
over-other head h f g n q ne = cond-false _ (g q) (f q) (and_right _ _ (ne_eqb (head q) h ne))

-- before the first place nothing is changed
pub over-first : {A : Type 0} (head : ℕ → ℕ) (h : ℕ) (f g : ℕ → A) (n : ℕ) → ((q : ℕ) → head q ≡ h → n ≤ q)
    → over_until head h f g n ≡ f
over-first head h f g n first =
    fun_ext (λ q. ⊎_elim (λ e. over-past head h f g n q (first q e)) (over-other head h f g n q) (cases_eq (head q) h))

-- past the last one all are
pub over-all : {A : Type 0} (head : ℕ → ℕ) (h : ℕ) (f g : ℕ → A) (n : ℕ) → ((q : ℕ) → head q ≡ h → q < n)
    → over_until head h f g n ≡ upd_over head h f g
unfolding upd_over
over-all head h f g n last =
    fun_ext (λ q. ⊎_elim
    (λ e. over-in head h f g n q (last q e) e ∙ sym (cond-true _ (g q) (f q) (eq-eqb (head q) h e)))
    (λ ne. over-other head h f g n q ne ∙ sym (cond-false _ (g q) (f q) (ne_eqb (head q) h ne)))
    (cases_eq (head q) h))

-- elsewhere one place more makes no difference
over-beside : {A : Type 0} (head : ℕ → ℕ) (h : ℕ) (f g : ℕ → A) (n q : ℕ) → q ≢ n
    → over_until head h f g n q ≡ over_until head h f g (n + 1) q
over-beside head h f g n q ne =
    ⊎_elim
    (λ e. ⊎_elim
    (λ lt. over-in head h f g n q lt e ∙ sym (over-in head h f g (n + 1) q (omega arith) e))
    (λ le. over-past head h f g n q le ∙ sym (over-past head h f g (n + 1) q (omega arith)))
    (cases_lt q n))
    (λ other. over-other head h f g n q other ∙ sym (over-other head h f g (n + 1) q other))
    (cases_eq (head q) h)

-- one place more under the head
pub over-next : {A : Type 0} (head : ℕ → ℕ) (h : ℕ) (f g : ℕ → A) (n : ℕ) → head n ≡ h
    → upd (over_until head h f g n) n (g n) ≡ over_until head h f g (n + 1)
over-next head h f g n here =
    fun_ext (λ q. ⊎_elim
    (λ e. ap (upd (over_until head h f g n) n (g n)) e ∙ upd-same (over_until head h f g n) n (g n)
    ∙ sym (ap (over_until head h f g (n + 1)) e ∙ over-in head h f g (n + 1) n (omega arith) here))
    (λ ne. upd-other (over_until head h f g n) n (g n) q ne ∙ over-beside head h f g n q ne)
    (cases_eq q n))

-- one place more, which is under another head, or where both have the same
pub over-skip : {A : Type 0} (head : ℕ → ℕ) (h : ℕ) (f g : ℕ → A) (n : ℕ) → (head n ≡ h → g n ≡ f n)
    → over_until head h f g n ≡ over_until head h f g (n + 1)
over-skip head h f g n same =
    fun_ext (λ q. ⊎_elim
    (λ e. ap (over_until head h f g n) e ∙ over-past head h f g n n (omega arith)
    ∙ sym (ap (over_until head h f g (n + 1)) e ∙ next))
    (over-beside head h f g n q)
    (cases_eq q n))
  where
    next : over_until head h f g (n + 1) n ≡ f n
    next =
        ⊎_elim (λ e. over-in head h f g (n + 1) n (omega arith) e ∙ same e) (over-other head h f g (n + 1) n)
        (cases_eq (head n) h)

-- a place changed twice
pub upd-twice : {A : Type 0} (f : ℕ → A) (k : ℕ) (x y : A) → upd (upd f k x) k y ≡ upd f k y
upd-twice f k x y =
    fun_ext (λ j. ⊎_elim
    (λ e. ap (upd (upd f k x) k y) e ∙ upd-same (upd f k x) k y ∙ sym (ap (upd f k y) e ∙ upd-same f k y))
    (λ ne. upd-other (upd f k x) k y j ne ∙ upd-other f k x j ne ∙ sym (upd-other f k y j ne))
    (cases_eq j k))

-- ---- the heads that groups give

-- the pages of a group
pub in-group : (g : ℕ × ℕ) (p : ℕ) → in_group g p ≡ true → (g.0 ≤ p) × (p < g.0 + g.1)
in-group g p e =
    let parts = and_parts (leb g.0 p) (ltb p (g.0 + g.1)) e in (leb-true g.0 p parts.0, ltb-true p (g.0 + g.1) parts.1)

-- a head that groups give stands at most seven pages before its page; a page past the last is its own
pub record IsHeadOf (pages p h : ℕ) : Type 0 where
  pub behind : h ≤ p
  pub near : p < h + 8
  pub past : pages ≤ p → h ≡ p

group-head : (pages : ℕ) (g : ℕ × ℕ) (p : ℕ) → IsGroup pages g → in_group g p ≡ true → IsHeadOf pages p g.0
group-head pages g p i e =
    let within = in-group g p e in
    let short : g.1 ≤ 8 = ⊎_elim (λ two. omega arith) (⊎_elim (λ four. omega arith) (λ eight. omega arith)) i.size in
    record { behind = within.0; near = omega (arith, within, short); past = λ le. omega (arith, within, i.inside, le) }

pub head-of : (pages : ℕ) (groups : List (ℕ × ℕ)) (p : ℕ) → GroupsFit pages groups → IsHeadOf pages p (head_in groups p)
head-of pages [] p i = record { behind = omega arith; near = omega arith; past = λ _. refl }
head-of pages (g ∷ gs) p i =
    ⊎_elim
    (λ e. subst (IsHeadOf pages p) (sym (cond-true (in_group g p) g.0 (head_in gs p) e)) (group-head pages g p i.0 e))
    (λ e. subst (IsHeadOf pages p) (sym (cond-false (in_group g p) g.0 (head_in gs p) e)) (head-of pages gs p i.2))
    (cases_Bool (in_group g p))
