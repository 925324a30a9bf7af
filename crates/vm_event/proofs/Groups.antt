-- The heads of groups that fit: each is its own, and its pages are near it and among the core's.
use Rattle.std.specs.List.{AllByRecursion}
use Rattle.std.proofs.Common.{[], ⊎_elim, ◌+◌, ◌<◌, ◌∙◌, ◌∷◌, ◌≡◌, ◌≤◌, ◌⊎◌, ap, arith, false, inl, inr, List, refl}
use Rattle.std.proofs.Common.{subst, sym, true, ℕ}
use Rattle.std.proofs.lemmas.Bool.{and_from, and_left, and_parts, and_right, cases_Bool, cases_lt, cond-false, false≢true}
use Rattle.std.proofs.lemmas.Bool.{cond-true, le-leb, le-ltb, leb-true, lt-leb, lt-ltb, ltb-true}
use Rattle.vm_event.specs.Prelude.{CoreStart, GroupsFit, head_in, HeadsInv, IsGroup, IsStart, IsUngrouped, start}
use Rattle.vm_event.specs.Groups.{ShareNoPage, in_group}
use Rattle.vm_event.proofs.Mirrors.{seat-refl}

-- ---- one group

-- its pages lie from its first page on, and below its end
pub inside-group : (g : ℕ × ℕ) (p : ℕ) → in_group g p ≡ true → (g.0 ≤ p) × (p < g.0 + g.1)
inside-group g p e =
    let parts = and_parts _ _ e in
    (leb-true g.0 p parts.0, ltb-true p (g.0 + g.1) parts.1)

pub outside-group : (g : ℕ × ℕ) (p : ℕ) → (p < g.0) ⊎ (g.0 + g.1 ≤ p) → in_group g p ≡ false
outside-group g p s =
    ⊎_elim (λ lt. and_left _ _ (lt-leb g.0 p lt)) (λ le. and_right _ _ (le-ltb p (g.0 + g.1) le)) s

pub of-group : (g : ℕ × ℕ) (p : ℕ) → g.0 ≤ p → p < g.0 + g.1 → in_group g p ≡ true
of-group g p le lt = and_from _ _ (le-leb g.0 p le) (lt-ltb p (g.0 + g.1) lt)

-- a page that is not one of its pages lies before it or behind it
pub group-outside : (g : ℕ × ℕ) (p : ℕ) → in_group g p ≡ false → (p < g.0) ⊎ (g.0 + g.1 ≤ p)
group-outside g p e =
    ⊎_elim (λ before. inl before)
    (λ le. ⊎_elim (λ lt. absurd (false≢true (sym e ∙ of-group g p le lt))) (λ behind. inr behind) (cases_lt p (g.0 + g.1)))
    (cases_lt p g.0)

pub group-size : (pages : ℕ) (g : ℕ × ℕ) → IsGroup pages g → (2 ≤ g.1) × (g.1 ≤ 8)
group-size pages g is = (grind (arith, is.size), grind (arith, is.size))

-- the first page of a group that is apart from another is none of the other's
first-apart : (pages : ℕ) (g h : ℕ × ℕ) → IsGroup pages h → ShareNoPage g h → in_group g h.0 ≡ false
first-apart pages g h is apart =
    let some : 2 ≤ h.1 = (group-size pages h is).0 in
    outside-group g h.0 (⊎_elim (λ le. inr le) (λ le. inl (omega (arith, some, le))) apart)

-- ---- heads

-- the head that the other groups give is none of this group's pages, where the page is not
pub head-apart : (pages : ℕ) (g : ℕ × ℕ) (gs : List (ℕ × ℕ)) → AllByRecursion (ShareNoPage g) gs → GroupsFit pages gs → (p : ℕ)
    → in_group g p ≡ false → in_group g (head_in gs p) ≡ false
head-apart pages g [] apart fit p e = e
head-apart pages g (h ∷ hs) apart fit p e =
    ⊎_elim
    (λ t. ap (in_group g) (cond-true (in_group h p) h.0 (head_in hs p) t) ∙ first-apart pages g h fit.0 apart.0)
    (λ f. ap (in_group g) (cond-false (in_group h p) h.0 (head_in hs p) f) ∙ head-apart pages g hs apart.1 fit.2 p e)
    (cases_Bool (in_group h p))

-- a page of a group is none of the others', so it is its own head among them
pub head-among : (pages : ℕ) (g : ℕ × ℕ) (gs : List (ℕ × ℕ)) → AllByRecursion (ShareNoPage g) gs → GroupsFit pages gs → (p : ℕ)
    → in_group g p ≡ true → head_in gs p ≡ p
head-among pages g [] apart fit p e = refl
head-among pages g (h ∷ hs) apart fit p e =
    let inside = inside-group g p e in
    let low : g.0 ≤ p = inside.0 in
    let below : p < g.0 + g.1 = inside.1 in
    cond-false (in_group h p) h.0 (head_in hs p)
    (outside-group h p (⊎_elim (λ le. inl (omega (arith, below, le))) (λ le. inr (omega (arith, low, le))) apart.0))
    ∙ head-among pages g hs apart.1 fit.2 p e

-- a page in no group is its own head, and no other page's
pub ungrouped-own : (gs : List (ℕ × ℕ)) (p : ℕ) → IsUngrouped gs p → head_in gs p ≡ p
ungrouped-own [] p none = refl
ungrouped-own (g ∷ gs) p none = cond-false (in_group g p) g.0 (head_in gs p) none.0 ∙ ungrouped-own gs p none.1

pub ungrouped-only : (pages : ℕ) (gs : List (ℕ × ℕ)) → GroupsFit pages gs → (p : ℕ) → IsUngrouped gs p → (q : ℕ) → head_in gs q ≡ p
    → q ≡ p
ungrouped-only pages [] fit p none q e = e
ungrouped-only pages (g ∷ gs) fit p none q e =
    ⊎_elim
    (λ t. let here : g.0 ≡ p = sym (cond-true (in_group g q) g.0 (head_in gs q) t) ∙ e in
    let some : 2 ≤ g.1 = (group-size pages g fit.0).0 in
    let first : in_group g g.0 ≡ true = of-group g g.0 (omega arith) (omega (arith, some)) in
    absurd (false≢true (sym none.0 ∙ ap (in_group g) (sym here) ∙ first)))
    (λ f. ungrouped-only pages gs fit.2 p none.1 q (sym (cond-false (in_group g q) g.0 (head_in gs q) f) ∙ e))
    (cases_Bool (in_group g q))

-- what stands past the last page is in no group
pub past-ungrouped : (pages : ℕ) (gs : List (ℕ × ℕ)) → GroupsFit pages gs → (p : ℕ) → pages ≤ p → IsUngrouped gs p
past-ungrouped pages [] fit p le = tt
past-ungrouped pages (g ∷ gs) fit p le =
    let inside : g.0 + g.1 ≤ pages = fit.0.inside in
    (outside-group g p (inr (omega (arith, inside, le))), past-ungrouped pages gs fit.2 p le)

-- a head is its own
pub heads-own : (pages : ℕ) (gs : List (ℕ × ℕ)) → GroupsFit pages gs → (p : ℕ)
    → head_in gs (head_in gs p) ≡ head_in gs p
heads-own pages [] fit p = refl
heads-own pages (g ∷ gs) fit p =
    ⊎_elim
    (λ t. let e : head_in (g ∷ gs) p ≡ g.0 = cond-true (in_group g p) g.0 (head_in gs p) t in
    let some : 2 ≤ g.1 = (group-size pages g fit.0).0 in
    let first : in_group g g.0 ≡ true = of-group g g.0 (omega arith) (omega (arith, some)) in
    ap (head_in (g ∷ gs)) e ∙ cond-true (in_group g g.0) g.0 (head_in gs g.0) first ∙ sym e)
    (λ f. let e : head_in (g ∷ gs) p ≡ head_in gs p = cond-false (in_group g p) g.0 (head_in gs p) f in
    ap (head_in (g ∷ gs)) e
    ∙ cond-false (in_group g (head_in gs p)) g.0 (head_in gs (head_in gs p)) (head-apart pages g gs fit.1 fit.2 p f)
    ∙ heads-own pages gs fit.2 p ∙ sym e)
    (cases_Bool (in_group g p))

-- a page past the last is its own head
pub head-past : (pages : ℕ) (gs : List (ℕ × ℕ)) → GroupsFit pages gs → (p : ℕ) → pages ≤ p → head_in gs p ≡ p
head-past pages [] fit p le = refl
head-past pages (g ∷ gs) fit p le =
    let inside : g.0 + g.1 ≤ pages = fit.0.inside in
    cond-false (in_group g p) g.0 (head_in gs p) (outside-group g p (inr (omega (arith, inside, le))))
    ∙ head-past pages gs fit.2 p le

-- a head is at or below each of its pages
pub head-le : (gs : List (ℕ × ℕ)) (p : ℕ) → head_in gs p ≤ p
head-le [] p = omega arith
head-le (g ∷ gs) p =
    ⊎_elim
    (λ t. subst (λ k. k ≤ p) (sym (cond-true (in_group g p) g.0 (head_in gs p) t)) (inside-group g p t).0)
    (λ f. subst (λ k. k ≤ p) (sym (cond-false (in_group g p) g.0 (head_in gs p) f)) (head-le gs p))
    (cases_Bool (in_group g p))

-- and fewer than eight pages below
pub head-near : (pages : ℕ) (gs : List (ℕ × ℕ)) → GroupsFit pages gs → (p : ℕ) → p < head_in gs p + 8
head-near pages [] fit p = omega arith
head-near pages (g ∷ gs) fit p =
    ⊎_elim
    (λ t. let few : g.1 ≤ 8 = (group-size pages g fit.0).1 in
    let below : p < g.0 + g.1 = (inside-group g p t).1 in
    subst (λ k. p < k + 8) (sym (cond-true (in_group g p) g.0 (head_in gs p) t)) (omega (arith, few, below)))
    (λ f. subst (λ k. p < k + 8) (sym (cond-false (in_group g p) g.0 (head_in gs p) f)) (head-near pages gs fit.2 p))
    (cases_Bool (in_group g p))

-- a page whose head is a page of the core is one
pub head-below : (pages : ℕ) (gs : List (ℕ × ℕ)) → GroupsFit pages gs → (p : ℕ) → head_in gs p < pages → p < pages
head-below pages gs fit p lt =
    ⊎_elim (λ below. below)
    (λ past. let own : head_in gs p ≡ p = head-past pages gs fit p past in absurd (omega (arith, lt, past, own)))
    (cases_lt p pages)

-- ---- the start

-- at the start each page stands under its head's word: all are evicted at one version
pub start-heads : (s : CoreStart) → IsStart s → HeadsInv (start s)
start-heads s ok =
    record {
      heads = heads-own s.shape.pages s.groups ok.groups;
      mirrors = λ p. record { state = refl; version = refl; seats = λ a. seat-refl _ };
    }
