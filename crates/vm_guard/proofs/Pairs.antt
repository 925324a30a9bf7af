-- A caller of fresh pages and groups: which guards it got, that it may release them, and what the pages have then.
use Rattle.std.proofs.Common.{eqb}
use Rattle.std.proofs.Math.Bool.{or-true}
use Rattle.vm_guard.specs.{declared.given.Fresh.Fresh, Given.AreFreshPages, Reused.IsFreshAnswer}
use Rattle.vm_guard.proofs.{Amid.amid-alone, GuardSteps.still-held, Searching.given-of}
use Rattle.vm_guard.proofs.Prelude.{AreApart, eq-eqb, guards_of, IsClaimed, Origin, true≢false, ⊎_elim, [], ap}
use Rattle.vm_guard.proofs.Prelude.{AreReleased, arith, began_of, Bool, Change, changes_of, draft_of, Entry}
use Rattle.vm_guard.proofs.Prelude.{ExclusiveGuard, false, has, HasFirst, inl, inr, IsAlone, IsHolding, IsSet, length}
use Rattle.vm_guard.proofs.Prelude.{length-append, List, MayReleaseAll, ne_eqb, None, none-some, pids_of, refl}
use Rattle.vm_guard.proofs.Prelude.{replicate, slice_set, Start, still-alone, subst, suc, sym, true, Version, View, ℕ}
use Rattle.vm_guard.proofs.Prelude.{◌++◌, ◌+◌, ◌||◌, ◌∙◌, ◌∷◌, ◌≡◌, ◌≢◌}

pids-many : (gs : List ExclusiveGuard) → length (pids_of gs) ≡ length gs
pids-many [] = refl
pids-many (g ∷ gs) = ap suc (pids-many gs)

pub two-many : (pages : List ℕ) (gs : List ExclusiveGuard) → pids_of gs ≡ pages → length pages ≡ 2 → length gs ≡ 2
two-many pages gs e two = sym (pids-many gs) ∙ ap length e ∙ two

-- the guards that were taken one after another are all
pub taken-both : (gs gs1 gs2 : List ExclusiveGuard) (a b : ExclusiveGuard) → gs ≡ gs1 ++ b ∷ [] → gs1 ≡ gs2 ++ a ∷ []
    → length gs ≡ 2 → (gs2 ≡ []) × (gs ≡ a ∷ b ∷ [])
taken-both gs gs1 [] a b e e1 two = (refl, e ∙ ap (λ (l : List ExclusiveGuard). l ++ b ∷ []) e1)
taken-both gs gs1 (g ∷ rest) a b e e1 two =
    absurd (let one : length gs ≡ length gs1 + 1 = ap length e ∙ length-append gs1 (b ∷ []) in
    let more : length gs1 ≡ length (g ∷ rest) + 1 = ap length e1 ∙ length-append (g ∷ rest) (a ∷ []) in
    omega (arith, two, one, more))

-- so they are the two fresh ones
pub fresh-both : {X : Type 0} (pages : List ℕ) (gs2 : List ExclusiveGuard) {gs gs1 : List ExclusiveGuard}
    {a b : ExclusiveGuard} {before after : List ℕ} {v w : View X} → gs ≡ gs1 ++ b ∷ [] → gs1 ≡ gs2 ++ a ∷ []
    → AreFreshPages 2 pages gs before after v w
    → AreFreshPages 2 pages (a ∷ b ∷ []) before after v w
fresh-both pages gs2 {gs = gs} {gs1 = gs1} {a = a} {b = b} {before = before} {after = after} {v = v} {w = w} e e1 f =
    subst (λ (l : List ExclusiveGuard). AreFreshPages 2 pages l before after v w)
    (taken-both gs gs1 gs2 a b e e1 (two-many pages gs f.guards f.count)).1 f

pub apart-of : (pages : List ℕ) (a b : ExclusiveGuard) → pids_of (a ∷ b ∷ []) ≡ pages → AreApart pages → a.pid ≢ b.pid
apart-of pages a b e apart same = true≢false (sym (ap (λ k. k || false) (eq-eqb a.pid b.pid same)) ∙ (subst AreApart (sym e) apart).0)

module _ {X : Type 0} where
  -- a page that is held stays so while a word of another one is set
  pub holding-beside : (p frame version : ℕ) (dirty : Bool) (q f2 : ℕ) (d2 : Bool) (i x : ℕ) (v w : View X)
      → IsHolding p frame version dirty v → p ≢ q → IsSet q f2 d2 i x v w → IsHolding p frame version dirty w
  holding-beside p frame version dirty q f2 d2 i x v w h ne s =
      still-held h s.elsewhere.steady.start (s.elsewhere.holds p ne).exclusive (s.elsewhere.knows p ne (inl h.owns))
      s.group.0

  -- the pages of a call for two
  pub two-given : (group : _) (before after : List ℕ) (v w : View X)
      → IsFreshAnswer 2 before after v w (Fresh.Pages group) → (pages : List ℕ) × AreFreshPages 2 pages
      (guards_of group) before after v w
  two-given group before after v w answer = given-of 2 group before after v w (inr refl) answer

  module _ (pages : List ℕ) (a b : ℕ) (g1 g2 : ExclusiveGuard) (before after : List ℕ) (v w1 w2 w3 : View X)
      (f : AreFreshPages 2 pages (g1 ∷ g2 ∷ []) before after v w1) (s1 : IsSet g1.pid g1.frame g1.dirty 0 a w1 w2)
      (s2 : IsSet g2.pid g2.frame g2.dirty 0 b w2 w3) where
    apart-pair : g1.pid ≢ g2.pid
    apart-pair = apart-of pages g1 g2 f.guards f.apart

    in-first : has g1.pid pages ≡ true
    in-first = ap (has g1.pid) (sym f.guards) ∙ ap (λ k. k || has g1.pid (g2.pid ∷ [])) (eq-eqb g1.pid g1.pid refl)

    in-second : has g2.pid pages ≡ true
    in-second = ap (has g2.pid) (sym f.guards) ∙ ap (λ k. eqb g2.pid g1.pid || (k || false))
        (eq-eqb g2.pid g2.pid refl) ∙ or-true (eqb g2.pid g1.pid)

    -- each may be used still
    usable : w3.start.tells ≡ true → (p : ℕ) → has p pages ≡ true → IsClaimed w3 p
    usable t p e =
        let one : w1.start.tells ≡ true = ap (λ (o : Origin). o.tells) (sym (s2.elsewhere.steady.start ∙ s1.elsewhere.steady.start)) ∙ t in
        let two : w2.start.tells ≡ true = ap (λ (o : Origin). o.tells) (sym s2.elsewhere.steady.start) ∙ t in
        ⊎_elim
        (λ owed. inr (inr (inl (ap (has p) (s2.group.1 ∙ s1.group.1) ∙ owed))))
        (λ held. inr (inr (inr (ap (has p) ((s2.numbers two).0 ∙ (s1.numbers one).0) ∙ held))))
        (f.usable (ap (λ (o : Origin). o.tells) (sym f.amid.start) ∙ one) p e)

    pub may-pair : (may_release : Start → List ℕ → List Change → List (Entry X) → Type 0)
        → IsHolding g1.pid g1.frame g1.version true w2 → IsHolding g2.pid g2.frame g2.version true w3 → v.out ≡ None
        → may_release (began_of w3.start) w3.owed (changes_of w3 (g1.pid ∷ g2.pid ∷ [])) []
        → MayReleaseAll may_release (record g1 { dirty = true } ∷ record g2 { dirty = true } ∷ []) None w3
    may-pair may_release h1 h2 none owner =
        let out : w3.out ≡ None = s2.elsewhere.steady.out ∙ s1.elsewhere.steady.out ∙ f.amid.out ∙ none in
        record {
          held = (holding-beside g1.pid g1.frame g1.version true g2.pid g2.frame g2.dirty 0 b w2 w3 h1 apart-pair s2, (h2, tt));
          apart = (ap (λ k. k || false) (ne_eqb g1.pid g2.pid apart-pair), (refl, tt));
          home = ((λ o e. absurd (none-some o (sym out ∙ e))), ((λ o e. absurd (none-some o (sym out ∙ e))), tt));
          claimed = λ t. (usable t g1.pid in-first, (usable t g2.pid in-second, tt));
          owner = λ t. inr owner;
        }

    pub written-pair : (w : View X) → AreReleased (record g1 { dirty = true }) (record g2 { dirty = true } ∷ []) None
        w3 w → v.start.tells ≡ true → IsAlone v → HasFirst g1.pid a w × HasFirst g2.pid b w
    written-pair w r tells alone =
        let alone-2 = still-alone w1 w2 s1.elsewhere.steady.parts s1.elsewhere.steady.alone.current (amid-alone f.amid alone) in
        let last = r.last (still-alone w2 w3 s2.elsewhere.steady.parts s2.elsewhere.steady.alone.current alone-2) in
        let start : v.start ≡ w.start =
        sym (r.beside.steady.start ∙ s2.elsewhere.steady.start ∙ s1.elsewhere.steady.start ∙ f.amid.start) in
        let first : draft_of w3 g1.pid ≡ slice_set (replicate v.start.size 0) 0 a =
        (s2.elsewhere.knows g1.pid apart-pair (inl (s1.holds.exclusive ∙ f.held.0.owns))).draft ∙ s1.draft
        ∙ ap (λ (l : List ℕ). slice_set l 0 a) (f.zero tells g1.pid in-first).0 in
        let second : draft_of w3 g2.pid ≡ slice_set (replicate v.start.size 0) 0 b =
        s2.draft ∙ ap (λ (l : List ℕ). slice_set l 0 b)
        ((s1.elsewhere.knows g2.pid (λ e. apart-pair (sym e)) (inl f.held.1.0.owns)).draft
        ∙ (f.zero tells g2.pid in-second).0) in (
          ap (λ (k : Version). k.words) last.0 ∙ first ∙ ap (λ (o : Origin). slice_set (replicate o.size 0) 0 a) start,
          ap (λ (k : Version). k.words) last.1.0 ∙ second ∙ ap (λ (o : Origin). slice_set (replicate o.size 0) 0 b) start,
        )
