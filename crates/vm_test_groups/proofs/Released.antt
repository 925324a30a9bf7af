-- What the steps of the tests need: pages that are fresh and may be released, and pages that are held on.
use Rattle.std.proofs.Common.{[], ⊎_elim, ◌∙◌, ◌∷◌, ◌≡◌, ◌≢◌, ◌⊎◌, ap, arith, Bool, eqb, false, inl, inr}
use Rattle.std.proofs.Common.{length, List, None, refl, subst, sym, true, ℕ}
use Rattle.std.proofs.lemmas.Bool.{eq-eqb, or_left, or_right}
use Rattle.std.proofs.lemmas.Option.{none-some}
use Rattle.vm_page.specs.Pages.{all_zero}
use Rattle.vm_rule.specs.Prelude.{AreApart, began_of, Change, changes_of, Each, Entry, has, Kept, last_of, Start}
use Rattle.vm_step.specs.Prelude.{AreHeld, Did, IsClaimed, IsNotOut, Origin, View}
use Rattle.vm_step.proofs.HeldFrames.{held-on}
use Rattle.vm_guard.specs.{declared.exclusive.ExclusiveGuard.ExclusiveGuard, Given.AreFreshPages, Guards.IsElsewhere}
use Rattle.vm_guard.specs.{Guards.IsHolding, Quiet.IsQuiet}
use Rattle.vm_guard.specs.Groups.{IsGroupReleased, MayReleaseAll, pids_of}
use Rattle.vm_guard.specs.declared.given.Fresh.TheVariants as freshes
use Rattle.vm_guard.specs.Reused.{IsFreshAnswer}
use Rattle.vm_guard.proofs.Searching.{looks-none}
use Rattle.vm_step.proofs.steps.Next.{nload-others}
use Rattle.vm_guard.proofs.InUse.{claims-used}
use Rattle.vm_guard.proofs.GuardSteps.{still-held}

-- the guards of one page, or of two, are some
pub fresh-some : (n : ℕ) (pages : List ℕ) (gs : List ExclusiveGuard) → pids_of gs ≡ pages → length pages ≡ n → (n ≡ 1) ⊎ (n ≡ 2) → gs ≢ []
fresh-some n pages gs are count few none =
    absurd (let same : length (pids_of gs) ≡ length pages = ap length are in
    let zero : length (pids_of gs) ≡ 0 = ap (λ (l : List ExclusiveGuard). length (pids_of l)) none in
    omega (arith, count, same, zero, few))

each-guard : (P : ExclusiveGuard → Type 0) (gs : List ExclusiveGuard) → ((g : ExclusiveGuard) → P g) → Each P gs
each-guard P [] h = tt
each-guard P (g ∷ gs) h = (h g, each-guard P gs h)

module _ {X : Type 0} where
  -- a page that is owed, or whose number the pass holds, is the pass's to use
  each-usable : (w : View X) (gs : List ExclusiveGuard)
      → ((q : ℕ) → has q (pids_of gs) ≡ true → (has q w.owed ≡ true) ⊎ (has q w.numbers ≡ true))
      → Each (λ (g : ExclusiveGuard). IsClaimed w g.pid) gs
  each-usable w [] usable = tt
  each-usable w (g ∷ gs) usable = (
    inr (inr (usable g.pid (or_left (eqb g.pid g.pid) (has g.pid (pids_of gs)) (eq-eqb g.pid g.pid refl)))),
    each-usable w gs (λ q e. usable q (or_right (eqb q g.pid) (has q (pids_of gs)) e)),
  )

  -- fresh pages may be released together, as they are
  pub may-release : (may_release : Start → List ℕ → List Change → List (Entry X) → Type 0) (n : ℕ) (pages : List ℕ)
      (gs : List ExclusiveGuard) (before after : List ℕ) (v w : View X) → AreFreshPages n pages gs before after v w
      → v.out ≡ None
      → may_release (began_of w.start) w.owed (changes_of w (pids_of gs)) [] → MayReleaseAll may_release gs None w
  may-release may_release n pages gs before after v w f none owner = record {
    held = f.held;
    apart = subst AreApart (sym f.guards) f.apart;
    home = each-guard (λ (g : ExclusiveGuard). IsNotOut w g.pid) gs (λ g o e. absurd (none-some o (sym (f.amid.out ∙ none) ∙ e)));
    claimed = λ t. each-usable w gs
        (λ q e. f.usable (ap (λ (o : Origin). o.tells) (sym f.amid.start) ∙ t) q
        (subst (λ (l : List ℕ). has q l ≡ true) f.guards e));
    owner = λ t. inr owner;
  }

  -- a release of a group leaves the pass its frames, and its block at home
  pub release-keeps : (keeps : Start → Kept X → Type 0) (gs : List ExclusiveGuard) (v w : View X) → gs ≢ []
      → IsGroupReleased keeps gs None v w → (w.start ≡ v.start) × (w.frames ≡ v.frames) × (w.out ≡ v.out)
  release-keeps keeps [] v w some r = absurd (some refl)
  release-keeps keeps (g ∷ gs) v w some r = (r.0.beside.steady.start, r.0.beside.steady.frames.0, r.0.beside.steady.out)

  pub release-holds : (keeps : Start → Kept X → Type 0) (gs : List ExclusiveGuard) (frames : List ℕ) (v w : View X)
      → gs ≢ [] → IsGroupReleased keeps gs None v w → AreHeld frames v → AreHeld frames w
  release-holds keeps gs frames v w some r h = let k = release-keeps keeps gs v w some r in held-on frames v w h k.0 k.1

  -- a page that is held stays so over steps on another one
  pub holding-on : (p f version : ℕ) (dirty : Bool) (q : ℕ) (done : List Did) (v w : View X) → p ≢ q
      → w.pending ≡ v.pending → IsElsewhere q done [] v w → IsHolding p f version dirty v
      → IsHolding p f version dirty w
  holding-on p f version dirty q done v w ne pending e h =
      let k = e.knows p ne (inl h.owns) in
      still-held h e.steady.start (e.holds p ne).exclusive k pending

  -- a call that leaves all but the open read of a page leaves the others
  pub quiet-elsewhere : (p : ℕ) (done : List Did) (v w : View X) → IsQuiet p done v w → IsElsewhere p done [] v w
  quiet-elsewhere p done v w q =
      record { steady = q.steady; holds = λ k ne. q.holds k; knows = λ k ne lock. q.knows k lock; others = q.others }

  -- a call for fresh pages that finds too few leaves the pass its frames, and its block at home
  pub full-leaves : (n pages next need : ℕ) (before after : List ℕ) (v w : View X)
      → IsFreshAnswer n before after v w (freshes.Full pages next need)
      → (w.out ≡ v.out) × (AreHeld before v → AreHeld after w)
  full-leaves n pages next need before after v w answer =
      ⊎_elim
      (λ few.
      let look = looks-none n v few.0 few.1 in
      let load = nload-others few.2.1.loaded (λ _. ⊥) in (
        load.out ∙ look.others.out,
        λ h. held-on after v w (subst (λ (l : List ℕ). AreHeld l v) (sym few.2.0) h) (load.start ∙ look.others.start)
            (load.keeps.frames ∙ look.others.keeps.frames),
      ))
      (λ some. ⊎_elim (λ lost. absurd (let no : freshes.Full pages next need ≡ freshes.Again lost.0 = lost.1 in cc))
      (λ none. absurd none) some.4.2)
      answer

  -- three pages that are held and in use may be released together
  pub may-three : (may_release : Start → List ℕ → List Change → List (Entry X) → Type 0) (a b c : ExclusiveGuard)
      (v : View X) → (a.pid ≡ 2) × (b.pid ≡ 0) × (c.pid ≡ 1)
      → (v.start.tells ≡ true → (all_zero (last_of v 2).words ≡ false) × (all_zero (last_of v 0).words ≡ false)
      × (all_zero (last_of v 1).words ≡ false))
      → IsHolding a.pid a.frame a.version a.dirty v → IsHolding b.pid b.frame b.version b.dirty v
      → IsHolding c.pid c.frame c.version c.dirty v → v.out ≡ None
      → may_release (began_of v.start) v.owed (changes_of v (pids_of (a ∷ b ∷ c ∷ []))) []
      → MayReleaseAll may_release (a ∷ b ∷ c ∷ []) None v
  may-three may_release a b c v is used ha hb hc none owner =
      let pids : pids_of (a ∷ b ∷ c ∷ []) ≡ 2 ∷ 0 ∷ 1 ∷ [] = (λ i. is.0 i ∷ is.1 i ∷ is.2 i ∷ []) in
      record {
        held = (ha, (hb, (hc, tt)));
        apart = subst AreApart (sym pids) (refl, (refl, (refl, tt)));
        home = each-guard (λ (g : ExclusiveGuard). IsNotOut v g.pid) (a ∷ b ∷ c ∷ []) (λ g o e. absurd (none-some o (sym none ∙ e)));
        claimed = λ t.
            let u = used t in
            let claims = λ (n : ℕ) (words : all_zero (last_of v n).words ≡ false). claims-used v n words in (
              subst (IsClaimed v) (sym is.0) (claims 2 u.0),
              (subst (IsClaimed v) (sym is.1) (claims 0 u.1), (subst (IsClaimed v) (sym is.2) (claims 1 u.2), tt)),
            );
        owner = λ t. inr owner;
      }
