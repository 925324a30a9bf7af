-- What two passes have that met.
use Rattle.vm_step.proofs.{Still.followed-still, Still.heard-still, Together.caught-heard}
use Rattle.vm_step.proofs.Prelude.{ap, append-none, CaughtUp, false, giver, HasStill, hearer, Hears, Meets, newcomer}
use Rattle.vm_step.proofs.Prelude.{StartsWith, subst, sym, TakesOver, View, ◌++◌, ◌∙◌, ◌≡◌}

module _ {X : Type 0} where
  -- a pass that was told, and then was brought up to date: both lists go on from what it was told
  pub told-on : (v n x : View X) → CaughtUp (hearer v n) x → StartsWith x.releases n.releases × StartsWith x.seen n.seen
  told-on v n x c =
      let b = c.brings in
      let seen : v.seen ++ b.others ≡ x.seen = sym (ap (λ (u : View X). u.seen) b.view ∙ append-none (v.seen ++ b.others)) in
      let releases : v.releases ++ b.between ≡ x.releases =
      sym (ap (λ (u : View X). u.releases) b.view ∙ append-none (v.releases ++ b.between)) in
      (subst (λ l. StartsWith l n.releases) releases b.told.0, subst (λ l. StartsWith l n.seen) seen (b.told.1.0, b.told.1.1))

  -- they know one and the same of both lists then, which goes on from what each had seen, with no further entry of
  -- either
  pub met-known : (v w x y : View X) → Meets v w x y → (y.seen ≡ x.seen) × (y.releases ≡ x.releases)
      × Hears x.seen v.used v.seen × Hears x.seen w.used w.seen × StartsWith x.releases v.releases
      × StartsWith x.releases w.releases
  met-known v w x y m =
      let heard = caught-heard (hearer v w) x m.caught in (
        ap (λ (u : View X). u.seen) m.takes.view,
        ap (λ (u : View X). u.releases) m.takes.view,
        (heard.0.0, heard.0.1, heard.0.2),
        m.takes.heard,
        heard.1,
        (told-on v w x m.caught).0,
      )

  -- and have what they had
  pub met-still : (v w x y : View X) → Meets v w x y → HasStill v x × HasStill w y
  met-still v w x y m = (heard-still v w x m.caught, followed-still w x y m.takes)

  -- the same of the views that the four calls left
  pub meets-then : (v w w' n x x' m y : View X) → w' ≡ giver false w → n ≡ newcomer false w → CaughtUp (hearer v n) x
      → x' ≡ giver false x → m ≡ newcomer false x → TakesOver (hearer w' m) y → Meets v w x' y
  meets-then v w w' n x x' m y kept given told kept' given' follows =
      subst (λ u. Meets v w u y) (sym kept')
      (record {
        caught = (subst (λ u. CaughtUp (hearer v u) x) given told);
        takes = (subst (λ u. TakesOver (hearer u (newcomer false x)) y) kept (subst (λ u. TakesOver (hearer w' u) y) given' follows));
      })
