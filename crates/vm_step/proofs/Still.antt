-- Steps after which a pass has what it had.
use Rattle.vm_rule.specs.declared.view.WordPlace.TheVariants as places
use Rattle.vm_step.proofs.Prelude.{[], ap, append-none, Bool, CaughtUp, Did, did_load, Entry, HasStill, hearer}
use Rattle.vm_step.proofs.Prelude.{HoldsNoPage, IsLocking, last_in, last_of, List, refl, Release, rules, seat_of}
use Rattle.vm_step.proofs.Prelude.{Snapshot, StartsWith, subst, sym, TakesOver, true, View, ℕ, ◌++◌, ◌∙◌, ◌∷◌, ◌≡◌}

module _ {X : Type 0} where
  -- the pass with other lists, another snapshot and more steps
  abbrev relisted : View X → List Release → List (Entry X) → Bool → Snapshot → Did → View X
  relisted v releases seen current snapshot did =
      record v {
        releases = releases;
        seen = seen;
        told_releases = [];
        told = [];
        told_used = [];
        current = current;
        snapshot = snapshot;
        log = v.log ++ did ∷ [];
      }

  still-with : (v x : View X) (releases : List Release) (seen : List (Entry X)) (current : Bool) (snapshot : Snapshot)
      (did : Did) → x ≡ relisted v releases seen current snapshot did
      → ((p : ℕ) → IsLocking (seat_of v p) → last_in v.start releases p ≡ last_of v p) → HasStill v x
  still-with v x releases seen current snapshot did is kept =
      let log : StartsWith (v.log ++ did ∷ []) v.log = (did ∷ [], refl) in
      subst (HasStill v) (sym is) (search (rules, log, kept))

  -- one that was brought up to date
  pub caught-still : (v x : View X) → CaughtUp v x → HasStill v x
  caught-still v x c =
      let b = c.brings in
      still-with v x ((v.releases ++ b.between) ++ []) ((v.seen ++ b.others) ++ []) true b.snapshot (did_load places.Next c.found) b.view
      (λ p locks. ap (λ l. last_in v.start l p) (append-none (v.releases ++ b.between)) ∙ b.kept p locks)

  -- a pass that was told, and then was brought up to date
  pub heard-still : (v n x : View X) → CaughtUp (hearer v n) x → HasStill v x
  heard-still v n x c = search (rules, caught-still (hearer v n) x c)

  -- one that took over what it was told
  pub followed-still : (v n x : View X) → TakesOver (hearer v n) x → HasStill v x
  followed-still v n x f =
      still-with v x n.releases n.seen v.current v.snapshot (did_load places.Next f.found) f.view
      (λ p locks. ap (λ (u : View X). last_of u p) (sym f.view) ∙ f.kept p locks)

  -- and one that gave fresh parts away then
  pub still-fresh : (v x : View X) (fresh : List ℕ) → HasStill v x → HasStill v (record x { fresh = fresh })
  still-fresh v x fresh h = search (rules, h)

  pub still-nothing : (v x : View X) → HasStill v x → HoldsNoPage v → HoldsNoPage x
  still-nothing v x h m = search (rules, h.locks.0, h.locks.3, m.shares, m.exclusive, m.writing, m.out)
