-- A table stands by its rule, or its first pass has not begun: and then no pass lives.
use Rattle.std.proofs.Common.{[], ⊎_elim, ◌∙◌, ◌∷◌, ◌≡◌, ap, Bool, List}
use Rattle.std.proofs.Common.{Option, subst, suc, sym, true, true≢false, zero, ℕ}
use mathlib.Core.Option as maybe
use Rattle.vm_rule.specs.from_vm_event.Prelude.{get_elem?, some, some-injective}
use Rattle.vm_rule.specs.Prelude.{HasShape, Kept, Ruled, spread_table, Stands, Start, Stored, Table, unborn}
use Rattle.vm_rule.specs.{declared.view.Origin.Origin, declared.view.TableShape.TableShape, declared.view.View.View}

only-one : {A : Type 0} (a v : A) (id : ℕ) → get_elem? (a ∷ []) id ≡ some v → a ≡ v
only-one a v zero e = some-injective a v e
only-one a v (suc id) e = absurd (maybe.some-ne-none v (sym e))

pub begun-ruled : {X B : Type 0} (stored : B → Stored) (keeps : Start → Kept X → Type 0)
    (tied : Start → ℕ → List ℕ → ℕ → List ℕ → Type 0) (shape : TableShape) (tells : Bool)
    (s : Table (Option B) (View X))
    → Stands stored keeps tied shape tells s → (id : ℕ) (v : View X) → get_elem? s.views id ≡ some v → v.live ≡ true
    → HasShape shape shape.began.origin × Ruled stored keeps tied shape.began.origin tells (spread_table shape.began.origin s)
begun-ruled {X} stored keeps tied shape tells s h id v there live =
    ⊎_elim
    (λ r. subst (λ (o : Origin). HasShape shape o × Ruled stored keeps tied o tells (spread_table o s)) h.is_shape.same (h.is_shape, r))
    (λ t.
    let is : unborn shape ≡ v = only-one (unborn shape) v id (subst (λ (l : List (View X)). get_elem? l id ≡ some v) t.0 there) in
    absurd (true≢false (sym live ∙ ap (λ (y : View X). y.live) (sym is))))
    h.rule
