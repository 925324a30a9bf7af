-- The first frame stands before those that are left.
use Rattle.std.specs.List.{remove, slice_get}
use Rattle.std.specs.Option.{IfNone, OnSome, option_to_list}
use Rattle.vm_step.proofs.Prelude.{[], ap, List, None, none-some, Option, Some, some-same, sym, ℕ, ◌++◌, ◌∙◌, ◌∷◌, ◌≡◌}
use Rattle.vm_step.proofs.batch.Batch.pop_first.Goals as goal

popped : (P : Type 0) (l new : List ℕ) (r : Option ℕ) → r ≡ slice_get l 0 → OnSome r (new ≡ remove l 0)
    → (P → new ≡ l) → IfNone r P → l ≡ option_to_list r ++ new
popped P l new None is left rests none = sym (rests none)
popped P [] new (Some x) is left rests none = absurd (none-some x (sym is))
popped P (y ∷ ys) new (Some x) is left rests none =
    let same : y ≡ x = some-same y x (sym is) in let rest : ys ≡ new = sym left in (λ i. same i ∷ rest i)

pub returns-clause-frames : goal.returns-clause-frames
returns-clause-frames c = sym c.self.view_is ∙ popped _ _ _ _ c.pop_at.ensures.value c.pop_at.ensures.items
    (λ same. ap (λ a. a.items) same) c.pop_at.ensures.absent
