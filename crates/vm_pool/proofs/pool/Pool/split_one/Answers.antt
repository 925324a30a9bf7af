use Rattle.vm_pool.proofs.Parting.{splits-off}
use Rattle.vm_pool.proofs.Prelude.{ap, length, List, new-number, ready-as, subst, sym, view, ℕ, ◌<◌, ◌∙◌}
use Rattle.vm_pool.proofs.pool.Pool.split_one.Goals as goal

pub returns-clause-goes : goal.returns-clause-goes
returns-clause-goes g c =
    let kept = c.split_pass.ensures.kept in
    let up = c.catch_up.ensures.goes in
    let now = up.ready in
    let split = c.split_pass.ensures.pass in
    let ready = ready-as _ _ _ c.catch_up.new.pass c.split_pass.new.pass now split.0
    (subst (λ u. 0 < length u.used) (sym kept) now.may.1) (ap (λ u. u.start) kept) in
    record { same = (split.0 ∙ up.same.0, split.1 ∙ up.same.1); ready = ready }

pub returns-clause-new : goal.returns-clause-new
returns-clause-new g c =
    let up = c.catch_up.ensures.told.brings.view in
    let given = c.split_pass.ensures.given in
    let room : 0 < length (view c.catch_up.new.pass).fresh =
    subst (λ (l : List ℕ). 0 < length l) (sym (ap (λ u. u.fresh) up)) c.requires.fresh in
    let now = c.catch_up.ensures.goes.ready in
    ready-as _ _ _ c.catch_up.new.pass c.split_pass.result now (c.split_pass.ensures.table ∙ sym now.may.0)
    (subst (λ u. 0 < length u.used) (sym given) (new-number (view c.catch_up.new.pass) room))
    (ap (λ u. u.start) given)

pub returns-clause-splits : goal.returns-clause-splits
returns-clause-splits g c = splits-off _ _ _ _ _ _ c.catch_up.ensures.told c.catch_up.ensures.knows c.requires.fresh
    c.split_pass.ensures.kept c.split_pass.ensures.given
