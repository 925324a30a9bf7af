use Rattle.vm_pool.proofs.{Parting.have-met, Prelude.meets-then, Prelude.view}
use Rattle.vm_pool.proofs.Prelude.{ap, length, ready-as, subst, sym, ◌<◌, ◌∙◌}
use Rattle.vm_pool.proofs.pool.Pool.meet.Goals as goal

pub returns-clause-goes : goal.returns-clause-goes
returns-clause-goes g c =
    let heard = c.hear_pass.ensures.goes in
    let split = c.split_pass-mine.ensures.pass in
    let kept = c.split_pass-mine.ensures.kept in
    let number = subst (λ u. 0 < length u.used) (sym kept) heard.ready.may.1 in
    let ready = ready-as _ _ _ c.hear_pass.new.pass c.split_pass-mine.new.pass heard.ready split.0 number (ap (λ u. u.start) kept) in
    record { same = (split.0 ∙ heard.same.0, split.1 ∙ heard.same.1); ready = ready }

pub returns-clause-other : goal.returns-clause-other
returns-clause-other g c =
    let split = c.split_pass-theirs.ensures.pass in
    let follows = c.follow_pass.ensures.goes in
    record { same = (follows.same.0 ∙ split.0, follows.same.1 ∙ split.1); ready = follows.ready }

pub returns-clause-met : goal.returns-clause-met
returns-clause-met g c =
    meets-then (view c.args.pass.now) (view c.args.other.now) _ _ (view c.hear_pass.new.pass) _ _ _
    c.split_pass-theirs.ensures.kept c.split_pass-theirs.ensures.given c.hear_pass.ensures.told
    c.split_pass-mine.ensures.kept c.split_pass-mine.ensures.given c.follow_pass.ensures.told

pub returns-clause-have : goal.returns-clause-have
returns-clause-have g c =
    have-met (view c.args.pass.now) (view c.args.other.now) _ _ (returns-clause-met g c)
