-- Each answer is that of the last allocation; a sweep left home and cap.
use Rattle.vm_pool.specs.Brings.{GetsNone as none}
use Rattle.vm_pool.proofs.Bringing.{dry-then, got-then, lost-then}
use Rattle.vm_pool.proofs.Prelude.{ap, counted, refl, ◌∙◌}
use Rattle.vm_pool.proofs.pool.Pool.frame_for.Goals as goal

pub returns-in-Again-clause-framed : goal.returns-in-Again-clause-framed
returns-in-Again-clause-framed g c = none.lost _ c.in-Again.ensures.answer c.alloc_one.ensures.same.2 refl

pub returns-in-Frame-alloc_one-clause-framed : goal.returns-in-Frame-alloc_one-clause-framed
returns-in-Frame-alloc_one-clause-framed g c =
    got-then _ _ _ _ _ _ (c.alloc_one.ensures.same.0, c.alloc_one.ensures.same.1)
    (c.sweep-report.ensures.iface.0, c.sweep-report.ensures.iface.1) _ _ _ _ _ _ _
    (c.alloc_one-2.ensures.same.2 ∙ c.sweep-report.ensures.iface.2 ∙ ap (λ n. counted n c.sweep-report.result)
    c.alloc_one.ensures.same.2) _ _ _ _ c.in-Dry.ensures.answer c.sweep-report.ensures.swept _
    c.in-Frame-alloc_one.ensures.answer

pub returns-in-Again-alloc_one-clause-framed : goal.returns-in-Again-alloc_one-clause-framed
returns-in-Again-alloc_one-clause-framed g c =
    lost-then _ _ _ _ _ _ (c.alloc_one.ensures.same.0, c.alloc_one.ensures.same.1)
    (c.sweep-report.ensures.iface.0, c.sweep-report.ensures.iface.1) _ _ _ _ _ _ _
    (c.alloc_one-2.ensures.same.2 ∙ c.sweep-report.ensures.iface.2 ∙ ap (λ n. counted n c.sweep-report.result)
    c.alloc_one.ensures.same.2) _ _ _ _ c.in-Dry.ensures.answer c.sweep-report.ensures.swept _
    c.in-Again-alloc_one.ensures.answer

pub returns-in-Dry-alloc_one-clause-framed : goal.returns-in-Dry-alloc_one-clause-framed
returns-in-Dry-alloc_one-clause-framed g c =
    dry-then _ _ _ _ _ _ (c.alloc_one.ensures.same.0, c.alloc_one.ensures.same.1)
    (c.sweep-report.ensures.iface.0, c.sweep-report.ensures.iface.1) _ _ _ _ _ _ _
    (c.alloc_one-2.ensures.same.2 ∙ c.sweep-report.ensures.iface.2 ∙ ap (λ n. counted n c.sweep-report.result)
    c.alloc_one.ensures.same.2) _ _ _ _ c.in-Dry.ensures.answer c.sweep-report.ensures.swept _ c.dry_cause.ensures
    c.in-Dry-alloc_one.ensures.answer
