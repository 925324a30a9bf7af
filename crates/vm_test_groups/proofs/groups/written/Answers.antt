use Rattle.std.proofs.Common.{◌∙◌, ◌≡◌, ◌≢◌, false, inl, subst, ℕ}
use Rattle.vm_page.specs.Pages.{all_zero}
use Rattle.vm_rule.specs.Prelude.{last_of}
use Rattle.vm_step.specs.Prelude.{view}
use Rattle.vm_guard.specs.Guards.{IsHolding}
use Rattle.vm_guard.proofs.InUse.{set-used}
use Rattle.vm_test_groups.proofs.groups.written.Goals as goal
use Rattle.vm_test_groups.proofs.Released.{holding-on, quiet-elsewhere}

pub returns-clause-used : goal.returns-clause-used
returns-clause-used g c told =
    let taken = c.in-Ok.ensures.taken in
    let tells = c.take.ensures.goes.ready.table.tells_is ∙ told in
    let last = λ (n : ℕ). all_zero (last_of (view c.set.new.pass) n).words ≡ false in
    subst last taken.0 (set-used taken.0 taken.1 c.read.ensures.quiet.1 _
    (λ none. c.if-read-eq0.false (c.read.ensures.value tells ∙ none)) _ _ _ _ _ c.set.ensures.set)

-- each call leaves the other pages that the pass holds as they were
pub returns-clause-others : goal.returns-clause-others
returns-clause-others g c q f v d ne h =
    let taken = c.in-Ok.ensures.taken in
    let reads = c.read.ensures.quiet.1 in
    let set = c.set.ensures.set in
    let apart : q ≢ c.in-Ok.guard.pid = λ e. ne (e ∙ taken.0) in
    let locked : IsHolding q f v d (view c.take.new.pass) = holding-on q f v d c.args.pid _ _ _ ne taken.1.group.0 taken.1.elsewhere h in
    let read : IsHolding q f v d (view c.read.new.pass) = holding-on q f v d c.in-Ok.guard.pid _ _ _ apart
    reads.group.0 (quiet-elsewhere _ _ _ _ reads) locked in (
      holding-on q f v d c.in-Ok.guard.pid _ _ _ apart set.group.0 set.elsewhere read,
      (set.elsewhere.knows q apart (inl read.owns)).last ∙ (reads.knows q (inl locked.owns)).last
          ∙ (taken.1.elsewhere.knows q ne (inl h.owns)).last,
    )
