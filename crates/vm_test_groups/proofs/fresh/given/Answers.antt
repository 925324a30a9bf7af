use Rattle.std.proofs.Common.{refl, ◌∙◌}
use Rattle.vm_step.specs.Prelude.{view}
use Rattle.vm_guard.proofs.Searching.{given-of}
use Rattle.vm_test_groups.proofs.fresh.given.Goals as goal
use Rattle.vm_test_groups.proofs.Released.{fresh-some, may-release}

pub returns-clause-home : goal.returns-clause-home
returns-clause-home g c =
    let f = given-of c.args.n c.in-Pages.group c.args.frames.now c.fresh.new.frames (view c.args.pass.now)
    (view c.fresh.new.pass) c.requires.few c.in-Pages.ensures.answer in
    f.1.amid.out ∙ c.requires.home

pub returns-clause-some : goal.returns-clause-some
returns-clause-some g c =
    let f = given-of c.args.n c.in-Pages.group c.args.frames.now c.fresh.new.frames (view c.args.pass.now)
    (view c.fresh.new.pass) c.requires.few c.in-Pages.ensures.answer in
    fresh-some _ _ _ f.1.guards f.1.count c.requires.few

pub returns-clause-may : goal.returns-clause-may
returns-clause-may g c =
    let f = given-of c.args.n c.in-Pages.group c.args.frames.now c.fresh.new.frames (view c.args.pass.now)
    (view c.fresh.new.pass) c.requires.few c.in-Pages.ensures.answer in
    may-release _ _ _ _ _ _ _ _ f.1 c.requires.home refl
