use Rattle.vm_clock.proofs.Prelude.{arith, candidate_pages, false, has, subst, suc, sym, take, ◌+◌, ◌≡◌}
use Rattle.vm_clock.proofs.Visiting.{has-at, has-next}
use Rattle.vm_clock.proofs.met.is_chosen.Goals as goal

pub returns-then-list-i : goal.returns-then-list-i
returns-then-list-i c = sym (has-at _ _ _ _ c.loop-i-test.true c.if-list-i.true)

pub loop-i-preserved : goal.loop-i-preserved
loop-i-preserved c =
    let on : suc c.loop-i.i ≡ c.loop-i.i + 1 = omega arith in
    subst (λ n. has c.args.p (candidate_pages (take n c.args.list.now)) ≡ false) on
    (has-next _ _ _ _ c.loop-i-test.true c.if-list-i.false c.loop-i.invariant)
