use Rattle.std.proofs.Common.{◌+◌, ◌-◌, ◌<◌, ◌≡◌, ap, arith, drop, length, List, subst, sym, ℕ}
use Rattle.vm_core.specs.Prelude.{StartHeads}
use Rattle.vm_core.proofs.{Heads.fits-at, Heads.group-before, Heads.refilled, Starting.heads-fit}
use Rattle.vm_core.proofs.initial.start_heads.Goals as goal

pub set_head-requires : goal.set_head-requires
set_head-requires c =
    let lt : c.loop-i.i - 1 < length c.args.groups.now = omega (arith, c.loop-i.auto.i, c.loop-i-test.true) in
    let is = fits-at c.args.pages c.args.groups.now (c.loop-i.i - 1) (0, 0) c.requires lt in
    omega (arith, is.inside, c.loop-i.invariant.len, ap length c.deref_mut.ensures.value)

pub loop-i-preserved : goal.loop-i-preserved
loop-i-preserved c =
    let lt : c.loop-i.i - 1 < length c.args.groups.now = omega (arith, c.loop-i.auto.i, c.loop-i-test.true) in
    let next : c.loop-i.i ≡ c.loop-i.i - 1 + 1 = omega (arith, c.loop-i-test.true) in
    let before : StartHeads c.args.pages (drop (c.loop-i.i - 1 + 1) c.args.groups.now) c.deref_mut.result.now =
    subst (λ (heads : List ℕ). StartHeads c.args.pages (drop (c.loop-i.i - 1 + 1) c.args.groups.now) heads)
    (sym c.deref_mut.ensures.value)
    (subst (λ k. StartHeads c.args.pages (drop k c.args.groups.now) c.loop-i.heads.items) next c.loop-i.invariant) in
    let long : length c.set_head.new.heads ≡ length c.deref_mut.result.now = omega (arith, c.set_head.auto.heads) in
    rw (refilled c.loop-i.heads.len c.set_head.new.heads c.loop-i.heads.items
    (omega (arith, long, c.deref_mut.ensures.len)))
    (group-before c.args.pages c.args.groups.now (c.loop-i.i - 1) (0, 0) c.deref_mut.result.now c.set_head.new.heads lt
    before long c.set_head.ensures)

pub returns-clause-fit : goal.returns-clause-fit
returns-clause-fit c =
    let all : c.loop-i.i ≡ 0 = omega (arith, c.loop-i-test.false) in
    heads-fit c.args.pages c.args.groups.now _ c.requires
    (subst (λ k. StartHeads c.args.pages (drop k c.args.groups.now) c.loop-i.heads.items) all c.loop-i.invariant)
