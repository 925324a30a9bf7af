use Rattle.std.proofs.Common.{arith, refl, subst, sym, ◌+◌, ◌<◌, ◌≡◌, ◌≤◌}
use Rattle.vm_group_evict.proofs.Emptying.{emptied-more, emptied-none, owned-behind}
use Rattle.vm_group_evict.specs.Emptying.{AreEmptied}
use Rattle.vm_step.proofs.Going.{goes-then}
use Rattle.vm_step.specs.Prelude.{view}
use Rattle.vm_group_evict.proofs.empty.empty_pages.Goals as goal

pub loop-k-init : goal.loop-k-init
loop-k-init g c = record {
  goes = record { same = (refl, refl); ready = c.requires.ready };
  emptied =
      let v = view c.args.pass.now in
      subst (λ l. AreEmptied c.args.head 0 l v v) (sym c.new-frames.ensures) (emptied-none c.args.head v);
}

-- a page that was not yet taken out of its frame is as it was
pub empty_page-requires-clause-owned : goal.empty_page-requires-clause-owned
empty_page-requires-clause-owned g c =
    let a = c.loop-k.invariant.emptied in
    let q = c.args.head + c.loop-k.k in
    let low : c.args.head ≤ c.args.head + c.loop-k.k = omega arith in
    let same : c.args.head + c.loop-k.k ≤ c.args.head + c.loop-k.k = omega arith in
    let high : c.args.head + c.loop-k.k < c.args.head + c.args.size = omega (arith, c.loop-k-test.true) in
    let owned = c.requires.owned q (low, high) in
    (owned.0, owned-behind c.args.head c.loop-k.k q owned.0 a.done _ _ same a.leaves owned.1)

pub loop-k-preserved : goal.loop-k-preserved
loop-k-preserved g c =
    let i = c.loop-k.invariant in
    let v = view c.args.pass.now in
    let u = view c.loop-k.pass in
    let w = view c.empty_page.new.pass in
    record {
      goes = goes-then i.goes c.empty_page.ensures.goes;
      emptied = subst (λ l. AreEmptied c.args.head (c.loop-k.k + 1) l v w) (sym c.push.ensures.items)
          (emptied-more c.args.head c.loop-k.k c.loop-k.frames.items c.empty_page.result v u w i.emptied
          c.empty_page.ensures.emptied);
    }

pub returns-clause-emptied : goal.returns-clause-emptied
returns-clause-emptied g c =
    let all : c.loop-k.k ≡ c.args.size = omega (arith, c.loop-k.auto.k-end, c.loop-k-test.false) in
    let v = view c.args.pass.now in
    let w = view c.loop-k.pass in
    subst (λ n. AreEmptied c.args.head n c.loop-k.frames.items v w) all c.loop-k.invariant.emptied
