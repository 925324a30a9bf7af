use Rattle.std.proofs.Common.{rules}
-- What the steps tell, in the order of the visit: the page that the look is at is one of the table.
use Rattle.vm_evict.proofs.FlushVisits.{by-load-clean, by-lock-lost, by-mark-lost, by-write, dirty-there, home-front}
use Rattle.vm_evict.proofs.FlushVisits.{not-dirty, page-before}
use Rattle.vm_evict.proofs.Locking.{lock-now, may-unshare, under-write-back}
use Rattle.vm_evict.proofs.Prelude.{ap, arith, MARKED, MAX_VERSION, refl, state_of, subst, sym, version-within}
use Rattle.vm_evict.proofs.Prelude.{word-state, word_of, ℕ, ◌<◌, ◌∙◌, ◌≤◌}
use Rattle.vm_evict.proofs.Writing.{still-locked}
use Rattle.vm_supply.proofs.from_vm_step.Going.{goes-then}
use Rattle.vm_evict.proofs.flushing.visit_unheld.Goals as goal

pub returns-then-is_none-clause-visited : goal.returns-then-is_none-clause-visited
returns-then-is_none-clause-visited g c v look =
    let page = page-before c.args.p g.U.Owner.tied _ v _ look c.args.flushed.now
    (subst (λ n. c.args.p < n) (sym c.requires.ready.table.is_shape.pages) c.requires.page) in
    by-load-clean c.args.p g.U.Owner.tied _ v _ look c.args.flushed.now page _ _ c.tload.ensures.told
    c.requires.unheld (not-dirty _ _ c.dirty_frame.ensures c.if-is_none.ensures)

pub returns-in-Lost-clause-visited : goal.returns-in-Lost-clause-visited
returns-in-Lost-clause-visited g c v look =
    let page = page-before c.args.p g.U.Owner.tied _ v _ look c.args.flushed.now
    (subst (λ n. c.args.p < n) (sym c.requires.ready.table.is_shape.pages) c.requires.page) in
    by-mark-lost c.args.p g.U.Owner.tied _ v _ look c.args.flushed.now page _ _ c.tload.ensures.told c.requires.unheld
    (dirty-there _ _ c.dirty_frame.ensures c.if-is_none.ensures) c.in-Lost.field-0 _ c.in-Lost.ensures.marks

pub lock_write_back-requires-clause-legal : goal.lock_write_back-requires-clause-legal
lock_write_back-requires-clause-legal g c = ap state_of c.of-marked.ensures ∙ word-state MARKED c.version.result
    (subst (λ (n : ℕ). n ≤ MAX_VERSION) (sym c.version.ensures) (version-within c.args.word))

pub unlock_shared-requires-clause-legal : goal.unlock_shared-requires-clause-legal
unlock_shared-requires-clause-legal g c =
    let k = (still-locked c.args.p _ _ c.write_where_dirty-wrote.result c.write_where_dirty-wrote.ensures.written).1 in
    may-unshare c.args.p _ (k.works.seat ∙ lock-now c.in-Taken.ensures.told) k.told k.home

pub returns-in-Lost-lock_write_back-clause-visited : goal.returns-in-Lost-lock_write_back-clause-visited
returns-in-Lost-lock_write_back-clause-visited g c v look =
    let page = page-before c.args.p g.U.Owner.tied _ v _ look c.args.flushed.now
    (subst (λ n. c.args.p < n) (sym c.requires.ready.table.is_shape.pages) c.requires.page) in
    by-lock-lost c.args.p g.U.Owner.tied _ v _ look c.args.flushed.now page _ _ c.tload.ensures.told c.requires.unheld
    (dirty-there _ _ c.dirty_frame.ensures c.if-is_none.ensures) _ c.in_default.ensures.marks _
    (c.of-marked.ensures ∙ ap (word_of MARKED) c.version.ensures) _ _
    (c.in-Lost-lock_write_back.ensures.lost _ refl) c.in-Lost-lock_write_back.ensures.told

pub returns-in-Taken-clause-visited : goal.returns-in-Taken-clause-visited
returns-in-Taken-clause-visited g c v look =
    let page = page-before c.args.p g.U.Owner.tied _ v _ look c.args.flushed.now
    (subst (λ n. c.args.p < n) (sym c.requires.ready.table.is_shape.pages) c.requires.page) in
    let there = dirty-there _ _ c.dirty_frame.ensures c.if-is_none.ensures in
    let home = home-front c.args.p g.U.Owner.tied _ v _ look c.args.flushed.now page _ _ c.tload.ensures.told
    c.requires.unheld there _ c.in_default.ensures.marks c.requires.home in
    by-write c.args.p g.U.Owner.tied _ v _ look c.args.flushed.now page _ _ c.tload.ensures.told c.requires.unheld
    there _ c.in_default.ensures.marks _ (c.of-marked.ensures ∙ ap (word_of MARKED) c.version.ensures) home _
    c.in-Taken.ensures.told _ _ _ c.unlock_shared.ensures.told _ c.write_where_dirty-wrote.ensures.written _
    c.count.ensures.counted

pub overflow_add-flushed : goal.overflow_add-flushed
overflow_add-flushed g c = omega (arith, c.requires.counts)

pub overflow_add-flushed-in-Lost-lock_write_back : goal.overflow_add-flushed-in-Lost-lock_write_back
overflow_add-flushed-in-Lost-lock_write_back g c = omega (arith, c.requires.counts)

pub of-marked-requires : goal.of-marked-requires
of-marked-requires g c = omega (arith, c.version.ensures, version-within c.args.word)

pub returns-in-Lost-lock_write_back-clause-goes : goal.returns-in-Lost-lock_write_back-clause-goes
returns-in-Lost-lock_write_back-clause-goes g c =
    goes-then (goes-then c.tload.ensures.goes c.mark_page.ensures.goes) c.lock_write_back.ensures.goes

pub returns-in-Taken-clause-goes : goal.returns-in-Taken-clause-goes
returns-in-Taken-clause-goes g c =
    goes-then (goes-then (goes-then (goes-then c.tload.ensures.goes c.mark_page.ensures.goes)
    c.lock_write_back.ensures.goes) c.write_where_dirty-wrote.ensures.goes) c.unlock_shared.ensures.goes

pub write_where_dirty-wrote-requires : goal.write_where_dirty-wrote-requires
write_where_dirty-wrote-requires g c = record {
  ready = c.lock_write_back.ensures.goes.ready;
  page = search rules;
  sized = c.requires.sized;
  size = c.requires.size;
  legal = let page = page-before c.args.p g.U.Owner.tied _ _ _ c.requires.looked.1 c.args.flushed.now
      (subst (λ n. c.args.p < n) (sym c.requires.ready.table.is_shape.pages) c.requires.page) in
      under-write-back c.in-Taken.ensures.told
      (home-front c.args.p g.U.Owner.tied _ _ _ c.requires.looked.1 c.args.flushed.now page _ _ c.tload.ensures.told
      c.requires.unheld (dirty-there _ _ c.dirty_frame.ensures c.if-is_none.ensures) _ c.in_default.ensures.marks
      c.requires.home);
}
