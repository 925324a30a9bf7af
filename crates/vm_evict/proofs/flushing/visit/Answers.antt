use Rattle.std.proofs.Common.{rules}
use Rattle.vm_evict.proofs.FlushVisits.{by-look-gone, by-look-held}
use Rattle.vm_evict.proofs.Prelude.{ap, arith, held-state, inl, inr, subst, sym, view, View, ⊎_elim, ◌<◌, ◌∙◌}
use Rattle.vm_supply.proofs.from_vm_step.Going.{goes-then}
use Rattle.vm_evict.proofs.flushing.visit.Goals as goal

pub returns-then-state-2-clause-visited : goal.returns-then-state-2-clause-visited
returns-then-state-2-clause-visited g c =
    let is = c.state-state.ensures in
    by-look-held c.args.p g.U.Owner.tied _ _ _ c.look_silently-word.ensures.told c.args.flushed.now
    (subst (λ n. c.args.p < n) (sym c.requires.ready.table.is_shape.pages) c.requires.page)
    (held-state _ (subst (λ n. n < 256) is c.state-state.type_inv) (λ e. c.if-state-2.true (is ∙ e))
    (λ e. c.if-state.false.0 (is ∙ e)) (λ e. c.if-state.false.1 (is ∙ e)))

pub returns-else-state-2-clause-visited : goal.returns-else-state-2-clause-visited
returns-else-state-2-clause-visited g c =
    by-look-gone c.args.p g.U.Owner.tied _ _ _ c.look_silently-word.ensures.told c.args.flushed.now
    (subst (λ n. c.args.p < n) (sym c.requires.ready.table.is_shape.pages) c.requires.page)
    (sym c.state-state.ensures ∙ c.if-state-2.false)

pub overflow_add-flushed : goal.overflow_add-flushed
overflow_add-flushed g c = omega (arith, c.requires.counts)

pub returns-then-state-clause-visited : goal.returns-then-state-clause-visited
returns-then-state-clause-visited g c = c.visit_unheld.ensures.visited (view c.args.pass.now) c.look_silently-word.ensures.told

pub returns-then-state-clause-goes : goal.returns-then-state-clause-goes
returns-then-state-clause-goes g c = goes-then c.look_silently-word.ensures.goes c.visit_unheld.ensures.goes

pub visit_unheld-requires : goal.visit_unheld-requires
visit_unheld-requires g c = record {
  ready = c.look_silently-word.ensures.goes.ready;
  sized = c.requires.sized;
  size = c.requires.size;
  home = ap (λ (x : View _). x.out) c.look_silently-word.ensures.told.brings.view ∙ c.requires.home;
  page = search rules;
  counts = search rules;
  unheld = ⊎_elim (λ e. inl (sym c.state-state.ensures ∙ e)) (λ e. inr (sym c.state-state.ensures ∙ e.1)) c.if-state.either;
  looked = (view c.args.pass.now, c.look_silently-word.ensures.told);
}
