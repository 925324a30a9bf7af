use Rattle.vm_pool.proofs.LastState.{emptied-next, filled-next, never-none, taken-more}
use Rattle.vm_pool.proofs.Prelude.{ap, arith, false, get_elem?, get_or, if◌then◌else◌, is_ok, slots_filled}
use Rattle.vm_pool.proofs.Prelude.{slots_items, slots_len, some, sym, true, vec_len, ◌+◌, ◌∙◌, ◌≡◌}
use Rattle.vm_pool.proofs.closing.blocks_of.Goals as goal

pub unreachable-requires : goal.unreachable-requires
unreachable-requires g c = never-none (slots_items c.args.table.slots) c.requires.home c.loop-p.p c.take-slot.result
    (ap (λ l. get_elem? l c.loop-p.p) (sym c.loop-p.invariant.1) ∙ c.take-slot.ensures.value) c.in_default.is

pub loop-p-preserved : goal.loop-p-preserved
loop-p-preserved g c =
    let inv = c.loop-p.invariant in
    let others = c.take-slot.ensures.others in
    let same : slots_items c.take-slot.new.self.slots ≡ slots_items c.loop-p.table.slots = others.0 in
    let done : is_ok c.push.result ≡ true =
    c.push.ensures.succeeds (omega (arith, c.slot_count-p-end.ensures, c.loop-p-test.true, inv.5, inv.6)) in (
      taken-more c.loop-p.blocks.items c.push.new.self.items c.in-Some.block (is_ok c.push.result)
          (slots_items c.args.table.slots) c.loop-p.p (c.loop-p.p + 1) (omega arith) inv.0
          (ap (λ l. get_elem? l c.loop-p.p) (sym inv.1) ∙ c.take-slot.ensures.value ∙ ap some c.in-Some.is)
          c.push.ensures.items done,
      same ∙ inv.1,
      others.2 ∙ inv.2,
      (λ k le l. ap (λ fs. get_or fs k false) others.1 ∙ filled-next (slots_filled c.loop-p.table.slots) c.loop-p.p
          (slots_len c.loop-p.table.slots) inv.3 k le (omega (arith, l, others.2))),
      (λ k l. ap (λ fs. get_or fs k false) others.1 ∙ emptied-next (slots_filled c.loop-p.table.slots) c.loop-p.p inv.4 k l),
      c.push.ensures.len ∙ ap (λ y. if y then vec_len c.loop-p.blocks + 1 else vec_len c.loop-p.blocks) done ∙ ap (λ n. n + 1) inv.5,
      omega (arith, inv.6, c.push.ensures.capacity),
    )
