use Rattle.std.proofs.Common.{rules, ap, subst, sym}
use Rattle.atomic_table.specs.declared.owned.Table.{Table}
use Rattle.vm_handover.proofs.Steps.{lays}
use Rattle.vm_handover.proofs.ends.Giver.give.Goals as goal

pub store-requires : goal.store-requires
store-requires g c = let same = ap (λ (t : Table _ _ _ _ _). t.shared.key) (sym c.deref-2.ensures) in (
  search rules,
  search rules,
  lays g.T.Handed.keeps _ _ _ c.args.self.seat.me _ c.args.value (search rules) (search rules)
      c.args.self.seated.2 c.exchange-empty.ensures.3 (subst (λ x. g.T.Handed.keeps x c.args.value) same c.requires),
)
