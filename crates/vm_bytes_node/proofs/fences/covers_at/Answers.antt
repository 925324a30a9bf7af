use Rattle.std.proofs.Common.{arith}
use Rattle.vm_node.proofs.Telling.{told_then, told_so}
use Rattle.vm_bytes_node.proofs.HeaderLemmas.{covers_below, covers_endless}
use Rattle.vm_bytes_node.proofs.fences.covers_at.Goals as goal

pub returns-in-Some-clause-told : goal.returns-in-Some-clause-told
returns-in-Some-clause-told g c =
    told_so (omega arith) (told_then g.met.P.Place.join c.low_at-low.ensures.told c.in-Some.ensures.told)
    (λ words size read. covers_below words _ _ read.0 (c.is_before.ensures.1 c.if-is_before.false) _ _ read.1 c.is_before-in-Some.ensures)

pub returns-in-None-clause-told : goal.returns-in-None-clause-told
returns-in-None-clause-told g c =
    told_so (omega arith) (told_then g.met.P.Place.join c.low_at-low.ensures.told c.in-None.ensures.told)
    (λ words size read. covers_endless words _ _ read.0 (c.is_before.ensures.1 c.if-is_before.false) read.1 c.in_range.ensures.rank)
