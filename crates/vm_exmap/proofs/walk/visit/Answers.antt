-- The lowest bits of a word that is not 0 are some; taken or lost, the load and the exchange are the visit.
use Rattle.vm_exmap.proofs.{BundleBits.some-lowest, BundleBits.some-taken, Prelude.refl}
use Rattle.vm_exmap.proofs.Walking.{bundle-inside, empty-visit, lost-visit, taken-visit}
use Rattle.vm_exmap.proofs.walk.visit.Goals as goal

pub take-requires-clause-legal : goal.take-requires-clause-legal
take-requires-clause-legal g c = record {
  some = some-lowest c.bload-word.result c.args.most c.lowest-mask.result c.bload-word.type_inv c.if-word-eq0.false
      c.requires.some c.lowest-mask.ensures;
  among = c.lowest-mask.ensures.among;
}

pub returns-in-Taken-clause-visited : goal.returns-in-Taken-clause-visited
returns-in-Taken-clause-visited g c = taken-visit c.args.g c.bload-word.result _ _ c.bload-word.ensures.told
    (bundle-inside c.args.g _ _ c.requires.bundle c.requires.ready.table.is_shape.frames) c.args.most
    c.lowest-mask.result c.if-word-eq0.false c.lowest-mask.ensures _ c.in-Taken.ensures.told
    (some-taken c.bload-word.result c.args.most c.lowest-mask.result c.args.g c.bload-word.type_inv
    c.if-word-eq0.false c.requires.some c.lowest-mask.ensures)

pub returns-in-Lost-clause-visited : goal.returns-in-Lost-clause-visited
returns-in-Lost-clause-visited g c =
    lost-visit c.args.g c.bload-word.result _ _ c.bload-word.ensures.told
    (bundle-inside c.args.g _ _ c.requires.bundle c.requires.ready.table.is_shape.frames) c.args.most
    c.lowest-mask.result c.if-word-eq0.false c.lowest-mask.ensures _ c.in-Lost.seen c.in-Lost.ensures.told
    (c.in-Lost.ensures.lost c.in-Lost.seen refl)

pub returns-then-word-eq0-clause-visited : goal.returns-then-word-eq0-clause-visited
returns-then-word-eq0-clause-visited g c = empty-visit c.args.g c.bload-word.result _ _ c.bload-word.ensures.told
    (bundle-inside c.args.g _ _ c.requires.bundle c.requires.ready.table.is_shape.frames) c.if-word-eq0.true
