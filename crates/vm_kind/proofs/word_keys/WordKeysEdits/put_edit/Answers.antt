-- No place is left exactly where a further pair exceeds the capacity.
use Rattle.std.proofs.lemmas.Result.{IfErr-weaker, IfOk-weaker}
use Rattle.vm_kind.specs.WordRoom.{spare_full, spare_none}
use Rattle.vm_kind.proofs.word_keys.WordKeysEdits.put_edit.Goals as goal

pub returns-clause-room : goal.returns-clause-room
returns-clause-room g c = IfOk-weaker c.put_edit.result _ _ (λ r room. λ tight. room (record {
  count = spare_full g.row.N c.args.page.now tight.0;
  absent = tight.1;
})) c.put_edit.ensures.room

pub returns-clause-refused : goal.returns-clause-refused
returns-clause-refused g c = IfErr-weaker c.put_edit.result _ _ (λ r refused. record {
  room = spare_none g.row.N c.args.page.now refused.count;
  absent = refused.absent;
}) c.put_edit.ensures.refused
