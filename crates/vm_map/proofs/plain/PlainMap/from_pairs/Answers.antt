use Rattle.std.proofs.Common.{◌∙◌, ◌^◌}
use Rattle.vm_map.proofs.Entries.{insert_next}
use Rattle.vm_map.proofs.plain.PlainMap.from_pairs.Goals as goal

pub pairs-preserved : goal.pairs-preserved
pairs-preserved c = c.in_ok-insert.ensures.entries
    ∙ insert_next c.args.pairs.now c.pairs.entries.entries (2 ^ 64) c.pairs.pair-index c.pair.inside.key
    c.pair.inside.value c.pair-item.result c.requires c.pairs-test.true c.pairs.invariant c.pair.view_is
    c.pair-item.is
