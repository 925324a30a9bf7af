use Rattle.std.proofs.Common.{ap, length, sym, ◌∙◌}
use Rattle.vm_bytes_file.proofs.KeyNodeTests.{few_pairs}
use Rattle.vm_bytes_file.proofs.nodes.KeyNodesNodes512.key_at.Goals as goal

pub key_at-requires-clause-inside : goal.key_at-requires-clause-inside
key_at-requires-clause-inside c =
    few_pairs c.args.page.now c.args.i (ap length (sym c.in_buffer.ensures.same) ∙ c.in_buffer.ensures.size) c.requires.there
