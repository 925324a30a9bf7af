use Rattle.vm_rule.proofs.Prelude.{map, started_shape}
use Rattle.vm_rule.proofs.words.Words.started.Given as goal

abbrev pub ghost-shape_of : goal.ghost-shape_of
ghost-shape_of g a = (started_shape a.size g.B.Block.tells a.version a.next a._free.now a._groups.now a.frames (map g.B.Block.stored a.blocks.now)).began
