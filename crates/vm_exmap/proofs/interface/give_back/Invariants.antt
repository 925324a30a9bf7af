use Rattle.vm_exmap.proofs.Prelude.{view}
use Rattle.vm_supply.specs.from_vm_step.Prelude.{GoesOn}
use Rattle.vm_exmap.proofs.Returning.{AreGivenBelow}
use Rattle.vm_exmap.proofs.interface.give_back.Given as goal

-- the frames of the first g bundles went back
abbrev pub invariant-loop-g : goal.invariant-loop-g
invariant-loop-g g l = record {
  goes : GoesOn l.words g.B.Block.tells l.fn.pass l.pass;
  given : AreGivenBelow l.frames l.g (view l.fn.pass) (view l.pass);
}
