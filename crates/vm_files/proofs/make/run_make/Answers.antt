use Rattle.vm_reading.specs.from_vm_endings.Outside.{nothing_left, nowhere}
use Rattle.vm_files.proofs.Making.{make_reads_none}
use Rattle.vm_files.proofs.make.run_make.Goals as goal

pub returns-in-Err-clause-cause : goal.returns-in-Err-clause-cause
returns-in-Err-clause-cause c = λ takes two. absurd (make_reads_none c.args.make.now c.in-Err.stop (c.in-Err.ensures nowhere nothing_left) two)
