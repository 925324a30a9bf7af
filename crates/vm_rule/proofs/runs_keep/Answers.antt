use Rattle.vm_rule.proofs.{Prelude.begin, Runs.run_law, Starts.start_law}
use Rattle.vm_rule.proofs.runs_keep.Goals as goal

pub returns : goal.returns
returns c s events ok legal = run_law (begin s) events (start_law s ok) legal
