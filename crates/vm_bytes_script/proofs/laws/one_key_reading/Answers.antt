use Rattle.vm_script.proofs.Readings.{not_both, one_bad_line, one_list, one_script}
use Rattle.vm_bytes_script.specs.KeyScripts.{key_grammar}
use Rattle.vm_bytes_script.proofs.laws.one_key_reading.Goals as goal
use Rattle.vm_bytes_script.proofs.KeyLines.{tells}

pub returns : goal.returns
returns c = record {
  one_list = one_list key_grammar tells;
  one_script = one_script key_grammar tells;
  one_bad_line = one_bad_line key_grammar tells;
  not_both = not_both key_grammar tells;
}
