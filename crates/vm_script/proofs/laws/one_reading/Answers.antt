use Rattle.vm_script.specs.{Orders.TellsCalls, Scripts.word_grammar}
use Rattle.vm_script.proofs.laws.one_reading.Goals as goal
use Rattle.vm_script.proofs.Orders.{lacks_call, one_call}
use Rattle.vm_script.proofs.Readings.{not_both, one_bad_line, one_list, one_script}

pub returns : goal.returns
returns c = let tells : TellsCalls word_grammar = record { one_line = lacks_call; one_call = one_call } in record {
  one_list = one_list word_grammar tells;
  one_script = one_script word_grammar tells;
  one_bad_line = one_bad_line word_grammar tells;
  not_both = not_both word_grammar tells;
}
