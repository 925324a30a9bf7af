use Rattle.vm_script.proofs.EventReadings.{not_both, one_bad_line, one_list}
use Rattle.vm_script.proofs.laws.one_event_reading.Goals as goal

pub returns : goal.returns
returns c = record { one_list = one_list; one_bad_line = one_bad_line; not_both = not_both }
