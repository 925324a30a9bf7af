use Rattle.std.proofs.Common.{length}
use Rattle.vm_script.proofs.event_words.+fields_of.Given as goal

abbrev pub decreases-fields_of : goal.decreases-fields_of
decreases-fields_of l = length l.kinds.now
