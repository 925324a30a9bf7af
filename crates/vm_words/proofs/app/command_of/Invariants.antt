use Rattle.std.proofs.Common.{◌≡◌, drop}
use Rattle.clap.specs.Words.{app_of}
use Rattle.vm_words.specs.Apps.{IsLocal, app_in, with_slots}
use Rattle.vm_words.proofs.app.command_of.Given as goal

abbrev pub invariant-slots : goal.invariant-slots
invariant-slots l = record {
  app : with_slots (app_of l.command) (drop l.slot-index l.slot-items) ≡ app_in l.fn.verb;
  local : IsLocal l.command;
}
