use Rattle.std.proofs.Common.{◌++◌, ◌≡◌, drop, string_bytes}
use Rattle.vm_script.specs.Texts.{shown_text}
use Rattle.vm_script.proofs.text.shown.Given as goal

abbrev pub invariant-pairs : goal.invariant-pairs
invariant-pairs l = string_bytes l.text ++ shown_text (drop l.pair-index l.pairs) ≡ shown_text l.pairs
