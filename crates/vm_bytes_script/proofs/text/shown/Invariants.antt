use Rattle.std.proofs.Common.{◌++◌, ◌≡◌, drop, string_bytes}
use Rattle.vm_bytes_script.specs.KeyReplies.{key_shown_text}
use Rattle.vm_bytes_script.proofs.text.shown.Given as goal

abbrev pub invariant-pairs : goal.invariant-pairs
invariant-pairs l = string_bytes l.text ++ key_shown_text (drop l.pair-index l.pairs) ≡ key_shown_text l.pairs
