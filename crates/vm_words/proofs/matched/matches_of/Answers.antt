use Rattle.std.proofs.Common.{◌≡◌}
use Rattle.vm_words.specs.declared.WordsFault.TheVariants.{Refused}
use Rattle.vm_words.proofs.Faultless.{entered_is, taken, untaken}
use Rattle.vm_words.proofs.matched.matches_of.Goals as goal

pub returns-in-Ok-clause-taken : goal.returns-in-Ok-clause-taken
returns-in-Ok-clause-taken c = taken _ _ c.requires c.in-Ok.ensures.kinds

pub returns-in-Ok-clause-entered : goal.returns-in-Ok-clause-entered
returns-in-Ok-clause-entered c = entered_is _ _ _ c.requires (λ simple. (c.in-Ok.ensures.matches simple).1)

pub returns-in-Err-clause-refused : goal.returns-in-Err-clause-refused
returns-in-Err-clause-refused c = λ e.
    let refused : c.fault_of.result ≡ Refused = cc in
    untaken _ _ _ c.requires c.in-Err.ensures.passes (c.fault_of.ensures.refused.0 refused)
