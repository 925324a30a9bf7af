use Rattle.std.specs.Int.{bit_at}
use Rattle.std.proofs.Common.{◌%◌, ◌/◌, ◌∙◌, ap, eqb, sym}
use Rattle.std.proofs.lemmas.Nat.Bits.{shr_and_one}
use Rattle.vm_event.specs.Prelude.{has_free_bit}
use Rattle.vm_event.proofs.At.{at-get}
use Rattle.vm_clock.proofs.met.may_hold.Goals as goal

pub returns : goal.returns
unfolding has_free_bit
returns c =
    ap (λ y. eqb y 1) (shr_and_one _ _) ∙ ap (λ y. eqb (bit_at y (c.args.p % 1024 % 64)) 1)
    (sym (at-get 0 c.args.met.now (c.args.p % 1024 / 64)))
