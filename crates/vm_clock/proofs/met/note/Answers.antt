use Rattle.std.proofs.Common.{◌%◌, ◌/◌, ◌<◌, ◌∙◌, ap, arith, length}
use Rattle.vm_event.specs.Prelude.{at, has_free_bit}
use Rattle.vm_event.proofs.{At.at-get, At.at_set}
use Rattle.vm_event.proofs.Masks.{inserted-free}
use Rattle.vm_clock.proofs.met.note.Goals as goal

pub returns : goal.returns
returns c =
    let lt : c.args.p % 1024 / 64 < length c.args.met.now = omega (arith, c.told-met) in
    ap has_free_bit (at_set 0 c.args.met.now (c.args.p % 1024 / 64) _ lt)
    ∙ inserted-free (at 0 c.args.met.now) (c.args.p % 1024) _ (at-get 0 c.args.met.now (c.args.p % 1024 / 64))
