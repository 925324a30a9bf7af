use Rattle.std.proofs.Common.{◌≡◌, length}
use Rattle.vm_build.specs.Numbers.{number_at, numbered as numbered_of}
use Rattle.vm_build.proofs.seed.numbered.Given as goal

abbrev pub invariant-loop-place : goal.invariant-loop-place
invariant-loop-place l = (l.pairs.items ≡ numbered_of l.seed l.place) × (l.numbers ≡ number_at l.seed l.place)
    × (length l.pairs.items ≡ l.place)
