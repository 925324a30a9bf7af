-- What workers on a tree with byte keys are asked.
use Rattle.std.specs.List.{AllByRecursion}
use Rattle.std.specs.Prelude.{List}
use Rattle.vm_bytes_laws.specs.declared.call.KeyCall.{KeyCall}
use Rattle.vm_bytes_calls.specs.KeyCalls.{IsKeyAskable}

-- each window is asked for at least one pair
abbrev pub AreKeyAskable : List (List KeyCall) → Type 0
AreKeyAskable lists = AllByRecursion (λ calls. AllByRecursion IsKeyAskable calls) lists

-- a worker needs no memory beside that of its answers
abbrev pub NeedsNone : {M : Type 0} → List KeyCall → M → Type 0
NeedsNone calls memory = Unit {0}
