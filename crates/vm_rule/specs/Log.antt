-- The steps of a pass, as its log has them.
use Rattle.std.specs.Prelude.{◌==◌, if◌then◌else◌, None, Some, ℕ}
use Rattle.vm_rule.specs.{declared.view.Did.Did, declared.view.WordPlace.WordPlace}

abbrev pub did_load : WordPlace → ℕ → Did
did_load at found = record { at = at; expects = None; found = Some found; wrote = None }

abbrev pub did_store : WordPlace → ℕ → Did
did_store at wrote = record { at = at; expects = None; found = None; wrote = Some wrote }

-- an exchange that was lost leaves no word
abbrev pub did_exchange : WordPlace → ℕ → ℕ → ℕ → Did
did_exchange at expects found new =
    record { at = at; expects = Some expects; found = Some found; wrote = if found == expects then Some new else None }

-- a word was changed, whatever it was
abbrev pub did_change : WordPlace → ℕ → ℕ → Did
did_change at found new = record { at = at; expects = None; found = Some found; wrote = Some new }
