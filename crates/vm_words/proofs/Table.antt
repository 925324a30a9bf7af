-- The table of forms, gone through row by row.
use Rattle.std.proofs.Common.{◌≡◌, ◌<◌, ◌+◌, ℕ, zero, suc, false, refl, ap, arith, List, [], ◌∷◌, length, drop, find, get_or}
use Rattle.std.specs.Str.{bytes_eq}
use Rattle.clap.specs.Words.{App, Text, with_subcommand}
use Rattle.vm_words.specs.declared.form.FormVerb.{FormVerb}
use Rattle.vm_words.specs.Apps.{app_in, with_verbs}
use Rattle.vm_words.specs.Forms.{title}

-- the command of the next row is added
pub next_command : (app new : App) (xs : List FormVerb) (i : ℕ) (d : FormVerb) → i < length xs
    → new ≡ with_subcommand app (app_in (get_or xs i d)).top → with_verbs new (drop (i + 1) xs) ≡ with_verbs app
    (drop i xs)
next_command app new [] i d h e = absurd (omega arith)
next_command app new (x ∷ xs) zero d h e = ap (λ (a : App). with_verbs a xs) e
next_command app new (x ∷ xs) (suc i) d h e =
    let same : suc i + 1 ≡ suc (i + 1) = omega arith in rw same (next_command app new xs i d (omega arith) e)

-- a word that is not the name of this row's command is looked for in the rows behind it
pub next_verb : (word : Text) (xs : List FormVerb) (i : ℕ) (d : FormVerb) → i < length xs → bytes_eq (title (get_or xs i d)) word ≡ false
    → find (λ verb. bytes_eq (title verb) word) (drop (i + 1) xs) ≡ find (λ verb. bytes_eq (title verb) word) (drop i xs)
next_verb word [] i d h e = absurd (omega arith)
next_verb word (x ∷ xs) zero d h e = rw e refl
next_verb word (x ∷ xs) (suc i) d h e = let same : suc i + 1 ≡ suc (i + 1) = omega arith in rw same (next_verb word xs i d (omega arith) e)
