-- What the command `replay` does: it plays an event list on one core and tells what each event saw.
use Rattle.std.specs.Prelude.{◌≡◌, Bool, None, Option}
use Rattle.vm_io.specs.Shown.{Shown}
use Rattle.vm_words.specs.declared.Replay.{Replay}
use Rattle.vm_replay.specs.Told.{PlayedFile}
use Rattle.vm_endings.specs.{Deliveries.Content, Files.HasFile}

-- the list was played, to its end where each event was legal, else up to the line of the first that was not
abbrev pub PlayedReplay : Bool → Replay → Option Shown → Content → Type 0
PlayedReplay is_legal replay shown content =
    HasFile shown replay.file.now (λ bytes. PlayedFile bytes content.text is_legal) × (content.file ≡ None)
