-- What the command `run` does on a page file of any kind, which the end that is kept tells: words as keys, or byte
-- keys.
use Rattle.std.specs.Prelude.{Option}
use Rattle.vm_io.specs.Shown.{Shown}
use Rattle.vm_words.specs.declared.Run.{Run}
use Rattle.vm_endings.specs.{declared.ends.Ends.Ends, Deliveries.Content, Ends.OfAnyEnd}
use Rattle.vm_endings.specs.KeyRuns.{IsFlushedKeyRun, IsUnflushedKeyRun, OfKeyFiles}
use Rattle.vm_endings.specs.Runs.{IsFlushedRun, IsUnflushedRun, OfFiles}

-- the headline: what status 0 says of a run, whose one history is kept in `after`
abbrev pub ToldRun : Run → Option Shown → Content → Ends → Type 0
ToldRun run shown content after = OfAnyEnd after (λ n end. OfFiles n shown run (IsFlushedRun n run end content))
    (λ U end. OfKeyFiles shown run (IsFlushedKeyRun run end content))

-- a run that was not flushed whole
abbrev pub CutRun : Run → Option Shown → Content → Ends → Type 0
CutRun run shown content after = OfAnyEnd after (λ n end. OfFiles n shown run (IsUnflushedRun n run end content))
    (λ U end. OfKeyFiles shown run (IsUnflushedKeyRun run end content))
