-- What the parts of make and migrate answer: the tests of the numbers, and the building of the page file.
use Rattle.std.specs.Prelude.{◌≡◌, ◌<◌, ◌≤◌, length, Result, Ok, Err}
use Rattle.vm_map.specs.Map.{Pairs}
use Rattle.vm_build.specs.Build.{needed}
use Rattle.vm_reading.specs.from_vm_endings.declared_delivery_Delivery.{Delivery}
use Rattle.vm_reading.specs.from_vm_endings.declared_stop_Stop.{Stop}
use Rattle.vm_reading.specs.from_vm_endings.declared_stop_Stop_TheVariants.{TooFew}
use Rattle.vm_reading.specs.from_vm_endings.declared_undone_Undone.{Undone}
use Rattle.vm_reading.specs.from_vm_endings.declared_undone_Undone_TheVariants.{Stopped, Memory}
use Rattle.vm_reading.specs.from_vm_endings.Deliveries.{content_of}
use Rattle.vm_reading.specs.from_vm_endings.Limits.{words_or}
use Rattle.vm_reading.specs.from_vm_endings.Migrates.{IsMigrated}
use Rattle.vm_reading.specs.from_vm_endings.Outside.{nowhere, Outside, Remains}
use Rattle.vm_words.specs.declared.Make.{Make}
use Rattle.vm_words.specs.declared.Migrate.{Migrate}
use Rattle.vm_words.specs.declared.Command.TheVariants as commands
use Rattle.vm_files.specs.declared.make.MakeSizes.{MakeSizes}
use Rattle.vm_reading.specs.from_vm_endings.Commands.{order_of}
use Rattle.vm_reading.specs.from_vm_endings.Tests.{AllPass, StopsAt}

-- what the tests of a make answer: its numbers, or the first test that fails. None of them is of a file
abbrev pub TellsSizes : Make → Result MakeSizes Stop → Type 0
TellsSizes make (Ok sizes) = (sizes.words ≡ words_or make.words) × (sizes.pages ≡ make.pages)
    × (sizes.pairs ≡ make.pairs) × AllPass nowhere (order_of (commands.Make make))
TellsSizes make (Err stop) = (outside : Outside) (left : Remains) → StopsAt outside left (order_of (commands.Make make)) stop

-- what building a page file of these pairs gives: the file and its text, or that the pages are too few
abbrev pub TellsMigrated : Migrate → Pairs → Result Delivery (Undone Stop) → Type 0
TellsMigrated migrate pairs (Ok delivery) = (needed 512 (length pairs) ≤ migrate.pages) × IsMigrated migrate
    (content_of delivery) pairs × (delivery.status ≡ 0)
TellsMigrated migrate pairs (Err Memory) = Unit {0}
TellsMigrated migrate pairs (Err (Stopped (TooFew told wanted))) =
    (told ≡ migrate.pages) × (migrate.pages < needed 512 (length pairs)) × (wanted ≡ needed 512 (length pairs))
TellsMigrated migrate pairs (Err (Stopped _)) = ⊥
