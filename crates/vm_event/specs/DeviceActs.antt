-- The events of a page's device: when each may happen, and the page afterwards.
use Rattle.std.specs.Prelude.{◌≡◌, ◌⊎◌, IsSome, List, None, Option, Some, true, ℕ}
use Rattle.vm_event.specs.{declared.event.Mapping.Mapping, State.Page, Words.count_more}

-- the actor may call the page's device: it holds the page exclusively, or has it under write-back
abbrev pub MayCall : Page → ℕ → Type 0
MayCall r a = ((r.seats a).exclusive ≡ true) ⊎ ((r.seats a).writing ≡ true)

pub record MayWrite (r : Page) (a : ℕ) : Type 0 where
  pub call : MayCall r a
  pub resident : IsSome r.trans

-- the block's words after a write: those of the frame that the page stands in
abbrev pub block_after : (ℕ → List ℕ) → Option Mapping → List ℕ → List ℕ
block_after words None block = block
block_after words (Some m) block = words m.frame

-- the block's words become those of the page's frame
abbrev pub written : (ℕ → List ℕ) → Page → Page
written words r = record r { block = block_after words r.trans r.block }

-- a call of the device that failed
abbrev pub failed : Page → Page
failed r = record r { count = count_more r.count }

abbrev pub raised : Page → Page
raised r = record r { fault = r.count }
