-- What vectors of pages out and of files hold, as plain data, and where the first of some kind stands.
use Rattle.std.specs.Prelude.{ℕ, ◌<◌, ◌≡◌, List, [], length, map, None, Bool, true, false, slice_index_or, string_bytes}
use Rattle.vm_device.specs.Devices.{DeviceState, OutPage, StoredFile}
use Rattle.vm_device.specs.declared.outs.OutBlock.{OutBlock}
use Rattle.vm_device.specs.declared.ledger.Ledger.{Ledger}

-- the first that passes stands there
pub record StandsFirst {X : Type 0} (test : X → Bool) (items : List X) (i : ℕ) : Type 0 where
  pub within : i < length items
  pub here : (d : X) → test (slice_index_or items i d) ≡ true
  pub first : (k : ℕ) (d : X) → k < i → test (slice_index_or items k d) ≡ false

abbrev pub out_page : OutBlock → OutPage
out_page block = record { name = string_bytes block.name; page = block.page; count = block.count }

abbrev pub outs_in : List OutBlock → List OutPage
outs_in blocks = map out_page blocks

-- what contracts see of devices with these files
abbrev pub state_with : Ledger → List StoredFile → DeviceState
state_with ledger files = record {
  answered = ledger.answered;
  outs = outs_in ledger.outs.blocks.items;
  count = ledger.faults;
  files = files;
}

-- nothing was answered or counted, and no block is out
pub record IsUntouched (state : DeviceState) : Type 0 where
  pub answered : state.answered ≡ None
  pub outs : state.outs ≡ []
  pub count : state.count ≡ 0
