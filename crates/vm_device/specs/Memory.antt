-- What devices in memory hold, and which of their calls fail.
use Rattle.std.specs.Prelude.{ℕ, ◌+◌, ◌-◌, ◌*◌, ◌/◌, ◌^◌, ◌≡◌, All, List, [], ◌∷◌, length, map, zero, suc}
use Rattle.std.specs.Prelude.{min, Bool, string_bytes, nat_eq, ◌==◌}
use Rattle.std.proofs.Common.{arith}
use Rattle.std.specs.List.{filter, list_any}
use Rattle.vm_page.specs.Counts.{count_more}
use Rattle.vm_block.specs.Memory.{stored_of, IsNewBlock}
use Rattle.vm_block.specs.declared.stored.Stored.{Stored}
use Rattle.vm_device.specs.Devices.{DeviceState, StoredFile}
use Rattle.vm_device.specs.Held.{state_with}
use Rattle.vm_device.specs.declared.memory.BlockFault.{BlockFault}
use Rattle.vm_device.specs.declared.memory.MemDevices.{MemDevices}
use Rattle.vm_device.specs.declared.memory.PagesFile.{PagesFile}
use Rattle.vm_device.specs.declared.page.MemPage.{MemPage}

-- what contracts see of a block in memory that has syncs: failed syncs are counted with failed reads and writes
abbrev pub page_stored : {n : ℕ} → MemPage n → Stored
page_stored page = record (stored_of page.block) {
  count = min ((stored_of page.block).count + page.failed) (2 ^ 64 - 1);
  bound = 2 ^ 64 - 1;
}

-- whether the next sync is to fail
abbrev pub fails_sync : {n : ℕ} → MemPage n → Bool
fails_sync page = list_any (λ number. nat_eq number (count_more page.syncs)) page.plan.items

-- a block with these words, which fails the calls and the syncs of these plans, and has counted nothing
pub record IsNewPage {n : ℕ} (page : MemPage n) (words calls plan : List ℕ) : Type 0 where
  pub block : IsNewBlock page.block words calls
  pub planned : page.plan.items ≡ plan
  pub syncs : page.syncs ≡ 0
  pub failed : page.failed ≡ 0

-- a file in memory as plain data
abbrev pub stored_file : {n : ℕ} → PagesFile n → StoredFile
stored_file file = record { name = string_bytes file.name; size = file.size; pages = file.pages.items }

abbrev pub files_in : {n : ℕ} → List (PagesFile n) → List StoredFile
files_in files = map stored_file files

-- what contracts see of devices in memory
abbrev pub device_state : {n : ℕ} → MemDevices n → DeviceState
device_state devices = state_with devices.ledger (files_in devices.files.items)

-- the number of the next call, and whether it is to fail
abbrev pub next_call_number : {n : ℕ} → MemDevices n → ℕ
next_call_number devices = count_more devices.calls

abbrev pub is_planned_call : {n : ℕ} → MemDevices n → Bool
is_planned_call devices = list_any (λ number. nat_eq number (next_call_number devices)) devices.plan.items

-- one more call was made, and the plans are the same
pub record IsAfterCall {n : ℕ} (old new : MemDevices n) : Type 0 where
  pub calls : new.calls ≡ next_call_number old
  pub plan : new.plan.items ≡ old.plan.items
  pub block_calls : new.block_calls.items ≡ old.block_calls.items
  pub block_syncs : new.block_syncs.items ≡ old.block_syncs.items

-- the numbers of a page's entries in a plan, in the plan's order
abbrev pub numbers_at : List BlockFault → ℕ → List ℕ
numbers_at plan page = map (λ fault. fault.number) (filter (λ fault. fault.page == page) plan)

-- a file has as many pages as are whole in its bytes
pub all_whole : (n : ℕ) (files : List (PagesFile n)) → All (λ (file : StoredFile). length file.pages ≡ file.size / (8 * n)) (files_in files)
all_whole n [] k d low = absurd (omega (arith, low))
all_whole n (file ∷ files) zero d low = file.whole
all_whole n (file ∷ files) (suc k) d low = all_whole n files k d (omega (arith, low))
