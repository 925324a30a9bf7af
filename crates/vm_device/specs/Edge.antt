-- What blocks and devices over the real files have counted.
use Rattle.std.specs.Prelude.{ℕ, ◌≡◌, ◌-◌, ◌^◌, [], min}
use Rattle.vm_block.specs.declared.stored.Stored.{Stored}
use Rattle.vm_device.specs.declared.file_block.FileBlock.{FileBlock}

-- what contracts see of a block over a file: its counts, and no words
abbrev pub file_stored : {n : ℕ} → FileBlock n → Stored
file_stored block = record {
  words = [];
  count = min block.faults (2 ^ 64 - 1);
  bound = 2 ^ 64 - 1;
  reads = block.reads;
  writes = block.writes;
}

-- a block over a file has counted nothing yet
pub record CountsNothing {n : ℕ} (block : FileBlock n) : Type 0 where
  pub count : (file_stored block).count ≡ 0
  pub reads : (file_stored block).reads ≡ 0
  pub writes : (file_stored block).writes ≡ 0
