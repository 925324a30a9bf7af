-- Why bytes are refused as a page file.
use Rattle.std.specs.Prelude.{◌≡◌, ℕ, List, length}
use Rattle.vm_image.specs.File.{IsPageFile}
use Rattle.vm_image.specs.declared.fault.ImageFault.{ImageFault}
use Rattle.vm_image.specs.declared.fault.ImageFault.TheVariants.{BadLength, Memory}

-- the bytes are no file of pages of n words, and so many; or they are one, and memory is wanting
abbrev pub IsRefusedFile : ℕ → List ℕ → ImageFault → Type 0
IsRefusedFile n bytes (BadLength len) = (len ≡ length bytes) × ¬ (IsPageFile n bytes)
IsRefusedFile n bytes Memory = IsPageFile n bytes
