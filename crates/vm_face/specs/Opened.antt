-- Why a store was not opened.
use Rattle.std.specs.Prelude.{◌<◌, ◌⊎◌, List, ℕ}
use Rattle.vm_tree_model.specs.Fixed.{fixed}
use Rattle.vm_image.specs.{Faults.IsRefusedFile, File.pages_of_bytes}
use Rattle.vm_image.specs.declared.fault.ImageFault.TheVariants.{BadLength}
use Rattle.vm_check.specs.declared.fault.CheckFault.TheVariants.{BadPage}
use Rattle.vm_check.specs.Rows.{IsRefusedImage}
use Rattle.vm_face.specs.declared.image.Opening.{Opening}
use Rattle.vm_face.specs.declared.image.Opening.TheVariants as openings

-- each reason but want of memory is what it says
abbrev pub IsNotOpened : (n : ℕ) → List ℕ → (frames : ℕ) → Opening → Type 0
IsNotOpened n bytes frames (openings.Length len) = IsRefusedFile n bytes (BadLength len)
IsNotOpened n bytes frames openings.Frames = (frames < 64) ⊎ (65536 < frames)
IsNotOpened n bytes frames (openings.Page pid why) = IsRefusedImage (fixed n) (pages_of_bytes n bytes) (BadPage pid why)
IsNotOpened n bytes frames openings.Memory = Unit {0}
