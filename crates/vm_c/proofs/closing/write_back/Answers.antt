use Rattle.std.proofs.Common.{◌∙◌, ap, arith, length, List, ℕ}
use Rattle.vm_c.proofs.Images.{file-long}
use Rattle.vm_c.proofs.closing.write_back.Goals as goal

pub copy_from_slice-requires : goal.copy_from_slice-requires
copy_from_slice-requires c =
    let back = c.in_ok-bytes.ensures.back in
    let long = file-long c.in_ok-bytes.bytes.items c.args.blocks.now back.0 (back.1 ∙ c.in_ok-pages.ensures) in
    omega (arith, c.requires.size, long, ap (λ (l : List ℕ). length l) c.as_slice.ensures.value)
