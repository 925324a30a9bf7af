use Rattle.std.proofs.Common.{◌%◌, arith, w64, ⊎_elim}
use Rattle.std.proofs.lemmas.Bool.{cases_lt}
use Rattle.std.proofs.lemmas.Nat.Bits.{bit_at-trailing_zeros}
use Rattle.vm_guard.proofs.FreeBits.{mask-here, mask-parts}
use Rattle.vm_guard.proofs.free_pages.lowest_page.Goals as goal

pub returns-clause-among : goal.returns-clause-among
returns-clause-among c =
    let low = bit_at-trailing_zeros w64 c.args.mask (omega (arith, c.requires.some)) c.ranges.mask.fits in
    mask-here c.args.g c.args.mask _ low.0 low.1

pub returns-clause-lowest : goal.returns-clause-lowest
returns-clause-lowest c p e =
    let low = bit_at-trailing_zeros w64 c.args.mask (omega (arith, c.requires.some)) c.ranges.mask.fits in
    let parts = mask-parts c.args.g c.args.mask p e in
    ⊎_elim
    (λ below. absurd (let none = low.2 (p % 64) below in omega (arith, none, parts.1)))
    (λ above. omega (arith, above, parts.0))
    (cases_lt (p % 64) _)
