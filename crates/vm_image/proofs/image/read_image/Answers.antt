use Rattle.std.proofs.Common.{◌/◌, ◌*◌, length, arith}
use Rattle.vm_image.proofs.FileSizes.{whole_pages}
use Rattle.vm_image.proofs.image.read_image.Goals as goal

pub returns-in-Err-clause-answer : goal.returns-in-Err-clause-answer
returns-in-Err-clause-answer g c = (
  length c.args.bytes.now / (8 * g.row.N),
  omega (arith, c.if-count-lt2.false),
  omega (arith, c.if-count-most_pages.false, c.most_pages.ensures),
  whole_pages g.row.N c.requires (length c.args.bytes.now) c.if-bytes-ne0.false,
)
