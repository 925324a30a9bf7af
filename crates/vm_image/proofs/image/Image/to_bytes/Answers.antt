use Rattle.std.proofs.Common.{rules, ◌≡◌, ◌*◌, ◌<◌, length, arith, ap, ◌∙◌, length-append}
use Rattle.vm_page.specs.Bytes.{bytes_of_words}
use Rattle.vm_image.proofs.FilePages.{next_at, write_more, write_back}
use Rattle.vm_image.proofs.image.Image.to_bytes.Goals as goal

pub loop-p-preserved : goal.loop-p-preserved
loop-p-preserved g c =
    let below : c.loop-p.p < length c.args.self.now = search rules in
    let size : length c.put_bytes.new.out ≡ 8 * g.row.N = search rules in
    rw c.in_ok-extend_from_slice.ensures.items (
      write_more c.loop-p.bytes.items c.args.self.now c.loop-p.p c.put_bytes.new.out c.loop-p.invariant.0 below
          (c.put_bytes.ensures.bytes ∙ ap bytes_of_words c.page.ensures.page),
      omega (arith, length-append c.loop-p.bytes.items c.put_bytes.new.out, next_at (8 * g.row.N) c.loop-p.p, size, c.loop-p.invariant.1),
      size,
      write_back g.row.N c.loop-p.bytes.items c.args.self.now c.loop-p.p c.put_bytes.new.out c.loop-p.invariant.3
          c.loop-p.invariant.1 size below (c.put_bytes.ensures.back ∙ c.page.ensures.page),
    )
