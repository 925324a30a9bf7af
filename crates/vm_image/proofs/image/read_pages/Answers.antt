use Rattle.std.proofs.Common.{rules, arith, ap, sym, ℕ, ◌≡◌, ◌+◌, ◌-◌, ◌*◌, length, take, drop, take_all, ◌∙◌}
use Rattle.vm_page.specs.Bytes.{words_of_bytes}
use Rattle.vm_image.specs.File.{pages_in}
use Rattle.vm_image.proofs.FileSizes.{pages_whole}
use Rattle.vm_image.proofs.FilePages.{read_more, read_back, have_more}
use Rattle.vm_image.proofs.image.read_pages.Goals as goal

pub loop-p-preserved : goal.loop-p-preserved
loop-p-preserved g c =
    let n : ℕ = g.row.N in
    let p : ℕ = c.loop-p.p in
    let long : 8 * n * p + 8 * n - 8 * n * p ≡ 8 * n = omega arith in
    let page : take (8 * n * p + 8 * n - 8 * n * p) (drop (8 * n * p) c.args.bytes.now) ≡ take (8 * n)
    (drop (8 * n * p) c.args.bytes.now) = ap (λ (size : ℕ). take size (drop (8 * n * p) c.args.bytes.now)) long in
    rw c.in_ok-push.ensures.items (
      read_more n c.loop-p.pages.items c.args.bytes.now p c.of_slice.result c.loop-p.invariant.0
          (c.of_slice.ensures.words ∙ ap words_of_bytes page),
      read_back n c.loop-p.pages.items c.args.bytes.now p c.of_slice.result c.loop-p.invariant.1 (c.of_slice.ensures.back ∙ page),
      search (rules, c.loop-p.invariant.2),
      have_more n c.loop-p.pages.items c.of_slice.result c.loop-p.invariant.3 c.of_slice.ensures.length,
    )

pub returns-clause-pages : goal.returns-clause-pages
returns-clause-pages g c =
    let end : c.loop-p.p ≡ c.args.count = omega arith in
    let all = pages_whole g.row.N c.requires.sized (length c.args.bytes.now) c.args.count c.requires.size in
    c.loop-p.invariant.0 ∙ ap (pages_in g.row.N c.args.bytes.now) (end ∙ sym all.1)

pub returns-clause-back : goal.returns-clause-back
returns-clause-back g c =
    let end : c.loop-p.p ≡ c.args.count = omega arith in
    c.loop-p.invariant.1 ∙ rw end (take_all (8 * g.row.N * c.args.count) c.args.bytes.now (omega (arith, c.requires.size)))
