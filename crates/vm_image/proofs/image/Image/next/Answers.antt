use Rattle.std.proofs.Common.{◌≡◌, ◌-◌, true, false, arith, sym, ◌∙◌, ap}
use Rattle.vm_page.specs.Pages.{page_at}
use Rattle.vm_tree_model.specs.Fixed.{fixed}
use Rattle.vm_tree_model.specs.Walk.{is_free}
use Rattle.vm_image.proofs.NextPage.{used_before, free_before}
use Rattle.vm_image.proofs.image.Image.next.Goals as goal

pub returns-then-not-is_free : goal.returns-then-not-is_free
returns-then-not-is_free g c =
    let failed : is_free (fixed g.row.N) (page_at c.args.self.now (c.loop-next.next - 1)) ≡ false =
    ap (is_free (fixed g.row.N)) (sym c.page.ensures.page) ∙ sym c.is_free.ensures.free ∙ c.if-not-is_free.true in
    record {
      within = c.loop-next.invariant.0;
      free = c.loop-next.invariant.1;
      used = λ p is. used_before g.row.N c.args.self.now c.loop-next.next p failed is;
    }

pub loop-next-preserved : goal.loop-next-preserved
loop-next-preserved g c =
    let passed : is_free (fixed g.row.N) (page_at c.args.self.now (c.loop-next.next - 1)) ≡ true =
    ap (is_free (fixed g.row.N)) (sym c.page.ensures.page) ∙ sym c.is_free.ensures.free
    ∙ c.if-not-is_free.false in
    (omega (arith, c.loop-next.invariant.0), free_before g.row.N c.args.self.now c.loop-next.next passed c.loop-next.invariant.1)
