use Rattle.std.proofs.Common.{[], ◌++◌, ◌∙◌, ◌∷◌, ◌≡◌, ap, arith, sym}
use Rattle.vm_page.specs.Pages.{page_at}
use Rattle.vm_tree_model.specs.{Fixed.fixed, Walk.is_free}
use Rattle.vm_image.proofs.FreePages.{free_below, free_more, free_passed, none_free}
use Rattle.vm_image.proofs.image.Image.free_pages.Goals as goal
use Rattle.vm_image.proofs.image.Image.free_pages.Goals.{then-is_free+in_ok-push, else-is_free}

pub loop-p-init : goal.loop-p-init
loop-p-init g c = record { so_far = rw c.new-free.ensures.items (none_free g.row.N c.args.self.now); none = λ few. omega arith }

pub loop-p-preserved : goal.loop-p-preserved
loop-p-preserved g c =
    let n = g.row.N in
    let test : is_free (fixed n) (page_at c.args.self.now c.loop-p.p) ≡ c.is_free.result =
    ap (is_free (fixed n)) (sym c.page.ensures.page) ∙ sym c.is_free.ensures.free in
    record {
      so_far = elim c.if-is_free.branch [
        | then-is_free+in_ok-push w ↦
            let more : c.if-is_free.free.items ≡ c.loop-p.free.items ++ c.loop-p.p ∷ [] = ap (λ v. v.items) w.free-is
            ∙ w.in_ok-push.ensures.items in
            rw more (free_more n c.args.self.now c.loop-p.p c.loop-p.free.items c.loop-p.invariant.so_far
            c.loop-p.auto.p (test ∙ w.if-is_free.true))
        | else-is_free w ↦ rw w.free-is
            (free_passed n c.args.self.now c.loop-p.p c.loop-p.free.items c.loop-p.invariant.so_far
            (test ∙ w.if-is_free.false))
      ];
      none = λ few. omega arith;
    }

pub returns : goal.returns
returns g c = free_below g.row.N c.args.self.now c.args.next c.loop-p.p c.loop-p.free.items c.loop-p-test.false
    c.loop-p.auto.p-end c.loop-p.invariant.none c.loop-p.invariant.so_far
