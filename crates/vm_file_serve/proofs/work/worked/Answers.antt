use Rattle.std.proofs.Common.{List, map, Result, subst, sym, ℕ}
use Rattle.std.proofs.lemmas.Result.{IfOk-weaker}
use Rattle.vm_map.specs.declared.call.Reply.{Reply}
use Rattle.vm_image.specs.File.{AreFreePages}
use Rattle.vm_reading.specs.from_vm_tree_rule.declared_fault_TreeFault.{TreeFault}
use Rattle.vm_reading.specs.from_vm_drive.Drives.{items_of}
use Rattle.vm_reading.proofs.from_vm_drive.Crews.{kept-contents, kept-replies}
use Rattle.vm_reading.specs.from_vm_serve.Served.{IsServedOn, MayBeServed}
use Rattle.vm_file_serve.proofs.work.worked.Goals as goal

pub returns-clause-served : goal.returns-clause-served
returns-clause-served g c =
    let is = c.requires.pages in
    let before = map g.B.Block.stored c.args.blocks.items in
    let may : MayBeServed 64 g.B.Block.tells c.args.image before c.next.result c.as_slice.result.now = record {
      tree = is.tree;
      count = sym is.pages_of.count;
      held = λ told. sym (is.pages_of.held told);
      next_page = c.next.ensures;
      free_pages = subst (λ (l : List ℕ). AreFreePages 64 c.args.image c.next.result l) (sym c.as_slice.ensures.value) c.in-Ok-free_pages.ensures;
    } in
    IfOk-weaker c.serve_on.result _ _ (λ s of. let into = of c.args.image may in
    subst (λ (told : List (List (Result Reply TreeFault))). IsServedOn 64 g.B.Block.tells c.args.image before
    (items_of c.args.lists.now) told s.report (map g.B.Block.stored s.blocks.items) s.ended) (sym (kept-replies _ _ into.stand)) into.served)
    c.serve_on.ensures.served

pub returns-clause-contents : goal.returns-clause-contents
returns-clause-contents g c =
    let is = c.requires.pages in
    let before = map g.B.Block.stored c.args.blocks.items in
    let may : MayBeServed 64 g.B.Block.tells c.args.image before c.next.result c.as_slice.result.now = record {
      tree = is.tree;
      count = sym is.pages_of.count;
      held = λ told. sym (is.pages_of.held told);
      next_page = c.next.ensures;
      free_pages = subst (λ (l : List ℕ). AreFreePages 64 c.args.image c.next.result l) (sym c.as_slice.ensures.value) c.in-Ok-free_pages.ensures;
    } in
    IfOk-weaker c.serve_on.result _ _ (λ s of. kept-contents _ _ (of c.args.image may).stand) c.serve_on.ensures.served
