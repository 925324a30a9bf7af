-- The first pass meets the premises of what `bring` promises.
use Rattle.vm_pool_callers.proofs.{FirstPage.first-sure, FirstPage.has-asked}
use Rattle.vm_pool.proofs.{FirstPass.first-of}
use Rattle.vm_pool_callers.proofs.Prelude.{ap, AreHeld, arith, length, length-mapped, List, map, rules, Stored, subst}
use Rattle.vm_pool_callers.proofs.Prelude.{sym, TableShape, view, ℕ, ◌<◌, ◌∙◌, ◌≡◌}
use Rattle.vm_pool_callers.proofs.first_page.open_page.Goals as goal

pub bring-answer-requires : goal.bring-answer-requires
bring-answer-requires g c =
    let blocks : List Stored = map g.B.Block.stored c.args.blocks.items in
    let mapped : length blocks ≡ length c.args.blocks.items = length-mapped g.B.Block.stored c.args.blocks.items in
    let made = c.in_ok-pool.ensures in
    let page = subst (λ (s : TableShape). c.args.pid < s.pages) (sym made.key)
    (subst (λ (n : ℕ). c.args.pid < n) (c.requires.pages ∙ sym mapped) c.requires.page) in (
      search rules,
      (
        record {
          may = (made.pass, subst (λ x. 0 < length x.used) (sym made.view) (omega arith));
          table = first-of _ _ _ _ _ _ blocks _ made.view _ made.key;
        },
        (
          ap (λ x. x.out) made.view,
          (
            subst (λ (l : List ℕ). AreHeld l (view c.in_ok-pool.pass)) (sym c.new-iface.ensures.2) record {
              apart = tt;
              inside = tt;
              held = tt;
            },
            page,
          ),
        ),
      ),
    )

pub returns-clause-answer : goal.returns-clause-answer
returns-clause-answer g c =
    first-sure _ _ _ _ _ (map g.B.Block.stored c.args.blocks.items) _ c.in_ok-pool.ensures.view _
    (length-mapped g.B.Block.stored c.args.blocks.items) c.requires.fits
    c.args.pid (subst (λ (n : ℕ). c.args.pid < n) c.requires.pages c.requires.page) c.requires.below _
    (view c.bring-answer.new.pass) c.bring-answer.result c.bring-answer.ensures.sure

pub returns-clause-asked : goal.returns-clause-asked
returns-clause-asked g c =
    has-asked _ _ _ _ _ (map g.B.Block.stored c.args.blocks.items) _ c.in_ok-pool.ensures.view _
    (length-mapped g.B.Block.stored c.args.blocks.items) c.requires.fits
    c.args.pid _ _ _ (view c.bring-answer.new.pass) c.bring-answer.result c.new-iface.ensures.1 c.new-iface.ensures.2
    c.bring-answer.ensures.keeps c.bring-answer.ensures.table
