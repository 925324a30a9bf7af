-- The second call and the read meet the premises of what is promised a pass that is alone, by what the call before them told.
use Rattle.vm_pool_callers.proofs.Prelude.{length, rules, sym, TableShape, ◌∙◌, ◌≡◌}
use Rattle.vm_pool_callers.proofs.Prelude.{[], length-mapped, List, map, Stored, subst, view, ℕ, ◌<◌}
use Rattle.vm_pool_callers.proofs.{FirstPage.reads-first, FirstPage.second-sure}
use Rattle.vm_pool_callers.proofs.two_pages.open_two.Goals as goal

pub open_page-requires : goal.open_page-requires
open_page-requires g c = (
  search rules,
  (
    c.requires.sized,
    (
      c.requires.takes,
      (
        c.requires.pages,
        (c.requires.fits, (c.requires.below, (c.requires.page.0, c.requires.begins))),
      ),
    ),
  ),
)

pub bring-second-requires : goal.bring-second-requires
bring-second-requires g c =
    let mapped : length (map g.B.Block.stored c.args.blocks.items) ≡ length c.args.blocks.items =
    length-mapped g.B.Block.stored c.args.blocks.items in
    let opened = c.in_ok-pool.ensures in
    let page = subst (λ (s : TableShape). c.args.b < s.pages) (sym opened.key)
    (subst (λ (n : ℕ). c.args.b < n) (c.requires.pages ∙ sym mapped) c.requires.page.1) in
    (search rules, (opened.ready, (opened.asked.keeps.out, (opened.held, page))))

pub read_word-word-requires : goal.read_word-word-requires
read_word-word-requires g c =
    let mapped : length (map g.B.Block.stored c.args.blocks.items) ≡ length c.args.blocks.items =
    length-mapped g.B.Block.stored c.args.blocks.items in
    let inside = subst (λ (s : TableShape). c.args.a < s.pages) (sym c.in_ok-pool.ensures.key)
    (subst (λ (n : ℕ). c.args.a < n) (c.requires.pages ∙ sym mapped) c.requires.page.0) in
    record {
      ready = c.bring-second.ensures.goes.ready;
      page = (inside, subst (λ (n : ℕ). c.args.i < n) c.in_ok-pool.field-0.pool.size c.requires.page.3);
    }

pub returns-clause-second : goal.returns-clause-second
returns-clause-second g c =
    let blocks : List Stored = map g.B.Block.stored c.args.blocks.items in
    second-sure _ _ _ _ _ blocks _ (length-mapped g.B.Block.stored c.args.blocks.items) c.requires.fits
    c.requires.below c.requires.frames c.args.a c.args.b c.requires.page.2
    (subst (λ (n : ℕ). c.args.a < n) c.requires.pages c.requires.page.0)
    (subst (λ (n : ℕ). c.args.b < n) c.requires.pages c.requires.page.1) _ _ _ c.in_ok-pool.ensures.asked
    0 [] (view c.bring-second.new.pass) c.bring-second.result c.bring-second.ensures.sure

pub returns-clause-word : goal.returns-clause-word
returns-clause-word g c brought =
    let blocks : List Stored = map g.B.Block.stored c.args.blocks.items in
    let reads = reads-first _ _ _ _ _ blocks _ (length-mapped g.B.Block.stored c.args.blocks.items) c.requires.fits
    c.requires.below c.requires.frames c.args.a c.args.b c.requires.page.2
    (subst (λ (n : ℕ). c.args.a < n) c.requires.pages c.requires.page.0)
    (subst (λ (n : ℕ). c.args.b < n) c.requires.pages c.requires.page.1) _ _ _ c.in_ok-pool.ensures.asked
    _ _ (view c.bring-second.new.pass) c.bring-second.result brought c.bring-second.ensures.keeps c.bring-second.ensures.table in
    c.read_word-word.ensures.sure reads.0 reads.1
