-- The second page and the get meet the premises of what is promised a pass that is alone, by what the calls before them told.
use Rattle.std.proofs.Common.{[], ◌<◌, ◌≡◌, ◌≤◌, arith, Bool, length, List, map, rules, subst, sym}
use Rattle.std.proofs.lemmas.Bool.{eq-eqb}
use Rattle.vm_rule.specs.Prelude.{started_shape, Stored, unborn}
use Rattle.vm_rule.specs.Begun.{begun}
use Rattle.vm_rule.proofs.ListFacts.{length-mapped}
use Rattle.vm_step.specs.Prelude.{TableShape, view}
use Rattle.vm_pool_callers.specs.Known.{HasAskedFirst}
use Rattle.vm_pool_callers.proofs.FirstPage.{second-sure}
use Rattle.vm_tree_callers.proofs.Resident.{answers}
use Rattle.vm_tree_callers.proofs.started.get_from_start.Goals as goal

pub open_page-requires : goal.open_page-requires
open_page-requires g c =
    let next : 2 ≤ length c.args.blocks.items = (let l = c.requires.fits.claimed in let n = c.requires.leaf in omega (arith, l, n)) in
    let page : 0 < c.args.shape.pages = (let p = c.requires.pages in omega (arith, next, p)) in (
      search rules,
      (
        c.requires.sized,
        (
          eq-eqb _ _ (sym c.requires.words),
          (c.requires.pages, (c.requires.fits, (c.requires.below, (page, λ _. c.requires.begins)))),
        ),
      ),
    )

pub bring-root-requires : goal.bring-root-requires
bring-root-requires g c =
    let mapped : length (map g.B.Block.stored c.args.blocks.items) ≡ length c.args.blocks.items =
    length-mapped g.B.Block.stored c.args.blocks.items in
    let opened = c.in_ok-pool.ensures in
    let page = subst (λ (s : TableShape). 1 < s.pages) (sym opened.key) (let l = c.requires.fits.claimed in let n =
    c.requires.leaf in omega (arith, l, n, mapped)) in
    (search rules, (opened.ready, (opened.asked.keeps.out, (opened.held, page))))

pub try_get-reply-requires : goal.try_get-reply-requires
try_get-reply-requires g c =
    let mapped : length (map g.B.Block.stored c.args.blocks.items) ≡ length c.args.blocks.items =
    length-mapped g.B.Block.stored c.args.blocks.items in
    record {
      ready = c.bring-root.ensures.goes.ready;
      pages = subst (λ (s : TableShape). 1 ≤ s.pages) (sym c.in_ok-pool.ensures.key)
          (let l = c.requires.fits.claimed in let n = c.requires.leaf in omega (arith, l, n, mapped));
    }

pub returns-clause-root : goal.returns-clause-root
returns-clause-root g c =
    let blocks : List Stored = map g.B.Block.stored c.args.blocks.items in
    let many : 2 ≤ length c.args.blocks.items = (let l = c.requires.fits.claimed in let n = c.requires.leaf in omega (arith, l, n)) in
    second-sure _ _ _ _ _ blocks _ (length-mapped g.B.Block.stored c.args.blocks.items) c.requires.fits
    c.requires.below c.requires.frames 0 1 (omega arith) (omega (arith, many)) (omega (arith, many)) _ _ _
    c.in_ok-pool.ensures.asked 0 [] (view c.bring-root.new.pass) c.bring-root.result c.bring-root.ensures.sure

pub returns-clause-reply : goal.returns-clause-reply
returns-clause-reply g c meta root =
    let blocks : List Stored = map g.B.Block.stored c.args.blocks.items in
    let shape = c.args.shape in
    let opened = c.in_ok-pool.field-0 in
    let asked = subst (λ (t : Bool).
    HasAskedFirst 0 (begun (unborn
    (started_shape g.row.N t shape.first_version shape.next [] [] shape.frames blocks))) opened.iface.frames
    (view opened.pass) opened.answer) c.requires.tells
    c.in_ok-pool.ensures.asked in
    let get = c.try_get-reply.ensures in
    answers g.K.Kind.plain g.K.Kind.layout g.K.Kind.is_layout g.row.N shape.first_version shape.next shape.frames
    blocks _ (length-mapped g.B.Block.stored c.args.blocks.items) c.requires.fits c.requires.below
    c.requires.frames c.requires.leaf
    _ _ _ asked meta _ _ (view c.bring-root.new.pass) c.bring-root.result c.bring-root.ensures.keeps
    c.bring-root.ensures.table root (g.K.Kind.rank c.args.key.now) (view c.try_get-reply.new.pass)
    c.requires.begins
    c.try_get-reply.result (get.sure c.requires.tells) get.tried
