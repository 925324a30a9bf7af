use Rattle.std.proofs.Common.{◌*◌, ◌<◌, ◌∙◌, ◌≡◌, ◌≤◌, ap, arith, length, map, refl, rules, subst, sym}
use Rattle.std.proofs.lemmas.Bool.{eq-eqb}
use Rattle.vm_map.specs.declared.call.Said.{Said}
use Rattle.vm_rule.proofs.ListFacts.{length-mapped}
use Rattle.vm_drive.specs.from_vm_step.Prelude.{Origin, TableShape, View, view}
use Rattle.vm_drive.proofs.from_vm_pool.FirstPass.{first-alone}
use Rattle.vm_drive.specs.Drives.{items_of}
use Rattle.vm_tree_model.{specs.Fixed.fixed, proofs.FixedLaws.sized_layout}
use Rattle.vm_drive.specs.Prelude.{as_said}
use Rattle.vm_serve.specs.Serving.{word_serving}
use Rattle.vm_serve.proofs.WordServing.{word_kind}
use Rattle.vm_serve.proofs.Headline.{begins-held, claimed-free, fresh-enough, has-started, served}
use Rattle.vm_serve.proofs.serving.serve_on.Goals as goal

pub start-requires : goal.start-requires
start-requires g c =
    let may = c.requires.tree.1 in
    let before = map g.B.Block.stored c.args.blocks.items in (
      search rules,
      (
        g.S.OfSize.is_size,
        (
          eq-eqb g.row.N g.row.N refl,
          (
            tt,
            (
              refl,
              (
                c.requires.pages.0,
                (
                  has-started (fixed g.row.N) g.B.Block.tells _ before _ _ _ _ _ may (length-mapped g.B.Block.stored c.args.blocks.items)
                      c.requires.version c.requires.frames.0 c.requires.frames.1
                      (subst (λ n. n ≤ 65536) c.requires.pages.0 c.requires.pages.1),
                  (
                    claimed-free _ _ _ _ may.free_pages,
                    λ told. begins-held as_said (fixed g.row.N) (sized_layout g.row.N g.S.OfSize.is_size) g.B.Block.tells _ before _ _ may told,
                  ),
                ),
              ),
            ),
          ),
        ),
      ),
    )

pub drive_into-requires-after_bounds : goal.drive_into-requires-after_bounds
drive_into-requires-after_bounds g c κs within =
    let made = c.in_ok-pool.ensures in
    let may = c.requires.tree.1 in
    let few = c.requires.lists.1 in
    let whole = (first-alone _ _ _ _ _ _ _ _ made.view).0 in
    let fresh : length c.args.lists.now ≤ length (view c.in_ok-pool.pass).fresh =
    fresh-enough _ _ _ _ _ _ _ _ _ made.view (omega (arith, few)) in
    let frames : 8 * length c.args.lists.now ≤ c.in_ok-pool.pool.words.frames =
    omega (
      arith,
      c.in_ok-pool.pool.words.shape.1,
      ap (λ (s : TableShape). s.frames) made.key,
      c.requires.frames.2,
    ) in
    let key : c.in_ok-pool.pool.words.table.shared.key.pages ≡ length (map g.B.Block.stored c.args.blocks.items) =
    ap (λ (s : TableShape). s.pages) made.key in
    let low = may.tree.meta.root_low in
    let high = may.tree.meta.root_high in
    let pages : 1 ≤ c.in_ok-pool.pool.words.table.shared.key.pages = omega (arith, key, may.count, low, high) in (
      omega arith,
      (
        omega arith,
        (
          search rules,
          (
            whole,
            (
              search rules,
              (fresh, (c.requires.lists, (c.requires.few, (c.requires.askable, (frames, (pages, c.requires.rooms)))))),
            ),
          ),
        ),
      ),
    )

pub returns-in-Ok-clause-served : goal.returns-in-Ok-clause-served
returns-in-Ok-clause-served g c = λ pages may.
    let before = map g.B.Block.stored c.args.blocks.items in
    let key : c.in_ok-pool.pool.words.table.shared.key.pages ≡ length before =
    ap (λ (s : TableShape). s.pages) c.in_ok-pool.ensures.key in
    let into = c.in_ok-driven.ensures.driven in
    record {
      told = into.told;
      stand = into.stand;
      served = served (word_serving g.row.N) (word_kind g.row.N g.S.OfSize.is_size) g.B.Block.tells pages _ c.args.shape.next c.args.free.now _ before
          (map g.B.Block.stored c.in-Ok.saved.closed.blocks.items) (items_of c.args.lists.now) into.told
          c.in-Ok.saved.report c.in-Ok.saved.closed.ended (view c.in_ok-pool.pass) (view c.drive_into.new.pass) may
          c.in_ok-pool.ensures.view into.driven c.in-Ok.ensures.flushed c.in-Ok.saved.closed.next
          c.in-Ok.ensures.closed c.in-Ok.ensures.sums
          (λ told none p l. c.in-Ok.ensures.words told none p (subst (λ n. p < n) (sym key) l));
    }

pub returns-in-Ok-clause-version : goal.returns-in-Ok-clause-version
returns-in-Ok-clause-version g c =
    ap (λ (o : Origin). o.version) (c.in-Ok.ensures.flushed.aside.start ∙ c.in_ok-driven.ensures.driven.driven.start
    ∙ ap (λ (v : View Said). v.start) c.in_ok-pool.ensures.view)

pub returns-in-Ok-clause-frames : goal.returns-in-Ok-clause-frames
returns-in-Ok-clause-frames g c =
    ap (λ (o : Origin). o.frames) (c.in-Ok.ensures.flushed.aside.start ∙ c.in_ok-driven.ensures.driven.driven.start
    ∙ ap (λ (v : View Said). v.start) c.in_ok-pool.ensures.view)
