use Rattle.std.proofs.Common.{◌<◌, ◌≡◌, ◌≤◌, ap, arith, length, map, refl, rules, subst}
use Rattle.std.proofs.lemmas.Bool.{eq-eqb}
use Rattle.vm_face.specs.Homes.{made_at}
use Rattle.vm_map.specs.declared.call.Said.{Said}
use Rattle.vm_tree_model.{specs.Fixed.fixed, proofs.FixedLaws.sized_layout}
use Rattle.vm_rule.proofs.ListFacts.{length-mapped}
use Rattle.vm_step.specs.Prelude.{TableShape, View, view}
use Rattle.vm_serve.proofs.from_vm_pool.FirstPass.{first-of}
use Rattle.vm_serve.proofs.Headline.{begins-held, claimed-free, has-started}
use Rattle.vm_serve.specs.from_vm_drive.Prelude.{as_said}
use Rattle.vm_face.proofs.Begins.{seen-none, store-begins, store-opened, store-over}
use Rattle.vm_face.proofs.store.open_on.Goals as goal

pub start-requires : goal.start-requires
start-requires g c =
    let may = c.requires.tree.1 in
    let before = map g.B.Block.stored c.args.blocks.items in (
      search rules,
      (
        g.S.OfSize.is_size,
        (
          eq-eqb g.row.N g.row.N refl,
          (
            tt,
            (
              refl,
              (
                c.requires.pages.0,
                (
                  has-started (fixed g.row.N) g.B.Block.tells _ before _ _ _ _ _ may (length-mapped g.B.Block.stored c.args.blocks.items)
                      c.requires.version c.requires.frames.0 c.requires.frames.1
                      (subst (λ n. n ≤ 65536) c.requires.pages.0 c.requires.pages.1),
                  (
                    claimed-free _ _ _ _ may.free_pages,
                    λ told. begins-held as_said (fixed g.row.N) (sized_layout g.row.N g.S.OfSize.is_size) g.B.Block.tells _ before _ _ may told,
                  ),
                ),
              ),
            ),
          ),
        ),
      ),
    )

pub returns-in-Ok-new-clause-store : goal.returns-in-Ok-new-clause-store
returns-in-Ok-new-clause-store g c =
    let made = c.in_ok-pool.ensures in
    let may = c.requires.tree.1 in
    let before = map g.B.Block.stored c.args.blocks.items in
    let key : c.in_ok-pool.pool.words.table.shared.key.pages ≡ length before = ap (λ (s : TableShape). s.pages) made.key in
    let low = may.tree.meta.root_low in
    let high = may.tree.meta.root_high in
    let number : 0 < length (view c.in_ok-pool.pass).used = omega (arith, ap (λ (x : View Said). length x.used) made.view) in
    store-over made_at c.in-Ok.homes.items _ _ g.B.Block.tells c.in_ok-pool.pass c.in-Ok.ensures.items
    (ap (λ p. p.words) c.in-Ok-new.ensures.ok)
    (record { may = (made.pass, number); table = first-of _ _ _ _ _ _ before _ made.view _ made.key })
    (omega (arith, key, may.count, low, high)) (store-begins _ _ _ _ _ _ before _ made.view)

pub returns-in-Ok-new-clause-opened : goal.returns-in-Ok-new-clause-opened
returns-in-Ok-new-clause-opened g c = λ pages may.
    store-opened g.row.N g.B.Block.tells _ _ _ _ (map g.B.Block.stored c.args.blocks.items) _ c.in_ok-pool.ensures.view pages may

pub returns-in-Ok-new-clause-none : goal.returns-in-Ok-new-clause-none
returns-in-Ok-new-clause-none g c = (
  c.in-Ok.ensures.items,
  refl,
  seen-none _ _ _ _ _ _ (map g.B.Block.stored c.args.blocks.items) _ c.in_ok-pool.ensures.view,
)
