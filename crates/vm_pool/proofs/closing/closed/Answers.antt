use Rattle.vm_pool.proofs.LastState.{closes, next-small, same-start, slots-home}
use Rattle.vm_pool.proofs.Prelude.{slots_items, sym, view_of, ◌∙◌}
use Rattle.vm_pool.proofs.closing.closed.Goals as goal

pub next_of-next-requires-clause-small : goal.next_of-next-requires-clause-small
next_of-next-requires-clause-small g c =
    next-small g.B.Block.stored g.U.Owner.keeps g.U.Owner.tied c.args.words.table.shared.key g.B.Block.tells
    c.args.pass.badge.id (view_of c.args.pass.badge.views) c.args.pass.live c.requires.whole c.requires.current
    c.requires.holds
    (slots_items c.close_with-table.result.words) (slots_items c.close_with-table.result.slots) c.close_with-table.ensures.values.2
    (sym c.args.words.grouped ∙ g.met.U.Ungrouped.ungrouped _ c.args.words.groups.takes)
    c.args.words.size.words c.args.words.pages c.args.words.frames c.args.words.sized.0 c.args.words.shape.0
    c.args.words.shape.1 c.args.words.shape.2

pub blocks_of-blocks-requires-clause-home : goal.blocks_of-blocks-requires-clause-home
blocks_of-blocks-requires-clause-home g c =
    slots-home g.B.Block.stored g.U.Owner.keeps g.U.Owner.tied c.args.words.table.shared.key g.B.Block.tells
    c.args.pass.badge.id (view_of c.args.pass.badge.views) c.args.pass.live c.requires.whole c.requires.current
    c.requires.holds
    (slots_items c.close_with-table.result.words) (slots_items c.close_with-table.result.slots) c.close_with-table.ensures.values.2
    (sym c.args.words.grouped ∙ g.met.U.Ungrouped.ungrouped _ c.args.words.groups.takes)

pub returns-clause-closed : goal.returns-clause-closed
returns-clause-closed g c =
    closes g.B.Block.stored g.U.Owner.keeps g.U.Owner.tied c.args.words.table.shared.key g.B.Block.tells
    c.args.pass.badge.id (view_of c.args.pass.badge.views) c.args.pass.live c.requires.whole c.requires.current
    c.requires.holds
    (slots_items c.close_with-table.result.words) (slots_items c.close_with-table.result.slots) c.close_with-table.ensures.values.2
    (sym c.args.words.grouped ∙ g.met.U.Ungrouped.ungrouped _ c.args.words.groups.takes)
    c.blocks_of-blocks.result.items c.blocks_of-blocks.ensures
    c.args.words.size.words c.args.words.pages c.args.words.frames c.next_of-next.result c.args.words.sized.0
    c.args.words.shape.0 c.args.words.shape.1 c.next_of-next.ensures

pub returns-clause-start : goal.returns-clause-start
returns-clause-start g c =
    same-start g.B.Block.stored g.U.Owner.keeps g.U.Owner.tied c.args.words.table.shared.key g.B.Block.tells
    c.args.pass.badge.id (view_of c.args.pass.badge.views) c.args.pass.live c.requires.whole c.requires.current
    c.requires.holds
    (slots_items c.close_with-table.result.words) (slots_items c.close_with-table.result.slots) c.close_with-table.ensures.values.2
    (sym c.args.words.grouped ∙ g.met.U.Ungrouped.ungrouped _ c.args.words.groups.takes)
