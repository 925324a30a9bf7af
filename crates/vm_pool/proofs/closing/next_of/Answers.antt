use Rattle.vm_pool.proofs.Prelude.{arith, at, at-there, bundles_of, slots_items, sym, ◌*◌, ◌+◌, ◌≡◌}
use Rattle.vm_pool.proofs.closing.next_of.Goals as goal

pub overflow_cast-result : goal.overflow_cast-result
overflow_cast-result g c =
    let here : at 0 (slots_items c.args.table.now.words)
    (3 * c.args.pages + c.args.size * c.args.frames + bundles_of c.args.frames) ≡ c.word.result =
    at-there 0 (slots_items c.args.table.now.words)
    (3 * c.args.pages + c.args.size * c.args.frames + bundles_of c.args.frames) c.word.result c.word.ensures in
    omega (arith, here, c.requires.small)

pub returns : goal.returns
returns g c = sym (at-there 0 (slots_items c.args.table.now.words)
    (3 * c.args.pages + c.args.size * c.args.frames + bundles_of c.args.frames) c.word.result c.word.ensures)
