use Rattle.std.proofs.Common.{◌<◌, ◌∙◌, ◌≡◌, ap, length, map, rules, subst, sym, ℕ}
use Rattle.vm_face.specs.Homes.{made_at}
use Rattle.vm_rule.specs.Prelude.{IsWhole}
use Rattle.vm_step.specs.Prelude.{view}
use Rattle.vm_serve.specs.from_vm_pool.Closing.{view_at_end}
use Rattle.vm_face.specs.Passes.{MissesFew}
use Rattle.vm_face.proofs.{Ends.store-closed, Homes.on-of, Parts.all-own, Parts.whole-of}
use Rattle.vm_face.proofs.store.TreeStore+TreeOf+WordKeys+S+N+B+N.close.Goals as goal

pub returns-clause-closed : goal.returns-clause-closed
returns-clause-closed g c =
    let v = view c.args.self.pass in
    let had = c.requires.store.on.store in
    let had = on-of made_at g.B.Block.tells _ _ c.args.self.homes.items _ c.requires.store in
    let out : length c.args.self.homes.items ≡ 0 = search (rules, c.len.ensures, c.if-len-ne0.false) in
    let whole : IsWhole v = whole-of v (subst (λ (n : ℕ). MissesFew n v) out had.store.missing) in
    let end = c.in-Ok-flush_and_close in
    let pages = c.requires.store.on.ready.table.is_shape.pages ∙ ap (λ p. p.words.table.shared.key.pages) (sym c.in-Ok.ensures.ok) in
    store-closed g.row.N g.B.Block.tells end.saved.report (map g.B.Block.stored end.saved.closed.blocks.items)
    end.saved.closed.next v (view_at_end end.saved.closed.ended) (whole, had.store.current) (all-own v c.args.self.pass.sound whole)
    end.ensures.flushed end.ensures.closed (λ told none p l. end.ensures.words told none p (subst (λ (n : ℕ). p < n) pages l))
