use Rattle.std.proofs.Common.{◌∙◌, ap, length, subst}
use Rattle.vm_face.specs.Homes.{made_at}
use Rattle.vm_step.specs.Prelude.{IsReady, view}
use Rattle.vm_face.proofs.{Homes.on-of, Homes.store-more, Views.store-gives}
use Rattle.vm_face.proofs.store.TreeStore.hand.Goals as goal

pub returns-clause-store : goal.returns-clause-store
returns-clause-store g c =
    let xs = c.args.self.now.homes.items in
    let store = on-of made_at g.B.Block.tells _ _ xs _ c.requires.store in
    store-more made_at g.B.Block.tells _ c.args.self.now.pass c.split_one-pass.new.pass xs _ c.in-Ok-handover.home
    c.args.self.now.ever _ c.requires.store c.push_reserved.ensures.items
    (ap (λ k. k.value.table_id) c.in-Ok-handover.ensures.taker ∙ ap (λ b. b.table_id) c.knew.ensures ∙ c.requires.store.on.ready.may.0)
    (record {
      ready = subst (λ pool. IsReady pool.words.table.shared.key g.B.Block.tells pool.words.table.shared.table_id
          c.split_one-pass.new.pass) c.deref-2.ensures c.split_one-pass.ensures.goes.ready;
      pages = store.pages;
      store = store-gives (length xs) c.args.self.now.ever (view c.args.self.now.pass) (view c.split_one-pass.result)
          (view c.split_one-pass.new.pass) store.store c.split_one-pass.ensures.splits;
    })
