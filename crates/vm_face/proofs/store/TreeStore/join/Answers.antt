use Rattle.std.proofs.Common.{◌+◌, ◌-◌, ◌≡◌, arith, length, refl, subst}
use Rattle.vm_step.specs.Prelude.{IsReady, view}
use Rattle.vm_serve.proofs.from_vm_calls.Doing.{moves-keep}
use Rattle.vm_face.specs.Passes.{IsStoreView}
use Rattle.vm_face.proofs.Views.{hand-after, store-takes}
use Rattle.vm_face.proofs.store.TreeStore.join.Goals as goal

pub returns-clause-store : goal.returns-clause-store
returns-clause-store g c =
    let given = c.give_all.ensures.given in
    let hand = hand-after (view c.args.hand.pass) (view c.give_all.new.pass)
    (moves-keep given.done (view c.args.hand.pass) (view c.give_all.new.pass) given.moves) c.requires.hand.hand in
    let out = length c.args.self.now.homes.items in
    let less : out + 1 - 1 ≡ out = omega arith in
    record {
      ready = subst (λ pool. IsReady pool.words.table.shared.key g.B.Block.tells pool.words.table.shared.table_id
          c.join.new.pass) c.deref-2.ensures c.join.ensures.goes.ready;
      pages = c.requires.store.pages;
      store = subst (λ n. IsStoreView n c.args.self.now.ever (view c.join.new.pass)) less
          (store-takes g.B.Block.tells _ (out + 1) c.args.self.now.ever (view c.args.self.now.pass)
          (view c.give_all.new.pass) (view c.join.new.pass) c.requires.store.store hand c.join.ensures.joins
          c.join.new.pass.sound.apart);
    }

pub returns-clause-rest : goal.returns-clause-rest
returns-clause-rest g c = (refl, refl, refl)
