use Rattle.std.proofs.Common.{[], ◌++◌, ◌∙◌, ◌∷◌, ap, arith, sym}
use Rattle.vm_face.specs.Homes.{made_at}
use Rattle.vm_step.specs.Prelude.{view}
use Rattle.vm_face.specs.Homes.{hand_at}
use Rattle.vm_face.proofs.Homes.{on-without, one-taken, still-out, store-still, store-without, way-of}
use Rattle.vm_face.proofs.store.TreeStore.look_at.Goals as goal

pub join-requires : goal.join-requires
join-requires g c =
    let xs = c.args.self.now.homes.items in
    let hand = c.in-Ok.ensures.taken in
    let way = way-of made_at g.B.Block.tells xs c.remove.new.self.items c.args.at c.remove.result c.requires.at c.remove.ensures.value
    _ _ _ c.requires.store in (
      omega arith,
      (
        omega arith,
        (
          on-without made_at g.B.Block.tells xs c.remove.new.self.items c.args.at c.remove.result c.requires.at c.remove.ensures.value
              _ _ _ c.remove.ensures.items c.requires.store,
          (hand.hand, sym hand.table ∙ way),
        ),
      ),
    )

pub returns-in-Ok-clause-store : goal.returns-in-Ok-clause-store
returns-in-Ok-clause-store g c =
    let xs = c.args.self.now.homes.items in
    let items = ap (λ v. v.items) c.join.ensures.rest.1 ∙ c.remove.ensures.items in
    store-without made_at g.B.Block.tells xs c.join.new.self.homes.items c.args.at c.remove.result c.requires.at
    c.remove.ensures.value _ _ c.args.self.now.pass c.join.new.self.pass c.args.self.now.ever _ (ap (λ p. p.words) c.join.ensures.rest.0)
    items c.requires.store c.join.ensures.store

pub returns-in-Ok-clause-taken : goal.returns-in-Ok-clause-taken
returns-in-Ok-clause-taken g c =
    let items = ap (λ v. v.items) c.join.ensures.rest.1 ∙ c.remove.ensures.items in
    one-taken (λ h. hand_at (made_at h)) c.args.self.now.homes.items c.join.new.self.homes.items c.args.at c.remove.result c.requires.at
    c.remove.ensures.value _ (view c.in-Ok.hand.pass) _ items c.join.ensures.back c.in-Ok.ensures.taken.number

pub returns-in-Err-clause-store : goal.returns-in-Err-clause-store
returns-in-Err-clause-store g c =
    let items = c.push_reserved.ensures.items ∙ ap (λ l. l ++ c.in-Err.home ∷ []) c.remove.ensures.items in
    store-still made_at g.B.Block.tells c.args.self.now.homes.items c.push_reserved.new.self.items c.args.at c.remove.result
    c.requires.at c.remove.ensures.value _ _ c.in-Err.home _ items c.in-Err.ensures.none c.requires.store

pub returns-in-Err-clause-taken : goal.returns-in-Err-clause-taken
returns-in-Err-clause-taken g c =
    let items = c.push_reserved.ensures.items ∙ ap (λ l. l ++ c.in-Err.home ∷ []) c.remove.ensures.items in
    still-out (λ h. hand_at (made_at h)) c.args.self.now.homes.items c.push_reserved.new.self.items c.args.at c.remove.result c.requires.at
    c.remove.ensures.value c.in-Err.home _ items c.in-Err.ensures.none
