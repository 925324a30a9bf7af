use Rattle.std.proofs.Common.{[], ◌<◌, ◌∙◌, ◌∷◌, ap, inl, inr, refl, replicate, subst, sym, ℕ}
use Rattle.vm_rule.specs.Prelude.{AreApart, has}
use Rattle.vm_tree_split.specs.from_vm_step.Prelude.{Origin, view}
use Rattle.vm_tree_laws.specs.May.{MayMerge}
use Rattle.vm_tree_split.proofs.from_vm_tree_rule.Whole.{tree-size}
use Rattle.vm_tree_split.proofs.from_vm_tree_draft.Splitting.{among-first}
use Rattle.vm_tree_join.specs.{Locks.GivesNumber, Merging.IsMerged, Merging.page_change}
use Rattle.vm_tree_join.proofs.{Finishing.merge-made, Finishing.merge-resident, Tags.inner-of, Tags.leaf-of}
use Rattle.vm_tree_join.proofs.Locking.{locks-but, locks-held, locks-pids, locks-words}
use Rattle.vm_tree_join.proofs.join.join_below.Goals as goal

pub lock_three-requires-clause-first : goal.lock_three-requires-clause-first
lock_three-requires-clause-first g c = c.requires.above.reading

pub lock_three-requires-clause-second : goal.lock_three-requires-clause-second
lock_three-requires-clause-second g c = c.requires.left.reading

pub lock_three-requires-clause-third : goal.lock_three-requires-clause-third
lock_three-requires-clause-third g c = c.requires.right.reading

pub returns-in-Err-clause-err : goal.returns-in-Err-clause-err
returns-in-Err-clause-err g c = c.in-Err.ensures.err

pub returns-in-Err-clause-sure : goal.returns-in-Err-clause-sure
returns-in-Err-clause-sure g c k = c.in-Err.ensures.sure k

pub write_merge-requires-clause-can : goal.write_merge-requires-clause-can
write_merge-requires-clause-can g c =
    let L = g.K.Kind.layout in
    let gs = c.args.up ∷ c.args.left ∷ c.args.right ∷ [] in
    let l = c.in-Ok.locks in
    let ls = l.first ∷ l.others.up ∷ l.others.low ∷ [] in
    let v = view c.args.pass.now in
    let x = view c.lock_three.new.pass in
    let k = c.in-Ok.ensures.ok in
    let over = g.K.Pages.words_of c.args.over.now in
    let first = g.K.Pages.words_of c.args.first.now in
    let second = g.K.Pages.words_of c.args.second.now in
    let joined = g.K.Pages.words_of c.args.joined.now in
    let above = g.K.Edits.edited over c.args.edit in
    let said = g.K.Kind.plain c.args.said.now in
    let ps = (over, 3) ∷ (first, 2) ∷ (second, 2) ∷ [] in
    let but = locks-but L (c.args.up.pid ∷ c.args.left.pid ∷ c.args.right.pid ∷ []) gs ls v x (λ p e. e) k in
    let whole = tree-size _ _ _ c.requires.ready.table.is_shape.size c.args.words.now.sized.0 c.args.words.now.size.takes in
    record {
      home = but.out ∙ c.requires.home;
      held = locks-held L gs ls v x c.requires.apart k;
      apart = subst AreApart (sym (locks-pids L gs ls v x k)) c.requires.apart;
      drafts = λ tells. let h = locks-words L gs ls ps v x c.requires.apart (ap (λ (o : Origin). o.tells) (sym but.start) ∙ tells) whole (
        c.requires.above,
        c.requires.sizes.0,
        (c.requires.left, c.requires.sizes.1, (c.requires.right, c.requires.sizes.2, tt)),
      ) k in
          (h.0, h.2.0, h.2.2.0);
      merge = λ tells.
          let h = locks-words L gs ls ps v x c.requires.apart (ap (λ (o : Origin). o.tells) (sym but.start) ∙ tells) whole
          (c.requires.above, c.requires.sizes.0, (c.requires.left, c.requires.sizes.1, (c.requires.right, c.requires.sizes.2, tt))) k in
          subst (λ (p : ℕ). MayMerge L (page_change p over above) (page_change l.others.up.pid first joined)
          (page_change l.others.low.pid second (replicate L.words 0)) said) (sym k.1.page)
          (subst (λ (p : ℕ). MayMerge L (page_change c.args.up.pid over above) (page_change p first joined)
          (page_change l.others.low.pid second (replicate L.words 0)) said) (sym k.2.1.page)
          (subst (λ (p : ℕ). MayMerge L (page_change c.args.up.pid over above)
          (page_change c.args.left.pid first joined) (page_change p second (replicate L.words 0)) said)
          (sym k.2.2.1.page)
          (c.requires.merge (ap (λ (o : Origin). o.tells) (sym but.start) ∙ tells) (inner-of L over h.1)
          (leaf-of L first h.2.1) (leaf-of L second h.2.2.1))));
    }

pub give_number-requires-clause-page : goal.give_number-requires-clause-page
give_number-requires-clause-page g c =
    let l = c.in-Ok.locks in
    let held = locks-held g.K.Kind.layout (c.args.up ∷ c.args.left ∷ c.args.right ∷ [])
    (l.first ∷ l.others.up ∷ l.others.low ∷ []) (view c.args.pass.now) (view c.lock_three.new.pass)
    c.requires.apart c.in-Ok.ensures.ok in
    subst (λ (n : ℕ). l.others.low.pid < n) c.in-Ok.ensures.goes.ready.table.is_shape.pages held.1.1.0.page

pub give_number-requires-clause-mine : goal.give_number-requires-clause-mine
give_number-requires-clause-mine g c tells =
    let l = c.in-Ok.locks in
    let x = view c.lock_three.new.pass in
    let m = c.write_merge.ensures.merged in
    let p = l.others.low.pid in
    let held = locks-held g.K.Kind.layout (c.args.up ∷ c.args.left ∷ c.args.right ∷ [])
    (l.first ∷ l.others.up ∷ l.others.low ∷ []) (view c.args.pass.now) x c.requires.apart c.in-Ok.ensures.ok in
    let start = m.released.beside.steady.start ∙ m.stays.start in (
      inr (ap (has p) (m.to_give (ap (λ (o : Origin). o.tells) (sym start) ∙ tells)) ∙ among-first p x.freed),
      inl (ap (has p) (m.released.group.0 ∙ m.stays.group.0) ∙ held.1.1.0.free),
    )

pub returns-clause-ok : goal.returns-clause-ok
returns-clause-ok g c =
    let L = g.K.Kind.layout in
    let plain = g.K.Kind.plain in
    let gs = c.args.up ∷ c.args.left ∷ c.args.right ∷ [] in
    let l = c.in-Ok.locks in
    let ls = l.first ∷ l.others.up ∷ l.others.low ∷ [] in
    let v = view c.args.pass.now in
    let x = view c.lock_three.new.pass in
    let y = view c.write_merge.new.pass in
    let w = view c.give_number.new.pass in
    let k = c.in-Ok.ensures.ok in
    let m = subst (λ ps. IsMerged plain L ps (c.args.right.pid ∷ []) c.args.said.now x y) (locks-pids L gs ls v x k)
    (subst (λ (p : ℕ). IsMerged plain L (l.first.pid ∷ l.others.up.pid ∷ l.others.low.pid ∷ []) (p ∷ [])
    c.args.said.now x y) k.2.2.1.page c.write_merge.ensures.merged) in
    merge-made plain L gs ls (c.args.right.pid ∷ []) c.args.said.now v x y w c.requires.apart k m
    (w, subst (λ (p : ℕ). GivesNumber p y w) k.2.2.1.page c.give_number.ensures.given, refl)

pub returns-clause-known : goal.returns-clause-known
returns-clause-known g c resident =
    let L = g.K.Kind.layout in
    let plain = g.K.Kind.plain in
    let gs = c.args.up ∷ c.args.left ∷ c.args.right ∷ [] in
    let l = c.in-Ok.locks in
    let ls = l.first ∷ l.others.up ∷ l.others.low ∷ [] in
    let v = view c.args.pass.now in
    let x = view c.lock_three.new.pass in
    let y = view c.write_merge.new.pass in
    let w = view c.give_number.new.pass in
    let k = c.in-Ok.ensures.ok in
    let m = subst (λ ps. IsMerged plain L ps (c.args.right.pid ∷ []) c.args.said.now x y) (locks-pids L gs ls v x k)
    (subst (λ (p : ℕ). IsMerged plain L (l.first.pid ∷ l.others.up.pid ∷ l.others.low.pid ∷ []) (p ∷ [])
    c.args.said.now x y) k.2.2.1.page c.write_merge.ensures.merged) in
    merge-resident plain L gs ls (c.args.right.pid ∷ []) c.args.said.now v x y w c.requires.apart k m
    (w, subst (λ (p : ℕ). GivesNumber p y w) k.2.2.1.page c.give_number.ensures.given, refl) resident
