use Rattle.std.proofs.Common.{[], ◌||◌, ◌<◌, ◌∙◌, ◌∷◌, ◌≡◌, ap, false, inl, inr, List, refl, replicate, slice_index}
use Rattle.std.proofs.Common.{slice_set, subst, sym, ℕ}
use Rattle.std.proofs.lemmas.Bool.{ne_eqb}
use Rattle.vm_event.specs.Prelude.{LoadsAre}
use Rattle.vm_page.specs.Pages.{all_zero}
use Rattle.vm_rule.specs.Prelude.{AreApart, draft_of, has, last_of}
use Rattle.vm_tree_split.specs.from_vm_step.Prelude.{Origin, view}
use Rattle.vm_tree_split.proofs.from_vm_guard.Groups.{lacks}
use Rattle.vm_tree_laws.specs.May.{MayCollapse}
use Rattle.vm_tree_split.proofs.from_vm_tree_rule.{Readings.loads-behind, Whole.tree-size}
use Rattle.vm_tree_split.specs.from_vm_tree_draft.Splits.{HasDraft}
use Rattle.vm_tree_split.proofs.from_vm_tree_draft.Splitting.{among-first, among-later}
use Rattle.vm_tree_split.proofs.Ends.{meta-not}
use Rattle.vm_tree_join.specs.{Locks.GivesNumber, Merging.IsMerged, Merging.page_change}
use Rattle.vm_tree_join.proofs.{Finishing.merge-made, Finishing.merge-resident, Giving.gives-all, Tags.inner-of, Tags.leaf-of}
use Rattle.vm_tree_join.proofs.Locking.{draft-past, locks-but, locks-held, locks-past, locks-pids, locks-words, reads-past}
use Rattle.vm_tree_join.proofs.join.join_last.Goals as goal

pub lock_four-requires-clause-first : goal.lock_four-requires-clause-first
lock_four-requires-clause-first g c = c.requires.meta.0

pub lock_four-requires-clause-second : goal.lock_four-requires-clause-second
lock_four-requires-clause-second g c = c.requires.above.reading

pub lock_four-requires-clause-third : goal.lock_four-requires-clause-third
lock_four-requires-clause-third g c = c.requires.left.reading

pub lock_four-requires-clause-fourth : goal.lock_four-requires-clause-fourth
lock_four-requires-clause-fourth g c = c.requires.right.reading

pub returns-in-Err-clause-err : goal.returns-in-Err-clause-err
returns-in-Err-clause-err g c = c.in-Err.ensures.err

pub returns-in-Err-clause-sure : goal.returns-in-Err-clause-sure
returns-in-Err-clause-sure g c k = c.in-Err.ensures.sure k

pub write_collapse-requires-clause-can : goal.write_collapse-requires-clause-can
write_collapse-requires-clause-can g c =
    let L = g.K.Kind.layout in
    let tail = c.args.root ∷ c.args.left ∷ c.args.right ∷ [] in
    let gs = c.args.meta ∷ tail in
    let l = c.in-Ok.locks in
    let rest = l.others.first ∷ l.others.others.up ∷ l.others.others.low ∷ [] in
    let ls = l.first ∷ rest in
    let v = view c.args.pass.now in
    let x = view c.lock_four.new.pass in
    let k = c.in-Ok.ensures.ok in
    let p0 = c.args.meta.pid in
    let over = g.K.Pages.words_of c.args.over.now in
    let first = g.K.Pages.words_of c.args.first.now in
    let second = g.K.Pages.words_of c.args.second.now in
    let joined = g.K.Pages.words_of c.args.joined.now in
    let said = g.K.Kind.plain c.args.said.now in
    let zeros = replicate L.words 0 in
    let ps = (over, 3) ∷ (first, 2) ∷ (second, 2) ∷ [] in
    let but = locks-but L (p0 ∷ c.args.root.pid ∷ c.args.left.pid ∷ c.args.right.pid ∷ []) gs ls v x (λ p e. e) k in
    let whole = tree-size _ _ _ c.requires.ready.table.is_shape.size c.args.words.now.sized.0 c.args.words.now.size.takes in
    let start = k.1.locked.elsewhere.steady.start in
    let beyond = locks-past L p0 tail rest k.0 x c.requires.apart.0 k.2 in
    let zero-draft : HasDraft p0 (last_of k.0 p0).words (last_of k.0 p0).words x =
    draft-past p0 _ _ k.0 x beyond k.1.locked.holding.owns (record { last = refl; draft = k.1.locked.draft }) in
    record {
      home = but.out ∙ c.requires.home;
      held = locks-held L gs ls v x c.requires.apart k;
      apart = subst AreApart (sym (locks-pids L gs ls v x k)) c.requires.apart;
      zero = k.1.page ∙ c.requires.zero;
      same = subst (λ p. draft_of x p ≡ (last_of x p).words) (sym k.1.page) (zero-draft.draft ∙ sym zero-draft.last);
      used = λ tells.
          let told = ap (λ (o : Origin). o.tells) (sym but.start) ∙ tells in
          subst (λ p. all_zero (last_of x p).words ≡ false) (sym k.1.page)
          (ap all_zero zero-draft.last ∙ meta-not (last_of k.0 p0).words L.magic
          ((k.1.locked.validates told).itself.sound.meta c.requires.zero).magic g.K.Kind.is_layout.some_magic);
      drafts = λ tells.
          let told = ap (λ (o : Origin). o.tells) (sym but.start) ∙ tells in
          let h = locks-words L tail rest ps k.0 x c.requires.apart.1 (ap (λ (o : Origin). o.tells) start ∙ told)
          (ap (λ (o : Origin). o.size) start ∙ whole)
          (reads-past L c.args.meta l.first tail ps v k.0 c.requires.apart.0 k.1 (
            c.requires.above,
            c.requires.sizes.0,
            (c.requires.left, c.requires.sizes.1, (c.requires.right, c.requires.sizes.2, tt)),
          )) k.2 in
          (h.0, h.2.0, h.2.2.0);
      merge = λ tells.
          let told = ap (λ (o : Origin). o.tells) (sym but.start) ∙ tells in
          let h = locks-words L tail rest ps k.0 x c.requires.apart.1 (ap (λ (o : Origin). o.tells) start ∙ told)
          (ap (λ (o : Origin). o.size) start ∙ whole)
          (reads-past L c.args.meta l.first tail ps v k.0 c.requires.apart.0 k.1 (
            c.requires.above,
            c.requires.sizes.0,
            (c.requires.left, c.requires.sizes.1, (c.requires.right, c.requires.sizes.2, tt)),
          )) k.2 in
          let page = (last_of x l.first.pid).words in
          let loads = (k.1.locked.validates told).valid _ c.requires.meta.0.reading (sym k.1.version) in
          let names = (loads-behind (last_of k.0 p0).words c.requires.meta.1.0 ((1, c.args.root.pid) ∷ (2, 1) ∷ [])
          (subst (LoadsAre (last_of k.0 p0).words) c.requires.meta.1.1 loads)).0 in
          let same : page ≡ (last_of k.0 p0).words = ap (λ (p : ℕ). (last_of x p).words) k.1.page ∙ zero-draft.last in
          let base = c.requires.merge told page (ap (λ (z : List ℕ). slice_index z 1) same ∙ names)
          (inner-of L over h.1) (leaf-of L first h.2.1) (leaf-of L second h.2.2.1) in
          subst (λ (p : ℕ). MayCollapse L
          (page_change p page (slice_set (slice_set page 1 l.others.others.up.pid) 2 0))
          (page_change l.others.first.pid over zeros) (page_change l.others.others.up.pid first joined)
          (page_change l.others.others.low.pid second zeros) said) (sym k.1.page)
          (subst (λ (p : ℕ). MayCollapse L
          (page_change p0 page (slice_set (slice_set page 1 l.others.others.up.pid) 2 0))
          (page_change p over zeros) (page_change l.others.others.up.pid first joined)
          (page_change l.others.others.low.pid second zeros) said) (sym k.2.1.page)
          (subst (λ (p : ℕ). MayCollapse L (page_change p0 page (slice_set (slice_set page 1 p) 2 0))
          (page_change c.args.root.pid over zeros) (page_change p first joined)
          (page_change l.others.others.low.pid second zeros) said) (sym k.2.2.1.page)
          (subst (λ (p : ℕ). MayCollapse L (page_change p0 page (slice_set (slice_set page 1 c.args.left.pid) 2 0))
          (page_change c.args.root.pid over zeros) (page_change c.args.left.pid first joined)
          (page_change p second zeros) said) (sym k.2.2.2.1.page) base)));
    }

pub give_number-requires-clause-page : goal.give_number-requires-clause-page
give_number-requires-clause-page g c =
    let l = c.in-Ok.locks in
    let held = locks-held g.K.Kind.layout (c.args.meta ∷ c.args.root ∷ c.args.left ∷ c.args.right ∷ [])
    (l.first ∷ l.others.first ∷ l.others.others.up ∷ l.others.others.low ∷ []) (view c.args.pass.now)
    (view c.lock_four.new.pass) c.requires.apart c.in-Ok.ensures.ok in
    subst (λ (n : ℕ). l.others.first.pid < n) c.in-Ok.ensures.goes.ready.table.is_shape.pages held.1.0.page

pub give_number-requires-clause-mine : goal.give_number-requires-clause-mine
give_number-requires-clause-mine g c tells =
    let l = c.in-Ok.locks in
    let x = view c.lock_four.new.pass in
    let m = c.write_collapse.ensures.merged in
    let p = l.others.first.pid in
    let held = locks-held g.K.Kind.layout (c.args.meta ∷ c.args.root ∷ c.args.left ∷ c.args.right ∷ [])
    (l.first ∷ l.others.first ∷ l.others.others.up ∷ l.others.others.low ∷ []) (view c.args.pass.now) x
    c.requires.apart c.in-Ok.ensures.ok in
    let start = m.released.beside.steady.start ∙ m.stays.start in (
      inr (ap (has p) (m.to_give (ap (λ (o : Origin). o.tells) (sym start) ∙ tells)) ∙ among-first p (l.others.others.low.pid ∷ x.freed)),
      inl (ap (has p) (m.released.group.0 ∙ m.stays.group.0) ∙ held.1.0.free),
    )

pub give_number-requires-2-clause-page : goal.give_number-requires-2-clause-page
give_number-requires-2-clause-page g c =
    let l = c.in-Ok.locks in
    let held = locks-held g.K.Kind.layout (c.args.meta ∷ c.args.root ∷ c.args.left ∷ c.args.right ∷ [])
    (l.first ∷ l.others.first ∷ l.others.others.up ∷ l.others.others.low ∷ []) (view c.args.pass.now)
    (view c.lock_four.new.pass) c.requires.apart c.in-Ok.ensures.ok in
    subst (λ (n : ℕ). l.others.others.low.pid < n) c.in-Ok.ensures.goes.ready.table.is_shape.pages held.1.1.1.0.page

pub give_number-requires-2-clause-mine : goal.give_number-requires-2-clause-mine
give_number-requires-2-clause-mine g c tells =
    let l = c.in-Ok.locks in
    let x = view c.lock_four.new.pass in
    let y = view c.write_collapse.new.pass in
    let z = view c.give_number.new.pass in
    let m = c.write_collapse.ensures.merged in
    let p = l.others.others.low.pid in
    let gs = c.args.meta ∷ c.args.root ∷ c.args.left ∷ c.args.right ∷ [] in
    let ls = l.first ∷ l.others.first ∷ l.others.others.up ∷ l.others.others.low ∷ [] in
    let held = locks-held g.K.Kind.layout gs ls (view c.args.pass.now) x c.requires.apart c.in-Ok.ensures.ok in
    let apart = subst AreApart (sym (locks-pids g.K.Kind.layout gs ls (view c.args.pass.now) x c.in-Ok.ensures.ok)) c.requires.apart in
    let ne = (lacks l.others.first.pid p [] (lacks l.others.first.pid l.others.others.up.pid (p ∷ []) apart.1.0).1).0 in
    let one = gives-all (l.others.first.pid ∷ []) y z (z, c.give_number.ensures.given, refl) in
    let start = one.start ∙ m.released.beside.steady.start ∙ m.stays.start in (
      inr (one.kept p (ap (has p) (m.to_give (ap (λ (o : Origin). o.tells) (sym start) ∙ tells))
          ∙ among-later p l.others.first.pid (p ∷ x.freed) (among-first p x.freed))
          (λ i. ne_eqb p l.others.first.pid (λ e. ne (sym e)) i || false)),
      inl (ap (has p) (one.group.0 ∙ m.released.group.0 ∙ m.stays.group.0) ∙ held.1.1.1.0.free),
    )

pub returns-clause-ok : goal.returns-clause-ok
returns-clause-ok g c =
    let L = g.K.Kind.layout in
    let plain = g.K.Kind.plain in
    let gs = c.args.meta ∷ c.args.root ∷ c.args.left ∷ c.args.right ∷ [] in
    let l = c.in-Ok.locks in
    let ls = l.first ∷ l.others.first ∷ l.others.others.up ∷ l.others.others.low ∷ [] in
    let v = view c.args.pass.now in
    let x = view c.lock_four.new.pass in
    let y = view c.write_collapse.new.pass in
    let z = view c.give_number.new.pass in
    let w = view c.give_number-2.new.pass in
    let k = c.in-Ok.ensures.ok in
    let says = c.args.said.now in
    let pids = l.first.pid ∷ l.others.first.pid ∷ l.others.others.up.pid ∷ l.others.others.low.pid ∷ [] in
    let m = subst (λ ps. IsMerged plain L ps (c.args.root.pid ∷ c.args.right.pid ∷ []) says x y) (locks-pids L gs ls v x k)
    (subst (λ (p : ℕ). IsMerged plain L pids (c.args.root.pid ∷ p ∷ []) says x y) k.2.2.2.1.page
    (subst (λ (p : ℕ). IsMerged plain L pids (p ∷ l.others.others.low.pid ∷ []) says x y) k.2.1.page
    c.write_collapse.ensures.merged)) in
    merge-made plain L gs ls (c.args.root.pid ∷ c.args.right.pid ∷ []) says v x y w c.requires.apart k m (
      z,
      subst (λ (p : ℕ). GivesNumber p y z) k.2.1.page c.give_number.ensures.given,
      (w, subst (λ (p : ℕ). GivesNumber p z w) k.2.2.2.1.page c.give_number-2.ensures.given, refl),
    )

pub returns-clause-known : goal.returns-clause-known
returns-clause-known g c resident =
    let L = g.K.Kind.layout in
    let plain = g.K.Kind.plain in
    let gs = c.args.meta ∷ c.args.root ∷ c.args.left ∷ c.args.right ∷ [] in
    let l = c.in-Ok.locks in
    let ls = l.first ∷ l.others.first ∷ l.others.others.up ∷ l.others.others.low ∷ [] in
    let v = view c.args.pass.now in
    let x = view c.lock_four.new.pass in
    let y = view c.write_collapse.new.pass in
    let z = view c.give_number.new.pass in
    let w = view c.give_number-2.new.pass in
    let k = c.in-Ok.ensures.ok in
    let says = c.args.said.now in
    let pids = l.first.pid ∷ l.others.first.pid ∷ l.others.others.up.pid ∷ l.others.others.low.pid ∷ [] in
    let m = subst (λ ps. IsMerged plain L ps (c.args.root.pid ∷ c.args.right.pid ∷ []) says x y) (locks-pids L gs ls v x k)
    (subst (λ (p : ℕ). IsMerged plain L pids (c.args.root.pid ∷ p ∷ []) says x y) k.2.2.2.1.page
    (subst (λ (p : ℕ). IsMerged plain L pids (p ∷ l.others.others.low.pid ∷ []) says x y) k.2.1.page
    c.write_collapse.ensures.merged)) in
    merge-resident plain L gs ls (c.args.root.pid ∷ c.args.right.pid ∷ []) says v x y w c.requires.apart k m (
      z,
      subst (λ (p : ℕ). GivesNumber p y z) k.2.1.page c.give_number.ensures.given,
      (w, subst (λ (p : ℕ). GivesNumber p z w) k.2.2.2.1.page c.give_number-2.ensures.given, refl),
    ) resident
