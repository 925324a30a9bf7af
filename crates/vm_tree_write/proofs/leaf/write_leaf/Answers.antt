use Rattle.std.proofs.Common.{◌∙◌, ◌≡◌, ap, false, inl, inr, List, None, refl, Some, subst, sym, true, ℕ}
use Rattle.vm_page.specs.Pages.{all_zero}
use Rattle.vm_rule.specs.Prelude.{draft_of}
use Rattle.vm_tree_merge.specs.from_vm_step.Prelude.{IsClaimed, IsKeptNow, Origin, UnlockedExpected, View, view}
use Rattle.vm_tree_merge.specs.from_vm_guard.{Denied.AgainOrWorn, Denied.KeptWord, Guards.IsReleased}
use Rattle.vm_tree_laws.specs.Plain.{KeepsPlain}
use Rattle.vm_tree_merge.proofs.from_vm_tree_rule.{Readings.denied-reads, Surely.resident-same}
use Rattle.vm_tree_merge.proofs.from_vm_tree_rule.Whole.{tree-size}
use Rattle.vm_tree_merge.specs.from_vm_tree_split.Drafts.{DraftsIn, IsRedrafted}
use Rattle.vm_tree_merge.proofs.from_vm_tree_split.{Settling.only-worn}
use Rattle.vm_tree_write.proofs.{Knowing.resident-written}
use Rattle.vm_tree_write.proofs.leaf.write_leaf.Goals as goal
use Rattle.vm_tree_write.proofs.Writing.{draft-is, not-zeros, old-is, owner, written}

redrafted-at : {S : Type 0} (p q : ℕ) (x y : View S) → q ≡ p → IsRedrafted q x y → IsRedrafted p x y
redrafted-at p q x y e d = subst (λ (n : ℕ). IsRedrafted n x y) e d

draft-at : {S : Type 0} (p q : ℕ) (y : View S) (after : List ℕ) → q ≡ p → draft_of y q ≡ after → draft_of y p ≡ after
draft-at p q y after e d = ap (λ (n : ℕ). draft_of y n) (sym e) ∙ d

-- the draft that the pass has afterwards
drafted-at : {S : Type 0} (p q : ℕ) (v x y : View S) (after : List ℕ) → q ≡ p → x.start ≡ v.start
    → (x.start.tells ≡ true → draft_of y q ≡ after) → v.start.tells ≡ true → draft_of y p ≡ after
drafted-at p q v x y after e start d tells = draft-at p q y after e (d (ap (λ (o : Origin). o.tells) start ∙ tells))

none-not : (x : Rattle.vm_rule.specs.declared.view.Out.Out) → None ≡ Some x → ⊥
none-not x e = absurd (cc)

-- an edit of the page tells where it changes words of it
pub redraft-requires-clause-made_of : goal.redraft-requires-clause-made_of
redraft-requires-clause-made_of g c = (refl, c.changes-changes.ensures)

pub redraft-requires-clause-draft : goal.redraft-requires-clause-draft
redraft-requires-clause-draft g c tells =
    let k = c.in-Ok.ensures.taken in
    draft-at _ _ (view c.upgrade.new.pass) _ (sym k.0)
    (draft-is g.K.Kind.plain g.K.Kind.layout g.K.Kind.is_layout c.args.guard.pid _ _ c.args.guard.word
    c.args.guard.frame _ c.args.said.now c.requires.loads.0 (g.K.Pages.words_of c.args.before.now)
    (g.K.Edits.edited (g.K.Pages.words_of c.args.before.now) c.args.edit) (view c.args.pass.now)
    (view c.upgrade.new.pass) (view c.upgrade.new.pass) (view c.upgrade.new.pass) c.requires.reading
    c.requires.size (tree-size _ _ _ c.upgrade.ensures.goes.ready.table.is_shape.size c.args.words.now.sized.0
    c.args.words.now.size.takes) c.requires.loads.1 k.1 k.2
    (ap (λ (o : Origin). o.tells) (sym k.2.elsewhere.steady.start) ∙ tells))

pub release-requires-clause-home : goal.release-requires-clause-home
release-requires-clause-home g c o is =
    let out = c.redraft.ensures.redrafted.elsewhere.steady.out ∙ c.in-Ok.ensures.taken.2.elsewhere.steady.out
    ∙ c.requires.home in absurd (none-not o (sym out ∙ is))

pub release-requires-clause-claimed : goal.release-requires-clause-claimed
release-requires-clause-claimed g c tells =
    let k = c.in-Ok.ensures.taken in
    let before = ap (λ (o : Origin). o.tells) (sym k.2.elsewhere.steady.start) ∙ ap (λ (o : Origin). o.tells)
    (sym c.redraft.ensures.redrafted.elsewhere.steady.start) ∙ tells in
    subst (λ (n : ℕ). IsClaimed (view c.redraft.new.pass) n) (sym (c.redraft.ensures.guard.0 ∙ k.0))
    (inr (inl (subst (λ (l : List ℕ). all_zero l ≡ false)
    (sym (old-is g.K.Kind.plain g.K.Kind.layout g.K.Kind.is_layout c.args.guard.pid _ _ c.args.guard.word
    c.args.guard.frame _ c.args.said.now c.requires.loads.0 (g.K.Pages.words_of c.args.before.now)
    (g.K.Edits.edited (g.K.Pages.words_of c.args.before.now) c.args.edit) (view c.args.pass.now)
    (view c.upgrade.new.pass) (view c.redraft.new.pass) (view c.redraft.new.pass) c.requires.reading
    c.requires.size (tree-size _ _ _ c.upgrade.ensures.goes.ready.table.is_shape.size c.args.words.now.sized.0
    c.args.words.now.size.takes) c.requires.loads.1 k.1 k.2
    (redrafted-at _ _ (view c.upgrade.new.pass) (view c.redraft.new.pass) k.0 c.redraft.ensures.redrafted)
    (drafted-at _ _ (view c.args.pass.now) (view c.upgrade.new.pass) (view c.redraft.new.pass) _ k.0
    k.2.elsewhere.steady.start c.redraft.ensures.draft) before))
    (not-zeros g.K.Kind.layout g.K.Kind.is_layout (g.K.Pages.words_of c.args.before.now) c.requires.leaf))))

pub release-requires-clause-owner : goal.release-requires-clause-owner
release-requires-clause-owner g c tells =
    let k = c.in-Ok.ensures.taken in
    let before = ap (λ (o : Origin). o.tells) (sym k.2.elsewhere.steady.start) ∙ ap (λ (o : Origin). o.tells)
    (sym c.redraft.ensures.redrafted.elsewhere.steady.start) ∙ tells in
    owner g.K.Kind.plain g.K.Kind.layout g.K.Kind.is_layout c.args.guard.pid _ _ c.args.guard.word c.args.guard.frame
    _ c.args.said.now c.requires.loads.0 (g.K.Pages.words_of c.args.before.now)
    (g.K.Edits.edited (g.K.Pages.words_of c.args.before.now) c.args.edit) (view c.args.pass.now)
    (view c.upgrade.new.pass) (view c.redraft.new.pass) (view c.redraft.new.pass) c.requires.reading
    c.requires.size (tree-size _ _ _ c.upgrade.ensures.goes.ready.table.is_shape.size c.args.words.now.sized.0
    c.args.words.now.size.takes) c.requires.loads.1 k.1 k.2
    (redrafted-at _ _ (view c.upgrade.new.pass) (view c.redraft.new.pass) k.0 c.redraft.ensures.redrafted)
    (drafted-at _ _ (view c.args.pass.now) (view c.upgrade.new.pass) (view c.redraft.new.pass) _ k.0
    k.2.elsewhere.steady.start c.redraft.ensures.draft) before _ (c.redraft.ensures.guard.0 ∙ k.0) c.requires.leaf
    c.requires.edit

pub returns-clause-ok : goal.returns-clause-ok
returns-clause-ok g c =
    let k = c.in-Ok.ensures.taken in
    let same = c.redraft.ensures.guard.0 ∙ k.0 in
    written g.K.Kind.plain g.K.Kind.layout g.K.Kind.is_layout c.args.guard.pid _ _ c.args.guard.word
    c.args.guard.frame _ c.args.said.now c.requires.loads.0 (g.K.Pages.words_of c.args.before.now)
    (g.K.Edits.edited (g.K.Pages.words_of c.args.before.now) c.args.edit) (view c.args.pass.now)
    (view c.upgrade.new.pass) (view c.redraft.new.pass) (view c.release.new.pass) c.requires.reading
    c.requires.size (tree-size _ _ _ c.upgrade.ensures.goes.ready.table.is_shape.size c.args.words.now.sized.0
    c.args.words.now.size.takes) c.requires.loads.1 k.1 k.2
    (redrafted-at _ _ (view c.upgrade.new.pass) (view c.redraft.new.pass) k.0 c.redraft.ensures.redrafted)
    (drafted-at _ _ (view c.args.pass.now) (view c.upgrade.new.pass) (view c.redraft.new.pass) _ k.0
    k.2.elsewhere.steady.start c.redraft.ensures.draft)
    (subst (λ (n : ℕ). IsReleased c.args.guard.pid n (Some c.args.said.now) (view c.redraft.new.pass)
    (view c.release.new.pass)) c.redraft.ensures.guard.1
    (subst (λ (n : ℕ). IsReleased n c.redraft.new.guard.version (Some c.args.said.now) (view c.redraft.new.pass)
    (view c.release.new.pass)) same c.release.ensures.released)) c.requires.leaf c.requires.edit
    c.redraft.ensures.differ
    (subst (λ (n : ℕ). DraftsIn n c.in-Ok.held.frame (view c.upgrade.new.pass) (view c.redraft.new.pass)) k.0
    c.redraft.ensures.drafts)
    (λ tells. subst (λ (n : ℕ). IsKeptNow (KeepsPlain g.K.Kind.plain g.K.Kind.layout) n (Unit {0})
    (view c.release.new.pass)) same (c.release.ensures.kept (sym c.requires.ready.table.tells_is ∙ tells)))

pub returns-in-Err-clause-sure : goal.returns-in-Err-clause-sure
returns-in-Err-clause-sure g c known =
    let d = c.in-Err.ensures in
    only-worn c.args.guard.pid c.args.guard.word c.in-Err.deny (view c.args.pass.now) d.denied.kind
    known.resident.alone known.free known.known d.worn d.sure

-- ---- what a pass that is alone knows afterwards

pub returns-in-Err-clause-known : goal.returns-in-Err-clause-known
returns-in-Err-clause-known g c known =
    let d = c.in-Err.ensures.denied in
    resident-same (view c.args.pass.now) (view c.upgrade.new.pass)
    (denied-reads AgainOrWorn (KeptWord c.args.guard.word) UnlockedExpected c.args.guard.pid c.in-Err.deny
    (view c.args.pass.now) (view c.upgrade.new.pass) d).0 d.table known.resident

pub returns-clause-known : goal.returns-clause-known
returns-clause-known g c known =
    let k = c.in-Ok.ensures.taken in
    let same = c.redraft.ensures.guard.0 ∙ k.0 in
    let back = subst (λ (n : ℕ). IsReleased c.args.guard.pid n (Some c.args.said.now) (view c.redraft.new.pass)
    (view c.release.new.pass)) c.redraft.ensures.guard.1
    (subst (λ (n : ℕ). IsReleased n c.redraft.new.guard.version (Some c.args.said.now) (view c.redraft.new.pass)
    (view c.release.new.pass)) same c.release.ensures.released) in
    resident-written c.args.guard.pid _ _ _ (Some c.args.said.now) (view c.args.pass.now) (view c.upgrade.new.pass)
    (view c.redraft.new.pass) (view c.release.new.pass) k.2
    (redrafted-at _ _ (view c.upgrade.new.pass) (view c.redraft.new.pass) k.0 c.redraft.ensures.redrafted)
    c.redraft.ensures.known back known.resident
