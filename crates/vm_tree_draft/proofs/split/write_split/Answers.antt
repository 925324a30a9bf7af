use Rattle.std.proofs.Common.{[], ◌∙◌, ◌∷◌, arith, refl, subst, sym}
use Rattle.vm_tree_model.specs.Edits.{AddsPair}
use Rattle.vm_tree_model.specs.Page.{IsInner}
use Rattle.vm_step.specs.Prelude.{view}
use Rattle.vm_tree_read.specs.from_vm_guard.Groups.{AreReleased, MayReleaseAll}
use Rattle.vm_tree_laws.specs.Plain.{ReleasesPlain}
use Rattle.vm_tree_read.proofs.from_vm_tree_rule.Whole.{tree-size}
use Rattle.vm_tree_draft.proofs.split.write_split.Goals as goal
use Rattle.vm_tree_draft.proofs.Splitting.{draft-past, first-apart, holding-past, none-said, redrafts-of, three-all}
use Rattle.vm_tree_draft.proofs.Splitting.{three-redrafted, three-released, three-stay, told-before}

pub unreachable-requires : goal.unreachable-requires
unreachable-requires g c =
    let short = c.in-Err.ensures.refused in
    let room = c.requires.can.room in
    absurd (omega (arith, short, room, g.K.Kind.is_layout.grows (g.K.Kind.rank c.split-separator.result)))

pub redraft-requires-clause-made_of : goal.redraft-requires-clause-made_of
redraft-requires-clause-made_of g c = (refl, c.changes-changes.ensures)

pub redraft-requires-clause-draft : goal.redraft-requires-clause-draft
redraft-requires-clause-draft g c tells = (c.requires.can.told tells).above.draft

pub redraft-requires-2-clause-holds : goal.redraft-requires-2-clause-holds
redraft-requires-2-clause-holds g c =
    let ne = first-apart _ _ _ c.requires.can.apart in
    holding-past _ _ _ _ _ _ _ (λ e. ne.0 (sym e)) c.requires.can.held.1.0 c.redraft.ensures.redrafted

pub redraft-requires-2-clause-draft : goal.redraft-requires-2-clause-draft
redraft-requires-2-clause-draft g c tells =
    let ne = first-apart _ _ _ c.requires.can.apart in
    let to = c.requires.can.told (told-before _ _ _ c.redraft.ensures.redrafted tells) in
    (draft-past _ _ _ _ _ _ (λ e. ne.0 (sym e)) c.requires.can.held.1.0.owns to.node c.redraft.ensures.redrafted).draft

pub redraft-requires-3-clause-holds : goal.redraft-requires-3-clause-holds
redraft-requires-3-clause-holds g c =
    let ne = first-apart _ _ _ c.requires.can.apart in
    holding-past _ _ _ _ _ _ _ (λ e. ne.2 (sym e))
    (holding-past _ _ _ _ _ _ _ (λ e. ne.1 (sym e)) c.requires.can.held.1.1.0 c.redraft.ensures.redrafted)
    c.redraft-2.ensures.redrafted

pub redraft-requires-3-clause-draft : goal.redraft-requires-3-clause-draft
redraft-requires-3-clause-draft g c tells =
    let ne = first-apart _ _ _ c.requires.can.apart in
    let to = c.requires.can.told (told-before _ _ _ c.redraft.ensures.redrafted (told-before _ _ _ c.redraft-2.ensures.redrafted tells)) in
    let h = holding-past _ _ _ _ _ _ _ (λ e. ne.1 (sym e)) c.requires.can.held.1.1.0 c.redraft.ensures.redrafted in
    (draft-past _ _ _ _ _ _ (λ e. ne.2 (sym e)) h.owns
    (draft-past _ _ _ _ _ _ (λ e. ne.1 (sym e)) c.requires.can.held.1.1.0.owns to.fresh
    c.redraft.ensures.redrafted) c.redraft-2.ensures.redrafted).draft ∙ sym c.zero-zero.ensures

pub release_group-requires-clause-may : goal.release_group-requires-clause-may
release_group-requires-clause-may g c =
    let r = c.requires.can in
    let ne = first-apart _ _ _ r.apart in
    let d1 = c.redraft.ensures in
    let d2 = c.redraft-2.ensures in
    let d3 = c.redraft-3.ensures in
    let over = g.K.Pages.words_of c.args.over.now in
    let page = g.K.Pages.words_of c.args.page.now in
    let separator = g.K.Kind.rank c.split-separator.result in
    let above = g.K.Edits.edited over c.in-Ok.edit in
    let left = g.K.Pages.words_of c.split-separator.new.left in
    let half = g.K.Pages.words_of c.split-separator.new.right in
    let three = three-redrafted g.K.Kind.layout c.args.up.pid c.args.low.pid c.args.right.pid over above page left
    half (view c.args.pass.now) (view c.redraft.new.pass) (view c.redraft-2.new.pass) (view c.redraft-3.new.pass)
    r.apart r.held.0.owns r.held.1.0.owns r.held.1.1.0.owns r.told d1.redrafted d2.redrafted d3.redrafted d1.draft d2.draft d3.draft in
    let stays = three-stay c.redraft.new.guard c.redraft-2.new.guard c.redraft-3.new.guard (view c.args.pass.now)
    (view c.redraft.new.pass) (view c.redraft-2.new.pass) (view c.redraft-3.new.pass)
    (redrafts-of c.args.up c.redraft.new.guard _ _ d1.guard d1.redrafted d1.drafts d1.known)
    (redrafts-of c.args.low c.redraft-2.new.guard _ _ d2.guard d2.redrafted d2.drafts d2.known)
    (redrafts-of c.args.right c.redraft-3.new.guard _ _ d3.guard d3.redrafted d3.drafts d3.known) in
    let adds : IsInner g.K.Kind.layout over → AddsPair g.K.Kind.layout over above separator c.args.right.pid = c.in-Ok.ensures.node in
    let h1 = holding-past _ _ _ _ _ _ _ (λ e. ne.1 (sym d1.guard.0 ∙ e))
    (holding-past _ _ _ _ _ _ _ (λ e. ne.0 (sym d1.guard.0 ∙ e)) d1.holds d2.redrafted) d3.redrafted in
    let h2 = holding-past _ _ _ _ _ _ _ (λ e. ne.2 (sym d2.guard.0 ∙ e)) d2.holds d3.redrafted in
    subst (λ o. MayReleaseAll (ReleasesPlain g.K.Kind.plain g.K.Kind.layout)
    (c.redraft.new.guard ∷ c.redraft-2.new.guard ∷ c.redraft-3.new.guard ∷ []) o (view c.redraft-3.new.pass))
    (sym (none-said _ c.as_ref.result c.as_ref.ensures.variant))
    (three-all g.K.Kind.plain g.K.Kind.layout g.K.Kind.is_layout g.K.Kind.spare g.K.Kind.spare_is _ _ _ separator over
    above page left half (view c.args.pass.now) (view c.redraft-3.new.pass) c.redraft.new.guard
    c.redraft-2.new.guard c.redraft-3.new.guard stays three r.told r.room r.full
    c.split-separator.ensures.halves adds r.usable
    (tree-size _ _ _ c.redraft-3.ensures.goes.ready.table.is_shape.size c.args.words.now.sized.0
    c.args.words.now.size.takes) d1.guard.0 d2.guard.0 d3.guard.0 h1 h2 d3.holds r.apart r.home)

pub returns-clause-split : goal.returns-clause-split
returns-clause-split g c =
    let r = c.requires.can in
    let d1 = c.redraft.ensures in
    let d2 = c.redraft-2.ensures in
    let d3 = c.redraft-3.ensures in
    let over = g.K.Pages.words_of c.args.over.now in
    let page = g.K.Pages.words_of c.args.page.now in
    let separator = g.K.Kind.rank c.split-separator.result in
    let above = g.K.Edits.edited over c.in-Ok.edit in
    let left = g.K.Pages.words_of c.split-separator.new.left in
    let half = g.K.Pages.words_of c.split-separator.new.right in
    let three = three-redrafted g.K.Kind.layout c.args.up.pid c.args.low.pid c.args.right.pid over above page left
    half (view c.args.pass.now) (view c.redraft.new.pass) (view c.redraft-2.new.pass) (view c.redraft-3.new.pass)
    r.apart r.held.0.owns r.held.1.0.owns r.held.1.1.0.owns r.told d1.redrafted d2.redrafted d3.redrafted d1.draft d2.draft d3.draft in
    let stays = three-stay c.redraft.new.guard c.redraft-2.new.guard c.redraft-3.new.guard (view c.args.pass.now)
    (view c.redraft.new.pass) (view c.redraft-2.new.pass) (view c.redraft-3.new.pass)
    (redrafts-of c.args.up c.redraft.new.guard _ _ d1.guard d1.redrafted d1.drafts d1.known)
    (redrafts-of c.args.low c.redraft-2.new.guard _ _ d2.guard d2.redrafted d2.drafts d2.known)
    (redrafts-of c.args.right c.redraft-3.new.guard _ _ d3.guard d3.redrafted d3.drafts d3.known) in
    let adds : IsInner g.K.Kind.layout over → AddsPair g.K.Kind.layout over above separator c.args.right.pid = c.in-Ok.ensures.node in
    three-released g.K.Kind.plain g.K.Kind.layout g.K.Kind.is_layout g.K.Kind.spare g.K.Kind.spare_is _ _ _ separator
    over above page left half (view c.args.pass.now) (view c.redraft-3.new.pass) c.redraft.new.guard
    c.redraft-2.new.guard c.redraft-3.new.guard stays three r.told r.room r.full
    c.split-separator.ensures.halves adds r.usable _ d1.guard.0 d2.guard.0 d3.guard.0
    (subst (λ o. AreReleased c.redraft.new.guard (c.redraft-2.new.guard ∷ c.redraft-3.new.guard ∷ []) o
    (view c.redraft-3.new.pass) (view c.release_group.new.pass))
    (none-said _ c.as_ref.result c.as_ref.ensures.variant) c.release_group.ensures.released.0)

pub redraft-requires-clause-holds : goal.redraft-requires-clause-holds
redraft-requires-clause-holds g c = c.requires.can.held.0
