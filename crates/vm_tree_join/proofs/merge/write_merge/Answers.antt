use Rattle.std.proofs.Common.{◌∙◌, refl, replicate, sym}
use Rattle.vm_tree_split.specs.from_vm_step.Prelude.{view}
use Rattle.vm_tree_join.proofs.merge.write_merge.Goals as goal
use Rattle.vm_tree_join.proofs.Merging.{merge-all, merge-done}
use Rattle.vm_tree_split.proofs.from_vm_tree_draft.Splitting.{draft-past, drafts-three, first-apart, holding-past, redrafts-of, three-stay, told-before}

pub redraft-requires-clause-holds : goal.redraft-requires-clause-holds
redraft-requires-clause-holds g c = c.requires.can.held.0

pub redraft-requires-clause-made_of : goal.redraft-requires-clause-made_of
redraft-requires-clause-made_of g c = (refl, c.changes-changes.ensures)

pub redraft-requires-clause-draft : goal.redraft-requires-clause-draft
redraft-requires-clause-draft g c tells = (c.requires.can.drafts tells).0.draft

pub redraft-requires-2-clause-holds : goal.redraft-requires-2-clause-holds
redraft-requires-2-clause-holds g c =
    let ne = first-apart _ _ _ c.requires.can.apart in
    holding-past _ _ _ _ _ _ _ (λ e. ne.0 (sym e)) c.requires.can.held.1.0 c.redraft.ensures.redrafted

pub redraft-requires-2-clause-draft : goal.redraft-requires-2-clause-draft
redraft-requires-2-clause-draft g c tells =
    let ne = first-apart _ _ _ c.requires.can.apart in
    let h = c.requires.can.drafts (told-before _ _ _ c.redraft.ensures.redrafted tells) in
    (draft-past _ _ _ _ _ _ (λ e. ne.0 (sym e)) c.requires.can.held.1.0.owns h.1 c.redraft.ensures.redrafted).draft

pub redraft-requires-3-clause-holds : goal.redraft-requires-3-clause-holds
redraft-requires-3-clause-holds g c =
    let ne = first-apart _ _ _ c.requires.can.apart in
    holding-past _ _ _ _ _ _ _ (λ e. ne.2 (sym e))
    (holding-past _ _ _ _ _ _ _ (λ e. ne.1 (sym e)) c.requires.can.held.1.1.0 c.redraft.ensures.redrafted)
    c.redraft-2.ensures.redrafted

pub redraft-requires-3-clause-draft : goal.redraft-requires-3-clause-draft
redraft-requires-3-clause-draft g c tells =
    let ne = first-apart _ _ _ c.requires.can.apart in
    let h = c.requires.can.drafts (told-before _ _ _ c.redraft.ensures.redrafted (told-before _ _ _ c.redraft-2.ensures.redrafted tells)) in
    let held = holding-past _ _ _ _ _ _ _ (λ e. ne.1 (sym e)) c.requires.can.held.1.1.0 c.redraft.ensures.redrafted in
    (draft-past _ _ _ _ _ _ (λ e. ne.2 (sym e)) held.owns
    (draft-past _ _ _ _ _ _ (λ e. ne.1 (sym e)) c.requires.can.held.1.1.0.owns h.2 c.redraft.ensures.redrafted)
    c.redraft-2.ensures.redrafted).draft

pub release_group-requires-clause-may : goal.release_group-requires-clause-may
release_group-requires-clause-may g c =
    let r = c.requires.can in
    let ne = first-apart _ _ _ r.apart in
    let d1 = c.redraft.ensures in
    let d2 = c.redraft-2.ensures in
    let d3 = c.redraft-3.ensures in
    let v = view c.args.pass.now in
    let x1 = view c.redraft.new.pass in
    let x2 = view c.redraft-2.new.pass in
    let y = view c.redraft-3.new.pass in
    let three = drafts-three c.args.up.pid c.args.left.pid c.args.right.pid (g.K.Pages.words_of c.args.over.now)
    (g.K.Edits.edited (g.K.Pages.words_of c.args.over.now) c.args.edit) (g.K.Pages.words_of c.args.first.now)
    (g.K.Pages.words_of c.args.joined.now)
    (g.K.Pages.words_of c.args.second.now) (replicate g.K.Kind.layout.words 0) v x1 x2 y r.apart r.held.0.owns
    r.held.1.0.owns r.held.1.1.0.owns r.drafts d1.redrafted d2.redrafted d3.redrafted d1.draft d2.draft
    (λ t. d3.draft t ∙ c.zero-zero.ensures) in
    let stays = three-stay c.redraft.new.guard c.redraft-2.new.guard c.redraft-3.new.guard v x1 x2 y
    (redrafts-of c.args.up c.redraft.new.guard _ _ d1.guard d1.redrafted d1.drafts d1.known)
    (redrafts-of c.args.left c.redraft-2.new.guard _ _ d2.guard d2.redrafted d2.drafts d2.known)
    (redrafts-of c.args.right c.redraft-3.new.guard _ _ d3.guard d3.redrafted d3.drafts d3.known) in
    let h1 = holding-past _ _ _ _ _ _ _ (λ e. ne.1 (sym d1.guard.0 ∙ e))
    (holding-past _ _ _ _ _ _ _ (λ e. ne.0 (sym d1.guard.0 ∙ e)) d1.holds d2.redrafted) d3.redrafted in
    let h2 = holding-past _ _ _ _ _ _ _ (λ e. ne.2 (sym d2.guard.0 ∙ e)) d2.holds d3.redrafted in
    merge-all g.K.Kind.plain g.K.Kind.layout g.K.Kind.is_layout c.args.said.now c.args.up.pid c.args.left.pid
    c.args.right.pid _ _ _ _ _ v y c.redraft.new.guard c.redraft-2.new.guard c.redraft-3.new.guard
    stays d1.guard.0 d2.guard.0 d3.guard.0 three r.merge r.apart r.home h1 h2 d3.holds

pub returns-clause-merged : goal.returns-clause-merged
returns-clause-merged g c =
    let r = c.requires.can in
    let d1 = c.redraft.ensures in
    let d2 = c.redraft-2.ensures in
    let d3 = c.redraft-3.ensures in
    let v = view c.args.pass.now in
    let x1 = view c.redraft.new.pass in
    let x2 = view c.redraft-2.new.pass in
    let y = view c.redraft-3.new.pass in
    let three = drafts-three c.args.up.pid c.args.left.pid c.args.right.pid (g.K.Pages.words_of c.args.over.now)
    (g.K.Edits.edited (g.K.Pages.words_of c.args.over.now) c.args.edit) (g.K.Pages.words_of c.args.first.now)
    (g.K.Pages.words_of c.args.joined.now)
    (g.K.Pages.words_of c.args.second.now) (replicate g.K.Kind.layout.words 0) v x1 x2 y r.apart r.held.0.owns
    r.held.1.0.owns r.held.1.1.0.owns r.drafts d1.redrafted d2.redrafted d3.redrafted d1.draft d2.draft
    (λ t. d3.draft t ∙ c.zero-zero.ensures) in
    let stays = three-stay c.redraft.new.guard c.redraft-2.new.guard c.redraft-3.new.guard v x1 x2 y
    (redrafts-of c.args.up c.redraft.new.guard _ _ d1.guard d1.redrafted d1.drafts d1.known)
    (redrafts-of c.args.left c.redraft-2.new.guard _ _ d2.guard d2.redrafted d2.drafts d2.known)
    (redrafts-of c.args.right c.redraft-3.new.guard _ _ d3.guard d3.redrafted d3.drafts d3.known) in
    merge-done g.K.Kind.plain g.K.Kind.layout g.K.Kind.is_layout c.args.said.now c.args.up.pid c.args.left.pid
    c.args.right.pid _ _ _ _ _ v y c.redraft.new.guard c.redraft-2.new.guard c.redraft-3.new.guard
    stays d1.guard.0 d2.guard.0 d3.guard.0 three r.merge _ c.release_group.ensures.released
