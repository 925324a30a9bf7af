use Rattle.std.proofs.Common.{[], ◌+◌, ◌∙◌, ◌∷◌, arith, subst, sym}
use Rattle.vm_rule.specs.Prelude.{last_of}
use Rattle.vm_step.specs.Prelude.{view}
use Rattle.vm_tree_read.specs.from_vm_guard.Guards.{IsHolding}
use Rattle.vm_tree_read.specs.from_vm_guard.Groups.{AreReleased, MayReleaseAll}
use Rattle.vm_tree_laws.specs.Plain.{ReleasesPlain}
use Rattle.vm_tree_read.proofs.from_vm_tree_rule.Whole.{tree-size, tree_place}
use Rattle.vm_tree_draft.proofs.Rooting.{four-all, four-apart, four-redrafted, four-released, four-stay, two-held}
use Rattle.vm_tree_draft.proofs.Rooting.{two-pid, two-redrafts, two-set}
use Rattle.vm_tree_draft.proofs.split.write_root.Goals as goal
use Rattle.vm_tree_draft.proofs.Splitting.{draft-past, holding-past, none-said, redrafts-of, told-before}

pub set-requires-2-clause-holds : goal.set-requires-2-clause-holds
set-requires-2-clause-holds g c = two-held c.args.meta c.set.new.self (view c.set.new.pass) c.set.ensures.guard c.set.ensures.holds

pub redraft-requires-clause-holds : goal.redraft-requires-clause-holds
redraft-requires-clause-holds g c =
    let ne = four-apart _ _ _ _ c.requires.can.apart in
    let t = two-set c.args.meta c.set.new.self c.args.top.pid (c.args.height + 1) (view c.args.pass.now)
    (view c.set.new.pass) (view c.set-2.new.pass) c.set.ensures.set c.set.ensures.guard c.set-2.ensures.set
    c.requires.can.same in
    holding-past _ _ _ _ _ _ _ (λ e. ne.ab (sym e)) c.requires.can.held.1.0 t.0

pub redraft-requires-clause-draft : goal.redraft-requires-clause-draft
redraft-requires-clause-draft g c tells =
    let ne = four-apart _ _ _ _ c.requires.can.apart in
    let t = two-set c.args.meta c.set.new.self c.args.top.pid (c.args.height + 1) (view c.args.pass.now)
    (view c.set.new.pass) (view c.set-2.new.pass) c.set.ensures.set c.set.ensures.guard c.set-2.ensures.set
    c.requires.can.same in
    let to = c.requires.can.told (told-before _ _ _ t.0 tells) in
    (draft-past _ _ _ _ _ _ (λ e. ne.ab (sym e)) c.requires.can.held.1.0.owns to.node t.0).draft

pub redraft-requires-2-clause-holds : goal.redraft-requires-2-clause-holds
redraft-requires-2-clause-holds g c =
    let ne = four-apart _ _ _ _ c.requires.can.apart in
    let t = two-set c.args.meta c.set.new.self c.args.top.pid (c.args.height + 1) (view c.args.pass.now)
    (view c.set.new.pass) (view c.set-2.new.pass) c.set.ensures.set c.set.ensures.guard c.set-2.ensures.set
    c.requires.can.same in
    holding-past _ _ _ _ _ _ _ (λ e. ne.bc (sym e))
    (holding-past _ _ _ _ _ _ _ (λ e. ne.ac (sym e)) c.requires.can.held.1.1.0 t.0) c.redraft.ensures.redrafted

pub redraft-requires-2-clause-draft : goal.redraft-requires-2-clause-draft
redraft-requires-2-clause-draft g c tells =
    let ne = four-apart _ _ _ _ c.requires.can.apart in
    let t = two-set c.args.meta c.set.new.self c.args.top.pid (c.args.height + 1) (view c.args.pass.now)
    (view c.set.new.pass) (view c.set-2.new.pass) c.set.ensures.set c.set.ensures.guard c.set-2.ensures.set
    c.requires.can.same in
    let h = holding-past _ _ _ _ _ _ _ (λ e. ne.ac (sym e)) c.requires.can.held.1.1.0 t.0 in
    let to = c.requires.can.told (told-before _ _ _ t.0 (told-before _ _ _ c.redraft.ensures.redrafted tells)) in
    (draft-past _ _ _ _ _ _ (λ e. ne.bc (sym e)) h.owns
    (draft-past _ _ _ _ _ _ (λ e. ne.ac (sym e)) c.requires.can.held.1.1.0.owns to.fresh.0 t.0)
    c.redraft.ensures.redrafted).draft ∙ sym c.zero-zero.ensures

pub redraft-requires-3-clause-holds : goal.redraft-requires-3-clause-holds
redraft-requires-3-clause-holds g c =
    let ne = four-apart _ _ _ _ c.requires.can.apart in
    let t = two-set c.args.meta c.set.new.self c.args.top.pid (c.args.height + 1) (view c.args.pass.now)
    (view c.set.new.pass) (view c.set-2.new.pass) c.set.ensures.set c.set.ensures.guard c.set-2.ensures.set
    c.requires.can.same in
    holding-past _ _ _ _ _ _ _ (λ e. ne.cd (sym e))
    (holding-past _ _ _ _ _ _ _ (λ e. ne.bd (sym e))
    (holding-past _ _ _ _ _ _ _ (λ e. ne.ad (sym e)) c.requires.can.held.1.1.1.0 t.0) c.redraft.ensures.redrafted)
    c.redraft-2.ensures.redrafted

pub redraft-requires-3-clause-draft : goal.redraft-requires-3-clause-draft
redraft-requires-3-clause-draft g c tells =
    let ne = four-apart _ _ _ _ c.requires.can.apart in
    let t = two-set c.args.meta c.set.new.self c.args.top.pid (c.args.height + 1) (view c.args.pass.now)
    (view c.set.new.pass) (view c.set-2.new.pass) c.set.ensures.set c.set.ensures.guard c.set-2.ensures.set
    c.requires.can.same in
    let h1 = holding-past _ _ _ _ _ _ _ (λ e. ne.ad (sym e)) c.requires.can.held.1.1.1.0 t.0 in
    let h2 = holding-past _ _ _ _ _ _ _ (λ e. ne.bd (sym e)) h1 c.redraft.ensures.redrafted in
    let to = c.requires.can.told
    (told-before _ _ _ t.0 (told-before _ _ _ c.redraft.ensures.redrafted
    (told-before _ _ _ c.redraft-2.ensures.redrafted tells))) in
    (draft-past _ _ _ _ _ _ (λ e. ne.cd (sym e)) h2.owns
    (draft-past _ _ _ _ _ _ (λ e. ne.bd (sym e)) h1.owns
    (draft-past _ _ _ _ _ _ (λ e. ne.ad (sym e)) c.requires.can.held.1.1.1.0.owns to.fresh.1 t.0)
    c.redraft.ensures.redrafted) c.redraft-2.ensures.redrafted).draft ∙ sym c.zero-zero.ensures

pub release_group-requires-clause-may : goal.release_group-requires-clause-may
release_group-requires-clause-may g c =
    let r = c.requires.can in
    let page = g.K.Pages.words_of c.args.page.now in
    let separator = g.K.Kind.rank c.split-separator.result in
    let left = g.K.Pages.words_of c.split-separator.new.left in
    let half = g.K.Pages.words_of c.split-separator.new.right in
    let crown = g.K.Pages.words_of c.new_root.new.page in
    let ne = four-apart _ _ _ _ r.apart in
    let t = two-set c.args.meta c.set.new.self c.args.top.pid (c.args.height + 1) (view c.args.pass.now)
    (view c.set.new.pass) (view c.set-2.new.pass) c.set.ensures.set c.set.ensures.guard c.set-2.ensures.set
    r.same in
    let d2 = c.redraft.ensures in
    let d3 = c.redraft-2.ensures in
    let d4 = c.redraft-3.ensures in
    let four = four-redrafted g.K.Kind.layout c.args.meta.pid c.args.low.pid c.args.right.pid c.args.top.pid
    (last_of (view c.args.pass.now) c.args.meta.pid).words _ page left half crown (view c.args.pass.now)
    (view c.set-2.new.pass) (view c.redraft.new.pass) (view c.redraft-2.new.pass) (view c.redraft-3.new.pass)
    ne r.held.0.owns r.held.1.0.owns r.held.1.1.0.owns r.held.1.1.1.0.owns c.args.height r.told t.0 t.1 d2.redrafted
    d3.redrafted d4.redrafted d2.draft d3.draft d4.draft in
    let stays = four-stay c.set-2.new.self c.redraft.new.guard c.redraft-2.new.guard c.redraft-3.new.guard
    (view c.args.pass.now) (view c.set-2.new.pass) (view c.redraft.new.pass) (view c.redraft-2.new.pass)
    (view c.redraft-3.new.pass)
    (two-redrafts g.K.Kind.layout.words c.args.meta c.set.new.self c.set-2.new.self c.args.top.pid (c.args.height + 1)
    (view c.args.pass.now) (view c.set.new.pass) (view c.set-2.new.pass) g.K.Kind.is_layout.some_words
    (tree-size _ _ _ c.requires.ready.table.is_shape.size c.args.words.now.sized.0 c.args.words.now.size.takes)
    r.held.0 c.set.ensures.set c.set.ensures.guard c.set-2.ensures.set c.set-2.ensures.guard)
    (redrafts-of c.args.low c.redraft.new.guard _ _ d2.guard d2.redrafted d2.drafts d2.known)
    (redrafts-of c.args.right c.redraft-2.new.guard _ _ d3.guard d3.redrafted d3.drafts d3.known)
    (redrafts-of c.args.top c.redraft-3.new.guard _ _ d4.guard d4.redrafted d4.drafts d4.known) in
    let first = two-pid c.args.meta c.set.new.self c.set-2.new.self c.set.ensures.guard c.set-2.ensures.guard in
    let h0 : IsHolding c.set-2.new.self.pid c.set-2.new.self.frame c.set-2.new.self.version c.set-2.new.self.dirty
    (view c.set-2.new.pass) = two-held c.set.new.self c.set-2.new.self (view c.set-2.new.pass)
    c.set-2.ensures.guard c.set-2.ensures.holds in
    let h1 = holding-past _ _ _ _ _ _ _ (λ e. ne.ad (sym first ∙ e))
    (holding-past _ _ _ _ _ _ _ (λ e. ne.ac (sym first ∙ e))
    (holding-past _ _ _ _ _ _ _ (λ e. ne.ab (sym first ∙ e)) h0 d2.redrafted) d3.redrafted) d4.redrafted in
    let h2 = holding-past _ _ _ _ _ _ _ (λ e. ne.bd (sym d2.guard.0 ∙ e))
    (holding-past _ _ _ _ _ _ _ (λ e. ne.bc (sym d2.guard.0 ∙ e)) d2.holds d3.redrafted) d4.redrafted in
    let h3 = holding-past _ _ _ _ _ _ _ (λ e. ne.cd (sym d3.guard.0 ∙ e)) d3.holds d4.redrafted in
    subst (λ o. MayReleaseAll (ReleasesPlain g.K.Kind.plain g.K.Kind.layout)
    (c.set-2.new.self ∷ c.redraft.new.guard ∷ c.redraft-2.new.guard ∷ c.redraft-3.new.guard ∷ []) o
    (view c.redraft-3.new.pass)) (sym (none-said _ c.as_ref.result c.as_ref.ensures.variant))
    (four-all g.K.Kind.plain g.K.Kind.layout g.K.Kind.is_layout g.K.Kind.spare g.K.Kind.spare_is c.args.meta.pid
    c.args.low.pid c.args.right.pid c.args.top.pid c.args.height separator page left half crown
    (view c.args.pass.now) (view c.redraft-3.new.pass) c.set-2.new.self c.redraft.new.guard c.redraft-2.new.guard
    c.redraft-3.new.guard stays four r.zero r.told r.full c.split-separator.ensures.halves
    c.new_root.ensures.root r.usable
    (tree-size _ _ _ c.redraft-3.ensures.goes.ready.table.is_shape.size c.args.words.now.sized.0
    c.args.words.now.size.takes) first d2.guard.0 d3.guard.0 d4.guard.0 h1 h2 h3 d4.holds r.apart r.home)

pub returns-clause-split : goal.returns-clause-split
returns-clause-split g c =
    let r = c.requires.can in
    let page = g.K.Pages.words_of c.args.page.now in
    let separator = g.K.Kind.rank c.split-separator.result in
    let left = g.K.Pages.words_of c.split-separator.new.left in
    let half = g.K.Pages.words_of c.split-separator.new.right in
    let crown = g.K.Pages.words_of c.new_root.new.page in
    let ne = four-apart _ _ _ _ r.apart in
    let t = two-set c.args.meta c.set.new.self c.args.top.pid (c.args.height + 1) (view c.args.pass.now)
    (view c.set.new.pass) (view c.set-2.new.pass) c.set.ensures.set c.set.ensures.guard c.set-2.ensures.set
    r.same in
    let d2 = c.redraft.ensures in
    let d3 = c.redraft-2.ensures in
    let d4 = c.redraft-3.ensures in
    let four = four-redrafted g.K.Kind.layout c.args.meta.pid c.args.low.pid c.args.right.pid c.args.top.pid
    (last_of (view c.args.pass.now) c.args.meta.pid).words _ page left half crown (view c.args.pass.now)
    (view c.set-2.new.pass) (view c.redraft.new.pass) (view c.redraft-2.new.pass) (view c.redraft-3.new.pass)
    ne r.held.0.owns r.held.1.0.owns r.held.1.1.0.owns r.held.1.1.1.0.owns c.args.height r.told t.0 t.1 d2.redrafted
    d3.redrafted d4.redrafted d2.draft d3.draft d4.draft in
    let stays = four-stay c.set-2.new.self c.redraft.new.guard c.redraft-2.new.guard c.redraft-3.new.guard
    (view c.args.pass.now) (view c.set-2.new.pass) (view c.redraft.new.pass) (view c.redraft-2.new.pass)
    (view c.redraft-3.new.pass)
    (two-redrafts g.K.Kind.layout.words c.args.meta c.set.new.self c.set-2.new.self c.args.top.pid (c.args.height + 1)
    (view c.args.pass.now) (view c.set.new.pass) (view c.set-2.new.pass) g.K.Kind.is_layout.some_words
    (tree-size _ _ _ c.requires.ready.table.is_shape.size c.args.words.now.sized.0 c.args.words.now.size.takes)
    r.held.0 c.set.ensures.set c.set.ensures.guard c.set-2.ensures.set c.set-2.ensures.guard)
    (redrafts-of c.args.low c.redraft.new.guard _ _ d2.guard d2.redrafted d2.drafts d2.known)
    (redrafts-of c.args.right c.redraft-2.new.guard _ _ d3.guard d3.redrafted d3.drafts d3.known)
    (redrafts-of c.args.top c.redraft-3.new.guard _ _ d4.guard d4.redrafted d4.drafts d4.known) in
    let first = two-pid c.args.meta c.set.new.self c.set-2.new.self c.set.ensures.guard c.set-2.ensures.guard in
    let h0 : IsHolding c.set-2.new.self.pid c.set-2.new.self.frame c.set-2.new.self.version c.set-2.new.self.dirty
    (view c.set-2.new.pass) = two-held c.set.new.self c.set-2.new.self (view c.set-2.new.pass)
    c.set-2.ensures.guard c.set-2.ensures.holds in
    let h1 = holding-past _ _ _ _ _ _ _ (λ e. ne.ad (sym first ∙ e))
    (holding-past _ _ _ _ _ _ _ (λ e. ne.ac (sym first ∙ e))
    (holding-past _ _ _ _ _ _ _ (λ e. ne.ab (sym first ∙ e)) h0 d2.redrafted) d3.redrafted) d4.redrafted in
    four-released g.K.Kind.plain g.K.Kind.layout g.K.Kind.is_layout g.K.Kind.spare g.K.Kind.spare_is c.args.meta.pid
    c.args.low.pid c.args.right.pid c.args.top.pid c.args.height separator page left half crown
    (view c.args.pass.now) (view c.redraft-3.new.pass) c.set-2.new.self c.redraft.new.guard c.redraft-2.new.guard
    c.redraft-3.new.guard stays four r.zero r.told r.full c.split-separator.ensures.halves
    c.new_root.ensures.root r.usable _
    (tree-size _ _ _ c.redraft-3.ensures.goes.ready.table.is_shape.size c.args.words.now.sized.0
    c.args.words.now.size.takes) h1 first d2.guard.0 d3.guard.0 d4.guard.0
    (subst (λ o. AreReleased c.set-2.new.self
    (c.redraft.new.guard ∷ c.redraft-2.new.guard ∷ c.redraft-3.new.guard ∷ []) o (view c.redraft-3.new.pass)
    (view c.release_group.new.pass)) (none-said _ c.as_ref.result c.as_ref.ensures.variant)
    c.release_group.ensures.released.0)

pub set-requires-clause-word : goal.set-requires-clause-word
set-requires-clause-word g c = tree_place _ _ _ c.args.words.now.sized.0 c.args.words.now.size.takes
    (omega (arith, g.K.Kind.is_layout.some_words))

pub set-requires-2-clause-word : goal.set-requires-2-clause-word
set-requires-2-clause-word g c = tree_place _ _ _ c.args.words.now.sized.0 c.args.words.now.size.takes
    (omega (arith, g.K.Kind.is_layout.some_words))
