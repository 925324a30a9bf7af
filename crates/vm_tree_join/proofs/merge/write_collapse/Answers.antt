use Rattle.std.proofs.Common.{◌∙◌, arith, replicate, sym}
use Rattle.vm_rule.specs.Prelude.{last_of}
use Rattle.vm_tree_split.specs.from_vm_step.Prelude.{view}
use Rattle.vm_tree_split.specs.from_vm_guard.Guards.{IsHolding}
use Rattle.vm_tree_split.proofs.from_vm_tree_rule.Whole.{tree-size, tree_place}
use Rattle.vm_tree_join.proofs.merge.write_collapse.Goals as goal
use Rattle.vm_tree_join.proofs.Collapsing.{collapse-all, collapse-done}
use Rattle.vm_tree_split.proofs.from_vm_tree_draft.Rooting.{drafts-four, four-apart, four-stay, two-held, two-pid, two-redrafts, two-set}
use Rattle.vm_tree_split.proofs.from_vm_tree_draft.Splitting.{draft-past, holding-past, redrafts-of, told-before}

pub set-requires-clause-holds : goal.set-requires-clause-holds
set-requires-clause-holds g c = c.requires.can.held.0

pub set-requires-clause-word : goal.set-requires-clause-word
set-requires-clause-word g c = tree_place _ _ _ c.args.words.now.sized.0 c.args.words.now.size.takes
    (omega (arith, g.K.Kind.is_layout.some_words))

pub set-requires-2-clause-holds : goal.set-requires-2-clause-holds
set-requires-2-clause-holds g c = two-held c.args.meta c.set.new.self (view c.set.new.pass) c.set.ensures.guard c.set.ensures.holds

pub set-requires-2-clause-word : goal.set-requires-2-clause-word
set-requires-2-clause-word g c = tree_place _ _ _ c.args.words.now.sized.0 c.args.words.now.size.takes
    (omega (arith, g.K.Kind.is_layout.some_words))

pub redraft-requires-clause-holds : goal.redraft-requires-clause-holds
redraft-requires-clause-holds g c =
    let ne = four-apart _ _ _ _ c.requires.can.apart in
    let t = two-set c.args.meta c.set.new.self c.args.left.pid 0 (view c.args.pass.now) (view c.set.new.pass)
    (view c.set-2.new.pass) c.set.ensures.set c.set.ensures.guard c.set-2.ensures.set c.requires.can.same in
    holding-past _ _ _ _ _ _ _ (λ e. ne.ab (sym e)) c.requires.can.held.1.0 t.0

pub redraft-requires-clause-draft : goal.redraft-requires-clause-draft
redraft-requires-clause-draft g c tells =
    let ne = four-apart _ _ _ _ c.requires.can.apart in
    let t = two-set c.args.meta c.set.new.self c.args.left.pid 0 (view c.args.pass.now) (view c.set.new.pass)
    (view c.set-2.new.pass) c.set.ensures.set c.set.ensures.guard c.set-2.ensures.set c.requires.can.same in
    let h = c.requires.can.drafts (told-before _ _ _ t.0 tells) in
    (draft-past _ _ _ _ _ _ (λ e. ne.ab (sym e)) c.requires.can.held.1.0.owns h.0 t.0).draft

pub redraft-requires-2-clause-holds : goal.redraft-requires-2-clause-holds
redraft-requires-2-clause-holds g c =
    let ne = four-apart _ _ _ _ c.requires.can.apart in
    let t = two-set c.args.meta c.set.new.self c.args.left.pid 0 (view c.args.pass.now) (view c.set.new.pass)
    (view c.set-2.new.pass) c.set.ensures.set c.set.ensures.guard c.set-2.ensures.set c.requires.can.same in
    holding-past _ _ _ _ _ _ _ (λ e. ne.bc (sym e))
    (holding-past _ _ _ _ _ _ _ (λ e. ne.ac (sym e)) c.requires.can.held.1.1.0 t.0) c.redraft.ensures.redrafted

pub redraft-requires-2-clause-draft : goal.redraft-requires-2-clause-draft
redraft-requires-2-clause-draft g c tells =
    let ne = four-apart _ _ _ _ c.requires.can.apart in
    let t = two-set c.args.meta c.set.new.self c.args.left.pid 0 (view c.args.pass.now) (view c.set.new.pass)
    (view c.set-2.new.pass) c.set.ensures.set c.set.ensures.guard c.set-2.ensures.set c.requires.can.same in
    let held = holding-past _ _ _ _ _ _ _ (λ e. ne.ac (sym e)) c.requires.can.held.1.1.0 t.0 in
    let h = c.requires.can.drafts (told-before _ _ _ t.0 (told-before _ _ _ c.redraft.ensures.redrafted tells)) in
    (draft-past _ _ _ _ _ _ (λ e. ne.bc (sym e)) held.owns
    (draft-past _ _ _ _ _ _ (λ e. ne.ac (sym e)) c.requires.can.held.1.1.0.owns h.1 t.0)
    c.redraft.ensures.redrafted).draft

pub redraft-requires-3-clause-holds : goal.redraft-requires-3-clause-holds
redraft-requires-3-clause-holds g c =
    let ne = four-apart _ _ _ _ c.requires.can.apart in
    let t = two-set c.args.meta c.set.new.self c.args.left.pid 0 (view c.args.pass.now) (view c.set.new.pass)
    (view c.set-2.new.pass) c.set.ensures.set c.set.ensures.guard c.set-2.ensures.set c.requires.can.same in
    holding-past _ _ _ _ _ _ _ (λ e. ne.cd (sym e))
    (holding-past _ _ _ _ _ _ _ (λ e. ne.bd (sym e))
    (holding-past _ _ _ _ _ _ _ (λ e. ne.ad (sym e)) c.requires.can.held.1.1.1.0 t.0) c.redraft.ensures.redrafted)
    c.redraft-2.ensures.redrafted

pub redraft-requires-3-clause-draft : goal.redraft-requires-3-clause-draft
redraft-requires-3-clause-draft g c tells =
    let ne = four-apart _ _ _ _ c.requires.can.apart in
    let t = two-set c.args.meta c.set.new.self c.args.left.pid 0 (view c.args.pass.now) (view c.set.new.pass)
    (view c.set-2.new.pass) c.set.ensures.set c.set.ensures.guard c.set-2.ensures.set c.requires.can.same in
    let h1 = holding-past _ _ _ _ _ _ _ (λ e. ne.ad (sym e)) c.requires.can.held.1.1.1.0 t.0 in
    let h2 = holding-past _ _ _ _ _ _ _ (λ e. ne.bd (sym e)) h1 c.redraft.ensures.redrafted in
    let h = c.requires.can.drafts
    (told-before _ _ _ t.0 (told-before _ _ _ c.redraft.ensures.redrafted
    (told-before _ _ _ c.redraft-2.ensures.redrafted tells))) in
    (draft-past _ _ _ _ _ _ (λ e. ne.cd (sym e)) h2.owns
    (draft-past _ _ _ _ _ _ (λ e. ne.bd (sym e)) h1.owns
    (draft-past _ _ _ _ _ _ (λ e. ne.ad (sym e)) c.requires.can.held.1.1.1.0.owns h.2 t.0)
    c.redraft.ensures.redrafted) c.redraft-2.ensures.redrafted).draft

pub release_group-requires-clause-may : goal.release_group-requires-clause-may
release_group-requires-clause-may g c =
    let r = c.requires.can in
    let ne = four-apart _ _ _ _ r.apart in
    let v = view c.args.pass.now in
    let x1 = view c.set-2.new.pass in
    let x2 = view c.redraft.new.pass in
    let x3 = view c.redraft-2.new.pass in
    let y = view c.redraft-3.new.pass in
    let t = two-set c.args.meta c.set.new.self c.args.left.pid 0 v (view c.set.new.pass) x1 c.set.ensures.set
    c.set.ensures.guard c.set-2.ensures.set r.same in
    let d2 = c.redraft.ensures in
    let d3 = c.redraft-2.ensures in
    let d4 = c.redraft-3.ensures in
    let four = drafts-four c.args.meta.pid c.args.root.pid c.args.left.pid c.args.right.pid
    (last_of v c.args.meta.pid).words _ (g.K.Pages.words_of c.args.over.now) (replicate g.K.Kind.layout.words 0)
    (g.K.Pages.words_of c.args.first.now)
    (g.K.Pages.words_of c.args.joined.now) (g.K.Pages.words_of c.args.second.now) (replicate g.K.Kind.layout.words 0)
    v x1 x2 x3 y ne r.held.0.owns r.held.1.0.owns r.held.1.1.0.owns r.held.1.1.1.0.owns r.drafts
    t.0 t.1 d2.redrafted d3.redrafted d4.redrafted (λ e. d2.draft e ∙ c.zero-zero.ensures) d3.draft
    (λ e. d4.draft e ∙ c.zero-zero.ensures) in
    let size = tree-size _ _ _ c.requires.ready.table.is_shape.size c.args.words.now.sized.0 c.args.words.now.size.takes in
    let stays = four-stay c.set-2.new.self c.redraft.new.guard c.redraft-2.new.guard c.redraft-3.new.guard v x1 x2 x3 y
    (two-redrafts g.K.Kind.layout.words c.args.meta c.set.new.self c.set-2.new.self c.args.left.pid 0 v
    (view c.set.new.pass) x1 g.K.Kind.is_layout.some_words size r.held.0 c.set.ensures.set c.set.ensures.guard
    c.set-2.ensures.set c.set-2.ensures.guard)
    (redrafts-of c.args.root c.redraft.new.guard _ _ d2.guard d2.redrafted d2.drafts d2.known)
    (redrafts-of c.args.left c.redraft-2.new.guard _ _ d3.guard d3.redrafted d3.drafts d3.known)
    (redrafts-of c.args.right c.redraft-3.new.guard _ _ d4.guard d4.redrafted d4.drafts d4.known) in
    let first = two-pid c.args.meta c.set.new.self c.set-2.new.self c.set.ensures.guard c.set-2.ensures.guard in
    let h0 : IsHolding c.set-2.new.self.pid c.set-2.new.self.frame c.set-2.new.self.version c.set-2.new.self.dirty
    x1 = two-held c.set.new.self c.set-2.new.self x1 c.set-2.ensures.guard c.set-2.ensures.holds in
    let h1 = holding-past _ _ _ _ _ _ _ (λ e. ne.ad (sym first ∙ e))
    (holding-past _ _ _ _ _ _ _ (λ e. ne.ac (sym first ∙ e))
    (holding-past _ _ _ _ _ _ _ (λ e. ne.ab (sym first ∙ e)) h0 d2.redrafted) d3.redrafted) d4.redrafted in
    let h2 = holding-past _ _ _ _ _ _ _ (λ e. ne.bd (sym d2.guard.0 ∙ e))
    (holding-past _ _ _ _ _ _ _ (λ e. ne.bc (sym d2.guard.0 ∙ e)) d2.holds d3.redrafted) d4.redrafted in
    let h3 = holding-past _ _ _ _ _ _ _ (λ e. ne.cd (sym d3.guard.0 ∙ e)) d3.holds d4.redrafted in
    collapse-all g.K.Kind.plain g.K.Kind.layout g.K.Kind.is_layout c.args.said.now c.args.meta.pid c.args.root.pid
    c.args.left.pid c.args.right.pid (g.K.Pages.words_of c.args.over.now) (g.K.Pages.words_of c.args.first.now)
    (g.K.Pages.words_of c.args.joined.now)
    (g.K.Pages.words_of c.args.second.now) v y c.set-2.new.self c.redraft.new.guard c.redraft-2.new.guard
    c.redraft-3.new.guard stays first d2.guard.0 d3.guard.0 d4.guard.0 four r.used r.merge r.apart r.home h1 h2 h3
    d4.holds

pub returns-clause-merged : goal.returns-clause-merged
returns-clause-merged g c =
    let r = c.requires.can in
    let ne = four-apart _ _ _ _ r.apart in
    let v = view c.args.pass.now in
    let x1 = view c.set-2.new.pass in
    let x2 = view c.redraft.new.pass in
    let x3 = view c.redraft-2.new.pass in
    let y = view c.redraft-3.new.pass in
    let t = two-set c.args.meta c.set.new.self c.args.left.pid 0 v (view c.set.new.pass) x1 c.set.ensures.set
    c.set.ensures.guard c.set-2.ensures.set r.same in
    let d2 = c.redraft.ensures in
    let d3 = c.redraft-2.ensures in
    let d4 = c.redraft-3.ensures in
    let four = drafts-four c.args.meta.pid c.args.root.pid c.args.left.pid c.args.right.pid
    (last_of v c.args.meta.pid).words _ (g.K.Pages.words_of c.args.over.now) (replicate g.K.Kind.layout.words 0)
    (g.K.Pages.words_of c.args.first.now)
    (g.K.Pages.words_of c.args.joined.now) (g.K.Pages.words_of c.args.second.now) (replicate g.K.Kind.layout.words 0)
    v x1 x2 x3 y ne r.held.0.owns r.held.1.0.owns r.held.1.1.0.owns r.held.1.1.1.0.owns r.drafts
    t.0 t.1 d2.redrafted d3.redrafted d4.redrafted (λ e. d2.draft e ∙ c.zero-zero.ensures) d3.draft
    (λ e. d4.draft e ∙ c.zero-zero.ensures) in
    let size = tree-size _ _ _ c.requires.ready.table.is_shape.size c.args.words.now.sized.0 c.args.words.now.size.takes in
    let stays = four-stay c.set-2.new.self c.redraft.new.guard c.redraft-2.new.guard c.redraft-3.new.guard v x1 x2 x3 y
    (two-redrafts g.K.Kind.layout.words c.args.meta c.set.new.self c.set-2.new.self c.args.left.pid 0 v
    (view c.set.new.pass) x1 g.K.Kind.is_layout.some_words size r.held.0 c.set.ensures.set c.set.ensures.guard
    c.set-2.ensures.set c.set-2.ensures.guard)
    (redrafts-of c.args.root c.redraft.new.guard _ _ d2.guard d2.redrafted d2.drafts d2.known)
    (redrafts-of c.args.left c.redraft-2.new.guard _ _ d3.guard d3.redrafted d3.drafts d3.known)
    (redrafts-of c.args.right c.redraft-3.new.guard _ _ d4.guard d4.redrafted d4.drafts d4.known) in
    let first = two-pid c.args.meta c.set.new.self c.set-2.new.self c.set.ensures.guard c.set-2.ensures.guard in
    let h0 : IsHolding c.set-2.new.self.pid c.set-2.new.self.frame c.set-2.new.self.version c.set-2.new.self.dirty
    x1 = two-held c.set.new.self c.set-2.new.self x1 c.set-2.ensures.guard c.set-2.ensures.holds in
    let h1 = holding-past _ _ _ _ _ _ _ (λ e. ne.ad (sym first ∙ e))
    (holding-past _ _ _ _ _ _ _ (λ e. ne.ac (sym first ∙ e))
    (holding-past _ _ _ _ _ _ _ (λ e. ne.ab (sym first ∙ e)) h0 d2.redrafted) d3.redrafted) d4.redrafted in
    collapse-done g.K.Kind.plain g.K.Kind.layout g.K.Kind.is_layout c.args.said.now c.args.meta.pid c.args.root.pid
    c.args.left.pid c.args.right.pid (g.K.Pages.words_of c.args.over.now) (g.K.Pages.words_of c.args.first.now)
    (g.K.Pages.words_of c.args.joined.now)
    (g.K.Pages.words_of c.args.second.now) v y c.set-2.new.self c.redraft.new.guard c.redraft-2.new.guard
    c.redraft-3.new.guard stays first d2.guard.0 d3.guard.0 d4.guard.0 four r.used r.merge _
    (tree-size _ _ _ c.redraft-3.ensures.goes.ready.table.is_shape.size c.args.words.now.sized.0
    c.args.words.now.size.takes) (λ e. ne.ac (r.zero ∙ sym e)) h1 c.release_group.ensures.released
