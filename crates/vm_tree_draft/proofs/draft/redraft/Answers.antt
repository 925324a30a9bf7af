-- The first two words and then those of the span: what the two calls leave comes together.
use Rattle.std.proofs.Common.{◌<◌, ◌∙◌, ◌≡◌, ap, arith, length, List, min, slice_index, subst, sym, true, ℕ}
use Rattle.vm_rule.specs.Prelude.{draft_of}
use Rattle.vm_step.specs.Prelude.{Origin, view}
use Rattle.vm_tree_read.proofs.from_vm_tree_rule.Whole.{tree-size}
use Rattle.vm_tree_draft.specs.Drafts.{DraftsIn, IsDraftedAmong, IsRedrafted}
use Rattle.vm_tree_draft.proofs.Drafting.{differs-then, drafted-whole, drafts-then, pages-then, redrafted-then}
use Rattle.vm_tree_draft.proofs.draft.redraft.Goals as goal

pub redraft_words-requires-clause-places : goal.redraft_words-requires-clause-places
redraft_words-requires-clause-places g c = (omega arith, omega (arith, g.K.Kind.is_layout.some_words))

pub redraft_words-requires-clause-draft : goal.redraft_words-requires-clause-draft
redraft_words-requires-clause-draft g c tells k low = ap (λ (l : List ℕ). slice_index l k) (c.requires.draft tells)

pub redraft_words-requires-2-clause-draft : goal.redraft_words-requires-2-clause-draft
redraft_words-requires-2-clause-draft g c tells k low =
    let one = c.redraft_words.ensures in
    let first = one.draft (subst (λ (o : Origin). o.tells ≡ true) one.redrafted.elsewhere.steady.start tells) in
    subst (λ (n : ℕ). slice_index (draft_of (view c.redraft_words.new.pass) n) k ≡ slice_index
    (g.K.Pages.words_of c.args.before.now) k) (sym one.guard.0)
    (first.behind k (omega (
      arith,
      low,
      c.min-from.ensures,
      c.max.ensures,
      c.words.ensures,
      g.K.Kind.is_layout.some_words,
    )))

pub returns-clause-redrafted : goal.returns-clause-redrafted
returns-clause-redrafted g c =
    let two = c.redraft_words-2.ensures.redrafted in
    redrafted-then _ _ _ _ c.redraft_words.ensures.redrafted
    (subst (λ (n : ℕ). IsRedrafted n (view c.redraft_words.new.pass) (view c.redraft_words-2.new.pass))
    c.redraft_words.ensures.guard.0 two)

pub returns-clause-drafts : goal.returns-clause-drafts
returns-clause-drafts g c =
    let one = c.redraft_words.ensures.guard in
    let two = c.redraft_words-2.ensures.drafts in
    let here = subst (λ (n : ℕ). DraftsIn n c.redraft_words.new.guard.frame (view c.redraft_words.new.pass)
    (view c.redraft_words-2.new.pass)) one.0 two in
    drafts-then _ _ _ _ _ c.redraft_words.ensures.drafts
    (subst (λ (n : ℕ). DraftsIn c.args.guard.now.pid n (view c.redraft_words.new.pass)
    (view c.redraft_words-2.new.pass)) one.2 here)

pub returns-clause-known : goal.returns-clause-known
returns-clause-known g c = pages-then c.args.guard.now.pid _ _ _ c.redraft_words.ensures.redrafted
    c.redraft_words.ensures.known c.redraft_words-2.ensures.known

pub returns-clause-differ : goal.returns-clause-differ
returns-clause-differ g c = differs-then _ _ _ _ _ c.redraft_words.ensures.differ c.redraft_words-2.ensures.differ

pub returns-clause-draft : goal.returns-clause-draft
returns-clause-draft g c tells =
    let one = c.redraft_words.ensures in
    let p : ℕ = c.args.guard.now.pid in
    let before : List ℕ = g.K.Pages.words_of c.args.before.now in
    let after : List ℕ = g.W.Wanted.words c.args.after.now in
    let mid : List ℕ = draft_of (view c.redraft_words.new.pass) p in
    let second : IsDraftedAmong c.min-from.result c.min-end.result before after mid (draft_of (view c.redraft_words-2.new.pass) p) =
    subst (λ (n : ℕ). IsDraftedAmong c.min-from.result c.min-end.result before after
    (draft_of (view c.redraft_words.new.pass) n) (draft_of (view c.redraft_words-2.new.pass) n)) one.guard.0
    (c.redraft_words-2.ensures.draft (subst (λ (o : Origin). o.tells ≡ true) (sym one.redrafted.elsewhere.steady.start) tells)) in
    drafted-whole g.K.Kind.layout.words c.span-first.result.0 c.span-first.result.1 c.min-from.result c.min-end.result before after _ mid _
    (c.min-from.ensures ∙ ap (min c.max.result) c.words.ensures ∙ ap (λ (n : ℕ). min n g.K.Kind.layout.words)
    c.max.ensures) (c.min-end.ensures ∙ ap (min c.max-2.result) c.words-2.ensures
    ∙ ap (λ (n : ℕ). min n g.K.Kind.layout.words) c.max-2.ensures)
    (ap (λ (n : ℕ). length (draft_of (view c.redraft_words-2.new.pass) n))
    (sym (c.redraft_words-2.ensures.guard.0 ∙ one.guard.0)) ∙ c.redraft_words-2.ensures.holds.size
    ∙ tree-size _ _ _ c.redraft_words-2.ensures.goes.ready.table.is_shape.size c.args.words.now.sized.0
    c.args.words.now.size.takes) (one.size (omega arith))
    (λ i two lt outside. c.span-first.ensures.span before c.requires.made_of i two
    (subst (λ (n : ℕ). i < n) (sym c.requires.size) lt) outside) (one.draft tells) second
