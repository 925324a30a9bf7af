-- Each turn a pair more comes.
use Rattle.std.proofs.Common.{◌≡◌, ℕ, List, sym, subst, ap, ◌∙◌, arith}
use Rattle.vm_bytes_form.specs.Forms.{KeyEntry, IsFitting, node_in}
use Rattle.vm_bytes_edit.specs.Drafts.{entries_between, IsDraft, with_more}
use Rattle.vm_bytes_edit.proofs.Entries.{between_none, comes_next, fits_next, with_none}
use Rattle.vm_bytes_edit.proofs.draft.Draft.copy.Goals as goal

pub loop-i-init : goal.loop-i-init
loop-i-init c = record {
  fits = c.requires.fits;
  draft = λ n draft whole begun fits. subst (IsDraft c.args.self.now.page c.args.self.now.count c.args.self.now.end)
      (sym (ap (λ (l : List KeyEntry). with_more n l) (between_none c.args.from (node_in c.args.page.now).entries
      (omega (arith, whole, begun))) ∙ with_none n)) draft;
}

pub loop-i-preserved : goal.loop-i-preserved
loop-i-preserved c = record {
  fits = c.add.ensures.fits;
  draft = λ n draft whole begun fits.
      let es = (node_in c.args.page.now).entries in
      let inside = c.loop-i-test.true in
      let next = comes_next n c.args.from c.loop-i.i c.args.upto es _ _ c.loop-i.auto.i inside whole
      (c.pair_of-key.ensures (omega (arith, inside, whole))) in
      subst (IsDraft c.add.new.self.page c.add.new.self.count c.add.new.self.end) next
      (c.add.ensures.draft (with_more n (entries_between c.args.from c.loop-i.i es)) (c.loop-i.invariant.draft n draft whole begun fits)
      (subst (IsFitting 512) (sym next) (fits_next n c.args.from c.loop-i.i c.args.upto es c.loop-i.auto.i inside whole fits)));
}

pub returns-clause-draft : goal.returns-clause-draft
returns-clause-draft c = λ n draft whole begun fits.
    let past = c.loop-i-test.false in
    let ended = c.loop-i.auto.i-end begun in
    let here : c.loop-i.i ≡ c.args.upto = omega (arith, past, ended) in
    subst (λ (i : ℕ). IsDraft c.loop-i.self.page c.loop-i.self.count c.loop-i.self.end
    (with_more n (entries_between c.args.from i (node_in c.args.page.now).entries)))
    here (c.loop-i.invariant.draft n draft whole begun fits)
