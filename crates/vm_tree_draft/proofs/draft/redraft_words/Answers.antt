use Rattle.std.proofs.Common.{◌<◌, ◌∙◌, ◌≡◌, ap, arith, length, refl, subst, sym, ℕ}
use Rattle.vm_rule.specs.Prelude.{draft_of}
use Rattle.vm_step.specs.Prelude.{view}
use Rattle.vm_tree_read.specs.from_vm_guard.Guards.{IsSet}
use Rattle.vm_tree_read.proofs.from_vm_tree_rule.Whole.{tree-size, tree_place}
use Rattle.vm_tree_draft.proofs.Drafting.{differs-more, differs-self, drafted-none, drafted-same, drafted-set}
use Rattle.vm_tree_draft.proofs.Drafting.{drafts-more, drafts-self, pages-more, pages-self, redrafted-self, set-more}
use Rattle.vm_tree_draft.proofs.draft.redraft_words.Goals.{else-word, then-word}
use Rattle.vm_step.proofs.Going.{goes-then}
use Rattle.vm_tree_draft.proofs.draft.redraft_words.Goals as goal

pub loop-i-init : goal.loop-i-init
loop-i-init g c = record {
  goes = record { same = (refl, refl); ready = c.requires.ready };
  holds = c.requires.holds;
  guard = (refl, refl, refl);
  drafts = drafts-self _ _ _;
  redrafted = redrafted-self _ _;
  known = pages-self c.args.guard.now.pid _;
  differ = differs-self _ _ _;
  size = λ l. absurd (omega (arith, l));
  drafted = λ tells. drafted-none _ _ _ _ (c.requires.draft tells);
}

pub loop-i-preserved : goal.loop-i-preserved
loop-i-preserved g c =
    let i = c.loop-i.invariant in
    let before = g.K.Pages.words_of c.args.before.now in
    let wanted = g.W.Wanted.words c.args.after.now in
    let inside : c.loop-i.i < g.K.Kind.layout.words = omega (arith, c.loop-i-test.true, c.requires.places.1) in
    let whole : (view c.loop-i.pass).start.size ≡ g.K.Kind.layout.words =
    tree-size _ _ _ i.goes.ready.table.is_shape.size c.args.words.now.sized.0 c.args.words.now.size.takes in
    elim c.if-word.branch [
      | then-word w ↦ rw (w.pass-is, w.guard-is) (
          let s : IsSet c.args.guard.now.pid c.loop-i.guard.frame c.loop-i.guard.dirty c.loop-i.i c.word-word.result
          (view c.loop-i.pass) (view w.set.new.pass) =
          subst (λ (n : ℕ). IsSet n c.loop-i.guard.frame c.loop-i.guard.dirty c.loop-i.i c.word-word.result
          (view c.loop-i.pass) (view w.set.new.pass)) i.guard.0 w.set.ensures.set in
          record {
            goes = goes-then i.goes w.set.ensures.goes;
            holds = rw w.set.ensures.guard w.set.ensures.holds;
            guard = rw w.set.ensures.guard i.guard;
            drafts = drafts-more _ _ _ _ _ _ _ _ i.drafts
                (subst (λ (n : ℕ). IsSet c.args.guard.now.pid n c.loop-i.guard.dirty c.loop-i.i c.word-word.result
                (view c.loop-i.pass) (view w.set.new.pass)) i.guard.2 s);
            redrafted = set-more _ _ _ _ _ _ _ _ i.redrafted s;
            known = pages-more _ _ _ _ _ (view c.args.pass.now) (view c.loop-i.pass) _
                (subst (λ (n : ℕ). n < (view c.loop-i.pass).start.pages) i.guard.0 i.holds.page) i.holds.frame_is
                (subst (λ (n : ℕ). c.loop-i.i < n) (sym whole) inside) i.redrafted i.known s;
            differ = differs-more before wanted _ _ _ c.loop-i.i c.word-word.result _ _ _ i.differ s
                c.word-word.ensures.word
                (λ e. w.if-word.true (c.word-word.ensures.word ∙ sym e ∙ sym c.word.ensures.word));
            size = λ _. c.word-word.ensures.size ∙ c.requires.size;
            drafted = λ tells.
                drafted-set c.args.from c.loop-i.i c.word-word.result before wanted _
                (draft_of (view c.loop-i.pass) c.args.guard.now.pid) _ c.loop-i.auto.i
                (subst (λ (n : ℕ). c.loop-i.i < n)
                (sym (ap (λ (n : ℕ). length (draft_of (view c.loop-i.pass) n)) (sym i.guard.0) ∙ i.holds.size
                ∙ whole)) inside) s.draft c.word-word.ensures.word (i.drafted tells);
          })
      | else-word w ↦ rw (w.pass-is, w.guard-is) record {
        goes = i.goes;
        holds = i.holds;
        guard = i.guard;
        drafts = i.drafts;
        redrafted = i.redrafted;
        known = i.known;
        differ = i.differ;
        size = λ _. c.word-word.ensures.size ∙ c.requires.size;
        drafted = λ tells. drafted-same c.args.from c.loop-i.i before wanted _ _
            (sym c.word-word.ensures.word ∙ w.if-word.false ∙ c.word.ensures.word) (i.drafted tells);
      }
    ]

pub returns-clause-size : goal.returns-clause-size
returns-clause-size g c some = c.loop-i.invariant.size (omega (arith, some, c.loop-i-test.false))

pub set-requires-clause-word : goal.set-requires-clause-word
set-requires-clause-word g c = tree_place _ _ _ c.args.words.now.sized.0 c.args.words.now.size.takes
    (omega (arith, c.loop-i-test.true, c.requires.places.1))
