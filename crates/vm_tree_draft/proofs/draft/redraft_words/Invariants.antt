use Rattle.std.proofs.Common.{◌<◌, ◌≡◌, length, true}
use Rattle.vm_rule.specs.Prelude.{draft_of}
use Rattle.vm_step.specs.Prelude.{GoesOn, view}
use Rattle.vm_tree_read.specs.from_vm_guard.Guards.{IsHolding}
use Rattle.vm_tree_draft.specs.Drafts.{DraftsIn, IsDraftedAmong, IsRedrafted, KnowsSameStates, SetsDiffering}
use Rattle.vm_tree_draft.proofs.draft.redraft_words.Given as goal

-- the draft is drafted from the first place on and before i, where blocks tell their words
abbrev pub invariant-loop-i : goal.invariant-loop-i
invariant-loop-i g l = record {
  goes : GoesOn l.words g.B.Block.tells l.fn.pass l.pass;
  holds : IsHolding l.guard.pid l.guard.frame l.guard.version l.guard.dirty (view l.pass);
  guard : (l.guard.pid ≡ l.fn.guard.pid) × (l.guard.version ≡ l.fn.guard.version) × (l.guard.frame ≡ l.fn.guard.frame);
  drafts : DraftsIn l.fn.guard.pid l.fn.guard.frame (view l.fn.pass) (view l.pass);
  redrafted : IsRedrafted l.fn.guard.pid (view l.fn.pass) (view l.pass);
  known : KnowsSameStates (view l.fn.pass) (view l.pass);
  differ : SetsDiffering (g.K.Pages.words_of l.before) (g.W.Wanted.words l.after) (view l.fn.pass) (view l.pass);
  size : l.from < l.i → length (g.W.Wanted.words l.after) ≡ g.K.Kind.layout.words;
  drafted : (view l.fn.pass).start.tells ≡ true
      → IsDraftedAmong l.from l.i (g.K.Pages.words_of l.before) (g.W.Wanted.words l.after)
      (draft_of (view l.fn.pass) l.fn.guard.pid) (draft_of (view l.pass) l.fn.guard.pid);
}
