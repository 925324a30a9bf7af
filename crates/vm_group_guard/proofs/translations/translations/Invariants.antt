use Rattle.vm_group_guard.proofs.Prelude.{AreTranslated, length, view, ◌≡◌}
use Rattle.vm_step.specs.Prelude.{GoesOn}
use Rattle.vm_group_guard.proofs.translations.translations.Given as goal

-- the first k words were loaded
abbrev pub invariant-loop-k : goal.invariant-loop-k
invariant-loop-k g l = record {
  goes : GoesOn l.words g.B.Block.tells l.fn.pass l.pass;
  count : length l.found.items ≡ l.k;
  told : AreTranslated l.head l.found.items (view l.fn.pass) (view l.pass);
}
