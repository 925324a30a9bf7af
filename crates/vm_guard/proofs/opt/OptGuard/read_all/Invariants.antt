use Rattle.vm_guard.proofs.Prelude.{length, Loads, placed, take, view, ◌*◌, ◌+◌, ◌≡◌}
use Rattle.vm_step.specs.Prelude.{GoesOn}
use Rattle.vm_guard.specs.PageWords.{LoadsWords}
use Rattle.vm_guard.proofs.opt.OptGuard.read_all.Given as goal

-- the words of the turns so far were loaded, and stand in the page
abbrev pub invariant-loop-turn : goal.invariant-loop-turn
invariant-loop-turn g l = record {
  goes : GoesOn l.words g.B.Block.tells l.fn.pass l.pass;
  size : length l.into ≡ g.row.N;
  loads : Loads l.self.pid l.self.word l.self.frame (placed 0 (take (8 * l.turn) l.into)) (view l.fn.pass) (view l.pass);
  words : LoadsWords (take (8 * l.turn) l.into) (view l.fn.pass) (view l.pass);
}

-- and k words of this turn
abbrev pub invariant-loop-k : goal.invariant-loop-k
invariant-loop-k g l = record {
  goes : GoesOn l.words g.B.Block.tells l.fn.pass l.pass;
  size : length l.into ≡ g.row.N;
  loads : Loads l.self.pid l.self.word l.self.frame (placed 0 (take (8 * l.turn + l.k) l.into)) (view l.fn.pass) (view l.pass);
  words : LoadsWords (take (8 * l.turn + l.k) l.into) (view l.fn.pass) (view l.pass);
}
