use Rattle.std.proofs.Common.{◌*◌, ◌+◌, ◌-◌, ◌≡◌, ◌≤◌, length, List, true, ℕ}
use Rattle.vm_step.specs.Prelude.{GoesOn, view}
use Rattle.vm_tree_rule.specs.{Few.LoadsHeight, Leaves.ReadsOn, Seeks.ArePassed, Seeks.HasLoaded, Seeks.TellSpare}
use Rattle.vm_tree_rule.specs.{Standing.IsOpened, Standing.IsStand, Ways.StandsOnWay}
use Rattle.vm_tree_rule.specs.Resident.{IsKnownNow, KnowsLocks, KnowsResident}
use Rattle.vm_tree_rule.proofs.seek.seek_full.Given as goal

-- the page on the way was looked at and is not full, and its level is the number of steps that are left
abbrev pub invariant-loop : goal.invariant-loop
invariant-loop g l = record {
  goes : GoesOn l.words g.B.Block.tells l.fn.pass l.pass;
  size : (length (g.K.Pages.words_of l.over) ≡ g.K.Kind.layout.words) × (length (g.K.Pages.words_of l.page) ≡ g.K.Kind.layout.words);
  reads : ReadsOn (view l.fn.pass) (view l.pass);
  opened : IsOpened (view l.fn.pass) l.stand.guard.pid l.stand.guard.word l.stand.guard.frame (view l.pass);
  counted : (loaded : List (ℕ × ℕ)) × HasLoaded (view l.pass) l.stand.guard.pid loaded × TellSpare g.K.Kind.layout
      g.K.Kind.spare loaded l.left;
  room : g.K.Kind.layout.growth ≤ l.left;
  left : l.counter ≤ l.end;
  words : LoadsHeight (2 + g.K.Kind.bounds.spare + (g.K.Kind.bounds.child + g.K.Kind.bounds.spare) * l.counter) l.end
      (view l.fn.pass) (view l.pass);
  way : (passed : List (ℕ × List (ℕ × ℕ))) × ArePassed g.K.Kind.layout g.K.Kind.spare (view l.fn.pass)
      (g.K.Kind.rank l.key) passed l.stand.guard.pid (view l.pass);
  known : g.B.Block.tells ≡ true → KnowsResident (view l.fn.pass) → IsKnownNow l.stand.guard.pid l.stand.guard.word (view l.pass);
  locks : KnowsLocks (view l.pass);
  level : l.stand.level ≡ l.end - l.counter;
  stands : IsStand g.K.Kind.layout g.K.Kind.rank (g.K.Kind.rank l.key) l.stand (view l.pass);
  reached : StandsOnWay g.K.Kind.layout g.K.Kind.rank (view l.fn.pass) (g.K.Kind.rank l.key) l.stand (view l.pass);
}
