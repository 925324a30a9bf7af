-- The pair before `from` has no key above, and the one at `upto` has one.
use Rattle.std.proofs.Common.{◌-◌, ◌<◌, ◌≤◌, ◌+◌, ◌≡◌, MatchOption}
use Rattle.vm_node.proofs.Searches.{IsSearched}
use Rattle.vm_node.proofs.pairs.upper_bound_at.Given as goal

abbrev pub invariant-halves : goal.invariant-halves
invariant-halves g l = record {
  ready : g.P.Place.ready l.place;
  size : g.P.Place.size l.place ≡ l.words;
  order : l.from ≤ l.upto;
  inside : l.upto ≤ l.count;
  searched : IsSearched l.words g.P.Place.loads l.fn.place l.place l.count (l.key + 1) l.from l.upto l.low l.next;
  low : l.low ≤ l.key;
  next : MatchOption l.next (Unit {0}) (λ above. l.key < above);
}

abbrev pub decreases-halves : goal.decreases-halves
decreases-halves g l = l.upto - l.from
