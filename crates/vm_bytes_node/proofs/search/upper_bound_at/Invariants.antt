-- The pair before `from` has no key above, and the one at `upto` has one.
use Rattle.std.proofs.Common.{◌-◌, ◌<◌, ◌≤◌, ◌+◌, ◌≡◌, MatchOption}
use Rattle.std.specs.Option.{option_map}
use Rattle.vm_bytes_form.specs.Strings.{rank}
use Rattle.vm_bytes_node.proofs.KeySearch.{IsKeySearched}
use Rattle.vm_bytes_node.proofs.search.upper_bound_at.Given as goal

abbrev pub invariant-halves : goal.invariant-halves
invariant-halves g l = record {
  ready : g.P.Place.ready l.place;
  size : g.P.Place.size l.place ≡ 512;
  order : l.from ≤ l.upto;
  inside : l.upto ≤ l.count;
  searched : IsKeySearched g.P.Place.loads l.fn.place l.place l.count (rank l.key + 1) l.from l.upto (rank l.low) (option_map rank l.next);
  low : rank l.low ≤ rank l.key;
  next : MatchOption l.next (Unit {0}) (λ above. rank l.key < rank above);
}

abbrev pub decreases-halves : goal.decreases-halves
decreases-halves g l = l.upto - l.from
