-- So far the key has what the words that were loaded show of it.
use Rattle.std.proofs.Common.{◌≡◌, ◌≤◌, ◌-◌, length, take, drop}
use Rattle.vm_page.specs.Bytes.{bytes_of_words}
use Rattle.vm_node.specs.Loads.{Tells}
use Rattle.vm_bytes_node.proofs.slots.string_at.Given as goal

abbrev pub invariant-loop-i : goal.invariant-loop-i
invariant-loop-i g l = record {
  ready : g.P.Place.ready l.place;
  size : g.P.Place.size l.place ≡ 512;
  from : l.from ≤ l.i;
  fits : length l.key ≤ l.long;
  told : Tells 512 g.P.Place.loads l.fn.place (l.i - l.from) l.place
      (λ page. l.key ≡ take l.long (bytes_of_words (take (l.i - l.from) (drop l.from page))));
}
