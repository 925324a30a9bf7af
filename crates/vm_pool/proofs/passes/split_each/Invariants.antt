use Rattle.std.proofs.Common.{All}
use Rattle.vm_pool.proofs.Prelude.{IsReady, IsSamePass, length, map, PassesSplit, vec_capacity, vec_len, View, view, ◌+◌, ◌≡◌, ◌≤◌}
use Rattle.vm_pool.proofs.passes.split_each.Given as goal

abbrev pub invariant-loop-i : goal.invariant-loop-i
invariant-loop-i g l =
    IsSamePass l.initial.pass l.pass
    × IsReady l.words.table.shared.key g.B.Block.tells l.words.table.shared.table_id l.pass
    × ((v : View g.row.U-Said.Denot) → PassesSplit v (map (λ p. view p) l.initial.given.items) (view l.initial.pass)
    → PassesSplit v (map (λ p. view p) l.given.items) (view l.pass))
    × All (λ p. IsReady l.words.table.shared.key g.B.Block.tells l.words.table.shared.table_id p) l.given.items
    × (length l.given.items ≡ l.i)
    × (l.i + length (view l.pass).fresh ≡ length (view l.initial.pass).fresh)
    × (l.n ≤ vec_capacity l.given)
    × (vec_len l.given ≡ l.i)
