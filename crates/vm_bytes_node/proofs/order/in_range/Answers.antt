use Rattle.std.proofs.Common.{ℕ, List, ◌<◌, subst}
use Rattle.vm_bytes_form.specs.Strings.{IsString, RANK_END, rank}
use Rattle.vm_bytes_form.proofs.Ranks.{rank-below}
use Rattle.vm_bytes_node.proofs.order.in_range.Goals as goal

pub returns-clause-string : goal.returns-clause-string
returns-clause-string c = subst (IsString 64) c.bytes_of.ensures.value c.bytes_of.ensures.string

pub returns-clause-rank : goal.returns-clause-rank
returns-clause-rank c = subst (λ (s : List ℕ). rank s < RANK_END) c.bytes_of.ensures.value
    (rank-below 64 c.bytes_of.result.now c.bytes_of.ensures.string.bytes)
