use Rattle.std.proofs.Common.{◌≡◌, ℕ, List, Option, Bool, sym, ap, unwrap_or, ◌∙◌, arith}
use Rattle.std.specs.Option.{option_map}
use Rattle.vm_node.specs.Loads.{IsAnswer}
use Rattle.vm_node.proofs.Telling.{told_then, told_so}
use Rattle.vm_bytes_form.specs.Bytes.{high_rank}
use Rattle.vm_bytes_form.specs.Forms.{node_in}
use Rattle.vm_bytes_form.specs.Strings.{RANK_END, rank}
use Rattle.vm_bytes_node.proofs.HeaderLemmas.{high_or_end}
use Rattle.vm_bytes_node.proofs.fences.has_fences_at.Goals as goal

both : (words low : List ℕ) (high wanted : Option (List ℕ)) (wanted_low : ℕ) (r : Bool) → low ≡ (node_in words).low
    → high ≡ (node_in words).high
    → rank low ≡ wanted_low → IsAnswer r (high_rank high ≡ high_rank wanted)
    → IsAnswer r ((rank (node_in words).low ≡ wanted_low) × (high_rank (node_in words).high ≡ unwrap_or (option_map rank wanted) RANK_END))
both words low high wanted wanted_low r low_read high_read same is = (
  λ t. (ap rank (sym low_read) ∙ same, ap high_rank (sym high_read) ∙ is.0 t ∙ high_or_end wanted),
  λ f fences. is.1 f (ap high_rank high_read ∙ fences.1 ∙ sym (high_or_end wanted)),
)

pub returns-then-same_key-clause-told : goal.returns-then-same_key-clause-told
returns-then-same_key-clause-told g c =
    told_so (omega arith) (told_then g.met.P.Place.join c.low_at.ensures.told c.high_at.ensures.told)
    (λ words size read. both words _ _ _ _ _ read.0 read.1 (c.same_key.ensures.rank.0 c.if-same_key.true) c.same_high.ensures)
