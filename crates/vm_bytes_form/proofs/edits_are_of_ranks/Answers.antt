use Rattle.vm_bytes_form.proofs.EditLaws.{adds, takes, splits_in_two, root_grows}
use Rattle.vm_bytes_form.proofs.edits_are_of_ranks.Goals as goal

pub returns-clause-puts : goal.returns-clause-puts
returns-clause-puts c = λ old s v low high clean rises key. adds old clean s v key low high rises

pub returns-clause-dels : goal.returns-clause-dels
returns-clause-dels c = λ old s clean. takes old clean s

pub returns-clause-splits : goal.returns-clause-splits
returns-clause-splits c = λ old s clean full separates some. splits_in_two old clean full s separates some

pub returns-clause-roots : goal.returns-clause-roots
returns-clause-roots c = λ level left right s key. root_grows level left s right key
