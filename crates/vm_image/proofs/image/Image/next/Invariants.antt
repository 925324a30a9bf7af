use Rattle.std.proofs.Common.{ℕ, ◌≤◌, ◌<◌, length}
use Rattle.vm_page.specs.Pages.{page_at}
use Rattle.vm_tree_model.specs.Fixed.{fixed}
use Rattle.vm_tree_model.specs.Page.{IsFree}
use Rattle.vm_image.proofs.image.Image.next.Given as goal

abbrev pub decreases-loop-next : goal.decreases-loop-next
decreases-loop-next g l = l.next

abbrev pub invariant-loop-next : goal.invariant-loop-next
invariant-loop-next g l = (l.next ≤ length l.self) × ((p : ℕ) → l.next ≤ p → p < length l.self → IsFree (fixed g.row.N) (page_at l.self p))
