-- Calls with words as keys are a kind of calls that are served.
use Rattle.std.proofs.Common.{◌*◌, ◌+◌, ◌-◌, ◌≤◌, length, subst, ℕ}
use Rattle.vm_page.specs.Sizes.{IsSize}
use Rattle.vm_tree_model.specs.{Count.node_count, Fixed.fixed}
use Rattle.vm_tree_model.proofs.FixedLaws.{sized_layout}
use Rattle.vm_node.specs.Halves.{half_of}
use Rattle.vm_tree_laws.specs.{History.gones, History.news, Keeps.merge_weight}
use Rattle.vm_tree_laws.proofs.{Fullness.room_used, Plainly.plain_self}
use Rattle.vm_drive.proofs.Prelude.{plain-keeps, word_laws}
use Rattle.vm_serve.specs.Serving.{IsServing, word_serving}
use Rattle.vm_serve.proofs.Widening.{all-widened, other-half}

pub word_kind : (n : ℕ) → IsSize n → IsServing (word_serving n)
word_kind n sized = record {
  laws = word_laws n;
  layout_laws = sized_layout n sized;
  reading = plain_self;
  paid = λ start kept keeps none high.
      subst (λ (k : ℕ). (half_of n - 1) * length start.pages ≤ k * node_count (fixed n) start.pages + 2 * news kept.history
      + merge_weight (fixed n) * gones kept.history + (half_of n - 1) * (start.next + 1)) (other-half n sized)
      (room_used (fixed n) start kept (plain-keeps (fixed n) start kept keeps) none high);
  beside = λ tells pages e w tree next telling began lists replies passes shown parts.
      all-widened n sized tells pages e tree next telling began lists replies w passes shown parts;
}
