-- What is said with words for keys reads as it is: what the tree keeps of it, and that its history is legal.
use Rattle.std.proofs.Common.{List, subst}
use Rattle.vm_map.specs.{declared.call.Said.Said, Map.Pairs}
use Rattle.vm_rule.specs.Prelude.{Entry, Kept, Start}
use Rattle.vm_tree_model.specs.Layout.{Layout}
use Rattle.vm_tree_laws.specs.{History.IsLegal, Keeps.KeepsTree, Plain.KeepsPlain, Plain.plain_history}
use Rattle.vm_tree_laws.proofs.Plainly.{plain_self}
use Rattle.vm_calls.specs.Calls.{as_said}

pub plain-legal : (m : Pairs) (h : List (Entry Said)) → IsLegal m (plain_history as_said h) → IsLegal m h
plain-legal m h l = subst (λ (e : List (Entry Said)). IsLegal m e) (plain_self h) l

pub plain-keeps : (L : Layout) (start : Start) (kept : Kept Said) → KeepsPlain as_said L start kept → KeepsTree L start kept
plain-keeps L start kept k = subst (λ (e : List (Entry Said)). KeepsTree L start (record kept { history = e })) (plain_self kept.history) k
