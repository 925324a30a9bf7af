-- Lists that begin with others, and one of a list of which each is so.
use Rattle.std.specs.List.{AllByRecursion}
use Rattle.std.proofs.Common.{get_or, ◌++◌, ◌<◌, ◌∙◌, ◌∷◌, [], ap, append_assoc, arith, length, List, suc, zero, ℕ}
use Rattle.vm_rule.specs.Prelude.{StartsWith}

pub starts-then : {A : Type 0} (l m n : List A) → StartsWith l m → StartsWith m n → StartsWith l n
starts-then l m n a b = (b.0 ++ a.0, a.1 ∙ ap (λ (y : List _). y ++ a.0) b.1 ∙ append_assoc n b.0 a.0)

-- one of a list of which each is so
pub all-at : {A : Type 0} (P : A → Type 0) (xs : List A) (i : ℕ) (d : A) → AllByRecursion P xs → i < length xs → P (get_or xs i d)
all-at P [] i d a l = absurd (omega arith)
all-at P (x ∷ xs) zero d a l = a.0
all-at P (x ∷ xs) (suc i) d a l = all-at P xs i d a.1 (omega arith)
