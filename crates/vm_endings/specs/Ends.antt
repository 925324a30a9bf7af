-- What is kept of a run after it: the end of a pool with a tree, of either size of page, or with byte keys.
use Rattle.std.specs.Prelude.{ℕ}
use Rattle.vm_bytes_laws.specs.declared.call.KeySaid.{KeySaid}
use Rattle.vm_serve.specs.from_vm_pool.declared_ended_Ended.{Ended}
use Rattle.vm_serve.specs.Served.{TreeEnd}
use Rattle.vm_endings.specs.declared.ends.Ends.{Ends}
use Rattle.vm_endings.specs.declared.ends.Ends.TheVariants.{BytesTree, LargeTree, Nothing, Tree}

-- an end is kept: of a tree of words P holds of it and of how many words the pages had, of one with byte keys Q
abbrev pub OfAnyEnd : Ends → ((n : ℕ) → TreeEnd n → Type 0) → ((U : Type 0) → Ended U KeySaid → Type 0) → Type 0
OfAnyEnd Nothing P Q = ⊥
OfAnyEnd (Tree end) P Q = P 64 end
OfAnyEnd (LargeTree end) P Q = P 512 end
OfAnyEnd (BytesTree end) P Q = Q _ end

-- an end of a tree of words is kept, and this holds of it and of how many words the pages had
abbrev pub OfEnd : Ends → ((n : ℕ) → TreeEnd n → Type 0) → Type 0
OfEnd after P = OfAnyEnd after P (λ U end. ⊥)
