-- One block more for an image's pages.
use Rattle.std.proofs.Common.{◌≡◌, ℕ, ◌+◌, ◌<◌, List, [], ◌∷◌, ◌++◌, length, get_or, inl, inr, sym, ap, ◌∙◌, subst, arith}
use Rattle.std.proofs.lemmas.Bool.{cases_lt}
use Rattle.std.proofs.lemmas.List.{get_or_append_left}
use Rattle.std.proofs.Math.Seq.{get_or-append_seam}
use Rattle.vm_page.specs.Pages.{page_at}
use Rattle.vm_block.specs.Memory.{IsNewBlock}
use Rattle.vm_block.specs.declared.memory.MemBlock.{MemBlock}
use Rattle.vm_image.specs.Blocks.{numbers_for}
use Rattle.vm_image.specs.declared.blocks.PlannedFault.{PlannedFault}

pub fresh_more : {n : ℕ} (blocks more : List (MemBlock n)) (block : MemBlock n) (pages : List (List ℕ))
    (plan : List PlannedFault) (p : ℕ) (words numbers : List ℕ)
    → more ≡ blocks ++ block ∷ [] → length blocks ≡ p → words ≡ page_at pages p → numbers ≡ numbers_for plan p
    → IsNewBlock block words numbers
    → ((k : ℕ) (d : MemBlock n) → k < p → IsNewBlock (get_or blocks k d) (page_at pages k) (numbers_for plan k))
    → (k : ℕ) (d : MemBlock n) → k < p + 1 → IsNewBlock (get_or more k d) (page_at pages k) (numbers_for plan k)
fresh_more {n = n} blocks more block pages plan p words numbers is long words_are numbers_are new before k d lt = elim (cases_lt k p) [
  | inl less ↦
      let same : get_or more k d ≡ get_or blocks k d = ap (λ (l : List (MemBlock n)). get_or l k d) is
      ∙ get_or_append_left blocks (block ∷ []) d k (omega (arith, less, long)) in
      subst (λ b. IsNewBlock b (page_at pages k) (numbers_for plan k)) (sym same) (before k d less)
  | inr last ↦
      let at : k ≡ length blocks = omega (arith, lt, last, long) in
      let same : get_or more k d ≡ block = ap (λ (l : List (MemBlock n)). get_or l k d) is
      ∙ ap (λ i. get_or (blocks ++ block ∷ []) i d) at ∙ get_or-append_seam blocks block [] d in
      let place : p ≡ k = omega (arith, at, long) in
      let here : IsNewBlock block (page_at pages p) (numbers_for plan p) = rw (← words_are, ← numbers_are) new in
      subst (λ b. IsNewBlock b (page_at pages k) (numbers_for plan k)) (sym same) (rw (← place) here)
]
