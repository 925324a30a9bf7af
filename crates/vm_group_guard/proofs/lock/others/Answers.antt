-- One page more.
use Rattle.std.proofs.lemmas.List.{length-append}
use Rattle.vm_group_guard.proofs.PagesUnder.{numbers-more}
use Rattle.vm_group_guard.proofs.Prelude.{[], ap, arith, length, List, numbers, suc, sym, ℕ, ◌++◌, ◌+◌, ◌∙◌, ◌∷◌, ◌≡◌}
use Rattle.vm_group_guard.proofs.lock.others.Goals as goal

pub loop-k-init : goal.loop-k-init
unfolding numbers
loop-k-init c = record {
  count = ap (λ (l : List ℕ). length l + 1) c.new-others.ensures;
  pages = ap (λ (l : List ℕ). c.args.head ∷ l) c.new-others.ensures;
}

pub loop-k-preserved : goal.loop-k-preserved
loop-k-preserved c =
    let i = c.loop-k.invariant in
    let next : suc c.loop-k.k ≡ c.loop-k.k + 1 = omega arith in
    record {
      count = ap (λ (l : List ℕ). length l + 1) c.push.ensures.items
          ∙ ap (λ n. n + 1) (length-append c.loop-k.others.items ((c.args.head + c.loop-k.k) ∷ []))
          ∙ ap (λ n. n + 1) i.count;
      pages = ap (λ (l : List ℕ). c.args.head ∷ l) c.push.ensures.items
          ∙ ap (λ (l : List ℕ). l ++ (c.args.head + c.loop-k.k) ∷ []) i.pages
          ∙ sym (numbers-more c.args.head c.loop-k.k)
          ∙ ap (numbers c.args.head) next;
    }
