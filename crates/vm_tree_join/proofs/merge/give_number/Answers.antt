use Rattle.std.proofs.Common.{◌%◌, ◌/◌, ◌^◌, ◌≡◌, arith, subst, sym, true, ℕ}
use Rattle.std.proofs.lemmas.Nat.{one_shl}
use Rattle.vm_event.specs.Prelude.{in_mask}
use Rattle.vm_rule.specs.FreeNumbers.{IsGivenBy}
use Rattle.vm_tree_split.specs.from_vm_step.Prelude.{view}
use Rattle.vm_tree_split.proofs.from_vm_guard.FreeBits.{mask-some}
use Rattle.vm_tree_join.proofs.OneBit.{bit-here, bit-only}
use Rattle.vm_tree_join.proofs.merge.give_number.Goals as goal

pub pgive-requires-clause-legal : goal.pgive-requires-clause-legal
pgive-requires-clause-legal g c =
    let p = c.args.page in
    let bit : 2 ^ (p % 64) ≡ _ = sym (one_shl (p % 64) 64 (omega arith)) in
    let here = subst (λ (m : ℕ). in_mask (p / 64) m p ≡ true) bit (bit-here p) in
    let only = subst (λ (m : ℕ). (q : ℕ) → in_mask (p / 64) m q ≡ true → q ≡ p) bit (bit-only p) in
    record {
      some = mask-some (p / 64) _ p here;
      inside = λ q e. let same = only q e in let pages = c.requires.ready.table.is_shape.pages in let page =
          c.requires.page in omega (arith, same, page, pages);
      mine = λ tells q e. subst (IsGivenBy (view c.args.pass.now)) (sym (only q e)) (c.requires.mine tells);
    }

pub returns-clause-given : goal.returns-clause-given
returns-clause-given g c =
    let p = c.args.page in
    let bit : 2 ^ (p % 64) ≡ _ = sym (one_shl (p % 64) 64 (omega arith)) in (
      _,
      _,
      _,
      subst (λ (m : ℕ). in_mask (p / 64) m p ≡ true) bit (bit-here p),
      subst (λ (m : ℕ). (q : ℕ) → in_mask (p / 64) m q ≡ true → q ≡ p) bit (bit-only p),
      c.pgive.ensures.told,
    )
