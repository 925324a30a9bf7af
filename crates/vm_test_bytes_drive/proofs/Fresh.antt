-- The first pass of a pool has fresh parts enough.
use Rattle.std.proofs.Common.{[], ◌<◌, ◌∙◌, ◌≡◌, ◌≤◌, ap, arith, Bool, length, List, refl, suc, zero, ℕ}
use Rattle.vm_rule.specs.Prelude.{numbers, started_shape, Stored, unborn}
use Rattle.vm_rule.specs.Begun.{begun}
use Rattle.vm_step.specs.Prelude.{View}

numbers-long : (a n : ℕ) → length (numbers a n) ≡ n
unfolding numbers
numbers-long a zero = refl
numbers-long a (suc n) = ap suc (numbers-long (suc a) n)

pub fresh-enough : {X : Type 0} (size : ℕ) (tells : Bool) (version next : ℕ) (free : List ℕ) (frames count : ℕ)
    (blocks : List Stored) (v : View X)
    → v ≡ begun (unborn (started_shape size tells version next free [] frames blocks)) → count ≤ 64
    → count ≤ length v.fresh
fresh-enough {X = X} size tells version next free frames count blocks v is few =
    let long : length v.fresh ≡ 4294967295 = ap (λ (x : View X). length x.fresh) is ∙ numbers-long 1 4294967295 in
    omega arith
