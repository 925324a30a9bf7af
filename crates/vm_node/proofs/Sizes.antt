-- What follows of a page's size.
use Rattle.std.proofs.Common.{◌≡◌, ℕ, zero, suc, ◌+◌, ◌*◌, ◌/◌, ◌^◌, ◌<◌, ◌≤◌, arith}
use Rattle.std.proofs.Math.Nat.{pow-succ'}
use Rattle.vm_tree_model.specs.Fixed.{capacity}
use Rattle.vm_tree_model.proofs.FixedLaws.{size_is}
use Rattle.vm_page.specs.Sizes.{IsSize}
use Rattle.vm_node.specs.Halves.{half_of}
use Rattle.vm_node.specs.Sizes.{looks_for}

pub whole : (n : ℕ) → IsSize n → n ≡ 2 * capacity n + 8
whole n is = size_is (λ k. k ≡ 2 * capacity k + 8) n is (omega arith) (omega arith)

pub eight : (n : ℕ) → IsSize n → 8 ≤ n
eight n is = omega (arith, whole n is)

pub eight_some : (n : ℕ) → IsSize n → 0 < n
eight_some n is = omega (arith, eight n is)

pub few : (n : ℕ) → IsSize n → capacity n < 2 ^ looks_for n
few n is = size_is (λ k. capacity k < 2 ^ looks_for k) n is (omega arith) (omega arith)

-- a look halves what is left
pub halved : (x k : ℕ) → 0 < x → x < 2 ^ k → (j : ℕ) × (k ≡ j + 1) × (x / 2 < 2 ^ j)
halved x zero some lt = absurd (omega (arith, some, lt))
halved x (suc j) some lt = (j, omega arith, (let p = pow-succ' 2 j in omega (arith, lt, p)))

pub big : (n : ℕ) → IsSize n → 28 ≤ capacity n
big n is = size_is (λ k. 28 ≤ capacity k) n is (omega arith) (omega arith)

-- two halves are all pairs of a full node
pub halves : (n : ℕ) → IsSize n → capacity n ≡ 2 * half_of n
halves n is = size_is (λ k. capacity k ≡ 2 * half_of k) n is (omega arith) (omega arith)
