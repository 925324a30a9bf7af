-- What calls leave of the shares of a page, where they give up just those that they take.
use Rattle.std.specs.Prelude.{◌≡◌, ◌≤◌, false, ℕ}
use Rattle.vm_rule.specs.Prelude.{no_held, put_at, seat_of}
use Rattle.vm_step.specs.Prelude.{View}

module _ {X : Type 0} where
  -- the pass has as many shares of page p as before, knows of it what it knew, and writes nothing back
  pub record KeepsShares (p : ℕ) (v w : View X) : Type 0 where
    pub start : w.start ≡ v.start
    pub shares : (seat_of w p).shares ≡ (seat_of v p).shares
    pub writing : (seat_of v p).writing ≡ false → (seat_of w p).writing ≡ false
    pub out : w.out ≡ v.out
    pub held : 1 ≤ (seat_of v p).shares → put_at no_held w.held p ≡ put_at no_held v.held p
