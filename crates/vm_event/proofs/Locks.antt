-- The locks of a page, through the events.
use Rattle.std.proofs.Common.{⊎_elim, ◌+◌, ◌-◌, ◌<◌, ◌∙◌, ◌≡◌, ◌≢◌, ◌≤◌, ◌⊎◌, ap, arith, false, None, refl, suc, sym, true, zero, ℕ}
use Rattle.std.proofs.lemmas.Bool.{cases_eq, false≢true}
use Rattle.std.proofs.lemmas.Bool.Decides.{nat_tests}
use Rattle.vm_event.specs.Prelude.{EVICTED, LOCKED, LocksInv, MARKED, MAX_VERSION, one_share_more, OneHolder}
use Rattle.vm_event.specs.Prelude.{share_count, sum_below, UNLOCKED, unshared, upd}
use Rattle.vm_event.specs.declared.event.Seat.{Seat}
use Rattle.vm_event.proofs.Upd.{sum_below-change, upd-tells}

-- a page with an exclusive holder is locked
pub locked-from_owner : {actors state version : ℕ} → {seats : ℕ → Seat} → LocksInv actors state version seats
    → (a : ℕ) → (seats a).exclusive ≡ true → state ≡ LOCKED
locked-from_owner {actors} {state} {version} {seats} i a e =
    ⊎_elim (λ y. y) (λ ne. absurd (false≢true (sym (i.unheld ne a) ∙ e))) (cases_eq state LOCKED)

-- a change of a seat that leaves its locks
pub locks-seat : (actors state version : ℕ) (seats : ℕ → Seat) (a : ℕ) (s : Seat)
    → LocksInv actors state version seats → s.shares ≡ (seats a).shares → s.exclusive ≡ (seats a).exclusive
    → s.writing ≡ (seats a).writing → LocksInv actors state version (upd seats a s)
locks-seat actors state version seats a s i e x w =
    record {
      known = i.known;
      in_range = i.in_range;
      shares = grind (arith, upd-tells, i.shares);
      unheld = λ ne. grind (arith, upd-tells, i.unheld ne);
      held = λ q. let one : OneHolder actors seats = i.held q in
          record {
            holder = one.holder;
            named = one.named;
            owns = grind (arith, upd-tells, one.owns);
            only = grind (arith, upd-tells, one.only);
          };
      below = i.below;
      writer = grind (arith, upd-tells, i.writer);
      one_writer = grind (arith, upd-tells, i.one_writer);
    }

-- an exclusive lock of a page without shares
pub locks-lock : (actors state version : ℕ) (seats : ℕ → Seat) (a : ℕ) → a < actors → (state ≡ UNLOCKED)
    ⊎ ((state ≡ MARKED) ⊎ (state ≡ EVICTED)) → version < MAX_VERSION → LocksInv actors state version seats
    → LocksInv actors LOCKED version (upd seats a (record (seats a) { exclusive = true; reading = None }))
locks-lock actors state version seats a lt s below i =
    let free : state ≢ LOCKED = grind (arith, s) in
    record {
      known = omega arith;
      in_range = i.in_range;
      shares = grind (arith, upd-tells, i.shares, s, nat_tests);
      unheld = λ ne. absurd (omega arith);
      held = λ _. record { holder = a; named = lt; owns = grind (arith, upd-tells); only = grind (arith, upd-tells, i.unheld free) };
      below = λ _. below;
      writer = grind (arith, upd-tells, i.writer);
      one_writer = grind (arith, upd-tells, i.one_writer);
    }

-- a shared lock
pub locks-share : (actors state version : ℕ) (seats : ℕ → Seat) (a : ℕ) → a < actors
    → (state ≤ 251) ⊎ (state ≡ MARKED) → LocksInv actors state version seats → LocksInv actors (one_share_more state)
    version (upd seats a (record (seats a) { shares = (seats a).shares + 1; reading = None }))
locks-share actors state version seats a lt s i =
    let free : state ≢ LOCKED = grind (arith, s) in
    let after : one_share_more state < LOCKED = grind (arith, s, nat_tests) in
    let seats' : ℕ → Seat = upd seats a (record (seats a) { shares = (seats a).shares + 1; reading = None }) in
    let change : sum_below actors (λ b. (seats' b).shares) + (seats a).shares ≡ sum_below actors
    (λ b. (seats b).shares) + (seats' a).shares = sum_below-change actors (λ b. (seats' b).shares)
    (λ b. (seats b).shares) a lt (grind (arith, upd-tells)) in
    record {
      known = omega arith;
      in_range = i.in_range;
      shares = grind (arith, upd-tells, i.shares, change, s, nat_tests);
      unheld = grind (arith, upd-tells, i.unheld free);
      held = λ q. absurd (omega arith);
      below = λ q. absurd (omega arith);
      writer = grind (arith, upd-tells, i.writer);
      one_writer = grind (arith, upd-tells, i.one_writer);
    }

-- the holder gives the page up, at the next version
pub locks-release : (actors state version : ℕ) (seats : ℕ → Seat) (a : ℕ) → (seats a).exclusive ≡ true
    → LocksInv actors state version seats → LocksInv actors UNLOCKED (version + 1)
    (upd seats a (record (seats a) { exclusive = false }))
locks-release actors state version seats a e i =
    let locked : state ≡ LOCKED = locked-from_owner i a e in
    let one : OneHolder actors seats = i.held locked in
    let below : version < MAX_VERSION = i.below locked in
    record {
      known = omega arith;
      in_range = omega arith;
      shares = grind (arith, upd-tells, i.shares);
      unheld = grind (arith, upd-tells);
      held = λ q. absurd (omega arith);
      below = λ q. absurd (omega arith);
      writer = grind (arith, upd-tells, i.writer);
      one_writer = grind (arith, upd-tells, i.one_writer);
    }

-- no more than the sum
pub sum_below-at : (n : ℕ) (f : ℕ → ℕ) (k : ℕ) → k < n → f k ≤ sum_below n f
unfolding sum_below
sum_below-at zero f k lt = absurd (omega arith)
sum_below-at (suc n) f k lt =
    ⊎_elim (λ e. let s : f k ≡ f n = ap f e in omega arith)
    (λ ne. let r : f k ≤ sum_below n f = sum_below-at n f k (omega arith) in omega arith)
    (cases_eq k n)

-- an actor has at most 252 shares
pub shares-bound : (actors state version : ℕ) (seats : ℕ → Seat) (a : ℕ) → a < actors
    → LocksInv actors state version seats → (seats a).shares ≤ 252
shares-bound actors state version seats a lt i =
    let s : (seats a).shares ≤ sum_below actors (λ b. (seats b).shares) = sum_below-at actors (λ b. (seats b).shares) a lt in
    let t : sum_below actors (λ b. (seats b).shares) ≡ share_count state = i.shares in
    grind (arith, s, t, nat_tests)

-- a state that tells of shares
pub shared-state : (state n : ℕ) → 1 ≤ n → n ≡ share_count state → (1 ≤ state) × (state < LOCKED)
shared-state state n has e = (grind (arith, e, nat_tests), grind (arith, e, nat_tests))

-- a share that is given up
pub locks-unlock : (actors state version : ℕ) (seats : ℕ → Seat) (a : ℕ) → a < actors → 1 ≤ (seats a).shares
    → LocksInv actors state version seats → LocksInv actors (state - 1) version (upd seats a (unshared (seats a)))
locks-unlock actors state version seats a lt has i =
    let at' : (seats a).shares ≤ sum_below actors (λ b. (seats b).shares) = sum_below-at actors (λ b. (seats b).shares) a lt in
    let in' : (1 ≤ state) × (state < LOCKED) = shared-state state (sum_below actors (λ b. (seats b).shares)) (omega arith) i.shares in
    let free : state ≢ LOCKED = omega arith in
    let seats' : ℕ → Seat = upd seats a (unshared (seats a)) in
    let change : sum_below actors (λ b. (seats' b).shares) + (seats a).shares ≡ sum_below actors
    (λ b. (seats b).shares) + (seats' a).shares = sum_below-change actors (λ b. (seats' b).shares)
    (λ b. (seats b).shares) a lt (grind (arith, upd-tells)) in
    record {
      known = omega arith;
      in_range = i.in_range;
      shares = grind (arith, upd-tells, i.shares, change, nat_tests);
      unheld = grind (arith, upd-tells, i.unheld free);
      held = λ q. absurd (omega arith);
      below = λ q. absurd (omega arith);
      writer = grind (arith, upd-tells, i.writer, nat_tests);
      one_writer = grind (arith, upd-tells, i.one_writer, nat_tests);
    }

-- a marked page is locked for write-back
pub locks-write_lock : (actors state version : ℕ) (seats : ℕ → Seat) (a : ℕ) → a < actors → state ≡ MARKED
    → LocksInv actors state version seats → LocksInv actors 1 version (upd seats a (record (seats a) {
      shares = 1;
      writing = true;
      reading = None;
    }))
locks-write_lock actors state version seats a lt m i =
    let free : state ≢ LOCKED = omega arith in
    let none : sum_below actors (λ b. (seats b).shares) ≡ 0 = grind (arith, i.shares, m, nat_tests) in
    let mine : (seats a).shares ≤ sum_below actors (λ b. (seats b).shares) = sum_below-at actors (λ b. (seats b).shares) a lt in
    let seats' : ℕ → Seat = upd seats a (record (seats a) { shares = 1; writing = true; reading = None }) in
    let change : sum_below actors (λ b. (seats' b).shares) + (seats a).shares ≡ sum_below actors
    (λ b. (seats b).shares) + (seats' a).shares = sum_below-change actors (λ b. (seats' b).shares)
    (λ b. (seats b).shares) a lt (grind (arith, upd-tells)) in
    let idle : (b : ℕ) → (seats b).writing ≡ true → ⊥ = λ b w. let p : (1 ≤ (seats b).shares) × (b < actors) = i.writer b w in
    let s : (seats b).shares ≤ sum_below actors (λ c. (seats c).shares) = sum_below-at actors (λ c. (seats c).shares)
    b p.1 in omega (arith, p.0) in
    record {
      known = omega arith;
      in_range = i.in_range;
      shares = grind (arith, upd-tells, change, none, mine, nat_tests);
      unheld = grind (arith, upd-tells, i.unheld free);
      held = λ q. absurd (omega arith);
      below = λ q. absurd (omega arith);
      writer = grind (arith, upd-tells, i.writer, lt);
      one_writer = grind (arith, upd-tells, idle);
    }

-- a page without shares is marked, or its mark is taken away
pub locks-mark : (actors state next version : ℕ) (seats : ℕ → Seat) → (state ≡ UNLOCKED) ⊎ (state ≡ MARKED)
    → (next ≡ UNLOCKED) ⊎ (next ≡ MARKED) → LocksInv actors state version seats → LocksInv actors next version seats
locks-mark actors state next version seats u n i =
    let free : state ≢ LOCKED = grind (arith, u) in
    let free' : next ≢ LOCKED = grind (arith, n) in
    record {
      known = grind (arith, n);
      in_range = i.in_range;
      shares = grind (arith, i.shares, u, n, nat_tests);
      unheld = λ _. i.unheld free;
      held = λ q. absurd (free' q);
      below = λ q. absurd (free' q);
      writer = i.writer;
      one_writer = i.one_writer;
    }

-- the holder gives an empty page up
pub locks-empty : (actors state version : ℕ) (seats : ℕ → Seat) (a : ℕ) → (seats a).exclusive ≡ true
    → LocksInv actors state version seats → LocksInv actors EVICTED (version + 1)
    (upd seats a (record (seats a) { exclusive = false }))
locks-empty actors state version seats a e i =
    let r : LocksInv actors UNLOCKED (version + 1) (upd seats a (record (seats a) { exclusive = false })) =
    locks-release actors state version seats a e i in
    record {
      known = omega arith;
      in_range = r.in_range;
      shares = r.shares;
      unheld = λ _. r.unheld (omega arith);
      held = λ q. absurd (omega arith);
      below = λ q. absurd (omega arith);
      writer = r.writer;
      one_writer = r.one_writer;
    }

-- the one that writes back, with the only share, takes the exclusive lock
pub locks-upgrade : (actors state version : ℕ) (seats : ℕ → Seat) (a : ℕ) → a < actors → state ≡ 1
    → (seats a).writing ≡ true → (seats a).shares ≡ 1 → version < MAX_VERSION → LocksInv actors state version seats
    → LocksInv actors LOCKED version (upd seats a (record {
      shares = 0;
      exclusive = true;
      writing = false;
      reading = None;
    }))
locks-upgrade actors state version seats a lt s w one below i =
    let free : state ≢ LOCKED = omega arith in
    let seats' : ℕ → Seat = upd seats a (record { shares = 0; exclusive = true; writing = false; reading = None }) in
    let change : sum_below actors (λ b. (seats' b).shares) + (seats a).shares ≡ sum_below actors
    (λ b. (seats b).shares) + (seats' a).shares = sum_below-change actors (λ b. (seats' b).shares)
    (λ b. (seats b).shares) a lt (grind (arith, upd-tells)) in
    record {
      known = omega arith;
      in_range = i.in_range;
      shares = grind (arith, upd-tells, i.shares, change, s, one, nat_tests);
      unheld = λ ne. absurd (ne refl);
      held = λ _. record { holder = a; named = lt; owns = grind (arith, upd-tells); only = grind (arith, upd-tells, i.unheld free) };
      below = λ _. below;
      writer = grind (arith, upd-tells, i.writer);
      one_writer = grind (arith, upd-tells, i.one_writer);
    }

-- the holder gives the exclusive lock up for a share, at the next version
pub locks-downgrade : (actors state version : ℕ) (seats : ℕ → Seat) (a : ℕ) → a < actors → (seats a).exclusive ≡ true
    → LocksInv actors state version seats → LocksInv actors 1 (version + 1) (upd seats a (record (seats a) {
      shares = 1;
      exclusive = false;
    }))
locks-downgrade actors state version seats a lt e i =
    let locked : state ≡ LOCKED = locked-from_owner i a e in
    let one : OneHolder actors seats = i.held locked in
    let below : version < MAX_VERSION = i.below locked in
    let none : sum_below actors (λ b. (seats b).shares) ≡ 0 = grind (arith, i.shares, locked, nat_tests) in
    let mine : (seats a).shares ≤ sum_below actors (λ b. (seats b).shares) = sum_below-at actors (λ b. (seats b).shares) a lt in
    let seats' : ℕ → Seat = upd seats a (record (seats a) { shares = 1; exclusive = false }) in
    let change : sum_below actors (λ b. (seats' b).shares) + (seats a).shares ≡ sum_below actors
    (λ b. (seats b).shares) + (seats' a).shares = sum_below-change actors (λ b. (seats' b).shares)
    (λ b. (seats b).shares) a lt (grind (arith, upd-tells)) in
    record {
      known = omega arith;
      in_range = omega arith;
      shares = grind (arith, upd-tells, change, none, mine, nat_tests);
      unheld = grind (arith, upd-tells, one.only);
      held = λ q. absurd (omega arith);
      below = λ q. absurd (omega arith);
      writer = grind (arith, upd-tells, i.writer, lt);
      one_writer = grind (arith, upd-tells, i.one_writer);
    }
