use Rattle.std.proofs.Common.{◌<◌, ◌∙◌, ◌≡◌, ap, arith, inr, List, None, refl, true, ℕ}
use Rattle.std.proofs.lemmas.Bool.{or_left}
use Rattle.vm_event.specs.Prelude.{EVICTED, MAX_VERSION, no_seat, state_of, version_of}
use Rattle.vm_event.proofs.Upd.{upd-same}
use Rattle.vm_rule.specs.Prelude.{last_of, locked_view, LockTold, put_at, Seat, seat_of, Start}
use Rattle.vm_step.specs.Prelude.{MayTakeOut, View}
use Rattle.vm_step.proofs.Evidenced.{taken-view}
use Rattle.vm_test_evict.proofs.evict.last_in_block.Goals as goal

evicted : state_of 18374686479671623688 ≡ EVICTED
unfolding state_of
evicted = omega arith

below : version_of 18374686479671623688 < MAX_VERSION
unfolding version_of
below = omega arith

-- the block of a page that was locked may be taken out
may-take-out : {X : Type 0} (tied : Start → ℕ → List ℕ → ℕ → List ℕ → Type 0) (p word : ℕ) (v w : View X)
    → LockTold tied p word word v w → v.out ≡ None → MayTakeOut w p
may-take-out tied p word v w t none =
    let b = taken-view _ word word v (locked_view p t.held (last_of w p).words v) w refl t.brings in
    record {
      calls = or_left (seat_of w p).exclusive (seat_of w p).writing
          (ap (λ (x : View _). (seat_of x p).exclusive) b.view ∙ ap (λ (s : Seat). s.exclusive)
          (upd-same (put_at no_seat v.seats) p (record (seat_of v p) { exclusive = true; reading = None })));
      none = ap (λ (x : View _). x.out) b.view ∙ none;
    }

pub lock_exclusive-requires-clause-legal : goal.lock_exclusive-requires-clause-legal
lock_exclusive-requires-clause-legal g c = record { state = inr (inr evicted); version = below }

pub block_out-block-requires-clause-legal : goal.block_out-block-requires-clause-legal
block_out-block-requires-clause-legal g c = may-take-out _ _ _ _ _ c.in-Taken.ensures.told c.requires.out
