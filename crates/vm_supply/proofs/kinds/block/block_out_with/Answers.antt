use Rattle.vm_step.proofs.Prelude.{ap, false, IsOf, length, may_call, None, rest, rules, seat_of, ShiftTold, SlotTold}
use Rattle.vm_step.proofs.Prelude.{Some, some-same, Sound, subst, sym, true, view, view_of, ◌<◌, ◌∙◌, ◌∷◌, ◌≡◌}
use Rattle.vm_supply.proofs.kinds.block.block_out_with.Goals as goal
use Rattle.vm_supply.proofs.steps.Block.{emptied, empty-allows, empty-home, one-slot, out-allows, out-goes, taken}

pub load-requires : goal.load-requires
load-requires g c =
    let is = ap view_of c.lift-seat.ensures.2 in (
      search rules,
      c.fault_place-place.ensures.inside,
      rw (c.requires.given.0, c.requires.given.1, c.requires.given.2)
          (out-allows _ _ _ _ _ _ _ _ c.args.p _ (subst (λ v. v.live ≡ true) is c.args.pass.now.live)
          (subst (λ v. 0 < length v.used) is c.requires.pass.1) c.requires.page c.fault_place-place.ensures.place
          (subst (λ v. may_call (seat_of v c.args.p) ≡ true) is c.requires.legal.calls)
          (subst (λ v. v.out ≡ None) is c.requires.legal.none)),
    )

pub exchange-block-requires : goal.exchange-block-requires
exchange-block-requires g c =
    let t = taken g.B.Block.stored c.args.p g.M.Moved.page c.requires.given.2 c.load.result (view c.args.pass.now)
    c.lift-seat.result.me c.load.new.seat.me (ap view_of c.lift-seat.ensures.2) c.lift-seat.ensures.3
    c.load.ensures.2.1 in
    (search rules, (Some t.0, t.2 ∙ (λ i. (c.args.p, Some t.0) ∷ rest (sym t.2 i))))

pub load-requires-2 : goal.load-requires-2
load-requires-2 g c =
    let t = taken g.B.Block.stored c.args.p g.M.Moved.page c.requires.given.2 c.load.result (view c.args.pass.now)
    c.lift-seat.result.me c.load.new.seat.me (ap view_of c.lift-seat.ensures.2) c.lift-seat.ensures.3
    c.load.ensures.2.1 in
    let n = emptied g.B.Block.stored c.args.p g.M.Moved.page c.requires.given.2 c.load.result (view c.args.pass.now)
    c.load.new.seat.me c.exchange-block.new.seat.me t.0 c.args.pass.now.live c.requires.pass.1 t.1 t.2
    c.exchange-block.ensures.3 in (
      search rules,
      c.fault_place-place.ensures.inside,
      rw c.requires.given.2 (empty-allows _ _ _ _ _ _ _ _ c.args.p _ (g.B.Block.stored t.0) n.live n.number
          c.fault_place-place.ensures.place n.out n.carried),
    )

pub into_badge-requires : goal.into_badge-requires
into_badge-requires g c =
    let t = taken g.B.Block.stored c.args.p g.M.Moved.page c.requires.given.2 c.load.result (view c.args.pass.now)
    c.lift-seat.result.me c.load.new.seat.me (ap view_of c.lift-seat.ensures.2) c.lift-seat.ensures.3
    c.load.ensures.2.1 in
    let n = emptied g.B.Block.stored c.args.p g.M.Moved.page c.requires.given.2 c.load.result (view c.args.pass.now)
    c.load.new.seat.me c.exchange-block.new.seat.me t.0 c.args.pass.now.live c.requires.pass.1 t.1 t.2
    c.exchange-block.ensures.3 in
    (empty-home g.B.Block.stored c.args.p g.M.Moved.page c.requires.given.2 c.load-2.result
    c.exchange-block.new.seat.me c.load-2.new.seat.me (g.B.Block.stored t.0) n c.load-2.ensures.2).1

pub invariant_of-pass : goal.invariant_of-pass
invariant_of-pass g c =
    let one = c.into_badge.ensures.2 in
    let t = taken g.B.Block.stored c.args.p g.M.Moved.page c.requires.given.2 c.load.result (view c.args.pass.now)
    c.lift-seat.result.me c.load.new.seat.me (ap view_of c.lift-seat.ensures.2) c.lift-seat.ensures.3
    c.load.ensures.2.1 in
    let n = emptied g.B.Block.stored c.args.p g.M.Moved.page c.requires.given.2 c.load.result (view c.args.pass.now)
    c.load.new.seat.me c.exchange-block.new.seat.me t.0 c.args.pass.now.live c.requires.pass.1 t.1 t.2
    c.exchange-block.ensures.3 in
    let steady = (empty-home g.B.Block.stored c.args.p g.M.Moved.page c.requires.given.2 c.load-2.result
    c.exchange-block.new.seat.me c.load-2.new.seat.me (g.B.Block.stored t.0) n c.load-2.ensures.2).2 in
    record {
      one = ap length one;
      live = ap (λ l. (view_of l).live) one ∙ steady.live;
      settled = (ap (λ l. (view_of l).told_releases) one ∙ steady.learned.0, ap (λ l. (view_of l).told) one ∙ steady.learned.1);
      sound = subst Sound (sym (ap view_of one)) steady.sound;
    }

pub returns-clause-told : goal.returns-clause-told
returns-clause-told g c =
    let one = ap view_of c.into_badge.ensures.2 in
    let t = taken g.B.Block.stored c.args.p g.M.Moved.page c.requires.given.2 c.load.result (view c.args.pass.now)
    c.lift-seat.result.me c.load.new.seat.me (ap view_of c.lift-seat.ensures.2) c.lift-seat.ensures.3
    c.load.ensures.2.1 in
    let n = emptied g.B.Block.stored c.args.p g.M.Moved.page c.requires.given.2 c.load.result (view c.args.pass.now)
    c.load.new.seat.me c.exchange-block.new.seat.me t.0 c.args.pass.now.live c.requires.pass.1 t.1 t.2
    c.exchange-block.ensures.3 in
    let shift = (empty-home g.B.Block.stored c.args.p g.M.Moved.page c.requires.given.2 c.load-2.result
    c.exchange-block.new.seat.me c.load-2.new.seat.me (g.B.Block.stored t.0) n c.load-2.ensures.2).0 in
    let same : t.0 ≡ c.unwrap.result =
    some-same t.0 c.unwrap.result (sym (one-slot _ _ _ _ _ _ (sym c.exchange-block.ensures.2 ∙ t.2))
    ∙ c.unwrap.ensures) in
    record {
      between = c.load.new.seat.me.0;
      first = c.load.result;
      second = c.load-2.result;
      slot = subst (λ b. SlotTold c.args.p (g.B.Block.stored b) c.load.result (view c.args.pass.now) c.load.new.seat.me.0) same t.1;
      shift = subst (λ b. ShiftTold c.args.p false (g.B.Block.stored b) c.load-2.result c.load.new.seat.me.0
          (view_of c.into_badge.result.views)) same
          (subst (λ w. ShiftTold c.args.p false (g.B.Block.stored t.0) c.load-2.result c.load.new.seat.me.0 w) (sym one)
          (subst (λ v. ShiftTold c.args.p false (g.B.Block.stored t.0) c.load-2.result v c.load-2.new.seat.me.0)
          (ap (λ m. m.0) c.exchange-block.ensures.3) shift));
    }

pub returns-clause-goes : goal.returns-clause-goes
returns-clause-goes g c =
    let table : IsOf c.args.words.now.table.shared.key g.B.Block.tells (view c.args.pass.now) = search rules in
    let on = out-goes _ _ c.args.p (g.B.Block.stored c.unwrap.result) (view c.args.pass.now)
    (view_of c.into_badge.result.views) (returns-clause-told g c) c.requires.pass.1 table in
    record { same = search rules; ready = record { may = (search rules, on.number); table = on.table } }
