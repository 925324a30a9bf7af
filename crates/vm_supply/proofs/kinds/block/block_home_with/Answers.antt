use Rattle.vm_step.proofs.Prelude.{ap, IsOf, length, None, rest, ReturnTold, rules, Sound, subst, sym, true, view}
use Rattle.vm_step.proofs.Prelude.{view_of, ◌<◌, ◌∙◌, ◌∷◌, ◌≡◌}
use Rattle.vm_supply.proofs.kinds.block.block_home_with.Goals as goal
use Rattle.vm_supply.proofs.steps.Block.{back-home, home-goes, lift-allows, lifted, loaded, one-slot, return-allows}

pub load-requires : goal.load-requires
load-requires g c =
    let is = ap view_of c.lift-seat.ensures.2 in (
      search rules,
      c.fault_place-place.ensures.inside,
      rw (c.requires.given.0, c.requires.given.1, c.requires.given.2)
          (lift-allows _ _ _ _ _ _ _ _ c.args.p _ c.requires.legal.0
          (subst (λ v. v.live ≡ true) is c.args.pass.now.live)
          (subst (λ v. 0 < length v.used) is c.requires.pass.1) c.fault_place-place.ensures.place
          (ap (λ v. v.out) (sym is) ∙ c.requires.legal.1.out)),
    )

pub exchange-empty-requires : goal.exchange-empty-requires
exchange-empty-requires g c =
    let is = ap view_of c.lift-seat.ensures.2 in
    let l = lifted g.B.Block.stored c.args.p c.requires.legal.0 c.args.block g.M.Moved.page c.load.result
    (view c.args.pass.now) c.lift-seat.result.me c.load.new.seat.me c.requires.given.2 is c.lift-seat.ensures.3
    c.requires.legal.1 c.load.ensures.2.1 in
    (search rules, (None, l.1 ∙ (λ i. (c.args.p, None) ∷ rest (sym l.1 i))))

pub unreachable-requires : goal.unreachable-requires
unreachable-requires g c =
    let is = ap view_of c.lift-seat.ensures.2 in
    let l = lifted g.B.Block.stored c.args.p c.requires.legal.0 c.args.block g.M.Moved.page c.load.result
    (view c.args.pass.now) c.lift-seat.result.me c.load.new.seat.me c.requires.given.2 is c.lift-seat.ensures.3
    c.requires.legal.1 c.load.ensures.2.1 in
    c.in_default.not-None (one-slot _ _ _ _ _ _ (sym c.exchange-empty.ensures.2 ∙ l.1))

pub load-requires-2 : goal.load-requires-2
load-requires-2 g c =
    let is = ap view_of c.lift-seat.ensures.2 in
    let n = loaded g.B.Block.stored c.args.p c.requires.legal.0 c.args.block g.M.Moved.page c.load.result
    (view c.args.pass.now) c.lift-seat.result.me c.load.new.seat.me c.exchange-empty.new.seat.me
    c.requires.given.2 is c.lift-seat.ensures.3 c.args.pass.now.live c.requires.pass.1 c.requires.legal.1
    c.load.ensures.2.1 c.exchange-empty.ensures.3 in (
      search rules,
      c.fault_place-place.ensures.inside,
      rw (c.requires.given.0, c.requires.given.1, c.requires.given.2)
          (return-allows _ _ _ _ _ _ _ _ c.args.p _ c.args.block c.requires.legal.0 n.live n.number
          c.fault_place-place.ensures.place n.out n.carried n.did c.requires.legal.1.bound),
    )

pub into_badge-requires : goal.into_badge-requires
into_badge-requires g c =
    let is = ap view_of c.lift-seat.ensures.2 in
    let n = loaded g.B.Block.stored c.args.p c.requires.legal.0 c.args.block g.M.Moved.page c.load.result
    (view c.args.pass.now) c.lift-seat.result.me c.load.new.seat.me c.exchange-empty.new.seat.me
    c.requires.given.2 is c.lift-seat.ensures.3 c.args.pass.now.live c.requires.pass.1 c.requires.legal.1
    c.load.ensures.2.1 c.exchange-empty.ensures.3 in
    (back-home g.B.Block.stored c.args.p c.requires.legal.0 c.args.block g.M.Moved.shape g.M.Moved.tells
    g.M.Moved.page c.load-2.result c.exchange-empty.new.seat.me c.load-2.new.seat.me c.requires.given.2 n
    c.requires.legal.1.bound c.load-2.ensures.2).1

pub invariant_of-pass : goal.invariant_of-pass
invariant_of-pass g c =
    let is = ap view_of c.lift-seat.ensures.2 in
    let one = c.into_badge.ensures.2 in
    let n = loaded g.B.Block.stored c.args.p c.requires.legal.0 c.args.block g.M.Moved.page c.load.result
    (view c.args.pass.now) c.lift-seat.result.me c.load.new.seat.me c.exchange-empty.new.seat.me
    c.requires.given.2 is c.lift-seat.ensures.3 c.args.pass.now.live c.requires.pass.1 c.requires.legal.1
    c.load.ensures.2.1 c.exchange-empty.ensures.3 in
    let steady = (back-home g.B.Block.stored c.args.p c.requires.legal.0 c.args.block g.M.Moved.shape g.M.Moved.tells
    g.M.Moved.page c.load-2.result c.exchange-empty.new.seat.me c.load-2.new.seat.me c.requires.given.2 n
    c.requires.legal.1.bound c.load-2.ensures.2).2 in
    record {
      one = ap length one;
      live = ap (λ l. (view_of l).live) one ∙ steady.live;
      settled = (ap (λ l. (view_of l).told_releases) one ∙ steady.learned.0, ap (λ l. (view_of l).told) one ∙ steady.learned.1);
      sound = subst Sound (sym (ap view_of one)) steady.sound;
    }

pub returns-clause-told : goal.returns-clause-told
returns-clause-told g c old may =
    let is = ap view_of c.lift-seat.ensures.2 in
    let one = ap view_of c.into_badge.ensures.2 in
    let l = lifted g.B.Block.stored c.args.p old c.args.block g.M.Moved.page c.load.result (view c.args.pass.now)
    c.lift-seat.result.me c.load.new.seat.me c.requires.given.2 is c.lift-seat.ensures.3 may c.load.ensures.2.1 in
    let n = loaded g.B.Block.stored c.args.p old c.args.block g.M.Moved.page c.load.result (view c.args.pass.now)
    c.lift-seat.result.me c.load.new.seat.me c.exchange-empty.new.seat.me c.requires.given.2 is
    c.lift-seat.ensures.3 c.args.pass.now.live c.requires.pass.1 may c.load.ensures.2.1
    c.exchange-empty.ensures.3 in
    let back = (back-home g.B.Block.stored c.args.p old c.args.block g.M.Moved.shape g.M.Moved.tells g.M.Moved.page
    c.load-2.result c.exchange-empty.new.seat.me c.load-2.new.seat.me c.requires.given.2 n may.bound
    c.load-2.ensures.2).0 in
    record {
      between = c.load.new.seat.me.0;
      first = c.load.result;
      second = c.load-2.result;
      shift = l.0;
      back = subst (λ w. ReturnTold c.args.p (g.B.Block.stored c.args.block) c.load-2.result c.load.new.seat.me.0 w) (sym one)
          (subst (λ v. ReturnTold c.args.p (g.B.Block.stored c.args.block) c.load-2.result v c.load-2.new.seat.me.0)
          (ap (λ m. m.0) c.exchange-empty.ensures.3) back);
    }

pub returns-clause-goes : goal.returns-clause-goes
returns-clause-goes g c =
    let table : IsOf c.args.words.now.table.shared.key g.B.Block.tells (view c.args.pass.now) = search rules in
    let told = returns-clause-told g c c.requires.legal.0 c.requires.legal.1 in
    let on = home-goes _ _ c.args.p c.requires.legal.0 (g.B.Block.stored c.args.block) (view c.args.pass.now)
    (view_of c.into_badge.result.views) told c.requires.pass.1 table in
    record { same = search rules; ready = record { may = (search rules, on.number); table = on.table } }
