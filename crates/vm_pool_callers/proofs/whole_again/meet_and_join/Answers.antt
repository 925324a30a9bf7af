use Rattle.vm_pool_callers.proofs.Prelude.{ap, arith, holds-none, length, met-still, new-nothing, rules, still-nothing, view, ◌∷◌, ◌≡◌, ◌≤◌}
use Rattle.vm_pool_callers.proofs.whole_again.meet_and_join.Goals as goal

pub split_one-second-requires : goal.split_one-second-requires
split_one-second-requires g c =
    let s = c.split_one-first.ensures.splits in
    let cut : length (view c.args.pass.now).fresh ≡ length (s.number ∷ (view c.split_one-first.new.pass).fresh) = ap length s.given in
    let two : 2 ≤ length (view c.args.pass.now).fresh = c.requires.parts in
    (search rules, (c.split_one-first.ensures.goes.ready, omega (arith, cut, two)))

pub join-requires : goal.join-requires
join-requires g c =
    let nothing = still-nothing _ _ (met-still _ _ _ _ c.meet.ensures.met).0
    (holds-none _ (new-nothing _ _ _ _ _ c.split_one-first.ensures.splits.new)) in
    (search rules, (c.split_one-second.ensures.goes.ready, (c.meet.ensures.goes.ready.may, nothing)))

pub join-requires-2 : goal.join-requires-2
join-requires-2 g c =
    let nothing = still-nothing _ _ (met-still _ _ _ _ c.meet.ensures.met).1
    (holds-none _ (new-nothing _ _ _ _ _ c.split_one-second.ensures.splits.new)) in
    (search rules, (c.join.ensures.goes.ready, (c.meet.ensures.other.ready.may, nothing)))
