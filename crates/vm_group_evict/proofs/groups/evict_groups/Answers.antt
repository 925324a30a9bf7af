use Rattle.vm_event.specs.Prelude.{MARKED, MAX_VERSION, state_of, version_of}
use Rattle.vm_evict.proofs.Gathering.{each-at}
use Rattle.vm_evict.specs.Evictions.{candidate_at}
use Rattle.vm_group_evict.proofs.GroupsInTurn.{evicted-all, EvictsFirst, first-more, first-none, room}
use Rattle.vm_group_evict.proofs.Prelude.{ap, arith, length, List, refl, subst, sym, view, ℕ, ◌<◌, ◌≡◌}
use Rattle.vm_group_evict.specs.Ends.{EndsGroup}
use Rattle.vm_group_evict.specs.Groups.{IsHeadToEvict}
use Rattle.vm_group_guard.specs.Group.{IsGroupAt}
use Rattle.vm_step.proofs.Going.{goes-then}
use Rattle.vm_group_evict.proofs.groups.evict_groups.Goals as goal

pub loop-i-init : goal.loop-i-init
loop-i-init g c = record {
  goes = record { same = (refl, refl); ready = c.requires.ready };
  first = subst (λ e. EvictsFirst c.args.size 0 c.args.candidates.now.list.items c.args.candidates.now.looks
      (view c.args.pass.now)
      (view c.args.pass.now) e) (sym c.nothing-evicted.ensures)
      (first-none c.args.size c.args.candidates.now.list.items c.args.candidates.now.looks
      (view c.args.pass.now) c.requires.home);
}

pub evict_group-end-requires-clause-home : goal.evict_group-end-requires-clause-home
evict_group-end-requires-clause-home g c = c.loop-i.invariant.first.home

pub evict_group-end-requires-clause-group : goal.evict_group-end-requires-clause-group
evict_group-end-requires-clause-group g c =
    let low : c.loop-i.i < length c.args.candidates.now.list.items =
    subst (λ (l : List (ℕ × ℕ)). c.loop-i.i < length l) c.as_slice-list.ensures.value c.loop-i-test.true in
    let head = each-at (IsHeadToEvict c.args.words.now.table.shared.key c.args.size) c.args.candidates.now.list.items c.loop-i.i low
    c.requires.list in
    subst (λ (l : List (ℕ × ℕ)). IsGroupAt c.args.words.now.table.shared.key (candidate_at l c.loop-i.i).0 c.args.size)
    (sym c.as_slice-list.ensures.value) head.group

pub evict_group-end-requires-clause-marked : goal.evict_group-end-requires-clause-marked
evict_group-end-requires-clause-marked g c =
    let low : c.loop-i.i < length c.args.candidates.now.list.items =
    subst (λ (l : List (ℕ × ℕ)). c.loop-i.i < length l) c.as_slice-list.ensures.value c.loop-i-test.true in
    let head = each-at (IsHeadToEvict c.args.words.now.table.shared.key c.args.size) c.args.candidates.now.list.items c.loop-i.i low
    c.requires.list in
    subst (λ (l : List (ℕ × ℕ)). state_of (candidate_at l c.loop-i.i).1 ≡ MARKED)
    (sym c.as_slice-list.ensures.value) head.marked

pub evict_group-end-requires-clause-below : goal.evict_group-end-requires-clause-below
evict_group-end-requires-clause-below g c =
    let low : c.loop-i.i < length c.args.candidates.now.list.items =
    subst (λ (l : List (ℕ × ℕ)). c.loop-i.i < length l) c.as_slice-list.ensures.value c.loop-i-test.true in
    let head = each-at (IsHeadToEvict c.args.words.now.table.shared.key c.args.size) c.args.candidates.now.list.items c.loop-i.i low
    c.requires.list in
    subst (λ (l : List (ℕ × ℕ)). version_of (candidate_at l c.loop-i.i).1 < MAX_VERSION)
    (sym c.as_slice-list.ensures.value) head.below

pub count-requires : goal.count-requires
count-requires g c =
    let low : c.loop-i.i < length c.args.candidates.now.list.items =
    subst (λ (l : List (ℕ × ℕ)). c.loop-i.i < length l) c.as_slice-list.ensures.value c.loop-i-test.true in
    let head = each-at (IsHeadToEvict c.args.words.now.table.shared.key c.args.size) c.args.candidates.now.list.items c.loop-i.i low
    c.requires.list in
    let ended = subst (λ (l : List (ℕ × ℕ)). EndsGroup (candidate_at l c.loop-i.i).0 c.args.size
    (candidate_at l c.loop-i.i).1
    (view c.loop-i.pass) (view c.evict_group-end.new.pass) c.evict_group-end.result) c.as_slice-list.ensures.value
    c.evict_group-end.ensures.ended in
    room c.args.size c.loop-i.i c.args.candidates.now.list.items c.args.candidates.now.looks _ _ _ c.loop-i.evicted
    c.evict_group-end.result c.loop-i.invariant.first low head.group.few ended c.requires.few

pub loop-i-preserved : goal.loop-i-preserved
loop-i-preserved g c =
    let low : c.loop-i.i < length c.args.candidates.now.list.items =
    subst (λ (l : List (ℕ × ℕ)). c.loop-i.i < length l) c.as_slice-list.ensures.value c.loop-i-test.true in
    let head = each-at (IsHeadToEvict c.args.words.now.table.shared.key c.args.size) c.args.candidates.now.list.items c.loop-i.i low
    c.requires.list in
    let ended = subst (λ (l : List (ℕ × ℕ)). EndsGroup (candidate_at l c.loop-i.i).0 c.args.size
    (candidate_at l c.loop-i.i).1
    (view c.loop-i.pass) (view c.evict_group-end.new.pass) c.evict_group-end.result) c.as_slice-list.ensures.value
    c.evict_group-end.ensures.ended in
    record {
      goes = goes-then c.loop-i.invariant.goes c.evict_group-end.ensures.goes;
      first = first-more c.args.size c.loop-i.i c.args.candidates.now.list.items c.args.candidates.now.looks _ _ _ c.loop-i.evicted
          c.evict_group-end.result c.loop-i.invariant.first low head.group.few ended c.count.new.evicted c.count.ensures;
    }

pub returns-clause-evicted : goal.returns-clause-evicted
returns-clause-evicted g c =
    let same : length c.as_slice-list.result.now ≡ length c.args.candidates.now.list.items =
    ap (λ (l : List (ℕ × ℕ)). length l) c.as_slice-list.ensures.value in
    evicted-all c.args.size c.args.candidates.now.list.items c.args.candidates.now.looks _ _ _ c.loop-i.i
    (omega (arith, same, c.loop-i.auto.i-end)) (omega (arith, same, c.loop-i-test.false)) c.loop-i.invariant.first
