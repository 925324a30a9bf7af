-- A window ends before an entry for which there is no room; each other one from the start on is taken.
use Rattle.std.proofs.Common.{◌≡◌, ℕ, ◌+◌, ◌*◌, ◌<◌, List, [], ◌∷◌, ◌++◌, length, get_or, min, ap, ◌∙◌, arith}
use Rattle.std.proofs.Common.{length-append}
use Rattle.vm_node.specs.Loads.{Tells}
use Rattle.vm_node.proofs.Telling.{Joins, told_then, told_so}
use Rattle.vm_bytes_form.specs.Forms.{KeyEntry, node_in}
use Rattle.vm_bytes_node.proofs.WindowSteps.{IsShowing, showing_begins, showing_ends, showing_more, showing_stops}
use Rattle.vm_bytes_node.proofs.shown.window_at.Goals as goal

pub loop-i-init : goal.loop-i-init
loop-i-init g c = rw c.new-pairs.ensures (record {
  ready = c.lower_bound_at-first.ensures.ready;
  size = c.lower_bound_at-first.ensures.size;
  few = omega arith;
  told = told_so (omega arith) (told_then g.met.P.Place.join c.count_at-count.ensures.told c.lower_bound_at-first.ensures.told)
      (λ words size read. showing_begins c.args.start.now c.count_at-count.result words c.lower_bound_at-first.result
      c.in_range.ensures.string
      read.0 (read.1 read.0));
})

-- eleven more words make one more entry
told_more : {P : Type 0} {loads : P → List (ℕ × ℕ) → P → Type 0} {p q q' r : P} {start : List ℕ} {count i value : ℕ} {key : List ℕ}
    {taken longer : List KeyEntry} → Joins loads → Tells 512 loads p (82 + 11 * length taken) q (IsShowing start count i taken) → i < count
    → Tells 512 loads q 9 q' (λ words. i < length (node_in words).entries → key ≡ (get_or (node_in words).entries i ([], 0)).0)
    → Tells 512 loads q' 2 r (λ words. i < length (node_in words).entries → value ≡ (get_or (node_in words).entries i ([], 0)).1)
    → longer ≡ taken ++ (key, value) ∷ []
    → Tells 512 loads p (82 + 11 * length longer) r (IsShowing start count (i + 1) longer)
told_more {start = start} {count = count} {i = i} {value = value} {key = key} {taken = taken} join told left first second is =
    rw is (told_so (omega (arith, length-append taken ((key, value) ∷ []))) (told_then join told (told_then join first second))
    (λ words size read. showing_more start count words i taken read.0 key left read.1.0 value read.1.1))

pub loop-i-preserved : goal.loop-i-preserved
loop-i-preserved g c = record {
  ready = c.value_at-value.ensures.ready;
  size = c.value_at-value.ensures.size;
  few = let long : length c.push.new.self ≡ length c.loop-i.pairs + 1 = ap length c.push.ensures ∙ length-append c.loop-i.pairs _ in
      let less = c.if-len-room.false in
      omega (arith, long, c.len.ensures.value, less, c.min-room.ensures);
  told = told_more g.met.P.Place.join c.loop-i.invariant.told c.loop-i-test.true c.key_at-key.ensures.told c.value_at-value.ensures.told
      c.push.ensures;
}

pub returns-then-len-room-clause-told : goal.returns-then-len-room-clause-told
returns-then-len-room-clause-told g c =
    let few = c.loop-i.invariant.few in
    let full = c.if-len-room.true in
    let long : length c.loop-i.pairs ≡ min c.args.most 28 = omega (arith, few, c.min-room.ensures, c.len.ensures.value, full) in
    told_so (omega (arith, long)) (told_then {A = IsShowing c.args.start.now c.count_at-count.result c.loop-i.i c.loop-i.pairs}
    g.met.P.Place.join c.loop-i.invariant.told c.key_at-key.ensures.told)
    (λ words size read. showing_stops c.args.start.now c.count_at-count.result words c.loop-i.i c.loop-i.pairs read.0 c.key_at-key.result
    c.loop-i-test.true
    read.1 (min c.args.most 28) long)

pub returns-clause-told : goal.returns-clause-told
returns-clause-told g c =
    let few = c.loop-i.invariant.few in
    told_so (omega (arith, few)) (told_then {A = IsShowing c.args.start.now c.count_at-count.result c.loop-i.i c.loop-i.pairs}
    g.met.P.Place.join c.loop-i.invariant.told c.high_at-bound.ensures.told)
    (λ words size read. showing_ends c.args.start.now c.count_at-count.result words c.loop-i.i c.loop-i.pairs read.0
    (min c.args.most 28) c.high_at-bound.result
    c.loop-i-test.false few read.1)
