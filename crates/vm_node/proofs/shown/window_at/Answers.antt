-- A window ends before a pair for which there is no room; each other pair from the start on is taken.
use Rattle.std.proofs.Common.{◌≡◌, ℕ, ◌+◌, ◌*◌, ◌<◌, List, [], ◌∷◌, ◌++◌, length, min, ap, ◌∙◌, arith, length-append}
use Rattle.vm_map.specs.Map.{Pairs}
use Rattle.vm_page.specs.Sizes.{IsSize}
use Rattle.vm_node.specs.Sizes.{looks_for}
use Rattle.vm_node.specs.Loads.{Tells}
use Rattle.vm_node.proofs.Telling.{Joins, told_word, told_then, told_so}
use Rattle.vm_node.proofs.WindowSteps.{IsTaking, taking_begins, taking_more, taking_stops, taking_ends}
use Rattle.vm_node.proofs.shown.window_at.Goals as goal

pub loop-i-init : goal.loop-i-init
loop-i-init g c = rw c.new-pairs.ensures (record {
  ready = c.lower_bound_at-i.ensures.ready;
  size = c.lower_bound_at-i.ensures.size;
  few = omega arith;
  told = told_so (omega arith)
      (told_then g.met.P.Place.join c.count_at-count.ensures.told c.lower_bound_at-i.ensures.told)
      (λ words size read. taking_begins _ _ _ _ words read.0 (read.1 read.0));
})

-- two more words make one more pair
told_more : (n : ℕ) → IsSize n → {P : Type 0} {loads : P → List (ℕ × ℕ) → P → Type 0} {p q q' r : P}
    {start count i key value : ℕ} {taken longer : Pairs} → Joins loads
    → Tells n loads p (looks_for n + 1 + 2 * length taken) q (IsTaking n start count i taken) → i < count
    → loads q ((8 + 2 * i, key) ∷ []) q' → loads q' ((9 + 2 * i, value) ∷ []) r → longer ≡ taken ++ (key, value) ∷ []
    → Tells n loads p (looks_for n + 1 + 2 * length longer) r (IsTaking n start count (i + 1) longer)
told_more n size_of {i = i} {key = key} {value = value} {taken = taken} join told left first second is =
    rw is (told_so (omega (arith, length-append taken ((key, value) ∷ [])))
    (told_then join told (told_then join (told_word first) (told_word second)))
    (λ words size read. taking_more n size_of _ _ i taken words read.0 size key left read.1.0 value read.1.1))

pub loop-i-preserved : goal.loop-i-preserved
loop-i-preserved g c = record {
  ready = c.word.ensures.ready;
  size = c.word.ensures.size ∙ c.word-key.ensures.size ∙ c.loop-i.invariant.size;
  few = let long : length c.push.new.self ≡ length c.loop-i.pairs + 1 = ap length c.push.ensures
      ∙ length-append c.loop-i.pairs _ in
      omega (arith, long, c.len.ensures.value, c.if-len-room.false, c.min-room.ensures);
  told = told_more c.args.words c.requires.sized g.met.P.Place.join c.loop-i.invariant.told c.loop-i-test.true
      c.word-key.ensures.loads c.word.ensures.loads c.push.ensures;
}

pub returns-then-len-room-clause-told : goal.returns-then-len-room-clause-told
returns-then-len-room-clause-told g c =
    let long : length c.loop-i.pairs ≡ min c.args.most 28 =
    omega (arith, c.loop-i.invariant.few, c.min-room.ensures, c.len.ensures.value, c.if-len-room.true) in
    told_so (omega (arith, long))
    (told_then g.met.P.Place.join c.loop-i.invariant.told (told_word c.word-key.ensures.loads))
    (λ words size read low high rises.
    let ends = taking_stops _ c.requires.sized _ _ _ _ words read.0 size _ c.loop-i-test.true read.1 _ low high long
    rises in record { shows = ends.0; ends = ends.1 })

pub returns-clause-told : goal.returns-clause-told
returns-clause-told g c =
    told_so (omega (arith, c.loop-i.invariant.few))
    (told_then g.met.P.Place.join c.loop-i.invariant.told c.high_bound_at.ensures.told)
    (λ words size read low high rises.
    let ends = taking_ends _ c.requires.sized _ _ _ _ words read.0 _ _ low high c.loop-i-test.false read.1
    c.loop-i.invariant.few rises in record { shows = ends.0; ends = ends.1 })
