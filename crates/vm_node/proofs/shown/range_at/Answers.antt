-- Each pair that lies in the range is appended.
use Rattle.std.proofs.Common.{◌∙◌, arith, refl}
use Rattle.vm_node.proofs.RangeSteps.{ranging_begins, ranging_ends, ranging_more}
use Rattle.vm_node.proofs.Telling.{told_so, told_then, told_word}
use Rattle.vm_node.proofs.shown.range_at.Goals as goal

pub loop-i-init : goal.loop-i-init
loop-i-init g c = record {
  ready = c.count_at-count.ensures.ready;
  size = c.count_at-count.ensures.size;
  room = omega arith;
  kept = refl;
  told = told_so (omega arith)
      (told_then g.met.P.Place.join c.high_bound_at-high.ensures.told c.count_at-count.ensures.told)
      (λ words size read. ranging_begins _ _ _ _ _ _ words read.0 read.1);
}

pub loop-i-preserved : goal.loop-i-preserved
loop-i-preserved g c = record {
  ready = c.word-value.ensures.ready;
  size = c.word-value.ensures.size ∙ c.word-key.ensures.size ∙ c.loop-i.invariant.size;
  room = omega (arith, c.loop-i.invariant.room, c.push_within.ensures.room);
  kept = c.push_within.ensures.kept ∙ c.loop-i.invariant.kept;
  told = told_so (omega arith)
      (told_then g.met.P.Place.join c.loop-i.invariant.told
      (told_then g.met.P.Place.join (told_word c.word-key.ensures.loads) (told_word c.word-value.ensures.loads)))
      (λ words size read. ranging_more _ c.requires.sized _ _ _ _ _ _ _ words read.0 size c.loop-i-test.true _ _
      read.1.0 read.1.1 _ c.push_within.ensures.pairs);
}

pub returns-clause-told : goal.returns-clause-told
returns-clause-told g c =
    told_so (omega (arith, c.count_at-count.ensures.few)) c.loop-i.invariant.told
    (λ words size read. record {
      fence = read.fence;
      pairs = ranging_ends _ _ _ _ _ _ _ _ words read c.loop-i-test.false;
    })
