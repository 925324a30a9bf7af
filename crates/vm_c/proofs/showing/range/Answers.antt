use Rattle.vm_step.specs.Prelude.{view}
use Rattle.std.proofs.Common.{length}
use Rattle.vm_c.proofs.Rooms.{range-fits}
use Rattle.vm_c.proofs.showing.range.Goals as goal

pub show-requires : goal.show-requires
show-requires c = range-fits (view c.args.hand.now.hand.pass) (view c.range-answer.new.self.pass) c.requires.hand.hand.ready.table.tells_is
    c.args.low c.args.bound (length c.args.pairs.now) c.requires.room c.range-answer.result c.range-answer.ensures.call

pub returns-clause-shows : goal.returns-clause-shows
returns-clause-shows c = record {
  answered = record {
    answer = c.range-answer.result;
    is = c.answer_of.ensures;
    made = c.range-answer.ensures.call;
    keeps = c.range-answer.ensures.keeps;
    pool = c.range-answer.ensures.pool;
  };
  shows = c.show.ensures;
}
