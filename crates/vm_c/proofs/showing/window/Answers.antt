use Rattle.vm_step.specs.Prelude.{view}
use Rattle.std.proofs.Common.{length}
use Rattle.vm_c.proofs.Rooms.{window-fits}
use Rattle.vm_c.proofs.showing.window.Goals as goal

pub show-requires : goal.show-requires
show-requires c = window-fits (view c.args.hand.now.hand.pass) (view c.window-answer.new.self.pass) c.requires.hand.hand.ready.table.tells_is
    c.args.start c.args.most (length c.args.pairs.now) c.requires.room c.window-answer.result c.window-answer.ensures.call

pub returns-clause-shows : goal.returns-clause-shows
returns-clause-shows c = record {
  answered = record {
    answer = c.window-answer.result;
    is = c.answer_of.ensures;
    made = c.window-answer.ensures.call;
    keeps = c.window-answer.ensures.keeps;
    pool = c.window-answer.ensures.pool;
  };
  shows = c.show.ensures;
}
