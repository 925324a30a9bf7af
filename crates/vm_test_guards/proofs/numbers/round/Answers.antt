use Rattle.std.proofs.Common.{◌∙◌, arith}
use Rattle.vm_step.specs.Prelude.{view}
use Rattle.vm_exmap.proofs.BundleBits.{some-lowest}
use Rattle.vm_test_guards.proofs.Rounds.{gave-idle, idle-nothing, idle-then, looked-idle, may-give, tried-idle}
use Rattle.vm_test_guards.proofs.numbers.round.Goals as goal

pub ptake-requires-clause-legal : goal.ptake-requires-clause-legal
ptake-requires-clause-legal g c = record {
  some = some-lowest c.pbload-word.result 1 c.lowest-mask.result c.pbload-word.type_inv c.if-word-eq0.false
      (omega arith) c.lowest-mask.ensures;
  among = c.lowest-mask.ensures.among;
}

pub pgive-requires-clause-legal : goal.pgive-requires-clause-legal
pgive-requires-clause-legal g c =
    let some = some-lowest c.pbload-word.result 1 c.lowest-mask.result c.pbload-word.type_inv c.if-word-eq0.false
    (omega arith) c.lowest-mask.ensures in
    let looked = looked-idle c.args.g c.pbload-word.result (view c.args.pass.now) (view c.pbload-word.new.pass)
    c.pbload-word.ensures.told in
    let tried = tried-idle c.args.g c.pbload-word.result c.lowest-mask.result c.pbload-word.result
    (view c.pbload-word.new.pass) (view c.ptake.new.pass) c.in-Taken.ensures.told in
    may-give c.args.g _ _ _ _ some c.in-Taken.ensures.told (tried.pending ∙ looked.pending ∙ c.requires.whole)

-- the word is empty
pub returns-then-word-eq0-clause-may : goal.returns-then-word-eq0-clause-may
returns-then-word-eq0-clause-may g c =
    let looked = looked-idle c.args.g c.pbload-word.result (view c.args.pass.now) (view c.pbload-word.new.pass)
    c.pbload-word.ensures.told in
    record {
      ready = c.pbload-word.ensures.goes.ready;
      nothing = idle-nothing _ _ looked c.requires.may.nothing;
      held = record { apart = tt; inside = tt; held = tt };
    }

pub returns-then-word-eq0-clause-whole : goal.returns-then-word-eq0-clause-whole
returns-then-word-eq0-clause-whole g c =
    (looked-idle c.args.g c.pbload-word.result (view c.args.pass.now) (view c.pbload-word.new.pass)
    c.pbload-word.ensures.told).pending ∙ c.requires.whole

pub returns-then-word-eq0-clause-parts : goal.returns-then-word-eq0-clause-parts
returns-then-word-eq0-clause-parts g c =
    (looked-idle c.args.g c.pbload-word.result (view c.args.pass.now) (view c.pbload-word.new.pass)
    c.pbload-word.ensures.told).parts

-- the number was taken and given again
pub returns-in-Taken-clause-may : goal.returns-in-Taken-clause-may
returns-in-Taken-clause-may g c =
    let looked = looked-idle c.args.g c.pbload-word.result (view c.args.pass.now) (view c.pbload-word.new.pass)
    c.pbload-word.ensures.told in
    let tried = tried-idle c.args.g _ _ _ (view c.pbload-word.new.pass) (view c.ptake.new.pass) c.in-Taken.ensures.told in
    let gave = gave-idle c.args.g _ _ (view c.ptake.new.pass) (view c.pgive.new.pass) c.pgive.ensures.told in
    record {
      ready = c.pgive.ensures.goes.ready;
      nothing = idle-nothing _ _ gave (idle-nothing _ _ tried (idle-nothing _ _ looked c.requires.may.nothing));
      held = record { apart = tt; inside = tt; held = tt };
    }

pub returns-in-Taken-clause-whole : goal.returns-in-Taken-clause-whole
returns-in-Taken-clause-whole g c =
    let looked = looked-idle c.args.g c.pbload-word.result (view c.args.pass.now) (view c.pbload-word.new.pass)
    c.pbload-word.ensures.told in
    let tried = tried-idle c.args.g _ _ _ (view c.pbload-word.new.pass) (view c.ptake.new.pass) c.in-Taken.ensures.told in
    let gave = gave-idle c.args.g _ _ (view c.ptake.new.pass) (view c.pgive.new.pass) c.pgive.ensures.told in
    gave.pending ∙ tried.pending ∙ looked.pending ∙ c.requires.whole

pub returns-in-Taken-clause-parts : goal.returns-in-Taken-clause-parts
returns-in-Taken-clause-parts g c =
    let looked = looked-idle c.args.g c.pbload-word.result (view c.args.pass.now) (view c.pbload-word.new.pass)
    c.pbload-word.ensures.told in
    let tried = tried-idle c.args.g _ _ _ (view c.pbload-word.new.pass) (view c.ptake.new.pass) c.in-Taken.ensures.told in
    let gave = gave-idle c.args.g _ _ (view c.ptake.new.pass) (view c.pgive.new.pass) c.pgive.ensures.told in
    (idle-then _ _ _ looked (idle-then _ _ _ tried gave)).parts

-- another worker came before
pub returns-in-Lost-clause-may : goal.returns-in-Lost-clause-may
returns-in-Lost-clause-may g c =
    let looked = looked-idle c.args.g c.pbload-word.result (view c.args.pass.now) (view c.pbload-word.new.pass)
    c.pbload-word.ensures.told in
    let tried = tried-idle c.args.g _ _ _ (view c.pbload-word.new.pass) (view c.ptake.new.pass) c.in-Lost.ensures.told in
    record {
      ready = c.ptake.ensures.goes.ready;
      nothing = idle-nothing _ _ tried (idle-nothing _ _ looked c.requires.may.nothing);
      held = record { apart = tt; inside = tt; held = tt };
    }

pub returns-in-Lost-clause-whole : goal.returns-in-Lost-clause-whole
returns-in-Lost-clause-whole g c =
    let looked = looked-idle c.args.g c.pbload-word.result (view c.args.pass.now) (view c.pbload-word.new.pass)
    c.pbload-word.ensures.told in
    let tried = tried-idle c.args.g _ _ _ (view c.pbload-word.new.pass) (view c.ptake.new.pass) c.in-Lost.ensures.told in
    tried.pending ∙ looked.pending ∙ c.requires.whole

pub returns-in-Lost-clause-parts : goal.returns-in-Lost-clause-parts
returns-in-Lost-clause-parts g c =
    let looked = looked-idle c.args.g c.pbload-word.result (view c.args.pass.now) (view c.pbload-word.new.pass)
    c.pbload-word.ensures.told in
    let tried = tried-idle c.args.g _ _ _ (view c.pbload-word.new.pass) (view c.ptake.new.pass) c.in-Lost.ensures.told in
    (idle-then _ _ _ looked tried).parts
