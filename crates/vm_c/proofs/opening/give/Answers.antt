use Rattle.std.proofs.Common.{inr, refl, rules}
use Rattle.vm_c.proofs.Taking.{gives-as, gives-none, took-in}
use Rattle.vm_c.proofs.opening.give.Goals as goal

pub returns-in-Ok-new-clause-given : goal.returns-in-Ok-new-clause-given
returns-in-Ok-new-clause-given c =
    let told = c.take_in.ensures in
    let took = took-in c.args.open.now (record { store = c.take_in.new.self }) told.store (search rules) told.taken told.pool told.ever in
    gives-as c.args.open.now (record { store = c.take_in.new.self }) (record { store = c.hand.new.self }) c.in-Ok-new.held.value
    (record { hand = c.in-Ok.hand }) c.in-Ok-new.ensures.ok
    took
    (record {
      given = c.in-Ok.ensures.given;
      home = c.in-Ok.ensures.home;
      pool = (c.in-Ok.ensures.pool, c.in-Ok.ensures.same);
      ever = c.in-Ok.ensures.ever;
    })

pub returns-in-Err-clause-refused : goal.returns-in-Err-clause-refused
returns-in-Err-clause-refused c =
    let told = c.take_in.ensures in
    let took = took-in c.args.open.now (record { store = c.take_in.new.self }) told.store (search rules) told.taken told.pool told.ever in
    gives-none c.args.open.now (record { store = c.take_in.new.self }) (record { store = c.hand.new.self }) c.in-Err.why c.in-Err.ensures.none.0
    took c.in-Err.ensures.none.1

pub returns-in-Err-new-clause-refused : goal.returns-in-Err-new-clause-refused
returns-in-Err-new-clause-refused c =
    let told = c.take_in.ensures in
    let took = took-in c.args.open.now (record { store = c.take_in.new.self }) told.store (search rules) told.taken told.pool told.ever in
    let given = c.in-Ok.ensures in (
      record { store = c.take_in.new.self },
      took,
      inr (
        refl,
        (
          given.may,
          inr (
            record { hand = c.in-Ok.hand },
            record { given = given.given; home = given.home; pool = (given.pool, given.same); ever = given.ever },
          ),
        ),
      ),
    )
