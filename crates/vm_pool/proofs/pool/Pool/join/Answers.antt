use Rattle.vm_pool.proofs.Parting.{takes-joins}
use Rattle.vm_pool.proofs.Prelude.{view}
use Rattle.vm_pool.proofs.pool.Pool.join.Goals as goal

pub returns-clause-joins : goal.returns-clause-joins
returns-clause-joins g c =
    takes-joins _ _ (view c.args.pass.now) (view c.args.other) (view c.join_pass.new.pass) c.args.pass.now.sound.mine
    (record {
      middle = view c.catch_up.new.pass;
      caught = c.catch_up.ensures.told;
      joins = c.join_pass.ensures.told;
    }) c.join_pass.ensures.knows
