use Rattle.std.proofs.Common.{rules}
use Rattle.vm_step.specs.Prelude.{view}
use Rattle.vm_face.proofs.Views.{store-aside}
use Rattle.vm_face.proofs.store.TreeStore.flush.Goals as goal

pub returns-clause-store : goal.returns-clause-store
returns-clause-store g c =
    let flushed = c.flush.ensures.flushed in
    let store = c.requires.store in
    record {
      on = record {
        ready = search rules;
        pages = store.on.pages;
        store = store-aside _ flushed.done _ c.args.self.now.ever (view c.args.self.now.pass) (view c.flush.new.pass) flushed.aside
            store.on.store;
      };
      ways = store.ways;
    }
