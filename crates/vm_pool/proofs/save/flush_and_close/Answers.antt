use Rattle.std.proofs.Common.{rules}
use Rattle.vm_pool.proofs.Prelude.{view, whole-then, ◌∙◌}
use Rattle.vm_pool.proofs.save.flush_and_close.Goals as goal

pub flush-report-requires : goal.flush-report-requires
flush-report-requires g c = record {
  ready = c.requires.ready;
  sized = c.args.pool.sized;
  size = c.args.pool.size;
  home = c.requires.holds.out;
}

pub close-requires : goal.close-requires
close-requires g c =
    let aside = c.flush-report.ensures.flushed.aside in
    let whole = whole-then (view c.args.pass) (view c.flush-report.new.pass) aside.parts c.requires.alone.0 in
    let current = aside.alone.current c.requires.alone.1 in (
      search rules,
      (
        c.flush-report.ensures.goes.ready.may.0,
        (
          whole,
          (
            current,
            record {
              shares = λ q. (aside.holds q).shares ∙ c.requires.holds.shares q;
              exclusive = λ q. (aside.holds q).exclusive ∙ c.requires.holds.exclusive q;
              writing = λ q. (aside.holds q).writing ∙ c.requires.holds.writing q;
              out = aside.out ∙ c.requires.holds.out;
            },
          ),
        ),
      ),
    )
