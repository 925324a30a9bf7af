use Rattle.std.proofs.Common.{rules}
use Rattle.vm_evict.proofs.Prelude.{arith, view}
use Rattle.vm_evict.proofs.Writing.{cleaned, copies-frame, copies-shared, copies-size, may-clean, may-come-home}
use Rattle.vm_evict.proofs.Writing.{may-raise, may-take-out, refused}
use Rattle.vm_evict.proofs.write.write_back.Goals as goal

pub block_out-block-requires-clause-legal : goal.block_out-block-requires-clause-legal
block_out-block-requires-clause-legal g c = may-take-out c.args.p c.args.frame c.requires.legal.0 (view c.args.pass.now) c.requires.legal.1

pub block_home-requires-clause-legal : goal.block_home-requires-clause-legal
block_home-requires-clause-legal g c = (
  _,
  may-come-home c.args.p c.args.frame c.requires.legal.0 (view c.args.pass.now) c.requires.legal.1 _
      (view c.block_out-block.new.pass) c.block_out-block.ensures.told _ (view c.copy_page-page.new.pass)
      c.copy_page-page.ensures.copied g.B.Block.tells c.requires.ready.table.tells_is _ c.write-wrote.result
      c.write-wrote.ensures,
)

pub set_clean-requires-clause-legal : goal.set_clean-requires-clause-legal
set_clean-requires-clause-legal g c = may-clean c.args.p c.args.frame c.requires.legal.0 (view c.args.pass.now)
    c.requires.legal.1 _ (view c.block_out-block.new.pass) c.block_out-block.ensures.told _
    (view c.copy_page-page.new.pass) c.copy_page-page.ensures.copied g.B.Block.tells c.requires.ready.table.tells_is _
    c.write-wrote.result c.write-wrote.ensures (view c.block_home.new.pass) c.block_home.ensures.told _ c.in-Ok.is

pub returns-in-Ok-clause-written : goal.returns-in-Ok-clause-written
returns-in-Ok-clause-written g c v found = cleaned c.args.p c.args.frame v (view c.args.pass.now) found _
    (view c.block_out-block.new.pass) c.block_out-block.ensures.told _ (view c.copy_page-page.new.pass)
    c.copy_page-page.ensures.copied g.B.Block.tells c.requires.ready.table.tells_is _ c.write-wrote.result
    c.write-wrote.ensures (view c.block_home.new.pass) c.block_home.ensures.told _ c.in-Ok.is _
    c.set_clean.ensures.told (omega (arith, c.ranges.frame))

pub raise-requires-clause-legal : goal.raise-requires-clause-legal
raise-requires-clause-legal g c = may-raise c.args.p c.args.frame c.requires.legal.0 (view c.args.pass.now)
    c.requires.legal.1 _ (view c.block_out-block.new.pass) c.block_out-block.ensures.told _
    (view c.copy_page-page.new.pass) c.copy_page-page.ensures.copied g.B.Block.tells c.requires.ready.table.tells_is _
    c.write-wrote.result c.write-wrote.ensures (view c.block_home.new.pass) c.block_home.ensures.told _
    c.faults-count.ensures

pub returns-in-Err-clause-written : goal.returns-in-Err-clause-written
returns-in-Err-clause-written g c v found = refused c.args.p c.args.frame v (view c.args.pass.now) found _
    (view c.block_out-block.new.pass) c.block_out-block.ensures.told _ (view c.copy_page-page.new.pass)
    c.copy_page-page.ensures.copied g.B.Block.tells c.requires.ready.table.tells_is _ c.write-wrote.result
    c.write-wrote.ensures (view c.block_home.new.pass) c.block_home.ensures.told _ c.faults-count.ensures _
    c.in-Err.is (g.met.B.Block.bounded c.write-wrote.new.self) _ c.raise.ensures.told

pub copy_page-page-requires : goal.copy_page-page-requires
copy_page-page-requires g c = (
  search rules,
  (
    search rules,
    (
      search rules,
      (
        copies-frame c.args.p c.args.frame c.requires.legal.0 (view c.args.pass.now) c.requires.legal.1 _
            (view c.block_out-block.new.pass) c.block_out-block.ensures.told,
        (
          copies-shared c.args.p c.args.frame c.requires.legal.0 (view c.args.pass.now) c.requires.legal.1 _
              (view c.block_out-block.new.pass) c.block_out-block.ensures.told,
          (
            c.requires.sized,
            (
              c.requires.size,
              copies-size c.args.p c.args.frame c.requires.legal.0 (view c.args.pass.now)
                  c.requires.legal.1 _ (view c.block_out-block.new.pass) c.block_out-block.ensures.told,
            ),
          ),
        ),
      ),
    ),
  ),
)
