use Rattle.std.proofs.Common.{arith, refl}
use Rattle.vm_block.specs.Memory.{stored_of}
use Rattle.vm_rule.proofs.ListFacts.{length-mapped}
use Rattle.vm_pool.proofs.FirstPass.{first-alone, first-words}
use Rattle.vm_test_pages.proofs.pools.pool_of.Goals as goal

pub returns-clause-alone : goal.returns-clause-alone
returns-clause-alone g c = first-alone _ _ _ _ _ _ _ _ c.in_ok-start.ensures.view

pub returns-clause-words : goal.returns-clause-words
returns-clause-words g c p l =
    let long = length-mapped stored_of c.args.blocks.items in
    first-words _ _ _ _ _ _ _ _ c.in_ok-start.ensures.view refl p (omega (arith, l, long))
