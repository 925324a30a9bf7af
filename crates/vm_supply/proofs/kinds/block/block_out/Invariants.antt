use Rattle.vm_supply.proofs.kinds.block.block_out.Given as goal

abbrev pub ghosts-block_out_with : goal.ghosts-block_out_with
ghosts-block_out_with g a = record { shape = a.words.now.table.shared.key; tells = g.B.Block.tells; page = a.p }
