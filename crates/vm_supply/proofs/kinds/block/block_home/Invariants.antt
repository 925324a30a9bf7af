use Rattle.vm_supply.proofs.kinds.block.block_home.Given as goal

abbrev pub ghosts-block_home_with : goal.ghosts-block_home_with
ghosts-block_home_with g a = record { shape = a.words.now.table.shared.key; tells = g.B.Block.tells; page = a.p }
