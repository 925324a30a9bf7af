use Rattle.std.proofs.Common.{arith}
use Rattle.vm_runs.proofs.churn.served.Goals as goal
use Rattle.vm_runs.proofs.Churning.{few_pages, pages_fit}

pub overflow_mul-pages : goal.overflow_mul-pages
overflow_mul-pages g c = omega (arith, few_pages g.row.N c.args.load.pairs g.S.OfSize.is_size c.requires.within.pairs, c.needed.ensures)

pub overflow_add-pages : goal.overflow_add-pages
overflow_add-pages g c = omega (arith, few_pages g.row.N c.args.load.pairs g.S.OfSize.is_size c.requires.within.pairs, c.needed.ensures)

pub numbered_image-requires : goal.numbered_image-requires
numbered_image-requires g c =
    let size = g.S.OfSize.is_size in
    let pairs = c.requires.within.pairs in
    let fit = pages_fit g.row.N c.args.load.pairs size pairs in
    (omega arith, (size, (omega (arith, fit, c.needed.ensures), (omega (arith, pairs), omega (arith, c.needed.ensures)))))
