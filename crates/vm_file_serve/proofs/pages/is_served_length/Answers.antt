use Rattle.std.proofs.Common.{◌/◌, ◌≤◌, arith}
use Rattle.std.proofs.lemmas.Bool.{leb-true}
use Rattle.vm_file_serve.proofs.pages.is_served_length.Goals as goal

pub returns-then-size-ge1024-clause-yes : goal.returns-then-size-ge1024-clause-yes
returns-then-size-ge1024-clause-yes c = λ few.
    let most : c.args.size ≤ 131072 = leb-true c.args.size 131072 few in (
      c.args.size / 512,
      omega (arith, c.if-size-ge1024.true),
      omega (arith, most),
      omega (arith, c.if-size-eq0.true),
    )
