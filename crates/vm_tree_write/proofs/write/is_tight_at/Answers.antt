use Rattle.std.proofs.Common.{◌∙◌, arith, sym}
use Rattle.std.proofs.lemmas.Bool.{false≢true}
use Rattle.vm_node.proofs.Telling.{told_so, told_then}
use Rattle.vm_tree_write.proofs.write.is_tight_at.Goals as goal

pub returns-in-None-clause-told : goal.returns-in-None-clause-told
returns-in-None-clause-told g c =
    told_so (omega arith) (told_then g.met.P.Place.join c.spare_at-left.ensures.told c.find_at.ensures.told)
    (λ words size both yes. record {
      room = (let is = both.0 in let less = c.if-left-pair_size.true in let pair = c.pair_size.ensures in omega (arith, is, less, pair));
      absent = λ low high rises. sym (both.1 low high rises) ∙ c.in-None.is;
    })

pub returns-in-Some-clause-told : goal.returns-in-Some-clause-told
returns-in-Some-clause-told g c =
    told_so (omega arith) (told_then g.met.P.Place.join c.spare_at-left.ensures.told c.find_at.ensures.told)
    (λ words size both yes. absurd (false≢true yes))

pub returns-clause-told : goal.returns-clause-told
returns-clause-told g c = told_so (omega arith) c.spare_at-left.ensures.told (λ words size is yes. absurd (false≢true yes))
