use Rattle.std.specs.Fmt.{decimal}
use Rattle.std.proofs.Common.{◌++◌, ◌∷◌, lit<}
use Rattle.vm_script.proofs.calls.three_of.Goals as goal
use Rattle.vm_script.proofs.Words.{cut_here, lacks_decimal, no_cut}

pub returns-in_default : goal.returns-in_default
returns-in_default c = λ first second third h1 h2 h3 e.
    no_cut 32 _ (decimal first) (decimal second ++ 32 ∷ decimal third) c.in_default.ensures e

pub returns-in_default-number_of : goal.returns-in_default-number_of
returns-in_default-number_of c = λ first second third h1 h2 h3 e.
    c.in_default-number_of.ensures first h1
    (cut_here _ 32 _ _ (decimal first) (decimal second ++ 32 ∷ decimal third) c.in-Some.ensures
    (lacks_decimal 32 first (lit< tt) h1) e).0

pub returns-in_default-pair_of : goal.returns-in_default-pair_of
returns-in_default-pair_of c = λ first second third h1 h2 h3 e.
    c.in_default-pair_of.ensures second third h2 h3
    (cut_here _ 32 _ _ (decimal first) (decimal second ++ 32 ∷ decimal third) c.in-Some.ensures
    (lacks_decimal 32 first (lit< tt) h1) e).1
