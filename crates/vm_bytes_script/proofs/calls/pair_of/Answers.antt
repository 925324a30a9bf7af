use Rattle.std.specs.Fmt.{decimal}
use Rattle.std.proofs.Common.{lit<}
use Rattle.vm_bytes_text.specs.KeyTexts.{key_text}
use Rattle.vm_script.proofs.Words.{cut_here, no_cut}
use Rattle.vm_bytes_script.proofs.Keys.{lacks_key}
use Rattle.vm_bytes_script.proofs.calls.pair_of.Goals as goal

pub returns-in_default : goal.returns-in_default
returns-in_default c = λ key number k n e. no_cut 32 _ (key_text key) (decimal number) c.in_default.ensures e

pub returns-in_default-key_of : goal.returns-in_default-key_of
returns-in_default-key_of c = λ key number k n e.
    c.in_default-key_of.ensures key k
    (cut_here _ 32 _ _ (key_text key) (decimal number) c.in-Some.ensures (lacks_key 32 key (lit< tt) k) e).0

pub returns-in_default-number_of : goal.returns-in_default-number_of
returns-in_default-number_of c = λ key number k n e.
    c.in_default-number_of.ensures number n
    (cut_here _ 32 _ _ (key_text key) (decimal number) c.in-Some.ensures (lacks_key 32 key (lit< tt) k) e).1
