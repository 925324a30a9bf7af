use Rattle.std.proofs.Common.{◌++◌, ◌∙◌, ◌≡◌, ap, List, refl, true, ℕ}
use Rattle.vm_rule.specs.Prelude.{frames_in, has}
use Rattle.vm_step.specs.Prelude.{View}
use Rattle.vm_test_frames.proofs.fault.take_both.Goals as goal

-- both frames are among those of the two lowest bits
has-both : (fs : List ℕ) → (has 0 (frames_in 0 3 ++ fs) ≡ true) × (has 1 (frames_in 0 3 ++ fs) ≡ true)
unfolding frames_in
has-both fs = (refl, refl)

pub returns-clause-holds : goal.returns-clause-holds
returns-clause-holds g c =
    let taken = ap (λ (v : View _). v.frames) c.in-Taken.ensures.told.brings.view in
    let both = has-both _ in
    (ap (has 0) taken ∙ both.0, ap (has 1) taken ∙ both.1)
