use Rattle.vm_step.proofs.Prelude.{ap, arith, ℕ, ◌*◌, ◌∙◌}
use Rattle.vm_step.proofs.layout.behind_frames.Goals as goal

pub returns-clause-place : goal.returns-clause-place
returns-clause-place g c =
    let key = c.args.words.now.table.shared.key in
    let all = c.words_of_pages.ensures.is ∙ ap (λ (n : ℕ). n * c.args.words.now.frames) c.args.words.now.sized.0
    ∙ ap (λ (n : ℕ). key.size * n) c.args.words.now.shape.1 in
    omega (arith, all, c.args.words.now.shape.0)
