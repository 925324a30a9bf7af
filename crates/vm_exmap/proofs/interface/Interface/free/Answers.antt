-- What is kept and what is given are the two parts of what was handed in; what the interface had and keeps is still held.
use Rattle.vm_exmap.proofs.Handing.{held-rest, held-still}
use Rattle.vm_exmap.proofs.Prelude.{ap, append_assoc, AreHeld, List, subst, sym, view, ℕ, ◌++◌, ◌∙◌, ◌≡◌}
use Rattle.vm_exmap.proofs.interface.Interface.free.Goals as goal

pub give_back-requires-clause-frames : goal.give_back-requires-clause-frames
give_back-requires-clause-frames g c =
    let kept : List ℕ = c.split_at.result.0.now in
    let given : List ℕ = c.split_at.result.1.now in
    let old : List ℕ = c.args.self.now.frames in
    let parts : c.args.frames ≡ kept ++ given = sym c.as_slice.ensures.value ∙ c.split_at.ensures.by_index.0 in
    held-rest (old ++ kept) given (view c.args.pass.now)
    (subst (λ (l : List ℕ). AreHeld l (view c.args.pass.now))
    (ap (λ (l : List ℕ). old ++ l) parts ∙ sym (append_assoc old kept given)) c.requires.frames)

pub returns-clause-held : goal.returns-clause-held
returns-clause-held g c =
    let kept : List ℕ = c.split_at.result.0.now in
    let given : List ℕ = c.split_at.result.1.now in
    let old : List ℕ = c.args.self.now.frames in
    let parts : c.args.frames ≡ kept ++ given = sym c.as_slice.ensures.value ∙ c.split_at.ensures.by_index.0 in
    subst (λ (l : List ℕ). AreHeld l (view c.give_back.new.pass)) (sym c.append.ensures)
    (held-still (old ++ kept) given (view c.args.pass.now)
    (subst (λ (l : List ℕ). AreHeld l (view c.args.pass.now))
    (ap (λ (l : List ℕ). old ++ l) parts ∙ sym (append_assoc old kept given)) c.requires.frames)
    (view c.give_back.new.pass) c.give_back.ensures.given)
