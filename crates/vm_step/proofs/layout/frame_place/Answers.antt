use Rattle.vm_page.proofs.Sizes.{whole-room}
use Rattle.vm_step.proofs.Prelude.{ap, arith, sym, ℕ, ◌*◌, ◌∙◌}
use Rattle.vm_step.proofs.layout.frame_place.Goals as goal

pub returns : goal.returns
returns g c =
    let key = c.args.words.now.table.shared.key in
    let first = c.words_of_pages.ensures.is in
    let size = c.args.words.now.sized.0 in
    record {
      place = λ start has.
          let there = ap (λ (n : ℕ). n * c.args.f) (has.size ∙ sym size) ∙ sym first in
          omega (arith, there, has.pages, c.args.words.now.shape.0);
      inside =
          let there = first ∙ ap (λ (n : ℕ). n * c.args.f) size in
          let room = whole-room key.size c.args.f key.frames c.requires.frame in
          omega (arith, there, room, c.args.words.now.shape.0, c.args.words.now.wide.0);
    }
