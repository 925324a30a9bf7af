use Rattle.vm_page.proofs.Sizes.{size_few, size_some}
use Rattle.vm_rule.proofs.{Prelude.ap, Prelude.arith, Prelude.length, Prelude.rules, Prelude.TableShape, Prelude.◌<◌}
use Rattle.vm_rule.proofs.{Prelude.sym, Prelude.◌≡◌, Prelude.◌≤◌, Prelude.◌∙◌, StartedRule.opens}
use Rattle.vm_rule.proofs.words.Words.started.Goals as goal

pub evicted_words-requires-clause-size : goal.evicted_words-requires-clause-size
evicted_words-requires-clause-size g c = size_few c.args.size c.requires.sized

pub evicted_words-requires-clause-claimed : goal.evicted_words-requires-clause-claimed
evicted_words-requires-clause-claimed g c p e =
    let low : p < c.args.next = c.requires.claimed p e in
    let le : c.args.next ≤ length c.args.blocks.items = c.requires.fits.claimed in
    let same : length c.as_slice.result.now ≡ length c.args.blocks.items = ap length c.as_slice.ensures.value in
    omega (arith, low, le, same)

pub opened-requires : goal.opened-requires
opened-requires g c =
    let made = opens _ g.B.Block.stored c.args.size g.B.Block.tells c.args.version c.args.next c.args.free.now
    c.args.groups.now c.args.frames c.args.blocks.items c.requires.whole c.requires.fits
    g.U.Owner.keeps g.U.Owner.tied g.met.B.Block.bounded g.met.B.Block.capped c.requires.fit c.requires.claimed c.requires.begins _ _
    c.as_slice-2.ensures.value c.as_slice.ensures.value _ _ _ c.shape_of-shape.ensures
    (c.as_slice-3.ensures.value ∙ c.in_ok-words.ensures) c.in_ok-slots.ensures in
    let size = ap (λ (y : TableShape). y.size) c.shape_of-shape.ensures in
    let some = size_some c.args.size c.requires.sized in
    let few = size_few c.args.size c.requires.sized in
    record {
      stands = made.0;
      pages = search rules;
      frames = search rules;
      size = (omega (arith, size, some), omega (arith, size, few));
      grouped = c.in_ok-groups.ensures ∙ sym (ap (λ (y : TableShape). y.began.origin.groups) c.shape_of-shape.ensures);
      takes = ap g.U.Owner.takes_size size ∙ c.requires.takes;
      wide = made.1;
    }
