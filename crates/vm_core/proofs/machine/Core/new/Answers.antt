use Rattle.std.proofs.Common.{◌+◌, ◌/◌, ◌∙◌, ◌≡◌, ap, replicate, subst}
use Rattle.vm_core.specs.Prelude.{StartBundles}
use Rattle.vm_core.proofs.machine.Core.new.Goals as goal
use Rattle.vm_core.proofs.Starting.{start-is, StartLists}

pub returns : goal.returns
returns c =
    let n : c.bundle_count-count.result ≡ (c.args.shape.frames + 63) / 64 = c.bundle_count-count.ensures in
    let m : c.bundle_count-words.result ≡ (c.args.shape.pages + 63) / 64 = c.bundle_count-words.ensures in
    let lists : StartLists c.args.shape c.args.groups.now c.in_ok-heads.heads.items c.in_ok-pages.pages.items
    c.in_ok-frames.frames.items c.in_ok-bundles.bundles.items c.in_ok-held.held.items c.in_ok-owners.owners.items
    c.in_ok-spares.spares.items c.in_ok-numbers.numbers.items =
    record {
      heads_are = c.in_ok-heads.ensures.heads;
      pages_are = c.in_ok-pages.ensures;
      frames_are = c.in_ok-frames.ensures;
      bundles_are = subst (λ k. StartBundles c.args.shape.frames k c.in_ok-bundles.bundles.items) n c.in_ok-bundles.ensures;
      held_are = c.in_ok-held.ensures ∙ ap (λ k. replicate c.args.shape.actors (replicate k 0)) n;
      owners_are = c.in_ok-owners.ensures;
      spares_are = c.in_ok-spares.ensures ∙ ap (λ k. replicate k 0) m;
      numbers_are = c.in_ok-numbers.ensures ∙ ap (λ k. replicate c.args.shape.actors (replicate k 0)) m;
    } in
    rw c.from.ensures (start-is c.args.shape c.args.groups.now _ _ _ _ _ _ _ _ c.requires.next lists)
