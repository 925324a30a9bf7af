use Rattle.std.proofs.Common.{[], ◌∙◌, ◌∷◌, ap, inl, inr, None, subst, sym}
use Rattle.vm_event.specs.Prelude.{Version}
use Rattle.vm_rule.specs.Prelude.{AreUnchanged, change_of, has}
use Rattle.vm_step.specs.Prelude.{view}
use Rattle.vm_tree_read.specs.from_vm_guard.Guards.{IsReleased}
use Rattle.vm_tree_read.proofs.from_vm_guard.Reading.{reading-elsewhere}
use Rattle.vm_tree_split.proofs.prepare.lock_two.Goals as goal
use Rattle.vm_tree_draft.proofs.Splitting.{none-said}
use Rattle.vm_tree_split.proofs.Settling.{locked-alone, locked-word, only-worn}

pub returns-in-Err-clause-err : goal.returns-in-Err-clause-err
returns-in-Err-clause-err g c =
    let d = c.in-Err.ensures in
    (d.denied.kind, inl (record { denied = d.denied; last = d.unworn }))

pub upgrade-requires-2-clause-reading : goal.upgrade-requires-2-clause-reading
upgrade-requires-2-clause-reading g c =
    let l = c.in-Ok.ensures.taken.2 in
    inl (reading-elsewhere c.args.second.pid c.args.second.word c.args.second.frame c.args.first.pid l.done
    (view c.args.pass.now) (view c.upgrade.new.pass) c.requires.apart l.elsewhere c.requires.second)

pub release-requires-clause-owner : goal.release-requires-clause-owner
release-requires-clause-owner g c =
    let k = c.in-Ok.ensures.taken in
    let l = k.2 in
    let q = c.in-Err-upgrade.ensures.denied.quiet in
    let n = q.knows c.args.first.pid (inl l.holding.owns) in
    let y = view c.upgrade-2.new.pass in
    λ tells.
    inl (
      none-said _ c.as_ref.result c.as_ref.ensures.variant,
      subst (λ p. AreUnchanged y.owed (change_of y p ∷ [])) (sym k.0) (
        n.draft ∙ l.draft ∙ sym (ap (λ (t : Version). t.words) n.last),
        ap (has c.args.first.pid)
            (q.group.1 ∙ l.group.1) ∙ l.before.paid,
        tt,
      ),
    )

pub returns-in-Err-upgrade-clause-err : goal.returns-in-Err-upgrade-clause-err
returns-in-Err-upgrade-clause-err g c =
    let k = c.in-Ok.ensures.taken in
    let l = k.2 in
    let d = c.in-Err-upgrade.ensures.denied in
    let up = c.in-Ok.up in
    let v = view c.args.pass.now in
    let x = view c.upgrade.new.pass in
    let y = view c.upgrade-2.new.pass in
    let w = view c.release.new.pass in
    let r = subst (λ said. IsReleased up.pid up.version said y w)
    (none-said _ c.as_ref.result c.as_ref.ensures.variant) c.release.ensures.released in
    let back = subst (λ p. IsReleased p up.version None y w) k.0 r in (
      d.kind,
      inr (record {
        frame = up.frame;
        version = up.version;
        dirty = up.dirty;
        locked = x;
        done = y;
        version_is = k.1;
        taken = l;
        inner = inl (record { denied = d; last = c.in-Err-upgrade.ensures.unworn });
        back = back;
      }),
    )

-- ---- a pass that knows both pages to be free

pub returns-in-Err-clause-sure : goal.returns-in-Err-clause-sure
returns-in-Err-clause-sure g c k =
    let d = c.in-Err.ensures in
    only-worn c.args.first.pid c.args.first.word c.in-Err.deny (view c.args.pass.now) d.denied.kind k.alone k.free.0 k.words.0 d.worn d.sure

pub returns-in-Err-upgrade-clause-sure : goal.returns-in-Err-upgrade-clause-sure
returns-in-Err-upgrade-clause-sure g c k =
    let d = c.in-Err-upgrade.ensures in
    let l = c.in-Ok.ensures.taken.2 in
    let up = c.in-Ok.up in
    let v = view c.args.pass.now in
    let x = view c.upgrade.new.pass in
    only-worn c.args.second.pid c.args.second.word c.in-Err-upgrade.deny x d.denied.kind
    (locked-alone c.args.first.pid up.frame up.version up.dirty v x l k.alone) k.free.1
    (locked-word c.args.first.pid up.frame up.version up.dirty v x l k.alone c.args.second.pid c.requires.apart ∙ k.words.1) d.worn d.sure
