use Rattle.std.proofs.Common.{◌++◌, ◌∙◌, ap, inl, subst, sym}
use Rattle.vm_event.specs.Prelude.{Version}
use Rattle.vm_owner.proofs.NumberLemmas.{without-none}
use Rattle.vm_rule.specs.Prelude.{has}
use Rattle.vm_step.specs.Prelude.{view}
use Rattle.vm_tree_read.proofs.from_vm_exmap.Handing.{held-on}
use Rattle.vm_tree_read.specs.from_vm_guard.Guards.{IsReleased}
use Rattle.vm_tree_read.proofs.Losing.{freed-loses, loses-same, loses-then}
use Rattle.vm_tree_split.proofs.prepare.give_up.Goals as goal
use Rattle.vm_tree_draft.proofs.Splitting.{none-said}

pub release-requires-clause-owner : goal.release-requires-clause-owner
release-requires-clause-owner g c =
    λ tells. inl (none-said _ c.as_ref.result c.as_ref.ensures.variant, (c.requires.same.1, c.requires.unpaid.1, tt))

pub release-requires-2-clause-owner : goal.release-requires-2-clause-owner
release-requires-2-clause-owner g c =
    let r = c.release.ensures.released in
    let v = view c.args.pass.now in
    let k = r.elsewhere.knows c.args.up.pid (λ e. c.requires.apart (sym e)) (inl c.requires.held.0.owns) in
    λ tells.
    inl (
      none-said _ c.as_ref-2.result c.as_ref-2.ensures.variant,
      (
        k.draft ∙ c.requires.same.0 ∙ sym (ap (λ (y : Version). y.words) k.last),
        ap (has c.args.up.pid)
            (r.group.1 ∙ without-none c.args.low.pid v.owed c.requires.unpaid.1) ∙ c.requires.unpaid.0,
        tt,
      ),
    )

pub free-requires-clause-frames : goal.free-requires-clause-frames
free-requires-clause-frames g c =
    let r = c.release.ensures.released.elsewhere.steady in
    let s = c.release-2.ensures.released.elsewhere.steady in
    held-on _ (view c.args.pass.now) (view c.release-2.new.pass) c.requires.frames (s.start ∙ r.start) (s.frames.0 ∙ r.frames.0)

pub returns-clause-lost : goal.returns-clause-lost
returns-clause-lost g c =
    let r = c.release.ensures.released.elsewhere.steady in
    let t = c.release-2.ensures.released.elsewhere.steady in
    let all = c.args.iface.now.frames ++ c.args.frames in
    loses-then all all c.free.new.self.frames (view c.args.pass.now) (view c.release-2.new.pass) (view c.free.new.pass)
    (loses-same all all (view c.args.pass.now) (view c.release-2.new.pass) (t.frames.0 ∙ r.frames.0) (λ f e. e))
    (freed-loses _ _ _ _ _ _ c.free.ensures.freed)

pub returns-clause-done : goal.returns-clause-done
returns-clause-done g c = record {
  between = view c.release.new.pass;
  released = view c.release-2.new.pass;
  low_back = subst (λ said. IsReleased c.args.low.pid c.args.low.version said (view c.args.pass.now)
      (view c.release.new.pass)) (none-said _ c.as_ref.result c.as_ref.ensures.variant) c.release.ensures.released;
  up_back = subst (λ said. IsReleased c.args.up.pid c.args.up.version said (view c.release.new.pass)
      (view c.release-2.new.pass)) (none-said _ c.as_ref-2.result c.as_ref-2.ensures.variant)
      c.release-2.ensures.released;
  done = c.free.ensures.freed.back.done;
  moves = c.free.ensures.freed.back.moves;
}
