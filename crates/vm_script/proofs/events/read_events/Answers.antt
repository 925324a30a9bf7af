use Rattle.std.proofs.Common.{arith, inl, refl}
use Rattle.vm_script.proofs.EventRuns.{bad_event, group_more, no_shape}
use Rattle.vm_script.proofs.events.read_events.Goals as goal

pub returns-in_default : goal.returns-in_default
returns-in_default c = (omega arith, inl (refl, no_shape c.args.bytes.now _ _ c.line_of.ensures c.in_default.ensures))

pub returns-in-None : goal.returns-in-None
returns-in-None c =
    let none = rw (c.deref.ensures.value, c.deref-in-lines.ensures.value) at c.in-None.ensures in (
      c.lines.invariant.short,
      bad_event c.args.bytes.now c.lines.rest.now _ _ _ c.lines.groups.items c.lines.lines.items _
          c.lines.invariant.read (grind (arith, c.lines-test.ensures)) (omega arith) (omega arith)
          c.line_of-in-lines.ensures none,
    )

pub lines-preserved-in_ok-push-in-Some-Group : goal.lines-preserved-in_ok-push-in-Some-Group
lines-preserved-in_ok-push-in-Some-Group c =
    let next = rw (c.in-Some-Group.field-0-is, c.deref.ensures.value, c.deref-in-lines.ensures.value)
    at c.in-Some-Group.ensures in
    record {
      read = rw c.in_ok-push-in-Some-Group.ensures.items
          (group_more c.args.bytes.now c.lines.rest.now _ _ _ c.lines.groups.items c.lines.lines.items
          c.in-Some-Group.group c.lines.invariant.read (grind (arith, c.lines-test.ensures)) c.line_of-in-lines.ensures next.0 next.1);
      short = c.lines.invariant.short;
      count = omega (arith, c.lines.invariant.count, c.in_ok-push-in-Some-Group.ensures.len);
      few = omega arith;
    }
