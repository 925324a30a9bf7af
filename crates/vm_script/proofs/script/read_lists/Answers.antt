use Rattle.std.proofs.Common.{[], ◌≡◌, arith, inl, refl}
use Rattle.vm_script.specs.Orders.{range_count}
use Rattle.vm_script.proofs.Lines.{bad_line}
use Rattle.vm_script.proofs.Lists.{few_of, reading_count, reading_more, reading_script}
use Rattle.vm_script.proofs.RangeLines.{counted, many_ranges}
use Rattle.vm_script.proofs.script.read_lists.Goals as goal

pub lines-init : goal.lines-init
lines-init g c = record {
  reading = record { orders = []; read = record { each = tt; front = inl refl }; each = c.in_ok-lists.ensures; count = refl; many = refl };
  short = omega arith;
  few = omega arith;
  most = omega arith;
}

pub returns-in_default-clause-reading : goal.returns-in_default-clause-reading
returns-in_default-clause-reading g c =
    let before = c.lines.invariant in (
      before.short,
      bad_line g.K.CallSyntax.grammar c.texts_tell_calls.ensures c.args.workers c.args.bytes.now c.lines.rest.now _ _
          before.reading.orders _ (omega arith) before.reading.read (grind (arith, c.lines-test.ensures)) (omega (arith, before.reading.count))
          (omega arith) (omega (arith, before.reading.many, before.most)) c.line_of.ensures c.in_default.ensures,
    )

pub returns-then-ranges-gt-MOST_RANGES-clause-reading : goal.returns-then-ranges-gt-MOST_RANGES-clause-reading
returns-then-ranges-gt-MOST_RANGES-clause-reading g c =
    let before = c.lines.invariant in
    let count : c.from-ranges.result ≡ range_count g.K.CallSyntax.grammar c.in-Some.order.call = counted g.K.CallSyntax.grammar _ _ _ c.is_range.ensures c.from-ranges.ensures in (
      before.short,
      many_ranges g.K.CallSyntax.grammar c.texts_tell_calls.ensures c.args.workers c.args.bytes.now c.lines.rest.now _ _
          before.reading.orders c.in-Some.order _ (omega arith) before.reading.read (grind (arith, c.lines-test.ensures))
          (omega (arith, before.reading.count)) (omega arith) (omega (arith, before.reading.many, before.most)) c.line_of.ensures
          c.in-Some.ensures.0 c.in-Some.ensures.1 (omega (arith, c.if-ranges-gt-MOST_RANGES.true, count, before.reading.many)),
    )

pub index_mut-requires : goal.index_mut-requires
index_mut-requires g c =
    omega (arith, c.in-Some.ensures.0.worker, reading_count g.K.CallSyntax.grammar (λ calls. calls.items) _ _ _ c.lines.lists.items _ _ c.lines.invariant.reading)

pub lines-preserved : goal.lines-preserved
lines-preserved g c =
    let before = c.lines.invariant in
    let count : c.from-ranges.result ≡ range_count g.K.CallSyntax.grammar c.in-Some.order.call = counted g.K.CallSyntax.grammar _ _ _ c.is_range.ensures c.from-ranges.ensures in
    record {
      reading = rw count (reading_more g.K.CallSyntax.grammar (λ calls. calls.items) c.args.workers c.args.bytes.now c.lines.rest.now _ _
          c.lines.lists.items _ _ c.in-Some.order c.index_mut.result.now c.push.new.self c.index_mut.result.now before.reading (grind (arith, c.lines-test.ensures))
          c.line_of.ensures c.in-Some.ensures.0 c.in-Some.ensures.1 c.index_mut.ensures.value c.in_ok-push.ensures.items);
      short = before.short;
      few = omega arith;
      most = omega arith;
    }

pub returns-clause-count : goal.returns-clause-count
returns-clause-count g c = reading_count g.K.CallSyntax.grammar (λ calls. calls.items) _ _ _ c.lines.lists.items _ _ c.lines.invariant.reading

pub returns-clause-few : goal.returns-clause-few
returns-clause-few g c = few_of g.K.CallSyntax.grammar (λ calls. calls.items) c.args.workers c.args.bytes.now c.lines.lists.items
    (reading_script g.K.CallSyntax.grammar c.args.workers c.args.bytes.now _ _ _ _ (omega arith) (omega arith) c.lines.invariant.reading (grind (arith, c.lines-test.ensures)))
