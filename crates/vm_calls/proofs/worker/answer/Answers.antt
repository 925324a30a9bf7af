use Rattle.std.proofs.Common.{[], ◌+◌, ◌∷◌, ◌≡◌, arith, length, subst, sym}
use Rattle.vm_map.specs.declared.call.Call.{Call}
use Rattle.vm_map.specs.declared.call.Call.TheVariants.{Del, Get, Put, Range, Swap, Window}
use Rattle.vm_step.specs.Prelude.{view}
use Rattle.vm_calls.specs.{Spans.ranges_asked, TreeCalls.IsTreeCall}
use Rattle.vm_calls.proofs.Answering.{tree-called}
use Rattle.vm_calls.proofs.worker.answer.Goals as goal

pub returns-in-Get-clause-keeps : goal.returns-in-Get-clause-keeps
returns-in-Get-clause-keeps g c =
    (tree-called g.row.N (Get c.in-Get.key) c.answer_get.result (view c.args.pass.now) (view c.answer_get.new.pass) c.answer_get.ensures.call).0

pub returns-in-Get-clause-call : goal.returns-in-Get-clause-call
returns-in-Get-clause-call g c =
    subst (λ (call : Call). IsTreeCall g.row.N call c.answer_get.result (view c.args.pass.now) (view c.answer_get.new.pass))
    (sym c.in-Get.is) c.answer_get.ensures.call

pub returns-in-Get-clause-spans : goal.returns-in-Get-clause-spans
returns-in-Get-clause-spans g c =
    subst (λ (call : Call). length c.args.spans.now.items + ranges_asked (call ∷ []) ≡ length c.args.spans.now.items)
    (sym c.in-Get.is) (omega arith)

pub returns-in-Put-clause-keeps : goal.returns-in-Put-clause-keeps
returns-in-Put-clause-keeps g c =
    (tree-called g.row.N (Put c.in-Put.key c.in-Put.value) c.answer_put.result (view c.args.pass.now) (view c.answer_put.new.pass) c.answer_put.ensures.call).0

pub returns-in-Put-clause-call : goal.returns-in-Put-clause-call
returns-in-Put-clause-call g c =
    subst (λ (call : Call). IsTreeCall g.row.N call c.answer_put.result (view c.args.pass.now) (view c.answer_put.new.pass))
    (sym c.in-Put.is) c.answer_put.ensures.call

pub returns-in-Put-clause-spans : goal.returns-in-Put-clause-spans
returns-in-Put-clause-spans g c =
    subst (λ (call : Call). length c.args.spans.now.items + ranges_asked (call ∷ []) ≡ length c.args.spans.now.items)
    (sym c.in-Put.is) (omega arith)

pub returns-in-Del-clause-keeps : goal.returns-in-Del-clause-keeps
returns-in-Del-clause-keeps g c =
    (tree-called g.row.N (Del c.in-Del.key) c.answer_del.result (view c.args.pass.now) (view c.answer_del.new.pass) c.answer_del.ensures.call).0

pub returns-in-Del-clause-call : goal.returns-in-Del-clause-call
returns-in-Del-clause-call g c =
    subst (λ (call : Call). IsTreeCall g.row.N call c.answer_del.result (view c.args.pass.now) (view c.answer_del.new.pass))
    (sym c.in-Del.is) c.answer_del.ensures.call

pub returns-in-Del-clause-spans : goal.returns-in-Del-clause-spans
returns-in-Del-clause-spans g c =
    subst (λ (call : Call). length c.args.spans.now.items + ranges_asked (call ∷ []) ≡ length c.args.spans.now.items)
    (sym c.in-Del.is) (omega arith)

pub returns-in-Window-clause-keeps : goal.returns-in-Window-clause-keeps
returns-in-Window-clause-keeps g c =
    (tree-called g.row.N (Window c.in-Window.start c.in-Window.most) c.answer_window.result (view c.args.pass.now) (view c.answer_window.new.pass) c.answer_window.ensures.call).0

pub returns-in-Window-clause-call : goal.returns-in-Window-clause-call
returns-in-Window-clause-call g c =
    subst (λ (call : Call). IsTreeCall g.row.N call c.answer_window.result (view c.args.pass.now) (view c.answer_window.new.pass))
    (sym c.in-Window.is) c.answer_window.ensures.call

pub returns-in-Window-clause-spans : goal.returns-in-Window-clause-spans
returns-in-Window-clause-spans g c =
    subst (λ (call : Call). length c.args.spans.now.items + ranges_asked (call ∷ []) ≡ length c.args.spans.now.items)
    (sym c.in-Window.is) (omega arith)

pub returns-in-Swap-clause-keeps : goal.returns-in-Swap-clause-keeps
returns-in-Swap-clause-keeps g c =
    (tree-called g.row.N (Swap c.in-Swap.key c.in-Swap.want c.in-Swap.value) c.answer_swap.result (view c.args.pass.now) (view c.answer_swap.new.pass) c.answer_swap.ensures.call).0

pub returns-in-Swap-clause-call : goal.returns-in-Swap-clause-call
returns-in-Swap-clause-call g c =
    subst (λ (call : Call). IsTreeCall g.row.N call c.answer_swap.result (view c.args.pass.now) (view c.answer_swap.new.pass))
    (sym c.in-Swap.is) c.answer_swap.ensures.call

pub returns-in-Swap-clause-spans : goal.returns-in-Swap-clause-spans
returns-in-Swap-clause-spans g c =
    subst (λ (call : Call). length c.args.spans.now.items + ranges_asked (call ∷ []) ≡ length c.args.spans.now.items)
    (sym c.in-Swap.is) (omega arith)

pub returns-in-Range-clause-keeps : goal.returns-in-Range-clause-keeps
returns-in-Range-clause-keeps g c =
    (tree-called g.row.N (Range c.in-Range.low c.in-Range.bound) c.answer_range.result (view c.args.pass.now) (view c.answer_range.new.pass) c.answer_range.ensures.call).0

pub returns-in-Range-clause-call : goal.returns-in-Range-clause-call
returns-in-Range-clause-call g c =
    subst (λ (call : Call). IsTreeCall g.row.N call c.answer_range.result (view c.args.pass.now) (view c.answer_range.new.pass))
    (sym c.in-Range.is) c.answer_range.ensures.call
