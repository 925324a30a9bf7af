use Rattle.std.proofs.Common.{rules}
use Rattle.vm_evict.proofs.{Ended.ended, Ended.waiting-all, Gathering.each-at}
use Rattle.vm_evict.proofs.Prelude.{[], candidate_at, Each, IsBatch, IsCandidate, List, subst, sym, view, ℕ, ◌<◌}
use Rattle.vm_evict.proofs.evict.Goals as goal

pub returns-clause-evicted : goal.returns-clause-evicted
returns-clause-evicted g c =
    subst (λ (l : List (ℕ × ℕ)). IsBatch l c.args.candidates.now.looks (view c.args.pass.now)
    (view c.pass_over-5.new.pass) c.report_of.result.report c.report_of.result.frames)
    c.as_slice-list.ensures.value
    (ended c.as_slice-list.result.now c.args.candidates.now.looks c.waiting-stages.result c.pass_over.new.stages
    c.pass_over-2.new.stages c.pass_over-3.new.stages c.pass_over-4.new.stages c.pass_over-5.new.stages
    (view c.args.pass.now) (view c.pass_over.new.pass) (view c.pass_over-2.new.pass) (view c.pass_over-3.new.pass)
    (view c.pass_over-4.new.pass) (view c.pass_over-5.new.pass)
    (waiting-all c.as_slice-list.result.now c.waiting-stages.result (view c.args.pass.now) c.requires.home
    (λ n b. c.waiting-stages.ensures.waits n))
    c.pass_over.ensures.passed c.pass_over-2.ensures.passed c.pass_over-3.ensures.passed c.pass_over-4.ensures.passed
    c.pass_over-5.ensures.passed
    (λ n b. subst (λ (k : ℕ). (candidate_at c.as_slice-list.result.now n).0 < k)
    (sym c.requires.ready.table.is_shape.pages)
    (each-at (IsCandidate c.args.words.now.table.shared.key.pages) c.as_slice-list.result.now n b
    (subst (λ (l : List (ℕ × ℕ)). Each (IsCandidate c.args.words.now.table.shared.key.pages) l)
    (sym c.as_slice-list.ensures.value) c.requires.list.each)).page)
    c.pass_over-5.ensures.ends c.report_of.result c.report_of.ensures.counts c.report_of.ensures.frames)

pub pass_over-requires : goal.pass_over-requires
pass_over-requires g c = record {
  ready = search rules;
  sized = c.requires.sized;
  size = c.requires.size;
  list = search rules;
  few = search rules;
  way = (
    (view c.args.pass.now),
    [],
    waiting-all c.as_slice-list.result.now c.waiting-stages.result
        (view c.args.pass.now) c.requires.home (λ n b. c.waiting-stages.ensures.waits n),
  );
  begins = search rules;
}
