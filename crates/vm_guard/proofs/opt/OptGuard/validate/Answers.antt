use Rattle.vm_guard.proofs.Denials.{looked-bare}
use Rattle.vm_guard.proofs.{Prelude.IfErr-weaker, Prelude.IfOk-weaker, Sure.valid-sure}
use Rattle.vm_guard.proofs.Validating.{kept-as, ok-unless, refused, stays-open, validated}
use Rattle.vm_guard.proofs.PageLoads.{looked-words}
use Rattle.vm_guard.proofs.opt.OptGuard.validate.Goals as goal

pub returns-clause-ok : goal.returns-clause-ok
returns-clause-ok g c =
    IfOk-weaker c.judge.result _ _
    (λ _ k. validated g.U.Owner.tied _ _ c.args.self.now.frame _ _ _ _ c.look-seen.ensures.told k.0 k.1 k.2
    c.requires.reading) c.judge.ensures.ok

pub returns-clause-kept : goal.returns-clause-kept
returns-clause-kept g c tells =
    IfOk-weaker c.judge.result _ _
    (λ _ k. kept-as g.U.Owner.keeps c.args.self.now.pid _ _ _
    (λ _. stays-open g.U.Owner.tied _ _ c.args.self.now.frame _ _ _ _ c.look-seen.ensures.told k.0 k.1 k.2
    c.requires.reading) (c.look-seen.ensures.kept tells)) c.judge.ensures.ok

pub returns-clause-err : goal.returns-clause-err
returns-clause-err g c =
    IfErr-weaker c.judge.result _ _
    (λ saw k. rw k.0 (refused g.U.Owner.tied _ _ c.args.self.now.frame _ _ _ _ c.look-seen.ensures.told
    c.requires.reading k.1)) c.judge.ensures.err

pub returns-clause-sure : goal.returns-clause-sure
returns-clause-sure g c a at =
    ok-unless c.judge.result _ (λ saw k. valid-sure g.U.Owner.tied c.args.self.now.pid _ _ c.args.self.now.word _ _
    c.look-seen.ensures.told a k.1 at) c.judge.ensures.err

pub returns-clause-words : goal.returns-clause-words
returns-clause-words g c = looked-words _ _ _ _ _ _ c.look-seen.ensures.told

pub returns-clause-bare : goal.returns-clause-bare
returns-clause-bare g c = IfErr-weaker c.judge.result _ _ (λ saw k. looked-bare c.look-seen.ensures.told) c.judge.ensures.err
