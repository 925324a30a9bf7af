-- Runs one after another, and what a replay keeps.
use Rattle.vm_core.specs.declared.playing.ReplayFault.TheVariants as faults
use Rattle.vm_rule.proofs.{Runs.run-core, Runs.run-one, Runs.run-tells, Runs.run_law}
use Rattle.vm_rule.proofs.{Starts.core-start, Starts.start_law, Tells.told_law}
use Rattle.vm_rule.proofs.Prelude.{[], after_event, AllLegal, ap, begin, core_start, CoreStart, Err, Event}
use Rattle.vm_rule.proofs.Prelude.{FaultsTold, FrameOnce, Inv, IsRunKept, IsStart, KeptFault, KeptFrom, List, refl}
use Rattle.vm_rule.proofs.Prelude.{Replayed, ReplayFault, run, RunsTo, start, State, subst, sym, take, Told, true}
use Rattle.vm_rule.proofs.Prelude.{world_run, ◌++◌, ◌∙◌, ◌∷◌, ◌≡◌}

run-both : (c : State) (xs ys : List Event) → run c (xs ++ ys) ≡ run (run c xs) ys
run-both c [] ys = refl
run-both c (x ∷ xs) ys = run-both (after_event c x) xs ys

legal-both : (c : State) (xs ys : List Event) → AllLegal c xs → AllLegal (run c xs) ys → AllLegal c (xs ++ ys)
legal-both c [] ys m n = n
legal-both c (x ∷ xs) ys m n = (m.0, legal-both (after_event c x) xs ys m.1 n)

-- legal events from a start whose blocks tell their words are kept
pub kept-run : (s : CoreStart) (events : List Event) (new : State) → IsStart s → s.tells ≡ true
    → RunsTo (start s) events new → KeptFrom s events new
kept-run s events new ok t r =
    let i : Inv (world_run (begin s) events) = run_law (begin s) events (start_law s ok) r.legal in
    let told : Told (world_run (begin s) events) = told_law (world_run (begin s) events) i in
    let core : (world_run (begin s) events).core ≡ new = run-core (begin s) events ∙ sym r.state in
    record {
      runs = r;
      core = core;
      invariant = i;
      frames = subst FrameOnce core told.frames;
      device = told.device (run-tells (begin s) events ∙ t);
      faults = subst FaultsTold core told.faults;
      reads = run-one (begin s) events t (start_law s ok) r.legal;
    }

pub kept-more : (old new : State) (done : List Event) → RunsTo old done new → IsRunKept old done new
kept-more old new done r shape groups before le fit b =
    let c : State = start (core_start shape groups) in
    kept-run (core_start shape groups) (before ++ done) new (core-start shape groups le fit) refl (record {
      legal = legal-both c before done b.legal (subst (λ x. AllLegal x done) b.state r.legal);
      state = r.state ∙ ap (λ x. run x done) b.state ∙ sym (run-both c before done);
    })

pub kept-fault : (old new : State) (events : List Event) (fault : ReplayFault) → Replayed old events (Err fault) new
    → KeptFault old events fault new
kept-fault old new events (faults.Illegal index) r = kept-more old new (take index events) r.0
kept-fault old new events faults.Memory r = r
