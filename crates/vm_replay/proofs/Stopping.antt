-- A list of events with an illegal one is not legal throughout.
use Rattle.std.proofs.Common.{[], ◌<◌, ◌∷◌, ◌≡◌, arith, Err, length, List, refl, slice_get, Some, subst, suc, sym, take, zero, ℕ}
use Rattle.vm_event.specs.Prelude.{after_event, AllLegal, Legal, run, State}
use Rattle.vm_core.specs.Prelude.{Replayed}
use Rattle.vm_core.specs.declared.playing.ReplayFault.{ReplayFault}
use Rattle.vm_core.specs.declared.playing.ReplayFault.TheVariants as faults
use Rattle.vm_rule.specs.Prelude.{Event}
use Rattle.vm_script.specs.declared.event_line.EventLine.{EventLine}
use Rattle.vm_replay.specs.Played.{events_of}

stops : (c : State) (es : List Event) (index : ℕ) → index < length es
    → ((e : Event) → slice_get es index ≡ Some e → Legal (run c (take index es)) e → ⊥) → AllLegal c es → ⊥
stops c [] index inside bad legal = absurd (omega arith)
stops c (e ∷ es) zero inside bad legal = bad e refl legal.0
stops c (e ∷ es) (suc index) inside bad legal = stops (after_event c e) es index (omega arith) bad legal.1

-- a replay that stopped at an illegal event of a line
pub line_stops : (old new : State) (line : EventLine) (es : List Event) (index : ℕ) (fault : ReplayFault)
    → es ≡ events_of old line → fault ≡ faults.Illegal index → Replayed old es (Err fault) new
    → AllLegal old (events_of old line) → ⊥
line_stops old new line es index fault same is answer legal =
    let r : Replayed old es (Err (faults.Illegal index)) new = subst (λ f. Replayed old es (Err f) new) is answer in
    stops old es index r.2 (λ e found may. r.1 e found (subst (λ s. Legal s e) (sym r.0.state) may))
    (subst (λ xs. AllLegal old xs) (sym same) legal)
