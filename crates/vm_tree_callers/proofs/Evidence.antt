-- What the evidence of a try tells of its call.
use Rattle.std.proofs.Common.{⊎_elim, ◌++◌, ◌≡◌, ◌≢◌, ◌⊎◌, ap, inl, inr, List, subst, sym, ℕ}
use Rattle.vm_event.specs.Prelude.{LOCKED, state_of, version_of}
use Rattle.vm_step.specs.Prelude.{Did, HasGiven, place_at, View, WhyAgain}
use Rattle.vm_step.specs.{declared.saw.At.At, declared.saw.Saw.Saw}
use Rattle.vm_step.specs.declared.saw.At.TheVariants as ats
use Rattle.vm_tree_retry.specs.from_vm_tree_rule.Shown.{IsAgain}

other-words : (p : ℕ) (at : At) (first seen : ℕ) (last : Did) → at ≡ ats.Page p → WhyAgain at first seen last
    → (first ≢ seen) ⊎ (state_of seen ≡ LOCKED)
other-words p at first seen last is why =
    ⊎_elim
    (λ versions. inl (λ e. versions (ap version_of e)))
    (λ rest. ⊎_elim (λ locked. inr locked) (λ lost. inl (λ e. lost.other (sym e))) rest)
    (subst (λ a. WhyAgain a first seen last) is why)

pub again-seen : {X : Type 0} (saw : Saw) (v w : View X) → IsAgain v saw w → (done : List Did) × (w.log ≡ v.log ++ done)
    × HasGiven done (place_at saw.at) saw.seen
again-seen saw v w a =
    let s = a.seen in
    (a.done, a.log, record { earlier = s.earlier; step = s.last; later = s.later; cut = s.cut; gives = s.gives })

pub again-other : {X : Type 0} (saw : Saw) (v w : View X) → IsAgain v saw w → (saw.first ≢ saw.seen) ⊎ (state_of saw.seen ≡ LOCKED)
again-other saw v w a = other-words a.page saw.at saw.first saw.seen a.seen.last a.at a.seen.why
