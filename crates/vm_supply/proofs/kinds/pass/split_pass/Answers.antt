use Rattle.vm_supply.proofs.{kinds.pass.split_pass.Goals.else-part, kinds.pass.split_pass.Goals.then-part, steps.Pass.splits-any}
use Rattle.vm_step.proofs.Prelude.{ap, arith, false, giver-sound, length, newcomer-sound, Sound, subst, sym, true, view_of, ◌<◌, ◌∙◌, ◌≡◌}
use Rattle.vm_supply.proofs.kinds.pass.split_pass.Goals as goal

pub split_seat-other-requires : goal.split_seat-other-requires
split_seat-other-requires g c =
    let is = ap view_of c.lift-seat.ensures.2 in (
      c.lift-seat.ensures.0 ∙ c.requires.pass.0,
      omega (arith, c.args.words.now.wide.0),
      splits-any _ _ _ _ _ _ true _ (subst (λ v. v.live ≡ true) is c.args.pass.now.live)
          (subst (λ v. 0 < length v.used) is c.requires.pass.1),
    )

pub split_seat-other-requires-else-part : goal.split_seat-other-requires-else-part
split_seat-other-requires-else-part g c =
    let is = ap view_of c.lift-seat.ensures.2 in (
      c.lift-seat.ensures.0 ∙ c.requires.pass.0,
      omega (arith, c.args.words.now.wide.0),
      splits-any _ _ _ _ _ _ false _ (subst (λ v. v.live ≡ true) is c.args.pass.now.live)
          (subst (λ v. 0 < length v.used) is c.requires.pass.1),
    )

pub invariant_of-pass-clause-sound : goal.invariant_of-pass-clause-sound
invariant_of-pass-clause-sound g c =
    let old = subst Sound (ap view_of c.lift-seat.ensures.2) c.args.pass.now.sound in
    subst Sound (sym (ap view_of c.into_badge.ensures.2)) (elim c.if-part.branch [
      | then-part w ↦ rw w.seat-is
          (subst (λ m. Sound m.0) (sym w.split_seat-other.ensures.2) (giver-sound true c.lift-seat.result.me.0 old))
      | else-part w ↦ rw w.seat-is
          (subst (λ m. Sound m.0) (sym w.split_seat-other-else-part.ensures.2)
          (giver-sound false c.lift-seat.result.me.0 old))
    ])

pub invariant_of-result-clause-sound : goal.invariant_of-result-clause-sound
invariant_of-result-clause-sound g c =
    let old = subst Sound (ap view_of c.lift-seat.ensures.2) c.args.pass.now.sound in
    subst Sound (sym (ap view_of c.into_badge-2.ensures.2)) (elim c.if-part.branch [
      | then-part w ↦ rw w.other-is
          (subst (λ m. Sound m.0) (sym w.split_seat-other.ensures.4)
          (newcomer-sound true c.lift-seat.result.me.0 old))
      | else-part w ↦ rw w.other-is
          (subst (λ m. Sound m.0) (sym w.split_seat-other-else-part.ensures.4)
          (newcomer-sound false c.lift-seat.result.me.0 old))
    ])
