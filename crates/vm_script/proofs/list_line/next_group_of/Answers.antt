use Rattle.std.proofs.Common.{◌<◌, ◌^◌, ◌∙◌, ◌≡◌, arith, refl, subst, sym, ℕ}
use Rattle.std.proofs.lemmas.Bool.{false≢true}
use Rattle.vm_script.proofs.GroupLines.{fit_last, fit_more, IsBeside, one_group, small_group}
use Rattle.vm_script.proofs.list_line.next_group_of.Goals.{else-is_group-via-else-is_group}
use Rattle.vm_script.proofs.list_line.next_group_of.Goals.{else-is_group-via-then-is_group+else-is_beside}
use Rattle.vm_script.proofs.list_line.next_group_of.Goals as goal

pub returns-in_default : goal.returns-in_default
returns-in_default c = λ group fit e.
    let few : c.args.pages < 2 ^ 32 = omega (arith, c.ranges.pages.fits) in
    c.in_default.ensures group
    (small_group c.args.pages group few (fit_last c.args.pages c.args.groups.now group fit).is) e

pub returns-then-is_beside : goal.returns-then-is_beside
returns-then-is_beside c = (
  fit_more c.args.pages c.args.groups.now c.in-Some.group c.requires
      (record { is = c.if-is_group.ensures.0 refl; apart = c.if-is_beside.ensures.0 refl }),
  c.in-Some.ensures.1,
)

pub returns-else-is_group : goal.returns-else-is_group
returns-else-is_group c = λ group fit e.
    let few : c.args.pages < 2 ^ 32 = omega (arith, c.ranges.pages.fits) in
    let last = fit_last c.args.pages c.args.groups.now group fit in
    let same : group ≡ c.in-Some.group = one_group group c.in-Some.group (small_group c.args.pages group few last.is)
    c.in-Some.ensures.0 (sym e ∙ c.in-Some.ensures.1) in
    let there = subst (λ (g : ℕ × ℕ). IsBeside c.args.pages c.args.groups.now g) same last in
    elim c.else-is_group.branch [
      | else-is_group-via-then-is_group+else-is_beside w ↦ false≢true (w.if-is_beside.ensures.1 there.apart)
      | else-is_group-via-else-is_group w ↦ false≢true (w.if-is_group.ensures.1 there.is)
    ]
