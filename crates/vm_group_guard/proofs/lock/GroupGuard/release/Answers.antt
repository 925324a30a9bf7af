-- The pages may be released together, and each makes the release's step.
use Rattle.std.specs.Prelude.{option_map}
use Rattle.vm_group_guard.proofs.PagesUnder.{in-turn-over}
use Rattle.vm_group_guard.proofs.Prelude.{ap, length, List, numbers, subst, sym, view, ℕ, ◌+◌, ◌∙◌, ◌∷◌, ◌≡◌}
use Rattle.vm_group_guard.proofs.Releasing.{below-last, given-up, group-kept, group-may}
use Rattle.vm_step.specs.steps.Release.{MayGiveUpAll, ReleaseTellsOf}
use Rattle.vm_group_guard.proofs.lock.GroupGuard.release.Goals as goal

pub release_group-requires-clause-below : goal.release_group-requires-clause-below
release_group-requires-clause-below g c = below-last _ _ _ _ c.requires.holds c.requires.group.some

pub release_group-requires-clause-legal : goal.release_group-requires-clause-legal
release_group-requires-clause-legal g c =
    let front : c.args.self.head ∷ c.as_slice.result.now ≡ numbers c.args.self.head (length c.args.self.stands.items) =
    ap (λ (l : List ℕ). c.args.self.head ∷ l) c.as_slice.ensures.value ∙ c.others-others.ensures
    ∙ ap (numbers c.args.self.head) c.len.ensures.value in
    subst (λ qs. MayGiveUpAll g.U.Owner.may_release qs c.args.self.head c.args.self.version c.as_slice.result.now
    (option_map (λ b. b.now) c.args.said) (view c.args.pass.now)) (sym c.requires.group.pages)
    (group-may g.U.Owner.may_release c.args.self.head c.args.self.version c.as_slice.result.now _ _
    c.args.self.stands.items c.requires.group.some c.requires.group.few front c.requires.holds c.requires.may
    c.requires.owner)

pub returns-clause-released : goal.returns-clause-released
returns-clause-released g c =
    let front : c.args.self.head ∷ c.as_slice.result.now ≡ numbers c.args.self.head (length c.args.self.stands.items) =
    ap (λ (l : List ℕ). c.args.self.head ∷ l) c.as_slice.ensures.value ∙ c.others-others.ensures
    ∙ ap (numbers c.args.self.head) c.len.ensures.value in
    given-up g.U.Owner.keeps g.B.Block.tells c.args.self.head c.args.self.version c.as_slice.result.now
    (option_map (λ b. b.now) c.args.said) (c.args.self.version + 1) g.U.Owner.may_release _ _
    c.requires.ready.table.tells_is c.args.self.stands.items c.requires.group.some front c.requires.holds
    c.requires.may c.requires.owner
    (in-turn-over (λ q _. ReleaseTellsOf g.U.Owner.keeps g.B.Block.tells c.args.self.head c.args.self.version
    c.as_slice.result.now (option_map (λ b. b.now) c.args.said) q) _ _ _ _ _ c.requires.group.pages
    c.release_group.ensures.told)

pub returns-clause-kept : goal.returns-clause-kept
returns-clause-kept g c =
    group-kept g.U.Owner.keeps g.B.Block.tells c.args.self.head c.args.self.version c.as_slice.result.now
    (option_map (λ b. b.now) c.args.said) (c.args.self.version + 1) c.args.self.stands.items _ _ c.requires.group.some
    (in-turn-over (λ q _. ReleaseTellsOf g.U.Owner.keeps g.B.Block.tells c.args.self.head c.args.self.version
    c.as_slice.result.now (option_map (λ b. b.now) c.args.said) q) _ _ _ _ _ c.requires.group.pages
    c.release_group.ensures.told)
