-- One look at the group's word gives each answer.
use Rattle.vm_group_guard.proofs.Prelude.{inl, inr, InTurn, LookTells, option_map, said_at, subst, sym}
use Rattle.vm_group_guard.proofs.Prelude.{view, ◌<◌, ◌∙◌}
use Rattle.vm_group_guard.proofs.Validating.{bare-all, denied-all, kept-all, may-tell, valid-all, valid-keeps}
use Rattle.vm_group_guard.proofs.reader.GroupReader.validate.Goals as goal
use Rattle.vm_group_guard.proofs.reader.GroupReader.validate.Goals.{then-version-via-then-version}
use Rattle.vm_group_guard.proofs.reader.GroupReader.validate.Goals.{then-version-via-else-version+then-state}
use Rattle.vm_step.specs.steps.Look.{MayTellTogether}

pub look_group_saying-seen-requires-clause-owner : goal.look_group_saying-seen-requires-clause-owner
look_group_saying-seen-requires-clause-owner g c =
    subst (λ qs. MayTellTogether g.U.Owner.tied g.U.Owner.may_hold qs c.args.self.now.head (option_map
    (λ b. b.now) c.args.said)
    (view c.args.pass.now)) (sym c.requires.group.pages)
    (may-tell c.args.self.now.head c.args.self.now.word c.args.self.now.frames.items g.U.Owner.tied g.U.Owner.may_hold _ _
    c.requires.group.some c.requires.reading c.requires.owner)

pub returns-then-version-clause-err : goal.returns-then-version-clause-err
returns-then-version-clause-err g c =
    denied-all g.U.Owner.keeps g.U.Owner.tied g.B.Block.tells c.args.self.now.word c.look_group_saying-seen.result
    (elim c.then-version.branch [
      | then-version-via-then-version w ↦ inl (λ e. w.if-version.true (c.version.ensures ∙ e ∙ sym c.version-2.ensures))
      | then-version-via-else-version+then-state w ↦ inr (sym w.state.ensures ∙ w.if-state.true)
    ])
    c.args.self.now.head (option_map (λ b. b.now) c.args.said) c.args.self.now.frames.items _ _ c.requires.group.some
    (subst (λ qs. InTurn (λ q. LookTells g.U.Owner.keeps g.U.Owner.tied g.B.Block.tells q
    (said_at c.args.self.now.head (option_map (λ b. b.now) c.args.said) q)) qs c.look_group_saying-seen.result
    (view c.args.pass.now)
    (view c.look_group_saying-seen.new.pass)) c.requires.group.pages c.look_group_saying-seen.ensures.told)
    c.requires.reading

pub returns-then-version-clause-bare : goal.returns-then-version-clause-bare
returns-then-version-clause-bare g c =
    bare-all g.U.Owner.keeps g.U.Owner.tied g.B.Block.tells c.args.self.now.word c.look_group_saying-seen.result c.args.self.now.head _ _ _ _
    c.look_group_saying-seen.ensures.told

pub returns-clause-ok : goal.returns-clause-ok
returns-clause-ok g c =
    valid-all g.U.Owner.keeps g.U.Owner.tied g.B.Block.tells c.args.self.now.word c.look_group_saying-seen.result
    (sym c.version.ensures ∙ c.if-version.false ∙ c.version-2.ensures)
    (λ e. c.if-state.false (c.state.ensures ∙ e)) (subst (λ n. n < 256) c.state.ensures c.state.type_inv)
    c.args.self.now.head (option_map (λ b. b.now) c.args.said) c.args.self.now.frames.items _ _
    (subst (λ qs. InTurn (λ q. LookTells g.U.Owner.keeps g.U.Owner.tied g.B.Block.tells q
    (said_at c.args.self.now.head (option_map (λ b. b.now) c.args.said) q)) qs c.look_group_saying-seen.result
    (view c.args.pass.now)
    (view c.look_group_saying-seen.new.pass)) c.requires.group.pages c.look_group_saying-seen.ensures.told)
    c.requires.reading

pub returns-clause-reads : goal.returns-clause-reads
returns-clause-reads g c k low =
    valid-keeps g.U.Owner.keeps g.U.Owner.tied g.B.Block.tells c.args.self.now.word c.look_group_saying-seen.result
    (sym c.version.ensures ∙ c.if-version.false ∙ c.version-2.ensures)
    (λ e. c.if-state.false (c.state.ensures ∙ e)) (subst (λ n. n < 256) c.state.ensures c.state.type_inv)
    c.args.self.now.head c.args.self.now.frames.items _ _ _ (returns-clause-ok g c) _ _ (c.requires.reading k low)

pub returns-clause-kept : goal.returns-clause-kept
returns-clause-kept g c tells =
    kept-all g.U.Owner.keeps g.U.Owner.tied g.B.Block.tells c.args.self.now.word c.look_group_saying-seen.result
    (sym c.version.ensures ∙ c.if-version.false ∙ c.version-2.ensures)
    (λ e. c.if-state.false (c.state.ensures ∙ e)) (subst (λ n. n < 256) c.state.ensures c.state.type_inv)
    c.args.self.now.head (option_map (λ b. b.now) c.args.said) c.args.self.now.frames.items _ _ c.requires.group.some
    (subst (λ qs. InTurn (λ q. LookTells g.U.Owner.keeps g.U.Owner.tied g.B.Block.tells q
    (said_at c.args.self.now.head (option_map (λ b. b.now) c.args.said) q)) qs c.look_group_saying-seen.result
    (view c.args.pass.now)
    (view c.look_group_saying-seen.new.pass)) c.requires.group.pages c.look_group_saying-seen.ensures.told)
    c.requires.reading tells
