-- The looks, the mark that is taken away and the loads of the translation words give each answer.
use Rattle.vm_group_guard.proofs.Beginning.{begun, names-each}
use Rattle.vm_group_guard.proofs.Denials.{locked-now, moved, needed}
use Rattle.vm_group_guard.proofs.Prelude.{frame_of, inl, inr, InTurn, length, List, LookTells, map, mapping_of, None}
use Rattle.vm_group_guard.proofs.Prelude.{refl}
use Rattle.vm_group_guard.proofs.Prelude.{slice_index, Some, subst, sym, view, ℕ, ◌+◌, ◌<◌, ◌∙◌, ◌≡◌, ◌≢◌, ◌≤◌}
use Rattle.vm_group_guard.proofs.reader.GroupReader.start.Goals as goal
use Rattle.vm_group_guard.proofs.reader.GroupReader.start.Goals.{then-version-via-then-version}
use Rattle.vm_group_guard.proofs.reader.GroupReader.start.Goals.{then-version-via-else-version+then-state-3}

pub returns-then-state-clause-err : goal.returns-then-state-clause-err
returns-then-state-clause-err g c =
    needed g.U.Owner.keeps g.U.Owner.tied g.B.Block.tells c.args.head c.args.size c.requires.group.some _ _ _
    (subst (λ qs. InTurn (λ q. LookTells g.U.Owner.keeps g.U.Owner.tied g.B.Block.tells q None) qs c.look_group-first.result
    (view c.args.pass.now) (view c.look_group-first.new.pass)) c.requires.group.pages c.look_group-first.ensures.told)
    (sym c.state.ensures ∙ c.if-state.true)

pub returns-then-state-2-clause-err : goal.returns-then-state-2-clause-err
returns-then-state-2-clause-err g c =
    locked-now g.U.Owner.keeps g.U.Owner.tied g.B.Block.tells c.args.head c.args.size c.requires.group.some _ _ _
    (subst (λ qs. InTurn (λ q. LookTells g.U.Owner.keeps g.U.Owner.tied g.B.Block.tells q None) qs c.look_group-first.result
    (view c.args.pass.now) (view c.look_group-first.new.pass)) c.requires.group.pages c.look_group-first.ensures.told)
    (sym c.state-2.ensures ∙ c.if-state-2.true)

pub returns-then-version-clause-err : goal.returns-then-version-clause-err
returns-then-version-clause-err g c =
    moved g.U.Owner.keeps g.U.Owner.tied g.B.Block.tells c.args.head c.args.size c.requires.group.some _ _ _ _ _ _ _ _
    (subst (λ qs. InTurn (λ q. LookTells g.U.Owner.keeps g.U.Owner.tied g.B.Block.tells q None) qs c.look_group-first.result
    (view c.args.pass.now) (view c.look_group-first.new.pass)) c.requires.group.pages c.look_group-first.ensures.told)
    c.clear_mark.ensures.clears c.translations-translations.ensures.told c.translations-translations.ensures.count
    (subst (λ qs. InTurn (λ q. LookTells g.U.Owner.keeps g.U.Owner.tied g.B.Block.tells q None) qs c.look_group-seen.result
    (view c.translations-translations.new.pass)
    (view c.look_group-seen.new.pass)) c.requires.group.pages c.look_group-seen.ensures.told)
    (elim c.then-version.branch [
      | then-version-via-then-version w ↦ inl (λ e. w.if-version.true (c.version.ensures ∙ sym e
          ∙ sym c.version-2.ensures))
      | then-version-via-else-version+then-state-3 w ↦ inr (sym w.state-else-version.ensures ∙ w.if-state-3.true)
    ])

pub frames_of-requires-clause-named : goal.frames_of-requires-clause-named
frames_of-requires-clause-named g c =
    let view0 = view c.args.pass.now in
    subst (λ (l : List ℕ). (k : ℕ) → k < length l → frame_of (mapping_of (slice_index l k)) ≢ None)
    (sym c.as_slice.ensures.value)
    (names-each g.U.Owner.keeps g.U.Owner.tied g.B.Block.tells c.args.head c.args.size c.requires.group.some _ _ _ view0 _ _ _ _
    (subst (λ qs. InTurn (λ q. LookTells g.U.Owner.keeps g.U.Owner.tied g.B.Block.tells q None) qs c.look_group-first.result
    view0 (view c.look_group-first.new.pass)) c.requires.group.pages c.look_group-first.ensures.told)
    c.clear_mark.ensures.clears c.translations-translations.ensures.told c.translations-translations.ensures.count
    (subst (λ qs. InTurn (λ q. LookTells g.U.Owner.keeps g.U.Owner.tied g.B.Block.tells q None) qs c.look_group-seen.result
    (view c.translations-translations.new.pass)
    (view c.look_group-seen.new.pass)) c.requires.group.pages c.look_group-seen.ensures.told)
    (subst (λ n. n < 256) c.state.ensures c.state.type_inv) (λ e. c.if-state-2.false (c.state-2.ensures ∙ e))
    (λ e. c.if-state.false (c.state.ensures ∙ e))
    (subst (λ n. n < 256) c.state-else-version.ensures c.state-else-version.type_inv)
    (λ e. c.if-state-3.false (c.state-else-version.ensures ∙ e))
    (sym c.version.ensures ∙ c.if-version.false ∙ c.version-2.ensures))

pub returns-clause-ok : goal.returns-clause-ok
returns-clause-ok g c =
    let view0 = view c.args.pass.now in
    let inside : c.args.head + c.args.size ≤ (view c.args.pass.now).start.pages =
    subst (λ n. c.args.head + c.args.size ≤ n) (sym c.requires.ready.table.is_shape.pages) c.requires.group.inside in (
      refl,
      begun g.U.Owner.keeps g.U.Owner.tied g.B.Block.tells c.args.head c.args.size c.requires.group.some _ _ _ view0 _ _ _ _
          (subst (λ qs. InTurn (λ q. LookTells g.U.Owner.keeps g.U.Owner.tied g.B.Block.tells q None) qs c.look_group-first.result
          view0 (view c.look_group-first.new.pass)) c.requires.group.pages c.look_group-first.ensures.told)
          c.clear_mark.ensures.clears c.translations-translations.ensures.told c.translations-translations.ensures.count
          (subst (λ qs. InTurn (λ q. LookTells g.U.Owner.keeps g.U.Owner.tied g.B.Block.tells q None) qs c.look_group-seen.result
          (view c.translations-translations.new.pass)
          (view c.look_group-seen.new.pass)) c.requires.group.pages c.look_group-seen.ensures.told)
          (subst (λ n. n < 256) c.state.ensures c.state.type_inv) (λ e. c.if-state-2.false (c.state-2.ensures ∙ e))
          (λ e. c.if-state.false (c.state.ensures ∙ e))
          (subst (λ n. n < 256) c.state-else-version.ensures c.state-else-version.type_inv)
          (λ e. c.if-state-3.false (c.state-else-version.ensures ∙ e))
          (sym c.version.ensures ∙ c.if-version.false ∙ c.version-2.ensures)
          c.frames_of.result.items inside
          (subst (λ (l : List ℕ). map (λ t. frame_of (mapping_of t)) l ≡ map
          (λ f. Some f) c.frames_of.result.items) c.as_slice.ensures.value
          c.frames_of.ensures),
    )
