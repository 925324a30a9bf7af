use Rattle.std.proofs.Common.{ap, arith, refl, rules}
use Rattle.vm_tree_write.specs.from_vm_step.Prelude.{Origin, view}
use Rattle.vm_tree_write.proofs.from_vm_tree_read.{Losing.loses-same, Losing.swept-loses, Rounds.told-as}
use Rattle.vm_tree_round.specs.Rounds.{IsNoRoomFault as no_faults, IsRoomFault as room_faults}
use Rattle.vm_tree_write.proofs.from_vm_tree_split.{Framing.keeps-self, Trying.tried-as}
use Rattle.vm_tree_round.proofs.Leaving.{sweep-keeps, waits-keep}
use Rattle.vm_tree_round.proofs.round.after_split.Goals as goal

-- ---- a page is brought

pub fetch-requires : goal.fetch-requires
fetch-requires g c =
    let t = c.requires.tried in
    let needed = tried-as g.K.Kind.plain g.K.Kind.layout g.K.Kind.spare t.0 _ _ t.1 (view c.args.pass.now) c.in-Need.is t.2 in (
      search rules,
      (
        c.requires.ready,
        (
          c.requires.home,
          (
            c.requires.frames,
            (let shape = c.requires.ready.table.is_shape.pages in let inside =
                needed.1.1.inside in let start = ap (λ (o : Origin). o.pages) needed.0.start in
                omega (arith, inside, shape, start)),
          ),
        ),
      ),
    )

pub returns-in-Need-clause-keeps : goal.returns-in-Need-clause-keeps
returns-in-Need-clause-keeps g c = waits-keep _ _ c.fetch.ensures.waits

pub returns-in-Need-clause-told : goal.returns-in-Need-clause-told
returns-in-Need-clause-told g c key v tried =
    let needed = tried-as g.K.Kind.plain g.K.Kind.layout g.K.Kind.spare key _ _ v (view c.args.pass.now) c.in-Need.is tried in
    told-as _ _ _ _ _ _ c.fetch.result c.fetch.ensures.told (λ t none. none)
    (λ k. no_faults.missing (view c.args.pass.now) c.in-Need.pid needed.1.0 needed.1.1 k)
    (λ _ k. room_faults.missing (view c.args.pass.now) c.in-Need.pid needed.1.0 needed.1.1 k)

-- ---- frames are freed

pub returns-in-Dry-clause-keeps : goal.returns-in-Dry-clause-keeps
returns-in-Dry-clause-keeps g c = sweep-keeps _ _ _ (keeps-self (view c.args.pass.now)) c.sweep-report.ensures.keeps

pub returns-in-Dry-clause-lost : goal.returns-in-Dry-clause-lost
returns-in-Dry-clause-lost g c = swept-loses _ _ _ _ _ _ _ c.sweep-report.ensures.swept

pub returns-in-Dry-clause-told : goal.returns-in-Dry-clause-told
returns-in-Dry-clause-told g c key v tried =
    let dry = tried-as g.K.Kind.plain g.K.Kind.layout g.K.Kind.spare key _ _ v (view c.args.pass.now) c.in-Dry.is tried in
    told-as _ _ _ _ _ _ c.settle.result c.settle.ensures (λ t none. none)
    (λ none. no_faults.swept (view c.args.pass.now) _ _ _ _ _ c.dry_cause.result dry.1 dry.0 c.sweep-report.ensures.swept
    c.dry_cause.ensures none)
    (λ _ named. room_faults.swept (view c.args.pass.now) _ _ _ _ _ c.dry_cause.result dry.1 dry.0 c.sweep-report.ensures.swept
    c.dry_cause.ensures named)

-- ---- nothing is done

pub returns-in-Worn-clause-told : goal.returns-in-Worn-clause-told
returns-in-Worn-clause-told g c key v tried =
    room_faults.worn c.in-Worn.pid
    (tried-as g.K.Kind.plain g.K.Kind.layout g.K.Kind.spare key _ _ v (view c.args.pass.now) c.in-Worn.is tried).1
    refl

pub returns-in-Damaged-clause-told : goal.returns-in-Damaged-clause-told
returns-in-Damaged-clause-told g c key v tried =
    let met = tried-as g.K.Kind.plain g.K.Kind.layout g.K.Kind.spare key _ _ v (view c.args.pass.now) c.in-Damaged.is tried in
    room_faults.damaged c.in-Damaged.pid met.1.0 met.1.1 refl

pub returns-in-Full-clause-told : goal.returns-in-Full-clause-told
returns-in-Full-clause-told g c key v tried =
    room_faults.full c.in-Full.pages _ _
    (tried-as g.K.Kind.plain g.K.Kind.layout g.K.Kind.spare key _ _ v (view c.args.pass.now) c.in-Full.is tried).1
    refl

pub returns-in-Split-clause-told : goal.returns-in-Split-clause-told
returns-in-Split-clause-told g c key v tried =
    no_faults.split (tried-as g.K.Kind.plain g.K.Kind.layout g.K.Kind.spare key _ _ v (view c.args.pass.now)
    c.in-Split.is tried).1

pub returns-in-Roomy-clause-told : goal.returns-in-Roomy-clause-told
returns-in-Roomy-clause-told g c key v tried =
    no_faults.roomy (tried-as g.K.Kind.plain g.K.Kind.layout g.K.Kind.spare key _ _ v (view c.args.pass.now)
    c.in-Roomy.is tried).1

pub returns-in-Again-clause-told : goal.returns-in-Again-clause-told
returns-in-Again-clause-told g c key v tried =
    no_faults.again _ (tried-as g.K.Kind.plain g.K.Kind.layout g.K.Kind.spare key _ _ v (view c.args.pass.now)
    c.in-Again.is tried).1

pub returns-in-Split-clause-keeps : goal.returns-in-Split-clause-keeps
returns-in-Split-clause-keeps g c = keeps-self (view c.args.pass.now)

pub returns-in-Roomy-clause-keeps : goal.returns-in-Roomy-clause-keeps
returns-in-Roomy-clause-keeps g c = keeps-self (view c.args.pass.now)

pub returns-in-Again-clause-keeps : goal.returns-in-Again-clause-keeps
returns-in-Again-clause-keeps g c = keeps-self (view c.args.pass.now)

pub returns-in-Worn-clause-keeps : goal.returns-in-Worn-clause-keeps
returns-in-Worn-clause-keeps g c = keeps-self (view c.args.pass.now)

pub returns-in-Damaged-clause-keeps : goal.returns-in-Damaged-clause-keeps
returns-in-Damaged-clause-keeps g c = keeps-self (view c.args.pass.now)

pub returns-in-Full-clause-keeps : goal.returns-in-Full-clause-keeps
returns-in-Full-clause-keeps g c = keeps-self (view c.args.pass.now)

pub returns-in-Split-clause-lost : goal.returns-in-Split-clause-lost
returns-in-Split-clause-lost g c = loses-same _ _ (view c.args.pass.now) (view c.args.pass.now) refl (λ f e. e)

pub returns-in-Roomy-clause-lost : goal.returns-in-Roomy-clause-lost
returns-in-Roomy-clause-lost g c = loses-same _ _ (view c.args.pass.now) (view c.args.pass.now) refl (λ f e. e)

pub returns-in-Again-clause-lost : goal.returns-in-Again-clause-lost
returns-in-Again-clause-lost g c = loses-same _ _ (view c.args.pass.now) (view c.args.pass.now) refl (λ f e. e)

pub returns-in-Worn-clause-lost : goal.returns-in-Worn-clause-lost
returns-in-Worn-clause-lost g c = loses-same _ _ (view c.args.pass.now) (view c.args.pass.now) refl (λ f e. e)

pub returns-in-Damaged-clause-lost : goal.returns-in-Damaged-clause-lost
returns-in-Damaged-clause-lost g c = loses-same _ _ (view c.args.pass.now) (view c.args.pass.now) refl (λ f e. e)

pub returns-in-Full-clause-lost : goal.returns-in-Full-clause-lost
returns-in-Full-clause-lost g c = loses-same _ _ (view c.args.pass.now) (view c.args.pass.now) refl (λ f e. e)
