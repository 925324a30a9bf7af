use Rattle.std.proofs.Common.{◌∙◌, arith, refl, rules}
use Rattle.vm_tree_write.specs.from_vm_step.Prelude.{view}
use Rattle.vm_tree_write.proofs.from_vm_exmap.Handing.{held-on}
use Rattle.vm_tree_write.specs.from_vm_tree_read.Waiting.{IsRound as round}
use Rattle.vm_tree_write.proofs.from_vm_tree_read.Lasting.{reads-wait, waits-then}
use Rattle.vm_tree_write.proofs.from_vm_tree_read.Losing.{loses-same, loses-then, reads-lose}
use Rattle.vm_tree_write.proofs.from_vm_tree_read.Rounds.{told-as}
use Rattle.vm_tree_retry.specs.from_vm_tree_round.Rounds.{IsWriteFault as fault}
use Rattle.vm_tree_del.proofs.Leaving.{answer-leaves}
use Rattle.vm_tree_del.proofs.round.del_round.Goals as goal

pub returns-in-Done-clause-held : goal.returns-in-Done-clause-held
returns-in-Done-clause-held g c =
    let k = answer-leaves g.K.Kind.plain g.K.Kind.layout _ _ _ c.in-Done.ensures.tried in
    held-on _ (view c.args.pass.now) (view c.del_once.new.pass) c.requires.frames k.0 k.1

pub returns-in-Done-clause-lost : goal.returns-in-Done-clause-lost
returns-in-Done-clause-lost g c =
    let k = answer-leaves g.K.Kind.plain g.K.Kind.layout _ _ _ c.in-Done.ensures.tried in
    loses-same _ _ (view c.args.pass.now) (view c.del_once.new.pass) k.1 (λ f e. e)

-- ---- others came before

pub returns-in-Again-clause-held : goal.returns-in-Again-clause-held
returns-in-Again-clause-held g c =
    let reads = c.in-Again.ensures.tried.0 in
    held-on _ (view c.args.pass.now) (view c.del_once.new.pass) c.requires.frames reads.0.start reads.0.frames.0

pub returns-in-Again-clause-lost : goal.returns-in-Again-clause-lost
returns-in-Again-clause-lost g c = reads-lose c.args.iface.now.frames (view c.args.pass.now) (view c.del_once.new.pass)
    c.in-Again.ensures.tried.0

pub returns-in-Again-clause-told : goal.returns-in-Again-clause-told
returns-in-Again-clause-told g c =
    let back = c.in-Again.ensures.tried in (reads-wait _ _ back.0, round.again _ back.0 back.1)

-- ---- a page is damaged, or at the last version

pub returns-in-Damaged-clause-held : goal.returns-in-Damaged-clause-held
returns-in-Damaged-clause-held g c =
    let reads = c.in-Damaged.ensures.tried.0 in
    held-on _ (view c.args.pass.now) (view c.del_once.new.pass) c.requires.frames reads.0.start reads.0.frames.0

pub returns-in-Damaged-clause-lost : goal.returns-in-Damaged-clause-lost
returns-in-Damaged-clause-lost g c = reads-lose c.args.iface.now.frames (view c.args.pass.now) (view c.del_once.new.pass)
    c.in-Damaged.ensures.tried.0

pub returns-in-Damaged-clause-told : goal.returns-in-Damaged-clause-told
returns-in-Damaged-clause-told g c =
    let bad = c.in-Damaged.ensures.tried in (reads-wait _ _ bad.0, fault.damaged _ bad.0 bad.1 refl)

pub returns-in-Worn-clause-held : goal.returns-in-Worn-clause-held
returns-in-Worn-clause-held g c =
    let reads = c.in-Worn.ensures.tried.0 in
    held-on _ (view c.args.pass.now) (view c.del_once.new.pass) c.requires.frames reads.0.start reads.0.frames.0

pub returns-in-Worn-clause-lost : goal.returns-in-Worn-clause-lost
returns-in-Worn-clause-lost g c = reads-lose c.args.iface.now.frames (view c.args.pass.now) (view c.del_once.new.pass)
    c.in-Worn.ensures.tried.0

pub returns-in-Worn-clause-told : goal.returns-in-Worn-clause-told
returns-in-Worn-clause-told g c =
    let worn = c.in-Worn.ensures.tried in (reads-wait _ _ worn.0, fault.worn _ worn.0 worn.1 worn.2 refl)

-- ---- a page is needed

pub fetch-requires : goal.fetch-requires
fetch-requires g c =
    let needed = c.in-Need.ensures.tried in
    let inside = needed.1.inside in
    let pages = c.requires.ready.table.is_shape.pages in (
      search rules,
      (
        c.del_once.ensures.goes.ready,
        (
          needed.0.0.out ∙ c.requires.home,
          (
            held-on _ (view c.args.pass.now) (view c.del_once.new.pass) c.requires.frames needed.0.0.start needed.0.0.frames.0,
            omega (arith, inside, pages),
          ),
        ),
      ),
    )

pub returns-in-Need-clause-lost : goal.returns-in-Need-clause-lost
returns-in-Need-clause-lost g c =
    loses-then c.args.iface.now.frames c.args.iface.now.frames c.fetch.new.iface.frames (view c.args.pass.now)
    (view c.del_once.new.pass) (view c.fetch.new.pass)
    (reads-lose c.args.iface.now.frames (view c.args.pass.now) (view c.del_once.new.pass) c.in-Need.ensures.tried.0) c.fetch.ensures.lost

pub returns-in-Need-clause-told : goal.returns-in-Need-clause-told
returns-in-Need-clause-told g c =
    let needed = c.in-Need.ensures.tried in
    let waits = waits-then _ _ _ (reads-wait _ _ needed.0) c.fetch.ensures.waits in
    told-as _ _ _ _ _ _ c.fetch.result c.fetch.ensures.told (λ t none. absurd none) (λ k. (waits, round.needed _ _ needed.0 needed.1 k))
    (λ _ k. (waits, fault.missing _ _ needed.0 needed.1 k))
