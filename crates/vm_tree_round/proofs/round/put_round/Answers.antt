use Rattle.std.proofs.Common.{◌∙◌, arith, refl, rules}
use Rattle.vm_tree_write.specs.from_vm_step.Prelude.{view}
use Rattle.vm_tree_write.proofs.from_vm_step.Going.{goes-then}
use Rattle.vm_tree_write.proofs.from_vm_exmap.Handing.{held-on}
use Rattle.vm_tree_write.specs.from_vm_tree_read.Waiting.{IsRound as round}
use Rattle.vm_tree_write.proofs.from_vm_tree_read.Losing.{loses-same, loses-then, reads-lose}
use Rattle.vm_tree_write.proofs.from_vm_tree_read.Rounds.{told-as}
use Rattle.vm_tree_write.proofs.from_vm_tree_split.{Framing.keeps-then, Trying.reads-keep}
use Rattle.vm_tree_round.specs.Rounds.{IsPutFault as put_fault, IsPutRound as put_round, IsWriteFault as fault}
use Rattle.vm_tree_round.proofs.Leaving.{waits-keep}
use Rattle.vm_tree_round.proofs.round.put_round.Goals as goal

pub returns-in-Done-clause-held : goal.returns-in-Done-clause-held
returns-in-Done-clause-held g c =
    let k = c.in-Done.ensures.tried.0.writes in
    held-on _ (view c.args.pass.now) (view c.put_once.new.pass) c.requires.frames k.start k.frames.0

pub returns-in-Done-clause-lost : goal.returns-in-Done-clause-lost
returns-in-Done-clause-lost g c =
    loses-same _ _ (view c.args.pass.now) (view c.put_once.new.pass) c.in-Done.ensures.tried.0.writes.frames.0 (λ f e. e)

-- ---- others came before

pub returns-in-Again-clause-held : goal.returns-in-Again-clause-held
returns-in-Again-clause-held g c =
    let reads = c.in-Again.ensures.tried.0 in
    held-on _ (view c.args.pass.now) (view c.put_once.new.pass) c.requires.frames reads.0.start reads.0.frames.0

pub returns-in-Again-clause-lost : goal.returns-in-Again-clause-lost
returns-in-Again-clause-lost g c = reads-lose c.args.iface.now.frames (view c.args.pass.now) (view c.put_once.new.pass)
    c.in-Again.ensures.tried.0

pub returns-in-Again-clause-told : goal.returns-in-Again-clause-told
returns-in-Again-clause-told g c =
    let back = c.in-Again.ensures.tried in (reads-keep _ _ back.0, put_round.round (round.again _ back.0 back.1))

-- ---- a page is damaged, or at the last version

pub returns-in-Damaged-clause-held : goal.returns-in-Damaged-clause-held
returns-in-Damaged-clause-held g c =
    let reads = c.in-Damaged.ensures.tried.0 in
    held-on _ (view c.args.pass.now) (view c.put_once.new.pass) c.requires.frames reads.0.start reads.0.frames.0

pub returns-in-Damaged-clause-lost : goal.returns-in-Damaged-clause-lost
returns-in-Damaged-clause-lost g c = reads-lose c.args.iface.now.frames (view c.args.pass.now) (view c.put_once.new.pass)
    c.in-Damaged.ensures.tried.0

pub returns-in-Damaged-clause-told : goal.returns-in-Damaged-clause-told
returns-in-Damaged-clause-told g c =
    let bad = c.in-Damaged.ensures.tried in (reads-keep _ _ bad.0, put_fault.unwritten (fault.damaged _ bad.0 bad.1 refl))

pub returns-in-Worn-clause-held : goal.returns-in-Worn-clause-held
returns-in-Worn-clause-held g c =
    let reads = c.in-Worn.ensures.tried.0 in
    held-on _ (view c.args.pass.now) (view c.put_once.new.pass) c.requires.frames reads.0.start reads.0.frames.0

pub returns-in-Worn-clause-lost : goal.returns-in-Worn-clause-lost
returns-in-Worn-clause-lost g c = reads-lose c.args.iface.now.frames (view c.args.pass.now) (view c.put_once.new.pass)
    c.in-Worn.ensures.tried.0

pub returns-in-Worn-clause-told : goal.returns-in-Worn-clause-told
returns-in-Worn-clause-told g c =
    let worn = c.in-Worn.ensures.tried in (reads-keep _ _ worn.0, put_fault.unwritten (fault.worn _ worn.0 worn.1 worn.2 refl))

-- ---- a page is needed

pub fetch-requires : goal.fetch-requires
fetch-requires g c =
    let needed = c.in-Need.ensures.tried in
    let inside = needed.1.inside in
    let pages = c.requires.ready.table.is_shape.pages in (
      search rules,
      (
        c.put_once.ensures.goes.ready,
        (
          needed.0.0.out ∙ c.requires.home,
          (
            held-on _ (view c.args.pass.now) (view c.put_once.new.pass) c.requires.frames needed.0.0.start needed.0.0.frames.0,
            omega (arith, inside, pages),
          ),
        ),
      ),
    )

pub returns-in-Need-clause-lost : goal.returns-in-Need-clause-lost
returns-in-Need-clause-lost g c =
    loses-then c.args.iface.now.frames c.args.iface.now.frames c.fetch.new.iface.frames (view c.args.pass.now)
    (view c.put_once.new.pass) (view c.fetch.new.pass)
    (reads-lose c.args.iface.now.frames (view c.args.pass.now) (view c.put_once.new.pass) c.in-Need.ensures.tried.0) c.fetch.ensures.lost

pub returns-in-Need-clause-told : goal.returns-in-Need-clause-told
returns-in-Need-clause-told g c =
    let needed = c.in-Need.ensures.tried in
    let keeps = keeps-then _ _ _ (reads-keep _ _ needed.0) (waits-keep _ _ c.fetch.ensures.waits) in
    told-as _ _ _ _ _ _ c.fetch.result c.fetch.ensures.told (λ t none. absurd none)
    (λ k. (keeps, put_round.round (round.needed _ _ needed.0 needed.1 k)))
    (λ _ k. (keeps, put_fault.unwritten (fault.missing _ _ needed.0 needed.1 k)))

-- ---- the leaf is full

pub try_split-answer-requires-clause-home : goal.try_split-answer-requires-clause-home
try_split-answer-requires-clause-home g c = c.in-Tight.ensures.tried.0.0.out ∙ c.requires.home

pub try_split-answer-requires-clause-frames : goal.try_split-answer-requires-clause-frames
try_split-answer-requires-clause-frames g c =
    let reads = c.in-Tight.ensures.tried.0 in
    held-on _ (view c.args.pass.now) (view c.put_once.new.pass) c.requires.frames reads.0.start reads.0.frames.0

pub after_split-requires : goal.after_split-requires
after_split-requires g c =
    let t = c.try_split-answer.ensures in (
      search rules,
      (
        t.goes.ready,
        (
          t.tried.0.out ∙ c.in-Tight.ensures.tried.0.0.out ∙ c.requires.home,
          (t.held, (g.K.Kind.rank c.args.key.now, view c.put_once.new.pass, t.tried)),
        ),
      ),
    )

pub returns-in-Tight-clause-goes : goal.returns-in-Tight-clause-goes
returns-in-Tight-clause-goes g c =
    goes-then c.put_once.ensures.goes (goes-then c.try_split-answer.ensures.goes c.after_split.ensures.goes)

pub returns-in-Tight-clause-iface : goal.returns-in-Tight-clause-iface
returns-in-Tight-clause-iface g c =
    let t = c.try_split-answer.ensures.iface in let k = c.after_split.ensures.iface in (k.0 ∙ t.0, k.1 ∙ t.1)

pub returns-in-Tight-clause-lost : goal.returns-in-Tight-clause-lost
returns-in-Tight-clause-lost g c =
    loses-then c.args.iface.now.frames c.args.iface.now.frames c.after_split.new.iface.frames (view c.args.pass.now)
    (view c.put_once.new.pass) (view c.after_split.new.pass)
    (reads-lose c.args.iface.now.frames (view c.args.pass.now) (view c.put_once.new.pass) c.in-Tight.ensures.tried.0)
    (loses-then c.args.iface.now.frames c.try_split-answer.new.iface.frames c.after_split.new.iface.frames
    (view c.put_once.new.pass) (view c.try_split-answer.new.pass) (view c.after_split.new.pass)
    c.try_split-answer.ensures.lost c.after_split.ensures.lost)

pub returns-in-Tight-clause-told : goal.returns-in-Tight-clause-told
returns-in-Tight-clause-told g c =
    let tight = c.in-Tight.ensures.tried in
    let t = c.try_split-answer.ensures.tried in
    let keeps = keeps-then _ _ _ (reads-keep _ _ tight.0) (keeps-then _ _ _ t.0 c.after_split.ensures.keeps) in
    told-as _ _ _ _ _ _ c.after_split.result (c.after_split.ensures.told _ _ t) (λ t none. absurd none)
    (λ k. (keeps, put_round.tight _ _ tight.0 tight.1 k))
    (λ _ k. (keeps, put_fault.tight _ _ tight.0 tight.1 k))
