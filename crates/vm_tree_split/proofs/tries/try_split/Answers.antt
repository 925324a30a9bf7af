use Rattle.std.proofs.Common.{◌∙◌, subst, suc}
use Rattle.std.proofs.lemmas.Bool.{false≢true}
use Rattle.vm_step.specs.Prelude.{view}
use Rattle.vm_tree_read.proofs.from_vm_exmap.Handing.{held-on}
use Rattle.vm_tree_read.specs.from_vm_tree_rule.Seeks.{IsMet, KnowsMet}
use Rattle.vm_tree_read.proofs.from_vm_tree_rule.Surely.{known-at}
use Rattle.vm_tree_read.proofs.Losing.{loses-same, loses-then, reads-lose}
use Rattle.vm_tree_split.proofs.Settling.{awaited-in-use, knows-to-split, meta-in-use}
use Rattle.vm_tree_split.proofs.tries.try_split.Goals as goal
use Rattle.vm_tree_split.proofs.Trying.{roomy-lost, roomy-valid, tried-below, tried-root, turn-reads}

pub returns-in-Err-clause-tried : goal.returns-in-Err-clause-tried
returns-in-Err-clause-tried g c = c.not_found.ensures (g.K.Kind.rank c.args.key.now) (view c.args.pass.now)
    (view c.seek_full.new.pass) c.in-Err.ensures.err

pub returns-in-Ok-validate_silently-clause-tried : goal.returns-in-Ok-validate_silently-clause-tried
returns-in-Ok-validate_silently-clause-tried g c =
    let met = subst (λ m. IsMet g.K.Kind.layout g.K.Kind.spare (view c.args.pass.now) (g.K.Kind.rank c.args.key.now) m
    (g.K.Pages.words_of c.seek_full.new.over) (g.K.Pages.words_of c.seek_full.new.page)
    (view c.seek_full.new.pass)) c.in-Roomy.is c.in-Ok.ensures.met in
    roomy-valid g.K.Kind.plain g.K.Kind.layout g.K.Kind.spare (g.K.Kind.rank c.args.key.now) _ met.0
    (view c.args.pass.now) (view c.seek_full.new.pass) (view c.validate_silently.new.pass) c.in-Ok.ensures.reads
    met.1 c.in-Ok-validate_silently.ensures.ok

pub returns-in-Roomy-clause-tried : goal.returns-in-Roomy-clause-tried
returns-in-Roomy-clause-tried g c =
    let met = subst (λ m. IsMet g.K.Kind.layout g.K.Kind.spare (view c.args.pass.now) (g.K.Kind.rank c.args.key.now) m
    (g.K.Pages.words_of c.seek_full.new.over) (g.K.Pages.words_of c.seek_full.new.page)
    (view c.seek_full.new.pass)) c.in-Roomy.is c.in-Ok.ensures.met in
    roomy-lost g.K.Kind.plain g.K.Kind.layout g.K.Kind.spare (g.K.Kind.rank c.args.key.now) _ met.0
    c.in-Err-validate_silently.saw (view c.args.pass.now) (view c.seek_full.new.pass)
    (view c.validate_silently.new.pass) met.1 c.in-Err-validate_silently.ensures.err

pub split_below-requires-clause-home : goal.split_below-requires-clause-home
split_below-requires-clause-home g c = c.in-Ok.ensures.reads.0.out ∙ c.requires.home

pub split_below-requires-clause-frames : goal.split_below-requires-clause-frames
split_below-requires-clause-frames g c = let r = c.in-Ok.ensures.reads.0 in
    held-on _ (view c.args.pass.now) (view c.seek_full.new.pass) c.requires.frames r.start r.frames.0

pub split_below-requires-clause-met : goal.split_below-requires-clause-met
split_below-requires-clause-met g c = (
  view c.args.pass.now,
  (g.K.Kind.rank c.args.key.now),
  subst (λ m. IsMet g.K.Kind.layout g.K.Kind.spare (view c.args.pass.now) (g.K.Kind.rank c.args.key.now) m
      (g.K.Pages.words_of c.seek_full.new.over) (g.K.Pages.words_of c.seek_full.new.page) (view c.seek_full.new.pass))
      c.in-Below.is c.in-Ok.ensures.met,
)

pub returns-in-Below-clause-tried : goal.returns-in-Below-clause-tried
returns-in-Below-clause-tried g c =
    let met = subst (λ m. IsMet g.K.Kind.layout g.K.Kind.spare (view c.args.pass.now) (g.K.Kind.rank c.args.key.now) m
    (g.K.Pages.words_of c.seek_full.new.over) (g.K.Pages.words_of c.seek_full.new.page)
    (view c.seek_full.new.pass)) c.in-Below.is c.in-Ok.ensures.met in
    tried-below g.K.Kind.plain g.K.Kind.layout g.K.Kind.spare (g.K.Kind.rank c.args.key.now) c.in-Below.parent
    c.in-Below.node (g.K.Pages.words_of c.seek_full.new.over) (g.K.Pages.words_of c.seek_full.new.page)
    c.split_below.result (view c.args.pass.now) (view c.seek_full.new.pass) (view c.split_below.new.pass)
    c.in-Ok.ensures.reads met c.split_below.ensures.keeps c.split_below.ensures.cause

pub split_root-requires-clause-home : goal.split_root-requires-clause-home
split_root-requires-clause-home g c = c.in-Ok.ensures.reads.0.out ∙ c.requires.home

pub split_root-requires-clause-frames : goal.split_root-requires-clause-frames
split_root-requires-clause-frames g c = let r = c.in-Ok.ensures.reads.0 in
    held-on _ (view c.args.pass.now) (view c.seek_full.new.pass) c.requires.frames r.start r.frames.0

pub split_root-requires-clause-met : goal.split_root-requires-clause-met
split_root-requires-clause-met g c = (
  view c.args.pass.now,
  (g.K.Kind.rank c.args.key.now),
  subst (λ m. IsMet g.K.Kind.layout g.K.Kind.spare (view c.args.pass.now) (g.K.Kind.rank c.args.key.now) m
      (g.K.Pages.words_of c.seek_full.new.over) (g.K.Pages.words_of c.seek_full.new.page) (view c.seek_full.new.pass))
      c.in-Root.is c.in-Ok.ensures.met,
)

pub returns-clause-tried : goal.returns-clause-tried
returns-clause-tried g c =
    let met = subst (λ m. IsMet g.K.Kind.layout g.K.Kind.spare (view c.args.pass.now) (g.K.Kind.rank c.args.key.now) m
    (g.K.Pages.words_of c.seek_full.new.over) (g.K.Pages.words_of c.seek_full.new.page)
    (view c.seek_full.new.pass)) c.in-Root.is c.in-Ok.ensures.met in
    tried-root g.K.Kind.plain g.K.Kind.layout g.K.Kind.spare (g.K.Kind.rank c.args.key.now) c.in-Root.meta
    c.in-Root.root c.in-Root.height (g.K.Pages.words_of c.seek_full.new.page) c.split_root.result
    (view c.args.pass.now) (view c.seek_full.new.pass) (view c.split_root.new.pass) c.in-Ok.ensures.reads met
    c.split_root.ensures.keeps c.split_root.ensures.cause

-- ---- the interface's frames are the pass's still

pub returns-in-Err-clause-held : goal.returns-in-Err-clause-held
returns-in-Err-clause-held g c =
    let r = (turn-reads g.K.Kind.layout (g.K.Kind.rank c.args.key.now) c.in-Err.turn (view c.args.pass.now)
    (view c.seek_full.new.pass) c.in-Err.ensures.err).0 in
    held-on _ (view c.args.pass.now) (view c.seek_full.new.pass) c.requires.frames r.start r.frames.0

pub returns-in-Ok-validate_silently-clause-held : goal.returns-in-Ok-validate_silently-clause-held
returns-in-Ok-validate_silently-clause-held g c =
    let r = c.in-Ok.ensures.reads.0 in
    let k = c.in-Ok-validate_silently.ensures.ok in
    held-on _ (view c.args.pass.now) (view c.validate_silently.new.pass) c.requires.frames (k.steady.start ∙ r.start)
    (k.steady.frames.0 ∙ r.frames.0)

pub returns-in-Roomy-clause-held : goal.returns-in-Roomy-clause-held
returns-in-Roomy-clause-held g c =
    let r = c.in-Ok.ensures.reads.0 in
    let k = c.in-Err-validate_silently.ensures.err.quiet in
    held-on _ (view c.args.pass.now) (view c.validate_silently.new.pass) c.requires.frames (k.steady.start ∙ r.start)
    (k.steady.frames.0 ∙ r.frames.0)

pub returns-in-Err-clause-lost : goal.returns-in-Err-clause-lost
returns-in-Err-clause-lost g c = reads-lose c.args.iface.now.frames (view c.args.pass.now) (view c.seek_full.new.pass)
    (turn-reads g.K.Kind.layout (g.K.Kind.rank c.args.key.now) c.in-Err.turn (view c.args.pass.now)
    (view c.seek_full.new.pass) c.in-Err.ensures.err)

pub returns-in-Ok-validate_silently-clause-lost : goal.returns-in-Ok-validate_silently-clause-lost
returns-in-Ok-validate_silently-clause-lost g c =
    let k = c.in-Ok-validate_silently.ensures.ok in
    loses-same c.args.iface.now.frames c.args.iface.now.frames (view c.args.pass.now)
    (view c.validate_silently.new.pass) (k.steady.frames.0 ∙ c.in-Ok.ensures.reads.0.frames.0) (λ n e. e)

pub returns-in-Roomy-clause-lost : goal.returns-in-Roomy-clause-lost
returns-in-Roomy-clause-lost g c =
    let k = c.in-Err-validate_silently.ensures.err in
    loses-same c.args.iface.now.frames c.args.iface.now.frames (view c.args.pass.now)
    (view c.validate_silently.new.pass) (k.quiet.steady.frames.0 ∙ c.in-Ok.ensures.reads.0.frames.0) (λ n e. e)

pub returns-in-Below-clause-lost : goal.returns-in-Below-clause-lost
returns-in-Below-clause-lost g c =
    loses-then c.args.iface.now.frames c.args.iface.now.frames c.split_below.new.iface.frames (view c.args.pass.now)
    (view c.seek_full.new.pass) (view c.split_below.new.pass)
    (reads-lose c.args.iface.now.frames (view c.args.pass.now) (view c.seek_full.new.pass) c.in-Ok.ensures.reads)
    c.split_below.ensures.lost

pub returns-clause-lost : goal.returns-clause-lost
returns-clause-lost g c =
    loses-then c.args.iface.now.frames c.args.iface.now.frames c.split_root.new.iface.frames (view c.args.pass.now)
    (view c.seek_full.new.pass) (view c.split_root.new.pass)
    (reads-lose c.args.iface.now.frames (view c.args.pass.now) (view c.seek_full.new.pass) c.in-Ok.ensures.reads)
    c.split_root.ensures.lost

-- ---- a pass that knows its pages to be resident, and holds nothing

pub returns-in-Err-clause-sure : goal.returns-in-Err-clause-sure
returns-in-Err-clause-sure g c tells resident holds = absurd (false≢true (c.in-Err.ensures.sure tells resident))

pub returns-in-Roomy-clause-sure : goal.returns-in-Roomy-clause-sure
returns-in-Roomy-clause-sure g c tells resident holds =
    let known = subst (λ m. KnowsMet m (view c.seek_full.new.pass)) c.in-Roomy.is (c.in-Ok.ensures.known tells resident) in
    absurd (false≢true (c.in-Err-validate_silently.ensures.sure known.resident.alone (known-at _ _ (view c.seek_full.new.pass) known)))

pub returns-in-Below-clause-sure : goal.returns-in-Below-clause-sure
returns-in-Below-clause-sure g c tells resident holds =
    let w = view c.seek_full.new.pass in
    let known = subst (λ m. KnowsMet m w) c.in-Below.is (c.in-Ok.ensures.known tells resident) in
    let met = subst (λ m. IsMet g.K.Kind.layout g.K.Kind.spare (view c.args.pass.now) (g.K.Kind.rank c.args.key.now) m
    (g.K.Pages.words_of c.seek_full.new.over) (g.K.Pages.words_of c.seek_full.new.page) w) c.in-Below.is
    c.in-Ok.ensures.met in
    let there = c.in-Ok.ensures.goes.ready.table.tells_is ∙ tells in
    c.split_below.ensures.sure
    (knows-to-split c.in-Below.parent c.in-Below.node (view c.args.pass.now) w c.in-Ok.ensures.reads holds
    c.in-Ok.ensures.locks.unheld there
    (awaited-in-use g.K.Kind.layout g.K.Kind.is_layout c.in-Below.parent.pid c.in-Below.parent.word (suc met.level)
    (g.K.Kind.rank c.args.key.now) w there met.awaits)
    (awaited-in-use g.K.Kind.layout g.K.Kind.is_layout c.in-Below.node.pid c.in-Below.node.word met.level
    (g.K.Kind.rank c.args.key.now) w there met.below) known.0 known.1)

pub returns-clause-sure : goal.returns-clause-sure
returns-clause-sure g c tells resident holds =
    let w = view c.seek_full.new.pass in
    let known = subst (λ m. KnowsMet m w) c.in-Root.is (c.in-Ok.ensures.known tells resident) in
    let met = subst (λ m. IsMet g.K.Kind.layout g.K.Kind.spare (view c.args.pass.now) (g.K.Kind.rank c.args.key.now) m
    (g.K.Pages.words_of c.seek_full.new.over) (g.K.Pages.words_of c.seek_full.new.page) w) c.in-Root.is
    c.in-Ok.ensures.met in
    let there = c.in-Ok.ensures.goes.ready.table.tells_is ∙ tells in
    c.split_root.ensures.sure
    (knows-to-split c.in-Root.meta c.in-Root.root (view c.args.pass.now) w c.in-Ok.ensures.reads holds
    c.in-Ok.ensures.locks.unheld there
    (meta-in-use g.K.Kind.layout g.K.Kind.is_layout c.in-Root.meta.pid c.in-Root.meta.word w met.named.zero)
    (awaited-in-use g.K.Kind.layout g.K.Kind.is_layout c.in-Root.root.pid c.in-Root.root.word c.in-Root.height
    (g.K.Kind.rank c.args.key.now) w there met.awaits) known.0 known.1)
