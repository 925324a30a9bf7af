use Rattle.std.proofs.Common.{refl, subst, sym}
use Rattle.vm_step.proofs.Going.{goes-then}
use Rattle.vm_map.specs.declared.call.Call.TheVariants.{Range}
use Rattle.vm_map.specs.declared.call.Reply.TheVariants.{Many}
use Rattle.vm_step.specs.Prelude.{view}
use Rattle.vm_tree_read.proofs.from_vm_exmap.Handing.{held-on}
use Rattle.vm_tree_read.proofs.Lasting.{waits-then}
use Rattle.vm_tree_read.proofs.Losing.{loses-same, loses-then}
use Rattle.vm_tree_read.proofs.Rounds.{told-as}
use Rattle.vm_tree_range.proofs.RangeRounds.{no-pairs, silent-waits}
use Rattle.vm_tree_range.specs.Ranges.{IsRangeDone, IsRangeFault as fault, IsRangeRound as round}
use Rattle.vm_tree_range.proofs.ranges.range_round.Goals as goal

pub returns-in-Done-clause-held : goal.returns-in-Done-clause-held
returns-in-Done-clause-held g c =
    let k = c.in-Done.ensures.tried.0.on in
    held-on _ (view c.args.pass.now) (view c.try_range.new.pass) c.requires.frames k.start k.frames.0

pub returns-in-Done-clause-lost : goal.returns-in-Done-clause-lost
returns-in-Done-clause-lost g c =
    loses-same _ _ (view c.args.pass.now) (view c.try_range.new.pass) c.in-Done.ensures.tried.0.on.frames.0 (λ f e. e)

pub returns-in-Done-clause-told : goal.returns-in-Done-clause-told
returns-in-Done-clause-told g c = (
  subst (λ s. IsRangeDone g.K.Kind.plain g.K.Kind.layout (record {
    call = Range (g.K.Kind.rank c.args.low.now) c.args.bound;
    reply = Many s;
  }) (view c.args.pass.now) (view c.try_range.new.pass)) (sym c.take.ensures.all) c.in-Done.ensures.tried.0,
  tt,
)

pub returns-in-TooWide-clause-held : goal.returns-in-TooWide-clause-held
returns-in-TooWide-clause-held g c =
    let k = c.in-TooWide.ensures.tried.on in
    held-on _ (view c.args.pass.now) (view c.try_range.new.pass) c.requires.frames k.start k.frames.0

pub returns-in-TooWide-clause-lost : goal.returns-in-TooWide-clause-lost
returns-in-TooWide-clause-lost g c =
    loses-same _ _ (view c.args.pass.now) (view c.try_range.new.pass) c.in-TooWide.ensures.tried.on.frames.0 (λ f e. e)

-- ---- others came before, or a leaf has as many shares as there can be

pub returns-in-Again-clause-held : goal.returns-in-Again-clause-held
returns-in-Again-clause-held g c =
    let t = c.in-Again.ensures.tried.0 in
    held-on _ (view c.args.pass.now) (view c.try_range.new.pass) c.requires.frames t.0.start t.0.frames.0

pub returns-in-Again-clause-lost : goal.returns-in-Again-clause-lost
returns-in-Again-clause-lost g c =
    loses-same _ _ (view c.args.pass.now) (view c.try_range.new.pass) c.in-Again.ensures.tried.0.0.frames.0 (λ f e. e)

pub returns-in-Again-clause-told : goal.returns-in-Again-clause-told
returns-in-Again-clause-told g c =
    let t = c.in-Again.ensures.tried in (silent-waits _ _ t.0, round.again _ t.0 t.1, no-pairs c.in-Again.ensures.none)

pub returns-in-Crowded-clause-held : goal.returns-in-Crowded-clause-held
returns-in-Crowded-clause-held g c =
    let t = c.in-Crowded.ensures.tried.0 in
    held-on _ (view c.args.pass.now) (view c.try_range.new.pass) c.requires.frames t.0.start t.0.frames.0

pub returns-in-Crowded-clause-lost : goal.returns-in-Crowded-clause-lost
returns-in-Crowded-clause-lost g c =
    loses-same _ _ (view c.args.pass.now) (view c.try_range.new.pass) c.in-Crowded.ensures.tried.0.0.frames.0 (λ f e. e)

pub returns-in-Crowded-clause-told : goal.returns-in-Crowded-clause-told
returns-in-Crowded-clause-told g c =
    let t = c.in-Crowded.ensures.tried in (silent-waits _ _ t.0, round.crowded _ t.0 t.1, no-pairs c.in-Crowded.ensures.none)

-- ---- a page is damaged

pub returns-in-Damaged-clause-held : goal.returns-in-Damaged-clause-held
returns-in-Damaged-clause-held g c =
    let t = c.in-Damaged.ensures.tried.0 in
    held-on _ (view c.args.pass.now) (view c.try_range.new.pass) c.requires.frames t.0.start t.0.frames.0

pub returns-in-Damaged-clause-lost : goal.returns-in-Damaged-clause-lost
returns-in-Damaged-clause-lost g c =
    loses-same _ _ (view c.args.pass.now) (view c.try_range.new.pass) c.in-Damaged.ensures.tried.0.0.frames.0 (λ f e. e)

pub returns-in-Damaged-clause-told : goal.returns-in-Damaged-clause-told
returns-in-Damaged-clause-told g c =
    let t = c.in-Damaged.ensures.tried in (silent-waits _ _ t.0, fault.damaged _ t.0 t.1 refl, no-pairs c.in-Damaged.ensures.none)

-- ---- a page is needed

pub returns-in-Need-clause-lost : goal.returns-in-Need-clause-lost
returns-in-Need-clause-lost g c =
    loses-then c.args.iface.now.frames c.args.iface.now.frames c.fetch.new.iface.frames (view c.args.pass.now)
    (view c.try_range.new.pass) (view c.fetch.new.pass)
    (loses-same _ _ (view c.args.pass.now) (view c.try_range.new.pass) c.in-Need.ensures.tried.0.0.frames.0 (λ f e. e))
    c.fetch.ensures.lost

pub returns-in-Need-clause-told : goal.returns-in-Need-clause-told
returns-in-Need-clause-told g c =
    let t = c.in-Need.ensures.tried in
    let waits = waits-then _ _ _ (silent-waits _ _ t.0) c.fetch.ensures.waits in
    let same = no-pairs c.in-Need.ensures.none in
    told-as _ _ _ _ _ _ c.fetch.result c.fetch.ensures.told (λ t none. absurd none) (λ k. (waits, round.needed _ _ t.0 t.1 k, same))
    (λ _ k. (waits, fault.unbrought _ _ t.0 t.1 k, same))

pub try_range-requires-clause-ready : goal.try_range-requires-clause-ready
try_range-requires-clause-ready g c = c.requires.ready

pub try_range-requires-clause-pages : goal.try_range-requires-clause-pages
try_range-requires-clause-pages g c = c.requires.pages

pub try_range-requires-clause-home : goal.try_range-requires-clause-home
try_range-requires-clause-home g c = c.requires.home

pub try_range-requires-clause-empty : goal.try_range-requires-clause-empty
try_range-requires-clause-empty g c = c.requires.empty

pub try_range-requires-clause-room : goal.try_range-requires-clause-room
try_range-requires-clause-room g c = c.requires.room

pub returns-in-Done-clause-goes : goal.returns-in-Done-clause-goes
returns-in-Done-clause-goes g c = c.try_range.ensures.goes

pub returns-in-Done-clause-iface : goal.returns-in-Done-clause-iface
returns-in-Done-clause-iface g c = (refl, refl)

pub returns-in-TooWide-clause-goes : goal.returns-in-TooWide-clause-goes
returns-in-TooWide-clause-goes g c = c.try_range.ensures.goes

pub returns-in-TooWide-clause-iface : goal.returns-in-TooWide-clause-iface
returns-in-TooWide-clause-iface g c = (refl, refl)

pub returns-in-Again-clause-goes : goal.returns-in-Again-clause-goes
returns-in-Again-clause-goes g c = c.try_range.ensures.goes

pub returns-in-Again-clause-iface : goal.returns-in-Again-clause-iface
returns-in-Again-clause-iface g c = (refl, refl)

pub returns-in-Crowded-clause-goes : goal.returns-in-Crowded-clause-goes
returns-in-Crowded-clause-goes g c = c.try_range.ensures.goes

pub returns-in-Crowded-clause-iface : goal.returns-in-Crowded-clause-iface
returns-in-Crowded-clause-iface g c = (refl, refl)

pub returns-in-Damaged-clause-goes : goal.returns-in-Damaged-clause-goes
returns-in-Damaged-clause-goes g c = c.try_range.ensures.goes

pub returns-in-Damaged-clause-iface : goal.returns-in-Damaged-clause-iface
returns-in-Damaged-clause-iface g c = (refl, refl)

pub returns-in-TooWide-clause-told : goal.returns-in-TooWide-clause-told
returns-in-TooWide-clause-told g c = (c.in-TooWide.ensures.tried, tt)

pub returns-in-Need-clause-goes : goal.returns-in-Need-clause-goes
returns-in-Need-clause-goes g c = goes-then c.try_range.ensures.goes c.fetch.ensures.goes

pub returns-in-Need-clause-held : goal.returns-in-Need-clause-held
returns-in-Need-clause-held g c = c.fetch.ensures.held

pub returns-in-Need-clause-iface : goal.returns-in-Need-clause-iface
returns-in-Need-clause-iface g c = c.fetch.ensures.iface
