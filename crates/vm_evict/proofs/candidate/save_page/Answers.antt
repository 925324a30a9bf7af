use Rattle.std.proofs.Common.{rules}
use Rattle.vm_evict.specs.declared.candidate.Stage.TheVariants as stages
use Rattle.vm_evict.proofs.{candidate.save_page.Goals.else-seen-word-via-else-seen-word}
use Rattle.vm_evict.proofs.{candidate.save_page.Goals.else-seen-word-via-then-seen-word+else-is_none}
use Rattle.vm_evict.proofs.{FlushVisits.not-dirty, Moving.advances-after}
use Rattle.vm_evict.proofs.Prelude.{ap, refl, view, View, ◌∙◌}
use Rattle.vm_evict.proofs.Saving.{clean-so, looked, shares-another, shares-dirty, waits-known, waits-on}
use Rattle.vm_supply.proofs.from_vm_step.Going.{goes-then}
use Rattle.vm_evict.proofs.candidate.save_page.Goals as goal

pub returns-then-is_none-clause-moved : goal.returns-then-is_none-clause-moved
returns-then-is_none-clause-moved g c v done h = clean-so g.U.Owner.tied c.args.p c.args.word
    c.look_silently-seen.result c.tload.result done v (view c.args.pass.now) (view c.look_silently-seen.new.pass)
    (view c.tload.new.pass) h c.look_silently-seen.ensures.told c.tload.ensures.told c.if-seen-word.true
    c.requires.candidate.marked (not-dirty _ _ c.dirty_frame-dirty.ensures c.if-is_none.ensures)

pub returns-else-seen-word-clause-moved : goal.returns-else-seen-word-clause-moved
returns-else-seen-word-clause-moved g c v done h =
    advances-after (c.args.p, c.args.word) stages.Waiting stages.Waiting c.save_marked.result done _ v
    (view c.args.pass.now) (view c.tload.new.pass) (view c.save_marked.new.pass)
    (looked g.U.Owner.tied c.args.p c.args.word c.look_silently-seen.result c.tload.result done v
    (view c.args.pass.now) (view c.look_silently-seen.new.pass) (view c.tload.new.pass) h
    c.look_silently-seen.ensures.told c.tload.ensures.told)
    refl refl refl
    (waits-known g.U.Owner.tied c.args.p c.args.word c.look_silently-seen.result c.tload.result done v
    (view c.args.pass.now) (view c.look_silently-seen.new.pass) (view c.tload.new.pass) h
    c.look_silently-seen.ensures.told c.tload.ensures.told)
    (c.save_marked.ensures.moved v _
    (waits-on g.U.Owner.tied c.args.p c.args.word c.look_silently-seen.result c.tload.result done v
    (view c.args.pass.now) (view c.look_silently-seen.new.pass) (view c.tload.new.pass) h
    c.look_silently-seen.ensures.told c.tload.ensures.told)
    (elim c.else-seen-word.branch [
      | else-seen-word-via-then-seen-word+else-is_none w ↦
          shares-dirty g.U.Owner.tied c.args.p c.args.word c.look_silently-seen.result c.tload.result done v
          (view c.args.pass.now) (view c.look_silently-seen.new.pass) (view c.tload.new.pass) h
          c.look_silently-seen.ensures.told c.tload.ensures.told _ c.dirty_frame-dirty.ensures
          w.if-is_none.ensures
      | else-seen-word-via-else-seen-word w ↦
          shares-another g.U.Owner.tied c.args.p c.args.word c.look_silently-seen.result c.tload.result done v
          (view c.args.pass.now) (view c.look_silently-seen.new.pass) (view c.tload.new.pass) h
          c.look_silently-seen.ensures.told c.tload.ensures.told w.if-seen-word.false
    ]))

pub returns-else-seen-word-clause-goes : goal.returns-else-seen-word-clause-goes
returns-else-seen-word-clause-goes g c =
    goes-then (goes-then c.look_silently-seen.ensures.goes c.tload.ensures.goes) c.save_marked.ensures.goes

pub save_marked-requires : goal.save_marked-requires
save_marked-requires g c = record {
  ready = c.tload.ensures.goes.ready;
  sized = c.requires.sized;
  size = c.requires.size;
  candidate = search rules;
  home = ap (λ (x : View _). x.out) c.tload.ensures.told.brings.view ∙ ap (λ (x : View _). x.out)
      c.look_silently-seen.ensures.told.brings.view ∙ c.requires.home;
  at = (
    c.requires.at.0,
    _,
    waits-on g.U.Owner.tied c.args.p c.args.word c.look_silently-seen.result c.tload.result
        c.requires.at.1 c.requires.at.0 (view c.args.pass.now) (view c.look_silently-seen.new.pass)
        (view c.tload.new.pass) c.requires.at.2 c.look_silently-seen.ensures.told c.tload.ensures.told,
    elim c.else-seen-word.branch [
      | else-seen-word-via-then-seen-word+else-is_none w ↦
          shares-dirty g.U.Owner.tied c.args.p c.args.word c.look_silently-seen.result c.tload.result c.requires.at.1
          c.requires.at.0 (view c.args.pass.now) (view c.look_silently-seen.new.pass) (view c.tload.new.pass)
          c.requires.at.2 c.look_silently-seen.ensures.told c.tload.ensures.told _ c.dirty_frame-dirty.ensures
          w.if-is_none.ensures
      | else-seen-word-via-else-seen-word w ↦ shares-another g.U.Owner.tied c.args.p c.args.word
          c.look_silently-seen.result c.tload.result c.requires.at.1 c.requires.at.0 (view c.args.pass.now)
          (view c.look_silently-seen.new.pass) (view c.tload.new.pass) c.requires.at.2 c.look_silently-seen.ensures.told
          c.tload.ensures.told w.if-seen-word.false
    ],
  );
}
