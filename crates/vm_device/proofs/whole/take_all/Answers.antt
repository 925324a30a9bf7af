use Rattle.std.proofs.Common.{rules, sym, subst, ◌≡◌, ◌++◌, ◌∷◌, ◌+◌, [], map, List, true, None, Some}
use Rattle.std.proofs.lemmas.List.{map-append}
use Rattle.vm_page.specs.Counts.{count_more}
use Rattle.vm_block.specs.declared.stored.Stored.{Stored}
use Rattle.vm_device.specs.Devices.{count_out, words_at}
use Rattle.vm_device.specs.Whole.{AllAreOut}
use Rattle.vm_device.proofs.Entries.{entry}
use Rattle.vm_device.proofs.Taking.{none_left, one_out}
use Rattle.vm_device.proofs.whole.take_all.Goals as goal

pub returns-in-Err-get-clause-left : goal.returns-in-Err-get-clause-left
returns-in-Err-get-clause-left g c =
    let state = g.D.Devices.state in
    let now = state c.loop-p.devices in
    let failed = state c.get.new.self in
    let outs : failed.outs ≡ now.outs = search rules in
    let count : failed.count ≡ count_more now.count = search rules in
    none_left g.D.Devices.tells (state c.args.devices.now) c.args.name.now now failed (state c.bring_all.new.devices) c.loop-p.p
    (map g.D.B.Block.stored c.loop-p.blocks.items) c.loop-p.invariant.out c.loop-p.invariant.most outs count c.get.ensures.answered
    c.get.ensures.files c.bring_all.ensures.home c.bring_all.ensures.answered

pub loop-p-preserved : goal.loop-p-preserved
loop-p-preserved g c =
    let state = g.D.Devices.state in
    let stored = g.D.B.Block.stored in
    let now = state c.loop-p.devices in
    let new = state c.get.new.self in
    let block = c.in-Ok-get.block in
    let words : g.D.Devices.tells ≡ true → words_at now.files c.args.name.now c.loop-p.p ≡ Some (stored block).words =
    λ t. search (rules, t) in
    let home : count_out now.outs c.args.name.now c.loop-p.p ≡ None = search rules in
    let outs : new.outs ≡ now.outs ++ entry c.args.name.now c.loop-p.p (stored block) ∷ [] = search rules in
    let count : new.count ≡ now.count = search rules in
    let blocks : map stored c.push_reserved.new.self.items ≡ map stored c.loop-p.blocks.items ++ stored block ∷ [] =
    rw c.push_reserved.ensures.items (map-append stored c.loop-p.blocks.items (block ∷ [])) in
    record {
      room = search rules;
      most = c.loop-p.invariant.most;
      out = subst (λ (l : List Stored). AllAreOut g.D.Devices.tells (state c.args.devices.now) new c.args.name.now (c.loop-p.p + 1) l)
          (sym blocks)
          (one_out g.D.Devices.tells (state c.args.devices.now) c.args.name.now now new c.loop-p.p (map stored c.loop-p.blocks.items)
          (stored block) c.loop-p.invariant.out words home outs count c.get.ensures.answered c.get.ensures.files);
    }
