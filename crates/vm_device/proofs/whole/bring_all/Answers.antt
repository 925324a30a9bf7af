use Rattle.std.specs.Vec.Iter.{into_iter_items}
use Rattle.std.proofs.Common.{arith, ap, sym, subst, ◌∙◌, ◌≡◌, ◌++◌, ◌∷◌, ◌<◌, [], length, length-append, map, List}
use Rattle.std.proofs.lemmas.List.{append-nil, append_assoc, length-map, map-append, nil_from_length}
use Rattle.vm_block.specs.declared.stored.Stored.{Stored}
use Rattle.vm_device.proofs.Homecoming.{AreHomeTo, all_home, one_home}
use Rattle.vm_device.proofs.whole.bring_all.Goals as goal

pub loop-block-preserved : goal.loop-block-preserved
loop-block-preserved g c =
    let at = c.loop-block in
    let inv = c.loop-block.invariant in
    let stored = g.D.B.Block.stored in
    let all : at.yielded ++ c.in-Some.block ∷ into_iter_items c.next.new.self ≡ c.args.blocks.items =
    ap (λ l. at.yielded ++ l) (sym c.in-Some.ensures.steps.0) ∙ inv.rest in
    let low : length at.yielded < length c.args.blocks.items =
    omega (arith, ap (λ l. length l) all, length-append at.yielded (c.in-Some.block ∷ into_iter_items c.next.new.self)) in
    let long : length (map stored at.yielded) ≡ length at.yielded = length-map at.yielded stored in
    record {
      rest = append_assoc at.yielded (c.in-Some.block ∷ []) (into_iter_items c.next.new.self) ∙ all;
      len = (let was = inv.len in let gone = c.in-Some.ensures.steps.1 in let short = ap length c.in-Some.ensures.steps.0 in omega arith);
      page = omega (arith, inv.page, length-append at.yielded (c.in-Some.block ∷ []));
      most = inv.most;
      home = λ base before outs many home.
          subst (λ (done : List Stored). AreHomeTo g.D.Devices.tells base before (g.D.Devices.state c.args.devices.now)
          (g.D.Devices.state c.back.new.self) c.args.name.now done)
          (sym (map-append stored at.yielded (c.in-Some.block ∷ [])))
          (one_home g.D.Devices.tells base before (g.D.Devices.state c.args.devices.now) c.args.name.now
          (g.D.Devices.state at.devices) (g.D.Devices.state c.back.new.self) (map stored at.yielded) (stored c.in-Some.block) at.p
          (inv.home base before outs many home) (omega (arith, inv.page, long)) (omega (arith, long, low, many))
          (home at.p (omega (arith, inv.page, low))) c.back.ensures);
      answered = c.back.ensures.answered ∙ inv.answered;
    }

pub returns-clause-home : goal.returns-clause-home
returns-clause-home g c = λ base before outs many home.
    let inv = c.loop-block.invariant in
    let stored = g.D.B.Block.stored in
    let long = length-map c.args.blocks.items stored in
    let none : into_iter_items c.loop-block.block-iterator ≡ [] = nil_from_length (into_iter_items c.loop-block.block-iterator)
    (sym inv.len ∙ c.in-None.ensures.steps.0) in
    let all : c.loop-block.yielded ≡ c.args.blocks.items =
    sym (append-nil c.loop-block.yielded) ∙ ap (λ l. c.loop-block.yielded ++ l) (sym none) ∙ inv.rest in
    all_home g.D.Devices.tells base before (g.D.Devices.state c.args.devices.now) c.args.name.now
    (g.D.Devices.state c.loop-block.devices) (map stored c.args.blocks.items)
    (subst (λ l. AreHomeTo g.D.Devices.tells base before (g.D.Devices.state c.args.devices.now)
    (g.D.Devices.state c.loop-block.devices) c.args.name.now (map stored l)) all
    (inv.home base before outs (omega (arith, many, long)) (λ p low. home p (omega (arith, low, long)))))
    many inv.most
