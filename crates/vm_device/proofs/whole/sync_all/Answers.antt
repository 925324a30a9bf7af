use Rattle.std.proofs.Common.{rules, arith, sym, subst, ◌∙◌, ◌≡◌, ◌<◌, ◌+◌, length, map, List, is_ok, slice_set, slice_index_or}
use Rattle.std.proofs.lemmas.List.{get_or-map, length-map, map-set}
use Rattle.vm_block.specs.declared.stored.Stored.{Stored}
use Rattle.vm_device.specs.Whole.{IsAfterSync, first_unsynced}
use Rattle.vm_device.proofs.Lasting.{AreAskedTo, AreSyncedTo, all_synced, one_asked, one_synced}
use Rattle.vm_device.proofs.whole.sync_all.Goals as goal

pub loop-p-preserved : goal.loop-p-preserved
loop-p-preserved g c =
    let tells = g.B.Block.tells in
    let stored = g.B.Block.stored in
    let at = c.loop-p in
    let block = slice_index_or at.blocks at.p c.index-blocks-p.result in
    let new = c.sync.new.self in
    let old = map stored c.args.blocks.now in
    let many : length at.blocks ≡ length c.args.blocks.now =
    sym (length-map at.blocks stored) ∙ at.invariant.synced.many ∙ length-map c.args.blocks.now stored in
    let low : at.p < length at.blocks = omega (arith, c.loop-p-test.true, many) in
    let synced : IsAfterSync tells (is_ok c.sync.result) (stored block) (stored new) = record {
      words = c.sync.ensures.stored.held;
      count = c.sync.ensures.stored.count;
      reads = c.sync.ensures.stored.reads;
      writes = c.sync.ensures.stored.writes;
      bound = c.sync.ensures.stored.bound;
    } in
    let here : stored block ≡ slice_index_or (map stored at.blocks) at.p (stored block) =
    sym (get_or-map stored at.blocks at.p c.index-blocks-p.result (stored block) low) in
    let first : c.first_unsynced-first.result ≡ first_unsynced at.first at.p (is_ok c.sync.result) = search rules in
    let asked = g.B.SyncBlock.asked in
    let was : asked block ≡ slice_index_or (map asked at.blocks) at.p (asked block) =
    sym (get_or-map asked at.blocks at.p c.index-blocks-p.result (asked block) low) in
    record {
      synced =
          subst (λ f. AreSyncedTo tells old (map stored (slice_set at.blocks at.p new)) (at.p + 1) f) (sym first)
          (subst (λ (l : List Stored). AreSyncedTo tells old l (at.p + 1) (first_unsynced at.first at.p (is_ok c.sync.result)))
          (sym (map-set stored at.blocks at.p new))
          (one_synced tells old (map stored at.blocks) at.p at.first at.invariant.synced
          (omega (arith, low, many, length-map c.args.blocks.now stored)) (stored block) here (stored new) (is_ok c.sync.result) synced));
      asked = subst (λ l. AreAskedTo (map asked c.args.blocks.now) l (at.p + 1)) (sym (map-set asked at.blocks at.p new))
          (one_asked (map asked c.args.blocks.now) (map asked at.blocks) at.p (asked block) (asked new) at.invariant.asked
          (omega (arith, low, many, length-map c.args.blocks.now asked)) was c.sync.ensures.asked);
    }

pub returns-clause-stored : goal.returns-clause-stored
returns-clause-stored g c = all_synced g.B.Block.tells (map g.B.Block.stored c.args.blocks.now) (map g.B.Block.stored c.loop-p.blocks) c.loop-p.p
    c.loop-p.first c.loop-p.invariant.synced
    (let many = c.loop-p.invariant.synced.many in let long = length-map c.args.blocks.now g.B.Block.stored in
    let now = length-map c.loop-p.blocks g.B.Block.stored in omega (arith, c.loop-p-test.false))

pub returns-clause-asked : goal.returns-clause-asked
returns-clause-asked g c =
    let asked = g.B.SyncBlock.asked in
    let end : c.loop-p.p ≡ length (map asked c.args.blocks.now) = (let many = c.loop-p.invariant.asked.many in
    let long = length-map c.args.blocks.now asked in let now = length-map c.loop-p.blocks asked in
    omega (arith, c.loop-p-test.false)) in
    record {
      many = c.loop-p.invariant.asked.many;
      each = λ p d low. c.loop-p.invariant.asked.each p d (omega (arith, low, end));
    }
