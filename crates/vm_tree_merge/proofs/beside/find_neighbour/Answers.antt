use Rattle.std.proofs.Common.{◌∙◌, ap, inl, subst, sym}
use Rattle.vm_map.specs.Map.{next_key}
use Rattle.vm_tree_model.specs.Page.{node_of, pairs_of}
use Rattle.vm_tree_join.specs.from_vm_rule.Prelude.{last_of}
use Rattle.vm_tree_join.specs.from_vm_step.Prelude.{Origin, view}
use Rattle.vm_tree_join.proofs.from_vm_tree_rule.Whole.{tree-size}
use Rattle.vm_tree_join.proofs.from_vm_tree_rule.{Entering.opened-reads, Entering.refused-turn}
use Rattle.vm_tree_join.proofs.from_vm_tree_rule.{Reaching.parent-beside, Surely.known-at, Surely.known-same}
use Rattle.vm_tree_join.proofs.from_vm_tree_rule.Readings.{leaves-self, leaves-then, loads-reads, opened-earlier, opened-later}
use Rattle.vm_tree_join.proofs.from_vm_tree_rule.Readings.{opened-loads, reads-self, reads-then, valid-reads}
use Rattle.vm_tree_join.proofs.from_vm_tree_rule.Seeking.{beside-loads, beside-then, beside-valid}
use Rattle.vm_tree_merge.specs.Beside.{IsChoice}
use Rattle.vm_tree_merge.proofs.Choosing.{key-names, key_beside, names-beside, names-leaf, parent-open, parent-read, stopped-beside}
use Rattle.vm_tree_merge.proofs.beside.find_neighbour.Goals as goal

pub read_all-requires-clause-reading : goal.read_all-requires-clause-reading
read_all-requires-clause-reading g c = c.requires.parent.1.opened.reading

-- ---- there is no other page

pub validate_silently-requires-clause-reading : goal.validate_silently-requires-clause-reading
validate_silently-requires-clause-reading g c = inl c.read_all.ensures.loads.reads

pub returns-in-Ok-clause-reads : goal.returns-in-Ok-clause-reads
returns-in-Ok-clause-reads g c =
    reads-then _ _ _ (loads-reads _ _ _ _ _ _ c.read_all.ensures.loads) (valid-reads _ _ _ _ _ _ c.in-Ok.ensures.ok)

pub returns-in-Ok-clause-others : goal.returns-in-Ok-clause-others
returns-in-Ok-clause-others g c q ne none =
    let k = beside-then q _ _ _ (beside-loads q _ _ _ _ _ _ ne c.read_all.ensures.loads)
    (beside-valid q _ _ _ _ _ c.in-Ok.ensures.ok) in (k.same, k.leaves)

pub returns-in-Ok-clause-single : goal.returns-in-Ok-clause-single
returns-in-Ok-clause-single g c v parent none =
    let L = g.K.Kind.layout in
    let key = g.K.Kind.rank c.args.key.now in
    let up = c.args.up.now in
    let over = g.K.Pages.words_of c.read_all.new.into in
    let loads = c.read_all.ensures.loads in
    let valid = c.in-Ok.ensures.ok in
    let read = parent-read L v key up c.args.leaf.now.pid over _ _ parent loads in (
      parent-beside v key up c.args.leaf.now.pid _ _ (beside-valid up.pid _ _ _ _ _ valid) read,
      record {
        word = up.word;
        frame = up.frame;
        checked = _;
        after = _;
        opened = read.opened;
        read = (_, loads.loads);
        valid = valid;
        since = reads-self _;
      },
      c.in-None.ensures.found,
    )

pub returns-in-Ok-clause-known : goal.returns-in-Ok-clause-known
returns-in-Ok-clause-known g c tells k =
    let loads = c.read_all.ensures.loads in
    let valid = c.in-Ok.ensures.ok in (
      tt,
      λ q x none r. known-same q x _ _ (valid-reads _ _ _ _ _ _ valid).0 valid.table
          (known-same q x _ _ (loads-reads _ _ _ _ _ _ loads).0 loads.table r),
    )

pub returns-in-Err-clause-err : goal.returns-in-Err-clause-err
returns-in-Err-clause-err g c v parent =
    refused-turn _ _ _ g.K.Kind.layout (g.K.Kind.rank c.args.key.now) _ v _ _ _
    (opened-loads _ _ _ _ _ _ _ parent.opened c.read_all.ensures.loads) (reads-self _) (leaves-self _ _)
    c.in-Err.ensures.err

pub returns-in-Err-clause-sure : goal.returns-in-Err-clause-sure
returns-in-Err-clause-sure g c tells k =
    let loads = c.read_all.ensures.loads in
    let there = known-same _ _ _ _ (loads-reads _ _ _ _ _ _ loads).0 loads.table k in
    c.in-Err.ensures.sure there.resident.alone (known-at _ _ _ there)

-- ---- there is one

pub enter-requires-clause-reading : goal.enter-requires-clause-reading
enter-requires-clause-reading g c = c.read_all.ensures.loads.reads

pub enter-requires-clause-names : goal.enter-requires-clause-names
enter-requires-clause-names g c =
    let L = g.K.Kind.layout in
    let rank = g.K.Kind.rank in
    let key = rank c.args.key.now in
    let over = g.K.Pages.words_of c.read_all.new.into in
    let ch = c.in-Some.choice in
    let k = key_beside ch.behind (rank ch.pair.low) (rank ch.pair.separator) in
    let parent = c.requires.parent in (
      0,
      k,
      next_key (pairs_of L over) (node_of L over).high k,
      names-beside L c.args.up.now over key c.args.leaf.now.pid ch.named k parent.0 (view c.read_all.new.pass)
          (parent-read L parent.0 key c.args.up.now c.args.leaf.now.pid over _ _ parent.1 c.read_all.ensures.loads)
          (_, c.read_all.ensures.loads.loads) c.read_all.ensures.size
          (key-names L over key c.args.leaf.now.pid ch.named ch.behind (rank ch.pair.low) ch.pair.left
          (rank ch.pair.separator) ch.pair.right c.in-Some.ensures.found),
    )

pub returns-in-Ok-enter-clause-reads : goal.returns-in-Ok-enter-clause-reads
returns-in-Ok-enter-clause-reads g c = reads-then _ _ _ (loads-reads _ _ _ _ _ _ c.read_all.ensures.loads) c.in-Ok-enter.ensures.ok.1.reads

pub returns-in-Ok-enter-clause-others : goal.returns-in-Ok-enter-clause-others
returns-in-Ok-enter-clause-others g c q ne other =
    let first = beside-loads q _ _ _ _ _ _ ne c.read_all.ensures.loads in
    let then = c.in-Ok-enter.ensures.others q other in (
      record {
        reading = then.0.reading ∙ first.same.reading;
        loads = then.0.loads ∙ first.same.loads;
      },
      leaves-then q _ _ _ first.leaves then.1,
    )

pub returns-in-Ok-enter-clause-beside : goal.returns-in-Ok-enter-clause-beside
returns-in-Ok-enter-clause-beside g c v parent =
    let L = g.K.Kind.layout in
    let rank = g.K.Kind.rank in
    let key = rank c.args.key.now in
    let up = c.args.up.now in
    let leaf = c.args.leaf.now.pid in
    let over = g.K.Pages.words_of c.read_all.new.into in
    let ch = c.in-Some.choice in
    let k = key_beside ch.behind (rank ch.pair.low) (rank ch.pair.separator) in
    let high = next_key (pairs_of L over) (node_of L over).high k in
    let x = view c.read_all.new.pass in
    let w = view c.enter.new.pass in
    let loads = c.read_all.ensures.loads in
    let s = c.in-Ok-enter.ensures in
    let step = s.ok.1 in
    let read = parent-read L v key up leaf over _ _ parent loads in
    record {
      opened = opened-earlier _ _ _ v x w (opened-reads _ _ _ v x read.opened) step.opened;
      apart = (s.parent.apart, s.not_zero);
      choice = subst (λ n. IsChoice L over key leaf n ch.behind (rank ch.pair.low) ch.pair.left
          (rank ch.pair.separator) ch.pair.right) (sym s.ok.0) c.in-Some.ensures.found;
      stands = parent-open L v key up leaf c.in-Ok-enter.guard.pid x w step.reads s.parent read;
      read = (_, s.parent.loads ∙ loads.loads);
      whole = record {
        word = up.word;
        frame = up.frame;
        checked = step.checked;
        after = w;
        opened = opened-later _ _ _ v x step.checked read.opened step.looked step.stays.same step.stays.reading;
        read = (_, step.stays.loads ∙ loads.loads);
        valid = step.valid;
        since = reads-self w;
      };
      awaits = (
        k,
        high,
        s.awaits 0 k high
            (names-beside L up over key leaf ch.named k v x read (_, loads.loads) c.read_all.ensures.size
            (key-names L over key leaf ch.named ch.behind (rank ch.pair.low) ch.pair.left (rank ch.pair.separator)
            ch.pair.right c.in-Some.ensures.found)),
      );
      names = λ tells.
          let told = ap (λ (o : Origin). o.tells) (opened-reads _ _ _ v x read.opened).0.start ∙ tells in
          names-leaf L v key up leaf over x (last_of w up.pid).words read (_, loads.loads) c.read_all.ensures.size
          (step.valid.size ∙ tree-size _ _ _ c.enter.ensures.goes.ready.table.is_shape.size
          c.args.words.now.sized.0 c.args.words.now.size.takes) told (step.sees told);
    }

pub returns-in-Ok-enter-clause-edit : goal.returns-in-Ok-enter-clause-edit
returns-in-Ok-enter-clause-edit g c = c.in-Some.ensures.edit

pub returns-in-Ok-enter-clause-known : goal.returns-in-Ok-enter-clause-known
returns-in-Ok-enter-clause-known g c tells k =
    let loads = c.read_all.ensures.loads in
    let reads = (loads-reads _ _ _ _ _ _ loads).0 in
    let there = known-same _ _ _ _ reads loads.table k in (
      (c.in-Ok-enter.ensures.known (λ _. 0) tells there).0,
      λ q x other r. c.in-Ok-enter.ensures.beside (λ _. 0) tells
          there q x other (known-same q x _ _ reads loads.table r),
    )

pub returns-in-Err-enter-clause-err : goal.returns-in-Err-enter-clause-err
returns-in-Err-enter-clause-err g c v parent =
    let rank = g.K.Kind.rank in
    let ch = c.in-Some.choice in
    let loads = c.read_all.ensures.loads in
    stopped-beside g.K.Kind.layout c.args.up.now (g.K.Pages.words_of c.read_all.new.into) (rank c.args.key.now)
    c.args.leaf.now.pid ch.named ch.behind (rank ch.pair.low) ch.pair.left (rank ch.pair.separator) ch.pair.right
    c.in-Err-enter.turn v _ _ c.in-Some.ensures.found (opened-loads _ _ _ _ _ _ _ parent.opened loads)
    (_, loads.loads) c.in-Err-enter.ensures.err

pub returns-in-Err-enter-clause-sure : goal.returns-in-Err-enter-clause-sure
returns-in-Err-enter-clause-sure g c tells k =
    let loads = c.read_all.ensures.loads in c.in-Err-enter.ensures.sure (λ _. 0) tells
    (known-same _ _ _ _ (loads-reads _ _ _ _ _ _ loads).0 loads.table k)
