use Rattle.std.proofs.Common.{inl, refl, sym}
use Rattle.vm_tree_join.proofs.from_vm_tree_rule.{Entering.refused-turn, Surely.known-at, Surely.known-same}
use Rattle.vm_tree_join.proofs.from_vm_tree_rule.Readings.{leaves-self, loads-reads, opened-loads, reads-self, valid-reads}
use Rattle.vm_tree_join.proofs.from_vm_tree_rule.Seeking.{beside-loads, beside-then, beside-valid, opened-beside}
use Rattle.vm_tree_merge.specs.Beside.IsUnmerged.{many, worn_beside}
use Rattle.vm_tree_join.proofs.from_vm_tree_split.Splitting.{none-not}
use Rattle.vm_tree_merge.proofs.Choosing.{neighbour-then}
use Rattle.vm_tree_merge.proofs.beside.judge.Goals as goal

pub returns-then-is_last-clause-others : goal.returns-then-is_last-clause-others
returns-then-is_last-clause-others g c q ne = (reads-self _, record { reading = refl; loads = refl }, leaves-self q _)

pub returns-then-is_last-clause-none : goal.returns-then-is_last-clause-none
returns-then-is_last-clause-none g c v k none = worn_beside _ _ _ _ _ _ _ _ k (c.is_last.ensures.0 c.if-is_last.true)

pub read_all-requires-clause-reading : goal.read_all-requires-clause-reading
read_all-requires-clause-reading g c = c.requires.beside.1.opened.reading

pub returns-then-fits-clause-others : goal.returns-then-fits-clause-others
returns-then-fits-clause-others g c q ne = let k = beside-loads q _ _ _ _ _ _ ne c.read_all.ensures.loads in (k.reads, k.same, k.leaves)

pub returns-then-fits-clause-none : goal.returns-then-fits-clause-none
returns-then-fits-clause-none g c v k none = absurd (none-not _ (sym none))

pub returns-then-fits-clause-some : goal.returns-then-fits-clause-some
returns-then-fits-clause-some g c v k =
    let loads = c.read_all.ensures.loads in
    record {
      neighbour = neighbour-then g.K.Kind.layout v _ _ _ _ _ _ _ _ _ _ _ _
          (beside-loads _ _ _ _ _ _ _ (λ e. k.apart.0 (sym e)) loads) (opened-loads _ _ _ _ v _ _ k.opened loads) k;
      read = (_, loads.loads);
      sparse = c.requires.sparse;
      few = c.fits.ensures.0 c.if-fits.true;
      below = (c.requires.below, c.is_last.ensures.1 c.if-is_last.false);
    }

pub returns-then-fits-clause-known : goal.returns-then-fits-clause-known
returns-then-fits-clause-known g c q x k =
    let loads = c.read_all.ensures.loads in known-same q x _ _ (loads-reads _ _ _ _ _ _ loads).0 loads.table k

pub validate_silently-requires-clause-reading : goal.validate_silently-requires-clause-reading
validate_silently-requires-clause-reading g c = inl c.read_all.ensures.loads.reads

pub returns-in-Ok-clause-others : goal.returns-in-Ok-clause-others
returns-in-Ok-clause-others g c q ne =
    let k = beside-then q _ _ _ (beside-loads q _ _ _ _ _ _ ne c.read_all.ensures.loads)
    (beside-valid q _ _ _ _ _ c.in-Ok.ensures.ok) in (k.reads, k.same, k.leaves)

pub returns-in-Ok-clause-none : goal.returns-in-Ok-clause-none
returns-in-Ok-clause-none g c v k none =
    let loads = c.read_all.ensures.loads in
    let valid = c.in-Ok.ensures.ok in
    let opened = opened-loads _ _ _ _ v _ _ k.opened loads in
    let beside = beside-then _ _ _ _ (beside-loads _ _ _ _ _ _ _ (λ e. k.apart.0 (sym e)) loads) (beside-valid _ _ _ _ _ _ valid) in
    many _ _ _ (g.K.Pages.words_of c.read_all.new.into) _ _ _ _ _
    (neighbour-then g.K.Kind.layout v _ _ _ _ _ _ _ _ _ _ _ _ beside
    (opened-beside _ _ _ v _ _ (beside-valid _ _ _ _ _ _ valid) opened) k)
    (record {
      word = _;
      frame = _;
      checked = _;
      after = _;
      opened = opened;
      read = (_, loads.loads);
      valid = valid;
      since = reads-self _;
    }) (c.fits.ensures.1 c.if-fits.false)

pub returns-in-Ok-clause-known : goal.returns-in-Ok-clause-known
returns-in-Ok-clause-known g c q x k =
    let loads = c.read_all.ensures.loads in
    let valid = c.in-Ok.ensures.ok in
    known-same q x _ _ (valid-reads _ _ _ _ _ _ valid).0 valid.table (known-same q x _ _ (loads-reads _ _ _ _ _ _ loads).0 loads.table k)

pub returns-clause-err : goal.returns-clause-err
returns-clause-err g c v k =
    refused-turn _ _ _ g.K.Kind.layout (g.K.Kind.rank c.args.key.now) _ v _ _ _
    (opened-loads _ _ _ _ _ _ _ k.opened c.read_all.ensures.loads) (reads-self _) (leaves-self _ _)
    c.in-Err.ensures.err

pub returns-clause-sure : goal.returns-clause-sure
returns-clause-sure g c k =
    let loads = c.read_all.ensures.loads in
    let there = known-same _ _ _ _ (loads-reads _ _ _ _ _ _ loads).0 loads.table k in
    c.in-Err.ensures.sure there.resident.alone (known-at _ _ _ there)
