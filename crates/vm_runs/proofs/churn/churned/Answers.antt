use Rattle.std.proofs.Common.{◌∙◌, ◌≡◌, ◌≤◌, ap, length, List, rules}
use Rattle.vm_block.specs.declared.memory.MemBlock.{MemBlock}
use Rattle.vm_tree_model.specs.{Fixed.fixed, Tree.IsTree, Tree.map_of}
use Rattle.vm_image.specs.{Blocks.pages_of_blocks, File.most_pages}
use Rattle.vm_reading.specs.from_vm_churn.{declared_tally_Tally.Tally, Tallies.total_of}
use Rattle.vm_runs.proofs.churn.churned.Goals as goal
use Rattle.vm_runs.proofs.Churning.{churned, few_workers, most_blocks, saved_tree, small_tallies, some_blocks, values_fit}

pub tally_all-tally-requires-clause-workers : goal.tally_all-tally-requires-clause-workers
tally_all-tally-requires-clause-workers g c =
    rw c.as_slice.ensures.value
    (few_workers g.row.N c.args.load c.requires.within c.requires.words c.in_ok-kept.field-0 c.in_ok-kept.ensures)

pub tally_all-tally-requires-clause-small : goal.tally_all-tally-requires-clause-small
tally_all-tally-requires-clause-small g c =
    rw c.as_slice.ensures.value
    (small_tallies g.row.N c.args.load c.requires.within c.requires.words c.in_ok-kept.field-0 c.in_ok-kept.ensures)

pub stored_in-requires : goal.stored_in-requires
stored_in-requires g c =
    let s = c.in_ok-kept.field-0 in
    let tree : IsTree (fixed g.row.N) (pages_of_blocks c.as_slice-2.result.now) =
    rw c.as_slice-2.ensures.value
    (saved_tree g.row.N c.args.load c.requires.within c.requires.words s c.in_ok-kept.ensures) in
    let some : 2 ≤ length c.as_slice-2.result.now =
    rw c.as_slice-2.ensures.value
    (some_blocks g.row.N c.args.load c.requires.within c.requires.words s c.in_ok-kept.ensures) in
    let most : length c.as_slice-2.result.now ≤ most_pages g.row.N =
    rw c.as_slice-2.ensures.value
    (most_blocks g.row.N c.args.load c.requires.within c.requires.words s c.in_ok-kept.ensures) in
    (search rules, (search rules, (g.S.OfSize.is_size, (tree, (some, most)))))

pub text_of-requires-clause-pairs : goal.text_of-requires-clause-pairs
text_of-requires-clause-pairs g c = c.requires.within.pairs

pub text_of-requires-clause-fits : goal.text_of-requires-clause-fits
text_of-requires-clause-fits g c =
    let s = c.in_ok-kept.field-0 in
    let rows : c.as_slice-3.result.now ≡ map_of (fixed g.row.N) (pages_of_blocks s.blocks.items) =
    c.as_slice-3.ensures.value ∙ c.in_ok-rows.ensures.rows
    ∙ ap (λ (b : List (MemBlock g.row.N)). map_of (fixed g.row.N) (pages_of_blocks b))
    c.as_slice-2.ensures.value in
    values_fit g.row.N c.args.load c.requires.within c.requires.words s c.in_ok-kept.ensures c.as_slice-3.result.now rows

pub returns : goal.returns
returns g c =
    let s = c.in_ok-kept.field-0 in
    let rows : c.as_slice-3.result.now ≡ map_of (fixed g.row.N) (pages_of_blocks s.blocks.items) =
    c.as_slice-3.ensures.value ∙ c.in_ok-rows.ensures.rows
    ∙ ap (λ (b : List (MemBlock g.row.N)). map_of (fixed g.row.N) (pages_of_blocks b))
    c.as_slice-2.ensures.value in
    let told : c.tally_all-tally.result ≡ total_of s.kept.items = c.tally_all-tally.ensures
    ∙ ap (λ (l : List Tally). total_of l) c.as_slice.ensures.value in
    churned g.row.N c.args.load c.requires.within c.requires.words s c.in_ok-kept.ensures c.as_slice-3.result.now
    c.tally_all-tally.result c.in_ok-text.text c.told.result rows told c.in_ok-text.ensures c.told.ensures
