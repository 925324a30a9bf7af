use Rattle.std.proofs.Common.{◌∙◌, ◌≡◌, ◌≢◌, sym, ℕ}
use Rattle.vm_step.specs.Prelude.{view}
use Rattle.vm_tree_rule.proofs.{Counting.words-same, Entering.refused-turn, Seeking.reread-has, Seeking.torn-turn}
use Rattle.vm_tree_rule.proofs.Readings.{leaves-self, loads-reads, opened-loads, reads-self}
use Rattle.vm_tree_rule.proofs.Surely.{known-at, known-same}
use Rattle.vm_tree_rule.proofs.seek.reread.Goals as goal
use Rattle.vm_tree_rule.proofs.Whole.{tree_key, tree-size}

other-spare : (left found spare : ℕ) → found ≡ spare → found ≢ left → left ≡ spare → ⊥
other-spare left found spare is other same = other (is ∙ sym same)

pub returns-then-spare_of-left-clause-words : goal.returns-then-spare_of-left-clause-words
returns-then-spare_of-left-clause-words g c = words-same _ _ _ _ c.read_all.ensures.words c.in-Ok.ensures.words

pub returns-else-spare_of-left-clause-words : goal.returns-else-spare_of-left-clause-words
returns-else-spare_of-left-clause-words g c = words-same _ _ _ _ c.read_all.ensures.words c.in-Ok.ensures.words

pub returns-in-Err-clause-words : goal.returns-in-Err-clause-words
returns-in-Err-clause-words g c = words-same _ _ _ _ c.read_all.ensures.words c.in-Err.ensures.words

pub returns-else-spare_of-left-clause-err : goal.returns-else-spare_of-left-clause-err
returns-else-spare_of-left-clause-err g c v key level low high o way =
    let k = c.requires.counted in
    torn-turn _ _ _ (g.K.Pages.words_of c.read_all.new.into) (view c.args.pass.now)
    (view c.validate_silently.new.pass) (record {
      read = view c.read_all.new.pass;
      loads = c.read_all.ensures.loads;
      valid = c.in-Ok.ensures.ok;
    }) k.0 c.read_all.ensures.size
    (tree-size _ _ _ c.validate_silently.ensures.goes.ready.table.is_shape.size c.args.words.now.sized.0
    c.args.words.now.size.takes) k.1
    (λ with. other-spare _ _ _ c.spare_of.ensures c.if-spare_of-left.false (k.2 (g.K.Pages.words_of c.read_all.new.into) with))
    key level low high v o way

pub returns-else-spare_of-left-clause-sure : goal.returns-else-spare_of-left-clause-sure
returns-else-spare_of-left-clause-sure g c tells known =
    let k = c.requires.counted in
    let here = reread-has _ _ _ (g.K.Pages.words_of c.read_all.new.into) (view c.args.pass.now)
    (view c.validate_silently.new.pass) (record {
      read = view c.read_all.new.pass;
      loads = c.read_all.ensures.loads;
      valid = c.in-Ok.ensures.ok;
    }) k.0 c.read_all.ensures.size
    (tree-size _ _ _ c.validate_silently.ensures.goes.ready.table.is_shape.size c.args.words.now.sized.0
    c.args.words.now.size.takes) k.1
    (c.requires.ready.table.tells_is ∙ tells) in
    absurd (other-spare _ _ _ c.spare_of.ensures c.if-spare_of-left.false (k.2 (g.K.Pages.words_of c.read_all.new.into) here.1))

pub returns-in-Err-clause-err : goal.returns-in-Err-clause-err
returns-in-Err-clause-err g c v key level low high o way = refused-turn _ _ _ g.K.Kind.layout key _ v _ _ _
    (opened-loads _ _ _ _ _ _ _ o c.read_all.ensures.loads) (reads-self _) (leaves-self _ _) c.in-Err.ensures.err

pub returns-in-Err-clause-sure : goal.returns-in-Err-clause-sure
returns-in-Err-clause-sure g c tells known =
    let loads = c.read_all.ensures.loads in
    let k = known-same _ _ _ _ (loads-reads _ _ _ _ _ _ loads).0 loads.table known in
    c.in-Err.ensures.sure k.resident.alone (known-at _ _ _ k)

-- the buffer has as many words as the page
pub read_all-requires-clause-size : goal.read_all-requires-clause-size
read_all-requires-clause-size g c = tree_key _ _ c.args.words.now.sized.0 c.args.words.now.size.takes
