use Rattle.std.proofs.Common.{◌++◌, ◌∙◌, ◌≡◌, ap, length}
use Rattle.std.proofs.lemmas.Bool.{false≢true}
use Rattle.std.proofs.lemmas.List.{length-replicate}
use Rattle.vm_tree_model.specs.{Node.Covers, Page.node_of}
use Rattle.vm_node.proofs.Telling.{page_first, page_then}
use Rattle.vm_tree_merge.specs.from_vm_step.Prelude.{view}
use Rattle.vm_tree_merge.specs.from_vm_guard.Guards.{placed}
use Rattle.vm_tree_merge.proofs.from_vm_tree_rule.{OnWay.leaf-later, Onward.loaded-more, Surely.known-same}
use Rattle.vm_tree_merge.proofs.from_vm_tree_rule.Readings.{loads-reads, opened-loads}
use Rattle.vm_tree_merge.specs.from_vm_kind.Room.{IsTightFor}
use Rattle.vm_tree_write.proofs.Telling.{awaits-twice, edit-as, known-twice, opened-twice, put-done, put-edit, reads-twice, told-whole}
use Rattle.vm_tree_write.proofs.write.put_once.Goals as goal

pub returns-in-Err-clause-tried : goal.returns-in-Err-clause-tried
returns-in-Err-clause-tried g c = c.not_yet.ensures.put _ _ _ _ c.in-Err.ensures.err

-- ---- the leaf is full, and has not the key

pub tight-requires-clause-reading : goal.tight-requires-clause-reading
tight-requires-clause-reading g c = c.is_tight_in_place.ensures.found.loads.reads

pub returns-then-is_tight_in_place-clause-tried : goal.returns-then-is_tight_in_place-clause-tried
returns-then-is_tight_in_place-clause-tried g c =
    let leaf = c.in-Ok.ensures.leaf in
    let f = c.is_tight_in_place.ensures.found in
    c.tight.ensures.put (g.K.Kind.rank c.args.key.now) c.args.value (leaf.0 ++ f.loaded) (view c.args.pass.now)
    (opened-loads _ _ _ _ _ _ _ c.in-Ok.ensures.reads.1 f.loads)
    (loaded-more _ _ _ leaf.0 f.loaded _ _ leaf.1 f.loads)
    (λ words with. leaf.2 words (page_first g.K.Kind.layout.words leaf.0 f.loaded words with))
    (λ words with. f.tells words (page_then g.K.Kind.layout.words leaf.0 f.loaded words with)
    c.if-is_tight_in_place.true)

-- ---- it is read whole

-- a page of zeros has as many words as the layout's
pub read_leaf-requires-clause-size : goal.read_leaf-requires-clause-size
read_leaf-requires-clause-size g c = ap length c.zero-page.ensures ∙ length-replicate g.K.Kind.layout.words 0

pub read_leaf-requires-clause-reading : goal.read_leaf-requires-clause-reading
read_leaf-requires-clause-reading g c = c.is_tight_in_place.ensures.found.loads.reads

pub returns-in-Err-read_leaf-clause-tried : goal.returns-in-Err-read_leaf-clause-tried
returns-in-Err-read_leaf-clause-tried g c =
    let loads = c.is_tight_in_place.ensures.found.loads in
    c.not_yet-in-Err-read_leaf.ensures.put _ _ _ _
    (c.in-Err-read_leaf.ensures.err (view c.args.pass.now) (opened-loads _ _ _ _ _ _ _ c.in-Ok.ensures.reads.1 loads)
    (leaf-later _ _ _ _ _ _ (loads-reads _ _ _ _ _ _ loads) c.in-Ok.ensures.reached))

pub tight-requires-in-Err-put_edit-clause-reading : goal.tight-requires-in-Err-put_edit-clause-reading
tight-requires-in-Err-put_edit-clause-reading g c = c.in_default.ensures.loads.reads

pub returns-in-Err-put_edit-clause-tried : goal.returns-in-Err-put_edit-clause-tried
returns-in-Err-put_edit-clause-tried g c =
    let r = c.in_default.ensures in
    c.tight-in-Err-put_edit.ensures.put (g.K.Kind.rank c.args.key.now) c.args.value
    (placed 0 (g.K.Pages.words_of c.read_leaf.new.page)) (view c.args.pass.now)
    (opened-twice _ _ _ _ _ _ _ _ _ c.in-Ok.ensures.reads.1 c.is_tight_in_place.ensures.found.loads r.loads)
    (_, r.loads.loads)
    (told-whole (λ l. ((node_of g.K.Kind.layout l).tag ≡ 2) × Covers (node_of g.K.Kind.layout l)
    (g.K.Kind.rank c.args.key.now)) (g.K.Pages.words_of c.read_leaf.new.page) r.size r.leaf)
    (told-whole (λ l. IsTightFor g.K.Kind.layout g.K.Kind.spare l (g.K.Kind.rank c.args.key.now))
    (g.K.Pages.words_of c.read_leaf.new.page) r.size c.in-Err-put_edit.ensures.refused)

pub write_leaf-requires-clause-reading : goal.write_leaf-requires-clause-reading
write_leaf-requires-clause-reading g c = c.in_default.ensures.loads.reads

pub write_leaf-requires-clause-loads : goal.write_leaf-requires-clause-loads
write_leaf-requires-clause-loads g c = (_, c.in_default.ensures.loads.loads)

pub write_leaf-requires-clause-home : goal.write_leaf-requires-clause-home
write_leaf-requires-clause-home g c =
    (reads-twice _ _ _ _ _ _ _ _ _ c.in-Ok.ensures.reads.0 c.is_tight_in_place.ensures.found.loads
    c.in_default.ensures.loads).0.out ∙ c.requires.home

pub write_leaf-requires-clause-edit : goal.write_leaf-requires-clause-edit
write_leaf-requires-clause-edit g c =
    edit-as g.K.Kind.layout (g.K.Pages.words_of c.read_leaf.new.page)
    (g.K.Edits.edited (g.K.Pages.words_of c.read_leaf.new.page) c.in-Ok-put_edit.edit) _ _ c.was-said.ensures
    (put-edit g.K.Kind.layout (g.K.Pages.words_of c.read_leaf.new.page)
    (g.K.Edits.edited (g.K.Pages.words_of c.read_leaf.new.page) c.in-Ok-put_edit.edit)
    (g.K.Kind.rank c.args.key.now) c.args.value c.in-Ok-put_edit.was c.in_default.ensures.leaf.1
    c.in-Ok-put_edit.ensures.leaf)

pub returns-in-Ok-write_leaf-clause-tried : goal.returns-in-Ok-write_leaf-clause-tried
returns-in-Ok-write_leaf-clause-tried g c =
    put-done g.K.Kind.plain g.K.Kind.layout g.K.Kind.spare _ (g.K.Kind.rank c.args.key.now) c.args.value
    c.in-Ok-put_edit.was (g.K.Pages.words_of c.read_leaf.new.page) (view c.args.pass.now)
    (view c.read_leaf.new.pass) (view c.write_leaf.new.pass) c.was-said.ensures
    c.in-Ok-put_edit.ensures.room
    (reads-twice _ _ _ _ _ _ _ _ _ c.in-Ok.ensures.reads.0 c.is_tight_in_place.ensures.found.loads
    c.in_default.ensures.loads) (c.in-Ok-write_leaf.ensures.ok.0, c.in-Ok-write_leaf.ensures.ok.1)

pub returns-clause-tried : goal.returns-clause-tried
returns-clause-tried g c =
    let r = c.in_default.ensures in
    let loads = c.is_tight_in_place.ensures.found.loads in
    c.unwritten.ensures.put (g.K.Kind.rank c.args.key.now) c.args.value _ _ _
    (g.K.Pages.words_of c.read_leaf.new.page) (view c.args.pass.now) (view c.read_leaf.new.pass)
    (view c.write_leaf.new.pass) (opened-twice _ _ _ _ _ _ _ _ _ c.in-Ok.ensures.reads.1 loads r.loads)
    (awaits-twice _ _ _ _ _ _ _ _ loads r.loads _ c.in-Ok.ensures.awaits) (_, r.loads.loads) r.leaf
    c.in-Ok-put_edit.ensures.room c.in-Err-write_leaf.ensures.err

-- ---- a pass that knows its pages to be resident

pub returns-in-Err-clause-sure : goal.returns-in-Err-clause-sure
returns-in-Err-clause-sure g c tells resident = absurd (false≢true (c.in-Err.ensures.sure tells resident))

pub returns-then-is_tight_in_place-clause-sure : goal.returns-then-is_tight_in_place-clause-sure
returns-then-is_tight_in_place-clause-sure g c tells resident =
    let loads = c.is_tight_in_place.ensures.found.loads in
    c.tight.ensures.sure (known-same _ _ _ _ (loads-reads _ _ _ _ _ _ loads).0 loads.table
    (c.in-Ok.ensures.known tells resident))

pub returns-in-Err-read_leaf-clause-sure : goal.returns-in-Err-read_leaf-clause-sure
returns-in-Err-read_leaf-clause-sure g c tells resident =
    let loads = c.is_tight_in_place.ensures.found.loads in
    let reads = (loads-reads _ _ _ _ _ _ loads).0 in
    absurd (false≢true (c.in-Err-read_leaf.ensures.sure _ tells
    (known-same _ _ _ _ reads loads.table (c.in-Ok.ensures.known tells resident))
    (leaf-later _ _ _ _ _ _ (loads-reads _ _ _ _ _ _ loads) c.in-Ok.ensures.reached)))

pub returns-in-Err-put_edit-clause-sure : goal.returns-in-Err-put_edit-clause-sure
returns-in-Err-put_edit-clause-sure g c tells resident =
    c.tight-in-Err-put_edit.ensures.sure
    (known-twice _ _ _ _ _ _ _ _ c.is_tight_in_place.ensures.found.loads c.in_default.ensures.loads
    (c.in-Ok.ensures.known tells resident))

pub returns-clause-sure : goal.returns-clause-sure
returns-clause-sure g c tells resident =
    c.unwritten.ensures.settled _
    (c.in-Err-write_leaf.ensures.sure
    (known-twice _ _ _ _ _ _ _ _ c.is_tight_in_place.ensures.found.loads c.in_default.ensures.loads
    (c.in-Ok.ensures.known tells resident)))

-- ---- what it knows afterwards

pub returns-in-Err-clause-known : goal.returns-in-Err-clause-known
returns-in-Err-clause-known g c tells resident = absurd (false≢true (c.in-Err.ensures.sure tells resident))

pub returns-then-is_tight_in_place-clause-known : goal.returns-then-is_tight_in_place-clause-known
returns-then-is_tight_in_place-clause-known g c tells resident =
    let loads = c.is_tight_in_place.ensures.found.loads in
    c.tight.ensures.known (known-same _ _ _ _ (loads-reads _ _ _ _ _ _ loads).0 loads.table
    (c.in-Ok.ensures.known tells resident))

pub returns-in-Err-read_leaf-clause-known : goal.returns-in-Err-read_leaf-clause-known
returns-in-Err-read_leaf-clause-known g c tells resident =
    let loads = c.is_tight_in_place.ensures.found.loads in
    let reads = (loads-reads _ _ _ _ _ _ loads).0 in
    absurd (false≢true (c.in-Err-read_leaf.ensures.sure _ tells
    (known-same _ _ _ _ reads loads.table (c.in-Ok.ensures.known tells resident))
    (leaf-later _ _ _ _ _ _ (loads-reads _ _ _ _ _ _ loads) c.in-Ok.ensures.reached)))

pub returns-in-Err-put_edit-clause-known : goal.returns-in-Err-put_edit-clause-known
returns-in-Err-put_edit-clause-known g c tells resident =
    c.tight-in-Err-put_edit.ensures.known
    (known-twice _ _ _ _ _ _ _ _ c.is_tight_in_place.ensures.found.loads c.in_default.ensures.loads
    (c.in-Ok.ensures.known tells resident))

pub returns-in-Ok-write_leaf-clause-known : goal.returns-in-Ok-write_leaf-clause-known
returns-in-Ok-write_leaf-clause-known g c tells resident =
    c.write_leaf.ensures.known
    (known-twice _ _ _ _ _ _ _ _ c.is_tight_in_place.ensures.found.loads c.in_default.ensures.loads
    (c.in-Ok.ensures.known tells resident))

pub returns-clause-known : goal.returns-clause-known
returns-clause-known g c tells resident =
    c.write_leaf.ensures.known
    (known-twice _ _ _ _ _ _ _ _ c.is_tight_in_place.ensures.found.loads c.in_default.ensures.loads
    (c.in-Ok.ensures.known tells resident))
