use Rattle.std.proofs.Common.{◌++◌, ◌∙◌, ◌≢◌, ap, length, None, Some, sym, ℕ}
use Rattle.std.proofs.lemmas.Bool.{false≢true}
use Rattle.std.proofs.lemmas.List.{length-replicate}
use Rattle.vm_tree_merge.specs.from_vm_step.Prelude.{view}
use Rattle.vm_tree_merge.specs.from_vm_guard.Guards.{placed}
use Rattle.vm_tree_merge.proofs.from_vm_tree_rule.{OnWay.leaf-later, Onward.loaded-more, Surely.known-same}
use Rattle.vm_tree_merge.proofs.from_vm_tree_rule.Readings.{loads-reads, opened-loads}
use Rattle.vm_tree_merge.proofs.from_vm_tree_read.Answering.{reply-told, reply-whole}
use Rattle.vm_tree_write.proofs.Telling.{awaits-twice, edit-as, known-twice, opened-twice, reads-twice, swap-done, swap-edit, swap-proved}
use Rattle.vm_tree_write.proofs.write.swap_once.Goals as goal

pub returns-in-Err-clause-tried : goal.returns-in-Err-clause-tried
returns-in-Err-clause-tried g c = c.not_yet.ensures.swap _ c.args.want c.args.value _ _ c.in-Err.ensures.err

-- none is no value
some-none : (want : ℕ) → None ≢ Some want
some-none want e = absurd (cc)

-- ---- the key has not the value that is wanted

pub kept-requires-clause-reading : goal.kept-requires-clause-reading
kept-requires-clause-reading g c = c.find_in_place-found.ensures.found.loads.reads

pub kept-requires-clause-proves : goal.kept-requires-clause-proves
kept-requires-clause-proves g c =
    let leaf = c.in-Ok.ensures.leaf in
    let f = c.find_in_place-found.ensures.found in (
      leaf.0 ++ f.loaded,
      loaded-more _ _ _ leaf.0 f.loaded _ _ leaf.1 f.loads,
      reply-told g.K.Kind.layout leaf.0
          f.loaded _ leaf.2 (λ page with covers low high rises. swap-proved g.K.Kind.layout page
          (g.K.Kind.rank c.args.key.now) c.args.want c.args.value c.find_in_place-found.result covers
          (c.is_other.ensures.yes c.if-is_other.true) (f.tells page with low high rises)),
    )

pub kept-requires-clause-other : goal.kept-requires-clause-other
kept-requires-clause-other g c = c.is_other.ensures.yes c.if-is_other.true

pub returns-then-is_other-clause-tried : goal.returns-then-is_other-clause-tried
returns-then-is_other-clause-tried g c = c.kept.ensures.swap (view c.args.pass.now)
    (opened-loads _ _ _ _ _ _ _ c.in-Ok.ensures.reads.1 c.find_in_place-found.ensures.found.loads)

-- ---- it is read whole

-- a page of zeros has as many words as the layout's
pub read_leaf-requires-clause-size : goal.read_leaf-requires-clause-size
read_leaf-requires-clause-size g c = ap length c.zero-page.ensures ∙ length-replicate g.K.Kind.layout.words 0

pub read_leaf-requires-clause-reading : goal.read_leaf-requires-clause-reading
read_leaf-requires-clause-reading g c = c.find_in_place-found.ensures.found.loads.reads

pub returns-in-Err-read_leaf-clause-tried : goal.returns-in-Err-read_leaf-clause-tried
returns-in-Err-read_leaf-clause-tried g c =
    let loads = c.find_in_place-found.ensures.found.loads in
    c.not_yet-in-Err-read_leaf.ensures.swap _ c.args.want c.args.value _ _
    (c.in-Err-read_leaf.ensures.err (view c.args.pass.now) (opened-loads _ _ _ _ _ _ _ c.in-Ok.ensures.reads.1 loads)
    (leaf-later _ _ _ _ _ _ (loads-reads _ _ _ _ _ _ loads) c.in-Ok.ensures.reached))

pub kept-requires-in_default-put_edit-clause-reading : goal.kept-requires-in_default-put_edit-clause-reading
kept-requires-in_default-put_edit-clause-reading g c = c.in_default.ensures.loads.reads

pub kept-requires-in_default-put_edit-clause-proves : goal.kept-requires-in_default-put_edit-clause-proves
kept-requires-in_default-put_edit-clause-proves g c =
    let r = c.in_default.ensures in (
      placed 0 (g.K.Pages.words_of c.read_leaf.new.page),
      (_, r.loads.loads),
      reply-whole g.K.Kind.layout (g.K.Pages.words_of c.read_leaf.new.page) _ r.size (record {
        leaf = r.leaf.0;
        covers = r.leaf.1;
        reply = λ low high rises. swap-proved g.K.Kind.layout (g.K.Pages.words_of c.read_leaf.new.page)
            (g.K.Kind.rank c.args.key.now) c.args.want c.args.value None r.leaf.1 (some-none c.args.want)
            (sym (c.in_default-put_edit.ensures.refused.absent low high rises));
      }),
    )

pub kept-requires-in_default-put_edit-clause-other : goal.kept-requires-in_default-put_edit-clause-other
kept-requires-in_default-put_edit-clause-other g c = some-none c.args.want

pub returns-in_default-put_edit-clause-tried : goal.returns-in_default-put_edit-clause-tried
returns-in_default-put_edit-clause-tried g c =
    c.kept-in_default-put_edit.ensures.swap (view c.args.pass.now)
    (opened-twice _ _ _ _ _ _ _ _ _ c.in-Ok.ensures.reads.1 c.find_in_place-found.ensures.found.loads
    c.in_default.ensures.loads)

-- ---- read whole, the key has another value, or none

pub kept-requires-then-is_other-2-clause-reading : goal.kept-requires-then-is_other-2-clause-reading
kept-requires-then-is_other-2-clause-reading g c = c.in_default.ensures.loads.reads

pub kept-requires-then-is_other-2-clause-other : goal.kept-requires-then-is_other-2-clause-other
kept-requires-then-is_other-2-clause-other g c = c.is_other-2.ensures.yes c.if-is_other-2.true

pub kept-requires-then-is_other-2-clause-proves : goal.kept-requires-then-is_other-2-clause-proves
kept-requires-then-is_other-2-clause-proves g c =
    let r = c.in_default.ensures in (
      placed 0 (g.K.Pages.words_of c.read_leaf.new.page),
      (_, r.loads.loads),
      reply-whole g.K.Kind.layout (g.K.Pages.words_of c.read_leaf.new.page) _ r.size (record {
        leaf = r.leaf.0;
        covers = r.leaf.1;
        reply = λ low high rises. swap-proved g.K.Kind.layout (g.K.Pages.words_of c.read_leaf.new.page)
            (g.K.Kind.rank c.args.key.now) c.args.want c.args.value c.in-Ok-put_edit.was r.leaf.1
            (c.is_other-2.ensures.yes c.if-is_other-2.true) (c.in-Ok-put_edit.ensures.was low high rises);
      }),
    )

pub returns-then-is_other-2-clause-tried : goal.returns-then-is_other-2-clause-tried
returns-then-is_other-2-clause-tried g c =
    c.kept-then-is_other-2.ensures.swap (view c.args.pass.now)
    (opened-twice _ _ _ _ _ _ _ _ _ c.in-Ok.ensures.reads.1 c.find_in_place-found.ensures.found.loads
    c.in_default.ensures.loads)

pub returns-then-is_other-2-clause-sure : goal.returns-then-is_other-2-clause-sure
returns-then-is_other-2-clause-sure g c tells resident =
    c.kept-then-is_other-2.ensures.sure
    (known-twice _ _ _ _ _ _ _ _ c.find_in_place-found.ensures.found.loads c.in_default.ensures.loads
    (c.in-Ok.ensures.known tells resident))

pub returns-then-is_other-2-clause-known : goal.returns-then-is_other-2-clause-known
returns-then-is_other-2-clause-known g c tells resident =
    c.kept-then-is_other-2.ensures.known
    (known-twice _ _ _ _ _ _ _ _ c.find_in_place-found.ensures.found.loads c.in_default.ensures.loads
    (c.in-Ok.ensures.known tells resident))

-- ---- it is written

pub write_leaf-requires-clause-reading : goal.write_leaf-requires-clause-reading
write_leaf-requires-clause-reading g c = c.in_default.ensures.loads.reads

pub write_leaf-requires-clause-loads : goal.write_leaf-requires-clause-loads
write_leaf-requires-clause-loads g c = (_, c.in_default.ensures.loads.loads)

pub write_leaf-requires-clause-home : goal.write_leaf-requires-clause-home
write_leaf-requires-clause-home g c =
    (reads-twice _ _ _ _ _ _ _ _ _ c.in-Ok.ensures.reads.0 c.find_in_place-found.ensures.found.loads
    c.in_default.ensures.loads).0.out ∙ c.requires.home

pub write_leaf-requires-clause-edit : goal.write_leaf-requires-clause-edit
write_leaf-requires-clause-edit g c =
    edit-as g.K.Kind.layout (g.K.Pages.words_of c.read_leaf.new.page)
    (g.K.Edits.edited (g.K.Pages.words_of c.read_leaf.new.page) c.in-Ok-put_edit.edit) _ _ c.swapped-said.ensures
    (swap-edit g.K.Kind.layout (g.K.Pages.words_of c.read_leaf.new.page)
    (g.K.Edits.edited (g.K.Pages.words_of c.read_leaf.new.page) c.in-Ok-put_edit.edit)
    (g.K.Kind.rank c.args.key.now) c.args.want c.args.value c.in-Ok-put_edit.was
    (c.is_other-2.ensures.no c.if-is_other-2.false) c.in_default.ensures.leaf.1 c.in-Ok-put_edit.ensures.leaf)

pub returns-in-Ok-write_leaf-clause-tried : goal.returns-in-Ok-write_leaf-clause-tried
returns-in-Ok-write_leaf-clause-tried g c =
    swap-done g.K.Kind.plain g.K.Kind.layout _ (g.K.Kind.rank c.args.key.now) c.args.want c.args.value
    (g.K.Pages.words_of c.read_leaf.new.page) _ _ _ c.swapped-said.ensures
    (reads-twice _ _ _ _ _ _ _ _ _ c.in-Ok.ensures.reads.0 c.find_in_place-found.ensures.found.loads
    c.in_default.ensures.loads) (c.in-Ok-write_leaf.ensures.ok.0, c.in-Ok-write_leaf.ensures.ok.1)

pub returns-clause-tried : goal.returns-clause-tried
returns-clause-tried g c =
    let r = c.in_default.ensures in
    let loads = c.find_in_place-found.ensures.found.loads in
    c.unwritten.ensures.swap (g.K.Kind.rank c.args.key.now) c.args.want c.args.value _ _ _
    (g.K.Pages.words_of c.read_leaf.new.page) (view c.args.pass.now) (view c.read_leaf.new.pass)
    (view c.write_leaf.new.pass) (opened-twice _ _ _ _ _ _ _ _ _ c.in-Ok.ensures.reads.1 loads r.loads)
    (awaits-twice _ _ _ _ _ _ _ _ loads r.loads _ c.in-Ok.ensures.awaits) (_, r.loads.loads) r.leaf
    (λ low high rises. sym (c.in-Ok-put_edit.ensures.was low high rises) ∙ c.is_other-2.ensures.no
    c.if-is_other-2.false) c.in-Err-write_leaf.ensures.err

-- ---- a pass that knows its pages to be resident

pub returns-in-Err-clause-sure : goal.returns-in-Err-clause-sure
returns-in-Err-clause-sure g c tells resident = absurd (false≢true (c.in-Err.ensures.sure tells resident))

pub returns-then-is_other-clause-sure : goal.returns-then-is_other-clause-sure
returns-then-is_other-clause-sure g c tells resident =
    let loads = c.find_in_place-found.ensures.found.loads in
    c.kept.ensures.sure (known-same _ _ _ _ (loads-reads _ _ _ _ _ _ loads).0 loads.table
    (c.in-Ok.ensures.known tells resident))

pub returns-in-Err-read_leaf-clause-sure : goal.returns-in-Err-read_leaf-clause-sure
returns-in-Err-read_leaf-clause-sure g c tells resident =
    let loads = c.find_in_place-found.ensures.found.loads in
    let reads = (loads-reads _ _ _ _ _ _ loads).0 in
    absurd (false≢true (c.in-Err-read_leaf.ensures.sure _ tells
    (known-same _ _ _ _ reads loads.table (c.in-Ok.ensures.known tells resident))
    (leaf-later _ _ _ _ _ _ (loads-reads _ _ _ _ _ _ loads) c.in-Ok.ensures.reached)))

pub returns-in_default-put_edit-clause-sure : goal.returns-in_default-put_edit-clause-sure
returns-in_default-put_edit-clause-sure g c tells resident = c.kept-in_default-put_edit.ensures.sure
    (known-twice _ _ _ _ _ _ _ _ c.find_in_place-found.ensures.found.loads c.in_default.ensures.loads
    (c.in-Ok.ensures.known tells resident))

pub returns-clause-sure : goal.returns-clause-sure
returns-clause-sure g c tells resident =
    c.unwritten.ensures.settled _
    (c.in-Err-write_leaf.ensures.sure
    (known-twice _ _ _ _ _ _ _ _ c.find_in_place-found.ensures.found.loads c.in_default.ensures.loads
    (c.in-Ok.ensures.known tells resident)))

-- ---- what it knows afterwards

pub returns-in-Err-clause-known : goal.returns-in-Err-clause-known
returns-in-Err-clause-known g c tells resident = absurd (false≢true (c.in-Err.ensures.sure tells resident))

pub returns-then-is_other-clause-known : goal.returns-then-is_other-clause-known
returns-then-is_other-clause-known g c tells resident =
    let loads = c.find_in_place-found.ensures.found.loads in
    c.kept.ensures.known (known-same _ _ _ _ (loads-reads _ _ _ _ _ _ loads).0 loads.table
    (c.in-Ok.ensures.known tells resident))

pub returns-in-Err-read_leaf-clause-known : goal.returns-in-Err-read_leaf-clause-known
returns-in-Err-read_leaf-clause-known g c tells resident =
    let loads = c.find_in_place-found.ensures.found.loads in
    let reads = (loads-reads _ _ _ _ _ _ loads).0 in
    absurd (false≢true (c.in-Err-read_leaf.ensures.sure _ tells
    (known-same _ _ _ _ reads loads.table (c.in-Ok.ensures.known tells resident))
    (leaf-later _ _ _ _ _ _ (loads-reads _ _ _ _ _ _ loads) c.in-Ok.ensures.reached)))

pub returns-in_default-put_edit-clause-known : goal.returns-in_default-put_edit-clause-known
returns-in_default-put_edit-clause-known g c tells resident = c.kept-in_default-put_edit.ensures.known
    (known-twice _ _ _ _ _ _ _ _ c.find_in_place-found.ensures.found.loads c.in_default.ensures.loads
    (c.in-Ok.ensures.known tells resident))

pub returns-in-Ok-write_leaf-clause-known : goal.returns-in-Ok-write_leaf-clause-known
returns-in-Ok-write_leaf-clause-known g c tells resident =
    c.write_leaf.ensures.known
    (known-twice _ _ _ _ _ _ _ _ c.find_in_place-found.ensures.found.loads c.in_default.ensures.loads
    (c.in-Ok.ensures.known tells resident))

pub returns-clause-known : goal.returns-clause-known
returns-clause-known g c tells resident =
    c.write_leaf.ensures.known
    (known-twice _ _ _ _ _ _ _ _ c.find_in_place-found.ensures.found.loads c.in_default.ensures.loads
    (c.in-Ok.ensures.known tells resident))
