use Rattle.std.proofs.Common.{◌++◌, ◌∙◌, ap, length, option_map, refl, sym}
use Rattle.std.proofs.lemmas.Bool.{false≢true}
use Rattle.std.proofs.lemmas.List.{length-replicate}
use Rattle.vm_tree_write.specs.from_vm_step.Prelude.{view}
use Rattle.vm_tree_write.specs.from_vm_guard.Guards.{placed}
use Rattle.vm_tree_write.proofs.from_vm_tree_rule.{OnWay.leaf-later, Onward.loaded-more, Surely.known-same}
use Rattle.vm_tree_write.proofs.from_vm_tree_rule.Readings.{loads-reads, opened-loads}
use Rattle.vm_tree_write.proofs.from_vm_tree_rule.Showing.{none-some}
use Rattle.vm_tree_write.proofs.from_vm_tree_read.Answering.{reply-told, reply-whole}
use Rattle.vm_tree_write.proofs.Telling.{awaits-twice, edit-as, known-twice, opened-twice, reads-twice}
use Rattle.vm_tree_del.proofs.Leaving.{del-edit, del-made}
use Rattle.vm_tree_del.proofs.once.del_once.Goals as goal

pub returns-in-Err-clause-tried : goal.returns-in-Err-clause-tried
returns-in-Err-clause-tried g c = c.not_yet.ensures.del _ _ _ c.in-Err.ensures.err

-- ---- the leaf has not the key

pub missed-requires-clause-reading : goal.missed-requires-clause-reading
missed-requires-clause-reading g c = c.find_in_place.ensures.found.loads.reads

pub missed-requires-clause-proves : goal.missed-requires-clause-proves
missed-requires-clause-proves g c =
    let leaf = c.in-Ok.ensures.leaf in
    let f = c.find_in_place.ensures.found in (
      leaf.0 ++ f.loaded,
      loaded-more _ _ _ leaf.0 f.loaded _ _ leaf.1 f.loads,
      reply-told g.K.Kind.layout leaf.0
          f.loaded _ leaf.2 (λ page with covers low high rises.
          (covers, refl, sym (f.tells page with low high rises) ∙ c.in-None.is)),
    )

pub returns-in-None-clause-tried : goal.returns-in-None-clause-tried
returns-in-None-clause-tried g c = c.missed.ensures.del (view c.args.pass.now)
    (opened-loads _ _ _ _ _ _ _ c.in-Ok.ensures.reads.1 c.find_in_place.ensures.found.loads)

-- ---- it is read whole

-- a page of zeros has as many words as the layout's
pub read_leaf-requires-clause-size : goal.read_leaf-requires-clause-size
read_leaf-requires-clause-size g c = ap length c.zero-page.ensures ∙ length-replicate g.K.Kind.layout.words 0

pub read_leaf-requires-clause-reading : goal.read_leaf-requires-clause-reading
read_leaf-requires-clause-reading g c = c.find_in_place.ensures.found.loads.reads

pub returns-in-Err-read_leaf-clause-tried : goal.returns-in-Err-read_leaf-clause-tried
returns-in-Err-read_leaf-clause-tried g c =
    let loads = c.find_in_place.ensures.found.loads in
    c.not_yet-in-Err-read_leaf.ensures.del _ _ _
    (c.in-Err-read_leaf.ensures.err (view c.args.pass.now) (opened-loads _ _ _ _ _ _ _ c.in-Ok.ensures.reads.1 loads)
    (leaf-later _ _ _ _ _ _ (loads-reads _ _ _ _ _ _ loads) c.in-Ok.ensures.reached))

pub missed-requires-in-None-del_edit-clause-reading : goal.missed-requires-in-None-del_edit-clause-reading
missed-requires-in-None-del_edit-clause-reading g c = c.in_default.ensures.loads.reads

pub missed-requires-in-None-del_edit-clause-proves : goal.missed-requires-in-None-del_edit-clause-proves
missed-requires-in-None-del_edit-clause-proves g c =
    let r = c.in_default.ensures in (
      placed 0 (g.K.Pages.words_of c.read_leaf.new.page),
      (_, r.loads.loads),
      reply-whole g.K.Kind.layout (g.K.Pages.words_of c.read_leaf.new.page) _ r.size (record {
        leaf = r.leaf.0;
        covers = r.leaf.1;
        reply = λ low high rises. (
          r.leaf.1,
          refl,
          sym (c.del_edit.ensures.was low high rises) ∙ ap (option_map (λ r. r.0))
              c.in-None-del_edit.is,
        );
      }),
    )

pub returns-in-None-del_edit-clause-tried : goal.returns-in-None-del_edit-clause-tried
returns-in-None-del_edit-clause-tried g c =
    c.missed-in-None-del_edit.ensures.del (view c.args.pass.now)
    (opened-twice _ _ _ _ _ _ _ _ _ c.in-Ok.ensures.reads.1 c.find_in_place.ensures.found.loads
    c.in_default.ensures.loads)

-- ---- it is written

pub write_leaf-requires-clause-reading : goal.write_leaf-requires-clause-reading
write_leaf-requires-clause-reading g c = c.in_default.ensures.loads.reads

pub write_leaf-requires-clause-loads : goal.write_leaf-requires-clause-loads
write_leaf-requires-clause-loads g c = (_, c.in_default.ensures.loads.loads)

pub write_leaf-requires-clause-home : goal.write_leaf-requires-clause-home
write_leaf-requires-clause-home g c =
    (reads-twice _ _ _ _ _ _ _ _ _ c.in-Ok.ensures.reads.0 c.find_in_place.ensures.found.loads
    c.in_default.ensures.loads).0.out ∙ c.requires.home

pub write_leaf-requires-clause-edit : goal.write_leaf-requires-clause-edit
write_leaf-requires-clause-edit g c =
    edit-as g.K.Kind.layout (g.K.Pages.words_of c.read_leaf.new.page)
    (g.K.Edits.edited (g.K.Pages.words_of c.read_leaf.new.page) c.in-Some-del_edit.edit) _ _ c.gone-said.ensures
    (del-edit g.K.Kind.layout (g.K.Pages.words_of c.read_leaf.new.page)
    (g.K.Edits.edited (g.K.Pages.words_of c.read_leaf.new.page) c.in-Some-del_edit.edit)
    (g.K.Kind.rank c.args.key.now) c.in-Some-del_edit.was c.in_default.ensures.leaf.1
    (λ low high rises. sym (ap (option_map (λ r. r.0)) c.in-Some-del_edit.is) ∙ c.del_edit.ensures.was low high rises)
    c.in-Some-del_edit.ensures.leaf)

pub returns-in-Ok-write_leaf-clause-tried : goal.returns-in-Ok-write_leaf-clause-tried
returns-in-Ok-write_leaf-clause-tried g c =
    del-made g.K.Kind.plain g.K.Kind.layout _ (g.K.Kind.rank c.args.key.now) c.in-Some-del_edit.was _ _ _ c.gone-said.ensures
    (reads-twice _ _ _ _ _ _ _ _ _ c.in-Ok.ensures.reads.0 c.find_in_place.ensures.found.loads
    c.in_default.ensures.loads) c.in-Ok-write_leaf.ensures.ok.0

pub returns-clause-tried : goal.returns-clause-tried
returns-clause-tried g c =
    let r = c.in_default.ensures in
    let loads = c.find_in_place.ensures.found.loads in
    c.unwritten.ensures.del (g.K.Kind.rank c.args.key.now) _ _ _
    (g.K.Pages.words_of c.read_leaf.new.page) (view c.args.pass.now) (view c.read_leaf.new.pass)
    (view c.write_leaf.new.pass) (opened-twice _ _ _ _ _ _ _ _ _ c.in-Ok.ensures.reads.1 loads r.loads)
    (awaits-twice _ _ _ _ _ _ _ _ loads r.loads _ c.in-Ok.ensures.awaits) (_, r.loads.loads) r.leaf
    (λ low high rises none. none-some _ c.in-Some-del_edit.was none
    (sym (c.del_edit.ensures.was low high rises) ∙ ap (option_map (λ r. r.0)) c.in-Some-del_edit.is))
    c.in-Err-write_leaf.ensures.err

-- ---- a pass that knows its pages to be resident

pub returns-in-Err-clause-sure : goal.returns-in-Err-clause-sure
returns-in-Err-clause-sure g c tells resident = absurd (false≢true (c.in-Err.ensures.sure tells resident))

pub returns-in-None-clause-sure : goal.returns-in-None-clause-sure
returns-in-None-clause-sure g c tells resident =
    let loads = c.find_in_place.ensures.found.loads in
    c.missed.ensures.sure (known-same _ _ _ _ (loads-reads _ _ _ _ _ _ loads).0 loads.table
    (c.in-Ok.ensures.known tells resident))

pub returns-in-Err-read_leaf-clause-sure : goal.returns-in-Err-read_leaf-clause-sure
returns-in-Err-read_leaf-clause-sure g c tells resident =
    let loads = c.find_in_place.ensures.found.loads in
    let reads = (loads-reads _ _ _ _ _ _ loads).0 in
    absurd (false≢true (c.in-Err-read_leaf.ensures.sure _ tells
    (known-same _ _ _ _ reads loads.table (c.in-Ok.ensures.known tells resident))
    (leaf-later _ _ _ _ _ _ (loads-reads _ _ _ _ _ _ loads) c.in-Ok.ensures.reached)))

pub returns-in-None-del_edit-clause-sure : goal.returns-in-None-del_edit-clause-sure
returns-in-None-del_edit-clause-sure g c tells resident =
    c.missed-in-None-del_edit.ensures.sure
    (known-twice _ _ _ _ _ _ _ _ c.find_in_place.ensures.found.loads c.in_default.ensures.loads
    (c.in-Ok.ensures.known tells resident))

pub returns-clause-sure : goal.returns-clause-sure
returns-clause-sure g c tells resident =
    c.unwritten.ensures.settled
    (c.in-Err-write_leaf.ensures.sure
    (known-twice _ _ _ _ _ _ _ _ c.find_in_place.ensures.found.loads c.in_default.ensures.loads
    (c.in-Ok.ensures.known tells resident)))

-- ---- what it knows afterwards

pub returns-in-Err-clause-known : goal.returns-in-Err-clause-known
returns-in-Err-clause-known g c tells resident = absurd (false≢true (c.in-Err.ensures.sure tells resident))

pub returns-in-None-clause-known : goal.returns-in-None-clause-known
returns-in-None-clause-known g c tells resident =
    let loads = c.find_in_place.ensures.found.loads in
    c.missed.ensures.known (known-same _ _ _ _ (loads-reads _ _ _ _ _ _ loads).0 loads.table
    (c.in-Ok.ensures.known tells resident))

pub returns-in-Err-read_leaf-clause-known : goal.returns-in-Err-read_leaf-clause-known
returns-in-Err-read_leaf-clause-known g c tells resident =
    let loads = c.find_in_place.ensures.found.loads in
    let reads = (loads-reads _ _ _ _ _ _ loads).0 in
    absurd (false≢true (c.in-Err-read_leaf.ensures.sure _ tells
    (known-same _ _ _ _ reads loads.table (c.in-Ok.ensures.known tells resident))
    (leaf-later _ _ _ _ _ _ (loads-reads _ _ _ _ _ _ loads) c.in-Ok.ensures.reached)))

pub returns-in-None-del_edit-clause-known : goal.returns-in-None-del_edit-clause-known
returns-in-None-del_edit-clause-known g c tells resident = c.missed-in-None-del_edit.ensures.known
    (known-twice _ _ _ _ _ _ _ _ c.find_in_place.ensures.found.loads c.in_default.ensures.loads
    (c.in-Ok.ensures.known tells resident))

pub returns-in-Ok-write_leaf-clause-known : goal.returns-in-Ok-write_leaf-clause-known
returns-in-Ok-write_leaf-clause-known g c tells resident =
    c.write_leaf.ensures.known
    (known-twice _ _ _ _ _ _ _ _ c.find_in_place.ensures.found.loads c.in_default.ensures.loads
    (c.in-Ok.ensures.known tells resident))

pub returns-clause-known : goal.returns-clause-known
returns-clause-known g c tells resident =
    c.write_leaf.ensures.known
    (known-twice _ _ _ _ _ _ _ _ c.find_in_place.ensures.found.loads c.in_default.ensures.loads
    (c.in-Ok.ensures.known tells resident))
