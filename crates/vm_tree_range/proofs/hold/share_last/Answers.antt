-- The leaf is held at the version that was read, with those that are held already; then it is given up.
use Rattle.std.proofs.Common.{◌<◌, ◌∙◌, subst, sym, true≢false, refl}
use Rattle.vm_step.proofs.Going.{goes-then}
use Rattle.vm_event.specs.Prelude.{MayShare}
use Rattle.vm_tree_read.specs.from_vm_guard.Guards.{IsUnshared}
use Rattle.vm_step.specs.Prelude.{view}
use Rattle.vm_tree_laws.specs.Tied.{Tied}
use Rattle.vm_tree_read.proofs.from_vm_tree_rule.{Surely.known-at, Whole.tree-size}
use Rattle.vm_tree_range.proofs.{Holding.may-unshare, Holding.on-self, Ranging.held-done, Ranging.may-hold}
use Rattle.vm_tree_range.proofs.Readable.{may-share, readable-shared, readable-unshared}
use Rattle.vm_tree_range.proofs.ShareSteps.{denied-shares, given-shares, shares-then, taken-shares}
use Rattle.vm_tree_range.proofs.hold.share_last.Goals as goal

pub share-requires-clause-page : goal.share-requires-clause-page
share-requires-clause-page g c = subst (λ n. c.args.guard.pid < n) c.requires.ready.table.is_shape.pages c.requires.reading.page

pub share-requires-clause-owner : goal.share-requires-clause-owner
share-requires-clause-owner g c =
    let p = c.requires.proves in
    may-hold g.K.Kind.plain g.K.Kind.layout p.0 p.2 p.3 p.4 c.args.said.now c.args.guard.pid c.args.guard.word
    c.args.guard.frame (view c.args.pass.now) p.5 p.6 p.7 c.requires.reading
    (tree-size _ _ _ c.requires.ready.table.is_shape.size c.args.words.now.sized.0 c.args.words.now.size.takes)

pub drop_with-requires-clause-shares : goal.drop_with-requires-clause-shares
drop_with-requires-clause-shares g c = let s = c.in-Ok.ensures.taken in rw s.0 s.1.sharing

pub drop_with-requires-clause-legal : goal.drop_with-requires-clause-legal
drop_with-requires-clause-legal g c =
    let s = c.in-Ok.ensures.taken in
    rw s.0 (may-unshare (Tied g.K.Kind.layout) c.args.guard.pid c.in-Ok.last.frame _ _ _ _ s.1 _ c.requires.home (on-self _))

pub returns-in-Ok-clause-ok : goal.returns-in-Ok-clause-ok
returns-in-Ok-clause-ok g c =
    let p = c.requires.proves in
    let s = c.in-Ok.ensures.taken in
    held-done g.K.Kind.plain g.K.Kind.layout p.0 p.2 p.3 p.4 c.args.said.now c.args.guard.pid c.args.guard.word
    c.args.guard.frame (view c.args.pass.now) p.5 p.6 p.7 c.requires.reading p.1 c.in-Ok.last.frame _ _
    (tree-size _ _ _ c.share.ensures.goes.ready.table.is_shape.size c.args.words.now.sized.0 c.args.words.now.size.takes) s.1
    (λ tells. c.in-Ok.ensures.kept (sym c.requires.ready.table.tells_is ∙ tells))
    (subst (λ n. IsUnshared n (view c.share.new.pass) (view c.drop_with.new.pass)) s.0 c.drop_with.ensures.given_up)

-- ---- a pass that is alone

pub returns-in-Ok-clause-known : goal.returns-in-Ok-clause-known
returns-in-Ok-clause-known g c shares few k =
    let s = c.in-Ok.ensures.taken in
    readable-unshared c.args.guard.pid (view c.share.new.pass) (view c.drop_with.new.pass)
    (subst (λ n. IsUnshared n (view c.share.new.pass) (view c.drop_with.new.pass)) s.0
    c.drop_with.ensures.given_up) s.1.sharing.page
    (readable-shared (Tied g.K.Kind.layout) c.args.guard.pid c.args.guard.word c.in-Ok.last.frame _ _ _ _ s.1 k few)

pub returns-in-Err-clause-sure : goal.returns-in-Err-clause-sure
returns-in-Err-clause-sure g c shares few k = c.in-Err.ensures.sure k.resident.alone (known-at _ _ _ k)
    (subst MayShare (sym k.known) (may-share (shares c.args.guard.pid) c.args.guard.word few k.free))

pub returns-in-Err-clause-known : goal.returns-in-Err-clause-known
returns-in-Err-clause-known g c shares few k =
    absurd (true≢false (sym
    (c.in-Err.ensures.sure k.resident.alone (known-at _ _ _ k)
    (subst MayShare (sym k.known) (may-share (shares c.args.guard.pid) c.args.guard.word few k.free)))))

pub returns-in-Ok-clause-steps : goal.returns-in-Ok-clause-steps
returns-in-Ok-clause-steps g c =
    shares-then _ _ _ (taken-shares (Tied g.K.Kind.layout) _ c.in-Ok.last.frame _ _ _ _ c.in-Ok.ensures.taken.1)
    (given-shares _ _ _ c.drop_with.ensures.given_up)

pub returns-in-Err-clause-steps : goal.returns-in-Err-clause-steps
returns-in-Err-clause-steps g c = denied-shares _ _ _ _ _ _ _ c.in-Err.ensures.denied

pub share-requires-clause-ready : goal.share-requires-clause-ready
share-requires-clause-ready g c = c.requires.ready

pub drop_with-requires-clause-ready : goal.drop_with-requires-clause-ready
drop_with-requires-clause-ready g c = c.share.ensures.goes.ready

pub returns-in-Ok-clause-goes : goal.returns-in-Ok-clause-goes
returns-in-Ok-clause-goes g c = goes-then c.share.ensures.goes c.drop_with.ensures.goes

pub returns-in-Ok-clause-err : goal.returns-in-Ok-clause-err
returns-in-Ok-clause-err g c = tt

pub returns-in-Ok-clause-sure : goal.returns-in-Ok-clause-sure
returns-in-Ok-clause-sure g c shares few k = refl

pub returns-in-Err-clause-goes : goal.returns-in-Err-clause-goes
returns-in-Err-clause-goes g c = c.share.ensures.goes

pub returns-in-Err-clause-ok : goal.returns-in-Err-clause-ok
returns-in-Err-clause-ok g c = tt

pub returns-in-Err-clause-err : goal.returns-in-Err-clause-err
returns-in-Err-clause-err g c = c.in-Err.ensures.denied
