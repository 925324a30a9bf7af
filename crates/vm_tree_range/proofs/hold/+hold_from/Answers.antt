-- A leaf is read and held behind those that are held; at the last one all of them prove the reply.
use Rattle.std.proofs.Common.{rules, ◌<◌, ◌++◌, ◌∷◌, ◌∙◌, [], arith, inr, length-append, refl, subst, sym, true≢false}
use Rattle.vm_step.proofs.Going.{goes-then}
use Rattle.vm_event.specs.Prelude.{MayShare}
use Rattle.vm_map.specs.History.{bound_of}
use Rattle.vm_tree_read.specs.from_vm_guard.Guards.{IsUnshared}
use Rattle.vm_step.specs.Prelude.{Origin, view}
use Rattle.vm_tree_laws.specs.Tied.{Tied}
use Rattle.vm_tree_read.proofs.from_vm_tree_rule.{Onward.loaded-more, Surely.known-at, Surely.known-same, Whole.tree-size}
use Rattle.vm_tree_read.proofs.from_vm_tree_rule.Readings.{loads-reads, opened-loads, reads-then}
use Rattle.vm_tree_range.specs.Ranges.{HoldsLeaves, TellRange}
use Rattle.vm_tree_range.proofs.Holding.{may-unshare, reads-on, sharing-on}
use Rattle.vm_tree_range.proofs.Ranging.{denied-tried, done-as, done-behind, gathered-on, held-more, held-on}
use Rattle.vm_tree_range.proofs.Ranging.{held-past, leaf-more, room-less, room-one, tells-many, tells-wide}
use Rattle.vm_tree_range.proofs.Ranging.{tried-around, tried-on, turned-tried}
use Rattle.vm_tree_range.proofs.Readable.{few-enough, may-share, readable-shared, readable-unshared, share-left}
use Rattle.vm_tree_range.proofs.ShareSteps.{denied-shares, given-shares, leaf-shares, shares-then, taken-shares, turned-shares}
use Rattle.vm_tree_range.proofs.hold.+hold_from.Goals as goal

pub returns-in-Err-clause-tried : goal.returns-in-Err-clause-tried
returns-in-Err-clause-tried t g c =
    turned-tried t.K.Kind.plain t.K.Kind.layout _ _ _ _ _ _ _ _ c.requires.way c.in-Err.ensures.err c.of_turn.ensures

pub gather_in_place-high-requires-clause-room : goal.gather_in_place-high-requires-clause-room
gather_in_place-high-requires-clause-room t g c = room-one _ _ _ c.requires.some c.requires.room

pub gather_in_place-high-requires-clause-reading : goal.gather_in_place-high-requires-clause-reading
gather_in_place-high-requires-clause-reading t g c = c.in-Ok.ensures.reads.1.reading

-- ---- the last leaf

pub share_with_all-requires-clause-proves : goal.share_with_all-requires-clause-proves
share_with_all-requires-clause-proves t g c =
    let leaf = c.in-Ok.ensures.leaf in
    let f = c.gather_in_place-high.ensures.found in
    let on = reads-on _ _ (reads-then _ _ _ c.in-Ok.ensures.reads.0 (loads-reads _ _ _ _ _ _ f.loads)) in
    let h = c.requires.held in (
      h.0,
      omega (arith, h.1, c.requires.some),
      t.K.Kind.rank c.args.from.now,
      leaf.0 ++ f.loaded,
      held-on t.K.Kind.layout h.0 _ _ _ _ on h.2,
      loaded-more _ _ _ leaf.0 f.loaded _ _ leaf.1 f.loads,
      tells-many t.K.Kind.layout h.0 (t.K.Kind.rank c.args.low.now) (t.K.Kind.rank c.args.from.now) c.args.bound
          c.args.out.now.0 c.gather_in_place-high.new.out.0 c.gather_in_place-high.result leaf.0 f.loaded
          (view c.gather_in_place-high.new.pass) (held-on t.K.Kind.layout h.0 _ _ _ _ on h.2)
          (gathered-on t.K.Kind.layout h.0 (t.K.Kind.rank c.args.low.now) (t.K.Kind.rank c.args.from.now) c.args.bound
          c.args.out.now.0 _ _ on h.2 h.3) leaf.2 f.tells c.gather_in_place-high.new.out refl
          (rw c.in_default.is at c.reach_below.ensures),
    )

pub returns-in-Ok-share_with_all-clause-tried : goal.returns-in-Ok-share_with_all-clause-tried
returns-in-Ok-share_with_all-clause-tried t g c =
    let f = c.gather_in_place-high.ensures.found in (
      done-behind t.K.Kind.plain t.K.Kind.layout _ _ _ _
          (reads-then _ _ _ c.in-Ok.ensures.reads.0 (loads-reads _ _ _ _ _ _ f.loads))
          c.in-Ok-share_with_all.ensures.ok,
      c.len.ensures,
    )

pub returns-in-Err-share_with_all-clause-tried : goal.returns-in-Err-share_with_all-clause-tried
returns-in-Err-share_with_all-clause-tried t g c =
    let leaf = c.in-Ok.ensures.leaf in
    let f = c.gather_in_place-high.ensures.found in
    denied-tried t.K.Kind.plain t.K.Kind.layout _ _ _ _ _ _ _ _ _
    (reads-then _ _ _ c.in-Ok.ensures.reads.0 (loads-reads _ _ _ _ _ _ f.loads))
    (opened-loads _ _ _ _ _ _ _ c.in-Ok.ensures.reads.1 f.loads) _ (leaf.0 ++ f.loaded) c.requires.way
    (loaded-more _ _ _ leaf.0 f.loaded _ _ leaf.1 f.loads) (leaf-more t.K.Kind.layout leaf.0 f.loaded _ leaf.2) _ _
    c.in-Err-share_with_all.ensures.err c.of_denied.ensures

-- ---- as many as can be held

pub share_last-requires-clause-proves : goal.share_last-requires-clause-proves
share_last-requires-clause-proves t g c =
    let leaf = c.in-Ok.ensures.leaf in
    let f = c.gather_in_place-high.ensures.found in
    let on = reads-on _ _ (reads-then _ _ _ c.in-Ok.ensures.reads.0 (loads-reads _ _ _ _ _ _ f.loads)) in
    let h = c.requires.held in (
      h.0,
      omega (arith, h.1, c.requires.some),
      t.K.Kind.rank c.args.low.now,
      t.K.Kind.rank c.args.from.now,
      leaf.0 ++ f.loaded,
      held-on t.K.Kind.layout h.0 _ _ _ _ on h.2,
      loaded-more _ _ _ leaf.0 f.loaded _ _ leaf.1 f.loads,
      subst (λ s. TellRange t.K.Kind.layout h.0 (leaf.0 ++ f.loaded) s (view c.gather_in_place-high.new.pass)) (sym c.wide-said.ensures)
          (tells-wide t.K.Kind.layout h.0 (t.K.Kind.rank c.args.low.now) (t.K.Kind.rank c.args.from.now) c.args.bound
          c.args.out.now.0 c.gather_in_place-high.new.out.0 c.gather_in_place-high.result leaf.0 f.loaded
          (view c.gather_in_place-high.new.pass) (held-on t.K.Kind.layout h.0 _ _ _ _ on h.2)
          (gathered-on t.K.Kind.layout h.0 (t.K.Kind.rank c.args.low.now) (t.K.Kind.rank c.args.from.now)
          c.args.bound c.args.out.now.0 _ _ on h.2 h.3) leaf.2 f.tells _ (omega (arith, h.1, c.if-left-eq1.true))
          c.in-Some.ensures.0 c.in-Some.ensures.1 c.in-Some.ensures.2),
    )

pub returns-then-left-eq1-clause-tried : goal.returns-then-left-eq1-clause-tried
returns-then-left-eq1-clause-tried t g c =
    let f = c.gather_in_place-high.ensures.found in
    done-as t.K.Kind.plain t.K.Kind.layout _ _ _ _ c.wide-said.ensures
    (done-behind t.K.Kind.plain t.K.Kind.layout _ _ _ _
    (reads-then _ _ _ c.in-Ok.ensures.reads.0 (loads-reads _ _ _ _ _ _ f.loads)) c.in-Ok-share_last.ensures.ok)

pub returns-in-Err-share_last-clause-tried : goal.returns-in-Err-share_last-clause-tried
returns-in-Err-share_last-clause-tried t g c =
    let leaf = c.in-Ok.ensures.leaf in
    let f = c.gather_in_place-high.ensures.found in
    denied-tried t.K.Kind.plain t.K.Kind.layout _ _ _ _ _ _ _ _ _
    (reads-then _ _ _ c.in-Ok.ensures.reads.0 (loads-reads _ _ _ _ _ _ f.loads))
    (opened-loads _ _ _ _ _ _ _ c.in-Ok.ensures.reads.1 f.loads) _ (leaf.0 ++ f.loaded) c.requires.way
    (loaded-more _ _ _ leaf.0 f.loaded _ _ leaf.1 f.loads) (leaf-more t.K.Kind.layout leaf.0 f.loaded _ leaf.2) _ _
    c.in-Err-share_last.ensures.err c.of_denied-in-Err-share_last.ensures

-- ---- one leaf more

pub returns-in-Err-share_silently-clause-tried : goal.returns-in-Err-share_silently-clause-tried
returns-in-Err-share_silently-clause-tried t g c =
    let leaf = c.in-Ok.ensures.leaf in
    let f = c.gather_in_place-high.ensures.found in
    denied-tried t.K.Kind.plain t.K.Kind.layout _ _ _ _ _ _ _ _ _
    (reads-then _ _ _ c.in-Ok.ensures.reads.0 (loads-reads _ _ _ _ _ _ f.loads))
    (opened-loads _ _ _ _ _ _ _ c.in-Ok.ensures.reads.1 f.loads) _ (leaf.0 ++ f.loaded) c.requires.way
    (loaded-more _ _ _ leaf.0 f.loaded _ _ leaf.1 f.loads) (leaf-more t.K.Kind.layout leaf.0 f.loaded _ leaf.2) _ _
    c.in-Err-share_silently.ensures.denied c.of_denied-in-Err-share_silently.ensures

pub drop_with-requires-clause-shares : goal.drop_with-requires-clause-shares
drop_with-requires-clause-shares t g c =
    let s = c.in-Ok-share_silently.ensures.taken in
    rw s.0 (sharing-on (Tied t.K.Kind.layout) _ c.in-Ok-share_silently.shared.frame _ _ _ _ s.1 _
    (tried-on t.K.Kind.plain t.K.Kind.layout _ _ _ _ _ _ c.hold_from-answer.ensures.tried))

pub drop_with-requires-clause-legal : goal.drop_with-requires-clause-legal
drop_with-requires-clause-legal t g c =
    let s = c.in-Ok-share_silently.ensures.taken in
    let f = c.gather_in_place-high.ensures.found in
    let on = reads-on _ _ (reads-then _ _ _ c.in-Ok.ensures.reads.0 (loads-reads _ _ _ _ _ _ f.loads)) in
    rw s.0 (may-unshare (Tied t.K.Kind.layout) _ c.in-Ok-share_silently.shared.frame _ _ _ _ s.1 _
    (on.out ∙ c.requires.home)
    (tried-on t.K.Kind.plain t.K.Kind.layout _ _ _ _ _ _ c.hold_from-answer.ensures.tried))

pub returns-clause-tried : goal.returns-clause-tried
returns-clause-tried t g c =
    let s = c.in-Ok-share_silently.ensures.taken in
    let f = c.gather_in_place-high.ensures.found in
    tried-around t.K.Kind.plain t.K.Kind.layout _ _ _ _ c.in-Ok-share_silently.shared.frame _ _ _ _ _ _
    (reads-then _ _ _ c.in-Ok.ensures.reads.0 (loads-reads _ _ _ _ _ _ f.loads)) s.1
    (subst (λ n. IsUnshared n (view c.hold_from-answer.new.pass) (view c.drop_with.new.pass)) s.0
    c.drop_with.ensures.given_up) _ c.hold_from-answer.ensures.tried

pub hold_from-answer-requires : goal.hold_from-answer-requires
hold_from-answer-requires t g c κs within =
    let leaf = c.in-Ok.ensures.leaf in
    let f = c.gather_in_place-high.ensures.found in
    let on = reads-on _ _ (reads-then _ _ _ c.in-Ok.ensures.reads.0 (loads-reads _ _ _ _ _ _ f.loads)) in
    let h = c.requires.held in
    let s = c.in-Ok-share_silently.ensures.taken in
    let o = (opened-loads _ _ _ _ _ _ _ c.in-Ok.ensures.reads.1 f.loads) in
    let is = c.key_of-next.ensures ∙ c.in-Some.ensures.0 in
    let more = held-more t.K.Kind.layout h.0 (t.K.Kind.rank c.args.low.now) (t.K.Kind.rank c.args.from.now)
    c.args.bound c.args.out.now.0 c.gather_in_place-high.new.out.0 c.gather_in_place-high.result leaf.0 f.loaded
    (view c.gather_in_place-high.new.pass) (held-on t.K.Kind.layout h.0 _ _ _ _ on h.2)
    (gathered-on t.K.Kind.layout h.0 (t.K.Kind.rank c.args.low.now) (t.K.Kind.rank c.args.from.now) c.args.bound
    c.args.out.now.0 _ _ on h.2 h.3) leaf.2 f.tells
    c.in-Ok.guard.pid c.in-Ok.guard.word c.in-Ok.guard.frame c.in-Ok-share_silently.shared.frame (view c.share_silently.new.pass)
    (tree-size _ _ _ c.share_silently.ensures.goes.ready.table.is_shape.size c.args.words.now.sized.0
    c.args.words.now.size.takes) (loaded-more _ _ _ leaf.0 f.loaded _ _ leaf.1 f.loads) o.reading s.1 in (
      omega (arith, c.decreases, c.requires.some, c.if-left-eq1.false),
      (
        search rules,
        (
          search rules,
          (
            search rules,
            (
              search rules,
              (
                search rules,
                (
                  c.requires.pages,
                  (
                    s.1.elsewhere.steady.out ∙ on.out ∙ c.requires.home,
                    (
                      omega (arith, c.requires.some, c.if-left-eq1.false),
                      (
                        room-less _ _ _ _ c.requires.some c.requires.room c.gather_in_place-high.ensures.room,
                        (
                          inr (
                            subst (λ n. n < bound_of c.args.bound) (sym c.key_of-next.ensures) c.in-Some.ensures.1,
                            λ tells. subst (λ n. t.K.Kind.rank c.args.low.now < n) (sym is)
                                (held-past t.K.Kind.layout h.0 c.in-Ok.guard.pid _ _ (view c.share_silently.new.pass)
                                more.0 tells),
                          ),
                          (
                            h.0 ++ c.in-Ok.guard.pid ∷ [],
                            omega (arith, h.1, c.requires.some, c.if-left-eq1.false, length-append h.0 (c.in-Ok.guard.pid ∷ [])),
                            subst (λ n. HoldsLeaves t.K.Kind.layout (h.0 ++ c.in-Ok.guard.pid ∷ [])
                                (t.K.Kind.rank c.args.low.now) n (view c.share_silently.new.pass)) (sym is) more.0,
                            more.1,
                          ),
                        ),
                      ),
                    ),
                  ),
                ),
              ),
            ),
          ),
        ),
      ),
    )

-- ---- a pass that is alone

pub returns-in-Err-clause-sure : goal.returns-in-Err-clause-sure
returns-in-Err-clause-sure t g c shares tells few k = absurd (true≢false (sym (c.in-Err.ensures.sure_shared shares tells k)))

pub returns-in-Err-clause-known : goal.returns-in-Err-clause-known
returns-in-Err-clause-known t g c shares tells few k = absurd (true≢false (sym (c.in-Err.ensures.sure_shared shares tells k)))

pub returns-in-Ok-share_with_all-clause-known : goal.returns-in-Ok-share_with_all-clause-known
returns-in-Ok-share_with_all-clause-known t g c shares tells few k =
    let f = c.gather_in_place-high.ensures.found in
    c.share_with_all.ensures.known shares (few-enough _ _ (few c.in-Ok.guard.pid))
    (known-same _ _ _ _ (loads-reads _ _ _ _ _ _ f.loads).0 f.loads.table
    (c.in-Ok.ensures.known_shared shares tells k))

pub returns-in-Err-share_with_all-clause-sure : goal.returns-in-Err-share_with_all-clause-sure
returns-in-Err-share_with_all-clause-sure t g c shares tells few k =
    let f = c.gather_in_place-high.ensures.found in
    absurd (true≢false (sym (c.in-Err-share_with_all.ensures.sure shares (few-enough _ _ (few c.in-Ok.guard.pid))
    (known-same _ _ _ _ (loads-reads _ _ _ _ _ _ f.loads).0 f.loads.table
    (c.in-Ok.ensures.known_shared shares tells k)))))

pub returns-in-Err-share_with_all-clause-known : goal.returns-in-Err-share_with_all-clause-known
returns-in-Err-share_with_all-clause-known t g c shares tells few k =
    let f = c.gather_in_place-high.ensures.found in
    c.share_with_all.ensures.known shares (few-enough _ _ (few c.in-Ok.guard.pid))
    (known-same _ _ _ _ (loads-reads _ _ _ _ _ _ f.loads).0 f.loads.table
    (c.in-Ok.ensures.known_shared shares tells k))

pub returns-then-left-eq1-clause-known : goal.returns-then-left-eq1-clause-known
returns-then-left-eq1-clause-known t g c shares tells few k =
    let f = c.gather_in_place-high.ensures.found in
    c.share_last.ensures.known shares (few-enough _ _ (few c.in-Ok.guard.pid))
    (known-same _ _ _ _ (loads-reads _ _ _ _ _ _ f.loads).0 f.loads.table
    (c.in-Ok.ensures.known_shared shares tells k))

pub returns-in-Err-share_last-clause-sure : goal.returns-in-Err-share_last-clause-sure
returns-in-Err-share_last-clause-sure t g c shares tells few k =
    let f = c.gather_in_place-high.ensures.found in
    absurd (true≢false (sym (c.in-Err-share_last.ensures.sure shares (few-enough _ _ (few c.in-Ok.guard.pid))
    (known-same _ _ _ _ (loads-reads _ _ _ _ _ _ f.loads).0 f.loads.table
    (c.in-Ok.ensures.known_shared shares tells k)))))

pub returns-in-Err-share_last-clause-known : goal.returns-in-Err-share_last-clause-known
returns-in-Err-share_last-clause-known t g c shares tells few k =
    let f = c.gather_in_place-high.ensures.found in
    c.share_last.ensures.known shares (few-enough _ _ (few c.in-Ok.guard.pid))
    (known-same _ _ _ _ (loads-reads _ _ _ _ _ _ f.loads).0 f.loads.table
    (c.in-Ok.ensures.known_shared shares tells k))

pub returns-in-Err-share_silently-clause-sure : goal.returns-in-Err-share_silently-clause-sure
returns-in-Err-share_silently-clause-sure t g c shares tells few k =
    let f = c.gather_in_place-high.ensures.found in
    let r = (known-same _ _ _ _ (loads-reads _ _ _ _ _ _ f.loads).0 f.loads.table (c.in-Ok.ensures.known_shared shares tells k)) in
    absurd (true≢false (sym
    (c.in-Err-share_silently.ensures.sure r.resident.alone (known-at _ _ _ r)
    (subst MayShare (sym r.known)
    (may-share (shares c.in-Ok.guard.pid) c.in-Ok.guard.word (few-enough _ _ (few c.in-Ok.guard.pid)) r.free)))))

pub returns-in-Err-share_silently-clause-known : goal.returns-in-Err-share_silently-clause-known
returns-in-Err-share_silently-clause-known t g c shares tells few k =
    let f = c.gather_in_place-high.ensures.found in
    let r = (known-same _ _ _ _ (loads-reads _ _ _ _ _ _ f.loads).0 f.loads.table (c.in-Ok.ensures.known_shared shares tells k)) in
    absurd (true≢false (sym
    (c.in-Err-share_silently.ensures.sure r.resident.alone (known-at _ _ _ r)
    (subst MayShare (sym r.known)
    (may-share (shares c.in-Ok.guard.pid) c.in-Ok.guard.word (few-enough _ _ (few c.in-Ok.guard.pid)) r.free)))))

pub returns-clause-sure : goal.returns-clause-sure
returns-clause-sure t g c shares tells few k =
    let f = c.gather_in_place-high.ensures.found in
    c.hold_from-answer.ensures.sure _ tells (share-left shares c.in-Ok.guard.pid c.args.left c.requires.some few)
    (readable-shared (Tied t.K.Kind.layout) c.in-Ok.guard.pid c.in-Ok.guard.word c.in-Ok-share_silently.shared.frame _
    _ _ _ c.in-Ok-share_silently.ensures.taken.1
    (known-same _ _ _ _ (loads-reads _ _ _ _ _ _ f.loads).0 f.loads.table
    (c.in-Ok.ensures.known_shared shares tells k)) (few-enough _ _ (few c.in-Ok.guard.pid)))

pub returns-clause-known : goal.returns-clause-known
returns-clause-known t g c shares tells few k =
    let f = c.gather_in_place-high.ensures.found in
    let s = c.in-Ok-share_silently.ensures.taken in
    let on = tried-on t.K.Kind.plain t.K.Kind.layout _ _ _ _ _ _ c.hold_from-answer.ensures.tried in
    readable-unshared c.in-Ok.guard.pid (view c.hold_from-answer.new.pass) (view c.drop_with.new.pass)
    (subst (λ n. IsUnshared n (view c.hold_from-answer.new.pass) (view c.drop_with.new.pass)) s.0
    c.drop_with.ensures.given_up)
    (subst (λ (o : Origin). c.in-Ok.guard.pid < o.pages) (sym on.start) s.1.sharing.page)
    (c.hold_from-answer.ensures.known _ tells (share-left shares c.in-Ok.guard.pid c.args.left c.requires.some few)
    (readable-shared (Tied t.K.Kind.layout) c.in-Ok.guard.pid c.in-Ok.guard.word c.in-Ok-share_silently.shared.frame _
    _ _ _ s.1 (known-same _ _ _ _ (loads-reads _ _ _ _ _ _ f.loads).0 f.loads.table
    (c.in-Ok.ensures.known_shared shares tells k)) (few-enough _ _ (few c.in-Ok.guard.pid))))

-- ---- steps

pub returns-in-Err-clause-steps : goal.returns-in-Err-clause-steps
returns-in-Err-clause-steps t g c = turned-shares _ _ _ _ _ c.in-Err.ensures.err

pub returns-in-Ok-share_with_all-clause-steps : goal.returns-in-Ok-share_with_all-clause-steps
returns-in-Ok-share_with_all-clause-steps t g c =
    shares-then _ _ _ (leaf-shares _ _ _ _ _ _ _ c.in-Ok.ensures.reads.0 c.gather_in_place-high.ensures.found.loads)
    c.share_with_all.ensures.steps

pub returns-in-Err-share_with_all-clause-steps : goal.returns-in-Err-share_with_all-clause-steps
returns-in-Err-share_with_all-clause-steps t g c =
    shares-then _ _ _ (leaf-shares _ _ _ _ _ _ _ c.in-Ok.ensures.reads.0 c.gather_in_place-high.ensures.found.loads)
    c.share_with_all.ensures.steps

pub returns-then-left-eq1-clause-steps : goal.returns-then-left-eq1-clause-steps
returns-then-left-eq1-clause-steps t g c =
    shares-then _ _ _ (leaf-shares _ _ _ _ _ _ _ c.in-Ok.ensures.reads.0 c.gather_in_place-high.ensures.found.loads)
    c.share_last.ensures.steps

pub returns-in-Err-share_last-clause-steps : goal.returns-in-Err-share_last-clause-steps
returns-in-Err-share_last-clause-steps t g c =
    shares-then _ _ _ (leaf-shares _ _ _ _ _ _ _ c.in-Ok.ensures.reads.0 c.gather_in_place-high.ensures.found.loads)
    c.share_last.ensures.steps

pub returns-in-Err-share_silently-clause-steps : goal.returns-in-Err-share_silently-clause-steps
returns-in-Err-share_silently-clause-steps t g c =
    shares-then _ _ _ (leaf-shares _ _ _ _ _ _ _ c.in-Ok.ensures.reads.0 c.gather_in_place-high.ensures.found.loads)
    (denied-shares _ _ _ _ _ _ _ c.in-Err-share_silently.ensures.denied)

pub returns-clause-steps : goal.returns-clause-steps
returns-clause-steps t g c =
    let s = c.in-Ok-share_silently.ensures.taken in
    let held = shares-then _ _ _
    (leaf-shares _ _ _ _ _ _ _ c.in-Ok.ensures.reads.0 c.gather_in_place-high.ensures.found.loads)
    (taken-shares (Tied t.K.Kind.layout) _ c.in-Ok-share_silently.shared.frame _ _ _ _ s.1) in
    shares-then _ _ _ (shares-then _ _ _ held c.hold_from-answer.ensures.steps) (given-shares _ _ _ c.drop_with.ensures.given_up)

pub leaf_at-requires-clause-ready : goal.leaf_at-requires-clause-ready
leaf_at-requires-clause-ready t g c = c.requires.ready

pub leaf_at-requires-clause-pages : goal.leaf_at-requires-clause-pages
leaf_at-requires-clause-pages t g c = c.requires.pages

pub gather_in_place-high-requires-clause-ready : goal.gather_in_place-high-requires-clause-ready
gather_in_place-high-requires-clause-ready t g c = c.leaf_at.ensures.goes.ready

pub share_with_all-requires-clause-ready : goal.share_with_all-requires-clause-ready
share_with_all-requires-clause-ready t g c = c.gather_in_place-high.ensures.goes.ready

pub share_with_all-requires-clause-reading : goal.share_with_all-requires-clause-reading
share_with_all-requires-clause-reading t g c = c.gather_in_place-high.ensures.found.loads.reads

pub share_with_all-requires-clause-home : goal.share_with_all-requires-clause-home
share_with_all-requires-clause-home t g c =
    let f = c.gather_in_place-high.ensures.found in
    (reads-on _ _ (reads-then _ _ _ c.in-Ok.ensures.reads.0 (loads-reads _ _ _ _ _ _ f.loads))).out ∙ c.requires.home

pub share_last-requires-clause-ready : goal.share_last-requires-clause-ready
share_last-requires-clause-ready t g c = c.gather_in_place-high.ensures.goes.ready

pub share_last-requires-clause-reading : goal.share_last-requires-clause-reading
share_last-requires-clause-reading t g c = c.gather_in_place-high.ensures.found.loads.reads

pub share_last-requires-clause-home : goal.share_last-requires-clause-home
share_last-requires-clause-home t g c =
    let f = c.gather_in_place-high.ensures.found in
    (reads-on _ _ (reads-then _ _ _ c.in-Ok.ensures.reads.0 (loads-reads _ _ _ _ _ _ f.loads))).out ∙ c.requires.home

pub returns-in-Err-clause-goes : goal.returns-in-Err-clause-goes
returns-in-Err-clause-goes t g c = c.leaf_at.ensures.goes

pub returns-in-Err-clause-kept : goal.returns-in-Err-clause-kept
returns-in-Err-clause-kept t g c = refl

pub returns-in-Ok-share_with_all-clause-goes : goal.returns-in-Ok-share_with_all-clause-goes
returns-in-Ok-share_with_all-clause-goes t g c = goes-then c.leaf_at.ensures.goes (goes-then c.gather_in_place-high.ensures.goes c.share_with_all.ensures.goes)

pub returns-in-Err-share_with_all-clause-goes : goal.returns-in-Err-share_with_all-clause-goes
returns-in-Err-share_with_all-clause-goes t g c = goes-then c.leaf_at.ensures.goes (goes-then c.gather_in_place-high.ensures.goes c.share_with_all.ensures.goes)

pub returns-then-left-eq1-clause-goes : goal.returns-then-left-eq1-clause-goes
returns-then-left-eq1-clause-goes t g c = goes-then c.leaf_at.ensures.goes (goes-then c.gather_in_place-high.ensures.goes c.share_last.ensures.goes)

pub returns-then-left-eq1-clause-kept : goal.returns-then-left-eq1-clause-kept
returns-then-left-eq1-clause-kept t g c = c.gather_in_place-high.ensures.kept

pub returns-in-Err-share_last-clause-goes : goal.returns-in-Err-share_last-clause-goes
returns-in-Err-share_last-clause-goes t g c = goes-then c.leaf_at.ensures.goes (goes-then c.gather_in_place-high.ensures.goes c.share_last.ensures.goes)

pub returns-in-Err-share_last-clause-kept : goal.returns-in-Err-share_last-clause-kept
returns-in-Err-share_last-clause-kept t g c = c.gather_in_place-high.ensures.kept

pub returns-in-Err-share_silently-clause-goes : goal.returns-in-Err-share_silently-clause-goes
returns-in-Err-share_silently-clause-goes t g c = goes-then c.leaf_at.ensures.goes (goes-then c.gather_in_place-high.ensures.goes c.share_silently.ensures.goes)

pub returns-in-Err-share_silently-clause-kept : goal.returns-in-Err-share_silently-clause-kept
returns-in-Err-share_silently-clause-kept t g c = c.gather_in_place-high.ensures.kept

pub returns-in-Ok-share_with_all-clause-sure : goal.returns-in-Ok-share_with_all-clause-sure
returns-in-Ok-share_with_all-clause-sure t g c shares tells few k = tt

pub returns-then-left-eq1-clause-sure : goal.returns-then-left-eq1-clause-sure
returns-then-left-eq1-clause-sure t g c shares tells few k = tt

pub share_silently-requires-clause-ready : goal.share_silently-requires-clause-ready
share_silently-requires-clause-ready t g c = c.gather_in_place-high.ensures.goes.ready

pub drop_with-requires-clause-ready : goal.drop_with-requires-clause-ready
drop_with-requires-clause-ready t g c = c.hold_from-answer.ensures.goes.ready

pub returns-clause-goes : goal.returns-clause-goes
returns-clause-goes t g c =
    goes-then c.leaf_at.ensures.goes (goes-then c.gather_in_place-high.ensures.goes
    (goes-then c.share_silently.ensures.goes (goes-then c.hold_from-answer.ensures.goes c.drop_with.ensures.goes)))

pub returns-clause-kept : goal.returns-clause-kept
returns-clause-kept t g c = c.hold_from-answer.ensures.kept ∙ c.gather_in_place-high.ensures.kept
