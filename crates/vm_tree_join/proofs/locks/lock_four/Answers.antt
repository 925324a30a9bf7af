use Rattle.std.proofs.Common.{[], ◌∙◌, ◌∷◌, ◌≡◌, ◌≢◌, ap, false, inl, inr, None, subst, sym, ℕ}
use Rattle.vm_event.specs.Prelude.{Version}
use Rattle.vm_rule.specs.Prelude.{AreUnchanged, change_of, has}
use Rattle.vm_tree_split.specs.from_vm_step.Prelude.{IsClaimed, view}
use Rattle.vm_tree_split.specs.from_vm_guard.Guards.{IsHolding, IsReleased}
use Rattle.vm_tree_split.proofs.from_vm_guard.{Groups.lacks, Reading.reading-elsewhere}
use Rattle.vm_tree_split.proofs.from_vm_tree_draft.Splitting.{none-said}
use Rattle.vm_tree_split.proofs.{Refusing.denied-keeps, Settling.only-worn}
use Rattle.vm_tree_join.proofs.Locking.{free-past, holding-kept}
use Rattle.vm_tree_join.proofs.locks.lock_four.Goals as goal

pub returns-in-Err-clause-err : goal.returns-in-Err-clause-err
returns-in-Err-clause-err g c = let d = c.in-Err.ensures in (d.denied.kind, inl (record { denied = d.denied; last = d.unworn }))

pub lock_three-requires-clause-apart : goal.lock_three-requires-clause-apart
lock_three-requires-clause-apart g c = c.requires.apart.1

not-first : (a b c d : ℕ) → has a (b ∷ c ∷ d ∷ []) ≡ false → (a ≢ b) × (a ≢ c) × (a ≢ d)
not-first a b c d e = let one = lacks a b (c ∷ d ∷ []) e in let two = lacks a c (d ∷ []) one.1 in (one.0, two.0, (lacks a d [] two.1).0)

pub lock_three-requires-clause-first : goal.lock_three-requires-clause-first
lock_three-requires-clause-first g c =
    let l = c.in-Ok.ensures.taken.2 in
    reading-elsewhere c.args.second.pid c.args.second.word c.args.second.frame c.args.first.pid l.done
    (view c.args.pass.now) (view c.upgrade.new.pass)
    (λ e. (not-first c.args.first.pid c.args.second.pid c.args.third.pid c.args.fourth.pid c.requires.apart.0).0
    (sym e)) l.elsewhere c.requires.second

pub lock_three-requires-clause-second : goal.lock_three-requires-clause-second
lock_three-requires-clause-second g c =
    let l = c.in-Ok.ensures.taken.2 in
    reading-elsewhere c.args.third.pid c.args.third.word c.args.third.frame c.args.first.pid l.done
    (view c.args.pass.now) (view c.upgrade.new.pass)
    (λ e. (not-first c.args.first.pid c.args.second.pid c.args.third.pid c.args.fourth.pid c.requires.apart.0).1
    (sym e)) l.elsewhere c.requires.third

pub lock_three-requires-clause-third : goal.lock_three-requires-clause-third
lock_three-requires-clause-third g c =
    let l = c.in-Ok.ensures.taken.2 in
    reading-elsewhere c.args.fourth.pid c.args.fourth.word c.args.fourth.frame c.args.first.pid l.done
    (view c.args.pass.now) (view c.upgrade.new.pass)
    (λ e. (not-first c.args.first.pid c.args.second.pid c.args.third.pid c.args.fourth.pid c.requires.apart.0).2
    (sym e)) l.elsewhere c.requires.fourth

pub returns-in-Ok-lock_three-clause-ok : goal.returns-in-Ok-lock_three-clause-ok
returns-in-Ok-lock_three-clause-ok g c =
    let k = c.in-Ok.ensures.taken in (
      view c.upgrade.new.pass,
      record {
        page = k.0;
        version = k.1;
        locked = k.2;
      },
      c.in-Ok-lock_three.ensures.ok,
    )

pub release-requires-clause-holds : goal.release-requires-clause-holds
release-requires-clause-holds g c =
    let l = c.in-Ok.ensures.taken.2 in
    let held = c.in-Ok.held in
    let y = view c.lock_three.new.pass in
    let keeps = (denied-keeps g.K.Kind.layout (c.args.second ∷ c.args.third ∷ c.args.fourth ∷ [])
    c.in-Err-lock_three.deny (view c.upgrade.new.pass) y c.in-Err-lock_three.ensures.err.1).0 in
    subst (λ p. IsHolding p held.frame held.version held.dirty y) (sym c.in-Ok.ensures.taken.0)
    (holding-kept c.args.first.pid held.frame held.version held.dirty (view c.upgrade.new.pass) y keeps.start
    (keeps.holds c.args.first.pid) (keeps.knows c.args.first.pid) keeps.pending l.holding)

pub release-requires-clause-claimed : goal.release-requires-clause-claimed
release-requires-clause-claimed g c tells =
    let l = c.in-Ok.ensures.taken.2 in
    let y = view c.lock_three.new.pass in
    let keeps = (denied-keeps g.K.Kind.layout (c.args.second ∷ c.args.third ∷ c.args.fourth ∷ [])
    c.in-Err-lock_three.deny (view c.upgrade.new.pass) y c.in-Err-lock_three.ensures.err.1).0 in
    let n = keeps.knows c.args.first.pid (inl l.holding.owns) in
    subst (IsClaimed y) (sym c.in-Ok.ensures.taken.0) (inl (n.draft ∙ l.draft ∙ sym (ap (λ (t : Version). t.words) n.last)))

pub release-requires-clause-owner : goal.release-requires-clause-owner
release-requires-clause-owner g c =
    let k = c.in-Ok.ensures.taken in
    let l = k.2 in
    let y = view c.lock_three.new.pass in
    let keeps = (denied-keeps g.K.Kind.layout (c.args.second ∷ c.args.third ∷ c.args.fourth ∷ [])
    c.in-Err-lock_three.deny (view c.upgrade.new.pass) y c.in-Err-lock_three.ensures.err.1).0 in
    let n = keeps.knows c.args.first.pid (inl l.holding.owns) in
    λ tells.
    inl (
      none-said _ c.as_ref.result c.as_ref.ensures.variant,
      subst (λ p. AreUnchanged y.owed (change_of y p ∷ [])) (sym k.0) (
        n.draft ∙ l.draft ∙ sym (ap (λ (t : Version). t.words) n.last),
        ap (has c.args.first.pid)
            (keeps.owed ∙ l.group.1) ∙ l.before.paid,
        tt,
      ),
    )

pub returns-in-Err-lock_three-clause-err : goal.returns-in-Err-lock_three-clause-err
returns-in-Err-lock_three-clause-err g c =
    let k = c.in-Ok.ensures.taken in
    let held = c.in-Ok.held in
    let e = c.in-Err-lock_three.ensures.err in
    let y = view c.lock_three.new.pass in
    let w = view c.release.new.pass in
    let r = subst (λ said. IsReleased held.pid held.version said y w)
    (none-said _ c.as_ref.result c.as_ref.ensures.variant) c.release.ensures.released in
    let back = subst (λ p. IsReleased p held.version None y w) k.0 r in (
      e.0,
      inr (record {
        frame = held.frame;
        version = held.version;
        dirty = held.dirty;
        locked = view c.upgrade.new.pass;
        done = y;
        version_is = k.1;
        taken = k.2;
        inner = e.1;
        back = back;
      }),
    )

pub returns-in-Err-clause-sure : goal.returns-in-Err-clause-sure
returns-in-Err-clause-sure g c k =
    let d = c.in-Err.ensures in only-worn c.args.first.pid c.args.first.word c.in-Err.deny (view c.args.pass.now)
    d.denied.kind k.alone k.each.0.0 k.each.0.1 d.worn d.sure

pub returns-in-Err-lock_three-clause-sure : goal.returns-in-Err-lock_three-clause-sure
returns-in-Err-lock_three-clause-sure g c k =
    let t = c.in-Ok.ensures.taken in
    c.in-Err-lock_three.ensures.sure
    (free-past g.K.Kind.layout c.args.first c.in-Ok.held (c.args.second ∷ c.args.third ∷ c.args.fourth ∷ [])
    (view c.args.pass.now) (view c.upgrade.new.pass) c.requires.apart.0 (record {
      page = t.0;
      version = t.1;
      locked = t.2;
    }) k)
