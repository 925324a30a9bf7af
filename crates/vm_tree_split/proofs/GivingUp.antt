-- Two pages that were locked are given up, since no fresh pages were given: the pass holds what it held.
use Rattle.std.proofs.Common.{◌++◌, ◌∙◌, ◌≡◌, ◌≢◌, ap, false, inl, List, None, refl, subst, sym, ℕ}
use Rattle.vm_tree_model.specs.Layout.{Layout}
use Rattle.vm_event.specs.Prelude.{Version}
use Rattle.vm_rule.specs.Prelude.{draft_of, has, last_of}
use Rattle.vm_step.specs.Prelude.{AreHeld, View}
use Rattle.vm_tree_read.proofs.from_vm_exmap.Handing.{held-on, held-swap}
use Rattle.vm_tree_read.specs.from_vm_guard.{declared_exclusive_ExclusiveGuard.ExclusiveGuard, declared_opt_OptGuard.OptGuard}
use Rattle.vm_tree_read.specs.from_vm_guard.{Guards.IsHolding, Guards.IsReleased}
use Rattle.vm_tree_read.specs.Waiting.{LosesNone}
use Rattle.vm_tree_read.proofs.Losing.{loses-swap}
use Rattle.vm_tree_draft.specs.Splits.{HasDraft, KeepsLocksOnly}
use Rattle.vm_tree_split.specs.Prepares.{AreLocked, GivesUpBoth}
use Rattle.vm_tree_draft.proofs.Framing.{keeps-then, moves-keep}
use Rattle.vm_tree_split.proofs.Under.{draft-else, holding-else}
use Rattle.vm_tree_split.proofs.Refusing.{back-keeps, holding-none, IsNone, none-keeps}

-- the pass keeps both, each with its last words as its draft
pub record AreKept {X : Type 0} (up low : ExclusiveGuard) (w : View X) : Type 0 where
  pub held : IsHolding up.pid up.frame up.version up.dirty w × IsHolding low.pid low.frame low.version low.dirty w
  pub same : (draft_of w up.pid ≡ (last_of w up.pid).words) × (draft_of w low.pid ≡ (last_of w low.pid).words)
  pub unpaid : (has up.pid w.owed ≡ false) × (has low.pid w.owed ≡ false)

module _ {X : Type 0} {L : Layout} {a b : OptGuard} {up low : ExclusiveGuard} {v w : View X}
    (l : AreLocked L a b up low v w) (apart : b.pid ≢ a.pid) where
  up-draft : HasDraft a.pid (last_of l.between a.pid).words (last_of l.between a.pid).words w
  up-draft =
      draft-else a.pid b.pid l.low_locked.done _ _ l.between w (λ e. apart (sym e)) l.up_locked.holding.owns
      (record { last = refl; draft = l.up_locked.draft }) l.low_locked.elsewhere

  pub locks-kept : AreKept up low w
  locks-kept = record {
    held = (
      subst (λ p. IsHolding p up.frame up.version up.dirty w) (sym l.up_page)
          (holding-else a.pid up.frame up.version up.dirty b.pid l.low_locked.done l.between w (λ e. apart (sym e))
          l.low_locked.group.0 l.up_locked.holding l.low_locked.elsewhere),
      subst (λ p. IsHolding p low.frame low.version low.dirty w) (sym l.low_page) l.low_locked.holding,
    );
    same = (
      subst (λ p. draft_of w p ≡ (last_of w p).words) (sym l.up_page) (up-draft.draft ∙ sym up-draft.last),
      subst (λ p. draft_of w p ≡ (last_of w p).words) (sym l.low_page) l.low_locked.draft,
    );
    unpaid = (
      subst (λ p. has p w.owed ≡ false) (sym l.up_page) (ap (has a.pid) (l.low_locked.group.1 ∙ l.up_locked.group.1)
          ∙ l.up_locked.before.paid),
      subst (λ p. has p w.owed ≡ false) (sym l.low_page) (ap (has b.pid) l.low_locked.group.1 ∙ l.low_locked.before.paid),
    );
  }

  pub locks-start : w.start ≡ v.start
  locks-start = l.low_locked.elsewhere.steady.start ∙ l.up_locked.elsewhere.steady.start

  pub locks-frames : w.frames ≡ v.frames
  locks-frames = l.low_locked.elsewhere.steady.frames.0 ∙ l.up_locked.elsewhere.steady.frames.0

  pub locks-out : w.out ≡ v.out
  locks-out = l.low_locked.elsewhere.steady.out ∙ l.up_locked.elsewhere.steady.out

  module _ {before after : List ℕ} {y : View X} (none : IsNone before after w y) where
    pub none-kept : AreKept up low y
    none-kept =
        let k = locks-kept in
        let ku = none.knows up.pid (inl k.held.0.owns) in
        let kl = none.knows low.pid (inl k.held.1.owns) in
        record {
          held = (
            holding-none up.pid up.frame up.version up.dirty before after w y k.held.0 none,
            holding-none low.pid low.frame low.version low.dirty before after w y k.held.1 none,
          );
          same = (
            ku.draft ∙ k.same.0 ∙ sym (ap (λ (t : Version). t.words) ku.last),
            kl.draft ∙ k.same.1
                ∙ sym (ap (λ (t : Version). t.words) kl.last),
          );
          unpaid = (ap (has up.pid) none.owed ∙ k.unpaid.0, ap (has low.pid) none.owed ∙ k.unpaid.1);
        }

    pub none-out : y.out ≡ v.out
    none-out = none.amid.out ∙ locks-out

    pub none-frames : (own : List ℕ) → AreHeld (before ++ own) v → AreHeld (own ++ after) y
    none-frames own h =
        subst (λ (m : List ℕ). AreHeld (own ++ m) y) (sym none.same)
        (held-on (own ++ before) v y (held-swap before own v h) (none.amid.start ∙ locks-start) (none.keeps.frames ∙ locks-frames))

    pub none-lost : (own : List ℕ) → LosesNone (before ++ own) v (own ++ after) y
    none-lost own = subst (λ (m : List ℕ). LosesNone (before ++ own) v (own ++ m) y) (sym none.same)
        (loses-swap before own v y (none.keeps.frames ∙ locks-frames))

    pub none-ended : (u z : View X) → KeepsLocksOnly u v → GivesUpBoth up low y z → KeepsLocksOnly u z
    none-ended u z k g =
        let nil = none-keeps before after w y none in
        let low-back = subst (λ p. IsReleased p low.version None y g.between) l.low_page g.low_back in
        let up-back = subst (λ p. IsReleased p up.version None g.between g.released) l.up_page g.up_back in
        let one = back-keeps b.pid low.frame low.version low.dirty l.between w y g.between l.low_locked nil low-back in
        let two = back-keeps a.pid up.frame up.version up.dirty v l.between g.between g.released l.up_locked one up-back in
        let moved = moves-keep g.done g.released z g.moves in
        keeps-then u v z k (keeps-then v g.released z two moved)
