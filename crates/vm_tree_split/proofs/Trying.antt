-- The answer of a try of a split has its cause.
use Rattle.std.proofs.Common.{[], ⊎_elim, ◌∙◌, ◌≡◌, ◌≢◌, ap, inl, inr, List, None, subst, sym, ℕ}
use Rattle.vm_map.specs.declared.call.Said.{Said}
use Rattle.vm_tree_model.specs.Layout.{Layout}
use Rattle.vm_rule.specs.Prelude.{StartsWith}
use Rattle.vm_rule.proofs.Entries.{append-none}
use Rattle.vm_step.specs.Prelude.{NoneExpected, View}
use Rattle.vm_step.specs.declared.saw.Saw.{Saw}
use Rattle.vm_step.proofs.Asides.{starts-then}
use Rattle.vm_tree_read.specs.from_vm_exmap.declared_interface_Alloc.{Alloc}
use Rattle.vm_tree_read.specs.from_vm_exmap.declared_interface_Alloc_TheVariants as allocs
use Rattle.vm_tree_read.specs.from_vm_guard.{declared_deny_Deny.Deny, declared_given_Fresh.Fresh, declared_opt_OptGuard.OptGuard, Guards.IsValid}
use Rattle.vm_tree_read.specs.from_vm_guard.declared_deny_Deny_TheVariants as denies
use Rattle.vm_tree_read.specs.from_vm_guard.declared_given_Fresh_TheVariants as freshes
use Rattle.vm_tree_read.specs.from_vm_guard.Denied.{AgainOrNeed, IsDenied, KeptWord}
use Rattle.vm_tree_laws.specs.Tied.{Tied}
use Rattle.vm_tree_read.specs.from_vm_tree_rule.{declared_turn_Turn.Turn, Leaves.ReadsOn, Standing.IsOpened, Turns.IsTurnedBack}
use Rattle.vm_tree_read.specs.from_vm_tree_rule.declared_turn_Turn_TheVariants as turns
use Rattle.vm_tree_read.specs.from_vm_tree_rule.Seeks.{IsFullBelow, IsRoomy, IsRootFull}
use Rattle.vm_tree_read.proofs.from_vm_tree_rule.Entering.{opened-reads}
use Rattle.vm_tree_read.proofs.from_vm_tree_rule.Readings.{denied-reads, reads-then, valid-reads}
use Rattle.vm_tree_draft.specs.Splits.{KeepsLocksOnly}
use Rattle.vm_tree_split.specs.{declared.tries.TrySplit.TrySplit, Tries.IsEnded.below, Tries.IsEnded.root}
use Rattle.vm_tree_split.specs.declared.tries.TrySplit.TheVariants as tries
use Rattle.vm_tree_split.specs.Prepares.{IsNotLocked, IsRefusedPages, IsShort, IsUntaken, SaysDenied, SaysRefused, SaysShort}
use Rattle.vm_tree_split.specs.Prepares.IsUntaken.{short, unclaimed, unlocked}
use Rattle.vm_tree_split.specs.Tries.{IsBackedBy, IsCause, IsEnded, IsEndOf, IsTrySplit, IsUnsplit}
use Rattle.vm_tree_split.specs.Tries.IsUnsplit.{full, untaken}
use Rattle.vm_tree_split.proofs.Backing.{backed-lock, backed-pages, backed-short, backed-shown, shown-refused, shown-wider}
use Rattle.vm_tree_draft.proofs.{Framing.keeps-then, Numbering.worn-kept}
use Rattle.vm_tree_split.proofs.Roomy.{roomy-keeps, roomy-leaves}
use Rattle.vm_tree_split.proofs.{Seeing.OnlySees, Seeing.sees-room}

module _ {X : Type 0} where
  pub reads-keep : (v w : View X) → ReadsOn v w → KeepsLocksOnly v w
  reads-keep v w r = record {
    start = r.0.start;
    parts = r.0.parts;
    mine = r.1;
    seen = r.0.seen;
    releases = r.0.releases;
    notes = ([], r.0.notes ∙ sym (append-none v.notes));
    log = (r.0.done, r.0.log);
    out = r.0.out;
    pending = r.0.group.0;
    owed = r.0.group.1;
    numbers = worn-kept v w r.0.numbers;
    next = λ q e. inl (sym r.0.group.2 ∙ e);
    holds = r.0.holds;
    knows = r.0.knows;
    current = r.0.alone.current;
  }

  pub turn-reads : (L : Layout) (key : ℕ) (turn : Turn) (v w : View X) → IsTurnedBack L v key turn w → ReadsOn v w
  turn-reads L key (turns.Again saw) v w a = a.0
  turn-reads L key (turns.Need p) v w a = a.0
  turn-reads L key (turns.Damaged p) v w a = a.0

module _ {S : Type 0} (plain : S → Said) (L : Layout) (spare : List ℕ → ℕ) where
  pub turn-again : (key : ℕ) (saw : Saw) (v w : View S) → IsTurnedBack L v key (turns.Again saw) w
      → IsTrySplit plain L spare key (tries.Again saw) v w
  turn-again key saw v w a = (reads-keep v w a.0, (backed-shown saw v w (shown-wider saw v w a.1), inl a))

  pub turn-damaged : (key p : ℕ) (v w : View S) → IsTurnedBack L v key (turns.Damaged p) w
      → IsTrySplit plain L spare key (tries.Damaged p) v w
  turn-damaged key p v w a = (reads-keep v w a.0, a)

  pub turn-need : (key p : ℕ) (v w : View S) → IsTurnedBack L v key (turns.Need p) w → IsTrySplit plain L spare key (tries.Need p) v w
  turn-need key p v w a = (reads-keep v w a.0, a)

  -- a try by its answer
  pub tried-as : (key : ℕ) (answer other : TrySplit) (v w : View S) → answer ≡ other
      → IsTrySplit plain L spare key answer v w → IsTrySplit plain L spare key other v w
  tried-as key answer other v w same tried = subst (λ (a : TrySplit). IsTrySplit plain L spare key a v w) same tried

  -- ---- nothing is full

  pub roomy-valid : (key : ℕ) (leaf : OptGuard) (loaded : List (ℕ × ℕ)) (v x w : View S) → ReadsOn v x
      → IsRoomy L spare v key leaf loaded x → IsValid (Tied L) leaf.pid leaf.word leaf.frame None x w
      → IsTrySplit plain L spare key tries.Roomy v w
  roomy-valid key leaf loaded v x w r room valid = (
    reads-keep v w (reads-then v x w r (valid-reads (Tied L) leaf.pid leaf.word leaf.frame x w valid)),
    record { leaf = leaf; loaded = loaded; found = x; roomy = room; valid = valid },
  )

  pub roomy-lost : (key : ℕ) (leaf : OptGuard) (loaded : List (ℕ × ℕ)) (saw : Saw) (v x w : View S)
      → IsRoomy L spare v key leaf loaded x → IsDenied AgainOrNeed (KeptWord leaf.word) NoneExpected leaf.pid
      (denies.Again saw) x w → IsTrySplit plain L spare key (tries.Again saw) v w
  roomy-lost key leaf loaded saw v x w room d =
      turn-again key saw v w (
        reads-then v x w (opened-reads leaf.pid leaf.word leaf.frame v x room.opened)
            (denied-reads AgainOrNeed (KeptWord leaf.word) NoneExpected leaf.pid (denies.Again saw) x w d),
        shown-refused leaf.pid leaf.word leaf.frame saw v x w room.opened d,
      )

-- ---- a node is full

-- the answers that a full node has
data OfFull (answer : TrySplit) : Type 0 where
  was_split : answer ≡ tries.Split → OfFull answer
  was_again : (saw : Saw) → answer ≡ tries.Again saw → OfFull answer
  was_worn : (p : ℕ) → answer ≡ tries.Worn p → OfFull answer
  was_dry : answer ≡ tries.Dry → OfFull answer
  was_full : (pages next need : ℕ) → answer ≡ tries.Full pages next need → OfFull answer

of-short : (refused : Alloc) (answer : TrySplit) → SaysShort refused answer → OfFull answer
of-short (allocs.Batch batch) answer is = absurd is
of-short allocs.Dry answer is = OfFull.was_dry is
of-short (allocs.Again saw) answer is = OfFull.was_again saw is

of-denied : (deny : Deny) (answer : TrySplit) → SaysDenied deny answer → OfFull answer
of-denied (denies.Again saw) answer is = OfFull.was_again saw is
of-denied (denies.Need p) answer is = absurd is
of-denied (denies.Crowded p) answer is = absurd is
of-denied (denies.Worn p) answer is = OfFull.was_worn p is

of-refused : (refused : Fresh) (answer : TrySplit) → SaysRefused refused answer → OfFull answer
of-refused (freshes.Pages group) answer is = absurd is
of-refused (freshes.Again saw) answer is = OfFull.was_again saw is
of-refused (freshes.Worn p) answer is = OfFull.was_worn p is
of-refused (freshes.Full pages next need) answer is = OfFull.was_full pages next need is

-- ---- the evidence that it may be tried again

again-same : (s t : Saw) → tries.Again s ≡ tries.Again t → s ≡ t
again-same s t e = cc

short-again : (refused : Alloc) (saw : Saw) → SaysShort refused (tries.Again saw) → refused ≡ allocs.Again saw
short-again (allocs.Batch batch) saw is = absurd is
short-again allocs.Dry saw is = absurd (cc)
short-again (allocs.Again s) saw is = ap (λ (t : Saw). allocs.Again t) (again-same s saw (sym is))

denied-again : (deny : Deny) (saw : Saw) → SaysDenied deny (tries.Again saw) → deny ≡ denies.Again saw
denied-again (denies.Again s) saw is = ap (λ (t : Saw). denies.Again t) (again-same s saw (sym is))
denied-again (denies.Need p) saw is = absurd is
denied-again (denies.Crowded p) saw is = absurd is
denied-again (denies.Worn p) saw is = absurd (cc)

refused-again : (refused : Fresh) (saw : Saw) → SaysRefused refused (tries.Again saw) → refused ≡ freshes.Again saw
refused-again (freshes.Pages group) saw is = absurd is
refused-again (freshes.Again s) saw is = ap (λ (t : Saw). freshes.Again t) (again-same s saw (sym is))
refused-again (freshes.Worn p) saw is = absurd (cc)
refused-again (freshes.Full pages next need) saw is = absurd (cc)

module _ {S : Type 0} (plain : S → Said) (L : Layout) (spare : List ℕ → ℕ) where
  of-untaken : (n : ℕ) (a b : OptGuard) (v w : View S) (answer : TrySplit) → IsUntaken L n a b v w answer → OfFull answer
  of-untaken n a b v w answer (short refused h is) = of-short refused answer is
  of-untaken n a b v w answer (unlocked deny h is) = of-denied deny answer is
  of-untaken n a b v w answer (unclaimed refused h is) = of-refused refused answer is

  of-unsplit : (n : ℕ) (a b : OptGuard) (v w : View S) (answer : TrySplit) → IsUnsplit plain L spare n a b v w answer → OfFull answer
  of-unsplit n a b v w answer (full pages next need searched f h is) = OfFull.was_full pages next need is
  of-unsplit n a b v w answer (untaken roomy room h) = of-untaken n a b roomy w answer h

  of-end : (n : ℕ) (a b : OptGuard) (v w : View S) (answer : TrySplit) → IsEndOf plain L spare n a b v w answer → OfFull answer
  of-end n a b v w answer e = ⊎_elim (λ s. OfFull.was_split s.0) (λ u. of-unsplit n a b v w answer u) e

  of-ended : (v : View S) (key : ℕ) (w : View S) (answer : TrySplit) → IsEnded plain L spare v key w answer → OfFull answer
  of-ended v key w answer (root meta low height page x r met e) = of-end 2 meta low x w answer e
  of-ended v key w answer (below parent node over page x r met e) = of-end 1 parent node x w answer e

  -- the free-number words, and the next word, were loaded before
  backed-untaken : (n : ℕ) (a b : OptGuard) (saw : Saw) (u v x w : View S) → StartsWith v.log u.log
      → IsOpened u a.pid a.word a.frame v → IsOpened u b.pid b.word b.frame v → b.pid ≢ a.pid → OnlySees v x
      → IsUntaken L n a b x w (tries.Again saw) → IsBackedBy u saw w
  backed-untaken n a b saw u v x w log oa ob apart t (short refused h is) =
      backed-short n saw u x w (starts-then u.log v.log x.log log (roomy-keeps v x t).log)
      (subst (λ (r : Alloc). IsShort n r x w) (short-again refused saw is) h)
  backed-untaken n a b saw u v x w log oa ob apart t (unlocked deny h is) =
      backed-lock a b saw u v x w oa ob apart (roomy-leaves v x t)
      (subst (λ (d : Deny). IsNotLocked L a b d x w) (denied-again deny saw is) h)
  backed-untaken n a b saw u v x w log oa ob apart t (unclaimed refused h is) =
      backed-pages n a b saw u x w (starts-then u.log v.log x.log log (roomy-keeps v x t).log)
      (subst (λ (r : Fresh). IsRefusedPages L n a b r x w) (refused-again refused saw is) h)

  backed-unsplit : (n : ℕ) (a b : OptGuard) (saw : Saw) (u v w : View S) → StartsWith v.log u.log
      → IsOpened u a.pid a.word a.frame v → IsOpened u b.pid b.word b.frame v → b.pid ≢ a.pid
      → IsUnsplit plain L spare n a b v w (tries.Again saw) → IsBackedBy u saw w
  backed-unsplit n a b saw u v w log oa ob apart (full pages next need searched f h is) =
      let no : tries.Again saw ≡ tries.Full pages next need = is in absurd (cc)
  backed-unsplit n a b saw u v w log oa ob apart (untaken roomy room h) =
      backed-untaken n a b saw u v roomy w log oa ob apart (sees-room n v roomy room) h

  backed-end : (n : ℕ) (a b : OptGuard) (saw : Saw) (u v w : View S) → ReadsOn u v → IsOpened u a.pid a.word a.frame v
      → IsOpened u b.pid b.word b.frame v → b.pid ≢ a.pid → IsEndOf plain L spare n a b v w (tries.Again saw)
      → IsBackedBy u saw w
  backed-end n a b saw u v w r oa ob apart e =
      ⊎_elim (λ s. let no : tries.Again saw ≡ tries.Split = s.0 in absurd (cc))
      (λ x. backed-unsplit n a b saw u v w (r.0.done, r.0.log) oa ob apart x) e

  backed-ended : (v : View S) (key : ℕ) (saw : Saw) (w : View S) → IsEnded plain L spare v key w (tries.Again saw) → IsBackedBy v saw w
  backed-ended v key saw w (root meta low height page x r met e) =
      backed-end 2 meta low saw v x w r met.named.opened met.opened (λ is. met.named.apart (is ∙ met.named.zero)) e
  backed-ended v key saw w (below parent node over page x r met e) =
      backed-end 1 parent node saw v x w r met.parent_opened met.opened met.apart e

  caused : (v : View S) (key : ℕ) (w : View S) (answer : TrySplit) → IsEnded plain L spare v key w answer
      → OfFull answer → IsCause plain L spare key answer v w
  caused v key w answer e (OfFull.was_split is) =
      subst (λ a. IsCause plain L spare key a v w) (sym is) (subst (IsEnded plain L spare v key w) is e)
  caused v key w answer e (OfFull.was_again saw is) = let ended = subst (IsEnded plain L spare v key w) is e in
      subst (λ a. IsCause plain L spare key a v w) (sym is) (backed-ended v key saw w ended, inr ended)
  caused v key w answer e (OfFull.was_worn p is) =
      subst (λ a. IsCause plain L spare key a v w) (sym is) (subst (IsEnded plain L spare v key w) is e)
  caused v key w answer e (OfFull.was_dry is) =
      subst (λ a. IsCause plain L spare key a v w) (sym is) (subst (IsEnded plain L spare v key w) is e)
  caused v key w answer e (OfFull.was_full pages next need is) =
      subst (λ a. IsCause plain L spare key a v w) (sym is) (subst (IsEnded plain L spare v key w) is e)

  pub tried-below : (key : ℕ) (parent node : OptGuard) (over page : List ℕ) (answer : TrySplit) (v x w : View S)
      → ReadsOn v x → IsFullBelow L spare v key parent node over page x → KeepsLocksOnly x w
      → IsEndOf plain L spare 1 parent node x w answer → IsTrySplit plain L spare key answer v w
  tried-below key parent node over page answer v x w r met k e =
      let ended = below parent node over page x r met e in
      (keeps-then v x w (reads-keep v x r) k, caused v key w answer ended (of-ended v key w answer ended))

  pub tried-root : (key : ℕ) (meta low : OptGuard) (height : ℕ) (page : List ℕ) (answer : TrySplit) (v x w : View S)
      → ReadsOn v x → IsRootFull L spare v key meta low height page x → KeepsLocksOnly x w
      → IsEndOf plain L spare 2 meta low x w answer → IsTrySplit plain L spare key answer v w
  tried-root key meta low height page answer v x w r met k e =
      let ended = root meta low height page x r met e in
      (keeps-then v x w (reads-keep v x r) k, caused v key w answer ended (of-ended v key w answer ended))
