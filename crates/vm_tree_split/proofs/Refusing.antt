-- A split that is refused: what it took goes back, and the pass holds what it held.
use Rattle.std.proofs.Common.{[], ⊎_elim, ◌++◌, ◌∙◌, ◌∷◌, ◌≡◌, ◌≢◌, ◌⊎◌, ap, Bool, inl, inr, List, None}
use Rattle.std.proofs.Common.{refl, Some, subst, sym, true, ℕ}
use Rattle.std.proofs.lemmas.Bool.{cases_eq}
use Rattle.vm_event.specs.Prelude.{Version}
use Rattle.vm_owner.proofs.NumberLemmas.{without-none}
use Rattle.vm_rule.specs.Bundles.{frames_in}
use Rattle.vm_rule.specs.Prelude.{did_load, draft_of, IsLocking, last_of, numbers, Seat, seat_of, without}
use Rattle.vm_rule.specs.declared.view.WordPlace.TheVariants as places
use Rattle.vm_rule.proofs.Entries.{append-none, each-map}
use Rattle.vm_step.specs.Prelude.{Did, HoldsPage, KeepsFrames, KnowsAsBefore, View}
use Rattle.vm_step.specs.declared.saw.Saw.{Saw}
use Rattle.vm_step.proofs.Asides.{holds-then, keeps-then, knows-then, starts-then, still-locking}
use Rattle.vm_tree_read.specs.from_vm_exmap.Frames.{MovesFrames}
use Rattle.vm_tree_read.proofs.from_vm_exmap.FrameMoves.{leaves-states}
use Rattle.vm_tree_read.specs.from_vm_guard.{declared_deny_Deny.Deny, declared_given_Fresh.Fresh, declared_opt_OptGuard.OptGuard}
use Rattle.vm_tree_read.specs.from_vm_guard.{Denied.AgainOrWorn, Fresh.IsAmid, Fresh.IsNextAnswer, Fresh.IsNil, Quiet.IsQuiet}
use Rattle.vm_tree_read.specs.from_vm_guard.Reused.{IsFreshAnswer, IsReuseAnswer, IsTakenAnswer, IsUnused}
use Rattle.vm_tree_read.specs.from_vm_guard.declared_deny_Deny_TheVariants as denies
use Rattle.vm_tree_read.specs.from_vm_guard.declared_given_Fresh_TheVariants as freshes
use Rattle.vm_tree_read.specs.from_vm_guard.Guards.{IsHolding, IsLocked, IsReleased}
use Rattle.vm_tree_read.proofs.from_vm_guard.{Amid.amid-then, Amid.amid-within, FreshAnswers.next-kept, FreshNone.nload-nil}
use Rattle.vm_tree_model.specs.Layout.{Layout}
use Rattle.vm_tree_laws.specs.Tied.{Tied}
use Rattle.vm_tree_read.specs.from_vm_tree_rule.Leaves.{LeavesWord}
use Rattle.vm_tree_draft.specs.PageNumbers.{GainsWorn}
use Rattle.vm_tree_split.specs.{declared.tries.TrySplit.TrySplit, Prepares.IsDeniedAt}
use Rattle.vm_tree_split.specs.{Prepares.IsLockDenied, Prepares.IsLockedMeanwhile, Prepares.SaysDenied}
use Rattle.vm_tree_draft.specs.Splits.{KeepsLocksOnly}
use Rattle.vm_tree_split.specs.declared.tries.TrySplit.TheVariants as tries
use Rattle.vm_tree_draft.proofs.{Framing.after-some, Framing.unheld-not, Numbering.gains-worn}
use Rattle.vm_tree_draft.proofs.Numbering.{released-same, worn-kept, worn-page}
use Rattle.vm_tree_draft.proofs.Numbering.{worn-then}
use Rattle.vm_tree_split.proofs.Seeing.{OnlySees, sees-few, sees-some, sees-taken}
use Rattle.vm_tree_read.proofs.from_vm_guard.GuardSteps.{still-held}

state-same : (p q : ℕ) → places.State p ≡ places.State q → p ≡ q
state-same p q e = cc

pub says-denied : (deny : Deny) (answer : TrySplit) → AgainOrWorn deny
    → ((saw : Saw) → deny ≡ denies.Again saw → answer ≡ tries.Again saw)
    → ((p : ℕ) → deny ≡ denies.Worn p → answer ≡ tries.Worn p) → SaysDenied deny answer
says-denied (denies.Again saw) answer kind is-again is-worn = is-again saw refl
says-denied (denies.Worn p) answer kind is-again is-worn = is-worn p refl
says-denied (denies.Need q) answer kind is-again is-worn = absurd kind
says-denied (denies.Crowded q) answer kind is-again is-worn = absurd kind

-- fresh pages were not given
abbrev pub NotGiven : Fresh → Type 0
NotGiven (freshes.Pages group) = ⊥
NotGiven (freshes.Again saw) = Unit {0}
NotGiven (freshes.Worn p) = Unit {0}
NotGiven (freshes.Full pages next need) = Unit {0}

module _ {X : Type 0} where
  -- ---- steps that leave no word on a page's state word

  -- frames that move leave no word on a page's state word
  pub moves-leave : (done : List Did) (v w : View X) → MovesFrames done v w → (p : ℕ) → LeavesWord p v w
  moves-leave done v w m p = record {
    done = done;
    log = m.log;
    none = each-map (λ (d : Did). (q : ℕ) → d.at ≢ places.State q)
        (λ (d : Did). d.at ≡ places.State p → d.wrote ≡ None) (λ d other at. absurd (other p at)) done
        (leaves-states done v w m);
  }

module _ {X : Type 0} {L : Layout} where
  -- a lock leaves none on that of another page
  pub locked-leave : (q p f version : ℕ) (dirty : Bool) (v w : View X) → q ≢ p → IsLocked (Tied L) p f version dirty v w → LeavesWord q v w
  locked-leave q p f version dirty v w ne l = record {
    done = l.done;
    log = l.elsewhere.steady.log;
    none =
        each-map (λ (d : Did). (d.at ≡ places.State p) ⊎ (d.at ≡ places.Translation p))
        (λ (d : Did). d.at ≡ places.State q → d.wrote ≡ None)
        (λ d here at.
        ⊎_elim (λ (s : d.at ≡ places.State p). absurd (ne (state-same q p (sym at ∙ s))))
        (λ (t : d.at ≡ places.Translation p). let no : places.State q ≡ places.Translation p = sym at ∙ t in
        absurd (cc)) here)
        l.done l.places_are;
  }

module _ {X : Type 0} where
  -- ---- a lock that was denied

  pub quiet-keeps : (p : ℕ) (done : List Did) (v w : View X) → IsQuiet p done v w → KeepsLocksOnly v w
  quiet-keeps p done v w q = record {
    start = q.steady.start;
    parts = q.steady.parts;
    mine = q.mine;
    seen = q.steady.seen;
    releases = q.steady.releases;
    notes = ([], q.steady.notes ∙ sym (append-none v.notes));
    log = (done, q.steady.log);
    out = q.steady.out;
    pending = q.group.0;
    owed = q.group.1;
    numbers = worn-kept v w q.numbers;
    next = λ n e. inl (sym q.group.2 ∙ e);
    holds = q.holds;
    knows = q.knows;
    current = q.alone.current;
  }

module _ {X : Type 0} {L : Layout} where
  -- ---- a lock that is given up again

  -- it was locked, other calls left all, and it was released: all is as before
  pub back-keeps : (p f version : ℕ) (dirty : Bool) (v x y w : View X) → IsLocked (Tied L) p f version dirty v x
      → KeepsLocksOnly x y → IsReleased p version None y w → KeepsLocksOnly v w
  back-keeps p f version dirty v x y w l k r =
      let here : HoldsPage v w p = record {
        shares = ap (λ (s : Seat). s.shares) r.seat ∙ (k.holds p).shares ∙ ap (λ (s : Seat). s.shares) l.seat;
        exclusive = ap (λ (s : Seat). s.exclusive) r.seat ∙ sym l.before.exclusive;
        writing = ap (λ (s : Seat). s.writing) r.seat ∙ (k.holds p).writing ∙ ap (λ (s : Seat). s.writing) l.seat;
      } in
      record {
        start = r.elsewhere.steady.start ∙ k.start ∙ l.elsewhere.steady.start;
        parts = (
          r.elsewhere.steady.parts.0 ∙ k.parts.0 ∙ l.elsewhere.steady.parts.0,
          r.elsewhere.steady.parts.1
              ∙ k.parts.1 ∙ l.elsewhere.steady.parts.1,
        );
        mine = r.mine ∙ append-none y.mine ∙ k.mine ∙ l.mine;
        seen = starts-then v.seen y.seen w.seen (starts-then v.seen x.seen y.seen l.elsewhere.steady.seen k.seen) r.elsewhere.steady.seen;
        releases = starts-then v.releases y.releases w.releases
            (starts-then v.releases x.releases y.releases l.elsewhere.steady.releases k.releases)
            r.elsewhere.steady.releases;
        notes = starts-then v.notes y.notes w.notes
            (starts-then v.notes x.notes y.notes ([], l.elsewhere.steady.notes ∙ sym (append-none v.notes)) k.notes)
            ([], r.elsewhere.steady.notes ∙ sym (append-none y.notes));
        log = starts-then v.log y.log w.log (starts-then v.log x.log y.log (l.done, l.elsewhere.steady.log) k.log)
            (r.done, r.elsewhere.steady.log);
        out = r.elsewhere.steady.out ∙ k.out ∙ l.elsewhere.steady.out;
        pending = r.group.0 ∙ k.pending ∙ l.group.0;
        owed = r.group.1 ∙ ap (without p) (k.owed ∙ l.group.1) ∙ without-none p v.owed l.before.paid;
        numbers =
            let one = worn-then v x y l.elsewhere.steady.start (l.done, l.elsewhere.steady.log) k.log (worn-kept v x l.numbers) k.numbers in
            let mine : KnowsAsBefore x y p = k.knows p (inl l.holding.owns) in
            let same : draft_of y p ≡ (last_of y p).words = mine.draft ∙ l.draft ∙ sym (ap (λ (t : Version). t.words) mine.last) in
            worn-then v y w (k.start ∙ l.elsewhere.steady.start)
            (starts-then v.log x.log y.log (l.done, l.elsewhere.steady.log) k.log)
            (r.done, r.elsewhere.steady.log) one
            (gains-worn y w (released-same p version None y w same r));
        next = λ q e.
            let known = after-some p y.next q (sym r.group.2 ∙ e) in
            ⊎_elim (λ (there : x.next ≡ Some q). inl (sym l.group.2 ∙ there))
            (λ (own : (seat_of x q).exclusive ≡ true). inr (sym (l.elsewhere.holds q known.1).exclusive ∙ own))
            (k.next q known.0);
        holds = λ q.
            ⊎_elim (λ (e : q ≡ p). subst (HoldsPage v w) (sym e) here)
            (λ ne. holds-then v y w q (holds-then v x y q (l.elsewhere.holds q ne) (k.holds q)) (r.elsewhere.holds q ne))
            (cases_eq q p);
        knows = λ q lock.
            ⊎_elim (λ (e : q ≡ p). absurd (unheld-not p v l.before (subst (λ n. IsLocking (seat_of v n)) e lock)))
            (λ ne.
            let one = still-locking v x q (l.elsewhere.holds q ne) lock in
            let two = still-locking x y q (k.holds q) one in
            knows-then v y w q (knows-then v x y q (l.elsewhere.knows q ne lock) (k.knows q one)) (r.elsewhere.knows q ne two))
            (cases_eq q p);
        current = λ _. r.current;
      }

module _ {X : Type 0} (L : Layout) where
  -- pages that were to be locked, of which one could not be: the pass holds what it held, and has its frames
  pub denied-keeps : (gs : List OptGuard) (deny : Deny) (v w : View X) → IsLockDenied L gs deny v w
      → KeepsLocksOnly v w × (w.frames ≡ v.frames)
  denied-keeps [] deny v w k = absurd k
  denied-keeps (g ∷ gs) deny v w k =
      ⊎_elim
      (λ (d : IsDeniedAt L g deny v w). (quiet-keeps g.pid d.denied.done v w d.denied.quiet, d.denied.quiet.steady.frames.0))
      (λ (m : IsLockedMeanwhile L g (IsLockDenied L gs deny) v w).
      let i = denied-keeps gs deny m.locked m.done m.inner in (
        back-keeps g.pid m.frame m.version m.dirty v m.locked m.done w m.taken i.0 m.back,
        m.back.elsewhere.steady.frames.0 ∙ i.1 ∙ m.taken.elsewhere.steady.frames.0,
      ))
      k

module _ {X : Type 0} where
  -- ---- fresh pages that were refused

  -- No page was given: the frames are as they were, the pass holds and knows what it held and knew, and has no page
  -- number more, but for one of a page at the last
  -- version
  pub record IsNone (before after : List ℕ) (v w : View X) : Type 0 where
    pub same : after ≡ before
    pub pages : List ℕ
    pub done : List Did
    pub amid : IsAmid pages done v w
    pub keeps : KeepsFrames v w
    pub owed : w.owed ≡ v.owed
    pub holds : (q : ℕ) → HoldsPage v w q
    pub knows : (q : ℕ) → IsLocking (seat_of v q) → KnowsAsBefore v w q
    pub next : (q : ℕ) → w.next ≡ Some q → (v.next ≡ Some q) ⊎ ((seat_of v q).exclusive ≡ true)
    pub numbers : GainsWorn v w

  none-of-nil : (frames pages : List ℕ) (done : List Did) (v w : View X) → IsNil pages done v w
      → ((q : ℕ) → w.next ≡ Some q → (v.next ≡ Some q) ⊎ ((seat_of v q).exclusive ≡ true)) → IsNone frames frames v w
  none-of-nil frames pages done v w n next =
      record {
        same = refl;
        pages = pages;
        done = done;
        amid = n.amid;
        keeps = n.keeps;
        owed = n.owed;
        holds = n.holds;
        knows = n.knows;
        next = next;
        numbers = worn-kept v w n.numbers;
      }

  none-of-sees : (frames : List ℕ) (v w : View X) → OnlySees v w → IsNone frames frames v w
  none-of-sees frames v w s = none-of-nil frames [] s.done v w s.nil s.next

  none-of-unused : (frames : List ℕ) (g word mask : ℕ) (done : List Did) (v w : View X)
      → IsUnused g word mask done v w → GainsWorn v w → IsNone frames frames v w
  none-of-unused frames g word mask done v w n numbers =
      record {
        same = refl;
        pages = frames_in g mask;
        done = done;
        amid = n.amid;
        keeps = n.keeps;
        owed = n.group.0;
        holds = n.holds;
        knows = n.knows;
        next = λ q e. inl (sym n.group.1 ∙ e);
        numbers = numbers;
      }

  none-at : (before after : List ℕ) (v w : View X) → after ≡ before → IsNone before before v w → IsNone before after v w
  none-at before after v w same n = subst (λ l. IsNone before l v w) (sym same) n

  -- behind loads
  none-behind : (before after : List ℕ) (u v w : View X) → OnlySees u v → IsNone before after v w → IsNone before after u w
  none-behind before after u v w s n = record {
    same = n.same;
    pages = n.pages;
    done = s.done ++ n.done;
    amid = amid-then n.pages s.done n.done u v w (amid-within n.pages [] s.done u v (λ q e. refl) s.nil.amid) n.amid;
    keeps = keeps-then u v w s.nil.keeps n.keeps;
    owed = n.owed ∙ s.nil.owed;
    holds = λ q. holds-then u v w q (s.nil.holds q) (n.holds q);
    knows = λ q l. knows-then u v w q (s.nil.knows q l) (n.knows q (still-locking u v q (s.nil.holds q) l));
    next = λ q e. ⊎_elim (λ (k : v.next ≡ Some q). s.next q k)
        (λ (own : (seat_of v q).exclusive ≡ true). inr (sym (s.nil.holds q).exclusive ∙ own)) (n.next q e);
    numbers = worn-then u v w s.nil.amid.start (s.done, s.nil.amid.log) (n.done, n.amid.log) (worn-kept u v s.nil.numbers) n.numbers;
  }

  pub none-keeps : (before after : List ℕ) (v w : View X) → IsNone before after v w → KeepsLocksOnly v w
  none-keeps before after v w n = record {
    start = n.amid.start;
    parts = n.amid.parts;
    mine = n.amid.mine;
    seen = n.amid.seen;
    releases = n.amid.releases;
    notes = ([], n.amid.notes ∙ sym (append-none v.notes));
    log = (n.done, n.amid.log);
    out = n.amid.out;
    pending = n.amid.pending;
    owed = n.owed;
    numbers = n.numbers;
    next = n.next;
    holds = n.holds;
    knows = n.knows;
    current = n.amid.alone.current;
  }

  pub sees-keeps : (v w : View X) → OnlySees v w → KeepsLocksOnly v w
  sees-keeps v w s = none-keeps [] [] v w (none-of-sees [] v w s)

  -- a page that is held stays so
  pub holding-none : (p f version : ℕ) (dirty : Bool) (before after : List ℕ) (v w : View X)
      → IsHolding p f version dirty v → IsNone before after v w → IsHolding p f version dirty w
  holding-none p f version dirty before after v w h n =
      let k : KnowsAsBefore v w p = n.knows p (inl h.owns) in
      still-held h n.amid.start (n.holds p).exclusive k n.amid.pending

  -- by what a call answers that claims pages
  next-none : (n : ℕ) (before after : List ℕ) (answer : Fresh) (v w : View X) → IsNextAnswer n before after v w answer
      → NotGiven answer → IsNone before after v w
  next-none n before after (freshes.Pages group) v w k s = absurd s
  next-none n before after (freshes.Again saw) v w k s =
      none-at before after v w k.0
      (none-of-nil before (numbers k.1.0 n) k.1.1.done v w k.1.1.spared.nil (λ q e. inr (k.1.1.spared.next q e)))
  next-none n before after (freshes.Worn p) v w k s =
      none-at before after v w k.0
      (none-of-nil before (numbers k.1.0 n) k.1.1.done v w k.1.1.spared.nil (λ q e. inr (k.1.1.spared.next q e)))
  next-none n before after (freshes.Full pages next need) v w k s =
      none-at before after v w k.0
      (none-of-nil before [] (did_load places.Next next ∷ []) v w (nload-nil [] next v w k.1.loaded)
      (λ q e. inr (next-kept next q v w k.1.loaded e)))

  -- or by one that has taken page numbers
  taken-none : (n g word mask : ℕ) (before after : List ℕ) (answer : Fresh) (v w : View X)
      → IsTakenAnswer n g word mask before after v w answer → NotGiven answer → IsNone before after v w
  taken-none n g word mask before after (freshes.Pages group) v w k s = absurd s
  taken-none n g word mask before after (freshes.Again saw) v w k s =
      none-at before after v w k.0
      (none-of-unused before g word mask k.1.done v w k.1.unused (worn-kept v w k.1.numbers))
  taken-none n g word mask before after (freshes.Worn p) v w k s =
      none-at before after v w k.0
      (none-of-unused before g word mask k.1.done v w k.1.unused
      (worn-page p k.1.done v w k.1.unused.amid.log k.1.worn k.1.numbers))
  taken-none n g word mask before after (freshes.Full pages next need) v w k s = absurd k

  reuse-none : (n g word : ℕ) (before after : List ℕ) (answer : Fresh) (v w : View X)
      → IsReuseAnswer n g word before after v w answer → NotGiven answer → IsNone before after v w
  reuse-none n g word before after answer v w k s =
      ⊎_elim
      (λ lost. none-at before after v w lost.2 (none-of-sees before v w (sees-taken g word k.0 lost.0 v w lost.3)))
      (λ taken. taken-none n g word k.0 before after answer v w taken s)
      k.2

  pub none-given : (n : ℕ) (before after : List ℕ) (answer : Fresh) (v w : View X)
      → IsFreshAnswer n before after v w answer → NotGiven answer → IsNone before after v w
  none-given n before after answer v w k s =
      ⊎_elim
      (λ a. none-behind before after v a.0 w (sees-few n v a.0 a.1) (next-none n before after answer a.0 w a.2 s))
      (λ a. none-behind before after v a.0 w (sees-some n a.1 a.2 v a.0 a.3) (reuse-none n a.1 a.2 before after answer a.0 w a.4 s))
      k
