-- What the steps on a group's word tell an eviction of each of its pages: a lock for write-back, one that becomes
-- exclusive, a
-- share that is given up, and a release as evicted.
use Rattle.std.proofs.Common.{IsSome, length, ◌^◌}
use Rattle.vm_event.specs.Prelude.{EVICTED, LOCKED, MARKED, no_seat, state_of, version_of, word_of}
use Rattle.vm_evict.proofs.Locking.{under-write-back, unlocked-seat}
use Rattle.vm_evict.specs.{Stages.owning_seat, Writes.IsUnderWriteBack, Writes.writing_seat}
use Rattle.vm_group_evict.proofs.LeavingPages.{leaves-by}
use Rattle.vm_group_evict.proofs.Prelude.{[], ap, arith, Did, draft_of, false, has, held_at, inl, inr}
use Rattle.vm_group_evict.proofs.Prelude.{IsLocking, IsUnder, last_of, LeavesOthers, LeavesOwn, List, None, Origin}
use Rattle.vm_group_evict.proofs.Prelude.{refl}
use Rattle.vm_group_evict.proofs.Prelude.{seat_of, subst, sym, View, ℕ, ◌-◌}
use Rattle.vm_group_evict.proofs.Prelude.{◌∙◌, ◌≡◌, ◌≢◌, ◌≤◌}
use Rattle.vm_group_evict.specs.Locks.{IsGivenBack, IsRaised, IsTakenToWrite, unsharings}
use Rattle.vm_group_guard.proofs.{Pages.numbers-apart, Pages.under, Turns.all-in-turn, Turns.made-at}
use Rattle.vm_group_guard.proofs.{Turns.others-in-turn}
use Rattle.vm_group_guard.specs.Steps.{exchanges}
use Rattle.vm_owner.specs.Kept.{Start}
use Rattle.vm_rule.specs.Prelude.{did_change, did_exchange, IsUnheld, numbers, Seat, UnshareTold, UpgradeTold}
use Rattle.vm_rule.specs.Prelude.{WriteLockTold}
use Rattle.vm_rule.proofs.WordFacts.{version-within, word-version}
use Rattle.vm_rule.specs.declared.view.Held.{Held}
use Rattle.vm_rule.specs.declared.view.WordPlace.{WordPlace}
use Rattle.vm_step.proofs.Numbers.{numbers-has}
use Rattle.vm_step.proofs.steps.Leaving.{own-self, own-then}
use Rattle.vm_step.proofs.steps.Share.{unshare-others, unshare-own}
use Rattle.vm_step.proofs.steps.WriteBack.{upgrade-draft, upgrade-held, upgrade-last, upgrade-others, upgrade-own}
use Rattle.vm_step.proofs.steps.WriteBack.{upgrade-seat}
use Rattle.vm_step.proofs.steps.WriteBack.{write_lock-held, write_lock-others, write_lock-own}
use Rattle.vm_step.specs.Over.{InTurn}

not-evicted : (word : ℕ) → state_of word ≡ MARKED → state_of word ≢ EVICTED
not-evicted word marked gone = let e : MARKED ≡ EVICTED = sym marked ∙ gone in absurd (omega (arith, e))

module _ {X : Type 0} (tied : Start → ℕ → List ℕ → ℕ → List ℕ → Type 0) (h size : ℕ) where
  -- ---- for write-back

  module _ (word : ℕ) (marked : state_of word ≡ MARKED) (v w : View X)
      (t : InTurn (λ q. WriteLockTold tied q word) (numbers h size) word v w) (home : v.out ≡ None) where
    abbrev Lock : ℕ → ℕ → View X → View X → Type 0
    Lock q = WriteLockTold tied q word

    -- a page before its own step, with other pages locked
    record Waits (p : ℕ) (u : View X) : Type 0 where
      pub seat : seat_of u p ≡ seat_of v p
      pub pending : u.pending ≡ v.pending
      pub owed : u.owed ≡ v.owed
      pub next : u.next ≡ v.next
      pub out : u.out ≡ None

    -- and behind it
    record Taken (p : ℕ) (u : View X) : Type 0 where
      pub before : IsUnheld v p
      pub free : has p v.pending ≡ false
      pub under : IsUnderWriteBack p u
      pub resident : IsSome (held_at u p).mapping
      pub at : (last_of u p).version ≡ version_of word

    taken-stays : (p q : ℕ) (u x : View X) → Lock q word u x → p ≢ q → Taken p u → Taken p x
    taken-stays p q u x l ne k =
        let f = write_lock-others refl l (λ i. i ≡ q) refl in
        let locking : IsLocking (seat_of u p) = inr (subst (λ s. 1 ≤ s.shares) (sym k.under.seat) (omega arith)) in
        let last = f.last p ne locking in
        record {
          before = k.before;
          free = k.free;
          under = record {
            seat = f.seats p ne ∙ k.under.seat;
            told = ap (λ (m : Held). m.fault) (f.held p ne) ∙ k.under.told ∙ ap (λ (m : Held). m.block.count) (sym
                (f.held p ne));
            size = ap (λ y. length y.words) last ∙ k.under.size ∙ ap (λ (o : Origin). o.size) (sym f.start);
            home = f.out ∙ k.under.home;
          };
          resident = subst (λ (m : Held). IsSome m.mapping) (sym (f.held p ne)) k.resident;
          at = ap (λ y. y.version) last ∙ k.at;
        }

    taken-made : (p : ℕ) (u x : View X) → Waits p u → Lock p word u x → Taken p x
    taken-made p u x g l =
        let un = l.unheld refl in record {
          before = record {
            exclusive = ap (λ (s : Seat). s.exclusive) (sym g.seat) ∙ un.exclusive;
            shares = ap (λ (s : Seat). s.shares) (sym g.seat) ∙ un.shares;
            writing = ap (λ (s : Seat). s.writing) (sym g.seat) ∙ un.writing;
            paid = ap (has p) (sym g.owed) ∙ un.paid;
            next = λ e. un.next (g.next ∙ e);
          };
          free = ap (has p) (sym g.pending) ∙ l.free refl;
          under = under-write-back l g.out;
          resident = subst (λ (m : Held). IsSome m.mapping) (sym (write_lock-held refl l)) ((l.stands refl).resident
              (not-evicted word marked));
          at = l.version;
        }

    taken-at : (p : ℕ) → IsUnder h size p → Taken p w
    taken-at p at =
        made-at Lock word p (Waits p) (Taken p)
        (λ q u x l ne g. let f = write_lock-others refl l (λ i. i ≡ q) refl in
        let o = write_lock-own refl l in
        record {
          seat = f.seats p ne ∙ g.seat;
          pending = o.group.0 ∙ g.pending;
          owed = o.group.1 ∙ g.owed;
          next = o.group.2 ∙ g.next;
          out = f.out ∙ g.out;
        })
        (λ q u x l ne k. taken-stays p q u x l ne k) (λ u x g l. taken-made p u x g l)
        (numbers h size) (numbers-apart h size) (numbers-has size h p at.0 at.1) v w t
        (record { seat = refl; pending = refl; owed = refl; next = refl; out = home })

    pub taken : IsTakenToWrite h size word v w
    taken =
        let done : List Did = exchanges word word (word_of 1 (version_of word)) (numbers h size) in
        let others : LeavesOthers (IsUnder h size) done [] v w =
        others-in-turn Lock word (IsUnder h size) (λ q. did_exchange (WordPlace.State q) word word (word_of 1
        (version_of word)))
        (λ q u x at l. write_lock-others refl l (IsUnder h size) at) (numbers h size) (under h size) v w t in
        let own : LeavesOwn v w = all-in-turn Lock word LeavesOwn own-self (λ u x y f g. own-then f g)
        (λ q u x l. write_lock-own refl l) (numbers h size) v w t in
        record {
          leaves = leaves-by h size done v w others own;
          runs = others.runs;
          before = λ q at. (taken-at q at).before;
          free = λ q at. (taken-at q at).free;
          under = λ q at. ((taken-at q at).under, (taken-at q at).resident);
          at = λ q at. (taken-at q at).at;
          frames = others.keeps;
          out = others.out;
        }

  -- ---- exclusive

  module _ (word : ℕ) (v w : View X)
      (t : InTurn (λ q. UpgradeTold tied q (word_of 1 (version_of word))) (numbers h size) (word_of 1
      (version_of word)) v w)
      (before : (q : ℕ) → IsUnder h size q → seat_of v q ≡ writing_seat) where
    abbrev shared : ℕ
    shared = word_of 1 (version_of word)

    abbrev Raise : ℕ → ℕ → View X → View X → Type 0
    Raise q = UpgradeTold tied q shared

    record Shares (p : ℕ) (u : View X) : Type 0 where
      pub seat : seat_of u p ≡ writing_seat
      pub held : held_at u p ≡ held_at v p
      pub last : last_of u p ≡ last_of v p

    record Owns (p : ℕ) (u : View X) : Type 0 where
      pub seat : seat_of u p ≡ owning_seat
      pub draft : draft_of u p ≡ (last_of u p).words
      pub held : held_at u p ≡ held_at v p
      pub last : last_of u p ≡ last_of v p

    locks-shared : (p : ℕ) (u : View X) → seat_of u p ≡ writing_seat → IsLocking (seat_of u p)
    locks-shared p u seat = inr (subst (λ (s : Seat). 1 ≤ s.shares) (sym seat) (omega arith))

    owns-at : (p : ℕ) → IsUnder h size p → Owns p w
    owns-at p at =
        made-at Raise shared p (Shares p) (Owns p)
        (λ q u x l ne g. let f = upgrade-others refl l (λ i. i ≡ q) refl in
        record {
          seat = f.seats p ne ∙ g.seat;
          held = f.held p ne ∙ g.held;
          last = f.last p ne (locks-shared p u g.seat) ∙ g.last;
        })
        (λ q u x l ne k. let f = upgrade-others refl l (λ i. i ≡ q) refl in
        let locking : IsLocking (seat_of u p) = inl (ap (λ (s : Seat). s.exclusive) k.seat) in
        let last = f.last p ne locking in
        record {
          seat = f.seats p ne ∙ k.seat;
          draft = f.drafts p ne ∙ k.draft ∙ ap (λ y. y.words) (sym last);
          held = f.held p ne ∙ k.held;
          last = last ∙ k.last;
        })
        (λ u x g l. record {
          seat = upgrade-seat refl l;
          draft = upgrade-draft refl l;
          held = upgrade-held refl l p ∙ g.held;
          last = upgrade-last refl l p (locks-shared p u g.seat) ∙ g.last;
        })
        (numbers h size) (numbers-apart h size) (numbers-has size h p at.0 at.1) v w t
        (record { seat = before p at; held = refl; last = refl })

    pub raised : version_of shared ≡ version_of word → IsRaised h size word v w
    raised same =
        let done : List Did = exchanges shared shared (word_of LOCKED (version_of shared)) (numbers h size) in
        let others : LeavesOthers (IsUnder h size) done [] v w =
        others-in-turn Raise shared (IsUnder h size)
        (λ q. did_exchange (WordPlace.State q) shared shared (word_of LOCKED (version_of shared)))
        (λ q u x at l. upgrade-others refl l (IsUnder h size) at) (numbers h size) (under h size) v w t in
        let own : LeavesOwn v w = all-in-turn Raise shared LeavesOwn own-self (λ u x y f g. own-then f g)
        (λ q u x l. upgrade-own refl l) (numbers h size) v w t in
        let all : LeavesOthers (IsUnder h size) (exchanges shared shared (word_of LOCKED (version_of word))
        (numbers h size)) [] v w =
        subst (λ n. LeavesOthers (IsUnder h size) (exchanges shared shared (word_of LOCKED n)
        (numbers h size)) [] v w) same others in
        record {
          leaves = leaves-by h size _ v w all own;
          runs = all.runs;
          seats = λ q at. (owns-at q at).seat;
          drafts = λ q at. (owns-at q at).draft;
          held = λ q at. (owns-at q at).held;
          last = λ q at. (owns-at q at).last;
          frames = all.keeps;
          out = all.out;
        }

  -- the same, of a word that is one share at the version
  pub raised-from : (word shared : ℕ) → shared ≡ word_of 1 (version_of word) → (v w : View X)
      → InTurn (λ q. UpgradeTold tied q shared) (numbers h size) shared v w
      → ((q : ℕ) → IsUnder h size q → seat_of v q ≡ writing_seat) → IsRaised h size word v w
  raised-from word shared is v w t before =
      raised word v w (subst (λ s. InTurn (λ q. UpgradeTold tied q s) (numbers h size) s v w) is t) before
      (word-version 1 (version_of word) (version-within word))

-- ---- given up

module _ {X : Type 0} (h size found : ℕ) (v w : View X) (t : InTurn UnshareTold (numbers h size) found v w)
    (before : (q : ℕ) → IsUnder h size q → seat_of v q ≡ writing_seat) where
  pub given-back : IsGivenBack h size v w
  given-back =
      let others : LeavesOthers (IsUnder h size) (unsharings found (numbers h size)) [] v w =
      others-in-turn UnshareTold found (IsUnder h size) (λ q. did_change (WordPlace.State q) found (found - 2 ^ 56))
      (λ q u x at l. unshare-others l (IsUnder h size) at) (numbers h size) (under h size) v w t in
      let own : LeavesOwn v w = all-in-turn UnshareTold found LeavesOwn own-self (λ u x y f g. own-then f g)
      (λ q u x l. unshare-own l) (numbers h size) v w t in
      record {
        found = found;
        leaves = leaves-by h size _ v w others own;
        runs = others.runs;
        seats = λ p at. made-at UnshareTold found p (λ u. seat_of u p ≡ writing_seat) (λ u. seat_of u p ≡ no_seat)
            (λ q u x l ne g. (unshare-others l (λ i. i ≡ q) refl).seats p ne ∙ g)
            (λ q u x l ne g. (unshare-others l (λ i. i ≡ q) refl).seats p ne ∙ g)
            (λ u x g l. unlocked-seat l g)
            (numbers h size) (numbers-apart h size) (numbers-has size h p at.0 at.1) v w t (before p at);
        frames = others.keeps;
        out = others.out;
      }
