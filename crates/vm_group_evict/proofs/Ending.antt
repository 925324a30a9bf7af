-- The parts of an eviction one behind another: what the steps in between may be asked for, and what all of them leave.
use Rattle.std.proofs.lemmas.Bool.{false≢true}
use Rattle.std.specs.Prelude.{map}
use Rattle.vm_event.proofs.PageFacts.{none-some}
use Rattle.vm_event.specs.Prelude.{LOCKED, MAX_VERSION, no_seat, version_of, word_of}
use Rattle.vm_evict.proofs.Locking.{may-unshare}
use Rattle.vm_evict.proofs.Moving.{come-still, come-then}
use Rattle.vm_evict.specs.Evictions.{FramesCome, HasReleased}
use Rattle.vm_evict.specs.{Writes.IsUnderWriteBack, Writes.writing_seat}
use Rattle.vm_group_evict.proofs.LeavingPages.{leaves-by, leaves-then}
use Rattle.vm_group_evict.proofs.Prelude.{[], ap, append-none, append_assoc, arith, cases_lt, Did, false, has, held_at}
use Rattle.vm_group_evict.proofs.Prelude.{inl}
use Rattle.vm_group_evict.proofs.Prelude.{inr, IsLocking, IsUnder, last_of, LeavesGroup, LeavesOthers, List, None}
use Rattle.vm_group_evict.proofs.Prelude.{Origin, refl, Release, seat_of, Some, subst, sym, true, View, ℕ, ⊎_elim, ◌++◌}
use Rattle.vm_group_evict.proofs.Prelude.{◌+◌, ◌<◌, ◌∙◌}
use Rattle.vm_group_evict.proofs.Prelude.{◌∷◌, ◌≡◌, ◌≢◌, ◌≤◌, ◌⊎◌}
use Rattle.vm_group_evict.specs.Emptying.{AreEmptied, IsOwnedClean}
use Rattle.vm_group_evict.specs.Ends.{IsGroupFailed, IsGroupFreed, IsGroupLost}
use Rattle.vm_group_evict.specs.Locks.{IsGivenBack, IsLeftEvicted, IsRaised, IsTakenToWrite}
use Rattle.vm_group_evict.specs.Saving.{AreUnderWriteBack, IsGroupSaved, IsGroupUnsaved}
use Rattle.vm_group_evict.specs.declared.save.Failure.{Failure}
use Rattle.vm_group_guard.proofs.Pages.{under}
use Rattle.vm_group_guard.proofs.Quiet.{calm-self, calm-then, IsCalm, quiet-by}
use Rattle.vm_group_guard.proofs.Turns.{all-in-turn, others-in-turn}
use Rattle.vm_group_guard.specs.{Reading.IsGroupQuiet, Steps.exchanges}
use Rattle.vm_rule.proofs.WordFacts.{version-within, word-state, word-version}
use Rattle.vm_rule.specs.Locks.{MayRaiseLock}
use Rattle.vm_rule.specs.Prelude.{Brings, IsUnheld, last_in, numbers, Seat}
use Rattle.vm_rule.specs.declared.view.Held.{Held}
use Rattle.vm_step.proofs.Alone.{stays-alone}
use Rattle.vm_step.proofs.Asides.{alone-then, keeps-then}
use Rattle.vm_step.proofs.steps.Leaving.{holds-still, others-still}
use Rattle.vm_step.proofs.steps.Unchanged.{still-holds, still-knows, still-own, still-seat}
use Rattle.vm_step.specs.Over.{InTurn}
use Rattle.vm_step.specs.Prelude.{HoldsPage, IsAsideOf, KeepsFrames, MayEvict, MayUnshare, Note, StaysAlone}

-- a page is one of the group, or is not
pub under-or-not : (h size q : ℕ) → IsUnder h size q ⊎ (IsUnder h size q → ⊥)
under-or-not h size q =
    ⊎_elim
    (λ l. inr (λ (at : IsUnder h size q). let low : h ≤ q = at.0 in omega (arith, l, low)))
    (λ low. ⊎_elim (λ high. inl (low, high))
    (λ past. inr (λ (at : IsUnder h size q). let high : q < h + size = at.1 in omega (arith, past, high)))
    (cases_lt q (h + size)))
    (cases_lt q h)

-- a seat with no lock
unlocked : (s : Seat) → s.shares ≡ 0 → s.exclusive ≡ false → IsLocking s → ⊥
unlocked s none free l =
    ⊎_elim (λ e. false≢true (sym free ∙ e)) (λ (k : 1 ≤ s.shares). omega (arith, none, k)) l

module _ {X : Type 0} (h size : ℕ) where
  -- ---- exchanges that were lost

  -- nothing of the view is another
  pub record IsStill (done : List Did) (v w : View X) : Type 0 where
    pub others : LeavesOthers (IsUnder h size) done [] v w
    pub calm : IsCalm v w
    pub seats : (q : ℕ) → seat_of w q ≡ seat_of v q
    pub held : (q : ℕ) → held_at w q ≡ held_at v q

  pub still-all : (T : ℕ → ℕ → View X → View X → Type 0) (n : ℕ) (did : ℕ → Did)
      → ((q : ℕ) (u x : View X) → T q n u x → Brings (did q) [] [] u u x) → (v w : View X)
      → InTurn T (numbers h size) n v w → IsStill (map did (numbers h size)) v w
  still-all T n did each v w t = record {
    others = others-in-turn T n (IsUnder h size) did (λ q u x at l. others-still (each q u x l)) (numbers h size)
        (under h size) v w t;
    calm = all-in-turn T n IsCalm calm-self calm-then
        (λ q u x l. let b = each q u x l in record { own = still-own b; holds = still-holds b; knows = still-knows b })
        (numbers h size) v w t;
    seats = all-in-turn T n (λ u x. (p : ℕ) → seat_of x p ≡ seat_of u p) (λ u p. refl) (λ u x y f g p. g p ∙ f p)
        (λ q u x l. still-seat (each q u x l)) (numbers h size) v w t;
    held = all-in-turn T n (λ u x. (p : ℕ) → held_at x p ≡ held_at u p) (λ u p. refl) (λ u x y f g p. g p ∙ f p)
        (λ q u x l p. ap (λ (y : View X). held_at y p) (each q u x l).view) (numbers h size) v w t;
  }

  pub still-quiet : (done : List Did) (v w : View X) → IsStill done v w → IsGroupQuiet h size done v w
  still-quiet done v w s = quiet-by h size done v w s.others s.calm

  -- ---- what a call leaves that gave up all it took

  pub aside-by : (done : List Did) (v w : View X) → LeavesGroup h size done v w
      → ((q : ℕ) → IsUnder h size q → IsUnheld v q) → ((q : ℕ) → IsUnder h size q → seat_of w q ≡ no_seat)
      → w.out ≡ v.out → StaysAlone v w → IsAsideOf (IsUnder h size) done v w
  aside-by done v w f before after out alone =
      let holds : (q : ℕ) → HoldsPage v w q = λ q.
      ⊎_elim
      (λ at. let b = before q at in
      record {
        shares = ap (λ (s : Seat). s.shares) (after q at) ∙ sym b.shares;
        exclusive = ap (λ (s : Seat). s.exclusive) (after q at) ∙ sym b.exclusive;
        writing = ap (λ (s : Seat). s.writing) (after q at) ∙ sym b.writing;
      })
      (λ ne. holds-still q (f.seats q ne)) (under-or-not h size q) in
      record {
        log = f.log;
        live = f.live;
        start = f.start;
        parts = f.parts;
        mine = f.mine;
        seen = f.seen;
        releases = f.releases;
        out = out;
        ties = f.ties;
        group = f.group;
        numbers = f.numbers;
        holds = holds;
        knows = λ q l. ⊎_elim
            (λ at. absurd (unlocked (seat_of v q) (before q at).shares (before q at).exclusive l))
            (λ ne. record { held = f.held q ne; draft = f.drafts q ne; last = f.last q ne l }) (under-or-not h size q);
        others = λ q ne. record { reading = ap (λ (s : Seat). s.reading) (f.seats q ne); loads = f.loads q ne };
        alone = alone;
      }

  -- ---- what the steps in between ask for

  -- a share of each page may be given up
  pub may-give : (v : View X) → ((q : ℕ) → IsUnder h size q → IsUnderWriteBack q v) → (q : ℕ) → has q
      (numbers h size) ≡ true
      → MayUnshare v q
  may-give v writing q is = let u = writing q (under h size q is) in may-unshare q v u.seat u.told u.home

  -- so it may behind exchanges that were lost
  pub still-give : (done : List Did) (v w : View X) → IsStill done v w → AreUnderWriteBack h size v → (q : ℕ)
      → IsUnder h size q → MayUnshare w q
  still-give done v w s writing q at =
      let u = (writing q at).0 in
      let held = s.held q in
      may-unshare q w (s.seats q ∙ u.seat)
      (ap (λ (m : Held). m.fault) held ∙ u.told ∙ ap (λ (m : Held). m.block.count) (sym held)) (s.others.out ∙ u.home)

  -- the lock may become exclusive
  pub may-raise : (word : ℕ) → version_of word < MAX_VERSION → (v : View X) → AreUnderWriteBack h size v → (q : ℕ)
      → has q (numbers h size) ≡ true → MayRaiseLock v q (word_of 1 (version_of word))
  may-raise word below v writing q is =
      let u = (writing q (under h size q is)).0 in
      record {
        state = word-state 1 (version_of word) (version-within word);
        below = subst (λ n. n < MAX_VERSION) (sym (word-version 1 (version_of word) (version-within word))) below;
        writes = ap (λ (s : Seat). s.writing) u.seat;
        one = ap (λ (s : Seat). s.shares) u.seat;
      }

  -- ---- the ends

  module _ (some : 1 ≤ size) (word : ℕ) (v taken : View X) (home : v.out ≡ None)
      (takes : IsTakenToWrite h size word v taken) where
    abbrev taking : List Did
    taking = exchanges word word (word_of 1 (version_of word)) (numbers h size)

    abbrev raising : List Did
    raising = exchanges (word_of 1 (version_of word)) (word_of 1 (version_of word)) (word_of LOCKED (version_of word))
        (numbers h size)

    first : IsUnder h size h
    first = (omega arith, omega (arith, some))

    takes-alone : StaysAlone v taken
    takes-alone = stays-alone _ v taken takes.leaves.start takes.runs

    -- the write of a page failed
    pub failed : (failure : Failure) (unsaved w : View X) → IsGroupUnsaved h size failure taken unsaved
        → IsGivenBack h size unsaved w → IsGroupFailed h size word failure v w
    failed failure unsaved w fails gives =
        let leaves = leaves-then h size _ _ v unsaved w
        (leaves-then h size _ _ v taken unsaved takes.leaves fails.leaves) gives.leaves in
        let out : w.out ≡ v.out = gives.out ∙ (fails.under h first).home ∙ sym home in
        let alone = alone-then v unsaved w (leaves-then h size _ _ v taken unsaved takes.leaves fails.leaves).parts
        (alone-then v taken unsaved takes.leaves.parts takes-alone
        (stays-alone _ taken unsaved fails.leaves.start fails.runs))
        (stays-alone _ unsaved w gives.leaves.start gives.runs) in
        record {
          taken = taken;
          unsaved = unsaved;
          takes = takes;
          fails = fails;
          gives = gives;
          aside = (_, aside-by _ v w leaves takes.before gives.seats out alone);
          frames = (
            gives.frames.frames ∙ fails.frames.0 ∙ takes.frames.frames,
            gives.frames.contents ∙ fails.frames.1 ∙ takes.frames.contents,
          );
          notes = gives.frames.notes ∙ fails.noted
              ∙ ap (λ (l : List Note). l ++ record { page = failure.page; count = failure.count } ∷ []) takes.frames.notes;
        }

    module _ (written : ℕ) (saved : View X) (saves : IsGroupSaved h size written taken saved) where
      all-saved : LeavesGroup h size (taking ++ saves.done) v saved
      all-saved = leaves-then h size taking saves.done v taken saved takes.leaves saves.are.leaves

      saved-alone : StaysAlone v saved
      saved-alone = alone-then v taken saved takes.leaves.parts takes-alone
          (stays-alone saves.done taken saved saves.are.leaves.start saves.are.runs)

      saved-frames : KeepsFrames v saved
      saved-frames = record {
        frames = saves.are.frames.0 ∙ takes.frames.frames;
        contents = saves.are.frames.1 ∙ takes.frames.contents;
        notes = saves.notes ∙ takes.frames.notes;
      }

      pub saved-writing : (q : ℕ) → IsUnder h size q → seat_of saved q ≡ writing_seat
      saved-writing q at = (saves.are.under q at).0.seat

      -- another share came to the group
      pub lost-share : (found : ℕ) (lost w : View X) → found ≢ word_of 1 (version_of word)
          → IsStill (exchanges (word_of 1 (version_of word)) found (word_of LOCKED (version_of word))
          (numbers h size)) saved lost
          → IsGivenBack h size lost w → IsGroupLost h size word written v w
      lost-share found lost w ne s gives =
          let still = leaves-by h size _ saved lost s.others s.calm.own in
          let more = leaves-then h size _ _ v saved lost all-saved still in
          let leaves = leaves-then h size _ _ v lost w more gives.leaves in
          let out : w.out ≡ v.out = gives.out ∙ s.others.out ∙ (saves.are.under h first).0.home ∙ sym home in
          let alone = alone-then v lost w more.parts
          (alone-then v saved lost all-saved.parts saved-alone (stays-alone _ saved lost s.others.start s.others.runs))
          (stays-alone _ lost w gives.leaves.start gives.runs) in
          record {
            why = inr (record {
              taken = taken;
              saved = saved;
              lost = lost;
              takes = takes;
              saves = saves;
              loses = (found, ne, still-quiet _ saved lost s);
              gives = gives;
            });
            aside = (_, aside-by _ v w leaves takes.before gives.seats out alone);
            frames = keeps-then v lost w (keeps-then v saved lost saved-frames s.others.keeps) gives.frames;
          }

      module _ (raised : View X) (raises : IsRaised h size word saved raised) where
        -- each page may be taken out of its frame
        pub owned-clean : (q : ℕ) → IsUnder h size q → (frame : ℕ) × IsOwnedClean q frame raised
        owned-clean q at =
            let c = saves.are.clean q at in
            let u = (saves.are.under q at).0 in
            let held = raises.held q at in (
              c.0,
              record {
                seat = raises.seats q at;
                stands = ap (λ (m : Held). m.mapping) held ∙ c.1;
                told = ap (λ (m : Held). m.fault) held ∙ u.told ∙ ap (λ (m : Held). m.block.count) (sym held);
                draft = raises.drafts q at;
              },
            )

        module _ (frames : List ℕ) (emptied : View X) (empties : AreEmptied h size frames raised emptied) where
          all-raised : LeavesGroup h size ((taking ++ saves.done) ++ raising) v raised
          all-raised = leaves-then h size (taking ++ saves.done) raising v saved raised all-saved raises.leaves

          all-emptied : LeavesGroup h size (((taking ++ saves.done) ++ raising) ++ empties.done) v emptied
          all-emptied = leaves-then h size
              ((taking ++ saves.done) ++ raising) empties.done v raised emptied all-raised empties.leaves

          pub at-version : (q : ℕ) → IsUnder h size q → (last_of emptied q).version ≡ version_of word
          at-version q at =
              let writing : IsLocking (seat_of taken q) = inr (subst (λ (s : Seat). 1 ≤ s.shares) (sym
              (takes.under q at).0.seat) (omega arith)) in
              let owning : IsLocking (seat_of raised q) = inl (ap (λ (s : Seat). s.exclusive) (raises.seats q at)) in
              ap (λ y. y.version) ((empties.keeps q).last owning ∙ raises.last q at ∙ (saves.are.keeps q).last writing)
              ∙ takes.at q at

          -- each page may be released as evicted
          pub may-evict : (q : ℕ) → has q (numbers h size) ≡ true → MayEvict emptied q (version_of word)
          may-evict q is =
              let at = under h size q is in
              let e = empties.empty q at in
              let none : emptied.out ≡ None = empties.out ∙ raises.out ∙ (saves.are.under h first).0.home in
              record {
                owns = ap (λ (s : Seat). s.exclusive) e.seat;
                empty = e.empty;
                told = e.told;
                home = λ o is-out. absurd (none-some o (sym none ∙ is-out));
                at = sym (at-version q at);
                free = ap (has q) all-emptied.group.0 ∙ takes.free q at;
                paid = ap (has q) all-emptied.group.1 ∙ (takes.before q at).paid;
              }

          pub next-else : (q : ℕ) → IsUnder h size q → emptied.next ≢ Some q
          next-else q at e = (takes.before q at).next (sym all-emptied.group.2 ∙ e)

          released-from : (q : ℕ) (w : View X) → HasReleased q word emptied w → HasReleased q word v w
          released-from q w r =
              let more = all-emptied.releases in
              let front : emptied.releases ++ r.before ≡ v.releases ++ (more.0 ++ r.before) =
              ap (λ (l : List Release). l ++ r.before) more.1 ∙ append_assoc v.releases more.0 r.before in
              record {
                words = r.words;
                before = more.0 ++ r.before;
                after = r.after;
                releases = r.releases
                    ∙ ap (λ (l : List Release).
                    (l ++ record { page = q; version = version_of word + 1; words = r.words } ∷ []) ++ r.after) front;
                same = ap (λ (l : List Release). last_in v.start l q) (sym front)
                    ∙ ap (λ (o : Origin). last_in o (emptied.releases ++ r.before) q) (sym all-emptied.start) ∙ r.same;
              }

          -- it was evicted
          pub freed : (w : View X) → IsLeftEvicted h size word emptied w → IsGroupFreed h size word frames written v w
          freed w leaves =
              let all = leaves-then h size _ _ v emptied w all-emptied leaves.leaves in
              let out : w.out ≡ v.out = leaves.out ∙ empties.out ∙ raises.out ∙ (saves.are.under h first).0.home
              ∙ sym home in
              let raised-alone = alone-then v saved raised all-saved.parts saved-alone
              (stays-alone _ saved raised raises.leaves.start raises.runs) in
              let emptied-alone = alone-then v raised emptied all-raised.parts raised-alone
              (stays-alone empties.done raised emptied empties.leaves.start empties.runs) in
              let before : KeepsFrames v raised = keeps-then v saved raised saved-frames raises.frames in
              let came : FramesCome frames v emptied = come-then [] frames v raised emptied all-raised.start
              (come-still v raised before.frames before.contents) empties.come in
              let come : FramesCome (frames ++ []) v w = come-then frames [] v emptied w all-emptied.start came
              (come-still emptied w leaves.frames.frames leaves.frames.contents) in
              record {
                taken = taken;
                saved = saved;
                raised = raised;
                emptied = emptied;
                takes = takes;
                saves = saves;
                raises = raises;
                empties = empties;
                leaves = leaves;
                aside = (
                  _,
                  aside-by _ v w all takes.before leaves.seats out
                      (alone-then v emptied w all-emptied.parts emptied-alone leaves.alone),
                );
                come = subst (λ l. FramesCome l v w) (append-none frames) come;
                notes = leaves.frames.notes ∙ empties.notes ∙ before.notes;
                released = λ q at. released-from q w (leaves.released q at);
              }
