-- What guards are to the view of their pass, and what their calls answer.
use Rattle.std.specs.Prelude.{[], ◌++◌, ◌+◌, ◌-◌, ◌<◌, ◌^◌, ◌∷◌, ◌≡◌, ◌≢◌, ◌≤◌, ◌⊎◌, Bool, false, length, List, None}
use Rattle.std.specs.Prelude.{Option, slice_set, Some, suc, true, ℕ}
use Rattle.vm_event.specs.Prelude.{frame_of, is_readable, LOCKED, mapping_of, MARKED, MAX_VERSION, one_share_more}
use Rattle.vm_event.specs.Prelude.{state_of, trans_word, UNLOCKED, unshared, version_of, word_of}
use Rattle.vm_rule.specs.Prelude.{did_change, did_exchange, did_load, did_store, dirty_in, draft_of, Each, entries_of}
use Rattle.vm_rule.specs.Prelude.{frame_read_by, has, IsLocking, IsUnheld, IsWhole, last_of, loads_at, LockValidates}
use Rattle.vm_rule.specs.Prelude.{LookTold, Mapping, next_after, no_held, Open, put_at, seat_of, Start, ties_below}
use Rattle.vm_rule.specs.Prelude.{without}
use Rattle.vm_rule.specs.Releases.{freed_by, numbers_left}
use Rattle.vm_rule.specs.declared.view.WordPlace.{WordPlace}
use Rattle.vm_step.specs.Prelude.{Did, HasWritten, HoldsPage, IsAlone, KeepsNumbers, KnowsAsBefore, KnowsSame}
use Rattle.vm_step.specs.Prelude.{ReadsAsBefore, Release, StaysAlone, View}
use Rattle.vm_guard.specs.LockSteps.{LocksBy, SharesAt, SharesBy}
use Rattle.vm_guard.specs.Quiet.{IsQuiet, IsSteady, LeavesNone}
use Rattle.vm_guard.specs.{Sure.IsKnownFree, Sure.known_word, Sure.KnowsBut, Sure.KnowsStates, Sure.unmarked_word, Takes.HasRoom}

-- the words of a page with their places, from i on
abbrev pub placed : ℕ → List ℕ → List (ℕ × ℕ)
placed i [] = []
placed i (x ∷ xs) = (i, x) ∷ placed (suc i) xs

-- the steps that take the mark of page p away, whose word was found: none where it was not Marked, else one exchange that expects that word
abbrev pub AreUnmarking : ℕ → ℕ → List Did → Type 0
AreUnmarking p word done =
    ((state_of word ≢ MARKED) × (done ≡ []))
    ⊎ ((state_of word ≡ MARKED)
    × ((found : ℕ) × (done ≡ did_exchange (WordPlace.State p) word found (word_of UNLOCKED (version_of word))
    ∷ [])))

-- the steps that make page p dirty in this frame: none where it is dirty, else its translation word is written so
abbrev pub dirty_steps : ℕ → ℕ → Bool → List Did
dirty_steps p frame true = []
dirty_steps p frame false = did_store (WordPlace.Translation p) (trans_word (Some (dirty_in frame))) ∷ []

module _ {X : Type 0} where
  -- ---- optimistic guards

  -- the pass still has the open read that began at this word of page p, which could be read, and reads it from this frame
  pub record IsReading (p word frame : ℕ) (v : View X) : Type 0 where
    pub page : p < v.start.pages
    pub frame_is : frame < v.start.frames
    pub open_word : is_readable (state_of word) ≡ true
    pub reading : (seat_of v p).reading ≡ Some (record { version = version_of word; frame = Some frame })
    -- that is the frame which a load of the page reads, also under a share of the page
    pub reads_from : frame_read_by v p ≡ Some frame

  -- since the guard began at this word, a step of the pass found or left the page Locked at that version, or at a later version
  pub record HasLeft (p word : ℕ) (v : View X) : Type 0 where
    pub earlier : List Did
    pub step : Did
    pub later : List Did
    pub cut : v.log ≡ earlier ++ step ∷ later
    pub at : step.at ≡ WordPlace.State p
    pub other : ℕ
    -- the guard's word could be read
    pub open_word : is_readable (state_of word) ≡ true
    pub was : (step.found ≡ Some other) ⊎ (step.wrote ≡ Some other)
    pub gone : (version_of word < version_of other) ⊎ ((state_of other ≡ LOCKED) × (version_of other ≡ version_of word))

  -- a guard began: the page's word was looked at, a mark that it had taken away, the translation word loaded, and the page looked at again
  pub record BeginsReading (p word frame : ℕ) (v w : View X) : Type 0 where
    pub done : List Did
    pub quiet : IsQuiet p done v w
    pub reads : IsReading p word frame w
    pub version : (last_of w p).version ≡ version_of word
    -- a guard of the page that the pass had before reads on, with the words that were loaded through it, or its read was left
    pub stays : (kept frame' : ℕ) → IsReading p kept frame' v
        → (IsReading p kept frame' w × (loads_at w p ≡ loads_at v p)) ⊎ HasLeft p kept w
    -- what the first look found, and the load of the translation word; the guard's word is what the second look found
    pub first : ℕ
    pub translation : ℕ
    pub clearing : List Did
    pub cut : done ≡ did_load (WordPlace.State p)
        first ∷ (clearing ++ did_load (WordPlace.Translation p) translation ∷ did_load (WordPlace.State p) word ∷ [])
    -- a mark that the first look found was to be taken away next
    pub clears : AreUnmarking p first clearing
    -- both looks found the same version, and the guard's frame is the one that the translation word names
    pub looks : version_of first ≡ version_of word
    pub names : frame_of (mapping_of translation) ≡ Some frame
    -- a pass that was alone knows the guard's word for the page's, which is the one that it knew before, without a mark
    pub table : KnowsBut p word v w
    pub known : IsAlone v → (known_word p w ≡ word) × (word ≡ unmarked_word (known_word p v))
    pub current : w.current ≡ true

  -- the mark of page p, where this word that was found of it has one, was taken away, unless the page had another word by then
  pub record IsUnmarked (p word : ℕ) (v w : View X) : Type 0 where
    pub done : List Did
    pub quiet : IsQuiet p done v w
    pub reads : ReadsAsBefore v w p
    pub clears : AreUnmarking p word done

  -- words of the page were loaded, and the read is still open
  pub record Loads (p word frame : ℕ) (loaded : List (ℕ × ℕ)) (v w : View X) : Type 0 where
    pub done : List Did
    pub quiet : IsQuiet p done v w
    pub reads : IsReading p word frame w
    pub loads : loads_at w p ≡ loads_at v p ++ loaded
    pub table : KnowsSame v w
    pub leaves : LeavesNone done

  -- the read was validated: every word loaded through it is the last version's, what is said is an entry there, every other open read is
  -- tied to the page's words, and what earlier validations tied to the page holds
  pub record IsValid (tied : Start → ℕ → List ℕ → ℕ → List ℕ → Type 0) (p word frame : ℕ) (said : Option X) (v w : View X) : Type 0 where
    pub done : List Did
    pub steady : IsSteady done [] v w
    pub mine : w.mine ≡ v.mine ++ entries_of v said
    pub entry : (others : List _) × (w.seen ≡ (v.seen ++ others) ++ entries_of v said)
    pub group : (w.pending ≡ v.pending) × (w.owed ≡ v.owed) × (w.next ≡ v.next)
    pub numbers : KeepsNumbers v w
    pub holds : (q : ℕ) → HoldsPage v w q
    pub knows : (q : ℕ) → IsLocking (seat_of v q) → KnowsAsBefore v w q
    pub reads : IsReading p word frame w
    pub same_reads : (q : ℕ) → ReadsAsBefore v w q
    pub alone : StaysAlone v w
    pub version : (last_of w p).version ≡ version_of word
    pub size : length (last_of w p).words ≡ w.start.size
    pub ties : w.ties ≡ ties_below v.start.pages v p (last_of w p).words ++ v.ties
    pub validates : v.start.tells ≡ true → LockValidates tied p (version_of word) (last_of w p).words v
    pub table : KnowsSame v w
    pub leaves : LeavesNone done
    pub current : w.current ≡ true

  -- ---- exclusive guards

  -- the pass holds page p exclusively, in this frame, dirty or not, at this version; it has not begun to release it,
  -- and its block is at home
  pub record IsHolding (p frame version : ℕ) (dirty : Bool) (v : View X) : Type 0 where
    pub page : p < v.start.pages
    pub frame_is : frame < v.start.frames
    pub below : version < MAX_VERSION
    pub owns : (seat_of v p).exclusive ≡ true
    pub stands : (put_at no_held v.held p).mapping ≡ Some (record { frame = frame; dirty = dirty })
    pub owned : (put_at no_held v.held p).owner ≡ p + 1
    pub told : (put_at no_held v.held p).fault ≡ (put_at no_held v.held p).block.count
    pub at : (last_of v p).version ≡ version
    pub size : length (draft_of v p) ≡ v.start.size
    pub free : has p v.pending ≡ false

  -- the call made these steps and these releases, and all but page p is as it was
  pub record IsElsewhere (p : ℕ) (done : List Did) (own : List Release) (v w : View X) : Type 0 where
    pub steady : IsSteady done own v w
    pub holds : (q : ℕ) → q ≢ p → HoldsPage v w q
    pub knows : (q : ℕ) → q ≢ p → IsLocking (seat_of v q) → KnowsAsBefore v w q
    pub others : (q : ℕ) → q ≢ p → ReadsAsBefore v w q

  -- page p was locked exclusively: its draft is its last words; the open read of the page that was at this version saw those words
  pub record IsLocked (tied : Start → ℕ → List ℕ → ℕ → List ℕ → Type 0) (p frame version : ℕ) (dirty : Bool) (v w : View X) : Type 0 where
    pub done : List Did
    pub elsewhere : IsElsewhere p done [] v w
    pub mine : w.mine ≡ v.mine
    pub group : (w.pending ≡ v.pending) × (w.owed ≡ v.owed) × (w.next ≡ v.next)
    pub numbers : KeepsNumbers v w
    pub alone : StaysAlone v w
    -- the pass had no lock of the page, and has this one; its read of the page is closed
    pub before : IsUnheld v p
    pub seat : seat_of w p ≡ record (seat_of v p) { exclusive = true; reading = None }
    pub holding : IsHolding p frame version dirty w
    pub draft : draft_of w p ≡ (last_of w p).words
    pub validates : v.start.tells ≡ true → LockValidates tied p version (last_of w p).words v
    pub wrote : HasWritten done (WordPlace.State p) (word_of LOCKED version)
    pub table : KnowsBut p (word_of LOCKED version) v w
    pub current : w.current ≡ true
    -- the pass was reading the page at no later version
    pub older : (o : Open) → (seat_of v p).reading ≡ Some o → o.version ≤ version
    -- the steps are at the page's state word, and at its translation word; one exchange alone left a word
    pub places_are : Each (λ d. (d.at ≡ WordPlace.State p) ⊎ (d.at ≡ WordPlace.Translation p)) done
    pub takes : LocksBy p version (Some (record { frame = frame; dirty = dirty })) done

  -- page p, which the pass holds and which stood in this frame, is dirty there; nothing else has changed
  pub record IsDirtied (p frame : ℕ) (dirty : Bool) (v w : View X) : Type 0 where
    pub done : List Did
    pub steps : done ≡ dirty_steps p frame dirty
    pub elsewhere : IsElsewhere p done [] v w
    pub mine : w.mine ≡ v.mine
    pub group : (w.pending ≡ v.pending) × (w.owed ≡ v.owed) × (w.next ≡ v.next)
    pub numbers : KeepsNumbers v w
    pub alone : StaysAlone v w
    pub holds : HoldsPage v w p
    pub reads : ReadsAsBefore v w p
    pub held : put_at no_held w.held p ≡ record (put_at no_held v.held p) { mapping = Some (dirty_in frame) }
    pub last : last_of w p ≡ last_of v p
    pub draft : draft_of w p ≡ draft_of v p
    pub states : KnowsStates v w

  -- word i of the draft of page p, which stood in this frame, is x now; the page was made dirty before, and nothing else has changed
  pub record IsSet (p frame : ℕ) (dirty : Bool) (i x : ℕ) (v w : View X) : Type 0 where
    pub done : List Did
    pub steps : done ≡ dirty_steps p frame dirty ++ did_store (WordPlace.Content frame i) x ∷ []
    pub elsewhere : IsElsewhere p done [] v w
    pub mine : w.mine ≡ v.mine
    pub group : (w.pending ≡ v.pending) × (w.owed ≡ v.owed) × (w.next ≡ v.next)
    pub numbers : KeepsNumbers v w
    pub alone : StaysAlone v w
    pub holds : HoldsPage v w p
    pub reads : ReadsAsBefore v w p
    pub held : put_at no_held w.held p ≡ record (put_at no_held v.held p) { mapping = Some (dirty_in frame) }
    pub last : last_of w p ≡ last_of v p
    pub draft : draft_of w p ≡ slice_set (draft_of v p) i x
    pub states : KnowsStates v w

  -- page p was released: its draft is its last version, the next one, and what is said is an entry there
  pub record IsReleased (p version : ℕ) (said : Option X) (v w : View X) : Type 0 where
    pub done : List Did
    pub elsewhere : IsElsewhere p done (record { page = p; version = version + 1; words = draft_of v p } ∷ []) v w
    pub mine : w.mine ≡ v.mine ++ entries_of v said
    pub entry : (others : List _) × (w.seen ≡ (v.seen ++ others) ++ entries_of v said)
    pub group : (w.pending ≡ v.pending) × (w.owed ≡ without p v.owed) × (w.next ≡ next_after p v.next)
    -- the pass holds the page's number no more, where its words are not all 0; where they were and are now, it has its number still to give
    pub numbers : (w.numbers ≡ numbers_left p v) × (w.freed ≡ freed_by v (p ∷ []) ++ v.freed)
    pub seat : seat_of w p ≡ record (seat_of v p) { exclusive = false }
    pub loads : loads_at w p ≡ loads_at v p
    pub last : last_of w p ≡ record { version = version + 1; words = draft_of v p }
    -- a pass that is alone finds the last words of each other page as they were
    pub alone : IsWhole v → v.current ≡ true → (q : ℕ) → q ≢ p → (last_of w q).words ≡ (last_of v q).words
    pub wrote : HasWritten done (WordPlace.State p) (version + 1)
    -- the release was the only step of the call
    pub steps : done ≡ did_store (WordPlace.State p) (version + 1) ∷ []
    pub places_are : Each (λ d. d.at ≡ WordPlace.State p) done
    pub table : KnowsBut p (version + 1) v w
    -- a pass that was alone knows the page to be free then, at no later version
    pub free : IsAlone v → IsKnownFree p w × (version_of (known_word p w) ≤ version + 1)
    pub current : w.current ≡ true

  -- ---- shared guards

  -- the pass has a share of page p, which stands in this frame
  pub record IsSharing (p frame : ℕ) (v : View X) : Type 0 where
    pub page : p < v.start.pages
    pub frame_is : frame < v.start.frames
    pub has_share : 1 ≤ (seat_of v p).shares
    pub stands : (m : Mapping) × ((put_at no_held v.held p).mapping ≡ Some m) × (m.frame ≡ frame)

  -- page p got one share more, and its open read is closed; that read, if it was at the page's version, saw its last words
  pub record IsShared (tied : Start → ℕ → List ℕ → ℕ → List ℕ → Type 0) (p frame : ℕ) (v w : View X) : Type 0 where
    pub done : List Did
    pub elsewhere : IsElsewhere p done [] v w
    pub mine : w.mine ≡ v.mine
    pub group : (w.pending ≡ v.pending) × (w.owed ≡ v.owed) × (w.next ≡ v.next)
    pub numbers : KeepsNumbers v w
    pub alone : StaysAlone v w
    pub seat : seat_of w p ≡ record (seat_of v p) { shares = (seat_of v p).shares + 1; reading = None }
    pub knows : IsLocking (seat_of v p) → KnowsAsBefore v w p
    pub sharing : IsSharing p frame w
    -- one exchange alone left a word
    pub takes : SharesBy p frame done
    pub size : length (last_of w p).words ≡ w.start.size
    pub validates : v.start.tells ≡ true → LockValidates tied p (last_of w p).version (last_of w p).words v
    -- the page's word has one share more
    pub table : KnowsBut p (word_of (one_share_more (state_of (known_word p v))) (version_of (known_word p v))) v w
    pub current : w.current ≡ true

  -- a look at page p found this word, which is of this version, not Locked, and has room for a share
  pub record FindsRoom (tied : Start → ℕ → List ℕ → ℕ → List ℕ → Type 0) (p version word : ℕ) (v w : View X) : Type 0 where
    pub look : LookTold tied p None word v w
    pub version_is : version_of word ≡ version
    pub unlocked : state_of word ≢ LOCKED
    pub small : state_of word < 256
    pub room : HasRoom word

  -- page p, which was read at this version, got one share more at it: what is said is an entry there; the open read
  -- is closed, and saw the last words
  pub record IsSharedAt (tied : Start → ℕ → List ℕ → ℕ → List ℕ → Type 0) (p frame version : ℕ) (said : Option X)
      (v w : View X) : Type 0 where
    pub done : List Did
    pub elsewhere : IsElsewhere p done [] v w
    pub mine : w.mine ≡ v.mine ++ entries_of v said
    pub entry : (others : List _) × (w.seen ≡ (v.seen ++ others) ++ entries_of v said)
    pub group : (w.pending ≡ v.pending) × (w.owed ≡ v.owed) × (w.next ≡ v.next)
    pub numbers : KeepsNumbers v w
    pub alone : StaysAlone v w
    pub seat : seat_of w p ≡ record (seat_of v p) { shares = (seat_of v p).shares + 1; reading = None }
    pub knows : IsLocking (seat_of v p) → KnowsAsBefore v w p
    -- a pass that writes the page back had a share of it before
    pub writes : (seat_of v p).writing ≡ true → 1 ≤ (seat_of v p).shares
    pub sharing : IsSharing p frame w
    -- one exchange alone left a word
    pub takes : SharesAt p version done
    pub version_is : (last_of w p).version ≡ version
    pub size : length (last_of w p).words ≡ w.start.size
    pub validates : v.start.tells ≡ true → LockValidates tied p version (last_of w p).words v
    -- the page's word has one share more
    pub table : KnowsBut p (word_of (one_share_more (state_of (known_word p v))) (version_of (known_word p v))) v w
    pub current : w.current ≡ true

  -- one share of page p was given up
  pub record IsUnshared (p : ℕ) (v w : View X) : Type 0 where
    pub done : List Did
    pub elsewhere : IsElsewhere p done [] v w
    pub mine : w.mine ≡ v.mine
    pub group : (w.pending ≡ v.pending) × (w.owed ≡ v.owed) × (w.next ≡ v.next)
    pub numbers : KeepsNumbers v w
    pub alone : StaysAlone v w
    pub seat : seat_of w p ≡ unshared (seat_of v p)
    pub loads : loads_at w p ≡ loads_at v p
    pub knows : KnowsAsBefore v w p
    -- by one step, which took a share from the word that it found
    pub steps : (found : ℕ) × (done ≡ did_change (WordPlace.State p) found (found - 2 ^ 56) ∷ [])
    -- the page's word has one share less
    pub table : KnowsBut p (known_word p v - 2 ^ 56) v w
    pub known : IsAlone v → known_word p w ≡ known_word p v - 2 ^ 56
    pub current : w.current ≡ true
