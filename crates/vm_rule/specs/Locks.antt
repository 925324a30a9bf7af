-- What the steps on locks tell: an exclusive lock, a share or a lock for write-back that is tried, a share that is
-- given up, and a lock for write-back that becomes exclusive. So do the steps on marks. A step that expects a word
-- changes the view only where it found that word.
use Rattle.std.specs.Prelude.{[], Bool, false, if◌then◌else◌, IsSome, length, List, nat_lt, None, Option, Some, true}
use Rattle.std.specs.Prelude.{ℕ, ◌++◌, ◌+◌, ◌-◌, ◌<◌, ◌==◌, ◌^◌, ◌||◌, ◌∷◌, ◌≡◌, ◌≢◌, ◌≤◌}
use Rattle.vm_event.specs.Prelude.{EVICTED, LoadsAre, LOCKED, mapping_of, MAX_VERSION, one_share_more, state_of}
use Rattle.vm_event.specs.Prelude.{unshared, version_of, word_of}
use Rattle.vm_event.specs.{declared.event.Mapping.Mapping, declared.event.Open.Open, declared.event.Seat.Seat}
use Rattle.vm_laws_others.specs.Leaves.{stands_dirty}
use Rattle.vm_numbers.specs.Hands.{all_zero}
use Rattle.vm_owner.specs.{declared.Entry.Entry, Kept.Start, Numbers.has}
use Rattle.vm_rule.specs.{Brought.Brings, Brought.entry_of, declared.view.Held.Held, declared.view.View.View}
use Rattle.vm_rule.specs.{Log.did_change, Log.did_exchange, Looks.IsOlder, Looks.IsSinceAll, Puts.put, Puts.put_at}
use Rattle.vm_rule.specs.{Reading.last_of, Rule.began_of, Rule.no_held, Views.Each, Views.loads_at, Views.seat_of}
use Rattle.vm_rule.specs.declared.view.WordPlace.TheVariants as places

-- what a lock of page p tells that was taken at this word, while the page had these last words: whether the page is
-- resident, and where; that its frame's owner word names it; its fault word; and that the block of a page that is
-- clean or not resident has its last words
pub record IsHeldAt (p expects frames : ℕ) (tells : Bool) (words : List ℕ) (h : Held) : Type 0 where
  pub empty : state_of expects ≡ EVICTED → h.mapping ≡ None
  pub resident : state_of expects ≢ EVICTED → IsSome h.mapping
  pub inside : (m : Mapping) → h.mapping ≡ Some m → m.frame < frames
  pub owned : state_of expects ≢ EVICTED → h.owner ≡ p + 1
  pub told : h.fault ≡ h.block.count
  pub device : tells ≡ true → ((m : Mapping) → h.mapping ≡ Some m → m.dirty ≡ false) → h.block.words ≡ words

-- the seat has the page locked
abbrev pub has_lock : Seat → Bool
has_lock s = s.exclusive || (s.writing || nat_lt 0 s.shares)

module _ {X : Type 0} where
  -- what a lock of p validates that was taken at a word of this version, while p had these last words: the pass's
  -- open read, and the ties
  pub record LockValidates (tied : Start → ℕ → List ℕ → ℕ → List ℕ → Type 0) (p version : ℕ) (words : List ℕ) (v : View X) : Type 0 where
    pub valid : (o : Open) → (seat_of v p).reading ≡ Some o → o.version ≡ version → LoadsAre words (loads_at v p)
    pub holds : Each (λ t. t.page ≡ p → t.version ≡ version → tied (began_of v.start) t.of t.words p words) v.ties
    pub itself : tied (began_of v.start) p words p words

  -- p is locked exclusively: the open read is closed, the draft is the last words, and the pass knows the page
  abbrev pub locked_view : ℕ → Held → List ℕ → View X → View X
  locked_view p h words v =
      record v {
        seats = put p (record (seat_of v p) { exclusive = true; reading = None }) v.seats;
        loads = put p [] v.loads;
        held = put p h v.held;
        drafts = put p words v.drafts;
      }

  -- the pass has no lock of page p, did not claim it for a group still to be released, and does not hold it as the
  -- next page
  pub record IsUnheld (v : View X) (p : ℕ) : Type 0 where
    pub exclusive : (seat_of v p).exclusive ≡ false
    pub shares : (seat_of v p).shares ≡ 0
    pub writing : (seat_of v p).writing ≡ false
    pub paid : has p v.owed ≡ false
    pub next : v.next ≢ Some p

  -- a lock was tried: taken where the word is the one expected, with what it validates and what the pass knows of the
  -- page then; else lost
  pub record LockTold (tied : Start → ℕ → List ℕ → ℕ → List ℕ → Type 0) (p expects found : ℕ) (v w : View X) : Type 0 where
    pub held : Held
    pub brings : Brings (did_exchange (places.State p) expects found (word_of LOCKED (version_of expects))) [] [] v
        (if found == expects then locked_view p held (last_of w p).words v else v) w
    pub version : (last_of w p).version ≡ version_of found
    pub since : IsSinceAll p found v.log
    pub older : IsOlder found (seat_of v p).reading
    pub size : length (last_of w p).words ≡ w.start.size
    pub stands : found ≡ expects → IsHeldAt p expects v.start.frames v.start.tells (last_of w p).words held
    -- a page that was not locked is no member still to be released
    pub free : found ≡ expects → has p v.pending ≡ false
    pub unheld : found ≡ expects → IsUnheld v p
    -- a page whose number the pass holds has zero words
    pub zero : v.start.tells ≡ true → found ≡ expects → has p v.numbers ≡ true → all_zero (last_of w p).words ≡ true
    -- a page whose translation was loaded as clean while the pass read it at this version is clean
    pub clean : found ≡ expects → state_of expects ≢ EVICTED →
        Each (λ t. t.page ≡ p → t.version ≡ version_of expects → stands_dirty held.mapping ≡ true →
        stands_dirty (mapping_of t.word) ≡ true) v.translations
    pub validates : v.start.tells ≡ true → found ≡ expects
        → LockValidates tied p (version_of expects) (last_of w p).words v

  -- the entry that comes with what is said where a step is taken, if something is said
  abbrev pub entries_where : View X → Option X → Bool → List (Entry X)
  entries_where v None taken = []
  entries_where v (Some x) taken = if taken then entry_of v x ∷ [] else []

  -- the pass's own entries with what is said
  abbrev pub mine_with : View X → Option X → List (Entry X)
  mine_with v None = v.mine
  mine_with v (Some x) = v.mine ++ entry_of v x ∷ []

  -- the pass has one share of p more: the open read is closed, and it knows the page, if it did not yet; what is said
  -- is its entry
  abbrev pub shared_view : ℕ → Held → Option X → View X → View X
  shared_view p h said v =
      record v {
        seats = put p (record (seat_of v p) { shares = (seat_of v p).shares + 1; reading = None }) v.seats;
        loads = put p [] v.loads;
        held = if has_lock (seat_of v p) then v.held else put p h v.held;
        mine = mine_with v said;
      }

  -- the same of a share; what is said becomes an entry where the share is taken
  pub record ShareTold (tied : Start → ℕ → List ℕ → ℕ → List ℕ → Type 0) (p expects : ℕ) (said : Option X) (found : ℕ)
      (v w : View X) : Type 0 where
    pub held : Held
    pub brings : Brings (did_exchange (places.State p) expects found (word_of (one_share_more (state_of expects)) (version_of expects))) []
        (entries_where v said (found == expects)) v (if found == expects then shared_view p held said v else v) w
    pub version : (last_of w p).version ≡ version_of found
    pub since : IsSinceAll p found v.log
    pub older : IsOlder found (seat_of v p).reading
    pub size : length (last_of w p).words ≡ w.start.size
    pub resident : found ≡ expects → IsSome (put_at no_held w.held p).mapping
    pub inside : found ≡ expects → (m : Mapping) → (put_at no_held w.held p).mapping ≡ Some m → m.frame < v.start.frames
    -- a pass that writes the page back had a share of it before
    pub writes : (seat_of v p).writing ≡ true → 1 ≤ (seat_of v p).shares
    -- the frame of the pass's open read at this version is the page's
    pub reads_from : found ≡ expects → (o : Open) → (seat_of v p).reading ≡ Some o → o.version ≡ version_of expects
        → (f : ℕ) → o.frame ≡ Some f →
        (m : Mapping) → (put_at no_held w.held p).mapping ≡ Some m → m.frame ≡ f
    pub validates : v.start.tells ≡ true → found ≡ expects
        → LockValidates tied p (version_of expects) (last_of w p).words v

  -- one share of p is given up
  abbrev pub unshared_view : ℕ → View X → View X
  unshared_view p v = record v { seats = put p (unshared (seat_of v p)) v.seats }

  -- a share was given up, of a word that counted it
  pub record UnshareTold (p found : ℕ) (v w : View X) : Type 0 where
    pub brings : Brings (did_change (places.State p) found (found - 2 ^ 56)) [] [] v (unshared_view p v) w
    pub version : (last_of w p).version ≡ version_of found
    pub shared : 1 ≤ state_of found

  -- ---- marks

  -- the mark was set or taken away, where the word was the one expected; the view is as it was
  pub record MarkTold (p expects found new : ℕ) (v w : View X) : Type 0 where
    pub brings : Brings (did_exchange (places.State p) expects found new) [] [] v v w
    pub version : (last_of w p).version ≡ version_of found
    pub since : IsSinceAll p found v.log
    pub older : IsOlder found (seat_of v p).reading

  -- ---- write-back

  -- p is locked for write-back: the pass has its one share, the open read is closed, and it knows the page
  abbrev pub write_locked_view : ℕ → Held → View X → View X
  write_locked_view p h v =
      record v {
        seats = put p (record (seat_of v p) { shares = 1; writing = true; reading = None }) v.seats;
        loads = put p [] v.loads;
        held = put p h v.held;
      }

  -- the same of a lock for write-back, which is the page's one share
  pub record WriteLockTold (tied : Start → ℕ → List ℕ → ℕ → List ℕ → Type 0) (p expects found : ℕ) (v w : View X) : Type 0 where
    pub held : Held
    pub brings : Brings (did_exchange (places.State p) expects found (word_of 1 (version_of expects))) [] [] v
        (if found == expects then write_locked_view p held v else v) w
    pub version : (last_of w p).version ≡ version_of found
    pub since : IsSinceAll p found v.log
    pub older : IsOlder found (seat_of v p).reading
    pub size : length (last_of w p).words ≡ w.start.size
    pub stands : found ≡ expects → IsHeldAt p expects v.start.frames v.start.tells (last_of w p).words held
    -- nobody had the page locked
    pub free : found ≡ expects → has p v.pending ≡ false
    pub unheld : found ≡ expects → IsUnheld v p
    pub validates : v.start.tells ≡ true → found ≡ expects
        → LockValidates tied p (version_of expects) (last_of w p).words v

  -- the pass has p under write-back, with one share, which is the page's only one where it has the word expected
  pub record MayRaiseLock (v : View X) (p expects : ℕ) : Type 0 where
    pub state : state_of expects ≡ 1
    pub below : version_of expects < MAX_VERSION
    pub writes : (seat_of v p).writing ≡ true
    pub one : (seat_of v p).shares ≡ 1

  -- p is locked exclusively, and the pass has no share of it any more
  abbrev pub upgraded_view : ℕ → List ℕ → View X → View X
  upgraded_view p words v =
      record v {
        seats = put p (record { shares = 0; exclusive = true; writing = false; reading = None }) v.seats;
        loads = put p [] v.loads;
        drafts = put p words v.drafts;
      }

  -- a lock for write-back became exclusive, where it was the page's one share
  pub record UpgradeTold (tied : Start → ℕ → List ℕ → ℕ → List ℕ → Type 0) (p expects found : ℕ) (v w : View X) : Type 0 where
    pub brings : Brings (did_exchange (places.State p) expects found (word_of LOCKED (version_of expects))) [] [] v
        (if found == expects then upgraded_view p (last_of w p).words v else v) w
    pub version : (last_of w p).version ≡ version_of found
    pub since : IsSinceAll p found v.log
    pub older : IsOlder found (seat_of v p).reading
    pub size : length (last_of w p).words ≡ w.start.size
    pub free : found ≡ expects → has p v.pending ≡ false
    pub paid : found ≡ expects → has p v.owed ≡ false
    pub validates : v.start.tells ≡ true → found ≡ expects
        → LockValidates tied p (version_of expects) (last_of w p).words v
