-- What a look tells: the view after it, and what a validated read saw.
use Rattle.std.specs.Prelude.{[], ◌++◌, ◌<◌, ◌==◌, ◌∷◌, ◌≡◌, ◌≤◌, ◌⊎◌, false, if◌then◌else◌, length, List, None}
use Rattle.std.specs.Prelude.{Option, Some, suc, true, zero, ℕ}
use Rattle.vm_event.specs.Prelude.{EVICTED, frame_of, is_readable, kept_loads, left_open, LoadsAre, mapping_of, MARKED}
use Rattle.vm_event.specs.Prelude.{open_after, open_frame, state_of, UNLOCKED, version_of}
use Rattle.vm_event.specs.{declared.event.Open.Open, declared.event.ReadIs.ReadIs}
use Rattle.vm_event.specs.declared.event.ReadIs.TheVariants.{Closed, Same}
use Rattle.vm_owner.specs.Kept.{Start}
use Rattle.vm_rule.specs.{Brought.Brings, Brought.entries_of, declared.view.Did.Did, declared.view.Tie.Tie}
use Rattle.vm_rule.specs.{declared.view.View.View, Layout.at_state, Log.did_load, Puts.put, Reading.last_of}
use Rattle.vm_rule.specs.{Rule.began_of, Views.Each, Views.IsWhole, Views.loads_at, Views.seat_of}
use Rattle.vm_rule.specs.declared.view.WordPlace.TheVariants as places

-- what a look that found this word leaves of an open read
abbrev pub left_at : ℕ → Option Open → ReadIs
left_at found o = if is_readable (state_of found) then left_open o (version_of found) else Closed

-- x where the read stays, else y
abbrev pub where_same : {A : Type 0} → ReadIs → A → A → A
where_same Same x y = x
where_same left x y = y

-- the seat has an open read of page p: it is tied to the words of page r
abbrev pub tie_of : ℕ → List ℕ → ℕ → Option Open → List Tie
tie_of r words p None = []
tie_of r words p (Some o) = record { page = p; version = o.version; of = r; words = words } ∷ []

-- the word was once that of the page whose word was found now: found has no lower version; it is not readable at a
-- version at which the page was not; and it is evicted only at a version at which the page was
abbrev pub IsSince : ℕ → Option ℕ → Type 0
IsSince found None = Unit {0}
IsSince found (Some word) =
    (version_of word ≤ version_of found)
    × (is_readable (state_of word) ≡ false → version_of word ≡ version_of found → is_readable (state_of found) ≡ false)
    × (state_of found ≡ EVICTED → version_of word ≡ version_of found → state_of word ≡ EVICTED)

-- the word found now agrees with all words of page p that the steps of the log found and left
abbrev pub IsSinceAll : ℕ → ℕ → List Did → Type 0
IsSinceAll p found log = Each (λ d. at_state d.at (λ q. q ≡ p → IsSince found d.found × IsSince found d.wrote)) log

-- the open read is of no later version, and of an earlier one than an evicted page's
abbrev pub IsOlder : ℕ → Option Open → Type 0
IsOlder found None = Unit {0}
IsOlder found (Some o) = (o.version ≤ version_of found) × (state_of found ≡ EVICTED → o.version < version_of found)

-- the word names a frame of the table; an open read's frame is that one
pub record NamesFrame (frames word : ℕ) (o : Option Open) : Type 0 where
  pub frame : ℕ
  pub names : frame_of (mapping_of word) ≡ Some frame
  pub inside : frame < frames
  pub same : (g : ℕ) → open_frame o ≡ Some g → g ≡ frame

module _ {X : Type 0} where
  -- the ties that a validated look at r gives to each other open read of the pass, of the pages below n
  abbrev pub ties_below : ℕ → View X → ℕ → List ℕ → List Tie
  ties_below zero v r words = []
  ties_below (suc n) v r words = (if n == r then [] else tie_of r words n (seat_of v n).reading) ++ ties_below n v r words

  -- what the pass knows after a look at p, which found this word while p had these last words; `said` becomes an
  -- entry where the read stays
  abbrev pub looked_view : ℕ → Option X → ℕ → List ℕ → View X → View X
  looked_view p said found words v =
      let left = left_at found (seat_of v p).reading in
      record v {
        seats = put p (record (seat_of v p) { reading = open_after left (seat_of v p).reading (version_of found) }) v.seats;
        loads = put p (kept_loads left (loads_at v p)) v.loads;
        ties = where_same left (ties_below v.start.pages v p words) [] ++ v.ties;
        mine = v.mine ++ where_same left (entries_of v said) [];
      }

  -- What a look at p tells that found this word: p's last version has the word's version. Where the pass's open read
  -- stays, its words are that version's; what earlier looks tied to the page at this version holds of its words, and
  -- the page is tied to itself; and each translation word of p that was loaded at this version names a frame, which
  -- is the open read's. The word agrees with those that the pass saw before.
  pub record LookTold (tied : Start → ℕ → List ℕ → ℕ → List ℕ → Type 0) (p : ℕ) (said : Option X) (found : ℕ) (v w : View X) : Type 0 where
    pub brings : Brings (did_load (places.State p) found) [] (where_same (left_at found (seat_of v p).reading) (entries_of v said) []) v
        (looked_view p said found (last_of w p).words v) w
    pub version : (last_of w p).version ≡ version_of found
    pub size : length (last_of w p).words ≡ w.start.size
    pub valid : v.start.tells ≡ true → left_at found (seat_of v p).reading ≡ Same
        → LoadsAre (last_of w p).words (loads_at v p)
    pub holds : v.start.tells ≡ true → left_at found (seat_of v p).reading ≡ Same →
        Each (λ t. t.page ≡ p → t.version ≡ version_of found → tied (began_of v.start) t.of t.words p (last_of w p).words) v.ties
    pub itself : v.start.tells ≡ true → left_at found (seat_of v p).reading ≡ Same
        → tied (began_of v.start) p (last_of w p).words p (last_of w p).words
    pub frames : left_at found (seat_of v p).reading ≡ Same →
        Each (λ t. t.page ≡ p → t.version ≡ version_of found → NamesFrame v.start.frames t.word (seat_of v p).reading) v.translations
    pub since : IsSinceAll p found v.log
    pub older : IsOlder found (seat_of v p).reading
    -- beside a pass with all parts, which has no lock of the page, nobody has one
    pub unlocked : IsWhole v → (seat_of v p).exclusive ≡ false → (seat_of v p).shares ≡ 0 →
        (state_of found ≡ UNLOCKED) ⊎ ((state_of found ≡ MARKED) ⊎ (state_of found ≡ EVICTED))
