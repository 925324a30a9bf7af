-- The events that change or see a state word: when each may happen, and the page afterwards.
use Rattle.std.specs.Prelude.{◌&&◌, ◌+◌, ◌-◌, ◌<◌, ◌==◌, ◌||◌, ◌≡◌, ◌≤◌, ◌⊎◌, Bool, false, if◌then◌else◌, IsSome}
use Rattle.std.specs.Prelude.{nat_lt, None, Option, Some, true, ℕ}
use Rattle.vm_event.specs.{declared.event.Open.Open, declared.event.ReadIs.ReadIs, declared.event.Seat.Seat, Fn.upd, State.Page}
use Rattle.vm_event.specs.declared.event.ReadIs.TheVariants.{Closed, Moved, Opened, Same}
use Rattle.vm_event.specs.Words.{EVICTED, LOCKED, MARKED, MAX_VERSION, state_of, UNLOCKED, version_of, word_of}

-- the page's state word
abbrev pub page_word : Page → ℕ
page_word r = word_of r.state r.version

-- the page's state word is the one that the event expects
abbrev pub finds : Page → ℕ → Bool
finds r expects = (r.state == state_of expects) && (r.version == version_of expects)

-- the page with this seat for the actor
abbrev pub seated : Page → ℕ → Seat → Page
seated r a s = record r { seats = upd r.seats a s }

-- ---- look

-- an optimistic read may go on: the page is neither locked nor evicted
abbrev pub is_readable : ℕ → Bool
is_readable state = nat_lt state LOCKED || state == MARKED

abbrev pub left_open : Option Open → ℕ → ReadIs
left_open None version = Opened
left_open (Some o) version = if o.version == version then Same else Moved

-- what a look leaves of an open read
abbrev pub left_of : Page → Option Open → ReadIs
left_of r o = if is_readable r.state then left_open o r.version else Closed

abbrev pub open_after : ReadIs → Option Open → ℕ → Option Open
open_after Opened o version = Some (record { version = version; frame = None })
open_after Same o version = o
open_after Moved o version = Some (record { version = version; frame = None })
open_after Closed o version = None

abbrev pub looked : Page → ℕ → Page
looked r a =
    seated r a (record (r.seats a) { reading = open_after (left_of r (r.seats a).reading) (r.seats a).reading r.version })

-- ---- lockx

pub record MayLock (expects : ℕ) : Type 0 where
  pub state : (state_of expects ≡ UNLOCKED) ⊎ ((state_of expects ≡ MARKED) ⊎ (state_of expects ≡ EVICTED))
  pub version : version_of expects < MAX_VERSION

abbrev pub locked : Page → ℕ → Page
locked r a =
    record r { state = LOCKED; seats = upd r.seats a (record (r.seats a) { exclusive = true; reading = None }) }

-- ---- locks

-- a word with room for a share: at most 251 shares and no other lock, or Marked
abbrev pub MayShare : ℕ → Type 0
MayShare expects = (state_of expects ≤ 251) ⊎ (state_of expects ≡ MARKED)

-- one share more
abbrev pub one_share_more : ℕ → ℕ
one_share_more state = if state == MARKED then 1 else state + 1

abbrev pub shared : Page → ℕ → Page
shared r a =
    record r {
      state = one_share_more r.state;
      seats = upd r.seats a (record (r.seats a) { shares = (r.seats a).shares + 1; reading = None });
    }

-- ---- unlocks

pub record MayUnlock (r : Page) (a : ℕ) : Type 0 where
  pub has : 1 ≤ (r.seats a).shares
  pub told : (r.seats a).writing ≡ true → (r.seats a).shares ≡ 1 → r.fault ≡ r.count

-- the write-back ends with the last share
abbrev pub unshared : Seat → Seat
unshared s = record s { shares = s.shares - 1; writing = if s.shares == 1 then false else s.writing }

abbrev pub unlocked : Page → ℕ → Page
unlocked r a = record r { state = r.state - 1; seats = upd r.seats a (unshared (r.seats a)) }

-- ---- mark, unmark

abbrev pub marked : Page → Page
marked r = record r { state = MARKED }

abbrev pub unmarked : Page → Page
unmarked r = record r { state = UNLOCKED }

-- ---- lockw

abbrev pub write_locked : Page → ℕ → Page
write_locked r a =
    record r { state = 1; seats = upd r.seats a (record (r.seats a) { shares = 1; writing = true; reading = None }) }

-- ---- upgrade

pub record MayUpgrade (r : Page) (a expects : ℕ) : Type 0 where
  pub state : state_of expects ≡ 1
  pub version : version_of expects < MAX_VERSION
  pub writes : (r.seats a).writing ≡ true
  pub one : (r.seats a).shares ≡ 1

abbrev pub upgraded : Page → ℕ → Page
upgraded r a =
    record r { state = LOCKED; seats = upd r.seats a (record { shares = 0; exclusive = true; writing = false; reading = None }) }

-- ---- release, releasee, downgrade

-- the actor holds the page exclusively, it is resident, and its fault word is its block's count
pub record MayReleaseLock (r : Page) (a : ℕ) : Type 0 where
  pub owns : (r.seats a).exclusive ≡ true
  pub resident : IsSome r.trans
  pub told : r.fault ≡ r.count

abbrev pub released : Page → ℕ → Page
released r a =
    record r { state = UNLOCKED; version = r.version + 1; seats = upd r.seats a (record (r.seats a) { exclusive = false }) }

pub record MayEmpty (r : Page) (a : ℕ) : Type 0 where
  pub owns : (r.seats a).exclusive ≡ true
  pub empty : r.trans ≡ None
  pub told : r.fault ≡ r.count

abbrev pub emptied : Page → ℕ → Page
emptied r a =
    record r { state = EVICTED; version = r.version + 1; seats = upd r.seats a (record (r.seats a) { exclusive = false }) }

abbrev pub downgraded : Page → ℕ → Page
downgraded r a =
    record r { state = 1; version = r.version + 1; seats = upd r.seats a (record (r.seats a) { shares = 1; exclusive = false }) }
