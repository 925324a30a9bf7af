-- Views: what is read off one, what is summed over all, and the views that passes begin and end with.
use Rattle.std.specs.Prelude.{[], Bool, false, if◌then◌else◌, List, nat_lt, None, suc, true, zero, ℕ, ◌&&◌, ◌++◌, ◌+◌}
use Rattle.std.specs.Prelude.{◌<◌, ◌==◌, ◌||◌, ◌∷◌, ◌≡◌, ◌≤◌, ◌⊎◌}
use Rattle.vm_event.specs.{declared.event.Seat.Seat, Prelude.no_seat}
use Rattle.vm_owner.specs.{declared.Entry.Entry, Numbers.has}
use Rattle.vm_rule.specs.{declared.view.Note.Note, declared.view.Origin.Origin, declared.view.View.View, Puts.put_at}

-- l begins with m
abbrev pub StartsWith : {A : Type 0} → List A → List A → Type 0
StartsWith {A} l m = (rest : List A) × (l ≡ m ++ rest)

-- all of the list
abbrev pub Each : {A : Type 0} → (A → Type 0) → List A → Type 0
Each P [] = Unit {0}
Each P (x ∷ xs) = P x × Each P xs

-- how often n stands in the list
abbrev pub times : ℕ → List ℕ → ℕ
times n [] = 0
times n (m ∷ ms) = (if m == n then 1 else 0) + times n ms

-- how often the fault is noted
abbrev pub times_noted : ℕ → ℕ → List Note → ℕ
times_noted p count [] = 0
times_noted p count (n ∷ ns) = (if (n.page == p) && (n.count == count) then 1 else 0) + times_noted p count ns

-- the numbers from a on, n of them
unfoldable pub numbers : ℕ → ℕ → List ℕ
numbers a zero = []
numbers a (suc n) = a ∷ numbers (suc a) n

-- how many parts there are
abbrev pub PARTS : ℕ
PARTS = 4294967296

-- each part stands once
abbrev pub one_part : ℕ → ℕ
one_part k = if nat_lt k PARTS then 1 else 0

-- the seat has the page locked: exclusively, or by a share
abbrev pub IsLocking : Seat → Type 0
IsLocking s = (s.exclusive ≡ true) ⊎ (1 ≤ s.shares)

-- the seat may call the page's device
abbrev pub may_call : Seat → Bool
may_call s = s.exclusive || s.writing

module _ {X : Type 0} where
  -- what the view has of page p
  abbrev pub seat_of : View X → ℕ → Seat
  seat_of v p = put_at no_seat v.seats p

  -- what was loaded through the view's open read of page p
  abbrev pub loads_at : View X → ℕ → List (ℕ × ℕ)
  loads_at v p = put_at [] v.loads p

  -- the draft of page p
  abbrev pub draft_of : View X → ℕ → List ℕ
  draft_of v p = put_at [] v.drafts p

  -- the entries with one of these numbers
  abbrev pub entries_by : List ℕ → List (Entry X) → List (Entry X)
  entries_by ns [] = []
  entries_by ns (e ∷ es) = if has e.number ns then e ∷ entries_by ns es else entries_by ns es

  -- the history goes on from what was seen, and none of these numbers has an entry behind it
  abbrev pub Hears : List (Entry X) → List ℕ → List (Entry X) → Type 0
  Hears history ns seen = (rest : List (Entry X)) × (history ≡ seen ++ rest) × (entries_by ns rest ≡ [])

  -- the sum over all views
  abbrev pub total : (View X → ℕ) → List (View X) → ℕ
  total f [] = 0
  total f (v ∷ vs) = f v + total f vs

  abbrev pub any : (View X → Bool) → List (View X) → Bool
  any f [] = false
  any f (v ∷ vs) = f v || any f vs

  -- how often the part k is one of the view's
  abbrev pub owns : ℕ → View X → ℕ
  owns k v = times k v.used + times k v.fresh

  -- the pass has all parts
  abbrev pub IsWhole : View X → Type 0
  IsWhole v = (k : ℕ) → k < PARTS → 1 ≤ owns k v

  -- a view that knows the start and its parts, and nothing else
  abbrev pub view_from : Bool → Origin → List ℕ → List ℕ → View X
  view_from live start used fresh =
      record {
        live = live;
        start = start;
        seats = [];
        loads = [];
        held = [];
        drafts = [];
        frames = [];
        contents = [];
        out = None;
        translations = [];
        ties = [];
        pending = [];
        owed = [];
        numbers = [];
        freed = [];
        next = None;
        notes = [];
        releases = [];
        seen = [];
        mine = [];
        used = used;
        fresh = fresh;
        told_releases = [];
        told = [];
        told_used = [];
        current = false;
        snapshot = record { words = []; blocks = [] };
        log = [];
      }

  -- the view of the first pass: all parts, one of them used
  abbrev pub first_view : Origin → View X
  first_view start = view_from true start (0 ∷ []) (numbers 1 4294967295)

  -- the view of a pass that was joined away
  abbrev pub spent : View X
  spent = view_from false (record {
    tells = false;
    size = 0;
    pages = 0;
    frames = 0;
    version = 0;
    next = 0;
    free = [];
    groups = [];
    contents = [];
    bounds = [];
  }) [] []

  abbrev pub view_of : List (View X) → View X
  view_of [] = spent
  view_of (v ∷ vs) = v
