-- What a host in memory shows, and which of its calls fail.
use Rattle.std.specs.Prelude.{ℕ, ◌-◌, ◌^◌, ◌≡◌, List, [], length, take, min, max, Bool, ◌&&◌, ◌||◌, not, is_some, Some, nat_eq, nat_lt}
use Rattle.std.specs.List.{list_any}
use Rattle.vm_page.specs.Counts.{count_more}
use Rattle.vm_io.specs.Shown.{Shown}
use Rattle.vm_io.specs.InMemory.{first_named, shown_in, can_hold, is_within}
use Rattle.vm_io.specs.declared.host.GiveFaults.{GiveFaults}
use Rattle.vm_io.specs.declared.memory.MemHost.{MemHost}

-- the files and what was said
abbrev pub shown_of : MemHost → Shown
shown_of host = shown_in host.store.files.items host.store.said.items

-- the numbers of the calls that are to fail
abbrev pub plan_of : MemHost → List ℕ
plan_of host = host.plan.items

-- how many calls of take, replace and say were made, up to the last value
abbrev pub calls_of : MemHost → ℕ
calls_of host = host.calls

-- bytes that each file, and what is said, may have
abbrev pub room_of : MemHost → ℕ
room_of host = host.store.room

-- the most bytes that a take or say moves
abbrev pub piece_of : MemHost → ℕ
piece_of host = host.piece

-- how many takes failed; how many replaces and says did, and how many says took nothing; the file whose take failed last
abbrev pub failed_takes : MemHost → ℕ
failed_takes host = host.faults.takes

abbrev pub failed_gives : MemHost → GiveFaults
failed_gives host = host.faults.gives

abbrev pub last_failed : MemHost → List ℕ
last_failed host = host.faults.last.bytes

-- the number of the next call
abbrev pub next_call : MemHost → ℕ
next_call host = count_more (calls_of host)

-- whether the next call is to fail
abbrev pub is_planned : MemHost → Bool
is_planned host = list_any (λ number. nat_eq number (next_call host)) (plan_of host)

-- the bytes of a piece that a say moves
abbrev pub front_of : MemHost → List ℕ → List ℕ
front_of host piece = take (piece_of host) piece

-- whether a say moves something of a piece, or the piece is empty
abbrev pub moves_some : MemHost → List ℕ → Bool
moves_some host piece = nat_lt 0 (piece_of host) || nat_eq (length piece) 0

-- one more call was made, and the plan, the room and the most bytes of a call are the same
pub record IsNext (old new : MemHost) : Type 0 where
  pub calls : calls_of new ≡ next_call old
  pub plan : plan_of new ≡ plan_of old
  pub room : room_of new ≡ room_of old
  pub piece : piece_of new ≡ piece_of old

-- which calls go through: not planned to fail; the file is there; the bytes are within the room
abbrev pub can_take : MemHost → List ℕ → Bool
can_take host name = not (is_planned host) && is_some ((shown_of host).files name)

abbrev pub can_replace : MemHost → List ℕ → List ℕ → Bool
can_replace host name bytes = not (is_planned host) && can_hold ((shown_of host).files name) bytes (room_of host)

abbrev pub can_say : MemHost → List ℕ → Bool
can_say host piece = not (is_planned host) && is_within (length (shown_of host).said) (length (front_of host piece)) (room_of host)

-- a host that has just these files, of a name twice the first, has said and counted nothing, and moves as much as there is
pub record IsFresh (host : MemHost) (files : List (List ℕ × List ℕ)) (room : ℕ) (plan : List ℕ) : Type 0 where
  pub shown : shown_of host ≡ record { files = first_named files; said = [] }
  pub bounded : room_of host ≡ room
  pub planned : plan_of host ≡ plan
  pub calls : calls_of host ≡ 0
  pub takes : failed_takes host ≡ 0
  pub failed : (failed_gives host).failed ≡ 0
  pub stuck : (failed_gives host).stuck ≡ 0
  pub last : last_failed host ≡ []
  pub unlimited : piece_of host ≡ 2 ^ 64 - 1

-- the same host, whose takes and says move at most so many bytes
abbrev pub limited_to : MemHost → ℕ → MemHost
limited_to host piece = record host { piece = piece }

-- as many bytes as the file has from the offset on, up to the length of the buffer and the most of a call, which is one at least
pub record IsMostTaken (host : MemHost) (name : List ℕ) (at room n : ℕ) : Type 0 where
  pub bytes : List ℕ
  pub file : (shown_of host).files name ≡ Some bytes
  pub count : n ≡ min (max 1 (piece_of host)) (min room (length bytes - at))
