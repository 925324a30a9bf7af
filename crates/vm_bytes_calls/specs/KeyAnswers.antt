-- Answers to calls with byte keys in little memory: which answers they stand for, and the room for more.
use Rattle.std.specs.Prelude.{[], ◌+◌, ◌-◌, ◌∷◌, ◌≡◌, ◌≤◌, Err, length, List, Ok, Result, vec_len, ℕ}
use Rattle.std.specs.Vec.{vec_capacity}
use Rattle.vm_bytes_laws.specs.declared.call.{KeyCall.KeyCall, KeyReply.KeyReply}
use Rattle.vm_bytes_laws.specs.declared.call.KeyCall.TheVariants.{Del, Get, Put, Swap, Window}
use Rattle.vm_bytes_laws.specs.declared.call.KeyReply.TheVariants as replies
use Rattle.vm_bytes_node.specs.declared.window.KeyWindow.{KeyWindow}
use Rattle.vm_calls.specs.from_vm_tree_rule.declared_fault_TreeFault.{TreeFault}
use Rattle.vm_bytes_calls.specs.declared.answers.{KeyReplies.KeyReplies, KeyShort.KeyShort}
use Rattle.vm_bytes_calls.specs.declared.answers.KeyShort.TheVariants as shorts

-- the answers that these short forms are, each `Win` with the next of the windows; where none is left for one they end
abbrev pub key_told_in : List KeyShort → List KeyWindow → List (Result KeyReply TreeFault)
key_told_in [] windows = []
key_told_in (shorts.Got found ∷ more) windows = Ok (replies.Got found) ∷ key_told_in more windows
key_told_in (shorts.Was old ∷ more) windows = Ok (replies.Was old) ∷ key_told_in more windows
key_told_in (shorts.Gone old ∷ more) windows = Ok (replies.Gone old) ∷ key_told_in more windows
key_told_in (shorts.Swapped outcome ∷ more) windows = Ok (replies.Swapped outcome) ∷ key_told_in more windows
key_told_in (shorts.Win ∷ more) [] = []
key_told_in (shorts.Win ∷ more) (window ∷ windows) = Ok (replies.Win window) ∷ key_told_in more windows
key_told_in (shorts.Fault fault ∷ more) windows = Err fault ∷ key_told_in more windows

-- how many of them show a window
abbrev pub key_wins_in : List KeyShort → ℕ
key_wins_in [] = 0
key_wins_in (shorts.Got found ∷ more) = key_wins_in more
key_wins_in (shorts.Was old ∷ more) = key_wins_in more
key_wins_in (shorts.Gone old ∷ more) = key_wins_in more
key_wins_in (shorts.Swapped outcome ∷ more) = key_wins_in more
key_wins_in (shorts.Win ∷ more) = 1 + key_wins_in more
key_wins_in (shorts.Fault fault ∷ more) = key_wins_in more

-- they stand for these answers, and each window is one that they show
pub record KeepsKeyAnswers (kept : KeyReplies) (told : List (Result KeyReply TreeFault)) : Type 0 where
  pub stands : key_told_in kept.short.items kept.windows.items ≡ told
  pub shown : key_wins_in kept.short.items ≡ length kept.windows.items

-- 1 for an answer that is a window
abbrev pub key_windows_of : Result KeyReply TreeFault → ℕ
key_windows_of (Ok (replies.Got found)) = 0
key_windows_of (Ok (replies.Was old)) = 0
key_windows_of (Ok (replies.Gone old)) = 0
key_windows_of (Ok (replies.Win window)) = 1
key_windows_of (Ok (replies.Swapped outcome)) = 0
key_windows_of (Err fault) = 0

-- how many of the calls ask for a window
abbrev pub key_windows_asked : List KeyCall → ℕ
key_windows_asked [] = 0
key_windows_asked (Get key ∷ calls) = key_windows_asked calls
key_windows_asked (Put key value ∷ calls) = key_windows_asked calls
key_windows_asked (Del key ∷ calls) = key_windows_asked calls
key_windows_asked (Window start most ∷ calls) = 1 + key_windows_asked calls
key_windows_asked (Swap key want value ∷ calls) = key_windows_asked calls

-- how many answers, and how many windows, are kept more with no further memory
abbrev pub answers_left : KeyReplies → ℕ
answers_left kept = vec_capacity kept.short - vec_len kept.short

abbrev pub windows_left : KeyReplies → ℕ
windows_left kept = vec_capacity kept.windows - vec_len kept.windows

-- there is room for an answer to each of the calls, and for a window to each that asks for one
pub record HasKeyRoom (kept : KeyReplies) (calls : List KeyCall) : Type 0 where
  pub answers : length calls ≤ answers_left kept
  pub windows : key_windows_asked calls ≤ windows_left kept
