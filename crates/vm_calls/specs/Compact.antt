-- Answers in little memory: which answers they stand for.
use Rattle.std.specs.Prelude.{[], ◌+◌, ◌-◌, ◌∷◌, ◌≡◌, ◌≤◌, Err, length, List, map, Ok, Result, vec_len, ℕ}
use Rattle.std.specs.Vec.{vec_capacity}
use Rattle.vm_map.specs.{declared.call.Reply.Reply, declared.window.Window.Window, Map.Pairs}
use Rattle.vm_map.specs.declared.call.Reply.TheVariants as replies
use Rattle.vm_tree_range.specs.from_vm_tree_rule.declared_fault_TreeFault.{TreeFault}
use Rattle.vm_calls.specs.{declared.compact.Replies.Replies, declared.compact.Short.Short, Kept.Room}
use Rattle.vm_calls.specs.declared.compact.Short.TheVariants as shorts

-- the answers that these short forms are, each `Win` with the next of the windows and each `Many` with the next of
-- the spans; where none is left for
-- one they end
abbrev pub told_in : List Short → List Window → List (Pairs × ℕ) → List (Result Reply TreeFault)
told_in [] windows spans = []
told_in (shorts.Got found ∷ more) windows spans = Ok (replies.Got found) ∷ told_in more windows spans
told_in (shorts.Was old ∷ more) windows spans = Ok (replies.Was old) ∷ told_in more windows spans
told_in (shorts.Gone old ∷ more) windows spans = Ok (replies.Gone old) ∷ told_in more windows spans
told_in (shorts.Win ∷ more) [] spans = []
told_in (shorts.Win ∷ more) (window ∷ windows) spans = Ok (replies.Win window) ∷ told_in more windows spans
told_in (shorts.Swapped outcome ∷ more) windows spans = Ok (replies.Swapped outcome) ∷ told_in more windows spans
told_in (shorts.Many ∷ more) windows [] = []
told_in (shorts.Many ∷ more) windows (span ∷ spans) = Ok (replies.Many span) ∷ told_in more windows spans
told_in (shorts.Wide reach ∷ more) windows spans = Ok (replies.Wide reach) ∷ told_in more windows spans
told_in (shorts.Fault fault ∷ more) windows spans = Err fault ∷ told_in more windows spans

-- how many of them show a window
abbrev pub wins_in : List Short → ℕ
wins_in [] = 0
wins_in (shorts.Got found ∷ more) = wins_in more
wins_in (shorts.Was old ∷ more) = wins_in more
wins_in (shorts.Gone old ∷ more) = wins_in more
wins_in (shorts.Win ∷ more) = 1 + wins_in more
wins_in (shorts.Swapped outcome ∷ more) = wins_in more
wins_in (shorts.Many ∷ more) = wins_in more
wins_in (shorts.Wide reach ∷ more) = wins_in more
wins_in (shorts.Fault fault ∷ more) = wins_in more

-- how many of them have the pairs of a range
abbrev pub ranges_in : List Short → ℕ
ranges_in [] = 0
ranges_in (shorts.Got found ∷ more) = ranges_in more
ranges_in (shorts.Was old ∷ more) = ranges_in more
ranges_in (shorts.Gone old ∷ more) = ranges_in more
ranges_in (shorts.Win ∷ more) = ranges_in more
ranges_in (shorts.Swapped outcome ∷ more) = ranges_in more
ranges_in (shorts.Many ∷ more) = 1 + ranges_in more
ranges_in (shorts.Wide reach ∷ more) = ranges_in more
ranges_in (shorts.Fault fault ∷ more) = ranges_in more

-- the answers that were kept so
abbrev pub replies_in : Replies → List (Result Reply TreeFault)
replies_in kept = told_in kept.short.items kept.windows.items kept.spans.items

-- and all lists of them
abbrev pub all_replies : List Replies → List (List (Result Reply TreeFault))
all_replies kept = map replies_in kept

-- there is a window for each answer that shows one, and a span for each that has the pairs of a range
pub record HasContents (kept : Replies) : Type 0 where
  pub windows : wins_in kept.short.items ≤ length kept.windows.items
  pub spans : ranges_in kept.short.items ≤ length kept.spans.items

-- they stand for these answers, and each window is one that they show, and each span one whose pairs they have
pub record KeepsAnswers (kept : Replies) (told : List (Result Reply TreeFault)) : Type 0 where
  pub stands : replies_in kept ≡ told
  pub shown : wins_in kept.short.items ≡ length kept.windows.items
  pub paired : ranges_in kept.short.items ≡ length kept.spans.items

-- what they take more while no new memory is needed
abbrev pub room_in : Replies → Room
room_in kept = record {
  answers = vec_capacity kept.short - vec_len kept.short;
  windows = vec_capacity kept.windows - vec_len kept.windows;
  spans = vec_capacity kept.spans - vec_len kept.spans;
}
