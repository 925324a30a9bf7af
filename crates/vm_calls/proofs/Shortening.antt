-- Answers in little memory, and the room for them: one answer more.
use Rattle.std.specs.declared.alloc.Global.{Global}
use Rattle.std.proofs.Common.{[], ◌++◌, ◌+◌, ◌∙◌, ◌∷◌, ◌≡◌, ◌≤◌, ap, append-nil, arith, Err, length, List, Ok, refl, Result, sym, Vec, ℕ}
use Rattle.std.proofs.lemmas.List.{length-append}
use Rattle.vm_map.specs.{declared.call.Call.Call, declared.call.Reply.Reply, declared.call.Said.Said}
use Rattle.vm_map.specs.{declared.window.Window.Window, Map.Pairs}
use Rattle.vm_map.specs.declared.call.Call.TheVariants as calls
use Rattle.vm_map.specs.declared.call.Reply.TheVariants as replies
use Rattle.vm_step.specs.Prelude.{View}
use Rattle.vm_tree_range.specs.from_vm_tree_rule.declared_fault_TreeFault.{TreeFault}
use Rattle.vm_calls.specs.Compact.{KeepsAnswers, ranges_in, told_in, wins_in}
use Rattle.vm_calls.specs.Kept.{IsRoomFor, Room, spans_of, windows_asked, windows_of}
use Rattle.vm_calls.specs.{declared.compact.Replies.Replies, declared.compact.Short.Short, Spans.ranges_asked, TreeCalls.IsTreeCall}
use Rattle.vm_calls.specs.declared.compact.Short.TheVariants as shorts
use Rattle.vm_calls.proofs.Memory.{ranges-first}

-- ---- what short forms stand for

-- those behind others, with the windows and the spans behind theirs
told-both : (short more : List Short) (windows others : List Window) (spans rest : List (Pairs × ℕ))
    → wins_in short ≡ length windows → ranges_in short ≡ length spans → told_in (short ++ more) (windows ++ others)
    (spans ++ rest) ≡ told_in short windows spans ++ told_in more others rest
told-both [] more [] others [] rest e f = refl
told-both [] more [] others (p ∷ ps) rest e f = absurd (omega arith)
told-both [] more (w ∷ ws) others ps rest e f = absurd (omega arith)
told-both (shorts.Got found ∷ short) more ws others ps rest e f =
    ap (λ (l : List (Result Reply TreeFault)). Ok (replies.Got found) ∷ l)
    (told-both short more ws others ps rest e f)
told-both (shorts.Was old ∷ short) more ws others ps rest e f =
    ap (λ (l : List (Result Reply TreeFault)). Ok (replies.Was old) ∷ l) (told-both short more ws others ps rest e f)
told-both (shorts.Gone old ∷ short) more ws others ps rest e f =
    ap (λ (l : List (Result Reply TreeFault)). Ok (replies.Gone old) ∷ l) (told-both short more ws others ps rest e f)
told-both (shorts.Win ∷ short) more [] others ps rest e f = absurd (omega arith)
told-both (shorts.Win ∷ short) more (w ∷ ws) others ps rest e f =
    ap (λ (l : List (Result Reply TreeFault)). Ok (replies.Win w) ∷ l)
    (told-both short more ws others ps rest (omega arith) f)
told-both (shorts.Swapped outcome ∷ short) more ws others ps rest e f =
    ap (λ (l : List (Result Reply TreeFault)). Ok (replies.Swapped outcome) ∷ l)
    (told-both short more ws others ps rest e f)
told-both (shorts.Many ∷ short) more ws others [] rest e f = absurd (omega arith)
told-both (shorts.Many ∷ short) more ws others (p ∷ ps) rest e f =
    ap (λ (l : List (Result Reply TreeFault)). Ok (replies.Many p) ∷ l)
    (told-both short more ws others ps rest e (omega arith))
told-both (shorts.Wide reach ∷ short) more ws others ps rest e f =
    ap (λ (l : List (Result Reply TreeFault)). Ok (replies.Wide reach) ∷ l)
    (told-both short more ws others ps rest e f)
told-both (shorts.Fault fault ∷ short) more ws others ps rest e f =
    ap (λ (l : List (Result Reply TreeFault)). Err fault ∷ l) (told-both short more ws others ps rest e f)

wins-both : (short more : List Short) → wins_in (short ++ more) ≡ wins_in short + wins_in more
wins-both [] more = omega arith
wins-both (shorts.Got found ∷ short) more = wins-both short more
wins-both (shorts.Was old ∷ short) more = wins-both short more
wins-both (shorts.Gone old ∷ short) more = wins-both short more
wins-both (shorts.Win ∷ short) more = omega (arith, wins-both short more)
wins-both (shorts.Swapped outcome ∷ short) more = wins-both short more
wins-both (shorts.Many ∷ short) more = wins-both short more
wins-both (shorts.Wide reach ∷ short) more = wins-both short more
wins-both (shorts.Fault fault ∷ short) more = wins-both short more

ranges-both : (short more : List Short) → ranges_in (short ++ more) ≡ ranges_in short + ranges_in more
ranges-both [] more = omega arith
ranges-both (shorts.Got found ∷ short) more = ranges-both short more
ranges-both (shorts.Was old ∷ short) more = ranges-both short more
ranges-both (shorts.Gone old ∷ short) more = ranges-both short more
ranges-both (shorts.Win ∷ short) more = ranges-both short more
ranges-both (shorts.Swapped outcome ∷ short) more = ranges-both short more
ranges-both (shorts.Many ∷ short) more = omega (arith, ranges-both short more)
ranges-both (shorts.Wide reach ∷ short) more = ranges-both short more
ranges-both (shorts.Fault fault ∷ short) more = ranges-both short more

pub keeps-none : (kept : Replies) → kept.short.items ≡ [] → kept.windows.items ≡ [] → kept.spans.items ≡ [] → KeepsAnswers kept []
keeps-none kept short windows spans = record {
  stands = ap (λ (l : List Short). told_in l kept.windows.items kept.spans.items) short;
  shown = ap wins_in short ∙ sym (ap (λ (l : List Window). length l) windows);
  paired = ap ranges_in short ∙ sym (ap (λ (l : List (Pairs × ℕ)). length l) spans);
}

-- one more, with its window where it shows one, and its span where it has the pairs of a range
pub keeps-more : (kept new : Replies) (told : List (Result Reply TreeFault)) (s : Short) (others : List Window)
    (rest : List (Pairs × ℕ)) (answer given : Result Reply TreeFault)
    → new.short.items ≡ kept.short.items ++ s ∷ [] → new.windows.items ≡ kept.windows.items ++ others
    → new.spans.items ≡ kept.spans.items ++ rest
    → wins_in (s ∷ []) ≡ length others → ranges_in (s ∷ []) ≡ length rest → told_in (s ∷ []) others rest ≡ given ∷ []
    → answer ≡ given → KeepsAnswers kept told → KeepsAnswers new (told ++ answer ∷ [])
keeps-more kept new told s others rest answer given short windows spans one single is e k = record {
  stands =
      ap (λ (l : List Short). told_in l new.windows.items new.spans.items) short
      ∙ ap (λ (l : List Window). told_in (kept.short.items ++ s ∷ []) l new.spans.items) windows
      ∙ ap (λ (l : List (Pairs × ℕ)). told_in (kept.short.items ++ s ∷ []) (kept.windows.items ++ others) l) spans
      ∙ told-both kept.short.items (s ∷ []) kept.windows.items others kept.spans.items rest k.shown k.paired
      ∙ ap (λ (l : List (Result Reply TreeFault)). l ++ told_in (s ∷ []) others rest) k.stands
      ∙ ap (λ (l : List (Result Reply TreeFault)). told ++ l) is ∙ ap (λ (r : Result Reply TreeFault). told ++ r ∷ []) (sym e);
  shown =
      let many : wins_in new.short.items ≡ wins_in kept.short.items + wins_in (s ∷ []) =
      ap wins_in short ∙ wins-both kept.short.items (s ∷ []) in
      let long : length new.windows.items ≡ length kept.windows.items + length others =
      ap (λ (l : List Window). length l) windows ∙ length-append kept.windows.items others in
      omega (arith, many, long, one, k.shown);
  paired =
      let many : ranges_in new.short.items ≡ ranges_in kept.short.items + ranges_in (s ∷ []) =
      ap ranges_in short ∙ ranges-both kept.short.items (s ∷ []) in
      let long : length new.spans.items ≡ length kept.spans.items + length rest =
      ap (λ (l : List (Pairs × ℕ)). length l) spans ∙ length-append kept.spans.items rest in
      omega (arith, many, long, single, k.paired);
}

-- one more that shows no window and has no pairs
pub keeps-other : (kept new : Replies) (told : List (Result Reply TreeFault)) (s : Short) (answer given : Result Reply TreeFault)
    → new.short.items ≡ kept.short.items ++ s ∷ [] → new.windows ≡ kept.windows → new.spans ≡ kept.spans
    → wins_in (s ∷ []) ≡ 0 → ranges_in (s ∷ []) ≡ 0 → told_in (s ∷ []) [] [] ≡ given ∷ [] → answer ≡ given
    → KeepsAnswers kept told → KeepsAnswers new (told ++ answer ∷ [])
keeps-other kept new told s answer given short windows spans none single is e k =
    keeps-more kept new told s [] [] answer given short
    (ap (λ (v : Vec Window Global). v.items) windows ∙ sym (append-nil kept.windows.items))
    (ap (λ (v : Vec (Pairs × ℕ) Global). v.items) spans ∙ sym (append-nil kept.spans.items)) none single is e k

-- ---- room

asked-first : (call : Call) (rest : List Call) → windows_asked (call ∷ rest) ≡ windows_asked (call ∷ []) + windows_asked rest
asked-first (calls.Get key) rest = omega arith
asked-first (calls.Put key value) rest = omega arith
asked-first (calls.Del key) rest = omega arith
asked-first (calls.Window start most) rest = omega arith
asked-first (calls.Swap key want value) rest = omega arith
asked-first (calls.Range low bound) rest = omega arith

module _ (size : ℕ) where
  -- an answer is a window only where its call asks for one
  windows-fit : (call : Call) (r : Result Reply TreeFault) (v w : View Said) → IsTreeCall size call r v w
      → windows_of r ≤ windows_asked (call ∷ [])
  windows-fit call (Ok (replies.Got found)) v w t = omega arith
  windows-fit call (Ok (replies.Was old)) v w t = omega arith
  windows-fit call (Ok (replies.Gone old)) v w t = omega arith
  windows-fit (calls.Get key) (Ok (replies.Win window)) v w t = absurd t.1
  windows-fit (calls.Put key value) (Ok (replies.Win window)) v w t = absurd t.1
  windows-fit (calls.Del key) (Ok (replies.Win window)) v w t = absurd t.1
  windows-fit (calls.Window start most) (Ok (replies.Win window)) v w t = omega arith
  windows-fit (calls.Swap key want value) (Ok (replies.Win window)) v w t = absurd t.1
  windows-fit (calls.Range low bound) (Ok (replies.Win window)) v w t = absurd t.1
  windows-fit call (Ok (replies.Swapped outcome)) v w t = omega arith
  windows-fit call (Ok (replies.Many span)) v w t = omega arith
  windows-fit call (Ok (replies.Wide reach)) v w t = omega arith
  windows-fit call (Err fault) v w t = omega arith

  -- nor does it have pairs but where its call asks for a range
  spans-fit : (call : Call) (r : Result Reply TreeFault) (v w : View Said) → IsTreeCall size call r v w
      → spans_of r ≤ ranges_asked (call ∷ [])
  spans-fit call (Ok (replies.Got found)) v w t = omega arith
  spans-fit call (Ok (replies.Was old)) v w t = omega arith
  spans-fit call (Ok (replies.Gone old)) v w t = omega arith
  spans-fit call (Ok (replies.Win window)) v w t = omega arith
  spans-fit call (Ok (replies.Swapped outcome)) v w t = omega arith
  spans-fit (calls.Get key) (Ok (replies.Many span)) v w t = absurd t.1
  spans-fit (calls.Put key value) (Ok (replies.Many span)) v w t = absurd t.1
  spans-fit (calls.Del key) (Ok (replies.Many span)) v w t = absurd t.1
  spans-fit (calls.Window start most) (Ok (replies.Many span)) v w t = absurd t.1
  spans-fit (calls.Swap key want value) (Ok (replies.Many span)) v w t = absurd t.1
  spans-fit (calls.Range low bound) (Ok (replies.Many span)) v w t = omega arith
  spans-fit call (Ok (replies.Wide reach)) v w t = omega arith
  spans-fit call (Err fault) v w t = omega arith

  -- room for the answers to these calls takes the answer to the first
  pub room-now : (call : Call) (rest : List Call) (r : Result Reply TreeFault) (v w : View Said) (room : Room)
      → IsRoomFor (call ∷ rest) room → IsTreeCall size call r v w → (1 ≤ room.answers) × (windows_of r ≤ room.windows)
      × (spans_of r ≤ room.spans)
  room-now call rest r v w room i t = (
    omega (arith, i.answers),
    omega (arith, windows-fit call r v w t, asked-first call rest, i.windows),
    omega (arith, spans-fit call r v w t, ranges-first call rest, i.spans),
  )

  -- and then there is room for those to the others
  pub room-after : (call : Call) (rest : List Call) (r : Result Reply TreeFault) (v w : View Said) (old new : Room)
      → IsRoomFor (call ∷ rest) old → IsTreeCall size call r v w
      → old.answers ≤ new.answers + 1 → old.windows ≤ new.windows + windows_of r → old.spans ≤ new.spans + spans_of r → IsRoomFor rest new
  room-after call rest r v w old new i t answers windows spans = record {
    answers = omega (arith, i.answers, answers);
    windows = omega (arith, windows-fit call r v w t, asked-first call rest, i.windows, windows);
    spans = omega (arith, spans-fit call r v w t, ranges-first call rest, i.spans, spans);
  }
