-- Answers to calls with byte keys in little memory, and the room for them: one answer more.
use Rattle.std.specs.declared.alloc.Global.{Global}
use Rattle.std.proofs.Common.{[], ◌++◌, ◌+◌, ◌∙◌, ◌∷◌, ◌≡◌, ◌≤◌, ap, append-nil, arith, Err, length, List, Ok, refl, Result, sym, Vec}
use Rattle.std.proofs.lemmas.List.{length-append}
use Rattle.vm_step.specs.Prelude.{View}
use Rattle.vm_bytes_laws.specs.declared.call.{KeyCall.KeyCall, KeyReply.KeyReply, KeySaid.KeySaid}
use Rattle.vm_bytes_laws.specs.declared.call.KeyCall.TheVariants as calls
use Rattle.vm_bytes_laws.specs.declared.call.KeyReply.TheVariants as replies
use Rattle.vm_bytes_node.specs.declared.window.KeyWindow.{KeyWindow}
use Rattle.vm_calls.specs.from_vm_tree_rule.declared_fault_TreeFault.{TreeFault}
use Rattle.vm_bytes_calls.specs.declared.answers.{KeyReplies.KeyReplies, KeyShort.KeyShort}
use Rattle.vm_bytes_calls.specs.declared.answers.KeyShort.TheVariants as shorts
use Rattle.vm_bytes_calls.specs.KeyAnswers.{answers_left, HasKeyRoom, KeepsKeyAnswers, key_told_in, key_windows_asked, key_windows_of, key_wins_in, windows_left}
use Rattle.vm_bytes_calls.specs.KeyCalls.{IsKeyCall}

-- ---- what short forms stand for

-- those behind others, with the windows behind theirs
told-both : (short more : List KeyShort) (windows others : List KeyWindow) → key_wins_in short ≡ length windows
    → key_told_in (short ++ more) (windows ++ others) ≡ key_told_in short windows ++ key_told_in more others
told-both [] more [] others e = refl
told-both [] more (w ∷ ws) others e = absurd (omega arith)
told-both (shorts.Got found ∷ short) more ws others e =
    ap (λ (l : List (Result KeyReply TreeFault)). Ok (replies.Got found) ∷ l) (told-both short more ws others e)
told-both (shorts.Was old ∷ short) more ws others e =
    ap (λ (l : List (Result KeyReply TreeFault)). Ok (replies.Was old) ∷ l) (told-both short more ws others e)
told-both (shorts.Gone old ∷ short) more ws others e =
    ap (λ (l : List (Result KeyReply TreeFault)). Ok (replies.Gone old) ∷ l) (told-both short more ws others e)
told-both (shorts.Swapped outcome ∷ short) more ws others e =
    ap (λ (l : List (Result KeyReply TreeFault)). Ok (replies.Swapped outcome) ∷ l) (told-both short more ws others e)
told-both (shorts.Win ∷ short) more [] others e = absurd (omega arith)
told-both (shorts.Win ∷ short) more (w ∷ ws) others e =
    ap (λ (l : List (Result KeyReply TreeFault)). Ok (replies.Win w) ∷ l) (told-both short more ws others (omega arith))
told-both (shorts.Fault fault ∷ short) more ws others e =
    ap (λ (l : List (Result KeyReply TreeFault)). Err fault ∷ l) (told-both short more ws others e)

wins-both : (short more : List KeyShort) → key_wins_in (short ++ more) ≡ key_wins_in short + key_wins_in more
wins-both [] more = omega arith
wins-both (shorts.Got found ∷ short) more = wins-both short more
wins-both (shorts.Was old ∷ short) more = wins-both short more
wins-both (shorts.Gone old ∷ short) more = wins-both short more
wins-both (shorts.Swapped outcome ∷ short) more = wins-both short more
wins-both (shorts.Win ∷ short) more = omega (arith, wins-both short more)
wins-both (shorts.Fault fault ∷ short) more = wins-both short more

pub keeps-none : (kept : KeyReplies) → kept.short.items ≡ [] → kept.windows.items ≡ [] → KeepsKeyAnswers kept []
keeps-none kept short windows = record {
  stands = ap (λ (l : List KeyShort). key_told_in l kept.windows.items) short;
  shown = ap key_wins_in short ∙ sym (ap (λ (l : List KeyWindow). length l) windows);
}

-- one more, with its window where it shows one
pub keeps-more : (kept new : KeyReplies) (told : List (Result KeyReply TreeFault)) (s : KeyShort) (others : List KeyWindow)
    (answer given : Result KeyReply TreeFault) → new.short.items ≡ kept.short.items ++ s ∷ []
    → new.windows.items ≡ kept.windows.items ++ others → key_wins_in (s ∷ []) ≡ length others
    → key_told_in (s ∷ []) others ≡ given ∷ [] → answer ≡ given → KeepsKeyAnswers kept told
    → KeepsKeyAnswers new (told ++ answer ∷ [])
keeps-more kept new told s others answer given short windows one is e k = record {
  stands =
      ap (λ (l : List KeyShort). key_told_in l new.windows.items) short
      ∙ ap (λ (l : List KeyWindow). key_told_in (kept.short.items ++ s ∷ []) l) windows
      ∙ told-both kept.short.items (s ∷ []) kept.windows.items others k.shown
      ∙ ap (λ (l : List (Result KeyReply TreeFault)). l ++ key_told_in (s ∷ []) others) k.stands
      ∙ ap (λ (l : List (Result KeyReply TreeFault)). told ++ l) is ∙ ap (λ (r : Result KeyReply TreeFault). told ++ r ∷ []) (sym e);
  shown =
      let many : key_wins_in new.short.items ≡ key_wins_in kept.short.items + key_wins_in (s ∷ []) =
      ap key_wins_in short ∙ wins-both kept.short.items (s ∷ []) in
      let long : length new.windows.items ≡ length kept.windows.items + length others =
      ap (λ (l : List KeyWindow). length l) windows ∙ length-append kept.windows.items others in
      omega (arith, many, long, one, k.shown);
}

-- one more that shows no window
pub keeps-other : (kept new : KeyReplies) (told : List (Result KeyReply TreeFault)) (s : KeyShort)
    (answer given : Result KeyReply TreeFault) → new.short.items ≡ kept.short.items ++ s ∷ [] → new.windows ≡ kept.windows
    → key_wins_in (s ∷ []) ≡ 0 → key_told_in (s ∷ []) [] ≡ given ∷ [] → answer ≡ given
    → KeepsKeyAnswers kept told → KeepsKeyAnswers new (told ++ answer ∷ [])
keeps-other kept new told s answer given short windows none is e k =
    keeps-more kept new told s [] answer given short
    (ap (λ (v : Vec KeyWindow Global). v.items) windows ∙ sym (append-nil kept.windows.items)) none is e k

-- ---- room

asked-first : (call : KeyCall) (rest : List KeyCall) → key_windows_asked (call ∷ rest) ≡ key_windows_asked (call ∷ []) + key_windows_asked rest
asked-first (calls.Get key) rest = omega arith
asked-first (calls.Put key value) rest = omega arith
asked-first (calls.Del key) rest = omega arith
asked-first (calls.Window start most) rest = omega arith
asked-first (calls.Swap key want value) rest = omega arith

-- an answer is a window only where its call asks for one
windows-fit : (call : KeyCall) (r : Result KeyReply TreeFault) (v w : View KeySaid) → IsKeyCall call r v w
    → key_windows_of r ≤ key_windows_asked (call ∷ [])
windows-fit call (Ok (replies.Got found)) v w t = omega arith
windows-fit call (Ok (replies.Was old)) v w t = omega arith
windows-fit call (Ok (replies.Gone old)) v w t = omega arith
windows-fit (calls.Get key) (Ok (replies.Win window)) v w t = absurd t.1
windows-fit (calls.Put key value) (Ok (replies.Win window)) v w t = absurd t.1
windows-fit (calls.Del key) (Ok (replies.Win window)) v w t = absurd t.1
windows-fit (calls.Window start most) (Ok (replies.Win window)) v w t = omega arith
windows-fit (calls.Swap key want value) (Ok (replies.Win window)) v w t = absurd t.1
windows-fit call (Ok (replies.Swapped outcome)) v w t = omega arith
windows-fit call (Err fault) v w t = omega arith

-- room for the answers to these calls takes the answer to the first
pub room-now : (call : KeyCall) (rest : List KeyCall) (r : Result KeyReply TreeFault) (v w : View KeySaid) (kept : KeyReplies)
    → HasKeyRoom kept (call ∷ rest) → IsKeyCall call r v w → (1 ≤ answers_left kept) × (key_windows_of r ≤ windows_left kept)
room-now call rest r v w kept i t =
    (omega (arith, i.answers), omega (arith, windows-fit call r v w t, asked-first call rest, i.windows))

-- and then there is room for those to the others
pub room-after : (call : KeyCall) (rest : List KeyCall) (r : Result KeyReply TreeFault) (v w : View KeySaid) (old new : KeyReplies)
    → HasKeyRoom old (call ∷ rest) → IsKeyCall call r v w → answers_left old ≤ answers_left new + 1
    → windows_left old ≤ windows_left new + key_windows_of r → HasKeyRoom new rest
room-after call rest r v w old new i t answers windows = record {
  answers = omega (arith, i.answers, answers);
  windows = omega (arith, windows-fit call r v w t, asked-first call rest, i.windows, windows);
}
