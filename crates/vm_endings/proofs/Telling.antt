-- Workers and their answers: the text of what is left after one more worker, and that each call has an answer.
use Rattle.std.specs.declared.alloc.Global.{Global}
use Rattle.std.specs.List.{AllByRecursion}
use Rattle.std.proofs.Common.{[], ◌++◌, ◌+◌, ◌-◌, ◌<◌, ◌∙◌, ◌∷◌, ◌≡◌, ◌≤◌, add-one, ap, append-nil, append_assoc}
use Rattle.std.proofs.Common.{arith, drop, get_or, length, List, refl, Err, Ok, Result, subst, suc, sym, Vec, zero, ℕ}
use Rattle.std.proofs.lemmas.List.{drop-drop, drop_all, drop_more, length-drop}
use Rattle.vm_map.specs.{declared.call.Call.Call, declared.call.Reply.Reply}
use Rattle.vm_map.specs.{declared.window.Window.Window, Map.Pairs}
use Rattle.vm_map.specs.declared.call.Reply.TheVariants as kinds
use Rattle.vm_owner.specs.declared.Entry.{Entry}
use Rattle.vm_serve.specs.from_vm_tree_rule.declared_fault_TreeFault.{TreeFault}
use Rattle.vm_serve.specs.from_vm_calls.Compact.{all_replies, HasContents, ranges_in, replies_in, told_in, wins_in}
use Rattle.vm_serve.specs.from_vm_calls.{declared_compact_Replies.Replies, declared_compact_Short.Short}
use Rattle.vm_serve.specs.from_vm_drive.{Drives.AreFew, Drives.items_of, Holds.HoldsCalls, Holds.list_at}
use Rattle.vm_serve.specs.from_vm_calls.declared_compact_Short_TheVariants as shorts
use Rattle.vm_script.specs.{declared.text.Line.Line, Texts.replies_text, Texts.reply_line, Texts.worker_replies}
use Rattle.vm_endings.specs.Replies.{all_lines, AreMatched, line_in, lines_in}

abbrev pub Answer : Type 0
Answer = Result Reply TreeFault

abbrev Spans : Type 0
Spans = List (Pairs × ℕ)

abbrev pub Calls : Type 0
Calls = Vec Call Global

-- each list has one list of answers
pub as_many : (lists : List Calls) (replies : List Replies) → AreMatched (items_of lists) (all_replies replies)
    → length replies ≡ length lists
as_many [] [] same = refl
as_many [] (answers ∷ replies) same = absurd same
as_many (calls ∷ lists) [] same = absurd same
as_many (calls ∷ lists) (answers ∷ replies) same = ap suc (as_many lists replies same.1)

-- a worker has an answer to each of its calls
pub matched_at : (lists : List Calls) (replies : List Replies) (i : ℕ) (calls : Calls) (answers : Replies)
    → AreMatched (items_of lists) (all_replies replies) → i < length replies → calls ≡ get_or lists i calls
    → answers ≡ get_or replies i answers → length (replies_in answers) ≡ length calls.items
matched_at lists [] i calls answers same h e f = absurd (omega arith)
matched_at [] (a ∷ replies) i calls answers same h e f = absurd same
matched_at (c ∷ lists) (a ∷ replies) zero calls answers same h e f =
    ap (λ (v : Replies). length (replies_in v)) f ∙ same.0 ∙ sym (ap (λ (v : Calls). length v.items) e)
matched_at (c ∷ lists) (a ∷ replies) (suc i) calls answers same h e f = matched_at lists replies i calls answers same.1 (omega arith) e f

-- and each window and each range's pairs that it shows
pub contents_at : (replies : List Replies) (i : ℕ) (answers : Replies) → AllByRecursion HasContents replies
    → i < length replies → answers ≡ get_or replies i answers → HasContents answers
contents_at [] i answers all h e = absurd (omega arith)
contents_at (a ∷ replies) zero answers all h e = subst HasContents (sym e) all.0
contents_at (a ∷ replies) (suc i) answers all h e = contents_at replies i answers all.1 (omega arith) e

-- one of few lists is short
pub few_at : (lists : List Calls) (i : ℕ) (calls : Calls) → AreFew (items_of lists) → i < length lists
    → calls ≡ get_or lists i calls → length calls.items ≤ 1000000
few_at [] i calls few h e = absurd (omega arith)
few_at (c ∷ lists) zero calls few h e = subst (λ (v : Calls). length v.items ≤ 1000000) (sym e) few.0
few_at (c ∷ lists) (suc i) calls few h e = few_at lists i calls few.1 (omega arith) e

-- the workers' lines from i on begin with those of the worker i
lines_from : (lists : List Calls) (replies : List Replies) (i : ℕ) (calls : Calls) (answers : Replies)
    → AreMatched (items_of lists) (all_replies replies) → i < length replies → calls ≡ get_or lists i calls
    → answers ≡ get_or replies i answers → all_lines (items_of (drop i lists)) (all_replies (drop i replies))
    ≡ lines_in calls.items (replies_in answers) ∷ all_lines (items_of (drop (suc i) lists))
    (all_replies (drop (suc i) replies))
lines_from lists [] i calls answers same h e f = absurd (omega arith)
lines_from [] (a ∷ replies) i calls answers same h e f = absurd same
lines_from (c ∷ lists) (a ∷ replies) zero calls answers same h e f =
    ap (λ (v : Calls). lines_in v.items (replies_in a) ∷ all_lines (items_of lists) (all_replies replies)) (sym e)
    ∙ ap (λ (v : Replies). lines_in calls.items (replies_in v) ∷ all_lines (items_of lists) (all_replies replies))
    (sym f)
lines_from (c ∷ lists) (a ∷ replies) (suc i) calls answers same h e f = lines_from lists replies i calls answers same.1 (omega arith) e f

-- what was said up to worker i, and the text of what is left: the same after that worker
pub worker_told : (lists : List Calls) (replies : List Replies) (i : ℕ) (calls : Calls) (answers : Replies)
    (said now whole : List ℕ) → AreMatched (items_of lists) (all_replies replies) → i < length replies
    → calls ≡ get_or lists i calls → answers ≡ get_or replies i answers
    → said ++ worker_replies i (all_lines (items_of (drop i lists)) (all_replies (drop i replies))) ≡ whole
    → now ≡ said ++ replies_text i 1 (lines_in calls.items (replies_in answers))
    → now ++ worker_replies (i + 1) (all_lines (items_of (drop (i + 1) lists)) (all_replies (drop (i + 1) replies)))
    ≡ whole
worker_told lists replies i calls answers said now whole same h e f told more =
    let here : List ℕ = replies_text i 1 (lines_in calls.items (replies_in answers)) in
    let rest : ℕ → List ℕ = λ n. worker_replies (i + 1) (all_lines (items_of (drop n lists)) (all_replies (drop n replies))) in
    let both : worker_replies i (all_lines (items_of (drop i lists)) (all_replies (drop i replies))) ≡ here ++ rest
    (suc i) = ap (λ (l : List (List Line)). worker_replies i l)
    (lines_from lists replies i calls answers same h e f) in
    ap (λ n. now ++ rest n) (add-one i) ∙ ap (λ t. t ++ rest (suc i)) more ∙ append_assoc said here (rest (suc i))
    ∙ ap (λ t. said ++ t) (sym both) ∙ told

-- after the last worker nothing is left
pub workers_told : (lists : List Calls) (replies : List Replies) (i : ℕ) (said whole : List ℕ)
    → AreMatched (items_of lists) (all_replies replies) → length replies ≤ i
    → said ++ worker_replies i (all_lines (items_of (drop i lists)) (all_replies (drop i replies))) ≡ whole
    → said ≡ whole
workers_told lists replies i said whole same h told =
    let long : length lists ≤ i = omega (arith, as_many lists replies same) in
    let none : said ++ worker_replies i (all_lines (items_of (drop i lists)) (all_replies (drop i replies))) ≡ said
    ++ [] = ap (λ (l : List Calls).
    said ++ worker_replies i (all_lines (items_of l) (all_replies (drop i replies)))) (drop_all i lists long) in
    sym (append-nil said) ∙ sym none ∙ told

matched_lists : {C R : Type 0} (lists : List (List C)) (replies : List (List (Result R TreeFault))) → length replies ≡ length lists
    → ((w : ℕ) → w < length lists → length (list_at replies w) ≡ length (list_at lists w)) → AreMatched lists replies
matched_lists [] [] long each = tt
matched_lists [] (answers ∷ replies) long each = absurd (omega arith)
matched_lists (calls ∷ lists) [] long each = absurd (omega arith)
matched_lists (calls ∷ lists) (answers ∷ replies) long each =
    (each 0 (omega arith), matched_lists lists replies (omega arith) (λ w h. each (suc w) (omega arith)))

-- a history that holds the workers' calls has an answer for each of them
pub matched : {X C R P : Type 0} {plain : X → P} {said : C → R → P} (h : List (Entry X)) (lists : List (List C))
    (replies : List (List (Result R TreeFault))) → HoldsCalls plain said h lists replies → AreMatched lists replies
matched h lists replies holds = matched_lists lists replies holds.lists_long holds.each_long

-- ---- one worker's answers, one after another

-- there is an answer to each short form
pub told_long : (short : List Short) (windows : List Window) (spans : Spans) → wins_in short ≤ length windows
    → ranges_in short ≤ length spans → length (told_in short windows spans) ≡ length short
told_long [] windows spans h g = refl
told_long (shorts.Got found ∷ short) windows spans h g = ap suc (told_long short windows spans h g)
told_long (shorts.Was old ∷ short) windows spans h g = ap suc (told_long short windows spans h g)
told_long (shorts.Gone old ∷ short) windows spans h g = ap suc (told_long short windows spans h g)
told_long (shorts.Swapped outcome ∷ short) windows spans h g = ap suc (told_long short windows spans h g)
told_long (shorts.Win ∷ short) [] spans h g = absurd (omega arith)
told_long (shorts.Win ∷ short) (w ∷ windows) spans h g = ap suc (told_long short windows spans (omega arith) g)
told_long (shorts.Many ∷ short) windows [] h g = absurd (omega arith)
told_long (shorts.Many ∷ short) windows (s ∷ spans) h g = ap suc (told_long short windows spans h (omega arith))
told_long (shorts.Wide reach ∷ short) windows spans h g = ap suc (told_long short windows spans h g)
told_long (shorts.Fault fault ∷ short) windows spans h g = ap suc (told_long short windows spans h g)

wins_first : (s : Short) (short : List Short) → wins_in (s ∷ short) ≡ wins_in (s ∷ []) + wins_in short
wins_first (shorts.Got found) short = omega arith
wins_first (shorts.Was old) short = omega arith
wins_first (shorts.Gone old) short = omega arith
wins_first (shorts.Swapped outcome) short = omega arith
wins_first shorts.Win short = omega arith
wins_first shorts.Many short = omega arith
wins_first (shorts.Wide reach) short = omega arith
wins_first (shorts.Fault fault) short = omega arith

ranges_first : (s : Short) (short : List Short) → ranges_in (s ∷ short) ≡ ranges_in (s ∷ []) + ranges_in short
ranges_first (shorts.Got found) short = omega arith
ranges_first (shorts.Was old) short = omega arith
ranges_first (shorts.Gone old) short = omega arith
ranges_first (shorts.Swapped outcome) short = omega arith
ranges_first shorts.Win short = omega arith
ranges_first shorts.Many short = omega arith
ranges_first (shorts.Wide reach) short = omega arith
ranges_first (shorts.Fault fault) short = omega arith

line_first : (worker number : ℕ) (call : Call) (calls : List Call) (answer : Answer) (answers : List Answer)
    → replies_text worker number (lines_in (call ∷ calls) (answer ∷ answers)) ≡ replies_text worker number
    (lines_in (call ∷ []) (answer ∷ [])) ++ replies_text worker (number + 1) (lines_in calls answers)
line_first worker number call calls answer answers =
    ap (λ t. t ++ replies_text worker (number + 1) (lines_in calls answers))
    (sym (append-nil (reply_line worker number (line_in call answer))))

-- the lines are the first answer's, and those of the others with the windows and spans that it leaves
text_first : (worker number : ℕ) (call : Call) (calls : List Call) (s : Short) (short : List Short)
    (windows : List Window) (spans : Spans) → wins_in (s ∷ []) ≤ length windows → ranges_in (s ∷ []) ≤ length spans
    → replies_text worker number (lines_in (call ∷ calls) (told_in (s ∷ short) windows spans))
    ≡ replies_text worker number (lines_in (call ∷ []) (told_in (s ∷ []) windows spans)) ++ replies_text worker
    (number + 1) (lines_in calls
    (told_in short (drop (wins_in (s ∷ [])) windows) (drop (ranges_in (s ∷ [])) spans)))
text_first worker number call calls (shorts.Got found) short windows spans h g =
    line_first worker number call calls (Ok (kinds.Got found)) (told_in short windows spans)
text_first worker number call calls (shorts.Was old) short windows spans h g =
    line_first worker number call calls (Ok (kinds.Was old)) (told_in short windows spans)
text_first worker number call calls (shorts.Gone old) short windows spans h g =
    line_first worker number call calls (Ok (kinds.Gone old)) (told_in short windows spans)
text_first worker number call calls (shorts.Swapped outcome) short windows spans h g =
    line_first worker number call calls (Ok (kinds.Swapped outcome)) (told_in short windows spans)
text_first worker number call calls shorts.Win short [] spans h g = absurd (omega arith)
text_first worker number call calls shorts.Win short (w ∷ windows) spans h g =
    line_first worker number call calls (Ok (kinds.Win w)) (told_in short windows spans)
text_first worker number call calls shorts.Many short windows [] h g = absurd (omega arith)
text_first worker number call calls shorts.Many short windows (s ∷ spans) h g =
    line_first worker number call calls (Ok (kinds.Many s)) (told_in short windows spans)
text_first worker number call calls (shorts.Wide reach) short windows spans h g =
    line_first worker number call calls (Ok (kinds.Wide reach)) (told_in short windows spans)
text_first worker number call calls (shorts.Fault fault) short windows spans h g =
    line_first worker number call calls (Err fault) (told_in short windows spans)

-- what was said up to call i, and the text of what is left: the same after that call
pub answer_told : (calls : List Call) (short : List Short) (windows : List Window) (spans : Spans) (worker i j k : ℕ)
    (c : Call) (d : Short) (said now whole : List ℕ) → i < length calls → i < length short
    → wins_in (get_or short i d ∷ []) ≤ length (drop j windows) → ranges_in (get_or short i d ∷ []) ≤ length (drop k spans)
    → said ++ replies_text worker (i + 1) (lines_in (drop i calls) (told_in (drop i short) (drop j windows) (drop k spans))) ≡ whole
    → now ≡ said ++ replies_text worker (i + 1)
    (lines_in (get_or calls i c ∷ []) (told_in (get_or short i d ∷ []) (drop j windows) (drop k spans)))
    → now ++ replies_text worker (i + 1 + 1)
    (lines_in (drop (i + 1) calls)
    (told_in (drop (i + 1) short) (drop (j + wins_in (get_or short i d ∷ [])) windows)
    (drop (k + ranges_in (get_or short i d ∷ [])) spans))) ≡ whole
answer_told calls short windows spans worker i j k c d said now whole lc ls h g told more =
    let call : Call = get_or calls i c in
    let s : Short = get_or short i d in
    let left : List Window = drop j windows in
    let kept : Spans = drop k spans in
    let here : List ℕ = replies_text worker (i + 1) (lines_in (call ∷ []) (told_in (s ∷ []) left kept)) in
    let rest : List Window → Spans → List ℕ = λ ws ps. replies_text worker (i + 1 + 1)
    (lines_in (drop (i + 1) calls) (told_in (drop (i + 1) short) ws ps)) in
    let last : List ℕ = rest (drop (wins_in (s ∷ [])) left) (drop (ranges_in (s ∷ [])) kept) in
    let first : replies_text worker (i + 1) (lines_in (drop i calls) (told_in (drop i short) left kept)) ≡ here ++ last =
    ap (λ (l : List Call). replies_text worker (i + 1) (lines_in l (told_in (drop i short) left kept))) (drop_more calls i c lc)
    ∙ ap (λ (l : List Short).
    replies_text worker (i + 1) (lines_in (call ∷ drop (i + 1) calls) (told_in l left kept)))
    (drop_more short i d ls)
    ∙ text_first worker (i + 1) call (drop (i + 1) calls) s (drop (i + 1) short) left kept h g in
    ap (λ (ws : List Window). now ++ rest ws (drop (k + ranges_in (s ∷ [])) spans)) (sym (drop-drop (wins_in (s ∷ [])) j windows))
    ∙ ap (λ (ps : Spans). now ++ rest (drop (wins_in (s ∷ [])) left) ps) (sym (drop-drop (ranges_in (s ∷ [])) k spans))
    ∙ ap (λ t. t ++ last) more ∙ append_assoc said here last ∙ ap (λ t. said ++ t) (sym first) ∙ told

-- the windows that are left are enough for the answers that are
pub wins_left : (short : List Short) (windows : List Window) (i j : ℕ) (d : Short) → i < length short
    → wins_in short ≤ length windows → j + wins_in (drop i short) ≡ wins_in short
    → (wins_in (get_or short i d ∷ []) ≤ length (drop j windows))
    × ((j + wins_in (get_or short i d ∷ [])) + wins_in (drop (i + 1) short) ≡ wins_in short)
wins_left short windows i j d l enough sum =
    let cut : wins_in (drop i short) ≡ wins_in (get_or short i d ∷ []) + wins_in (drop (i + 1) short) =
    ap wins_in (drop_more short i d l) ∙ wins_first (get_or short i d) (drop (i + 1) short) in
    let long : length (drop j windows) ≡ length windows - j = length-drop j windows in
    (omega arith, omega arith)

-- and so are the spans
pub spans_left : (short : List Short) (spans : Spans) (i k : ℕ) (d : Short) → i < length short
    → ranges_in short ≤ length spans → k + ranges_in (drop i short) ≡ ranges_in short
    → (ranges_in (get_or short i d ∷ []) ≤ length (drop k spans))
    × ((k + ranges_in (get_or short i d ∷ [])) + ranges_in (drop (i + 1) short) ≡ ranges_in short)
spans_left short spans i k d l enough sum =
    let cut : ranges_in (drop i short) ≡ ranges_in (get_or short i d ∷ []) + ranges_in (drop (i + 1) short) =
    ap ranges_in (drop_more short i d l) ∙ ranges_first (get_or short i d) (drop (i + 1) short) in
    let long : length (drop k spans) ≡ length spans - k = length-drop k spans in
    (omega arith, omega arith)

pub wins_one : (s : Short) → wins_in (s ∷ []) ≤ 1
wins_one (shorts.Got found) = omega arith
wins_one (shorts.Was old) = omega arith
wins_one (shorts.Gone old) = omega arith
wins_one (shorts.Swapped outcome) = omega arith
wins_one shorts.Win = omega arith
wins_one shorts.Many = omega arith
wins_one (shorts.Wide reach) = omega arith
wins_one (shorts.Fault fault) = omega arith

pub ranges_one : (s : Short) → ranges_in (s ∷ []) ≤ 1
ranges_one (shorts.Got found) = omega arith
ranges_one (shorts.Was old) = omega arith
ranges_one (shorts.Gone old) = omega arith
ranges_one (shorts.Swapped outcome) = omega arith
ranges_one shorts.Win = omega arith
ranges_one shorts.Many = omega arith
ranges_one (shorts.Wide reach) = omega arith
ranges_one (shorts.Fault fault) = omega arith

no_lines : (calls : List Call) → lines_in calls [] ≡ []
no_lines [] = refl
no_lines (call ∷ calls) = refl

-- and after the last call nothing is left
pub answers_told : (calls : List Call) (short : List Short) (windows : List Window) (spans : Spans)
    (worker number i : ℕ) (said whole : List ℕ) → length short ≤ i
    → said ++ replies_text worker number (lines_in (drop i calls) (told_in (drop i short) windows spans)) ≡ whole
    → said ≡ whole
answers_told calls short windows spans worker number i said whole h told =
    let none : lines_in (drop i calls) (told_in (drop i short) windows spans) ≡ [] =
    ap (λ (l : List Short). lines_in (drop i calls) (told_in l windows spans)) (drop_all i short h)
    ∙ no_lines (drop i calls) in
    sym (append-nil said) ∙ ap (λ (l : List Line). said ++ replies_text worker number l) (sym none) ∙ told
