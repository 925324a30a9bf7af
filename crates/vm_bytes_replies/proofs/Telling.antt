-- Workers and their answers: that each call has one, and the text of what is left after one more answer or worker.
use Rattle.std.specs.declared.alloc.Global.{Global}
use Rattle.std.proofs.Common.{[], ◌++◌, ◌+◌, ◌-◌, ◌<◌, ◌∙◌, ◌∷◌, ◌≡◌, ◌≤◌, ap, append-nil, append_assoc, arith, drop}
use Rattle.std.proofs.Common.{Err, get_or, length, List, map, Ok, refl, Result, subst, suc, sym, Vec, zero, ℕ}
use Rattle.std.proofs.lemmas.List.{drop-drop, drop_all, drop_more, get_or-map, length-drop, length-map}
use Rattle.vm_bytes_laws.specs.declared.call.{KeyCall.KeyCall, KeyReply.KeyReply}
use Rattle.vm_bytes_laws.specs.declared.call.KeyReply.TheVariants as replies
use Rattle.vm_bytes_node.specs.declared.window.KeyWindow.{KeyWindow}
use Rattle.vm_bytes_serve.specs.from_vm_bytes_calls.{declared_answers_KeyReplies.KeyReplies, declared_answers_KeyShort.KeyShort}
use Rattle.vm_bytes_serve.specs.from_vm_bytes_calls.declared_answers_KeyShort_TheVariants as shorts
use Rattle.vm_bytes_serve.specs.from_vm_bytes_calls.KeyAnswers.{KeepsKeyAnswers, key_told_in, key_wins_in}
use Rattle.vm_bytes_serve.specs.from_vm_tree_rule.declared_fault_TreeFault.{TreeFault}
use Rattle.vm_bytes_serve.specs.from_vm_drive.{Drives.AreFew, Drives.items_of, Lists.AreKept}
use Rattle.vm_bytes_serve.proofs.{from_vm_calls.Lists.all-at, from_vm_drive.Crews.items-long}
use Rattle.vm_bytes_replies.specs.KeyLines.{AreAnswered, AreMatched, key_line, key_lines, key_worker_lines}

abbrev pub Answer : Type 0
Answer = Result KeyReply TreeFault

abbrev pub Calls : Type 0
Calls = Vec KeyCall Global

-- ---- texts

-- what was said, and the text of what is left: the same after the front of that text
text_then : (said here rest left now whole : List ℕ) → left ≡ here ++ rest → said ++ left ≡ whole → now ≡ said ++ here
    → now ++ rest ≡ whole
text_then said here rest left now whole cut told more =
    ap (λ t. t ++ rest) more ∙ append_assoc said here rest ∙ ap (λ t. said ++ t) (sym cut) ∙ told

-- and nothing is left in the end
text_end : (said left whole : List ℕ) → left ≡ [] → said ++ left ≡ whole → said ≡ whole
text_end said left whole none told = sym (append-nil said) ∙ ap (λ t. said ++ t) (sym none) ∙ told

-- ---- all workers

-- the answers that a worker's, and all workers', stand for
abbrev pub told_by : KeyReplies → List Answer
told_by kept = key_told_in kept.short.items kept.windows.items

abbrev pub all_told : List KeyReplies → List (List Answer)
all_told kept = map told_by kept

pub kept_told : (kept : List KeyReplies) (told : List (List Answer)) → AreKept KeepsKeyAnswers kept told
    → all_told kept ≡ told
kept_told [] [] k = refl
kept_told [] (t ∷ ts) k = absurd k
kept_told (r ∷ rs) [] k = absurd k
kept_told (r ∷ rs) (t ∷ ts) k = let first = k.0.stands in let rest : all_told rs ≡ ts = kept_told rs ts k.1 in cc

-- each window is one that a worker's answers show
shown_at : (kept : List KeyReplies) (told : List (List Answer)) (i : ℕ) (one : KeyReplies)
    → AreKept KeepsKeyAnswers kept told → i < length kept → one ≡ get_or kept i one
    → key_wins_in one.short.items ≡ length one.windows.items
shown_at [] told i one k l e = absurd (omega arith)
shown_at (r ∷ rs) [] i one k l e = absurd k
shown_at (r ∷ rs) (t ∷ ts) zero one k l e =
    subst (λ (v : KeyReplies). key_wins_in v.short.items ≡ length v.windows.items) (sym e) k.0.shown
shown_at (r ∷ rs) (t ∷ ts) (suc i) one k l e = shown_at rs ts i one k.1 (omega arith) e

-- each list has one list of answers
as_many : {X R : Type 0} (lists : List (List X)) (told : List (List (Result R TreeFault))) → AreMatched lists told
    → length told ≡ length lists
as_many [] [] m = refl
as_many [] (answers ∷ told) m = absurd m
as_many (calls ∷ lists) [] m = absurd m
as_many (calls ∷ lists) (answers ∷ told) m = ap suc (as_many lists told m.1)

-- one for each of its calls
matched_at : {X R : Type 0} (lists : List (List X)) (told : List (List (Result R TreeFault))) (i : ℕ) (d : List X)
    (e : List (Result R TreeFault)) → AreMatched lists told → i < length lists
    → length (get_or told i e) ≡ length (get_or lists i d)
matched_at [] told i d e m l = absurd (omega arith)
matched_at (calls ∷ lists) [] i d e m l = absurd m
matched_at (calls ∷ lists) (answers ∷ told) zero d e m l = m.0
matched_at (calls ∷ lists) (answers ∷ told) (suc i) d e m l = matched_at lists told i d e m.1 (omega arith)

-- one of a list, and what is made of it
mapped_at : {X Y : Type 0} (f : X → Y) (xs : List X) (i : ℕ) (x : X) → i < length xs → x ≡ get_or xs i x
    → get_or (map f xs) i (f x) ≡ f x
mapped_at f xs i x l e = get_or-map f xs i x (f x) l ∙ ap f (sym e)

-- one of few lists is short
pub few_at : (lists : List Calls) (i : ℕ) (calls : Calls) → AreFew (items_of lists) → i < length lists
    → calls ≡ get_or lists i calls → length calls.items ≤ 1000000
few_at lists i calls few l e =
    let P : List KeyCall → Type 0 = λ x. length x ≤ 1000000 in
    subst P (mapped_at (λ (v : Calls). v.items) lists i calls l e)
    (all-at P (items_of lists) i calls.items few (omega (arith, items-long lists)))

module _ (lists : List Calls) (kept : List KeyReplies) (answered : AreAnswered (items_of lists) kept) where
  matched : AreMatched (items_of lists) (all_told kept)
  matched = subst (λ (t : List (List Answer)). AreMatched (items_of lists) t)
      (sym (kept_told kept answered.told answered.stand)) answered.matched

  -- each worker has answered its list
  pub kept_long : length kept ≡ length lists
  kept_long = omega (
    arith,
    as_many (items_of lists) (all_told kept) matched,
    items-long lists,
    length-map kept told_by,
  )

  -- after the last worker nothing is left
  pub workers_told : (i : ℕ) (said whole : List ℕ) → length kept ≤ i
      → said ++ key_worker_lines i (drop i (items_of lists)) (drop i (all_told kept)) ≡ whole → said ≡ whole
  workers_told i said whole l is =
      let over : length (items_of lists) ≤ i = omega (arith, kept_long, items-long lists) in
      text_end said (key_worker_lines i (drop i (items_of lists)) (drop i (all_told kept))) whole
      (ap (λ (x : List (List KeyCall)). key_worker_lines i x (drop i (all_told kept)))
      (drop_all i (items_of lists) over)) is

-- of worker i
module _ (lists : List Calls) (kept : List KeyReplies) (answered : AreAnswered (items_of lists) kept) (i : ℕ)
    (calls : Calls) (one : KeyReplies) (inside : i < length kept) (c : calls ≡ get_or lists i calls)
    (a : one ≡ get_or kept i one) where
  its_calls : get_or (items_of lists) i calls.items ≡ calls.items
  its_calls = mapped_at (λ (v : Calls). v.items) lists i calls (omega (arith, kept_long lists kept answered)) c

  its_answers : get_or (all_told kept) i (told_by one) ≡ told_by one
  its_answers = mapped_at told_by kept i one inside a

  -- each window is one that its answers show
  pub its_shown : key_wins_in one.short.items ≡ length one.windows.items
  its_shown = shown_at kept answered.told i one answered.stand inside a

  -- it has an answer to each of its calls
  pub its_matched : length (told_by one) ≡ length calls.items
  its_matched =
      ap (λ (x : List Answer). length x) (sym its_answers)
      ∙ matched_at (items_of lists) (all_told kept) i calls.items (told_by one) (matched lists kept answered)
      (omega (arith, kept_long lists kept answered, items-long lists)) ∙ ap (λ (x : List KeyCall). length x) its_calls

  -- what was said up to it, and the text of what is left: the same after it
  pub worker_told : (said now whole : List ℕ)
      → said ++ key_worker_lines i (drop i (items_of lists)) (drop i (all_told kept)) ≡ whole
      → now ≡ said ++ key_lines i 1 calls.items (told_by one)
      → now ++ key_worker_lines (i + 1) (drop (i + 1) (items_of lists)) (drop (i + 1) (all_told kept)) ≡ whole
  worker_told said now whole is more =
      let behind = drop (i + 1) (items_of lists) in
      let after = drop (i + 1) (all_told kept) in
      let first : drop i (items_of lists) ≡ calls.items ∷ behind =
      drop_more (items_of lists) i calls.items (omega (arith, kept_long lists kept answered, items-long lists))
      ∙ ap (λ (x : List KeyCall). x ∷ behind) its_calls in
      let second : drop i (all_told kept) ≡ told_by one ∷ after =
      drop_more (all_told kept) i (told_by one) (omega (arith, inside, length-map kept told_by))
      ∙ ap (λ (x : List Answer). x ∷ after) its_answers in
      text_then said (key_lines i 1 calls.items (told_by one)) (key_worker_lines (i + 1) behind after)
      (key_worker_lines i (drop i (items_of lists)) (drop i (all_told kept))) now whole
      (ap (λ (x : List (List KeyCall)). key_worker_lines i x (drop i (all_told kept))) first
      ∙ ap (λ (x : List (List Answer)). key_worker_lines i (calls.items ∷ behind) x) second) is more

-- ---- one worker

-- there is an answer to each short form
pub told_long : (short : List KeyShort) (windows : List KeyWindow) → key_wins_in short ≡ length windows
    → length (key_told_in short windows) ≡ length short
told_long [] windows h = refl
told_long (shorts.Got found ∷ short) windows h = ap suc (told_long short windows h)
told_long (shorts.Was old ∷ short) windows h = ap suc (told_long short windows h)
told_long (shorts.Gone old ∷ short) windows h = ap suc (told_long short windows h)
told_long (shorts.Swapped outcome ∷ short) windows h = ap suc (told_long short windows h)
told_long (shorts.Win ∷ short) [] h = absurd (omega arith)
told_long (shorts.Win ∷ short) (w ∷ windows) h = ap suc (told_long short windows (omega arith))
told_long (shorts.Fault fault ∷ short) windows h = ap suc (told_long short windows h)

wins_first : (s : KeyShort) (short : List KeyShort) → key_wins_in (s ∷ short) ≡ key_wins_in (s ∷ []) + key_wins_in short
wins_first (shorts.Got found) short = omega arith
wins_first (shorts.Was old) short = omega arith
wins_first (shorts.Gone old) short = omega arith
wins_first (shorts.Swapped outcome) short = omega arith
wins_first shorts.Win short = omega arith
wins_first (shorts.Fault fault) short = omega arith

pub wins_one : (s : KeyShort) → key_wins_in (s ∷ []) ≤ 1
wins_one (shorts.Got found) = omega arith
wins_one (shorts.Was old) = omega arith
wins_one (shorts.Gone old) = omega arith
wins_one (shorts.Swapped outcome) = omega arith
wins_one shorts.Win = omega arith
wins_one (shorts.Fault fault) = omega arith

line_first : (worker number : ℕ) (call : KeyCall) (calls : List KeyCall) (answer : Answer) (answers : List Answer)
    → key_lines worker number (call ∷ calls) (answer ∷ answers)
    ≡ key_lines worker number (call ∷ []) (answer ∷ []) ++ key_lines worker (number + 1) calls answers
line_first worker number call calls answer answers =
    ap (λ t. t ++ key_lines worker (number + 1) calls answers) (sym (append-nil (key_line worker number call answer)))

-- the lines are the first answer's, and those of the others with the windows that it leaves
text_first : (worker number : ℕ) (call : KeyCall) (calls : List KeyCall) (s : KeyShort) (short : List KeyShort)
    (windows : List KeyWindow) → key_wins_in (s ∷ []) ≤ length windows
    → key_lines worker number (call ∷ calls) (key_told_in (s ∷ short) windows)
    ≡ key_lines worker number (call ∷ []) (key_told_in (s ∷ []) windows)
    ++ key_lines worker (number + 1) calls (key_told_in short (drop (key_wins_in (s ∷ [])) windows))
text_first worker number call calls (shorts.Got found) short windows h =
    line_first worker number call calls (Ok (replies.Got found)) (key_told_in short windows)
text_first worker number call calls (shorts.Was old) short windows h =
    line_first worker number call calls (Ok (replies.Was old)) (key_told_in short windows)
text_first worker number call calls (shorts.Gone old) short windows h =
    line_first worker number call calls (Ok (replies.Gone old)) (key_told_in short windows)
text_first worker number call calls (shorts.Swapped outcome) short windows h =
    line_first worker number call calls (Ok (replies.Swapped outcome)) (key_told_in short windows)
text_first worker number call calls shorts.Win short [] h = absurd (omega arith)
text_first worker number call calls shorts.Win short (w ∷ windows) h =
    line_first worker number call calls (Ok (replies.Win w)) (key_told_in short windows)
text_first worker number call calls (shorts.Fault fault) short windows h =
    line_first worker number call calls (Err fault) (key_told_in short windows)

-- what was said up to call i, and the text of what is left: the same after that call
pub answer_told : (calls : List KeyCall) (short : List KeyShort) (windows : List KeyWindow) (worker i j : ℕ)
    (call : KeyCall) (d s : KeyShort) (said now whole : List ℕ) → i < length calls → i < length short
    → get_or calls i call ≡ call → get_or short i d ≡ s → key_wins_in (s ∷ []) ≤ length (drop j windows)
    → said ++ key_lines worker (i + 1) (drop i calls) (key_told_in (drop i short) (drop j windows)) ≡ whole
    → now ≡ said ++ key_lines worker (i + 1) (call ∷ []) (key_told_in (s ∷ []) (drop j windows))
    → now ++ key_lines worker (i + 1 + 1) (drop (i + 1) calls)
    (key_told_in (drop (i + 1) short) (drop (j + key_wins_in (s ∷ [])) windows)) ≡ whole
answer_told calls short windows worker i j call d s said now whole lc ls c e h is more =
    let behind = drop (i + 1) calls in
    let after = drop (i + 1) short in
    let left = drop j windows in
    let lines : List KeyCall → List KeyShort → List ℕ = λ x y. key_lines worker (i + 1) x (key_told_in y left) in
    let rest : List KeyWindow → List ℕ = λ ws. key_lines worker (i + 1 + 1) behind (key_told_in after ws) in
    let first : drop i calls ≡ call ∷ behind = drop_more calls i call lc ∙ ap (λ (x : KeyCall). x ∷ behind) c in
    let second : drop i short ≡ s ∷ after = drop_more short i d ls ∙ ap (λ (x : KeyShort). x ∷ after) e in
    ap (λ (ws : List KeyWindow). now ++ rest ws) (sym (drop-drop (key_wins_in (s ∷ [])) j windows))
    ∙ text_then said (lines (call ∷ []) (s ∷ [])) (rest (drop (key_wins_in (s ∷ [])) left))
    (lines (drop i calls) (drop i short)) now whole
    (ap (λ (x : List KeyCall). lines x (drop i short)) first
    ∙ ap (λ (y : List KeyShort). lines (call ∷ behind) y) second
    ∙ text_first worker (i + 1) call behind s after left h) is more

-- the windows that are left are enough for the answers that are
pub wins_left : (short : List KeyShort) (windows : List KeyWindow) (i j : ℕ) (d s : KeyShort) → i < length short
    → get_or short i d ≡ s → key_wins_in short ≡ length windows → j + key_wins_in (drop i short) ≡ key_wins_in short
    → (key_wins_in (s ∷ []) ≤ length (drop j windows))
    × ((j + key_wins_in (s ∷ [])) + key_wins_in (drop (i + 1) short) ≡ key_wins_in short)
wins_left short windows i j d s l e enough sum =
    let after = drop (i + 1) short in
    let cut : key_wins_in (drop i short) ≡ key_wins_in (s ∷ []) + key_wins_in after =
    ap key_wins_in (drop_more short i d l ∙ ap (λ (x : KeyShort). x ∷ after) e) ∙ wins_first s after in
    let long : length (drop j windows) ≡ length windows - j = length-drop j windows in
    (omega arith, omega arith)

-- and after the last call nothing is left
pub answers_told : (calls : List KeyCall) (short : List KeyShort) (windows : List KeyWindow) (worker number i : ℕ)
    (said whole : List ℕ) → length calls ≤ i
    → said ++ key_lines worker number (drop i calls) (key_told_in (drop i short) windows) ≡ whole → said ≡ whole
answers_told calls short windows worker number i said whole l is =
    text_end said (key_lines worker number (drop i calls) (key_told_in (drop i short) windows)) whole
    (ap (λ (x : List KeyCall). key_lines worker number x (key_told_in (drop i short) windows)) (drop_all i calls l)) is
