-- How far the values of a churn's last map can add up: each is a value of the first map or of a put, and a place's values are small.
use Rattle.std.specs.List.{AllByRecursion, flat_map, range_with_len}
use Rattle.std.proofs.Common.{[], ◌%◌, ◌*◌, ◌+◌, ◌-◌, ◌<◌, ◌==◌, ◌∷◌, ◌≡◌, ◌≤◌, arith, Bool, cond, Err, false, filter}
use Rattle.std.proofs.Common.{le_trans, length, List, nat_lt, Ok, Result, subst, suc, sym, true, zero, ℕ}
use Rattle.std.proofs.lemmas.List.Concat.{flat_map-cons}
use Rattle.std.proofs.lemmas.List.Sums.{sum_by-append, sum_by-cons}
use Rattle.vm_map.specs.{declared.call.Call.Call, declared.call.Reply.Reply, declared.call.Said.Said, History.after, History.after_all}
use Rattle.vm_map.specs.declared.call.Call.TheVariants.{Del, Get, Put, Range, Swap, Window}
use Rattle.vm_map.specs.Map.{del_pair, gather, is_value, lookup_at, Pairs, put_pair}
use Rattle.vm_build.specs.Numbers.{number_at, numbered}
use Rattle.vm_rule.specs.Prelude.{Entry}
use Rattle.vm_tree_laws.specs.History.{saids}
use Rattle.vm_drive.specs.from_vm_tree_rule.declared_fault_TreeFault.{TreeFault}
use Rattle.vm_drive.specs.Prelude.{answered, as_said, word_said}
use Rattle.vm_drive.specs.Holds.{HoldsCalls, list_at}
use Rattle.vm_churn.specs.Calls.{calls_for, churn_lists, key_at, place_calls, places_of, worker_calls}
use Rattle.vm_churn.specs.Tallies.{sum_values}
use Rattle.vm_churn.proofs.Lists.{count_lists, each-both, few_worker, list_is}
use Rattle.vm_churn.proofs.Tallying.{sum_to, weight, weight_held}

-- ---- what edits of a map do to the sum of its values

sum-cons : (e : ℕ × ℕ) (m : Pairs) → sum_values (e ∷ m) ≡ e.1 + sum_values m
sum-cons e m = sum_by-cons (λ (x : ℕ × ℕ). x.1) e m

sum-put : (m : Pairs) (k v : ℕ) → sum_values (put_pair m k v) ≤ sum_values m + v
sum-put [] k v = omega (arith, sum-cons (k, v) [])
sum-put (e ∷ es) k v =
    let rest : sum_values (put_pair es k v) ≤ sum_values es + v = sum-put es k v in
    elim (nat_lt k e.0) as (λ b.
    sum_values (cond b ((k, v) ∷ e ∷ es) (cond (k == e.0) ((k, v) ∷ es) (e ∷ put_pair es k v))) ≤ sum_values
    (e ∷ es) + v) [
      | true ↦ omega (arith, sum-cons (k, v) (e ∷ es))
      | false ↦ elim (k == e.0) as (λ b. sum_values (cond b ((k, v) ∷ es) (e ∷ put_pair es k v)) ≤ sum_values (e ∷ es) + v) [
        | true ↦ omega (arith, sum-cons (k, v) es, sum-cons e es)
        | false ↦ omega (arith, rest, sum-cons e es, sum-cons e (put_pair es k v))
      ]
    ]

sum-del : (m : Pairs) (k : ℕ) → sum_values (del_pair m k) ≤ sum_values m
sum-del [] k = omega arith
sum-del (e ∷ es) k =
    let rest : sum_values (del_pair es k) ≤ sum_values es = sum-del es k in
    elim (k == e.0) as (λ b. sum_values (cond b es (e ∷ del_pair es k)) ≤ sum_values (e ∷ es)) [
      | true ↦ omega (arith, sum-cons e es)
      | false ↦ omega (arith, rest, sum-cons e es, sum-cons e (del_pair es k))
    ]

sum-gather : (pairs : Pairs) → sum_values (gather pairs) ≤ sum_values pairs
sum-gather [] = omega arith
sum-gather (e ∷ es) = omega (arith, sum-gather es, sum-put (gather es) e.0 e.1, sum-cons e es)

-- what a call puts
abbrev value_in : Call → ℕ
value_in (Get key) = 0
value_in (Put key value) = value
value_in (Del key) = 0
value_in (Window start most) = 0
value_in (Swap key want value) = value
value_in (Range low bound) = 0

abbrev puts : Said → ℕ
puts s = value_in s.call

sum-after : (m : Pairs) (call : Call) → sum_values (after m call) ≤ sum_values m + value_in call
sum-after m (Get key) = omega arith
sum-after m (Put key value) = sum-put m key value
sum-after m (Del key) = omega (arith, sum-del m key)
sum-after m (Window start most) = omega arith
sum-after m (Swap key want value) =
    elim (is_value (lookup_at m key) want) as (λ b. sum_values (cond b (put_pair m key value) m) ≤ sum_values
    m + value) [ true ↦ sum-put m key value | false ↦ omega arith ]
sum-after m (Range low bound) = omega arith

sum-after_all : (m : Pairs) (ss : List Said) → sum_values (after_all m ss) ≤ sum_values m + weight puts ss
sum-after_all m [] = omega arith
sum-after_all m (s ∷ ss) = omega (arith, sum-after m s.call, sum-after_all (after m s.call) ss)

-- ---- what a churn's calls put

numbered-sum : (seed n : ℕ) → n ≤ 100000 → sum_values (numbered seed n) ≤ 100000 * n
numbered-sum seed zero few = omega arith
numbered-sum seed (suc n) few =
    let more : sum_values (numbered seed (suc n)) ≡ sum_values (numbered seed n) + sum_values
    ((number_at seed n, n + 1) ∷ []) = sum_by-append (λ (x : ℕ × ℕ). x.1) (numbered seed n)
    ((number_at seed n, n + 1) ∷ []) in
    omega (arith, more, sum-cons (number_at seed n, n + 1) [], numbered-sum seed n (omega arith))

abbrev IsSmall : Call → Type 0
IsSmall call = value_in call ≤ 100000

small-place : (place key new : ℕ) → place ≤ 100000 → AllByRecursion IsSmall (calls_for place key new)
small-place place key new few =
    elim (place % 2 == 0) as (λ b. AllByRecursion IsSmall (Get key ∷ Put new place ∷ cond b (Del key ∷ []) [])) [
      | true
          ↦ (omega arith, (few, (omega arith, tt)))
      | false ↦ (omega arith, (few, tt))
    ]

small-calls : (n seed : ℕ) (places : List ℕ) → AllByRecursion (λ place. place ≤ 100000) places
    → AllByRecursion IsSmall (flat_map (place_calls n seed) places)
small-calls n seed [] few = tt
small-calls n seed (place ∷ places) few =
    subst (λ (l : List Call). AllByRecursion IsSmall l) (sym (flat_map-cons (place_calls n seed) place places))
    (each-both IsSmall (place_calls n seed place) (flat_map (place_calls n seed) places)
    (small-place place (key_at seed place) (key_at seed (n + place)) few.0) (small-calls n seed places few.1))

few-range : (a n : ℕ) → a + n ≤ 100001 → AllByRecursion (λ place. place ≤ 100000) (range_with_len a n)
few-range a zero few = tt
few-range a (suc n) few = (omega arith, few-range (a + 1) n (omega arith))

filtered : {X : Type 0} (P : X → Type 0) (p : X → Bool) (xs : List X) → AllByRecursion P xs → AllByRecursion P (filter p xs)
filtered P p [] all = tt
filtered P p (x ∷ xs) all = let rest = filtered P p xs all.1 in
    elim (p x) as (λ b. AllByRecursion P (cond b (x ∷ filter p xs) (filter p xs))) [
      | true ↦ (all.0, rest)
      | false ↦
          rest
    ]

small_worker : (n seed workers w : ℕ) → n ≤ 100000 → AllByRecursion IsSmall (worker_calls n seed workers w)
small_worker n seed workers w few = small-calls n seed (places_of n workers w)
    (filtered (λ place. place ≤ 100000) (λ place. (place - 1) % workers == w) (range_with_len 1 n)
    (few-range 1 n (omega arith)))

weight-small : (cs : List Call) (rs : List (Result Reply TreeFault)) → AllByRecursion IsSmall cs
    → weight puts (answered word_said cs rs) ≤ 100000 * length cs
weight-small [] rs small = omega arith
weight-small (c ∷ cs) [] small = omega arith
weight-small (c ∷ cs) (Ok r ∷ rs) small = omega (arith, small.0, weight-small cs rs small.1)
weight-small (c ∷ cs) (Err f ∷ rs) small = omega (arith, weight-small cs rs small.1)

sum_to-most : (f : ℕ → ℕ) (n : ℕ) → ((k : ℕ) → k < n → f k ≤ 30000000000) → sum_to f n ≤ 30000000000 * n
sum_to-most f zero each = omega arith
sum_to-most f (suc n) each = omega (arith, each n (omega arith), sum_to-most f n (λ k l. each k (omega arith)))

-- the values of the last map add up to less than 2 ^ 64
pub sum_fits : (n seed workers : ℕ) (h : List (Entry Said)) (answers : List (List (Result Reply TreeFault)))
    → n ≤ 100000 → workers ≤ 64 → HoldsCalls as_said word_said h (churn_lists n seed workers) answers
    → sum_values (after_all (gather (numbered seed n)) (saids h)) < 18446744073709551616
sum_fits n seed workers h answers few most holds =
    let lists : List (List Call) = churn_lists n seed workers in
    let long : length (churn_lists n seed workers) ≡ workers = count_lists n seed workers in
    let all : weight puts (saids h) ≡ sum_to (λ w. weight puts (answered word_said (list_at lists w) (list_at answers w)))
    (length lists) = weight_held puts h lists answers holds in
    let each : sum_to (λ w. weight puts (answered word_said (list_at lists w) (list_at answers w))) (length lists) ≤ 30000000000
    * length lists = sum_to-most (λ w. weight puts (answered word_said (list_at lists w) (list_at answers w)))
    (length lists) (λ w l.
    subst (λ (cs : List Call). weight puts (answered word_said cs (list_at answers w)) ≤ 30000000000)
    (sym (list_is n seed workers w (subst (λ k. w < k) long l)))
    (let small : weight puts (answered word_said (worker_calls n seed workers w) (list_at answers w)) ≤ 100000 * length
    (worker_calls n seed workers w) = weight-small (worker_calls n seed workers w) (list_at answers w)
    (small_worker n seed workers w few) in
    omega (arith, small, few_worker n seed workers w))) in
    let start : sum_values (gather (numbered seed n)) ≤ 100000 * n = le_trans (sum-gather (numbered seed n)) (numbered-sum seed n few) in
    omega (arith, sum-after_all (gather (numbered seed n)) (saids h), start, all, each, long, few, most)
