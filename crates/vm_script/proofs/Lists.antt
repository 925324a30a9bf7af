-- How many lists a script gives, how long they are, and how they grow by a call.
use Rattle.std.specs.List.{All}
use Rattle.std.proofs.Common.{[], ◌+◌, ◌++◌, ◌<◌, ◌==◌, ◌∙◌, ◌∷◌, ◌≡◌, ◌≤◌, ap, arith, Bool, cond, false, filter, get_or, inl, inr, length}
use Rattle.std.proofs.Common.{length-append, List, map, refl, suc, sym, true, zero, ℕ}
use Rattle.std.proofs.Common.{set}
use Rattle.std.proofs.Math.Seq.{get_or-append_seam, set-append_seam}
use Rattle.std.proofs.lemmas.Bool.{cases_lt}
use Rattle.std.proofs.lemmas.List.{append-nil, get_or-map, get_or_append_left, length-map, map-append, map-set, set-append_left}
use Rattle.std.proofs.lemmas.List.Elements.{All-append, All-nil, filter-append}
use Rattle.vm_script.specs.{Cuts.IsLine, declared.script.Order.Order}
use Rattle.vm_script.specs.Orders.{calls_by, Grammar, IsOrder, IsScript, lines_text, lists_of, most_lines, most_ranges, order_text, range_count, range_lines}
use Rattle.vm_script.proofs.Lines.{IsRead, one_more}
use Rattle.vm_script.proofs.RangeLines.{ranges_more}

length_filter : {X : Type 0} (p : X → Bool) (xs : List X) → length (filter p xs) ≤ length xs
length_filter p [] = omega arith
length_filter p (x ∷ xs) = let h = length_filter p xs in
    elim (p x) as (λ b. length (cond b (x ∷ filter p xs) (filter p xs)) ≤ suc (length xs)) [
      | true ↦
          omega arith
      | false ↦ omega arith
    ]

module _ {C : Type 0} where
  length_lists : (workers : ℕ) (orders : List (Order C)) → length (lists_of workers orders) ≡ workers
  length_lists zero orders = refl
  length_lists (suc worker) orders =
      omega (arith, length_lists worker orders, length-append (lists_of worker orders) (calls_by worker orders ∷ []))

  few_calls : (worker : ℕ) (orders : List (Order C)) → length (calls_by worker orders) ≤ length orders
  few_calls worker orders =
      omega (
        arith,
        length-map (filter (λ order. order.worker == worker) orders) (λ order. order.call),
        length_filter (λ order. order.worker == worker) orders,
      )

  few_each : (workers most : ℕ) (orders : List (Order C)) → length orders ≤ most → All (λ calls. length calls ≤ most) (lists_of workers orders)
  few_each zero most orders few = All-nil _
  few_each (suc worker) most orders few = All-append (λ calls. length calls ≤ most) (lists_of worker orders)
      (calls_by worker orders ∷ []) (few_each worker most orders few)
      (λ k d lt. one k d (omega (arith, few, few_calls worker orders)) lt)
    where
      one : (k : ℕ) (d : List C) → length (calls_by worker orders) ≤ most → k < 1
          → length (get_or (calls_by worker orders ∷ []) k d) ≤ most
      one zero d le lt = le
      one (suc k) d le lt = absurd (omega (arith, lt))

-- a worker's calls, with one more order
module _ {C : Type 0} where
  by_same : (worker : ℕ) (orders : List (Order C)) (order : Order C) → (order.worker == worker) ≡ true
      → calls_by worker (orders ++ order ∷ []) ≡ calls_by worker orders ++ order.call ∷ []
  by_same worker orders order same = ap (map (λ (o : Order C). o.call)) (filter-append (λ (o : Order C). o.worker == worker) orders (order ∷ []))
      ∙ map-append (λ (o : Order C). o.call) (filter (λ o. o.worker == worker) orders) (filter (λ o. o.worker == worker) (order ∷ []))
      ∙ ap (λ (b : Bool). calls_by worker orders ++ map (λ (o : Order C). o.call) (cond b (order ∷ []) [])) same

  by_other : (worker : ℕ) (orders : List (Order C)) (order : Order C) → (order.worker == worker) ≡ false
      → calls_by worker (orders ++ order ∷ []) ≡ calls_by worker orders
  by_other worker orders order other = ap (map (λ (o : Order C). o.call)) (filter-append (λ (o : Order C). o.worker == worker) orders (order ∷ []))
      ∙ map-append (λ (o : Order C). o.call) (filter (λ o. o.worker == worker) orders) (filter (λ o. o.worker == worker) (order ∷ []))
      ∙ ap (λ (b : Bool). calls_by worker orders ++ map (λ (o : Order C). o.call) (cond b (order ∷ []) [])) other
      ∙ append-nil (calls_by worker orders)

  -- workers below that of an order have the calls that they had
  others_kept : (workers : ℕ) (orders : List (Order C)) (order : Order C) → workers ≤ order.worker
      → lists_of workers (orders ++ order ∷ []) ≡ lists_of workers orders
  others_kept zero orders order below = refl
  others_kept (suc worker) orders order below =
      let lists = others_kept worker orders order (omega (arith, below)) in
      let apart : (order.worker == worker) ≡ false = grind (arith, below) in
      let calls = by_other worker orders order apart in
      cc (lists, calls)

  -- a worker's list has its calls
  pub at_worker : (workers : ℕ) (orders : List (Order C)) (worker : ℕ) (d : List C) → worker < workers
      → get_or (lists_of workers orders) worker d ≡ calls_by worker orders
  at_worker zero orders worker d below = absurd (omega (arith, below))
  at_worker (suc last) orders worker d below = elim (cases_lt worker last) [
    | inl lower ↦ get_or_append_left (lists_of last orders) (calls_by last orders ∷ []) d worker (omega (arith, lower, length_lists last orders))
        ∙ at_worker last orders worker d lower
    | inr high ↦
        let is_last : worker ≡ last = omega (arith, below, high) in
        let seam = get_or-append_seam (lists_of last orders) (calls_by last orders) [] d in
        rw is_last (rw (length_lists last orders) at seam)
  ]

  -- the call of an order goes behind those of its worker
  pub one_call_more : (workers : ℕ) (orders : List (Order C)) (order : Order C) → order.worker < workers
      → set (lists_of workers orders) order.worker (calls_by order.worker orders ++ order.call ∷ []) ≡ lists_of workers (orders ++ order ∷ [])
  one_call_more zero orders order below = absurd (omega (arith, below))
  one_call_more (suc last) orders order below = elim (cases_lt order.worker last) [
    | inl lower ↦
        let apart : (order.worker == last) ≡ false = grind (arith, lower) in
        set-append_left (lists_of last orders) (calls_by last orders ∷ []) order.worker (calls_by order.worker orders ++ order.call ∷ [])
        (omega (arith, lower, length_lists last orders))
        ∙ ap (λ (lists : List (List C)). lists ++ calls_by last orders ∷ []) (one_call_more last orders order lower)
        ∙ ap (λ (calls : List C). lists_of last (orders ++ order ∷ []) ++ calls ∷ []) (sym (by_other last orders order apart))
    | inr high ↦
        let is_last : order.worker ≡ last = omega (arith, below, high) in
        let here : (order.worker == last) ≡ true = grind (arith, below, high) in
        let seam = set-append_seam (lists_of last orders) (calls_by last orders) [] (calls_by last orders ++ order.call ∷ []) in
        rw is_last (rw (length_lists last orders) at seam)
        ∙ ap (λ (lists : List (List C)). lists ++ (calls_by last orders ++ order.call ∷ []) ∷ []) (sym (others_kept last orders order high))
        ∙ ap (λ (calls : List C). lists_of last (orders ++ order ∷ []) ++ calls ∷ []) (sym (by_same last orders order here))
  ]

-- lists that are seen as those of a script are so many, and so long
module _ {C : Type 0} (grammar : Grammar C) {V : Type 0} (view : V → List C) where
  pub count_of : (workers : ℕ) (bytes : List ℕ) (lists : List V)
      → IsScript grammar workers bytes (map view lists) → length lists ≡ workers
  count_of workers bytes lists s = omega (arith, ap length s.each, length-map lists view, length_lists workers s.orders)

  pub few_of : (workers : ℕ) (bytes : List ℕ) (lists : List V)
      → IsScript grammar workers bytes (map view lists) → All (λ calls. length (view calls) ≤ most_lines) lists
  few_of workers bytes lists s = λ k d lt.
      let each : length (get_or (map view lists) k (view d)) ≤ most_lines =
      rw s.each (few_each workers most_lines s.orders s.spells.few k (view d)
      (omega (arith, lt, count_of workers bytes lists s, length_lists workers s.orders))) in
      rw (← get_or-map view lists k d (view d) lt) each

-- so many lines are read, so many of them ranges, and the rest is still to be read
pub record IsReading {C : Type 0} (grammar : Grammar C) (workers : ℕ) (bytes rest : List ℕ) (lists : List (List C)) (number ranges : ℕ) : Type 0 where
  pub orders : List (Order C)
  pub read : IsRead grammar workers bytes orders rest
  pub each : lists ≡ lists_of workers orders
  pub count : length orders ≡ number
  pub many : range_lines grammar orders ≡ ranges

module _ {C : Type 0} (grammar : Grammar C) {V : Type 0} (view : V → List C) where
  -- there is a list for each worker
  pub reading_count : (workers : ℕ) (bytes rest : List ℕ) (lists : List V) (number ranges : ℕ)
      → IsReading grammar workers bytes rest (map view lists) number ranges → length lists ≡ workers
  reading_count workers bytes rest lists number ranges r =
      omega (arith, ap length r.each, length-map lists view, length_lists workers r.orders)

  -- the call of the next line goes behind those of its worker
  pub reading_more : (workers : ℕ) (bytes rest line behind : List ℕ) (lists : List V) (number ranges : ℕ) (order : Order C) (old new : V) (d : V)
      → IsReading grammar workers bytes rest (map view lists) number ranges → 0 < length rest → IsLine rest line behind
      → IsOrder grammar workers order → line ≡ order_text grammar order → old ≡ get_or lists order.worker d → view new ≡ view old ++ order.call ∷ []
      → IsReading grammar workers bytes behind (map view (set lists order.worker new)) (number + 1) (ranges + range_count grammar order.call)
  reading_more workers bytes rest line behind lists number ranges order old new d r more l is same there longer =
      let below : order.worker < length lists = omega (arith, is.worker, reading_count workers bytes rest lists number ranges r) in
      let calls : view old ≡ calls_by order.worker r.orders =
      ap view there ∙ sym (get_or-map view lists order.worker d (view d) below) ∙ ap (λ (l : List (List C)). get_or l order.worker (view d)) r.each
      ∙ at_worker workers r.orders order.worker (view d) is.worker in
      record {
        orders = r.orders ++ order ∷ [];
        read = one_more grammar workers bytes rest line behind r.orders order r.read more l is same;
        each = map-set view lists order.worker new ∙ ap (λ (l : List (List C)). set l order.worker (view new)) r.each
            ∙ ap (λ (x : List C). set (lists_of workers r.orders) order.worker x) (longer ∙ ap (λ (x : List C). x ++ order.call ∷ []) calls)
            ∙ one_call_more workers r.orders order is.worker;
        count = omega (arith, length-append r.orders (order ∷ []), r.count);
        many = omega (arith, ranges_more grammar r.orders order, r.many);
      }

none_left : (rest : List ℕ) → length rest ≡ 0 → rest ≡ []
none_left [] none = refl
none_left (b ∷ rest) none = absurd (omega (arith, none))

-- where nothing is left to read the lists are those of a script
pub reading_script : {C : Type 0} (grammar : Grammar C) (workers : ℕ) (bytes rest : List ℕ) (lists : List (List C)) (number ranges : ℕ)
    → number ≤ most_lines → ranges ≤ most_ranges → IsReading grammar workers bytes rest lists number ranges → length rest ≡ 0
    → IsScript grammar workers bytes lists
reading_script grammar workers bytes rest lists number ranges few most r none = record {
  orders = r.orders;
  spells = record {
    each = r.read.each;
    few = omega (arith, r.count, few);
    ranges = omega (arith, r.many, most);
    spelling = elim r.read.front [
      | inl whole ↦ inl (whole ∙ ap (λ (l : List ℕ). lines_text grammar r.orders ++ l) (none_left rest none) ∙ append-nil (lines_text grammar r.orders))
      | inr ended ↦ inr ended.1
    ];
  };
  each = r.each;
}
