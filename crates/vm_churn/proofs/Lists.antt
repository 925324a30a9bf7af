-- The lists of a churn as the loop over the places fills them: what a place adds to them, how many and how long they are.
use Rattle.std.specs.declared.alloc.Global.{Global}
use Rattle.std.specs.List.{AllByRecursion, flat_map, range_with_len}
use Rattle.std.proofs.Common.{[], ⊎_elim, ◌%◌, ◌*◌, ◌++◌, ◌+◌, ◌-◌, ◌<◌, ◌==◌, ◌∙◌, ◌∷◌, ◌≡◌, ◌≢◌, ◌≤◌, add-one, ap}
use Rattle.std.proofs.Common.{append-nil, arith, Bool, cond, false, filter, get_or, length, length-append, length-set}
use Rattle.std.proofs.Common.{List, map, refl, replicate, set, subst, suc, sym, true, Vec, zero, ℕ}
use Rattle.std.proofs.lemmas.Bool.{cases_eq, eq-eqb, ne_eqb}
use Rattle.std.proofs.lemmas.List.{ext_get_or, get_or-map, get_or-set_other, get_or-set_same, length-map, map-set}
use Rattle.std.proofs.lemmas.List.Concat.{flat_map-append, flat_map-cons}
use Rattle.std.proofs.lemmas.List.Elements.{filter-append}
use Rattle.std.proofs.lemmas.List.FromFn.{get_or-map-range_with_len, length-map-range_with_len, length-range_with_len}
use Rattle.std.proofs.lemmas.Nat.{mod_below}
use Rattle.vm_map.specs.{declared.call.Call.Call, History.IsAskable}
use Rattle.vm_map.specs.declared.call.Call.TheVariants.{Del, Get, Put}
use Rattle.vm_build.specs.Numbers.{number_at}
use Rattle.vm_drive.specs.Drives.{AreAskable, AreFew, items_of}
use Rattle.vm_drive.specs.Holds.{list_at}
use Rattle.vm_churn.specs.Calls.{calls_for, churn_lists, key_at, place_calls, places_of, worker_calls}

range-more : (a k : ℕ) → range_with_len a (suc k) ≡ range_with_len a k ++ (a + k) ∷ []
range-more a zero = ap (λ n. n ∷ []) (omega arith)
range-more a (suc k) = ap (λ (l : List ℕ). a ∷ l) (range-more (a + 1) k ∙ ap (λ n. range_with_len (a + 1) k ++ n ∷ []) (omega arith))

module _ (n seed workers : ℕ) where
  -- the calls of worker w at the first k places
  abbrev pub calls_up_to : (k w : ℕ) → List Call
  calls_up_to k w = flat_map (place_calls n seed) (places_of k workers w)

  -- the same of all workers
  abbrev pub lists_up_to : ℕ → List (List Call)
  lists_up_to k = map (calls_up_to k) (range_with_len 0 workers)

  -- the place behind the first k ones is one worker's
  place-more : (k w : ℕ) → places_of (suc k) workers w ≡ places_of k workers w ++ cond (k % workers == w) (suc k ∷ []) []
  place-more k w =
      let test : ℕ → Bool = λ place. (place - 1) % workers == w in
      let here : 1 + k ≡ suc k = omega arith in
      ap (filter test) (range-more 1 k ∙ ap (λ m. range_with_len 1 k ++ m ∷ []) here) ∙ filter-append test
      (range_with_len 1 k) (suc k ∷ [])
      ∙ ap (λ m. filter test (range_with_len 1 k) ++ cond (m % workers == w) (suc k ∷ []) []) (omega arith)

  pub own : (k w : ℕ) → k % workers ≡ w → calls_up_to (suc k) w ≡ calls_up_to k w ++ place_calls n seed (suc k)
  own k w is =
      let place : places_of (suc k) workers w ≡ places_of k workers w ++ suc k ∷ [] =
      place-more k w ∙ ap (λ b. places_of k workers w ++ cond b (suc k ∷ []) []) (eq-eqb (k % workers) w is) in
      ap (flat_map (place_calls n seed)) place ∙ flat_map-append (place_calls n seed) (places_of k workers w) (suc k ∷ [])
      ∙ ap (λ (l : List Call). calls_up_to k w ++ l)
      (flat_map-cons (place_calls n seed) (suc k) [] ∙ append-nil (place_calls n seed (suc k)))

  pub other : (k w : ℕ) → k % workers ≢ w → calls_up_to (suc k) w ≡ calls_up_to k w
  other k w not =
      let place : places_of (suc k) workers w ≡ places_of k workers w ++ [] =
      place-more k w ∙ ap (λ b. places_of k workers w ++ cond b (suc k ∷ []) []) (ne_eqb (k % workers) w not) in
      ap (flat_map (place_calls n seed)) (place ∙ append-nil (places_of k workers w))

  at_worker : (k w : ℕ) (d : List Call) → w < workers → get_or (lists_up_to k) w d ≡ calls_up_to k w
  at_worker k w d l = get_or-map-range_with_len (calls_up_to k) 0 workers w w d l (omega arith)

  -- the calls of a place go to the list of its worker
  pub place_added : (k : ℕ) (before after : List Call) → 1 ≤ workers → before ≡ get_or (lists_up_to k) (k % workers)
      before → after ≡ before ++ place_calls n seed (suc k) → set (lists_up_to k) (k % workers) after ≡ lists_up_to
      (suc k)
  place_added k before after some is more =
      let w : ℕ = k % workers in
      let long : length (lists_up_to k) ≡ workers = length-map-range_with_len (calls_up_to k) 0 workers in
      let long' : length (lists_up_to (suc k)) ≡ workers = length-map-range_with_len (calls_up_to (suc k)) 0 workers in
      ext_get_or [] (set (lists_up_to k) w after) (lists_up_to (suc k))
      (length-set (lists_up_to k) w after ∙ long ∙ sym long')
      (λ v l. here v (subst (λ m. v < m) (length-set (lists_up_to k) w after ∙ long) l))
    where
      here : (v : ℕ) → v < workers → get_or (set (lists_up_to k) (k % workers) after) v [] ≡ get_or (lists_up_to (suc k)) v []
      here v l =
          let inside : k % workers < workers = mod_below k workers some in
          let long : length (lists_up_to k) ≡ workers = length-map-range_with_len (calls_up_to k) 0 workers in
          ⊎_elim
          (λ (is_own : k % workers ≡ v).
          subst (λ u. get_or (set (lists_up_to k) (k % workers) after) u [] ≡ get_or (lists_up_to (suc k)) u []) is_own
          (get_or-set_same (lists_up_to k) (k % workers) after [] (omega (arith, inside, long))
          ∙ more ∙ ap (λ (l : List Call). l ++ place_calls n seed (suc k)) (is ∙ at_worker k (k % workers) before inside)
          ∙ sym (own k (k % workers) refl) ∙ sym (at_worker (suc k) (k % workers) [] inside)))
          (λ (not : k % workers ≢ v).
          get_or-set_other (lists_up_to k) (k % workers) v after [] (λ e. not (sym e)) ∙ at_worker k v [] l
          ∙ sym (other k v not) ∙ sym (at_worker (suc k) v [] l))
          (cases_eq (k % workers) v)

  -- the same of the vectors that have the lists
  pub vectors_added : (lists : List (Vec Call Global)) (k : ℕ) (before after : Vec Call Global) (key new : ℕ)
      → 1 ≤ workers → items_of lists ≡ lists_up_to k → before ≡ get_or lists (k % workers) before
      → after.items ≡ before.items ++ calls_for (k + 1) key new → key ≡ number_at seed k
      → new ≡ number_at seed (n + k) → items_of (set lists (k % workers) after) ≡ lists_up_to (k + 1)
  vectors_added lists k before after key new some filled is more key_is new_is =
      let items : Vec Call Global → List Call = λ v. v.items in
      let long : length lists ≡ workers = sym (length-map lists items) ∙ ap length filled ∙ length-map-range_with_len
      (calls_up_to k) 0 workers in
      let inside : k % workers < length lists = omega (arith, mod_below k workers some, long) in
      let at : before.items ≡ get_or (lists_up_to k) (k % workers) before.items =
      ap items is ∙ sym (get_or-map items lists (k % workers) before before.items inside)
      ∙ ap (λ (l : List (List Call)). get_or l (k % workers) before.items) filled in
      let added : after.items ≡ before.items ++ place_calls n seed (suc k) = more
      ∙ ap (λ place. before.items ++ calls_for place key new) (add-one k)
      ∙ ap (λ x. before.items ++ calls_for (suc k) x new) (key_is ∙ ap (number_at seed) (omega arith))
      ∙ ap (λ x. before.items ++ calls_for (suc k) (key_at seed (suc k)) x) (new_is ∙ ap (number_at seed) (omega arith)) in
      map-set items lists (k % workers) after ∙ ap (λ (l : List (List Call)). set l (k % workers) after.items) filled
      ∙ place_added k before.items after.items some at added ∙ ap lists_up_to (sym (add-one k))

-- ---- how long the lists are, and what they ask for

each-mapped : {A B : Type 0} (P : B → Type 0) (f : A → B) → ((x : A) → P (f x)) → (xs : List A) → AllByRecursion P (map f xs)
each-mapped P f each [] = tt
each-mapped P f each (x ∷ xs) = (each x, each-mapped P f each xs)

pub each-both : {A : Type 0} (P : A → Type 0) (xs ys : List A) → AllByRecursion P xs → AllByRecursion P ys → AllByRecursion P (xs ++ ys)
each-both P [] ys p q = q
each-both P (x ∷ xs) ys p q = (p.0, each-both P xs ys p.1 q)

length_filter : {X : Type 0} (p : X → Bool) (xs : List X) → length (filter p xs) ≤ length xs
length_filter p [] = omega arith
length_filter p (x ∷ xs) = let h = length_filter p xs in
    elim (p x) as (λ b. length (cond b (x ∷ filter p xs) (filter p xs)) ≤ suc (length xs)) [
      | true ↦
          omega arith
      | false ↦ omega arith
    ]

few-calls : (place key new : ℕ) → length (calls_for place key new) ≤ 3
few-calls place key new =
    elim (place % 2 == 0) as (λ b. length (Get key ∷ Put new place ∷ cond b (Del key ∷ []) []) ≤ 3) [
      | true ↦
          omega arith
      | false ↦ omega arith
    ]

module _ (n seed : ℕ) where
  length-calls : (places : List ℕ) → length (flat_map (place_calls n seed) places) ≤ 3 * length places
  length-calls [] = omega arith
  length-calls (place ∷ places) =
      let first : List Call = place_calls n seed place in
      let rest : List Call = flat_map (place_calls n seed) places in
      let both : length (flat_map (place_calls n seed) (place ∷ places)) ≡ length first + length rest =
      ap length (flat_map-cons (place_calls n seed) place places) ∙ length-append first rest in
      let few : length first ≤ 3 = few-calls place (key_at seed place) (key_at seed (n + place)) in
      omega (arith, both, few, length-calls places)

  askable-place : (place key new : ℕ) → AllByRecursion IsAskable (calls_for place key new)
  askable-place place key new =
      elim (place % 2 == 0) as (λ b.
      AllByRecursion IsAskable (Get key ∷ Put new place ∷ cond b (Del key ∷ []) [])) [
        | true ↦
            (tt, (tt, (tt, tt)))
        | false ↦ (tt, (tt, tt))
      ]

  askable-calls : (places : List ℕ) → AllByRecursion IsAskable (flat_map (place_calls n seed) places)
  askable-calls [] = tt
  askable-calls (place ∷ places) =
      let first = askable-place place (key_at seed place) (key_at seed (n + place)) in
      subst (λ (l : List Call). AllByRecursion IsAskable l) (sym (flat_map-cons (place_calls n seed) place places))
      (each-both IsAskable (place_calls n seed place) (flat_map (place_calls n seed) places) first
      (askable-calls places))

  module _ (workers : ℕ) where
    pub few_worker : (w : ℕ) → length (worker_calls n seed workers w) ≤ 3 * n
    few_worker w =
        let places : length (places_of n workers w) ≤ n = subst (λ m. length (places_of n workers w) ≤ m)
        (length-range_with_len 1 n) (length_filter (λ place. (place - 1) % workers == w) (range_with_len 1 n)) in
        omega (arith, length-calls (places_of n workers w), places)

    pub list_is : (w : ℕ) → w < workers → list_at (churn_lists n seed workers) w ≡ worker_calls n seed workers w
    list_is w l = get_or-map-range_with_len (worker_calls n seed workers) 0 workers w w [] l (omega arith)

    pub few_lists : n ≤ 100000 → AreFew (churn_lists n seed workers)
    few_lists few = each-mapped (λ (list : List Call). length list ≤ 1000000) (worker_calls n seed workers)
        (λ w. omega (arith, few, few_worker w)) (range_with_len 0 workers)

    pub askable_lists : AreAskable (churn_lists n seed workers)
    askable_lists = each-mapped (AllByRecursion IsAskable) (worker_calls n seed workers)
        (λ w. askable-calls (places_of n workers w)) (range_with_len 0 workers)

    pub count_lists : length (churn_lists n seed workers) ≡ workers
    count_lists = length-map-range_with_len (worker_calls n seed workers) 0 workers

    -- before the first place each worker's list is empty
    pub none_added : replicate workers [] ≡ lists_up_to n seed workers 0
    none_added = empty workers 0
      where
        empty : (m a : ℕ) → replicate m [] ≡ map (calls_up_to n seed workers 0) (range_with_len a m)
        empty zero a = refl
        empty (suc m) a = ap (λ (l : List (List Call)). [] ∷ l) (empty m (a + 1))
