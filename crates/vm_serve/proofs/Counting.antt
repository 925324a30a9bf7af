-- As many notes of a page as its block can have faults: each has another count. No more faults than different entries of the plan.
use Rattle.std.specs.List.{sum_by}
use Rattle.std.specs.Set.{distinct_count, is_member, unique_keys}
use Rattle.std.proofs.Common.{[], ⊎_elim, ◌+◌, ◌<◌, ◌==◌, ◌||◌, ◌∙◌, ◌∷◌, ◌≡◌, ◌≢◌, ◌≤◌, ap, arith, Bool, cond, false}
use Rattle.std.proofs.Common.{length, List, nat_eq, refl, suc, sym, true, zero, ℕ}
use Rattle.std.proofs.lemmas.Bool.{cases_Bool, cases_eq, eq-eqb, ne_eqb}
use Rattle.std.proofs.lemmas.List.Sums.{sum_by-cons}
use Rattle.std.proofs.lemmas.Map.Made.{distinct_count-le}
use Rattle.vm_image.specs.{Blocks.numbers_for, declared.blocks.PlannedFault.PlannedFault}
use Rattle.vm_event.specs.Prelude.{at, MAX_COUNT}
use Rattle.vm_rule.specs.Prelude.{most_faults, no_block, Stored, times_noted}
use Rattle.vm_drive.specs.from_vm_step.Prelude.{Note}
use Rattle.vm_drive.specs.from_vm_pool.{Closing.AreSums, declared_ended_Ended.Ended}
use Rattle.vm_drive.specs.Prelude.{notes_about}
use Rattle.vm_serve.specs.Served.{distinct_entries, same_entry}

-- how many notes of page p have one of the counts up to b
sum_times : ℕ → ℕ → List Note → ℕ
sum_times p zero ns = 0
sum_times p (suc c) ns = times_noted p (suc c) ns + sum_times p c ns

more-times : (p b : ℕ) (n : Note) (ns : List Note) → sum_times p b ns ≤ sum_times p b (n ∷ ns)
unfolding sum_times
more-times p zero n ns = omega arith
more-times p (suc c) n ns = let h : sum_times p c ns ≤ sum_times p c (n ∷ ns) = more-times p c n ns in omega arith

-- a note that is the first one counts
own-time : (p b : ℕ) (n : Note) (ns : List Note) → n.page ≡ p → 1 ≤ n.count → n.count ≤ b → sum_times p b ns + 1 ≤ sum_times p b (n ∷ ns)
unfolding sum_times
own-time p zero n ns e l m = absurd (omega arith)
own-time p (suc c) n ns e l m =
    ⊎_elim
    (λ here.
    let one : times_noted p (suc c) (n ∷ ns) ≡ 1 + times_noted p (suc c) ns = rw (eq-eqb n.page p e, eq-eqb n.count (suc c) here) refl in
    let rest : sum_times p c ns ≤ sum_times p c (n ∷ ns) = more-times p c n ns in
    omega arith)
    (λ ne.
    let h : sum_times p c ns + 1 ≤ sum_times p c (n ∷ ns) = own-time p c n ns e l (omega arith) in
    omega arith)
    (cases_eq n.count (suc c))

all-counted : (p b : ℕ) (ns : List Note) → ((c : ℕ) → 1 ≤ times_noted p c ns → (1 ≤ c) × (c ≤ b)) → notes_about p ns ≤ sum_times p b ns
all-counted p b [] f = omega arith
all-counted p b (n ∷ ns) f =
    let rest : notes_about p ns ≤ sum_times p b ns = all-counted p b ns (λ c l. f c (omega arith)) in
    ⊎_elim
    (λ here.
    let one : times_noted p n.count (n ∷ ns) ≡ 1 + times_noted p n.count ns = rw (eq-eqb n.page p here, eq-eqb n.count n.count refl) refl in
    let in-range = f n.count (omega arith) in
    let low : 1 ≤ n.count = in-range.0 in
    let high : n.count ≤ b = in-range.1 in
    let more : sum_times p b ns + 1 ≤ sum_times p b (n ∷ ns) = own-time p b n ns here low high in
    let all : notes_about p (n ∷ ns) ≡ 1 + notes_about p ns = rw (eq-eqb n.page p here) refl in
    omega arith)
    (λ ne.
    let more : sum_times p b ns ≤ sum_times p b (n ∷ ns) = more-times p b n ns in
    let all : notes_about p (n ∷ ns) ≡ notes_about p ns = rw (ne_eqb n.page p ne) (omega arith) in
    omega arith)
    (cases_eq n.page p)

each-once : (p b : ℕ) (ns : List Note) → ((c : ℕ) → c ≤ b → times_noted p c ns ≤ 1) → sum_times p b ns ≤ b
unfolding sum_times
each-once p zero ns f = omega arith
each-once p (suc c) ns f =
    let one : times_noted p (suc c) ns ≤ 1 = f (suc c) (omega arith) in
    let rest : sum_times p c ns ≤ c = each-once p c ns (λ k l. f k (omega arith)) in
    omega arith

-- each count of the notes of page p is from 1 to b, below the last count, and stands once
pub few-notes : (p b : ℕ) (ns : List Note) → b < MAX_COUNT → ((c : ℕ) → 1 ≤ times_noted p c ns → (1 ≤ c) × (c ≤ b))
    → ((c : ℕ) → c ≢ MAX_COUNT → times_noted p c ns ≤ 1) → notes_about p ns ≤ b
few-notes p b ns small noted once =
    let a : notes_about p ns ≤ sum_times p b ns = all-counted p b ns noted in
    let o : sum_times p b ns ≤ b = each-once p b ns (λ c l. once c (λ e. absurd (omega arith))) in
    omega arith

-- ---- the plan

fewer-of : (p : ℕ) (plan : List PlannedFault) → length (numbers_for plan p) ≤ length plan
fewer-of p [] = omega arith
fewer-of p (x ∷ xs) =
    let rest : length (numbers_for xs p) ≤ length xs = fewer-of p xs in
    ⊎_elim (λ (t : (x.page == p) ≡ true). rw t (omega arith)) (λ (f : (x.page == p) ≡ false). rw f (omega arith)) (cases_Bool (x.page == p))

pub small-plan : (p : ℕ) (plan : List PlannedFault) → length plan ≤ 64 → most_faults (numbers_for plan p) < MAX_COUNT
small-plan p plan few =
    let a : length (numbers_for plan p) ≤ length plan = fewer-of p plan in
    let d : distinct_count nat_eq (numbers_for plan p) ≤ length (numbers_for plan p) = distinct_count-le nat_eq (numbers_for plan p) in
    omega arith

-- ---- the plan's different entries, page by page

-- the sum of g 0 to g (n - 1)
abbrev sum_of : ℕ → (ℕ → ℕ) → ℕ
sum_of zero g = 0
sum_of (suc n) g = g 0 + sum_of n (λ p. g (suc p))

sum-zero : (n : ℕ) → sum_of n (λ p. 0) ≤ 0
sum-zero zero = omega arith
sum-zero (suc n) = let rest : sum_of n (λ p. 0) ≤ 0 = sum-zero n in omega arith

sum-le : (n : ℕ) (g h : ℕ → ℕ) → ((p : ℕ) → h p ≤ g p) → sum_of n h ≤ sum_of n g
sum-le zero g h f = omega arith
sum-le (suc n) g h f =
    let first : h 0 ≤ g 0 = f 0 in
    let rest : sum_of n (λ p. h (suc p)) ≤ sum_of n (λ p. g (suc p)) = sum-le n (λ p. g (suc p)) (λ p. h (suc p)) (λ p. f (suc p)) in
    omega arith

-- a sum grows by no more than its only term that grows
sum-more : (n q more : ℕ) (g h : ℕ → ℕ) → ((p : ℕ) → p ≢ q → h p ≤ g p) → h q ≤ g q + more → sum_of n h ≤ sum_of n g + more
sum-more zero q more g h f l = omega arith
sum-more (suc n) zero more g h f l =
    let rest : sum_of n (λ p. h (suc p)) ≤ sum_of n (λ p. g (suc p)) = sum-le n (λ p. g (suc p)) (λ p. h (suc p))
    (λ p. f (suc p) (λ e. absurd (omega arith))) in
    omega arith
sum-more (suc n) (suc q) more g h f l =
    let first : h 0 ≤ g 0 = f 0 (λ e. absurd (omega arith)) in
    let rest : sum_of n (λ p. h (suc p)) ≤ sum_of n (λ p. g (suc p)) + more =
    sum-more n q more (λ p. g (suc p)) (λ p. h (suc p)) (λ p ne. f (suc p) (λ e. ne (omega arith))) l in
    omega arith

-- an entry stands in a plan where its number stands among those of its page
same-entries : (x : PlannedFault) (plan : List PlannedFault) → is_member nat_eq (numbers_for plan x.page)
    x.number ≡ is_member same_entry plan x
same-entries x [] = refl
same-entries x (y ∷ ys) =
    let rest : is_member nat_eq (numbers_for ys x.page) x.number ≡ is_member same_entry ys x = same-entries x ys in
    ⊎_elim
    (λ (here : y.page ≡ x.page). rw (eq-eqb y.page x.page here, eq-eqb x.page y.page (sym here))
    (ap (λ b. (x.number == y.number) || b) rest))
    (λ (ne : y.page ≢ x.page). rw (ne_eqb y.page x.page ne, ne_eqb x.page y.page (λ e. ne (sym e))) rest)
    (cases_eq y.page x.page)

-- one key more is one more of the different keys, where it did not stand there
once-more : {K : Type 0} (stands : Bool) (k : K) (keys : List K) → length (cond stands keys (k ∷ keys)) ≡ length keys + cond stands 0 1
once-more true k keys = omega arith
once-more false k keys = omega arith

entry-more : (x : PlannedFault) (plan : List PlannedFault)
    → distinct_count nat_eq (numbers_for (x ∷ plan) x.page) ≡ distinct_count nat_eq (numbers_for plan x.page) + cond
    (is_member same_entry plan x) 0 1
entry-more x plan =
    rw (eq-eqb x.page x.page refl)
    (once-more (is_member nat_eq (numbers_for plan x.page) x.number) x.number
    (unique_keys nat_eq (numbers_for plan x.page))
    ∙ ap (λ b. distinct_count nat_eq (numbers_for plan x.page) + cond b 0 1) (same-entries x plan))

other-page : (x : PlannedFault) (plan : List PlannedFault) (p : ℕ) → p ≢ x.page
    → distinct_count nat_eq (numbers_for (x ∷ plan) p) ≤ distinct_count nat_eq (numbers_for plan p)
other-page x plan p ne = rw (ne_eqb x.page p (λ e. ne (sym e))) (omega arith)

-- the different numbers of each page are together no more than the different entries
entries-shared : (n : ℕ) (plan : List PlannedFault) → sum_of n (λ p. distinct_count nat_eq (numbers_for plan p)) ≤ distinct_entries plan
entries-shared n [] = sum-zero n
entries-shared n (x ∷ xs) =
    let more : ℕ = cond (is_member same_entry xs x) 0 1 in
    let rest : sum_of n (λ p. distinct_count nat_eq (numbers_for xs p)) ≤ distinct_entries xs = entries-shared n xs in
    let own : distinct_count nat_eq (numbers_for (x ∷ xs) x.page) ≤ distinct_count nat_eq (numbers_for xs x.page)
    + more = omega (arith, entry-more x xs) in
    let pages : sum_of n (λ p. distinct_count nat_eq (numbers_for (x ∷ xs) p)) ≤ sum_of n
    (λ p. distinct_count nat_eq (numbers_for xs p)) + more =
    sum-more n x.page more (λ p. distinct_count nat_eq (numbers_for xs p))
    (λ p. distinct_count nat_eq (numbers_for (x ∷ xs) p)) (other-page x xs) own in
    let all : distinct_entries (x ∷ xs) ≡ distinct_entries xs + more = once-more (is_member same_entry xs x) x
    (unique_keys same_entry xs) in
    omega (arith, pages, rest, all)

sum-bounds : (blocks : List Stored) (g : ℕ → ℕ) → ((p : ℕ) → p < length blocks → (at no_block blocks p).bound ≤ g p)
    → sum_by (λ (b : Stored). b.bound) blocks ≤ sum_of (length blocks) g
unfolding at
sum-bounds [] g f = omega arith
sum-bounds (b ∷ bs) g f =
    let first : b.bound ≤ g 0 = f 0 (omega arith) in
    let rest : sum_by (λ (s : Stored). s.bound) bs ≤ sum_of (length bs) (λ p. g (suc p)) =
    sum-bounds bs (λ p. g (suc p)) (λ p l. f (suc p) (omega arith)) in
    omega (arith, sum_by-cons (λ (s : Stored). s.bound) b bs)

-- no more calls of the blocks failed than the plan has different entries
pub few-faults : {U X : Type 0} (blocks : List Stored) (plan : List PlannedFault) (end : Ended U X)
    → AreSums blocks end → ((p : ℕ) → p < length blocks → (at no_block blocks p).bound ≡ most_faults
    (numbers_for plan p)) → end.faults ≤ distinct_entries plan
few-faults blocks plan end sums bounds =
    let numbers : ℕ → ℕ = λ p. distinct_count nat_eq (numbers_for plan p) in
    let each : (p : ℕ) → p < length blocks → (at no_block blocks p).bound ≤ numbers p = λ p l. omega (arith, bounds p l) in
    let most : sum_by (λ (b : Stored). b.bound) blocks ≤ sum_of (length blocks) numbers = sum-bounds blocks numbers each in
    omega (arith, sums.faults_are, sums.bounded, most, entries-shared (length blocks) plan)
