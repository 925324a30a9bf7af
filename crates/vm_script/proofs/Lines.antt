-- A script that is read in part, and one step on.
use Rattle.std.specs.Fmt.{decimal}
use Rattle.std.specs.List.{AllByRecursion}
use Rattle.std.proofs.Common.{[], ◌++◌, ◌+◌, ◌<◌, ◌^◌, ◌∙◌, ◌∷◌, ◌≡◌, ◌≢◌, ◌≤◌, ◌⊎◌, ap, append_assoc, arith, inl}
use Rattle.std.proofs.Common.{inr, length, List, lit<, None, sym, ℕ}
use Rattle.std.proofs.lemmas.Fmt.{decimal_injective}
use Rattle.std.proofs.lemmas.Grind.{flat_map-append}
use Rattle.std.proofs.lemmas.List.{append-nil}
use Rattle.vm_script.specs.{Calls.ReadsOrder, Cuts.IsLine, Cuts.Lacks, declared.script.Order.Order}
use Rattle.vm_script.specs.Orders.{BeginsWith, Grammar, IsFirstBad, IsOrder, lines_text, most_lines, most_ranges, order_text, range_lines}
use Rattle.vm_script.specs.Orders.{TellsCalls}
use Rattle.vm_script.proofs.Words.{each_append, lacks_decimal, no_cut, one_cut}

-- the line that the bytes begin with is their first line
pub first_line : (bytes line behind text : List ℕ) → IsLine bytes line behind → Lacks 10 text → BeginsWith bytes text → line ≡ text
first_line bytes line behind text l t (inl e) = elim l.whole [
  | inl w ↦ absurd (no_cut 10 text line behind t (sym e ∙ w))
  | inr w ↦ sym w.0 ∙ e
]
first_line bytes line behind text l t (inr (rest, e)) = elim l.whole [
  | inl w ↦ (one_cut 10 line behind text rest l.first t (sym w ∙ e)).0
  | inr w ↦ absurd (no_cut 10 line text rest l.first (sym w.0 ∙ e))
]

-- these orders are read, and the rest is still to be read
pub record IsRead {C : Type 0} (grammar : Grammar C) (workers : ℕ) (bytes : List ℕ) (orders : List (Order C)) (rest : List ℕ) : Type 0 where
  pub each : AllByRecursion (IsOrder grammar workers) orders
  pub front : (bytes ≡ lines_text grammar orders ++ rest) ⊎ ((rest ≡ []) × (bytes ++ 10 ∷ [] ≡ lines_text grammar orders))

module _ {C : Type 0} (grammar : Grammar C) (tells : TellsCalls grammar) where
  pub lacks_order : (workers : ℕ) (order : Order C) → workers < 2 ^ 32 → IsOrder grammar workers order → Lacks 10 (order_text grammar order)
  lacks_order workers order w is =
      let low : order.worker < 2 ^ 64 = omega (arith, is.worker) in
      each_append (λ b. b ≢ 10) (decimal order.worker) (32 ∷ grammar.text order.call)
      (lacks_decimal 10 order.worker (omega arith) low) (λ e. omega arith, tells.one_line order.call is.call)

  -- a text is that of one order
  pub one_order : (workers : ℕ) (a b : Order C) → workers < 2 ^ 32 → IsOrder grammar workers a → IsOrder grammar workers b
      → order_text grammar a ≡ order_text grammar b → a ≡ b
  one_order workers a b w is_a is_b e =
      let small : a.worker < 2 ^ 64 = omega (arith, is_a.worker) in
      let small' : b.worker < 2 ^ 64 = omega (arith, is_b.worker) in
      let parts = one_cut 32 (decimal a.worker) (grammar.text a.call) (decimal b.worker) (grammar.text b.call)
      (lacks_decimal 32 a.worker (lit< tt) small) (lacks_decimal 32 b.worker (lit< tt) small') e in
      let worker = decimal_injective a.worker b.worker small small' parts.0 in
      let call = tells.one_call a.call b.call is_a.call is_b.call parts.1 in
      ap (λ w. record a { worker = w }) worker ∙ ap (λ c. record b { call = c }) call

  -- a bad line behind good ones is the first bad one
  pub bad_line : (workers : ℕ) (bytes rest line behind : List ℕ) (orders : List (Order C)) (n : ℕ) → workers < 2 ^ 32
      → IsRead grammar workers bytes orders rest → 0 < length rest → length orders + 1 ≡ n → n ≤ most_lines
      → range_lines grammar orders ≤ most_ranges → IsLine rest line behind → ReadsOrder grammar workers line None
      → IsFirstBad grammar workers bytes n
  bad_line workers bytes rest line behind orders n w r more count most ranges l none = record {
    good = orders;
    rest = rest;
    each = r.each;
    few = omega (arith, count, most);
    ranges = ranges;
    front = elim r.front [ inl e ↦ e | inr e ↦ absurd (omega (arith, ap length e.0)) ];
    more = more;
    count = count;
    bad = inr (λ order is begins.
        absurd (none order is (first_line rest line behind (order_text grammar order) l (lacks_order workers order w is)
        begins)));
  }

module _ {C : Type 0} (grammar : Grammar C) where
  one_more_text : (orders : List (Order C)) (order : Order C) → lines_text grammar (orders ++ order ∷ []) ≡ lines_text
      grammar orders ++ (order_text grammar order ++ 10 ∷ [])
  one_more_text orders order = flat_map-append (λ o. order_text grammar o ++ 10 ∷ []) orders (order ∷ [])
      ∙ ap (λ l. lines_text grammar orders ++ l) (append-nil (order_text grammar order ++ 10 ∷ []))

  -- a good line is read
  pub one_more : (workers : ℕ) (bytes rest line behind : List ℕ) (orders : List (Order C)) (order : Order C)
      → IsRead grammar workers bytes orders rest → 0 < length rest → IsLine rest line behind → IsOrder grammar workers order
      → line ≡ order_text grammar order → IsRead grammar workers bytes (orders ++ order ∷ []) behind
  one_more workers bytes rest line behind orders order r more l is same = record {
    each = each_append (IsOrder grammar workers) orders (order ∷ []) r.each (is, tt);
    front =
        let whole : bytes ≡ lines_text grammar orders ++ rest = elim r.front [ inl e ↦ e | inr e ↦ absurd (omega (arith, ap length e.0)) ] in
        elim l.whole [
          | inl w ↦ inl (whole ∙ ap (λ x. lines_text grammar orders ++ x)
              (w ∙ ap (λ x. x ++ 10 ∷ behind) same ∙ sym (append_assoc (order_text grammar order) (10 ∷ []) behind))
              ∙ sym (append_assoc (lines_text grammar orders) (order_text grammar order ++ 10 ∷ []) behind) ∙ ap (λ x. x ++ behind)
              (sym (one_more_text orders order)))
          | inr w ↦ inr (
            w.1,
            ap (λ x. x ++ 10 ∷ []) (whole ∙ ap (λ x. lines_text grammar orders ++ x) (w.0 ∙ same))
                ∙ append_assoc (lines_text grammar orders) (order_text grammar order) (10 ∷ []) ∙ sym (one_more_text orders order),
          )
        ];
  }
