-- How many lines of a script are ranges, and the first that is one too many.
use Rattle.std.proofs.Common.{[], ◌++◌, ◌+◌, ◌<◌, ◌^◌, ◌∙◌, ◌∷◌, ◌≡◌, ◌≤◌, ap, arith, Bool, false, if◌then◌else◌, inl, inr, length, List, refl}
use Rattle.std.proofs.Common.{subst, sym, true, ℕ}
use mir.Val.{bool_byte}
use Rattle.vm_script.specs.{Cuts.IsLine, declared.script.Order.Order}
use Rattle.vm_script.specs.Orders.{Grammar, IsFirstBad, IsOrder, most_lines, most_ranges, order_text, range_count, range_lines, TellsCalls}
use Rattle.vm_script.proofs.Lines.{first_line, IsRead, lacks_order, one_order}

byte_is : (b : Bool) → bool_byte b ≡ (if b then 1 else 0)
byte_is true = refl
byte_is false = refl

module _ {C : Type 0} (grammar : Grammar C) where
  -- a test as a number counts a range
  pub counted : (call : C) (b : Bool) (count : ℕ) → b ≡ grammar.is_range call → count ≡ bool_byte b → count ≡ range_count grammar call
  counted call b count is counts = counts ∙ byte_is b ∙ ap (λ (b : Bool). if b then 1 else 0) is

  pub ranges_append : (xs ys : List (Order C)) → range_lines grammar (xs ++ ys) ≡ range_lines grammar xs + range_lines grammar ys
  ranges_append [] ys = omega arith
  ranges_append (x ∷ xs) ys = omega (arith, ranges_append xs ys)

  pub ranges_more : (orders : List (Order C)) (order : Order C)
      → range_lines grammar (orders ++ order ∷ []) ≡ range_lines grammar orders + range_count grammar order.call
  ranges_more orders order = omega (arith, ranges_append orders (order ∷ []))

-- a range behind as many as a script may have is the first bad line
pub many_ranges : {C : Type 0} (grammar : Grammar C) → TellsCalls grammar → (workers : ℕ) (bytes rest line behind : List ℕ)
    (orders : List (Order C)) (order : Order C) (n : ℕ)
    → workers < 2 ^ 32 → IsRead grammar workers bytes orders rest → 0 < length rest → length orders + 1 ≡ n → n ≤ most_lines
    → range_lines grammar orders ≤ most_ranges → IsLine rest line behind → IsOrder grammar workers order → line ≡ order_text grammar order
    → most_ranges < range_lines grammar orders + range_count grammar order.call → IsFirstBad grammar workers bytes n
many_ranges {C = C} grammar tells workers bytes rest line behind orders order n w r more count most ranges l is same over = record {
  good = orders;
  rest = rest;
  each = r.each;
  few = omega (arith, count, most);
  ranges = ranges;
  front = elim r.front [ inl e ↦ e | inr e ↦ absurd (omega (arith, ap length e.0)) ];
  more = more;
  count = count;
  bad = inr (λ other is_other begins.
      let one : order ≡ other = one_order grammar tells workers order other w is is_other
      (sym same ∙ first_line rest line behind (order_text grammar other) l (lacks_order grammar tells workers other w is_other)
      begins) in
      subst (λ (o : Order C). most_ranges < range_lines grammar (orders ++ o ∷ [])) one
      (omega (arith, over, ranges_more grammar orders order)));
}
