-- Bytes have one reading as lines of orders.
use Rattle.std.specs.List.{AllByRecursion}
use Rattle.std.specs.Fmt.{decimal}
use Rattle.std.proofs.Common.{[], ◌++◌, ◌<◌, ◌^◌, ◌∙◌, ◌∷◌, ◌≡◌, ◌≤◌, ◌⊎◌, ap, append_assoc, arith, inl, inr, length}
use Rattle.std.proofs.Common.{length-append, List, sym, ℕ}
use Rattle.std.proofs.lemmas.List.{append-nil}
use Rattle.vm_script.specs.declared.script.Order.{Order}
use Rattle.vm_script.specs.Orders.{BeginsWith, Grammar, IsFirstBad, IsOrder, IsScript, lines_text, lists_of}
use Rattle.vm_script.specs.Orders.{most_lines, most_ranges, order_text, range_lines, Spells, TellsCalls}
use Rattle.vm_script.proofs.LineLists.{begins_of, Compared, compared as compared_lines, fewer, first_stopped, GoesOn, same, second_stopped}
use Rattle.vm_script.proofs.Lines.{lacks_order, one_order}
use Rattle.vm_script.proofs.RangeLines.{ranges_append}

module _ {C : Type 0} (grammar : Grammar C) (tells : TellsCalls grammar) where
  -- two ways to read orders
  compared : (workers : ℕ) (a b : List (Order C)) (rest rest' : List ℕ) → workers < 2 ^ 32
      → AllByRecursion (IsOrder grammar workers) a → AllByRecursion (IsOrder grammar workers) b
      → lines_text grammar a ++ rest ≡ lines_text grammar b ++ rest'
      → Compared (IsOrder grammar workers) (order_text grammar) a b rest rest'
  compared workers a b rest rest' w is is' e = compared_lines (IsOrder grammar workers) (order_text grammar)
      (λ order ok. lacks_order grammar tells workers order w ok) (λ x y ok ok'. one_order grammar tells workers x y w ok ok') a b rest rest' is is'
      e

  -- the line of an order is longer than a line feed
  no_line : (workers : ℕ) (a b : List (Order C)) (rest : List ℕ) → length rest ≤ 1 → GoesOn (IsOrder grammar workers) (order_text grammar) a b rest → ⊥
  no_line workers a b rest few g =
      let long = ap length g.whole ∙ length-append (order_text grammar g.line) (10 ∷ g.behind) in
      let text = length-append (decimal g.line.worker) (32 ∷ grammar.text g.line.call) in
      omega (arith, long, text)

  -- what the lines of a script leave, once its last line has its line feed
  spelled : (workers : ℕ) (bytes : List ℕ) (orders : List (Order C)) → Spells grammar workers bytes orders
      → (bytes ≡ lines_text grammar orders ++ []) ⊎ (bytes ++ 10 ∷ [] ≡ lines_text grammar orders ++ [])
  spelled workers bytes orders s = elim s.spelling [
    | inl e ↦ inl (e ∙ sym (append-nil (lines_text grammar orders)))
    | inr e ↦
        inr (e ∙ sym (append-nil (lines_text grammar orders)))
  ]

  -- two readings that leave at most a line feed are one
  one_of : (workers : ℕ) (a b : List (Order C)) (rest rest' : List ℕ) → workers < 2 ^ 32
      → AllByRecursion (IsOrder grammar workers) a → AllByRecursion (IsOrder grammar workers) b → length rest ≤ 1 → length rest' ≤ 1
      → lines_text grammar a ++ rest ≡ lines_text grammar b ++ rest' → (a ≡ b) × (rest ≡ rest')
  one_of workers a b rest rest' w is is' few few' e = elim (compared workers a b rest rest' w is is' e) [
    | same all rests ↦ (all, rests)
    | first_stopped g ↦ absurd (no_line workers a b rest few g)
    | second_stopped g ↦ absurd (no_line workers b a rest' few' g)
  ]

  pub one_list : (workers : ℕ) (bytes : List ℕ) (a b : List (Order C)) → workers < 2 ^ 32 → Spells grammar workers bytes a
      → Spells grammar workers bytes b → a ≡ b
  one_list workers bytes a b w s t = elim (spelled workers bytes a s) [
    | inl x ↦ elim (spelled workers bytes b t) [
      | inl y ↦ (one_of workers a b [] [] w s.each t.each (omega arith) (omega arith) (sym x ∙ y)).0
      | inr y ↦ (one_of workers a b (10 ∷ []) [] w s.each t.each (omega arith) (omega arith)
          (ap (λ l. l ++ 10 ∷ []) (sym (append-nil (lines_text grammar a)) ∙ sym x) ∙ y)).0
    ]
    | inr x ↦ elim (spelled workers bytes b t) [
      | inl y ↦ (one_of workers a b [] (10 ∷ []) w s.each t.each (omega arith) (omega arith)
          (sym x ∙ ap (λ l. l ++ 10 ∷ []) (y ∙ append-nil (lines_text grammar b)))).0
      | inr y ↦ (one_of workers a b [] [] w s.each t.each (omega arith) (omega arith) (sym x ∙ y)).0
    ]
  ]

  pub one_script : (workers : ℕ) (bytes : List ℕ) (a b : List (List C)) → workers < 2 ^ 32 → IsScript grammar workers bytes a
      → IsScript grammar workers bytes b → a ≡ b
  one_script workers bytes a b w s t = s.each ∙ ap (λ orders. lists_of workers orders)
      (one_list workers bytes s.orders t.orders w s.spells t.spells) ∙ sym t.each

  -- a reading that stopped before a line of a longer one, and is no first bad line for that
  stops : (workers : ℕ) (bytes : List ℕ) (n : ℕ) (bad : IsFirstBad grammar workers bytes n) (orders : List (Order C))
      (rest : List ℕ) → length orders ≤ most_lines → range_lines grammar orders ≤ most_ranges
      → (g : GoesOn (IsOrder grammar workers) (order_text grammar) bad.good orders rest) → BeginsWith bad.rest (order_text grammar g.line) → ⊥
  stops workers bytes n bad orders rest few ranges g begins = elim bad.bad [
    | inl full ↦ omega (arith, full, few, fewer (IsOrder grammar workers) (order_text grammar) bad.good orders rest g)
    | inr many ↦ omega (arith, many g.line g.is begins, ranges, ap (range_lines grammar) g.longer, ranges_append grammar (bad.good ++ g.line ∷ []) g.more)
  ]

  pub one_bad_line : (workers : ℕ) (bytes : List ℕ) (m n : ℕ) → workers < 2 ^ 32 → IsFirstBad grammar workers bytes m
      → IsFirstBad grammar workers bytes n → m ≡ n
  one_bad_line workers bytes m n w a b = elim (compared workers a.good b.good a.rest b.rest w a.each b.each (sym a.front ∙ b.front)) [
    | same all rests ↦ omega (arith, ap length all, a.count, b.count)
    | first_stopped g ↦ absurd (stops workers bytes m a b.good a.rest b.few b.ranges g (inr (g.behind, g.whole)))
    | second_stopped g ↦ absurd (stops workers bytes n b a.good b.rest a.few a.ranges g (inr (g.behind, g.whole)))
  ]

  pub not_both : (workers : ℕ) (bytes : List ℕ) (orders : List (Order C)) (n : ℕ) → workers < 2 ^ 32
      → Spells grammar workers bytes orders → IsFirstBad grammar workers bytes n → ⊥
  not_both workers bytes orders n w s bad = elim (spelled workers bytes orders s) [
    | inl e ↦ elim (compared workers bad.good orders bad.rest [] w bad.each s.each (sym bad.front ∙ e)) [
      | same all rests ↦ omega (arith, ap length rests, bad.more)
      | first_stopped g ↦ stops workers bytes n bad orders bad.rest s.few s.ranges g (inr (g.behind, g.whole))
      | second_stopped g ↦ no_line workers orders bad.good [] (omega arith) g
    ]
    | inr e ↦ elim (compared workers bad.good orders (bad.rest ++ 10 ∷ []) [] w bad.each s.each
        (sym (append_assoc (lines_text grammar bad.good) bad.rest (10 ∷ [])) ∙ ap (λ l. l ++ 10 ∷ []) (sym bad.front) ∙ e)) [
          | same all rests ↦ omega (arith, ap length rests, length-append bad.rest (10 ∷ []))
          | first_stopped g ↦ stops workers bytes n bad orders (bad.rest ++ 10 ∷ []) s.few s.ranges g
              (begins_of bad.rest (order_text grammar g.line) g.behind g.whole)
          | second_stopped g ↦ no_line workers orders bad.good [] (omega arith) g
        ]
  ]
