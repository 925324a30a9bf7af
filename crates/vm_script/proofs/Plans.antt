-- Words that spell plans: a plan is spelled by one word, and read entry by entry.
use Rattle.std.specs.Fmt.{decimal}
use Rattle.std.specs.List.{AllByRecursion, flat_map}
use Rattle.std.proofs.Common.{[], ◌++◌, ◌<◌, ◌^◌, ◌∙◌, ◌∷◌, ◌≡◌, ◌≢◌, ◌≤◌, ap, append_assoc, arith, inr, length, List}
use Rattle.std.proofs.Common.{lit<, None, refl, sym, ℕ}
use Rattle.std.proofs.lemmas.Fmt.{decimal_injective}
use Rattle.std.proofs.lemmas.List.{append-nil}
use Rattle.vm_image.specs.declared.blocks.PlannedFault.{PlannedFault}
use Rattle.vm_script.specs.{Cuts.IsCut, Cuts.Lacks, EventWords.ReadsAs}
use Rattle.vm_script.specs.Faults.{fault_text, IsPlan, IsPlanned, plan_text}
use Rattle.vm_script.proofs.StateWords.{lacks_number}
use Rattle.vm_script.proofs.Words.{cut_here, each_append, lacks_decimal, no_cut, one_cut}

-- ---- one entry

lacks_colon : (n : ℕ) → n < 2 ^ 64 → Lacks 58 (decimal n)
lacks_colon n small = lacks_number 58 n (inr (lit< tt)) small

pub lacks_comma : (fault : PlannedFault) → IsPlanned fault → Lacks 44 (fault_text fault)
lacks_comma fault is = each_append (λ b. b ≢ 44) (decimal fault.page) (58 ∷ decimal fault.number)
    (lacks_decimal 44 fault.page (lit< tt) is.page)
    (λ e. omega arith, lacks_decimal 44 fault.number (lit< tt) is.number)

-- where an entry's text is cut
pub cut_fault : (text page number : List ℕ) (fault : PlannedFault) → IsCut text 58 page number → IsPlanned fault
    → text ≡ fault_text fault → (page ≡ decimal fault.page) × (number ≡ decimal fault.number)
cut_fault text page number fault cut is e =
    cut_here text 58 page number (decimal fault.page) (decimal fault.number) cut (lacks_colon fault.page is.page) e

pub no_fault : (text : List ℕ) (fault : PlannedFault) → Lacks 58 text → text ≡ fault_text fault → ⊥
no_fault text fault lacks e = no_cut 58 text (decimal fault.page) (decimal fault.number) lacks e

one_fault : (one other : PlannedFault) → IsPlanned one → IsPlanned other → fault_text one ≡ fault_text other → one ≡ other
one_fault one other is is' e =
    let parts = one_cut 58 (decimal one.page) (decimal one.number) (decimal other.page) (decimal other.number)
    (lacks_colon one.page is.page) (lacks_colon other.page is'.page) e in
    let page = decimal_injective one.page other.page is.page is'.page parts.0 in
    let number = decimal_injective one.number other.number is.number is'.number parts.1 in
    λ i. record { page = page i; number = number i }

-- ---- one plan

one_list : (one other : List PlannedFault) → AllByRecursion IsPlanned one → AllByRecursion IsPlanned other
    → 1 ≤ length one → 1 ≤ length other → plan_text one ≡ plan_text other → one ≡ other
one_list [] other is is' some some' e = absurd (omega (arith, some))
one_list (x ∷ xs) [] is is' some some' e = absurd (omega (arith, some'))
one_list (x ∷ []) (y ∷ []) is is' some some' e = ap (λ (f : PlannedFault). f ∷ []) (one_fault x y is.0 is'.0 e)
one_list (x ∷ []) (y ∷ z ∷ ys) is is' some some' e =
    absurd (no_cut 44 (fault_text x) (fault_text y) (plan_text (z ∷ ys)) (lacks_comma x is.0) e)
one_list (x ∷ w ∷ xs) (y ∷ []) is is' some some' e =
    absurd (no_cut 44 (fault_text y) (fault_text x) (plan_text (w ∷ xs)) (lacks_comma y is'.0) (sym e))
one_list (x ∷ w ∷ xs) (y ∷ z ∷ ys) is is' some some' e =
    let parts = one_cut 44 (fault_text x) (plan_text (w ∷ xs)) (fault_text y) (plan_text (z ∷ ys))
    (lacks_comma x is.0) (lacks_comma y is'.0) e in
    let first : x ≡ y = one_fault x y is.0 is'.0 parts.0 in
    let more : w ∷ xs ≡ z ∷ ys = one_list (w ∷ xs) (z ∷ ys) is.1 is'.1 (omega arith) (omega arith) parts.1 in
    cc (first, more)

pub one_plan : (one other : List PlannedFault) → IsPlan one → IsPlan other → plan_text one ≡ plan_text other → one ≡ other
one_plan one other is is' e = one_list one other is.each is'.each is.some is'.some e

-- ---- a word that is read in part

-- the entries, each with a comma behind it
abbrev ended : List PlannedFault → List ℕ
ended plan = flat_map (λ fault. fault_text fault ++ 44 ∷ []) plan

-- these entries are read, and the rest is still to be read
pub record IsReadTo (word : List ℕ) (plan : List PlannedFault) (rest : List ℕ) : Type 0 where
  pub each : AllByRecursion IsPlanned plan
  pub front : word ≡ ended plan ++ rest

last_text : (plan : List PlannedFault) (fault : PlannedFault) → ended plan ++ fault_text fault ≡ plan_text (plan ++ fault ∷ [])
last_text [] fault = refl
last_text (x ∷ []) fault = ap (λ (l : List ℕ). l ++ fault_text fault) (append-nil (fault_text x ++ 44 ∷ []))
    ∙ append_assoc (fault_text x) (44 ∷ []) (fault_text fault)
last_text (x ∷ y ∷ xs) fault =
    append_assoc (fault_text x ++ 44 ∷ []) (ended (y ∷ xs)) (fault_text fault) ∙ append_assoc (fault_text x) (44 ∷ [])
    (ended (y ∷ xs) ++ fault_text fault) ∙ ap (λ (l : List ℕ). fault_text x ++ 44 ∷ l) (last_text (y ∷ xs) fault)

-- the last entry is read
pub all_read : (word rest : List ℕ) (plan : List PlannedFault) (fault : PlannedFault) → IsReadTo word plan rest
    → IsPlanned fault → rest ≡ fault_text fault → IsPlan (plan ++ fault ∷ [])
    × (word ≡ plan_text (plan ++ fault ∷ []))
all_read word rest plan fault read is same = (
  record { some = some plan; each = each_append IsPlanned plan (fault ∷ []) read.each (is, tt) },
  read.front ∙ ap (λ (l : List ℕ). ended plan ++ l) same ∙ last_text plan fault,
) where
  some : (xs : List PlannedFault) → 1 ≤ length (xs ++ fault ∷ [])
  some [] = omega arith
  some (x ∷ xs) = omega (arith, some xs)

-- what stands behind the entries that are read, of a plan that the word spells
pub record IsBehind (rest : List ℕ) : Type 0 where
  pub first : PlannedFault
  pub others : List PlannedFault
  pub is : IsPlanned first
  pub spelled : rest ≡ plan_text (first ∷ others)

behind_entries : (plan spelled : List PlannedFault) (rest : List ℕ) → AllByRecursion IsPlanned plan
    → AllByRecursion IsPlanned spelled → 1 ≤ length spelled → ended plan ++ rest ≡ plan_text spelled → IsBehind rest
behind_entries plan [] rest is is' some e = absurd (omega (arith, some))
behind_entries [] (y ∷ ys) rest is is' some e = record { first = y; others = ys; is = is'.0; spelled = e }
behind_entries (x ∷ xs) (y ∷ []) rest is is' some e =
    absurd (no_cut 44 (fault_text y) (fault_text x) (ended xs ++ rest) (lacks_comma y is'.0)
    (sym e ∙ append_assoc (fault_text x ++ 44 ∷ []) (ended xs) rest ∙ append_assoc (fault_text x) (44 ∷ [])
    (ended xs ++ rest)))
behind_entries (x ∷ xs) (y ∷ z ∷ ys) rest is is' some e =
    let whole : fault_text x ++ 44 ∷ (ended xs ++ rest) ≡ fault_text y ++ 44 ∷ plan_text (z ∷ ys) =
    sym (append_assoc (fault_text x ++ 44 ∷ []) (ended xs) rest ∙ append_assoc (fault_text x) (44 ∷ [])
    (ended xs ++ rest)) ∙ e in
    let parts = one_cut 44 (fault_text x) (ended xs ++ rest) (fault_text y) (plan_text (z ∷ ys)) (lacks_comma x is.0)
    (lacks_comma y is'.0) whole in
    behind_entries xs (z ∷ ys) rest is.1 is'.1 (omega arith) parts.1

-- an entry in front of a comma that is none
pub bad_entry : (word rest entry behind : List ℕ) (plan : List PlannedFault) → IsReadTo word plan rest
    → IsCut rest 44 entry behind → ReadsAs IsPlanned fault_text entry None → (spelled : List PlannedFault)
    → IsPlan spelled → word ≢ plan_text spelled
bad_entry word rest entry behind plan read cut none spelled is e =
    refuse (behind_entries plan spelled rest read.each is.each is.some (sym read.front ∙ e)) where
      by_others : (first : PlannedFault) (others : List PlannedFault) → IsPlanned first → rest ≡ plan_text (first ∷ others) → ⊥
      by_others first [] ok e = no_cut 44 (fault_text first) entry behind (lacks_comma first ok) (sym e ∙ cut.whole)
      by_others first (next ∷ others) ok e =
          none first ok (cut_here rest 44 entry behind (fault_text first) (plan_text (next ∷ others)) cut
          (lacks_comma first ok) e).0

      refuse : IsBehind rest → ⊥
      refuse b = by_others b.first b.others b.is b.spelled

-- a last entry that is none
pub bad_last : (word rest : List ℕ) (plan : List PlannedFault) → IsReadTo word plan rest → Lacks 44 rest
    → ReadsAs IsPlanned fault_text rest None → (spelled : List PlannedFault) → IsPlan spelled
    → word ≢ plan_text spelled
bad_last word rest plan read lacks none spelled is e =
    refuse (behind_entries plan spelled rest read.each is.each is.some (sym read.front ∙ e)) where
      by_others : (first : PlannedFault) (others : List PlannedFault) → IsPlanned first → rest ≡ plan_text (first ∷ others) → ⊥
      by_others first [] ok e = none first ok e
      by_others first (next ∷ others) ok e = no_cut 44 rest (fault_text first) (plan_text (next ∷ others)) lacks e

      refuse : IsBehind rest → ⊥
      refuse b = by_others b.first b.others b.is b.spelled
