-- One pair more is shown.
use Rattle.std.proofs.Common.{[], ◌++◌, ◌+◌, ◌<◌, ◌∙◌, ◌∷◌, ◌≡◌, ◌≤◌, ap, arith, drop}
use Rattle.std.proofs.Common.{get_or, length, length-take-le, List, map, set, subst, suc, sym, take, ℕ}
use Rattle.std.proofs.Math.Seq.{drop-cons, set-append_seam}
use Rattle.std.proofs.lemmas.List.{append_assoc, length-map, map-append, take_more}
use Rattle.vm_map.specs.Map.{Pairs}
use Rattle.vm_c.specs.{declared.showing.KeyValue.KeyValue, Shows.as_shown}

pub shown-more : (from : Pairs) (old pairs : List KeyValue) (i : ℕ) (pair : ℕ × ℕ) → length from ≤ length old → i < length from
    → pair ≡ get_or from i pair → pairs ≡ map as_shown (take i from) ++ drop i old
    → set pairs i (as_shown pair) ≡ map as_shown (take (i + 1) from) ++ drop (i + 1) old
shown-more from old pairs i pair fit lt is held =
    let front = map as_shown (take i from) in
    let y = as_shown pair in
    let rest = drop (i + 1) old in
    let long : length front ≡ i = length-map (take i from) as_shown ∙ length-take-le i from (omega (arith, lt)) in
    let step : suc i ≡ i + 1 = omega arith in
    let behind : drop i old ≡ get_or old i y ∷ rest =
    drop-cons old i y (omega (arith, lt, fit)) ∙ ap (λ (k : ℕ). get_or old i y ∷ drop k old) step in
    let put : set (front ++ get_or old i y ∷ rest) i y ≡ front ++ y ∷ rest =
    subst (λ (k : ℕ). set (front ++ get_or old i y ∷ rest) k y ≡ front ++ y ∷ rest) long (set-append_seam front (get_or old i y) rest y) in
    let more : map as_shown (take (i + 1) from) ≡ front ++ y ∷ [] =
    ap (λ (l : Pairs). map as_shown l) (take_more from i pair lt) ∙ map-append as_shown (take i from) (get_or from i pair ∷ [])
    ∙ ap (λ (p : ℕ × ℕ). front ++ as_shown p ∷ []) (sym is) in
    ap (λ (l : List KeyValue). set l i y) (held ∙ ap (λ (l : List KeyValue). front ++ l) behind) ∙ put
    ∙ sym (ap (λ (l : List KeyValue). l ++ rest) more ∙ append_assoc front (y ∷ []) rest)
