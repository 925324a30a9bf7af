-- The sizes of the first pairs, and where a node is cut.
use Rattle.std.proofs.Common.{◌≡◌, ℕ, zero, suc, ◌+◌, ◌*◌, ◌<◌, ◌≤◌, List, [], ◌∷◌, ◌++◌, length, get_or, drop, take, false, leb, refl, sym}
use Rattle.std.proofs.Common.{ap, ◌∙◌, arith}
use Rattle.std.proofs.lemmas.Bool.{le-leb}
use Rattle.std.proofs.lemmas.Bool.Decides.{nat_tests}
use Rattle.std.proofs.lemmas.List.{drop_more, take_more}
use Rattle.vm_map.specs.Map.{Pairs, Rises}
use Rattle.vm_tree_model.specs.Layout.{cut_from, pairs_size}
use Rattle.vm_node.proofs.Bounds.{at_least}
use Rattle.vm_bytes_form.specs.Strings.{rank}
use Rattle.vm_bytes_form.proofs.EditLaws.{rank-nil}

sizes-push : (each : ℕ → ℕ) (es : Pairs) (e : ℕ × ℕ) → pairs_size each (es ++ e ∷ []) ≡ pairs_size each es + each e.0
sizes-push each [] e = omega arith
sizes-push each (d ∷ es) e = omega (arith, sizes-push each es e)

-- a pair more
pub sizes_more : (each : ℕ → ℕ) (m : Pairs) (i key size : ℕ) → i < length m → (get_or m i (0, 0)).0 ≡ key → size ≡ each key
    → pairs_size each (take i m) + size ≡ pairs_size each (take (i + 1) m)
sizes_more each m i key size inside is size_is =
    ap (λ (s : ℕ). pairs_size each (take i m) + s) (size_is ∙ ap each (sym is))
    ∙ sym (ap (pairs_size each) (take_more m i (0, 0) inside) ∙ sizes-push each (take i m) (get_or m i (0, 0)))

-- the first pairs have at least half
pub cut_here : (each : ℕ → ℕ) (got whole : ℕ) (m : Pairs) → whole ≤ 2 * got → cut_from each got whole m ≡ 0
cut_here each got whole [] half = refl
cut_here each got whole (e ∷ es) half = rw (le-leb whole (2 * got) half) refl

-- they have less
cut_next : (each : ℕ → ℕ) (got whole : ℕ) (e : ℕ × ℕ) (es : Pairs) → 2 * got < whole
    → cut_from each got whole (e ∷ es) ≡ suc (cut_from each (got + each e.0) whole es)
cut_next each got whole e es less = let not_half : leb whole (2 * got) ≡ false = grind (arith, nat_tests, less) in rw not_half refl

pub cut_more : (each : ℕ → ℕ) (got whole all i key size : ℕ) (m : Pairs) → i < length m → 2 * got < whole → (get_or m i (0, 0)).0 ≡ key
    → size ≡ each key
    → all ≡ i + cut_from each got whole (drop i m) → all ≡ i + 1 + cut_from each (got + size) whole (drop (i + 1) m)
cut_more each got whole all i key size m inside less is size_is so_far =
    let step : cut_from each got whole (drop i m) ≡ suc (cut_from each (got + size) whole (drop (i + 1) m)) =
    ap (cut_from each got whole) (drop_more m i (0, 0) inside) ∙ cut_next each got whole (get_or m i (0, 0)) (drop (i + 1) m) less
    ∙ ap (λ (s : ℕ). suc (cut_from each (got + s) whole (drop (i + 1) m))) (ap each is ∙ sym size_is) in
    omega (arith, so_far, step)

-- a key behind the first one is not the lowest
pub not_lowest : (m : Pairs) (low high i : ℕ) → Rises low high m → 1 ≤ i → i < length m → 1 ≤ (get_or m i (0, 0)).0
not_lowest [] low high i rises some inside = absurd (omega (arith, inside))
not_lowest (e ∷ es) low high zero rises some inside = absurd (omega (arith, some))
not_lowest (e ∷ es) low high (suc i) rises some inside = let least = at_least es (e.0 + 1) high i rises.2 (omega (arith, inside)) in
    omega (arith, least)

pub not_empty : (s : List ℕ) → 1 ≤ rank s → 1 ≤ length s
not_empty [] some = absurd (omega (arith, some, rank-nil))
not_empty (b ∷ s) some = omega arith
