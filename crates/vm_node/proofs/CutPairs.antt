-- Rising pairs that are cut in two: each half rises, within the fences that the first key on the right parts.
use Rattle.std.proofs.Common.{◌≡◌, ℕ, ◌<◌, length, get_or, take, drop, sym, subst}
use Rattle.std.proofs.lemmas.List.{drop_more, take-append-drop}
use Rattle.vm_map.specs.Map.{Pairs, Rises, StartsAt}
use Rattle.vm_map.proofs.MapLemmas.{Rises-append}

pub StartsAt-drop : (m : Pairs) (i key : ℕ) → i < length m → (get_or m i (0, 0)).0 ≡ key → StartsAt key (drop i m)
StartsAt-drop m i key lt is = rw (drop_more m i (0, 0) lt) is

module _ (m : Pairs) (low high separator half : ℕ) (rises : Rises low high m) (some : half < length m)
    (separates : (get_or m half (0, 0)).0 ≡ separator) where
  both : Rises low separator (take half m) × Rises separator high (drop half m)
  both = Rises-append (take half m) (drop half m) low separator high
      (subst (λ l. Rises low high l) (sym (take-append-drop half m)) rises)
      (StartsAt-drop m half separator some separates)

  pub left_rises : Rises low separator (take half m)
  left_rises = both.0

  pub right_rises : Rises separator high (drop half m)
  right_rises = both.1
