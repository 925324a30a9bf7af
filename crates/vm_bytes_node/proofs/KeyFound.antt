-- What stands before the place where the keys begin to be above one: the key, or its child.
use Rattle.std.proofs.Common.{◌≡◌, ◌≢◌, ◌⊎◌, inl, inr, ℕ, zero, suc, ◌+◌, ◌<◌, ◌≤◌, List, ◌∷◌, refl, MatchOption, None, Option, Some}
use Rattle.std.proofs.Common.{[], length, get_or, subst, sym, ap, unwrap_or, ◌∙◌, arith}
use Rattle.vm_map.specs.Map.{floor_pair, lookup_at, next_key, Pairs, Rises}
use Rattle.std.specs.Option.{option_map}
use Rattle.vm_tree_model.specs.Page.{pairs_of}
use Rattle.vm_node.specs.Places.{HasSides, IsBound, place_of}
use Rattle.vm_node.proofs.Bounds.{bound_place, no_index}
use Rattle.vm_inner.specs.Found.{FindsChildIn, FindsNoChild}
use Rattle.vm_inner.proofs.Floor.{floor_none, floor_before, found_floor, next_behind, next_last}
use Rattle.vm_bytes_form.specs.Bytes.{bytes}
use Rattle.vm_bytes_form.specs.Forms.{KeyEntry, node_in}
use Rattle.vm_bytes_form.specs.KeyMap.{ranks_of}
use Rattle.vm_bytes_node.proofs.KeySearch.{length-pairs}

-- the values are the same
pub values-at : (i : ℕ) (es : List KeyEntry) → i < length es → (get_or (ranks_of es) i (0, 0)).1 ≡ (get_or es i ([], 0)).1
values-at i [] lt = absurd (omega (arith, lt))
values-at zero (e ∷ es) lt = refl
values-at (suc i) (e ∷ es) lt = values-at i es (omega (arith, lt))

module _ (m : Pairs) (key above low : ℕ) (next : Option ℕ) (bound : IsBound m (key + 1) above) (sides : HasSides m above low next) where
  -- the pair before the place is that of the greatest key up to this one
  pub floor_is_before : (at : ℕ) → suc at ≡ above → (from upto : ℕ) → Rises from upto m → floor_pair m key ≡ Some (get_or m at (0, 0))
  floor_is_before at is from upto rises = floor_before m key at (sym (bound_place m from upto (key + 1) above rises bound) ∙ sym is)

  pub found_before : (at value : ℕ) → suc at ≡ above → low ≡ key → value ≡ (get_or m at (0, 0)).1 → (from upto : ℕ) → Rises from upto m
      → Some value ≡ lookup_at m key
  found_before at value is same read from upto rises =
      let there : (get_or m at (0, 0)).0 ≡ key = sides.before at (omega (arith, is)) ∙ same in
      ap Some read ∙ sym (subst (λ (k : ℕ). lookup_at m k ≡ Some (get_or m at (0, 0)).1) there
      (found_floor m from upto key (get_or m at (0, 0)) rises (floor_is_before at is from upto rises)))

  -- where it is not the key, as many are lower
  pub lower_place : (above ≡ 0) ⊎ (low ≢ key) → (from upto : ℕ) → Rises from upto m → above ≡ place_of m key
  lower_place other from upto rises = bound_place m from upto key above rises lower
    where
      before : (i : ℕ) → i + 1 ≡ above → (get_or m i (0, 0)).0 < key
      before i is = elim other [
        | inl none ↦ absurd (omega (arith, is, none))
        | inr differs ↦
            let below = bound.before i is in
            let is_low = sides.before i is in
            let not_key : (get_or m i (0, 0)).0 ≢ key = λ e. differs (sym is_low ∙ e) in
            omega (arith, below, not_key)
      ]

      lower : IsBound m key above
      lower = record { inside = bound.inside; before = before; here = λ inside. let past = bound.here inside in omega (arith, past) }

  pub none_before : (above ≡ 0) ⊎ (low ≢ key) → (from upto : ℕ) → Rises from upto m → None ≡ lookup_at m key
  none_before other from upto rises = sym (no_index m from upto key above rises (lower_place other from upto rises)
      (λ inside same. let past = bound.here inside in omega (arith, past, same)))

next_of : (m : Pairs) (from upto high at : ℕ) (next : Option ℕ) → Rises from upto m
    → MatchOption next (at + 1 ≡ length m) (λ k. (at + 1 < length m) × ((get_or m (at + 1) (0, 0)).0 ≡ k))
    → next_key m high (get_or m at (0, 0)).0 ≡ unwrap_or next high
next_of m from upto high at None rises last = next_last m from upto high at rises last
next_of m from upto high at (Some k) rises more = next_behind m from upto high at rises more.0 ∙ more.1

module _ (words : List ℕ) (key above : ℕ) (bound : IsBound (pairs_of bytes words) (key + 1) above) where
  abbrev pairs : Pairs
  pairs = pairs_of bytes words

  pub no_child : above ≡ 0 → FindsNoChild bytes words key
  no_child none = record {
    first = λ some. let here = bound.here (omega (arith, none, some)) in
        let from : key + 1 ≤ (get_or pairs 0 (0, 0)).0 = (rw none at here) in omega (arith, from);
    child = λ low high rises. let place = bound_place pairs low high (key + 1) above rises bound in
        ap (λ (o : Option (ℕ × ℕ)). option_map (λ (x : ℕ × ℕ). x.1) o) (floor_none pairs key (sym place ∙ none));
  }

  module _ (low : ℕ) (next : Option ℕ) (sides : HasSides pairs above low next) where
    pub child_before : (at page : ℕ) → suc at ≡ above → page ≡ (get_or (node_in words).entries at ([], 0)).1
        → FindsChildIn bytes words key page low next
    child_before at page last read =
        let behind : at + 1 ≡ above = omega (arith, last) in
        let there : at < length pairs = omega (arith, last, bound.inside) in
        let value : (get_or pairs at (0, 0)).1 ≡ page = values-at at (node_in words).entries (omega (arith, there, length-pairs words))
        ∙ sym read in
        let below = bound.before at behind in
        let floor = floor_is_before pairs key above low next bound sides at last in
        let low_is : (get_or pairs at (0, 0)).0 ≡ low = sides.before at behind in
        let here = subst (λ (i : ℕ). MatchOption next (i ≡ length pairs)
        (λ k. (i < length pairs) × ((get_or pairs i (0, 0)).0 ≡ k))) (sym behind)
        sides.here in
        record {
          finds = record {
            at = at;
            there = there;
            lowest = omega (arith, below);
            page = value;
            child = λ from upto rises. ap (λ (o : Option (ℕ × ℕ)). option_map (λ (x : ℕ × ℕ). x.1) o)
                (floor from upto rises) ∙ ap (λ (p : ℕ). Some p) value;
          };
          low_is = low_is;
          next_is = here;
          fences = λ from upto rises. (
            subst (λ (k : ℕ). lookup_at pairs k ≡ Some page) low_is
                (found_floor pairs from upto key (get_or pairs at (0, 0)) rises
                (floor from upto rises) ∙ ap (λ (p : ℕ). Some p) value),
            λ high. subst (λ (k : ℕ). next_key pairs high k ≡ unwrap_or next high) low_is
                (next_of pairs from upto high at next rises here),
          );
        }
