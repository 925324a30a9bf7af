-- The child is that of the pair before the place where the keys begin to be above.
use Rattle.std.proofs.Common.{◌≡◌, ◌≢◌, ℕ, suc, ◌+◌, ◌-◌, ◌*◌, ◌<◌, ◌≤◌, List, MatchOption, None, Option, Some}
use Rattle.std.proofs.Common.{length, get_or, subst, sym, ap, unwrap_or, ◌∙◌, arith}
use Rattle.vm_map.specs.Map.{floor_pair, lookup_at, next_key, Pairs, Rises}
use Rattle.std.specs.Option.{option_map}
use Rattle.vm_page.specs.Sizes.{IsSize}
use Rattle.vm_tree_model.specs.Fixed.{fixed, fixed_pairs}
use Rattle.vm_node.specs.Places.{HasSides, IsBound}
use Rattle.vm_node.proofs.Bounds.{bound_place}
use Rattle.vm_node.proofs.ReadPairs.{value_is}
use Rattle.vm_node.proofs.Telling.{told_word, told_then, told_so}
use Rattle.vm_inner.specs.Found.{FindsChildIn, FindsNoChild}
use Rattle.vm_inner.proofs.Floor.{floor_none, floor_before, found_floor, next_behind, next_last}
use Rattle.vm_inner.proofs.children.child_at.Goals as goal

next_of : (m : Pairs) (from upto high at : ℕ) (next : Option ℕ) → Rises from upto m
    → MatchOption next (at + 1 ≡ length m) (λ k. (at + 1 < length m) × ((get_or m (at + 1) (0, 0)).0 ≡ k))
    → next_key m high (get_or m at (0, 0)).0 ≡ unwrap_or next high
next_of m from upto high at None rises last = next_last m from upto high at rises last
next_of m from upto high at (Some k) rises more = next_behind m from upto high at rises more.0 ∙ more.1

module _ (n : ℕ) (size_of : IsSize n) (words : List ℕ) (size : length words ≡ n) (key above : ℕ)
    (bound : IsBound (fixed_pairs n words) (key + 1) above) where
  no_child : above ≡ 0 → FindsNoChild (fixed n) words key
  no_child none = record {
    first = λ some. let here = bound.here (omega (arith, none, some)) in
        let from : key + 1 ≤ (get_or (fixed_pairs n words) 0 (0, 0)).0 = (rw none at here) in omega (arith, from);
    child = λ low high rises. let place = bound_place (fixed_pairs n words) low high (key + 1) above rises bound in
        ap (λ (o : Option (ℕ × ℕ)). option_map (λ (x : ℕ × ℕ). x.1) o) (floor_none (fixed_pairs n words) key (sym place ∙ none));
  }

  module _ (low : ℕ) (next : Option ℕ) (sides : HasSides (fixed_pairs n words) above low next) where
    child_before : (page : ℕ) → above ≢ 0 → get_or words (7 + 2 * above) 0 ≡ page → FindsChildIn (fixed n) words key page low next
    child_before page some read =
        let at : ℕ = above - 1 in
        let last : suc at ≡ above = omega (arith, some) in
        let behind : at + 1 ≡ above = omega (arith, some) in
        let there : at < length (fixed_pairs n words) = omega (arith, last, bound.inside) in
        let spot : 9 + 2 * at ≡ 7 + 2 * above = omega (arith, last) in
        let value : (get_or (fixed_pairs n words) at (0, 0)).1 ≡ page = value_is n size_of words size at there
        ∙ ap (λ (i : ℕ). get_or words i 0) spot ∙ read in
        let below = bound.before at behind in
        let floor : (from upto : ℕ) → Rises from upto (fixed_pairs n words)
        → floor_pair (fixed_pairs n words) key ≡ Some (get_or (fixed_pairs n words) at (0, 0))
        = λ from upto rises. floor_before (fixed_pairs n words) key
        at (sym (bound_place (fixed_pairs n words) from upto (key + 1) above rises bound) ∙ sym last) in
        let low_is : (get_or (fixed_pairs n words) at (0, 0)).0 ≡ low = sides.before at behind in
        let here = subst (λ (i : ℕ). MatchOption next (i ≡ length (fixed_pairs n words))
        (λ k. (i < length (fixed_pairs n words)) × ((get_or (fixed_pairs n words) i (0, 0)).0 ≡ k))) (sym behind)
        sides.here in
        record {
          finds = record {
            at = at;
            there = there;
            lowest = omega (arith, below);
            page = value;
            child = λ from upto rises. ap (λ (o : Option (ℕ × ℕ)). option_map (λ (x : ℕ × ℕ). x.1) o)
                (floor from upto rises) ∙ ap (λ (p : ℕ). Some p) value;
          };
          low_is = low_is;
          next_is = here;
          fences = λ from upto rises. (
            subst (λ (k : ℕ). lookup_at (fixed_pairs n words) k ≡ Some page) low_is
                (found_floor (fixed_pairs n words) from upto key (get_or (fixed_pairs n words) at (0, 0)) rises
                (floor from upto rises) ∙ ap (λ (p : ℕ). Some p) value),
            λ high. subst (λ (k : ℕ). next_key (fixed_pairs n words) high k ≡ unwrap_or next high) low_is
                (next_of (fixed_pairs n words) from upto high at next rises here),
          );
        }

pub returns-then-above-eq0-clause-told : goal.returns-then-above-eq0-clause-told
returns-then-above-eq0-clause-told g c =
    told_so (omega arith) (told_then g.met.P.Place.join c.count_at-count.ensures.told
    c.upper_bound_at-above.ensures.told)
    (λ words size read. no_child c.args.words c.requires.sized words size c.args.key _ (read.1 read.0).0
    c.if-above-eq0.true)

pub returns-clause-told : goal.returns-clause-told
returns-clause-told g c =
    let join = g.met.P.Place.join in
    told_so (omega arith) (told_then join
    (told_then join c.count_at-count.ensures.told c.upper_bound_at-above.ensures.told)
    (told_word c.word.ensures.loads))
    (λ words size read. let b = read.0.1 read.0.0 in child_before c.args.words c.requires.sized words size c.args.key
    _ b.0 _ _ b.1 _ c.if-above-eq0.false read.1)

pub returns-clause-sides : goal.returns-clause-sides
returns-clause-sides g c = (c.upper_bound_at-above.ensures.low, c.upper_bound_at-above.ensures.next)
