-- A search by halves looks at nine keys at most, each of them in nine words.
use Rattle.std.proofs.Common.{◌≡◌, ℕ, ◌+◌, ◌-◌, ◌*◌, ◌/◌, ◌^◌, ◌<◌, ◌≤◌, List, [], length, get_or, subst, ap, sym, ◌∙◌}
use Rattle.std.proofs.Common.{arith, MatchOption, None, Option, Some}
use Rattle.std.proofs.lemmas.List.{length-map}
use Rattle.vm_tree_model.specs.Page.{pairs_of}
use Rattle.vm_node.specs.Loads.{Tells}
use Rattle.vm_node.specs.Places.{HasSides, IsBound}
use Rattle.vm_node.proofs.Searches.{IsNarrowed}
use Rattle.vm_node.proofs.Sizes.{halved}
use Rattle.vm_node.proofs.Telling.{Joins, told_none, told_then, told_so}
use Rattle.vm_bytes_form.specs.Bytes.{bytes, ranked_entry}
use Rattle.vm_bytes_form.specs.Forms.{node_in}
use Rattle.vm_bytes_form.specs.Strings.{rank}
use Rattle.vm_bytes_form.proofs.EditLaws.{ranks-at}

-- the pairs over ranks are as many as the entries, with the ranks of their keys and their values
pub length-pairs : (words : List ℕ) → length (pairs_of bytes words) ≡ length (node_in words).entries
length-pairs words = length-map (node_in words).entries ranked_entry

pub pair_key : (words key : List ℕ) (i : ℕ) → i < length (node_in words).entries → key ≡ (get_or (node_in words).entries i ([], 0)).0
    → (get_or (pairs_of bytes words) i (0, 0)).0 ≡ rank key
pair_key words key i lt is = ranks-at i (node_in words).entries lt ∙ ap rank (sym is)

-- some number of looks led here, and what they tell
pub record IsKeySearched {P : Type 0} (loads : P → List (ℕ × ℕ) → P → Type 0) (p q : P)
    (count key from upto low : ℕ) (next : Option ℕ) : Type 0 where
  pub looks : ℕ
  pub few : looks ≤ 9
  pub left : upto - from < 2 ^ (9 - looks)
  pub told : Tells 512 loads p (9 * looks) q (λ words. count ≡ length (node_in words).entries
      → IsNarrowed (pairs_of bytes words) key from upto low next)

pub search_begins : {P : Type 0} {loads : P → List (ℕ × ℕ) → P → Type 0} {p : P} {count key : ℕ}
    → loads p [] p → count ≤ 504 → (low : ℕ) → IsKeySearched loads p p count key 0 count low None
search_begins through fits low = record {
  looks = 0;
  few = omega arith;
  left = omega (arith, fits);
  told = told_none through (λ words size is. record {
    before = λ i e. absurd (omega arith);
    here = λ lt. absurd (omega (arith, lt, is, length-pairs words));
    low_is = λ i e. absurd (omega arith);
    next_is = is ∙ sym (length-pairs words);
  });
}

module _ {P : Type 0} {loads : P → List (ℕ × ℕ) → P → Type 0} {p q : P} {count key from upto low : ℕ} {next : Option ℕ} where
  pub search_ends : IsKeySearched loads p q count key from upto low next → from ≤ upto → upto ≤ from → upto ≤ count
      → Tells 512 loads p 81 q (λ words. count ≡ length (node_in words).entries
      → IsBound (pairs_of bytes words) key from × HasSides (pairs_of bytes words) from low next)
  search_ends is le ge inside = let few = is.few in told_so (omega (arith, few)) is.told (λ words size narrowed all.
      let m = narrowed all in (
        record {
          inside = omega (arith, all, inside, le, length-pairs words);
          before = m.before;
          here = λ lt. subst (λ (i : ℕ). key ≤ (get_or (pairs_of bytes words) i (0, 0)).0) (antisym le ge) (m.here (omega (arith, lt, ge)));
        },
        record {
          before = m.low_is;
          here = subst (λ (i : ℕ). MatchOption next (i ≡ length (pairs_of bytes words))
              (λ k. (i < length (pairs_of bytes words)) × ((get_or (pairs_of bytes words) i (0, 0)).0 ≡ k))) (antisym le ge)
              m.next_is;
        },
      ))
    where
      antisym : from ≤ upto → upto ≤ from → upto ≡ from
      antisym a b = omega (arith, a, b)

module _ {P : Type 0} {loads : P → List (ℕ × ℕ) → P → Type 0} {p q r : P}
    {count key from upto low middle : ℕ} {found : List ℕ} {next : Option ℕ} (join : Joins loads)
    (is : IsKeySearched loads p q count key from upto low next) (some : from < upto) (inside : upto ≤ count)
    (place : middle ≡ from + (upto - from) / 2)
    (look : Tells 512 loads q 9 r (λ words. middle < length (node_in words).entries
    → found ≡ (get_or (node_in words).entries middle ([], 0)).0)) where
  more : (j : ℕ) × (9 - is.looks ≡ j + 1) × ((upto - from) / 2 < 2 ^ j)
  more = halved (upto - from) (9 - is.looks) (omega (arith, some)) is.left

  among : middle < count
  among = omega (arith, some, inside, place)

  pub search_right : rank found < key → IsKeySearched loads p r count key (middle + 1) upto (rank found) next
  search_right below = record {
    looks = is.looks + 1;
    few = omega (arith, more.1);
    left = (let fewer : 9 - (is.looks + 1) ≡ more.0 = omega (arith, more.1) in rw fewer (omega (arith, more.2, place, some)));
    told = told_so (omega arith) (told_then join is.told look) (λ words size told all.
        let here : (get_or (pairs_of bytes words) middle (0, 0)).0 ≡ rank found = pair_key words found middle (omega (arith, all, among))
        (told.1 (omega (arith, all, among))) in record {
          before = λ i e. let at : i ≡ middle = omega (arith, e) in rw at (rw here below);
          here = (told.0 all).here;
          low_is = λ i e. let at : i ≡ middle = omega (arith, e) in rw at here;
          next_is = (told.0 all).next_is;
        });
  }

  pub search_left : key ≤ rank found → IsKeySearched loads p r count key from middle low (Some (rank found))
  search_left from_here = record {
    looks = is.looks + 1;
    few = omega (arith, more.1);
    left = (let fewer : 9 - (is.looks + 1) ≡ more.0 = omega (arith, more.1) in rw fewer (omega (arith, more.2, place, some)));
    told = told_so (omega arith) (told_then join is.told look) (λ words size told all.
        let here : (get_or (pairs_of bytes words) middle (0, 0)).0 ≡ rank found = pair_key words found middle (omega (arith, all, among))
        (told.1 (omega (arith, all, among))) in record {
          before = (told.0 all).before;
          here = λ lt. rw here from_here;
          low_is = (told.0 all).low_is;
          next_is = (omega (arith, all, among, length-pairs words), here);
        });
  }
