-- A put leaves the node with the pair: over the one that the key had, or with one more.
use Rattle.std.proofs.Common.{◌≡◌, ℕ, zero, suc, ◌+◌, ◌-◌, ◌*◌, ◌<◌, ◌≤◌, ◌≢◌, List, [], ◌∷◌, ◌++◌, length, get_or}
use Rattle.std.proofs.Common.{set, take, drop, min, Some, None, refl, sym, ap, ◌∙◌, subst, arith, length-set}
use Rattle.std.proofs.Common.{get_or-set_other}
use Rattle.std.proofs.lemmas.List.{set-get_or, take-take, drop-take}
use Rattle.std.proofs.Math.Seq.{take-add, drop-cons}
use Rattle.std.specs.List.{insert}
use Rattle.vm_map.specs.Map.{Pairs, lookup_at, put_pair, Rises}
use Rattle.vm_tree_model.specs.Layout.{IsClean}
use Rattle.vm_tree_model.specs.Fixed.{fixed, fixed_node, fixed_pairs, capacity, places, high_of}
use Rattle.vm_tree_model.proofs.FixedLaws.{form_tells, form_from, ones_are}
use Rattle.vm_tree_model.proofs.WordTests.{zeros_past, zeros_past-from}
use Rattle.vm_page.specs.Sizes.{IsSize}
use Rattle.vm_node.proofs.Sizes.{whole}
use Rattle.vm_tree_model.proofs.PairWords.{length-places, length-pairs_of, pairs_of-at, places-at, places-set, places_same}
use Rattle.vm_tree_model.specs.Edits.{AddsPair}
use Rattle.vm_node.specs.Places.{place_of}
use Rattle.vm_node.proofs.PlaceLemmas.{put-insert, put-set, lookup-place, lookup-no_place}

-- the header but for the count stays, and no word stands past the pairs
pub record KeepsHeader (z : ℕ) (old new : List ℕ) : Type 0 where
  pub length : length new ≡ z
  pub tag : get_or new 0 0 ≡ get_or old 0 0
  pub count : get_or new 1 0 ≤ capacity z
  pub header : (i : ℕ) → 2 ≤ i → i < 8 → get_or new i 0 ≡ get_or old i 0
  pub rest : (i : ℕ) → 8 + 2 * get_or new 1 0 ≤ i → get_or new i 0 ≡ 0

pub clean_with : (z : ℕ) (old new : List ℕ) → IsClean (fixed z) old → KeepsHeader z old new → IsClean (fixed z) new
clean_with z old new clean edit = let f = form_tells z old clean in form_from z new (record {
  length = edit.length;
  count = edit.count;
  fence = rw (edit.header 3 (omega arith) (omega arith), edit.header 4 (omega arith) (omega arith)) f.fence;
  sixth = edit.header 6 (omega arith) (omega arith) ∙ f.sixth;
  seventh = edit.header 7 (omega arith) (omega arith) ∙ f.seventh;
  rest = zeros_past-from new (8 + 2 * get_or new 1 0) edit.rest;
})

-- clean words have zeros past the pairs
pub clean_rest : (z : ℕ) (words : List ℕ) → IsClean (fixed z) words → (i : ℕ) → 8 + 2 * get_or words 1 0 ≤ i → get_or words i 0 ≡ 0
clean_rest z words clean = zeros_past words (8 + 2 * get_or words 1 0) (form_tells z words clean).rest

-- the pairs alone change
pub node_with : (z : ℕ) (old new : List ℕ) (holds : Pairs) → get_or new 0 0 ≡ get_or old 0 0
    → ((i : ℕ) → 2 ≤ i → i < 8 → get_or new i 0 ≡ get_or old i 0) → fixed_pairs z new ≡ holds
    → fixed_node z new ≡ record (fixed_node z old) { pairs = holds }
node_with z old new holds tag header pairs =
    let low = header 2 (omega arith) (omega arith) in
    let level = header 5 (omega arith) (omega arith) in
    let third : get_or new 3 0 ≡ get_or old 3 0 = header 3 (omega arith) (omega arith) in
    let fourth : get_or new 4 0 ≡ get_or old 4 0 = header 4 (omega arith) (omega arith) in
    let high : high_of new ≡ high_of old = rw (third, fourth) refl in
    λ i. record { tag = tag i; level = level i; low = low i; high = high i; pairs = pairs i }

take-set_any : (m : Pairs) (n i : ℕ) (x : ℕ × ℕ) → take n (set m i x) ≡ set (take n m) i x
take-set_any m zero i x = refl
take-set_any [] (suc n) i x = refl
take-set_any (e ∷ es) (suc n) zero x = refl
take-set_any (e ∷ es) (suc n) (suc i) x = ap (λ (l : Pairs). e ∷ l) (take-set_any es n i x)

module _ (z : ℕ) (size_of : IsSize z) (words : List ℕ) (len : length words ≡ z) where
  -- a value is written over
  pub places-set_value : (i value : ℕ) → i < capacity z → places (set words (9 + 2 * i) value) ≡ set (places words) i
      (get_or words (8 + 2 * i) 0, value)
  places-set_value i value lt =
      let both = places-set z (capacity z) (whole z size_of) words len i (get_or words (8 + 2 * i) 0) value lt in
      let same : set words (8 + 2 * i) (get_or words (8 + 2 * i) 0) ≡ words = set-get_or words (8 + 2 * i) 0 in
      subst (λ w. places (set w (9 + 2 * i) value) ≡ set (places words) i (get_or words (8 + 2 * i) 0, value)) same both

  module _ (key value at : ℕ) (is : at ≡ place_of (fixed_pairs z words) key) where
    module _ (lt : at < min (get_or words 1 0) (capacity z)) (same : get_or words (8 + 2 * at) 0 ≡ key) where
      read : get_or (fixed_pairs z words) at (0, 0) ≡ (get_or words (8 + 2 * at) 0, get_or words (9 + 2 * at) 0)
      read = pairs_of-at z (capacity z) (whole z size_of) words len at lt

      pub over_pairs : fixed_pairs z (set words (9 + 2 * at) value) ≡ put_pair (fixed_pairs z words) key value
      over_pairs =
          let count : get_or (set words (9 + 2 * at) value) 1 0 ≡ get_or words 1 0 =
          get_or-set_other words (9 + 2 * at) 1 value 0 (omega arith) in
          let written = places-set_value at value (omega arith) in
          let cut : take (min (get_or words 1 0) (capacity z))
          (set (places words) at (get_or words (8 + 2 * at) 0, value)) ≡ set (fixed_pairs z words)
          at (key, value) =
          take-set_any (places words) (min (get_or words 1 0) (capacity z)) at _
          ∙ ap (λ (k : ℕ). set (fixed_pairs z words) at (k, value)) same in
          let put : set (fixed_pairs z words) (place_of (fixed_pairs z words) key) (key, value) ≡ put_pair
          (fixed_pairs z words) key value = put-set (fixed_pairs z words) key value at_lt at_key in
          rw (count, written) (cut ∙ rw (← is) at put)
        where
          at_lt : place_of (fixed_pairs z words) key < length (fixed_pairs z words)
          at_lt = omega (arith, is, length-pairs_of z (capacity z) (whole z size_of) words len)

          at_key : (get_or (fixed_pairs z words) (place_of (fixed_pairs z words) key) (0, 0)).0 ≡ key
          at_key = rw (← is) (ap (λ (x : ℕ × ℕ). x.0) read ∙ same)

      pub over_was : lookup_at (fixed_pairs z words) key ≡ Some (get_or words (9 + 2 * at) 0)
      over_was =
          let found = lookup-place (fixed_pairs z words) key
          (omega (arith, is, length-pairs_of z (capacity z) (whole z size_of) words len))
          (rw (← is) (ap (λ (x : ℕ × ℕ). x.0) read ∙ same)) in
          found ∙ ap Some (rw (← is) (ap (λ (x : ℕ × ℕ). x.1) read))

      over_tag : get_or (set words (9 + 2 * at) value) 0 0 ≡ get_or words 0 0
      over_tag = get_or-set_other words (9 + 2 * at) 0 value 0 (omega arith)

      over_header : (i : ℕ) → 2 ≤ i → i < 8 → get_or (set words (9 + 2 * at) value) i 0 ≡ get_or words i 0
      over_header i ge lt' = get_or-set_other words (9 + 2 * at) i value 0 (omega arith)

      over_edit : IsClean (fixed z) words → KeepsHeader z words (set words (9 + 2 * at) value)
      over_edit clean = record {
        length = length-set words (9 + 2 * at) value ∙ len;
        tag = over_tag;
        count = rw (get_or-set_other words (9 + 2 * at) 1 value 0 (omega arith)) (form_tells z words clean).count;
        header = over_header;
        rest = λ i le. let le' = rw (get_or-set_other words (9 + 2 * at) 1 value 0 (omega arith)) at le in
            get_or-set_other words (9 + 2 * at) i value 0 (omega arith) ∙ clean_rest z words clean i le';
      }

      pub over_node : AddsPair (fixed z) words (set words (9 + 2 * at) value) key value
      over_node = record {
        not_full = λ full. cc (over_was, full.absent);
        node = node_with z _ _ _ over_tag over_header over_pairs;
        clean = λ clean. clean_with z _ _ clean (over_edit clean);
      }

    module _ (other : at < min (get_or words 1 0) (capacity z) → get_or words (8 + 2 * at) 0 ≢ key) where
      not_there : place_of (fixed_pairs z words) key < length (fixed_pairs z words)
          → (get_or (fixed_pairs z words) (place_of (fixed_pairs z words) key) (0, 0)).0 ≢ key
      not_there in_range =
          let lt : at < min (get_or words 1 0) (capacity z) =
          omega (arith, is, length-pairs_of z (capacity z) (whole z size_of) words len) in
          let read : (get_or (fixed_pairs z words) at (0, 0)).0 ≡ get_or words (8 + 2 * at) 0 =
          ap (λ (x : ℕ × ℕ). x.0) (pairs_of-at z (capacity z) (whole z size_of) words len at lt) in
          rw (← is) (λ e. other lt (sym read ∙ e))

      pub absent : (low high : ℕ) → Rises low high (fixed_pairs z words) → lookup_at (fixed_pairs z words) key ≡ None
      absent low high rises = lookup-no_place (fixed_pairs z words) low high key rises not_there

-- the page after a pair went in at `at`
pub record IsShiftedIn (z : ℕ) (old new : List ℕ) (at n key value : ℕ) : Type 0 where
  pub old_length : length old ≡ z
  pub new_length : length new ≡ z
  pub count : n ≡ min (get_or old 1 0) (capacity z)
  pub place : at ≤ n
  pub room : n < capacity z
  pub more : get_or new 1 0 ≡ n + 1
  pub below : (k : ℕ) → k ≢ 1 → k < 8 + 2 * at → get_or new k 0 ≡ get_or old k 0
  pub has_key : get_or new (8 + 2 * at) 0 ≡ key
  pub has_value : get_or new (9 + 2 * at) 0 ≡ value
  pub moved : (k : ℕ) → 8 + 2 * at ≤ k → k < 8 + 2 * n → get_or new (k + 2) 0 ≡ get_or old k 0
  pub rest : (k : ℕ) → 10 + 2 * n ≤ k → get_or new k 0 ≡ get_or old k 0

module _ (z : ℕ) (size_of : IsSize z) (old new : List ℕ) (at n key value : ℕ) (s : IsShiftedIn z old new at n key value) where
  front : take at (places new) ≡ take at (places old)
  front = places_same z (capacity z) (whole z size_of) new old 0 0 at s.new_length s.old_length
      (omega (arith, s.place, s.room)) (omega (arith, s.place, s.room))
      (λ k lt. s.below (8 + k) (omega arith) (omega arith))

  back : take (n - at) (drop (suc at) (places new)) ≡ take (n - at) (drop at (places old))
  back = places_same z (capacity z) (whole z size_of) new old (suc at) at (n - at) s.new_length s.old_length
      (omega (arith, s.place, s.room)) (omega (arith, s.place, s.room))
      (λ k lt. ap (λ i. get_or new i 0) (omega arith) ∙ s.moved (8 + 2 * at + k) (omega arith) (omega (arith, s.place)))

  here : get_or (places new) at (0, 0) ≡ (key, value)
  here = places-at z (capacity z) (whole z size_of) new s.new_length at (omega (arith, s.place, s.room)) ∙ rw (s.has_key, s.has_value) refl

  -- the first n + 1 places are the pairs with the new one in
  inside : take (n + 1) (places new) ≡ insert (fixed_pairs z old) at (key, value)
  inside =
      let count : at + suc (n - at) ≡ n + 1 = omega (arith, s.place) in
      let parted : at + (n - at) ≡ min (get_or old 1 0) (capacity z) = omega (arith, s.place, s.count) in
      let behind : drop at (places new) ≡ get_or (places new) at (0, 0) ∷ drop (suc at) (places new) =
      drop-cons (places new) at (0, 0)
      (omega (arith, length-places z (capacity z) (whole z size_of) new s.new_length, s.place, s.room)) in
      let first : take at (fixed_pairs z old) ≡ take at (places old) =
      take-take at (min (get_or old 1 0) (capacity z)) (places old) (omega (arith, s.place, s.count)) in
      let second : drop at (fixed_pairs z old) ≡ take (n - at) (drop at (places old)) =
      subst (λ m. drop at (take m (places old)) ≡ take (n - at) (drop at (places old))) parted
      (drop-take at (n - at) (places old)) in
      let parts : take (n + 1) (places new) ≡ take at (places new) ++ take (suc (n - at)) (drop at (places new)) =
      subst (λ m. take m (places new) ≡ take at (places new) ++ take (suc (n - at)) (drop at (places new))) count
      (take-add at (suc (n - at)) (places new)) in
      parts ∙ rw (front, behind, here, back) (rw (first, second) refl)

  module _ (is : at ≡ place_of (fixed_pairs z old) key) (other : at < min (get_or old 1 0) (capacity z)
      → get_or old (8 + 2 * at) 0 ≢ key) where
    into_pairs : fixed_pairs z new ≡ put_pair (fixed_pairs z old) key value
    into_pairs =
        let least : min (n + 1) (capacity z) ≡ n + 1 = omega (arith, s.room) in
        let put : insert (fixed_pairs z old) (place_of (fixed_pairs z old) key) (key, value) ≡ put_pair
        (fixed_pairs z old) key value = put-insert (fixed_pairs z old) key value
        (not_there z size_of old s.old_length key value at is other) in
        rw (s.more, least) (inside
        ∙ subst (λ m. insert (fixed_pairs z old) m (key, value) ≡ put_pair (fixed_pairs z old) key value) (sym is)
        put)

    pub into_node : AddsPair (fixed z) old new key value
    into_node = record {
      not_full = λ full. omega (
        arith,
        full.count,
        ones_are (fixed_pairs z old),
        length-pairs_of z (capacity z)
            (whole z size_of) old s.old_length,
        s.count,
        s.room,
      );
      node = node_with z _ _ _ tag header into_pairs;
      clean = λ clean. clean_with z _ _ clean (record {
        length = s.new_length;
        tag = tag;
        count = rw s.more (omega (arith, s.room));
        header = header;
        rest = λ i le. let le' = rw s.more at le in s.rest i (omega arith) ∙ clean_rest z old clean i
            (omega (arith, s.count, (form_tells z old clean).count));
      });
    }
      where
        tag : get_or new 0 0 ≡ get_or old 0 0
        tag = s.below 0 (omega arith) (omega arith)

        header : (i : ℕ) → 2 ≤ i → i < 8 → get_or new i 0 ≡ get_or old i 0
        header i ge lt = s.below i (omega arith) (omega arith)
