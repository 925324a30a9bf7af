-- The entries from a key on, among keys that rise, are those from the place where the keys stop being lower.
use Rattle.std.proofs.Common.{◌≡◌, ℕ, zero, suc, ◌+◌, ◌<◌, ◌≤◌, true, false, [], ◌∷◌, ◌++◌, length, get_or, take, drop, ltb}
use Rattle.std.proofs.Common.{List, Option, Some, refl, sym, ap, ◌∙◌, arith, append-nil, append_assoc, inl, inr}
use Rattle.std.proofs.lemmas.Bool.Decides.{nat_tests}
use Rattle.std.proofs.lemmas.Bool.{cases_eq, cases_lt, lt-ltb}
use Rattle.std.proofs.lemmas.List.{drop_all, drop_more, take_all, take_at}
use Rattle.vm_map.specs.Map.{Pairs, Rises}
use Rattle.vm_tree_model.specs.Page.{pairs_of}
use Rattle.vm_node.specs.Places.{place_of}
use Rattle.vm_bytes_form.specs.Bytes.{bytes}
use Rattle.vm_bytes_form.specs.Forms.{AreKeys, KeyEntry, node_in}
use Rattle.vm_bytes_form.specs.KeyMap.{ranks_of}
use Rattle.vm_bytes_form.specs.Strings.{before, IsString, rank}
use Rattle.vm_bytes_form.proofs.KeyMaps.{before_test}
use Rattle.vm_bytes_node.specs.KeyWindows.{entries_from, IsKeyWindow, key_after}
use Rattle.vm_bytes_node.proofs.ReadKeys.{entries_read}

-- no key of rising pairs is below the first
pub none_lower : (m : Pairs) (low high k : ℕ) → Rises low high m → k ≤ low → place_of m k ≡ 0
none_lower [] low high k rises le = refl
none_lower (e ∷ es) low high k rises le =
    let first = rises.0 in
    let stops : ltb e.0 k ≡ false = grind (arith, nat_tests, first, le) in
    rw stops refl

-- the pair of a key is the first one that is not lower
pub place_before : (m : Pairs) (low high k j : ℕ) → Rises low high m → place_of m (k + 1) ≡ suc j → (get_or m j (0, 0)).0 ≡ k
    → j ≡ place_of m k
place_before [] low high k j rises place has = absurd (omega (arith, place))
place_before (e ∷ es) low high k j rises place has = elim (cases_lt e.0 k) [
  | inl below ↦
      let goes : ltb e.0 (k + 1) ≡ true = grind (arith, nat_tests, below) in
      let less : ltb e.0 k ≡ true = lt-ltb e.0 k below in
      let here : suc (place_of es (k + 1)) ≡ suc j = (rw goes at place) in
      rw less (go j (omega (arith, here)) has below (λ i found key. place_before es (e.0 + 1) high k i rises.2 found key))
  | inr from ↦ elim (cases_eq e.0 k) [
    | inl same ↦
        let goes : ltb e.0 (k + 1) ≡ true = grind (arith, nat_tests, same) in
        let stops : ltb e.0 k ≡ false = grind (arith, nat_tests, same) in
        let here : suc (place_of es (k + 1)) ≡ suc j = (rw goes at place) in
        let rest = none_lower es (e.0 + 1) high (k + 1) rises.2 (omega (arith, same)) in
        rw stops (omega (arith, here, rest))
    | inr other ↦
        let stops : ltb e.0 (k + 1) ≡ false = grind (arith, nat_tests, from, other) in
        let none : 0 ≡ suc j = (rw stops at place) in
        absurd (omega (arith, none))
  ]
]
  where
    go : (j : ℕ) → j ≡ place_of es (k + 1) → (get_or (e ∷ es) j (0, 0)).0 ≡ k → e.0 < k
        → ((i : ℕ) → place_of es (k + 1) ≡ suc i → (get_or es i (0, 0)).0 ≡ k → i ≡ place_of es k) → j ≡ suc (place_of es k)
    go zero found has below rest = absurd (omega (arith, has, below))
    go (suc i) found has below rest = ap suc (rest i (sym found) has)

-- all entries are at or behind the start
from_all : (es : List KeyEntry) (start : List ℕ) (low high : ℕ) → AreKeys es → IsString 64 start → Rises low high (ranks_of es)
    → rank start ≤ low
    → entries_from start es ≡ es
from_all [] start low high keys is rises le = refl
from_all (e ∷ es) start low high keys is rises le =
    let first = rises.0 in
    let stops : ltb (rank e.0) (rank start) ≡ false = grind (arith, nat_tests, first, le) in
    let test : before e.0 start ≡ false = before_test e.0 start keys.0 is ∙ stops in
    rw test (ap (λ (l : List KeyEntry). e ∷ l) (from_all es start (rank e.0 + 1) high keys.1 is rises.2 (omega (arith, first, le))))

pub from_place : (es : List KeyEntry) (start : List ℕ) (low high : ℕ) → AreKeys es → IsString 64 start → Rises low high (ranks_of es)
    → drop (place_of (ranks_of es) (rank start)) es ≡ entries_from start es
from_place [] start low high keys is rises = refl
from_place (e ∷ es) start low high keys is rises = elim (cases_lt (rank e.0) (rank start)) [
  | inl below ↦
      let less : ltb (rank e.0) (rank start) ≡ true = lt-ltb (rank e.0) (rank start) below in
      let test : before e.0 start ≡ true = before_test e.0 start keys.0 is ∙ less in
      rw (less, test) (from_place es start (rank e.0 + 1) high keys.1 is rises.2)
  | inr from ↦
      let stops : ltb (rank e.0) (rank start) ≡ false = grind (arith, nat_tests, from) in
      let test : before e.0 start ≡ false = before_test e.0 start keys.0 is ∙ stops in
      rw (stops, test) (ap (λ (l : List KeyEntry). e ∷ l)
      (sym (from_all es start (rank e.0 + 1) high keys.1 is rises.2 (omega (arith, from)))))
]

-- a full window ends at the entry that is left, and one that shows all at the fence
after_front : (a b : List KeyEntry) (e : KeyEntry) (high : Option (List ℕ)) → key_after (a ++ e ∷ b) (length a) high ≡ Some e.0
after_front [] b e high = refl
after_front (f ∷ a) b e high = after_front a b e high

after_whole : (a : List KeyEntry) (n : ℕ) (high : Option (List ℕ)) → length a ≤ n → key_after a n high ≡ high
after_whole [] n high le = refl
after_whole (e ∷ es) zero high le = absurd (omega (arith, le))
after_whole (e ∷ es) (suc n) high le = after_whole es n high (omega (arith, le))

-- What was taken and the entries from place i on are those from the start on
pub record IsShowing (start : List ℕ) (count i : ℕ) (shown : List KeyEntry) (words : List ℕ) : Type 0 where
  pub all : count ≡ length (node_in words).entries
  pub whole : (low high : ℕ) → Rises low high (pairs_of bytes words)
      → shown ++ drop i (node_in words).entries ≡ entries_from start (node_in words).entries

module _ (start : List ℕ) (count : ℕ) (words : List ℕ) where
  abbrev entries : List KeyEntry
  entries = (node_in words).entries

  pub showing_begins : (first : ℕ) → IsString 64 start → count ≡ length entries
      → ((low high : ℕ) → Rises low high (pairs_of bytes words) → first ≡ place_of (pairs_of bytes words) (rank start))
      → IsShowing start count first [] words
  showing_begins first is all first_is = record {
    all = all;
    whole = λ low high rises. ap (λ (i : ℕ). drop i entries) (first_is low high rises)
        ∙ from_place entries start low high (entries_read words) is rises;
  }

  module _ (i : ℕ) (shown : List KeyEntry) (is : IsShowing start count i shown words) where
    module _ (key : List ℕ) (inside : i < count) (key_read : i < length entries → key ≡ (get_or entries i ([], 0)).0) where
      there : i < length entries
      there = let all = is.all in omega (arith, inside, all)

      next : (value : ℕ) → value ≡ (get_or entries i ([], 0)).1 → drop i entries ≡ (key, value) ∷ drop (i + 1) entries
      next value read =
          let found = key_read there in
          drop_more entries i ([], 0) there ∙ ap (λ (e : KeyEntry). e ∷ drop (i + 1) entries) (λ j. (sym found j, sym read j))

      pub showing_more : (value : ℕ) → (i < length entries → value ≡ (get_or entries i ([], 0)).1)
          → IsShowing start count (i + 1) (shown ++ (key, value) ∷ []) words
      showing_more value read = record {
        all = is.all;
        whole = λ low high rises. append_assoc shown ((key, value) ∷ []) (drop (i + 1) entries)
            ∙ ap (λ (l : List KeyEntry). shown ++ l) (sym (next value (read there))) ∙ is.whole low high rises;
      }

      -- for the next entry there is no room
      pub showing_stops : (most : ℕ) → length shown ≡ most → (low high : ℕ) → Rises low high (pairs_of bytes words)
          → IsKeyWindow (node_in words) start most shown (Some key)
      showing_stops most long low high rises =
          let value : ℕ = (get_or entries i ([], 0)).1 in
          let whole : shown ++ ((key, value) ∷ drop (i + 1) entries) ≡ entries_from start entries =
          ap (λ (l : List KeyEntry). shown ++ l) (sym (next value refl)) ∙ is.whole low high rises in
          record {
            shows = sym (ap (take most) (sym whole) ∙ take_at shown ((key, value) ∷ drop (i + 1) entries) most long);
            ends = sym (ap (λ (l : List KeyEntry). key_after l most (node_in words).high) (sym whole)
                ∙ ap (λ (m : ℕ). key_after (shown ++ ((key, value) ∷ drop (i + 1) entries)) m (node_in words).high) (sym long)
                ∙ after_front shown (drop (i + 1) entries) (key, value) (node_in words).high);
          }

    -- no entry is left
    pub showing_ends : (most : ℕ) (bound : Option (List ℕ)) → count ≤ i → length shown ≤ most → bound ≡ (node_in words).high
        → (low high : ℕ) → Rises low high (pairs_of bytes words) → IsKeyWindow (node_in words) start most shown bound
    showing_ends most bound past few fence low high rises =
        let whole : shown ≡ entries_from start entries = sym (append-nil shown)
        ∙ ap (λ (l : List KeyEntry). shown ++ l) (sym (drop_all i entries (let all = is.all in omega (arith, past, all))))
        ∙ is.whole low high rises in
        record {
          shows = sym (ap (take most) (sym whole) ∙ take_all most shown few);
          ends = fence ∙ sym (ap (λ (l : List KeyEntry). key_after l most (node_in words).high) (sym whole)
              ∙ after_whole shown most (node_in words).high few);
        }
