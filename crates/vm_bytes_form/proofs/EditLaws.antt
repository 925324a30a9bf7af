-- The words of an edited node are those of a clean page, whose node over ranks is the edit of the old one.
use Rattle.std.proofs.Common.{◌≡◌, inl, inr, ℕ, zero, suc, ◌+◌, ◌<◌, ◌≤◌, List, [], ◌∷◌, length, get_or, take, drop, Option, Some, None}
use Rattle.std.proofs.Common.{Bool, true, false, eqb, ltb, leb, if◌then◌else◌, refl, sym, ap, subst, ◌∙◌, arith}
use Rattle.std.proofs.lemmas.Bool.{cases_eq, cases_lt, and_parts, and_from, le-leb, lt-ltb, ne_eqb, eq-eqb}
use Rattle.std.proofs.lemmas.Bool.Decides.{nat_tests}
use Rattle.std.proofs.lemmas.List.{drop-map, length-map, take-map}
use Rattle.vm_map.specs.Map.{Pairs, Rises, lookup_at, put_pair, del_pair}
use Rattle.vm_map.proofs.MapLemmas.{lookup-below}
use Rattle.vm_tree_model.specs.Layout.{IsClean, IsFullNode, PaysForSplit, left_part, right_part, pairs_size, size}
use Rattle.vm_tree_model.specs.Node.{Node}
use Rattle.vm_tree_model.specs.Page.{pairs_of}
use Rattle.vm_tree_model.specs.Edits.{AddsPair, TakesPair, IsSplit, IsNewRoot, IsFullFor}
use Rattle.vm_bytes_form.specs.Strings.{before, AreBytes, IsString, rank, rank_in}
use Rattle.vm_bytes_form.specs.Cuts.{pair_size}
use Rattle.vm_bytes_form.specs.Forms.{KeyEntry, ByteNode, room_taken, form_of, node_in, AreKeys, IsFitting}
use Rattle.vm_bytes_form.specs.Bytes.{high_rank, ranked_entry, ranked, same_words, are_bytes, is_string, is_high, are_keys, is_fitting}
use Rattle.vm_bytes_form.specs.Bytes.{bytes}
use Rattle.vm_bytes_form.specs.KeyMap.{put_key, del_key, ranks_of}
use Rattle.vm_bytes_form.specs.NodeEdits.{put_in, del_in, kept_at_split, lower_half, upper_half, root_over}
use Rattle.vm_bytes_form.proofs.RoundTrip.{read_back}
use Rattle.vm_bytes_form.proofs.BytesLaws.{fitting-tells, same-tells, size-taken, bytes_is_layout}
use Rattle.vm_bytes_form.proofs.KeyMaps.{same-refl, put_is, del_is}

-- what passes the tests of a node that fits
are_bytes-from : (s : List ℕ) → AreBytes s → are_bytes s ≡ true
are_bytes-from [] is = refl
are_bytes-from (b ∷ s) is = and_from (ltb b 256) (are_bytes s) (lt-ltb b 256 is.0) (are_bytes-from s is.1)

is_string-from : (s : List ℕ) → IsString 64 s → is_string s ≡ true
is_string-from s is = and_from (leb (length s) 64) (are_bytes s) (le-leb (length s) 64 is.fits) (are_bytes-from s is.bytes)

are_keys-from : (es : List KeyEntry) → AreKeys es → are_keys es ≡ true
are_keys-from [] keys = refl
are_keys-from (e ∷ es) keys = and_from (is_string e.0) (are_keys es) (is_string-from e.0 keys.0) (are_keys-from es keys.1)

is_high-from : (high : Option (List ℕ)) → ((s : List ℕ) → high ≡ Some s → IsString 64 s × (1 ≤ length s)) → is_high high ≡ true
is_high-from None each = refl
is_high-from (Some s) each = let is = each s refl in and_from (is_string s) (leb 1 (length s)) (is_string-from s is.0)
    (le-leb 1 (length s) is.1)

fitting-from : (n : ByteNode) → IsFitting 512 n → is_fitting n ≡ true
fitting-from n is = and_from _ _ (and_from _ _ (and_from _ _ (le-leb (8 + room_taken n) 512 is.room) (is_string-from n.low is.low))
    (is_high-from n.high is.high)) (are_keys-from n.entries is.keys)

-- the words of a node that fits are clean, and clean words are those of their node
pub form_clean : (n : ByteNode) → IsFitting 512 n → IsClean bytes (form_of 512 n)
form_clean n fits =
    let back = read_back 512 n fits in
    and_from (is_fitting (node_in (form_of 512 n))) _ (ap is_fitting back ∙ fitting-from n fits)
    (ap (λ (m : ByteNode). same_words (form_of 512 n) (form_of 512 m)) back ∙ same-refl (form_of 512 n))

pub clean_fitting : (w : List ℕ) → IsClean bytes w → IsFitting 512 (node_in w)
clean_fitting w clean = fitting-tells (node_in w) (and_parts (is_fitting (node_in w)) (same_words w (form_of 512 (node_in w))) clean).0

pub clean_is_form : (w : List ℕ) → IsClean bytes w → w ≡ form_of 512 (node_in w)
clean_is_form w clean = same-tells w (form_of 512 (node_in w))
    (and_parts (is_fitting (node_in w)) (same_words w (form_of 512 (node_in w))) clean).1

-- the entries of an edit have keys too
AreKeys-put : (es : List KeyEntry) (s : List ℕ) (v : ℕ) → AreKeys es → IsString 64 s → AreKeys (put_key es s v)
AreKeys-put [] s v keys is = (is, tt)
AreKeys-put (e ∷ es) s v keys is = go (AreKeys-put es s v keys.1 is) (before s e.0) (same_words s e.0)
  where
    go : AreKeys (put_key es s v) → (less same : Bool)
        → AreKeys (if less then (s, v) ∷ e ∷ es else (if same then (s, v) ∷ es else e ∷ put_key es s v))
    go rest true same = (is, keys)
    go rest false true = (is, keys.1)
    go rest false false = (keys.0, rest)

AreKeys-del : (es : List KeyEntry) (s : List ℕ) → AreKeys es → AreKeys (del_key es s)
AreKeys-del [] s keys = tt
AreKeys-del (e ∷ es) s keys = go (AreKeys-del es s keys.1) (same_words s e.0)
  where
    go : AreKeys (del_key es s) → (same : Bool) → AreKeys (if same then es else e ∷ del_key es s)
    go rest true = keys.1
    go rest false = (keys.0, rest)

AreKeys-take : (n : ℕ) (es : List KeyEntry) → AreKeys es → AreKeys (take n es)
AreKeys-take zero es keys = tt
AreKeys-take (suc n) [] keys = tt
AreKeys-take (suc n) (e ∷ es) keys = (keys.0, AreKeys-take n es keys.1)

AreKeys-drop : (n : ℕ) (es : List KeyEntry) → AreKeys es → AreKeys (drop n es)
AreKeys-drop zero es keys = keys
AreKeys-drop (suc n) [] keys = tt
AreKeys-drop (suc n) (e ∷ es) keys = AreKeys-drop n es keys.1

-- what the pairs take after an edit
size-put : (each : ℕ → ℕ) (es : Pairs) (k v : ℕ) → pairs_size each (put_pair es k v) ≤ pairs_size each es + each k
size-put each [] k v = omega arith
size-put each (e ∷ es) k v = go (size-put each es k v) (ltb k e.0) (eqb k e.0)
  where
    go : pairs_size each (put_pair es k v) ≤ pairs_size each es + each k → (less same : Bool)
        → pairs_size each (if less then (k, v) ∷ e ∷ es else (if same then (k, v) ∷ es else e ∷ put_pair es k v)) ≤ each e.0 + pairs_size
        each es + each k
    go rest true same = omega arith
    go rest false true = omega arith
    go rest false false = omega (arith, rest)

size-put_there : (each : ℕ → ℕ) (es : Pairs) (low high k v w : ℕ) → Rises low high es → lookup_at es k ≡ Some w
    → pairs_size each (put_pair es k v) ≡ pairs_size each es
size-put_there each [] low high k v w rises there = absurd (cc)
size-put_there each (e ∷ es) low high k v w rises there = elim (cases_eq k e.0) [
  | inl same ↦
      let not_less : ltb k e.0 ≡ false = grind (arith, nat_tests, same) in
      rw (not_less, eq-eqb k e.0 same) (ap (λ (x : ℕ). each x + pairs_size each es) same)
  | inr other ↦
      let there' : lookup_at es k ≡ Some w = (rw (ne_eqb k e.0 other) at there) in
      elim (cases_lt k e.0) [
        | inl less ↦ absurd (let none = lookup-below es (e.0 + 1) high k rises.2 (omega (arith, less)) in cc)
        | inr from ↦
            let not_less : ltb k e.0 ≡ false = grind (arith, nat_tests, from) in
            rw (not_less, ne_eqb k e.0 other) (ap (λ (x : ℕ). each e.0 + x) (size-put_there each es (e.0 + 1) high k v w rises.2 there'))
      ]
]

size-del : (each : ℕ → ℕ) (es : Pairs) (k : ℕ) → pairs_size each (del_pair es k) ≤ pairs_size each es
size-del each [] k = omega arith
size-del each (e ∷ es) k = go (size-del each es k) (eqb k e.0)
  where
    go : pairs_size each (del_pair es k) ≤ pairs_size each es → (same : Bool)
        → pairs_size each (if same then es else e ∷ del_pair es k) ≤ each e.0 + pairs_size each es
    go rest true = omega arith
    go rest false = omega (arith, rest)

pub ranks-at : (i : ℕ) (es : List KeyEntry) → i < length es → (get_or (ranks_of es) i (0, 0)).0 ≡ rank (get_or es i ([], 0)).0
ranks-at i [] lt = absurd (omega (arith, lt))
ranks-at zero (e ∷ es) lt = refl
ranks-at (suc i) (e ∷ es) lt = ranks-at i es (omega (arith, lt))

-- a node that fits where its size does
fits_by_size : (n : ByteNode) → IsString 64 n.low → ((s : List ℕ) → n.high ≡ Some s → IsString 64 s × (1 ≤ length s)) → AreKeys n.entries
    → size bytes (ranked n) ≤ 504 → IsFitting 512 n
fits_by_size n low high keys le = record { room = omega (arith, size-taken n low high keys, le); low = low; high = high; keys = keys }

module _ (old : List ℕ) (clean : IsClean bytes old) where
  abbrev n : ByteNode
  n = node_in old

  is : IsFitting 512 n
  is = clean_fitting old clean

  room : size bytes (ranked n) ≤ 504
  room = bytes_is_layout.clean_fits old clean

  -- a pair is put
  module _ (s : List ℕ) (v : ℕ) (key : IsString 64 s) where
    put-ranked : ranked (put_in n s v) ≡ record (ranked n) { pairs = put_pair (ranks_of n.entries) (rank s) v }
    put-ranked = let e = put_is n.entries s v is.keys key in λ i. record (ranked n) { pairs = sym e i }

    put-size : (low high : ℕ) → Rises low high (pairs_of bytes old) → ¬ (IsFullFor bytes old (rank s))
        → pairs_size pair_size (put_pair (ranks_of n.entries) (rank s) v) +
        (bytes.fence_size (rank n.low) + bytes.fence_size (high_rank n.high)) ≤ 504
    put-size low high rises roomy = go (lookup_at (ranks_of n.entries) (rank s)) refl
      where
        go : (found : Option ℕ) → lookup_at (ranks_of n.entries) (rank s) ≡ found
            → pairs_size pair_size (put_pair (ranks_of n.entries) (rank s) v) +
            (bytes.fence_size (rank n.low) + bytes.fence_size (high_rank n.high)) ≤ 504
        go None none = elim (cases_lt 504 (size bytes (ranked n) + pair_size (rank s))) [
          | inl more ↦ absurd (roomy (record { count = more; absent = none }))
          | inr fits ↦ omega (arith, fits, size-put pair_size (ranks_of n.entries) (rank s) v)
        ]
        go (Some w) some = omega (arith, room, size-put_there pair_size (ranks_of n.entries) low high (rank s) v w rises some)

    pub put-fits : (low high : ℕ) → Rises low high (pairs_of bytes old) → ¬ (IsFullFor bytes old (rank s)) → IsFitting 512 (put_in n s v)
    put-fits low high rises roomy = fits_by_size (put_in n s v) is.low is.high (AreKeys-put n.entries s v is.keys key)
        (let le = put-size low high rises roomy in let same = ap (λ (m : Node). pairs_size pair_size m.pairs) put-ranked in
        omega (arith, le, same))

    pub adds : (low high : ℕ) → Rises low high (pairs_of bytes old) → ¬ (IsFullFor bytes old (rank s))
        → AddsPair bytes old (form_of 512 (put_in n s v)) (rank s) v
    adds low high rises roomy =
        let fits = put-fits low high rises roomy in
        record {
          not_full = roomy;
          node = ap ranked (read_back 512 (put_in n s v) fits) ∙ put-ranked;
          clean = λ _. form_clean (put_in n s v) fits;
        }

  -- a pair is taken out
  module _ (s : List ℕ) (key : IsString 64 s) where
    del-ranked : ranked (del_in n s) ≡ record (ranked n) { pairs = del_pair (ranks_of n.entries) (rank s) }
    del-ranked = let e = del_is n.entries s is.keys key in λ i. record (ranked n) { pairs = sym e i }

    pub del-fits : IsFitting 512 (del_in n s)
    del-fits = fits_by_size (del_in n s) is.low is.high (AreKeys-del n.entries s is.keys)
        (let same = ap (λ (m : Node). pairs_size pair_size m.pairs) del-ranked in
        omega (arith, room, same, size-del pair_size (ranks_of n.entries) (rank s)))

    pub takes : TakesPair bytes old (form_of 512 (del_in n s)) (rank s)
    takes = record {
      node = ap ranked (read_back 512 (del_in n s) del-fits) ∙ del-ranked;
      clean = λ _. form_clean (del_in n s) del-fits;
    }

  -- a node without room is cut in two
  module _ (full : IsFullNode bytes (ranked n)) (s : List ℕ) (separates : (get_or n.entries (kept_at_split n.entries) ([], 0)).0 ≡ s)
      (some : 1 ≤ length s) where
    paid : PaysForSplit bytes (ranked n) (rank s)
    paid = bytes_is_layout.splits (ranked n) (rank s) room full

    inside : kept_at_split n.entries < length n.entries
    inside = let lt = paid.right_some in omega (arith, lt, length-map n.entries ranked_entry)

    key_of : (i : ℕ) (es : List KeyEntry) → i < length es → AreKeys es → IsString 64 (get_or es i ([], 0)).0
    key_of i [] lt keys = absurd (omega (arith, lt))
    key_of zero (e ∷ es) lt keys = keys.0
    key_of (suc i) (e ∷ es) lt keys = key_of i es (omega (arith, lt)) keys.1

    separator_is : IsString 64 s
    separator_is = subst (IsString 64) separates (key_of (kept_at_split n.entries) n.entries inside is.keys)

    lower-ranked : ranked (lower_half n s) ≡ left_part bytes (ranked n) (rank s)
    lower-ranked = let e = sym (take-map ranked_entry (kept_at_split n.entries) n.entries) in
        λ i. record (ranked n) { high = rank s; pairs = e i }

    upper-ranked : ranked (upper_half n s) ≡ right_part bytes (ranked n) (rank s)
    upper-ranked = let e = sym (drop-map ranked_entry (kept_at_split n.entries) n.entries) in
        λ i. record (ranked n) { low = rank s; pairs = e i }

    high_is : (t : List ℕ) → Some s ≡ Some t → IsString 64 t × (1 ≤ length t)
    high_is t e = let same : s ≡ t = cc in rw (← same) (separator_is, some)

    pub lower-fits : IsFitting 512 (lower_half n s)
    lower-fits = fits_by_size (lower_half n s) is.low high_is (AreKeys-take (kept_at_split n.entries) n.entries is.keys)
        (let le = paid.left_fits in let same = ap (size bytes) lower-ranked in omega (arith, le, same))

    pub upper-fits : IsFitting 512 (upper_half n s)
    upper-fits = fits_by_size (upper_half n s) separator_is is.high (AreKeys-drop (kept_at_split n.entries) n.entries is.keys)
        (let le = paid.right_fits in let same = ap (size bytes) upper-ranked in omega (arith, le, same))

    pub splits_in_two : IsSplit bytes old (form_of 512 (lower_half n s)) (form_of 512 (upper_half n s)) (rank s)
    splits_in_two = record {
      separates = ranks-at (kept_at_split n.entries) n.entries inside ∙ ap rank separates;
      left_is = ap ranked (read_back 512 (lower_half n s) lower-fits) ∙ lower-ranked;
      right_is = ap ranked (read_back 512 (upper_half n s) upper-fits) ∙ upper-ranked;
      left_clean = λ _. form_clean (lower_half n s) lower-fits;
      right_clean = λ _. form_clean (upper_half n s) upper-fits;
    }

-- a root over two nodes
pub rank-nil : rank [] ≡ 0
unfolding rank_in
rank-nil = refl

module _ (level left : ℕ) (s : List ℕ) (right : ℕ) (key : IsString 64 s) where
  empty_is : IsString 64 []
  empty_is = record { fits = omega arith; bytes = tt }

  no_high : (t : List ℕ) → None ≡ Some t → IsString 64 t × (1 ≤ length t)
  no_high t e = absurd (cc)

  root-ranked : ranked (root_over level left s right)
      ≡ record { tag = 3; level = level; low = 0; high = bytes.key_end; pairs = (0, left) ∷ (rank s, right) ∷ [] }
  root-ranked = λ i. record {
    tag = 3;
    level = level;
    low = rank-nil i;
    high = bytes.key_end;
    pairs = (rank-nil i, left) ∷ (rank s, right)
        ∷ [];
  }

  pub root-fits : IsFitting 512 (root_over level left s right)
  root-fits = fits_by_size (root_over level left s right) empty_is no_high (empty_is, (key, tt))
      (let le = bytes_is_layout.new_root (rank s) in let same = ap (size bytes) root-ranked in omega (arith, le, same))

  pub root_grows : IsNewRoot bytes (form_of 512 (root_over level left s right)) level left (rank s) right
  root_grows = record {
    node = ap ranked (read_back 512 (root_over level left s right) root-fits)
        ∙ root-ranked;
    clean = form_clean (root_over level left s right) root-fits;
  }
