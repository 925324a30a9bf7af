-- Parts of a list of entries, and what they take of a node.
use Rattle.std.proofs.Common.{◌≡◌, ℕ, zero, suc, ◌+◌, ◌<◌, ◌≤◌, List, [], ◌∷◌, ◌++◌, length, get_or, take, drop, refl, sym, ap, subst, ◌∙◌}
use Rattle.std.proofs.Common.{arith, length-append}
use Rattle.std.proofs.lemmas.List.{append_assoc, append-nil, drop-append-le, length-take-le, take-append-drop, take-take, take_more}
use Rattle.vm_bytes_form.specs.Forms.{AreKeys, ByteNode, KeyEntry, IsFitting, entry_block, heap}
use Rattle.vm_bytes_edit.specs.Drafts.{entries_between, with_more}

pub between_more : (from i : ℕ) (es : List KeyEntry) → from ≤ i → i < length es
    → entries_between from (i + 1) es ≡ entries_between from i es ++ (get_or es i ([], 0) ∷ [])
between_more from i es begun inside =
    ap (drop from) (take_more es i ([], 0) inside)
    ∙ drop-append-le from (take i es) (get_or es i ([], 0) ∷ []) (omega (arith, begun, length-take-le i es (omega (arith, inside))))

pub between_split : (from i upto : ℕ) (es : List KeyEntry) → from ≤ i → i ≤ upto → i ≤ length es
    → entries_between from upto es ≡ entries_between from i es ++ entries_between i upto es
between_split from i upto es begun more inside =
    ap (drop from) (sym (take-append-drop i (take upto es))
    ∙ ap (λ (l : List KeyEntry). l ++ drop i (take upto es)) (take-take i upto es more))
    ∙ drop-append-le from (take i es) (drop i (take upto es)) (omega (arith, begun, length-take-le i es inside))

pub between_none : (from : ℕ) (es : List KeyEntry) → from ≤ length es → entries_between from from es ≡ []
between_none from es inside = go from es
  where
    go : (k : ℕ) (l : List KeyEntry) → drop k (take k l) ≡ []
    go zero l = refl
    go (suc k) [] = refl
    go (suc k) (e ∷ l) = go k l

heap-append : (es fs : List KeyEntry) → length (heap (es ++ fs)) ≡ length (heap es) + length (heap fs)
heap-append [] fs = omega arith
heap-append (e ∷ es) fs = omega (
  arith,
  heap-append es fs,
  length-append (heap (es ++ fs)) (entry_block e),
  length-append (heap es) (entry_block e),
)

AreKeys-first : (es fs : List KeyEntry) → AreKeys (es ++ fs) → AreKeys es
AreKeys-first [] fs keys = tt
AreKeys-first (e ∷ es) fs keys = (keys.0, AreKeys-first es fs keys.1)

-- a node with fewer pairs fits too
pub fits_first : (n : ByteNode) (xs ys : List KeyEntry) → IsFitting 512 (with_more n (xs ++ ys)) → IsFitting 512 (with_more n xs)
fits_first n xs ys fits =
    let parted = append_assoc n.entries xs ys in
    record {
      room = (let room = fits.room in omega (
        arith,
        room,
        length-append n.entries (xs ++ ys),
        length-append xs ys,
        length-append n.entries xs,
        heap-append n.entries (xs ++ ys),
        heap-append xs ys,
        heap-append n.entries xs,
      ));
      low = fits.low;
      high = fits.high;
      keys = AreKeys-first (n.entries ++ xs) ys (subst AreKeys (sym parted) fits.keys);
    }

pub with_both : (n : ByteNode) (xs ys : List KeyEntry) → with_more (with_more n xs) ys ≡ with_more n (xs ++ ys)
with_both n xs ys = let e = append_assoc n.entries xs ys in λ i. record n { entries = e i }

pub with_none : (n : ByteNode) → with_more n [] ≡ n
with_none n = let e = append-nil n.entries in λ i. record n { entries = e i }

-- the next entry comes
pub comes_next : (n : ByteNode) (from i upto : ℕ) (es : List KeyEntry) (key : List ℕ) (value : ℕ) → from ≤ i → i < upto → upto ≤ length es
    → (key ≡ (get_or es i ([], 0)).0) × (value ≡ (get_or es i ([], 0)).1)
    → with_more (with_more n (entries_between from i es)) ((key, value) ∷ []) ≡ with_more n (entries_between from (i + 1) es)
comes_next n from i upto es key value begun inside whole is =
    with_both n (entries_between from i es) ((key, value) ∷ [])
    ∙ ap (λ (l : List KeyEntry). with_more n l) (ap (λ (e : KeyEntry). entries_between from i es ++ (e ∷ [])) (λ j. (is.0 j, is.1 j))
    ∙ sym (between_more from i es begun (omega (arith, inside, whole))))

pub fits_next : (n : ByteNode) (from i upto : ℕ) (es : List KeyEntry) → from ≤ i → i < upto → upto ≤ length es
    → IsFitting 512 (with_more n (entries_between from upto es))
    → IsFitting 512 (with_more n (entries_between from (i + 1) es))
fits_next n from i upto es begun inside whole fits =
    fits_first n (entries_between from (i + 1) es) (entries_between (i + 1) upto es)
    (subst (λ (l : List KeyEntry). IsFitting 512 (with_more n l)) (between_split from (i + 1) upto es (omega (arith, begun))
    (omega (arith, inside)) (omega (arith, inside, whole))) fits)
