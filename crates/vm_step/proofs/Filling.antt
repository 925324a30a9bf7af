-- Stores of a page's words into a frame of the pass, one after the other: they change the words of that frame alone,
-- and after as many as a page has
-- these are the page's.
use Rattle.std.proofs.lemmas.List.{length-append, take_all}
use Rattle.vm_rule.specs.declared.view.WordPlace.TheVariants as places
use Rattle.vm_step.proofs.{Evidenced.written-behind, Leaves.works-none, Leaves.works-one, Leaves.works-then}
use Rattle.vm_step.proofs.Prelude.{[], ap, append_assoc, arith, contents_at, Did, did_store, FillTold, HasWritten}
use Rattle.vm_step.proofs.Prelude.{length, List, put, put_at, refl, rules, slice_index, slice_set, Stores, subst, suc}
use Rattle.vm_step.proofs.Prelude.{sym, take, upd-same, View, Works, zero, ℕ, ◌++◌, ◌+◌, ◌<◌, ◌∙◌, ◌∷◌, ◌≡◌, ◌≤◌}

-- ---- words written over others, from the i-th on

unfoldable written : ℕ → List ℕ → List ℕ → List ℕ
written i [] l = l
written i (x ∷ xs) l = written (i + 1) xs (slice_set l i x)

set-behind : (a : List ℕ) (y : ℕ) (b : List ℕ) (x : ℕ) → slice_set (a ++ y ∷ b) (length a) x ≡ a ++ x ∷ b
set-behind [] y b x = refl
set-behind (z ∷ a) y b x = ap (λ (t : List ℕ). z ∷ t) (set-behind a y b x)

written-over : (i : ℕ) (xs a b : List ℕ) → length a ≡ i → length b ≡ length xs → written i xs (a ++ b) ≡ a ++ xs
unfolding written
written-over i [] a [] la lb = refl
written-over i [] a (y ∷ b) la lb = absurd (omega (arith, lb))
written-over i (x ∷ xs) a [] la lb = absurd (omega (arith, lb))
written-over i (x ∷ xs) a (y ∷ b) la lb =
    let here : slice_set (a ++ y ∷ b) i x ≡ (a ++ x ∷ []) ++ b =
    subst (λ (n : ℕ). slice_set (a ++ y ∷ b) n x ≡ (a ++ x ∷ []) ++ b) la
    (set-behind a y b x ∙ sym (append_assoc a (x ∷ []) b)) in
    let long : length (a ++ x ∷ []) ≡ i + 1 = length-append a (x ∷ []) ∙ ap (λ (n : ℕ). n + 1) la in
    ap (written (i + 1) xs) here ∙ written-over (i + 1) xs (a ++ x ∷ []) b long (omega (arith, lb)) ∙ append_assoc a (x ∷ []) xs

-- ---- the steps

abbrev pub stores-did : ℕ → ℕ → List ℕ → List Did
stores-did f i [] = []
stores-did f i (x ∷ xs) = did_store (places.Content f i) x ∷ stores-did f (i + 1) xs

module _ {X : Type 0} (f : ℕ) where
  -- one store more
  pub stores-more : (i : ℕ) (xs : List ℕ) (x : ℕ) (u v w : View X) → Stores f i xs u v
      → FillTold f (i + length xs) x v w → Stores f i (xs ++ x ∷ []) u w
  stores-more i [] x u v w s t =
      let here : i + 0 ≡ i = omega arith in
      (w, subst (λ (n : ℕ). FillTold f n x u w) here (subst (λ (y : View X). FillTold f (i + 0) x y w) s t), refl)
  stores-more i (y ∷ ys) x u v w s t =
      let moved : i + length (y ∷ ys) ≡ i + 1 + length ys = omega arith in
      (s.0, s.1, stores-more (i + 1) ys x s.0 v w s.2 (subst (λ (n : ℕ). FillTold f n x v w) moved t))

  -- of page p and of all else the pass knows what it knew
  pub record Fills (p : ℕ) (done : List Did) (v w : View X) : Type 0 where
    pub works : Works p done v w
    pub held : w.held ≡ v.held
    pub frames : w.frames ≡ v.frames
    pub out : w.out ≡ v.out
    pub notes : w.notes ≡ v.notes

  pub fills : (p i : ℕ) (xs : List ℕ) (v w : View X) → Stores f i xs v w → Fills p (stores-did f i xs) v w
  fills p i [] v w s = subst (λ (y : View X). Fills p [] v y) (sym s) record {
    works = works-none p v;
    held = refl;
    frames = refl;
    out = refl;
    notes = refl;
  }
  fills p i (x ∷ xs) v w s =
      let b = s.1.brings in
      let rest : Fills p (stores-did f (i + 1) xs) s.0 w = fills p (i + 1) xs s.0 w s.2 in
      let one : Works p (did_store (places.Content f i) x ∷ []) v s.0 = works-one p (did_store (places.Content f i) x)
      _ v v.held v.frames (put f (slice_set (contents_at v f) i x) v.contents) v.out v.notes s.0 (λ q ne. refl)
      b in
      search (
        rules,
        works-then p (did_store (places.Content f i) x ∷ []) (stores-did f (i + 1) xs) v s.0 w one rest.works,
        rest.held ∙ ap (λ (y : View X). y.held) b.view,
        rest.frames ∙ ap (λ (y : View X). y.frames) b.view,
        rest.out ∙ ap (λ (y : View X). y.out) b.view,
        rest.notes ∙ ap (λ (y : View X). y.notes) b.view,
      )

  fills-contents : (i : ℕ) (xs : List ℕ) (v w : View X) → Stores f i xs v w
      → contents_at w f ≡ written i xs (contents_at v f)
  unfolding written
  fills-contents i [] v w s = ap (λ (y : View X). contents_at y f) s
  fills-contents i (x ∷ xs) v w s =
      let t : FillTold f i x v s.0 = s.1 in
      let here : contents_at s.0 f ≡ slice_set (contents_at v f) i x
      = ap (λ (y : View X). contents_at y f) t.brings.view ∙ upd-same (put_at [] v.contents) f (slice_set (contents_at v f) i x) in
      fills-contents (i + 1) xs s.0 w s.2 ∙ ap (written (i + 1) xs) here

  -- the frame has a page's words from the first store on
  fills-size : (xs : List ℕ) (v w : View X) → 0 < length xs → Stores f 0 xs v w
      → length (contents_at v f) ≡ v.start.size
  fills-size [] v w some s = absurd (omega (arith, some))
  fills-size (x ∷ xs) v w some s = let t : FillTold f 0 x v s.0 = s.1 in t.size

  pub filled : (xs : List ℕ) (v w : View X) → length xs ≡ v.start.size → 0 < length xs → Stores f 0 xs v w
      → contents_at w f ≡ xs
  filled xs v w long some s =
      fills-contents 0 xs v w s ∙ (written-over 0 xs [] (contents_at v f) refl (fills-size xs v w some s ∙ sym long))

-- each word was stored
stored-at : (f i : ℕ) (xs : List ℕ) (k : ℕ) → k < length xs
    → HasWritten (stores-did f i xs) (places.Content f (i + k)) (slice_index xs k)
stored-at f i [] k l = absurd (omega (arith, l))
stored-at f i (x ∷ xs) zero l =
    let here : i ≡ i + 0 = omega arith in
    record {
      earlier = [];
      step = did_store (places.Content f i) x;
      later = stores-did f (i + 1) xs;
      cut = refl;
      place = ap (λ (n : ℕ). places.Content f n) here;
      wrote = refl;
    }
stored-at f i (x ∷ xs) (suc k) l =
    let moved : i + 1 + k ≡ i + suc k = omega arith in
    subst (λ (n : ℕ). HasWritten (stores-did f i (x ∷ xs)) (places.Content f n) (slice_index xs k)) moved
    (written-behind (did_store (places.Content f i) x ∷ []) (stores-did f (i + 1) xs) (places.Content f (i + 1 + k))
    (slice_index xs k) (stored-at f (i + 1) xs k (omega (arith, l))))

pub all-stored : (f : ℕ) (xs : List ℕ) (k : ℕ) → k < length xs
    → HasWritten (stores-did f 0 xs) (places.Content f k) (slice_index xs k)
all-stored f xs k l =
    subst (λ (n : ℕ). HasWritten (stores-did f 0 xs) (places.Content f n) (slice_index xs k)) (omega arith) (stored-at f 0 xs k l)

-- past the last word all of them were stored
pub stored-whole : {X : Type 0} (f n : ℕ) (xs : List ℕ) (v w : View X) → length xs ≤ n → Stores f 0 (take n xs) v w
    → Stores f 0 xs v w
stored-whole f n xs v w below s = subst (λ (l : List ℕ). Stores f 0 l v w) (take_all n xs below) s
