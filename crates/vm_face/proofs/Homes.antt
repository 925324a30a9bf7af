-- Ways back: how many hands are out, under which numbers, as one goes back or stays out.
use Rattle.std.proofs.Common.{[], ◌++◌, ◌+◌, ◌<◌, ◌∙◌, ◌∷◌, ◌≡◌, ap, arith, Bool, drop, get_or, length, length-append, List, map, refl}
use Rattle.std.proofs.Common.{subst, suc, sym, take, ℕ}
use Rattle.std.proofs.Math.Seq.{drop-cons}
use Rattle.std.proofs.lemmas.List.{length-map, map-append, take-append-drop}
use Rattle.std.proofs.lemmas.List.Edits.{length-remove}
use Rattle.std.specs.List.{remove}
use Rattle.atomic_table.specs.declared.badge.Badge.{Badge}
use Rattle.vm_rule.specs.{declared.words.Pass.Pass, declared.words.Words.Words, Prelude.Each, Prelude.times}
use Rattle.vm_rule.proofs.Heard.{times-joined}
use Rattle.vm_step.specs.Prelude.{View}
use Rattle.vm_face.specs.{Given.IsBackIn, Homes.AreBackIn, Homes.HasTakenIn, Passes.hand_number, Passes.IsStore, Passes.IsStoreOn}

each-parts : {X : Type 0} (P : X → Type 0) (xs ys : List X) → Each P (xs ++ ys) → Each P xs × Each P ys
each-parts P [] ys each = (tt, each)
each-parts P (x ∷ xs) ys each = let rest = each-parts P xs ys each.1 in ((each.0, rest.0), rest.1)

each-append : {X : Type 0} (P : X → Type 0) (xs ys : List X) → Each P xs → Each P ys → Each P (xs ++ ys)
each-append P [] ys first then = then
each-append P (x ∷ xs) ys first then = (first.0, each-append P xs ys first.1 then)

module _ {T : Type 0} (xs : List T) (i : ℕ) (x : T) (lt : i < length xs) (is : x ≡ get_or xs i x) where
  module _ {Y : Type 0} (f : T → Y) where
    -- the list is what stands before the place, what stands there, and what stands behind
    mapped : map f xs ≡ map f (take i xs) ++ f x ∷ map f (drop (suc i) xs)
    mapped =
        let parted : xs ≡ take i xs ++ x ∷ drop (suc i) xs =
        sym (take-append-drop i xs)
        ∙ ap (λ (l : List T). take i xs ++ l) (drop-cons xs i x lt ∙ ap (λ (y : T). y ∷ drop (suc i) xs) (sym is)) in
        ap (λ (l : List T). map f l) parted ∙ map-append f (take i xs) (x ∷ drop (suc i) xs)

    without : map f (remove xs i) ≡ map f (take i xs) ++ map f (drop (suc i) xs)
    without = map-append f (take i xs) (drop (suc i) xs)

    all-without : (P : Y → Type 0) → Each P (map f xs) → P (f x) × Each P (map f (remove xs i))
    all-without P all =
        let parts = each-parts P (map f (take i xs)) (f x ∷ map f (drop (suc i) xs)) (subst (Each P) mapped all) in
        (parts.1.0, subst (Each P) (sym without) (each-append P (map f (take i xs)) (map f (drop (suc i) xs)) parts.0 parts.1.1))

    long-without : length (map f xs) ≡ length (map f (remove xs i)) + 1
    long-without = omega (arith, length-map xs f, length-map (remove xs i) f, length-remove xs i lt)

  times-without : (f : T → ℕ) (k : ℕ) → times k (map f xs) ≡ times k (map f (remove xs i)) + times k (f x ∷ [])
  times-without f k =
      let before = map f (take i xs) in
      let behind = map f (drop (suc i) xs) in
      let all : times k (map f xs) ≡ times k (before ++ f x ∷ behind) = ap (times k) (mapped f) in
      let rest : times k (map f (remove xs i)) ≡ times k (before ++ behind) = ap (times k) (without f) in
      omega (arith, all, rest, times-joined k before (f x ∷ behind), times-joined k before behind)

module _ {X : Type 0} where
  backs-then : (v x w : View X) (us ts : List (View X)) → AreBackIn v us x → AreBackIn x ts w → AreBackIn v (us ++ ts) w
  backs-then v x w [] ts is more = subst (λ (y : View X). AreBackIn y ts w) is more
  backs-then v x w (u ∷ us) ts back more = (back.0, back.1, backs-then back.0 x w us ts back.2 more)

  pub none-taken : (a : List ℕ) (v : View X) → HasTakenIn a a v v
  none-taken a v = record { back = []; each = refl; numbers = λ k. omega arith; count = omega arith }

  -- hands that go back, and then further ones
  pub taken-then : (a b c : List ℕ) (v x w : View X) → HasTakenIn a b v x → HasTakenIn b c x w → HasTakenIn a c v w
  taken-then a b c v x w first then =
      record {
        back = first.back ++ then.back;
        each = backs-then v x w first.back then.back first.each then.each;
        numbers = λ k.
            let joined : times k (map hand_number (first.back ++ then.back))
            ≡ times k (map hand_number first.back) + times k (map hand_number then.back) =
            ap (times k) (map-append hand_number first.back then.back)
            ∙ times-joined k (map hand_number first.back) (map hand_number then.back) in
            let one = first.numbers k in
            let two = then.numbers k in
            omega (arith, one, two, joined);
        count = (let one = first.count in let two = then.count in omega (arith, one, two, length-append first.back then.back));
      }

  module _ {T : Type 0} (f : T → ℕ) (xs ys : List T) (i : ℕ) (x : T) (lt : i < length xs) (is : x ≡ get_or xs i x) where
    -- the hand of one place went back
    pub one-taken : (v u w : View X) → ys ≡ remove xs i → IsBackIn v u w → hand_number u ≡ f x → HasTakenIn (map f xs) (map f ys) v w
    one-taken v u w rest back number =
        let now : map f ys ≡ map f (remove xs i) = ap (λ (l : List T). map f l) rest in
        let long : length (map f ys) ≡ length (map f (remove xs i)) = ap (λ (l : List ℕ). length l) now in
        record {
          back = u ∷ [];
          each = (w, back, refl);
          numbers = λ k.
              let less : times k (map f ys) ≡ times k (map f (remove xs i)) = ap (times k) now in
              let here : times k (hand_number u ∷ []) ≡ times k (f x ∷ []) = ap (λ n. times k (n ∷ [])) number in
              omega (arith, times-without xs i x lt is f k, less, here);
          count = omega (arith, long, long-without xs i x lt is f);
        }

    -- it is not back: its place is now the last one
    pub still-out : (y : T) (v : View X) → ys ≡ remove xs i ++ y ∷ [] → y ≡ x → HasTakenIn (map f xs) (map f ys) v v
    still-out y v rest same =
        let now : map f ys ≡ map f (remove xs i) ++ f x ∷ [] =
        ap (λ (l : List T). map f l) rest ∙ map-append f (remove xs i) (y ∷ []) ∙ ap (λ (z : T). map f (remove xs i) ++ f z ∷ []) same in
        let long : length (map f ys) ≡ length (map f (remove xs i) ++ f x ∷ []) = ap (λ (l : List ℕ). length l) now in
        record {
          back = [];
          each = refl;
          numbers = λ k.
              let all : times k (map f ys) ≡ times k (map f (remove xs i) ++ f x ∷ []) = ap (times k) now in
              omega (arith, times-without xs i x lt is f k, all, times-joined k (map f (remove xs i)) (f x ∷ []));
          count = omega (arith, long, long-without xs i x lt is f, length-append (map f (remove xs i)) (f x ∷ []));
        }

module _ {U B X T : Type 0} {o : _} (f : T → Badge (View X)) (tells : Bool) where
  -- as many hands are out as there are ways back
  pub on-of : (w : Words U B X o) (p : Pass U X o) (xs : List T) (ever : ℕ) → IsStore w tells p (map f xs) ever
      → IsStoreOn w tells p (length xs) ever
  on-of w p xs ever store = subst (λ n. IsStoreOn w tells p n ever) (length-map xs f) store.on

  pub store-with : (w : Words U B X o) (p : Pass U X o) (xs : List T) (ever : ℕ) → IsStoreOn w tells p (length xs) ever
      → Each (λ (k : Badge (View X)). k.table_id ≡ w.table.shared.table_id) (map f xs) → IsStore w tells p (map f xs) ever
  store-with w p xs ever on ways =
      record { on = subst (λ n. IsStoreOn w tells p n ever) (sym (length-map xs f)) on; ways = ways }

  -- one hand more is out, whose way back is of this table
  pub store-more : (w : Words U B X o) (p q : Pass U X o) (xs ys : List T) (y : T) (before after : ℕ) → IsStore w tells p (map f xs) before
      → ys ≡ xs ++ y ∷ [] → (f y).table_id ≡ w.table.shared.table_id → IsStoreOn w tells q (length xs + 1) after
      → IsStore w tells q (map f ys) after
  store-more w p q xs ys y before after store more of on =
      let P = λ (k : Badge (View X)). k.table_id ≡ w.table.shared.table_id in
      subst (λ (l : List T). IsStore w tells q (map f l) after) (sym more)
      (store-with w q (xs ++ y ∷ []) after (subst (λ n. IsStoreOn w tells q n after) (sym (length-append xs (y ∷ []))) on)
      (subst (Each P) (sym (map-append f xs (y ∷ []))) (each-append P (map f xs) (f y ∷ []) store.ways (of, tt))))

  module _ (xs ys : List T) (i : ℕ) (x : T) (lt : i < length xs) (is : x ≡ get_or xs i x) where
    -- the place of one is not the store's any more
    pub way-of : (w : Words U B X o) (p : Pass U X o) (ever : ℕ) → IsStore w tells p (map f xs) ever
        → (f x).table_id ≡ w.table.shared.table_id
    way-of w p ever store = (all-without xs i x lt is f (λ (k : Badge (View X)). k.table_id ≡ w.table.shared.table_id) store.ways).0

    pub on-without : (w : Words U B X o) (p : Pass U X o) (ever : ℕ) → ys ≡ remove xs i → IsStore w tells p (map f xs) ever
        → IsStoreOn w tells p (length ys + 1) ever
    on-without w p ever rest store =
        let less : length ys ≡ length (remove xs i) = ap (λ (l : List T). length l) rest in
        subst (λ n. IsStoreOn w tells p n ever) (omega (arith, less, length-remove xs i lt)) (on-of w p xs ever store)

    pub store-without : (w v : Words U B X o) (p q : Pass U X o) (before after : ℕ) → v ≡ w → ys ≡ remove xs i
        → IsStore w tells p (map f xs) before → IsStoreOn v tells q (length ys) after → IsStore v tells q (map f ys) after
    store-without w v p q before after same rest store on =
        let P = λ (u : Words U B X o) (k : Badge (View X)). k.table_id ≡ u.table.shared.table_id in
        store-with v q ys after on
        (subst (λ (u : Words U B X o). Each (P u) (map f ys)) (sym same)
        (subst (λ (l : List T). Each (P w) (map f l)) (sym rest) (all-without xs i x lt is f (P w) store.ways).1))

    pub store-still : (w : Words U B X o) (p : Pass U X o) (y : T) (ever : ℕ) → ys ≡ remove xs i ++ y ∷ [] → y ≡ x
        → IsStore w tells p (map f xs) ever → IsStore w tells p (map f ys) ever
    store-still w p y ever rest same store =
        let P = λ (k : Badge (View X)). k.table_id ≡ w.table.shared.table_id in
        let all = all-without xs i x lt is f P store.ways in
        let long : length ys ≡ length (remove xs i ++ y ∷ []) = ap (λ (l : List T). length l) rest in
        store-with w p ys ever
        (subst (λ n. IsStoreOn w tells p n ever) (omega (arith, long, length-append (remove xs i) (y ∷ []), length-remove xs i lt))
        (on-of w p xs ever store))
        (subst (λ (l : List T). Each P (map f l)) (sym rest)
        (subst (Each P) (sym (map-append f (remove xs i) (y ∷ [])))
        (each-append P (map f (remove xs i)) (f y ∷ []) all.1 (subst (λ (z : T). P (f z)) (sym same) all.0, tt))))
