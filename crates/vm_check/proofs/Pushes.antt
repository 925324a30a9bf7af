-- A node's children go on the stack from right to left.
use Rattle.std.proofs.Common.{◌≡◌, ℕ, zero, suc, ◌<◌, ◌≤◌, List, [], ◌∷◌, ◌++◌, length, get_or, map, take, reverse, true}
use Rattle.std.proofs.Common.{◌&&◌, leb, ltb, refl, sym, arith, append_assoc}
use Rattle.std.proofs.lemmas.Bool.{and_parts, leb-true, ltb-true}
use Rattle.std.proofs.lemmas.List.{reverse-append}
use Rattle.vm_map.specs.Map.{Pairs}
use Rattle.vm_tree_model.specs.Walk.{Slot, first_key, children, names_pages}

first-take : (m : Pairs) (i high : ℕ) → i < length m → first_key (take (suc i) m) high ≡ first_key (take i m) (get_or m i (0, 0)).0
first-take [] i high lt = absurd (omega arith)
first-take (e ∷ es) zero high lt = refl
first-take (e ∷ es) (suc i) high lt = refl

children-take : (m : Pairs) (level i high : ℕ) → i < length m
    → children level (take (suc i) m) high ≡ children level (take i m) (get_or m i (0, 0)).0 ++ record {
      page = (get_or m i (0, 0)).1;
      level = level;
      low = (get_or m i (0, 0)).0;
      high = high;
    } ∷ []
children-take [] level i high lt = absurd (omega arith)
children-take (e ∷ es) level zero high lt = refl
children-take (e ∷ es) level (suc i) high lt =
    let first = first-take es i high (omega arith) in
    let rest = children-take es level i high (omega arith) in
    λ k. record { page = e.1; level = level; low = e.0; high = first k } ∷ rest k

-- one more child on the stack is one less to come
pub push_step : {A : Type 0} (slot : A → Slot) (m : Pairs) (level i j high : ℕ) (child : A) (items : List A) → j < length m → i ≡ suc j
    → slot child ≡ record { page = (get_or m j (0, 0)).1; level = level; low = (get_or m j (0, 0)).0; high = high }
    → children level (take j m) (get_or m j (0, 0)).0 ++ map slot (reverse (items ++ child ∷ []))
    ≡ children level (take i m) high ++ map slot (reverse items)
push_step slot m level i j high child items lt is child_is =
    let top : reverse (items ++ child ∷ []) ≡ child ∷ reverse items = reverse-append items (child ∷ []) in
    let s : Slot = record { page = (get_or m j (0, 0)).1; level = level; low = (get_or m j (0, 0)).0; high = high } in
    let back = append_assoc (children level (take j m) (get_or m j (0, 0)).0) (s ∷ []) (map slot (reverse items)) in
    rw (is, children-take m level j high lt, top, child_is) (sym back)

pub names_at : (m : Pairs) (pages i : ℕ) → names_pages pages m ≡ true → i < length m → (1 ≤ (get_or m i (0, 0)).1)
    × ((get_or m i (0, 0)).1 < pages)
names_at [] pages i is lt = absurd (omega arith)
names_at (e ∷ es) pages zero is lt =
    let (here, rest) = and_parts (leb 1 e.1 && ltb e.1 pages) (names_pages pages es) is in
    let (some, upto) = and_parts (leb 1 e.1) (ltb e.1 pages) here in
    (leb-true 1 e.1 some, ltb-true e.1 pages upto)
names_at (e ∷ es) pages (suc i) is lt =
    names_at es pages i (and_parts (leb 1 e.1 && ltb e.1 pages) (names_pages pages es) is).1 (omega arith)
