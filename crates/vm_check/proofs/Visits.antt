-- One visit of the walk: a fault ends it, and else it goes on.
use Rattle.std.proofs.Common.{◌≡◌, ℕ, zero, suc, ◌-◌, ◌<◌, ◌≢◌, inl, inr, List, [], ◌∷◌, ◌++◌, length, get_or, set}
use Rattle.std.proofs.Common.{Option, Some, None, Err, Bool, true, false, ◌&&◌, eqb, leb, ltb, refl, sym, ap, ◌∙◌}
use Rattle.std.proofs.Common.{arith, length-set}
use Rattle.std.proofs.lemmas.Bool.{cases_Bool, and_parts, eq-eqb, ne_eqb, ltb-true}
use Rattle.std.proofs.lemmas.Bool.Decides.{nat_tests}
use Rattle.std.proofs.lemmas.List.{get_or_read}
use Rattle.vm_map.specs.Map.{Pairs}
use Rattle.vm_tree_model.specs.Layout.{Layout}
use Rattle.vm_tree_model.specs.Page.{pairs_of}
use Rattle.vm_tree_model.specs.Tree.{page_at, leaf_part}
use Rattle.vm_tree_model.specs.Walk.{Slot, children, slots_below, slot_fault, names_pages}
use Rattle.vm_tree_model.specs.Reason.{walk, comes_to, unseen_pages}
use Rattle.vm_check.specs.Progress.{AllInside, IsGoing, IsNextVisit, WalkState}
use Rattle.vm_tree_model.proofs.Tests.{tests_tell, unseen_tells}
use Rattle.vm_tree_model.proofs.Complete.{unseen-less, fault_or-None}

-- the page's fault is the walk's
pub fault_stops : (L : Layout) (pages : List (List ℕ)) (s : Slot) (ss : List Slot) (visited : List Bool)
    (rows : Pairs) (why : ℕ) → s.page < length visited
    → slot_fault L (length pages) (get_or visited s.page false) s (page_at pages s.page) ≡ Some why
    → comes_to L pages (s ∷ ss) visited rows ≡ Err (s.page, why)
unfolding walk
fault_stops L pages s ss visited rows why inside fault = go (unseen_pages visited) refl
  where
    go : (left : ℕ) → unseen_pages visited ≡ left → walk L pages left (s ∷ ss) visited rows ≡ Err (s.page, why)
    go zero none = elim (cases_Bool (get_or visited s.page false)) [
      | inl seen ↦ (let three : Some 3 ≡ Some why = rw seen at fault in let number : 3 ≡ why = cc in ap (λ (n : ℕ). Err (s.page, n)) number)
      | inr unseen ↦ absurd (omega (arith, none, unseen-less visited s.page inside unseen))
    ]
    go (suc left) some = rw fault refl

-- where the page has none, the walk goes on
pub goes_on : (L : Layout) (pages : List (List ℕ)) (s : Slot) (ss : List Slot) (visited : List Bool) (rows : Pairs)
    → s.page < length visited
    → slot_fault L (length pages) (get_or visited s.page false) s (page_at pages s.page) ≡ None
    → comes_to L pages (s ∷ ss) visited rows ≡ comes_to L pages (slots_below L s (page_at pages s.page) ++ ss)
    (set visited s.page true) (rows ++ leaf_part L (page_at pages s.page))
unfolding walk
goes_on L pages s ss visited rows inside none =
    let unseen = (unseen_tells L (length pages) s (page_at pages s.page) (get_or visited s.page false) none).0 in
    let less : unseen_pages visited ≡ suc (unseen_pages (set visited s.page true)) =
    omega (arith, unseen-less visited s.page inside unseen) in
    rw less (fault_or-None s.page (slot_fault L (length pages) (get_or visited s.page false) s (page_at pages s.page)) _ none)

-- a page that passes at level 0 is a leaf with rows
pub leaf_passes : (L : Layout) (pages : ℕ) (visited : Bool) (s : Slot) (words : List ℕ)
    → slot_fault L pages visited s words ≡ None → s.level ≡ 0 → (slots_below L s words ≡ [])
    × (leaf_part L words ≡ pairs_of L words)
leaf_passes L pages visited s words none bottom =
    let tag = (tests_tell L pages visited s words none).0 in
    let is_zero = eq-eqb s.level 0 bottom in
    let is_two : eqb (L.node_of words).tag 2 ≡ true = rw is_zero at tag in
    (rw is_zero refl, rw is_two refl)

-- a page that passes above has children
pub inner_passes : (L : Layout) (pages : ℕ) (visited : Bool) (s : Slot) (words : List ℕ)
    → slot_fault L pages visited s words ≡ None → s.level ≢ 0
    → (slots_below L s words ≡ children (s.level - 1) (pairs_of L words) s.high) × (leaf_part L words ≡ [])
    × (names_pages pages (pairs_of L words) ≡ true)
inner_passes L pages visited s words none above =
    let tests = tests_tell L pages visited s words none in
    let no_zero = ne_eqb s.level 0 above in
    let is_three : eqb (L.node_of words).tag 3 ≡ true = rw no_zero at tests.0 in
    let names : names_pages pages (pairs_of L words) ≡ true = rw no_zero at tests.4 in
    (rw no_zero refl, grind (arith, nat_tests, is_three), names)

pub inside_children : (m : Pairs) (pages level high : ℕ) (ss : List Slot) → names_pages pages m ≡ true
    → AllInside pages ss → AllInside pages (children level m high ++ ss)
inside_children [] pages level high ss names rest = rest
inside_children (e ∷ es) pages level high ss names rest =
    let (here, more) = and_parts (leb 1 e.1 && ltb e.1 pages) (names_pages pages es) names in
    (ltb-true e.1 pages (and_parts (leb 1 e.1) (ltb e.1 pages) here).1, inside_children es pages level high ss more rest)

-- the fault that was found, of what was read
pub fault_read : (L : Layout) (pages : List (List ℕ)) (visited : List Bool) (s : Slot) (found : Option ℕ)
    (count p : ℕ) (flag : Bool) (words : List ℕ)
    → s.page < length visited → count ≡ length pages → p ≡ s.page → flag ≡ get_or visited p flag
    → words ≡ page_at pages s.page → found ≡ slot_fault L count flag s words
    → slot_fault L (length pages) (get_or visited s.page false) s (page_at pages s.page) ≡ found
fault_read L pages visited s found count p flag words inside count_is p_is flag_is words_is is =
    let read : flag ≡ get_or visited s.page false = get_or_read visited s.page flag inside (rw p_is at flag_is) false in
    sym (is ∙ (λ i. slot_fault L (count_is i) (read i) s (words_is i)))

-- a visit without a fault is one step further
pub next_visit : (L : Layout) (pages : List (List ℕ)) (s : Slot) (old new : WalkState) → IsGoing pages old → s.page < length pages
    → slot_fault L (length pages) (get_or old.visited s.page false) s (page_at pages s.page) ≡ None
    → new.visited ≡ set old.visited s.page true
    → new.slots ≡ slots_below L s (page_at pages s.page) ++ old.slots
    → new.rows ≡ old.rows ++ leaf_part L (page_at pages s.page)
    → AllInside (length pages) (slots_below L s (page_at pages s.page) ++ old.slots)
    → IsNextVisit L pages s old new
next_visit L pages s old new going within none visited slots rows all =
    let inside : s.page < length old.visited = rw going.flags within in
    let unseen = (unseen_tells L (length pages) s (page_at pages s.page) (get_or old.visited s.page false) none).0 in
    record {
      going = record { flags = rw visited (length-set old.visited s.page true ∙ going.flags); inside = rw slots all };
      same = rw (visited, slots, rows) (goes_on L pages s old.slots old.visited old.rows inside none);
      fewer = rw visited (omega (arith, unseen-less old.visited s.page inside unseen));
    }
